-- `wall::print_wall` meets its contract, by what restore answers.
use mathlib.Core.Path.{◌∙◌}
use borrow.Author.Rules.{rules}
use Rattle.wall.proofs.Showing.{refused_shown, accepted_shown, restored_fits}
use Rattle.wall.proofs.show.print_wall.Goals as goal

pub returns-then-is_err : goal.returns-then-is_err
returns-then-is_err c = rw c.requires at c.print.ensures ∙ refused_shown c.restore-restored.ensures (search rules)

pub invariant_of-listing : goal.invariant_of-listing
invariant_of-listing c = record { fits = restored_fits c.restore-restored.ensures }

pub returns-else-is_err : goal.returns-else-is_err
returns-else-is_err c = rw c.requires at c.print_pages.ensures ∙ accepted_shown c.restore-restored.ensures _ (search rules) (search)
