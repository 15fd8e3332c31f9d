-- Each turn goes on from where the last one ended.
use mathlib.Core.Path.{ap}
use borrow.Author.Rules.{rules}
use borrow.Author.Tests.{tests}
use Rattle.session.specs.Turns.{over}
use Rattle.session.proofs.Chains.{reached_first, reached_on}
use Rattle.console.proofs.serve.serve.Goals as goal

pub loop-init : goal.loop-init
loop-init c = (reached_first c.new-session.ensures.0 (search rules) c.new-session.ensures.1 c.clear.ensures, ap over c.new-session.ensures.1, c.new-session.ensures.0.valid)

pub returns-then-eq : goal.returns-then-eq
returns-then-eq c = reached_on c.loop.invariant.0 c.loop.invariant.1 c.read_wanted-count.ensures c.turn.ensures

pub loop-preserved : goal.loop-preserved
loop-preserved c = (
  reached_on c.loop.invariant.0 c.loop.invariant.1 c.read_wanted-count.ensures c.turn.ensures,
  search (rules, tests),
  c.turn.ensures.valid,
)
