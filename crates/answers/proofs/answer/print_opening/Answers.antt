-- `answers::print_opening` meets its contract: what is printed with nothing of a lent list reads the same with an empty one.
use mathlib.Core.List.{[]}
use Rattle.answers.proofs.answer.print_opening.Goals as goal

pub returns-in-Ok : goal.returns-in-Ok
returns-in-Ok g c = rw c.in-Ok.is (c.print_opened.ensures 0 [])

pub returns-in-Err : goal.returns-in-Err
returns-in-Err g c = rw c.in-Err.is (c.print_refused.ensures 0 [])
