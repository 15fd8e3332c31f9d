-- `answers::print_told` meets its contract: a report is printed whatever was asked, and a plan whatever was lent.
use Rattle.answers.proofs.answer.print_told.Goals as goal

pub returns-in-Moved : goal.returns-in-Moved
returns-in-Moved g c = rw c.in-Moved.is (c.print_moved.ensures c.args.asked)

pub returns-in-Planned : goal.returns-in-Planned
returns-in-Planned g c = rw c.in-Planned.is (c.print_planned.ensures c.args.asked c.args.list.now)
