-- `answers::print_answer` meets its contract: a refusal is printed whatever was asked and lent.
use Rattle.answers.proofs.answer.print_answer.Goals as goal

pub returns-in-Err : goal.returns-in-Err
returns-in-Err g c = rw c.in-Err.is (c.print_refused.ensures c.args.asked c.args.list.now)
