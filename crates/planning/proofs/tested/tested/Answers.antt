-- The charges of the judgement are held, or its cause keeps those held before.
use native.Mathlib.Omega.{arith}
use Rattle.planning.proofs.Testing.{judged_taken, judged_kept}
use Rattle.planning.proofs.tested.tested.Goals as goal

pub returns-in-Ok : goal.returns-in-Ok
returns-in-Ok c = judged_taken (search) c.judged-judgement.ensures c.in-Ok.is (search) (omega arith) (omega arith)

pub returns-in-Err : goal.returns-in-Err
returns-in-Err c = judged_kept (search) c.judged-judgement.ensures c.in-Err.is (omega arith) (omega arith)
