-- `search::walk::failing_minute` meets its contract.
use native.Mathlib.Omega.{arith}
use Rattle.search.proofs.Rooms.{room_told, room_through}
use Rattle.search.proofs.walk.failing_minute.Goals as goal

pub returns-then-until-room : goal.returns-then-until-room
returns-then-until-room c = record { told = λ f step u same. room_through c.args.room u same (omega arith) }

pub returns : goal.returns
returns c =
    record {
      told = λ f step u same. room_told {m = c.max-minute.result} c.args.room u same c.step_end.ensures (omega arith) (omega arith) c.then_some.ensures;
    }
