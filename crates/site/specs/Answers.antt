-- The answers of the calls that name no feeder: the number and the values that each case stands for.
use Rattle.std.specs.Prelude.{ℕ, ◌+◌, ◌*◌, Bool, cond, List, [], ◌∷◌, ltb, length, Result}
use Rattle.rules.specs.Charge.{Charge}
use Rattle.rules.specs.Site.{places}
use Rattle.rules.specs.Calls.{Answer, refused, moved, waiting, charging, looked, withdrawn}
use Rattle.refusals.specs.declared.Refusal.{Refusal}
use Rattle.refusals.specs.Refusals.{answer_by}
use Rattle.site.specs.declared.clock.Moved.{Moved}
use Rattle.site.specs.declared.enquiry.Enquiry.{Enquiry}
use Rattle.site.specs.declared.enquiry.Enquiry.TheVariants.{Waiting, Charging, NotHeld}

-- the refusals of a clock move, by how many feeders there are and the clock
abbrev pub move_rows : ℕ → ℕ → ℕ → List ℕ → List (Bool × ℕ)
move_rows count clock target list =
    (ltb 1000000 target, 8) ∷ (ltb (length list) (2 * places * count), 9) ∷ (ltb target clock, 12) ∷ []

abbrev pub moved_of : Moved → Answer
moved_of m = moved m.reported m.dropped

abbrev pub move_answer : Result Moved Refusal → Answer
move_answer = answer_by moved_of

-- what is told of a charge: "a start equal to the clock still waits"
abbrev pub told_charge : ℕ → Charge → Answer
told_charge clock c = cond (ltb c.start clock) (charging c.start (c.start + c.time) c.rate) (waiting c.start c.rate)

-- the answer and the values of every case of an enquiry: that no held charge has the ticket is refusal 15
abbrev pub enquiry_answer : Enquiry → Answer
enquiry_answer (Waiting start rate) = waiting start rate
enquiry_answer (Charging start end rate) = charging start end rate
enquiry_answer NotHeld = refused 15

abbrev pub board_answer : Result ℕ Refusal → Answer
board_answer = answer_by looked

abbrev pub withdrawal_answer : Result Unit Refusal → Answer
withdrawal_answer = answer_by (λ u. withdrawn)
