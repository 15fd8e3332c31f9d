-- What the test of a plan answers.
use Rattle.std.specs.Prelude.{◌≡◌, ℕ, zero, suc, not, List, [], ◌∷◌, ltb, Result, Ok, Err}
use Rattle.rules.specs.Basics.{first_of}
use Rattle.rules.specs.Load.{Load, Limits, limit_at, balance_at, from_on}
use Rattle.rules.specs.Charge.{lateness}
use Rattle.rules.specs.Judgement.{restarted, judged}
use Rattle.charges.specs.declared.Charges.{Charges}
use Rattle.charges.specs.Arrays.{charges_of, Holds}
use Rattle.planner.specs.declared.Beside.{Beside}
use Rattle.planner.specs.declared.cause.Cause.{Cause}
use Rattle.planner.specs.declared.judge.Judgement.{Judgement}
use Rattle.planner.specs.Causes.{cause_in}
use Rattle.planner.specs.Ready.{terms_of}

-- causes 5 and 6 of loads, the first that applies
abbrev pub broken : Limits → ℕ → List Load → ℕ
broken y clock xs = first_of ((not (from_on clock xs (limit_at y xs)), 5) ∷ (not (from_on clock xs (balance_at y xs)), 6) ∷ [])

-- "lateness is not smaller than now held": cause 7 where none before it applies
abbrev pub or_late : ℕ → ℕ → ℕ → ℕ
or_late zero before after = first_of ((not (ltb after before), 7) ∷ [])
or_late (suc k) before after = suc k

-- the number is the rules' cause, but for lateness
pub record CauseOf (b : Beside) (c : Charges) (ss : List ℕ) (r : ℕ) : Type 0 where
  pub same :
      judged (terms_of b) b.clock (charges_of c) ss
      ≡ or_late r (lateness (charges_of c)) (lateness (restarted b.clock (charges_of c) ss))

-- "Cause 0 means taken: the waiting charges get these starts."
abbrev pub TakenAs : ℕ → Charges → List ℕ → Result Charges Cause → Type 0
TakenAs clock c ss (Ok next) = Holds (restarted clock (charges_of c) ss) next
TakenAs clock c ss (Err cause) = Unit {0}

-- "Otherwise the station is unchanged."
abbrev pub held_after : Charges → Result Charges Cause → Charges
held_after c (Ok next) = next
held_after c (Err cause) = c

-- "cause, lateness before and after (equal when kept)", and the charges held then
pub record Judges (b : Beside) (c : Charges) (ss : List ℕ) (r : Judgement) : Type 0 where
  pub cause : judged (terms_of b) b.clock (charges_of c) ss ≡ cause_in r.taken
  pub before : lateness (charges_of c) ≡ r.before
  pub after : lateness (charges_of (held_after c r.taken)) ≡ r.after
  pub held : TakenAs b.clock c ss r.taken
