-- A refused call and one that is not, and that the station after a call is valid.
use mathlib.Core.Path.{◌≡◌, refl, sym, ap, subst, ◌∙◌}
use Prim.Native.Nat.{ℕ, zero, suc, ◌<◌}
use mathlib.Core.List.{List}
use native.Mathlib.Omega.{arith}
use Rattle.std.specs.Prelude as std
use Rattle.std.specs.Prelude.{Ok, Err}
use Rattle.std.specs.Result.{IsErrAnd}
use Rattle.rules.specs.Basics.{first_of}
use Rattle.rules.specs.Site.{State}
use Rattle.rules.specs.Calls.{Answer, refused, Result, answering, Call, lent, refusals, granted, step}
use Rattle.rules.specs.Valid.{ValidState}
use Rattle.rules.proofs.Validity.{step_valid}
use Rattle.refusals.specs.declared.Refusal.{Refusal}
use Rattle.refusals.specs.declared.Refusal.TheVariants.{LimitOutOfRange, PercentAbove100, BoundZero, NoSuchLine, TimeOutOfRange, DueTooLate, TargetTooLate, ReportTooShort, StartsNotAsMany, AllowanceOutOfRange, TargetBelowClock, FeederFull, TicketsSpent, NotHeld, StartChanged, RateOutOfRange, RateTooLarge, TailAboveFive, ImageLength, ImageDamaged, ImageInvalid, TicketsNotRising, AnswersTooShort, AlreadyBegun, RestUnsound, FeederCountOutOfRange, SiteLimitOutOfRange, NoSuchFeeder}
use Rattle.refusals.specs.Refusals.{number_of}
use Rattle.station.specs.declared.Station.{Station}
use Rattle.station.specs.View.{view, Formed, Valid}
use Rattle.station.specs.Given.{Keeps, Gives}

abbrev pub giving : Answer → State → List ℕ → Result
giving answer s list = record { answer = answer; state = s; list = list }

pub answering_refused : (k : ℕ) (s : State) (list : List ℕ) (r : Result) → 0 < k → answering k s list r ≡ giving (refused k) s list
answering_refused zero s list r h = absurd (omega arith)
answering_refused (suc k) s list r h = refl

answering_granted : (k : ℕ) (s : State) (list : List ℕ) (r : Result) → k ≡ 0 → answering k s list r ≡ r
answering_granted k s list r e = rw e

-- "the station and every list stay"
pub call_refused : (s : State) (call : Call) (k : ℕ) → k ≡ first_of (refusals s call) → 0 < k → giving (refused k) s (lent call) ≡ step s call
call_refused s call k e h = rw (← e) (sym (answering_refused k s (lent call) (granted s call) h))

pub call_granted : (s : State) (call : Call) (k : ℕ) → k ≡ first_of (refusals s call) → k ≡ 0 → granted s call ≡ step s call
call_granted s call k e h = sym (answering_granted (first_of (refusals s call)) s (lent call) (granted s call) (sym e ∙ h))

-- no refusal has number 0
pub number_some : (refusal : Refusal) → 0 < number_of refusal
number_some LimitOutOfRange = omega arith
number_some PercentAbove100 = omega arith
number_some BoundZero = omega arith
number_some NoSuchLine = omega arith
number_some TimeOutOfRange = omega arith
number_some DueTooLate = omega arith
number_some TargetTooLate = omega arith
number_some ReportTooShort = omega arith
number_some StartsNotAsMany = omega arith
number_some AllowanceOutOfRange = omega arith
number_some TargetBelowClock = omega arith
number_some FeederFull = omega arith
number_some TicketsSpent = omega arith
number_some NotHeld = omega arith
number_some StartChanged = omega arith
number_some RateOutOfRange = omega arith
number_some RateTooLarge = omega arith
number_some TailAboveFive = omega arith
number_some ImageLength = omega arith
number_some ImageDamaged = omega arith
number_some ImageInvalid = omega arith
number_some TicketsNotRising = omega arith
number_some AnswersTooShort = omega arith
number_some AlreadyBegun = omega arith
number_some RestUnsound = omega arith
number_some FeederCountOutOfRange = omega arith
number_some SiteLimitOutOfRange = omega arith
number_some NoSuchFeeder = omega arith

-- what a `?` makes of a refusal
pub refusal_passed : {A : Type 0} (r : std.Result A Refusal) (x : Refusal) → IsErrAnd r (λ y. y ≡ x) → r ≡ Err x
refusal_passed (Ok a) x h = absurd h
refusal_passed (Err y) x h = ap Err h

-- what a call gives, by its result: the station after it is valid
pub gives_by :
    {s t : Station} (call : Call) {answer : Answer} {list : List ℕ}
    → Valid s → Formed t → giving answer (view t) list ≡ step (view s) call → Gives (step (view s) call) answer t list
gives_by {s} call v w e =
    record {
      result = e;
      valid = record { formed = w; state = subst ValidState (sym (ap (λ (r : Result). r.state) e)) (step_valid (view s) call v.state) };
    }

-- by a refusal

refused_is :
    (s : Station) (call : Call) (refusal : Refusal) {list : List ℕ}
    → number_of refusal ≡ first_of (refusals (view s) call) → list ≡ lent call → giving (refused (number_of refusal)) (view s) list ≡ step (view s) call
refused_is s call refusal e same = rw same (call_refused (view s) call (number_of refusal) e (number_some refusal))

pub keeps_refused :
    (s : Station) (call : Call) (refusal : Refusal) {list : List ℕ}
    → number_of refusal ≡ first_of (refusals (view s) call) → list ≡ lent call → Keeps (step (view s) call) s (refused (number_of refusal)) list
keeps_refused s call refusal e same = record { result = refused_is s call refusal e same }

pub gives_refused :
    (s : Station) (call : Call) (refusal : Refusal) {list : List ℕ}
    → Valid s → number_of refusal ≡ first_of (refusals (view s) call) → list ≡ lent call → Gives (step (view s) call) (refused (number_of refusal)) s list
gives_refused s call refusal v e same = record { result = refused_is s call refusal e same; valid = v }
