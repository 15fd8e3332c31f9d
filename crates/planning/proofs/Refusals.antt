-- The refusals of the three calls, which leave the station as it was; and that a call is granted where none of them applies.
use mathlib.Core.Path.{◌≡◌, refl, ap, sym, ◌∙◌}
use Prim.Native.Nat.{ℕ, ◌+◌, ◌≤◌, ◌<◌}
use mathlib.Core.Bool.{Bool, true, false, not, ◌||◌}
use mathlib.Core.List.{List, [], ◌∷◌}
use native.Mathlib.Omega.{arith}
use lib.Dec.{ltb, eqb}
use lib.ListN.{length}
use Rattle.std.proofs.lemmas.Bool.Decides.{nat_tests}
use borrow.Author.Tests.{le-ltb, eq-eqb, ne_eqb}
use Rattle.rules.specs.Basics.{first_of}
use Rattle.rules.specs.Charge.{waiting_charges}
use Rattle.rules.specs.Site as rules
use Rattle.rules.specs.Site.{charges_on}
use Rattle.rules.specs.Calls.{refused, no_such_feeder, refusals, Call, lent, offer, replan_latest, replan_lines, step}
use Rattle.refusals.specs.declared.Refusal.{Refusal}
use Rattle.refusals.specs.declared.Refusal.TheVariants.{StartsNotAsMany, AllowanceOutOfRange, NoSuchFeeder}
use Rattle.refusals.specs.Refusals.{number_of}
use Rattle.planner.specs.Starts.{waiting_count}
use Rattle.station.specs.declared.Station.{Station}
use Rattle.station.specs.View.{view, feeder_at, Valid}
use Rattle.station.specs.Given.{Gives}
use Rattle.station.proofs.Views.{view_length, view_number}
use Rattle.station.proofs.Refusing.{gives_refused}

-- no feeder has the number: the first row of refusals of a call about a feeder
abbrev lacks : Station → ℕ → Bool
lacks s n = ltb n 1 || ltb s.count n

-- the second rows of refusals of an offer and of a replan by lines
abbrev lengths_row : Station → ℕ → List ℕ → Bool × ℕ
lengths_row s n ss = (not (eqb (length ss) (length (waiting_charges s.clock (charges_on (view s) n)))), 10)

abbrev allowance_row : ℕ → Bool × ℕ
allowance_row allowance = (ltb allowance 1 || ltb 1000 allowance, 11)

row_is : (s : Station) (n : ℕ) (rest : List (Bool × ℕ)) {b : Bool} → lacks s n ≡ b → first_of (no_such_feeder (view s) n ∷ rest) ≡ first_of ((b, 29) ∷ rest)
row_is s n rest e = ap (λ (x : Bool). first_of ((x, 29) ∷ rest)) (rw (view_length s) e)

-- "no such feeder"
pub gives_no_feeder :
    {s : Station} (n : ℕ) {r : Refusal} {rest : List (Bool × ℕ)} (call : Call)
    → Valid s → lacks s n ≡ true → r ≡ NoSuchFeeder → refusals (view s) call ≡ no_such_feeder (view s) n ∷ rest
    → Gives (step (view s) call) (refused (number_of r)) s (lent call)
gives_no_feeder {s} n {r} {rest} call v e is t =
    rw is (gives_refused s call NoSuchFeeder v (sym (ap first_of t ∙ row_is s n rest e)) refl)

-- the station has a feeder with the number
module _ (s : Station) {n p : ℕ} (names : n ≡ p + 1) (inside : p < s.count) where
  passed : (rest : List (Bool × ℕ)) → first_of (no_such_feeder (view s) n ∷ rest) ≡ first_of rest
  passed rest = row_is s n rest {b = false} (rw (le-ltb n 1 (omega (arith, names)), le-ltb s.count n (omega (arith, names, inside))) refl)

  -- "list length is not the number of waiting charges"
  module _ (ss : List ℕ) {count : ℕ} (counted : count ≡ waiting_count s.clock (feeder_at s p).charges) where
    waiting : length (waiting_charges s.clock (charges_on (view s) n)) ≡ count
    waiting = rw (names, ap (λ (g : rules.Feeder). g.charges) (view_number s p inside)) (sym counted)

    pub offer_refused : {k : ℕ} → k ≡ 10 → Valid s → (length ss ≡ count → ⊥) → Gives (step (view s) (offer n ss)) (refused k) s ss
    offer_refused w v ne =
        rw w (gives_refused s (offer n ss) StartsNotAsMany v (sym (passed (lengths_row s n ss ∷ []) ∙ rw (waiting, ne_eqb (length ss) count ne) refl)) refl)

    pub offer_granted : length ss ≡ count → 0 ≡ first_of (refusals (view s) (offer n ss))
    offer_granted l = sym (passed (lengths_row s n ss ∷ []) ∙ rw (waiting, eq-eqb (length ss) count l) refl)

  pub latest_granted : 0 ≡ first_of (refusals (view s) (replan_latest n))
  latest_granted = sym (passed [])

  -- "allowance not 1 to 1,000"
  module _ (allowance : ℕ) where
    pub lines_refused : {k : ℕ} → k ≡ 11 → Valid s → (1 ≤ allowance → allowance ≤ 1000 → ⊥) → Gives (step (view s) (replan_lines n allowance)) (refused k) s []
    lines_refused w v h =
        let out : first_of (allowance_row allowance ∷ []) ≡ 11 = grind (arith, nat_tests) in
        rw w (gives_refused s (replan_lines n allowance) AllowanceOutOfRange v (sym (passed (allowance_row allowance ∷ []) ∙ out)) refl)

    pub lines_granted : 1 ≤ allowance → allowance ≤ 1000 → 0 ≡ first_of (refusals (view s) (replan_lines n allowance))
    lines_granted l h = sym (passed (allowance_row allowance ∷ []) ∙ rw (le-ltb allowance 1 l, le-ltb 1000 allowance h) refl)
