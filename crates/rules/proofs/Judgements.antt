-- The test of a plan: it is taken exactly when it meets all of demand 2.
use mathlib.Core.Path.{◌≡◌, refl}
use Prim.Native.Nat.{ℕ, ◌≤◌, ◌<◌}
use mathlib.Core.Bool.{true, false}
use mathlib.Core.List.{List, [], ◌∷◌}
use native.Mathlib.Omega.{arith}
use lib.Dec.{ltb}
use borrow.Author.Tests.{ltb-true, ltb-false, lt-ltb, le-ltb, not-false}
use Rattle.rules.specs.Basics.{Each, some}
use Rattle.rules.specs.Load.{counts, last_until, Limits, limited, whole_of, within_site, limit_at, balance_at, from_on}
use Rattle.rules.specs.Charge.{Charge, seen, lateness}
use Rattle.rules.specs.Judgement.{restarted, causes, judged}
use Rattle.rules.proofs.Ranges.{and_left, and_right, or_left, or_right, or-none}
use Rattle.rules.proofs.Counts.{Limited, Balanced, limited_at, within_at, limits_all, balanced_at, balanced_all, from_on_at, from_on_all, limit_past, balance_past}
use Rattle.rules.proofs.Tables.{NoneHolds, first_of_none, none_first_of}

-- "An offered plan is taken exactly when it starts nothing before the clock, meets constraints I to IV, ends no later
-- than the held plan and is less late." `new` is the held charges with the offered starts.
pub record Meets (y : Limits) (clock : ℕ) (held : List Charge) (ss : List ℕ) (new : List Charge) : Type 0 where
  pub none_early : Each (λ s. clock ≤ s) ss
  pub not_later : last_until (seen y new) ≤ last_until (seen y held)
  pub limit : (t : ℕ) → clock ≤ t → Limited y.limit (counts (seen y new) t)
  pub site : (t : ℕ) → clock ≤ t → whole_of (counts (seen y new) t) ≤ y.site
  pub balance : (t : ℕ) → clock ≤ t → Balanced y.bound (counts (seen y new) t)
  pub less_late : lateness new < lateness held

none_below : (clock : ℕ) (ss : List ℕ) → some (λ s. ltb s clock) ss ≡ false → Each (λ s. clock ≤ s) ss
none_below clock [] e = tt
none_below clock (s ∷ ss) e = (
  ltb-false s clock (or_left (ltb s clock) (some (λ u. ltb u clock) ss) e),
  none_below clock ss (or_right (ltb s clock) (some (λ u. ltb u clock) ss) e),
)

below_none : (clock : ℕ) (ss : List ℕ) → Each (λ s. clock ≤ s) ss → some (λ s. ltb s clock) ss ≡ false
below_none clock [] e = refl
below_none clock (s ∷ ss) e =
    or-none (ltb s clock) (some (λ u. ltb u clock) ss) (le-ltb s clock e.0) (below_none clock ss e.1)

pub judged_meets :
    (y : Limits) (clock : ℕ) (held : List Charge) (ss : List ℕ)
    → judged y clock held ss ≡ 0
    → Meets y clock held ss (restarted clock held ss)
unfolding judged
judged_meets y clock held ss e =
    let new : List Charge = restarted clock held ss in
    let p : NoneHolds (causes y clock held ss new) = first_of_none (causes y clock held ss new) (omega arith) e in
    let within : (t : ℕ) → clock ≤ t → limit_at y (seen y new) t ≡ true
    = from_on_at clock (seen y new) (limit_at y (seen y new)) (limit_past y (seen y new))
    (not-false (from_on clock (seen y new) (limit_at y (seen y new))) p.1.1.0) in
    record {
      none_early = none_below clock ss p.0;
      not_later = ltb-false (last_until (seen y held)) (last_until (seen y new)) p.1.0;
      limit =
          λ t h.
          limited_at y.limit (counts (seen y new) t)
          (and_left (limited y.limit (counts (seen y new) t)) (within_site y.site (counts (seen y new) t)) (within t h));
      site =
          λ t h.
          within_at y.site (counts (seen y new) t)
          (and_right (limited y.limit (counts (seen y new) t)) (within_site y.site (counts (seen y new) t)) (within t h));
      balance =
          λ t h.
          balanced_at y.bound (counts (seen y new) t)
          (from_on_at clock (seen y new) (balance_at y (seen y new)) (balance_past y (seen y new))
          (not-false (from_on clock (seen y new) (balance_at y (seen y new))) p.1.1.1.0)
          t h);
      less_late =
          ltb-true (lateness new) (lateness held) (not-false (ltb (lateness new) (lateness held)) p.1.1.1.1.0);
    }

pub meets_judged :
    (y : Limits) (clock : ℕ) (held : List Charge) (ss : List ℕ)
    → Meets y clock held ss (restarted clock held ss)
    → judged y clock held ss ≡ 0
unfolding judged
meets_judged y clock held ss m =
    let new : List Charge = restarted clock held ss in
    let within : from_on clock (seen y new) (limit_at y (seen y new)) ≡ true
    = from_on_all clock (seen y new) (limit_at y (seen y new))
    (λ t h. limits_all y (counts (seen y new) t) (m.limit t h) (m.site t h)) in
    let even : from_on clock (seen y new) (balance_at y (seen y new)) ≡ true
    = from_on_all clock (seen y new) (balance_at y (seen y new))
    (λ t h. balanced_all y.bound (counts (seen y new) t) (m.balance t h)) in
    none_first_of (causes y clock held ss new) (
      below_none clock ss m.none_early,
      (
        le-ltb (last_until (seen y held)) (last_until (seen y new)) m.not_later,
        (rw within, (rw even, (rw (lt-ltb (lateness new) (lateness held) m.less_late), tt))),
      ),
    )
