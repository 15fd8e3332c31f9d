-- A site of one feeder: that one is all there is.
use mathlib.Core.Path.{◌≡◌, refl}
use Prim.Native.Nat.{ℕ, ◌+◌, ◌-◌, ◌*◌, ◌≤◌}
use mathlib.Core.List.{List, [], ◌∷◌, append-nil}
use native.Mathlib.Omega.{arith}
use lib.ListN.{length, get_or}
use Rattle.rules.specs.Basics.{Each}
use Rattle.rules.specs.Load.{last_until}
use Rattle.rules.specs.Charge.{Charge, end_of, loads_of}
use Rattle.rules.specs.Site.{Feeder, State, no_feeder, joined, site_charges}
use Rattle.rules.specs.Valid.{ValidCharge, IsFeeder, longest_tail, ValidState}
use Rattle.rules.proofs.Lists.{each_map}
use Rattle.layout.specs.Image.{only}

list_of_one : (gs : List Feeder) → length gs ≡ 1 → gs ≡ get_or gs 0 no_feeder ∷ []
list_of_one [] e = absurd (omega arith)
list_of_one (g ∷ []) e = refl
list_of_one (g ∷ h ∷ gs) e = absurd (omega arith)

joined_one : (gs : List Feeder) → length gs ≡ 1 → joined gs ≡ (get_or gs 0 no_feeder).charges
joined_one [] e = absurd (omega arith)
joined_one (g ∷ []) e = append-nil g.charges
joined_one (g ∷ h ∷ gs) e = absurd (omega arith)

longest_one : (gs : List Feeder) → length gs ≡ 1 → longest_tail gs ≡ (get_or gs 0 no_feeder).tail
longest_one [] e = absurd (omega arith)
longest_one (g ∷ []) e = omega arith
longest_one (g ∷ h ∷ gs) e = absurd (omega arith)

-- ends, by up to when is drawn
ends_each :
    (b r : ℕ) (cs : List Charge)
    → Each (λ c. c.active_time ≡ c.time + r) cs
    → last_until (loads_of cs) ≤ b + r
    → Each (λ c. end_of c ≤ b) cs
ends_each b r [] e h = tt
ends_each b r (c ∷ cs) e h = (omega (arith, e.0), ends_each b r cs e.1 (omega arith))

each_ends :
    (b r : ℕ) (cs : List Charge)
    → Each (λ c. c.active_time ≡ c.time + r) cs
    → Each (λ c. end_of c ≤ b) cs
    → last_until (loads_of cs) ≤ b + r
each_ends b r [] e h = omega arith
each_ends b r (c ∷ cs) e h = omega (arith, e.0, h.0, each_ends b r cs e.1 h.1)

module _ (s : State) (one : length s.feeders ≡ 1) where
  pub feeders_only : s.feeders ≡ only s ∷ []
  feeders_only = list_of_one s.feeders one

  pub charges_only : site_charges s ≡ (only s).charges
  charges_only = joined_one s.feeders one

  pub tail_only : longest_tail s.feeders ≡ (only s).tail
  tail_only = longest_one s.feeders one

  pub first-is : IsFeeder s 1
  first-is = record { low = omega arith; high = omega (arith, one) }

  pub is_first : (f : ℕ) → IsFeeder s f → f ≡ 1
  is_first f h = omega (arith, h.low, h.high, one)

  -- up to when is drawn is as the rules have it exactly where "no end is above the clock plus 1,445 for each ticket given"
  pub ends_only : ValidState s → Each (λ c. end_of c ≤ s.clock + 1445 * (s.next - 1)) (only s).charges
  ends_only v =
      ends_each (s.clock + 1445 * (s.next - 1)) (only s).tail (only s).charges
      (each_map (ValidCharge (only s) s.site s.clock s.next) (λ c. c.active_time ≡ c.time + (only s).tail) (λ c w. w.active) (only s).charges (v.plan 1 first-is).each)
      (rw (← charges_only, ← tail_only) v.ends_high)

  pub ends_most :
      Each (λ c. c.active_time ≡ c.time + (only s).tail) (only s).charges
      → Each (λ c. end_of c ≤ s.clock + 1445 * (s.next - 1)) (only s).charges
      → last_until (loads_of (site_charges s)) ≤ s.clock + 1445 * (s.next - 1) + longest_tail s.feeders
  ends_most a e =
      rw (charges_only, tail_only) (each_ends (s.clock + 1445 * (s.next - 1)) (only s).tail (only s).charges a e)
