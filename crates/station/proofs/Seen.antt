-- All that a feeder of a valid site sees ends in time, and goes into a profile.
use Prim.Native.Nat.{ℕ, suc, ◌≤◌, ◌<◌}
use mathlib.Core.Bool.{Bool, true, false, cond}
use mathlib.Core.List.{List, [], ◌∷◌, ◌++◌, map}
use native.Mathlib.Omega.{arith}
use lib.Dec.{eqb}
use lib.ListN.{length, get_or}
use Rattle.rules.specs.Basics.{Each}
use Rattle.rules.specs.Load.{Load, IsRate, last_until, elsewhere}
use Rattle.rules.specs.Charge.{Charge, loads_of, seen}
use Rattle.rules.specs.Site as rules
use Rattle.rules.specs.Site.{State, no_feeder, feeder_of, charges_on, site_charges, others_from, others_of, limits_of}
use Rattle.rules.specs.Valid.{ValidCharge, ValidState, IsFeeder}
use Rattle.rules.proofs.Lists.{each_map, each_append}
use Rattle.rules.proofs.Ends.{each_until}
use Rattle.rules.proofs.Sites.{until_joins, until_append, last_until_append, others_own, last_seen, by_place, tails_high}
use Rattle.planner.specs.Others.{Plannable}
use Rattle.planner.proofs.Showing.{plannable}

-- The site

module _ (s : State) (v : ValidState s) where
  -- "No held time reaches 100,000,000"
  pub site_end : last_until (loads_of (site_charges s)) ≤ 99000000
  site_end = omega (arith, v.ends_high, v.clock_high, v.next_high, tails_high s v)

  module _ (f : ℕ) (h : IsFeeder s f) where
    parts_end : (last_until (loads_of (others_of s f)) ≤ 99000000) × (last_until (loads_of (charges_on s f)) ≤ 99000000)
    parts_end =
        let whole = others_own (λ cs. last_until (loads_of cs)) until_joins s f h in
        let two = until_append (others_of s f) (charges_on s f) in
        (omega (arith, whole, two, site_end), omega (arith, whole, two, site_end))

    pub own_end : last_until (loads_of (charges_on s f)) ≤ 99000000
    own_end = parts_end.1

    pub seen_end : last_until (seen (limits_of s f) (charges_on s f)) ≤ 99000000
    seen_end =
        omega (
          arith,
          last_seen (others_of s f) (charges_on s f),
          others_own (λ cs. last_until (loads_of cs)) until_joins s f h,
          site_end,
        )

    pub others_end : last_until (loads_of (others_of s f)) ≤ 99000000
    others_end = parts_end.0

    pub elsewhere_end : last_until (map elsewhere (loads_of (others_of s f))) ≤ 99000000
    elsewhere_end =
        omega (arith, seen_end, last_until_append (map elsewhere (loads_of (others_of s f))) (loads_of (charges_on s f)))

-- what holds of the charges of each feeder holds of those of the others
others_each :
    (P : Charge → Type 0) (f i : ℕ) (gs : List rules.Feeder)
    → ((j : ℕ) → j < length gs → Each P (get_or gs j no_feeder).charges)
    → Each P (others_from f i gs)
others_each P f i [] h = tt
others_each P f i (g ∷ gs) h = go (eqb i f) (others_each P f (suc i) gs (λ j k. h (suc j) (omega arith)))
  where
    go :
        (b : Bool)
        → Each P (others_from f (suc i) gs)
        → Each P (cond b (others_from f (suc i) gs) (g.charges ++ others_from f (suc i) gs))
    go true later = later
    go false later = each_append P g.charges (others_from f (suc i) gs) (h 0 (omega arith)) later

plannable_elsewhere : (xs : List Load) → Each Plannable xs → Each Plannable (map elsewhere xs)
plannable_elsewhere [] e = tt
plannable_elsewhere (x ∷ xs) e = (
  record { drawable = record { is_rate = e.0.drawable.is_rate; ends_fit = e.0.drawable.ends_fit }; below = e.0.below },
  plannable_elsewhere xs e.1,
)

module _ (s : State) (v : ValidState s) (f : ℕ) (h : IsFeeder s f) where
  rated_on : (g : ℕ) → IsFeeder s g → Each (λ c. IsRate c.rate) (charges_on s g)
  rated_on g i =
      each_map (ValidCharge (feeder_of s g) s.site s.clock s.next) (λ c. IsRate c.rate) (λ c x. x.rate) (charges_on s g)
      (v.plan g i).each

  -- what the other feeders draw goes into a profile
  pub others_plannable : Each Plannable (map elsewhere (loads_of (others_of s f)))
  others_plannable =
      plannable_elsewhere (loads_of (others_of s f))
      (plannable (others_of s f)
      (others_each (λ c. IsRate c.rate) f 1 s.feeders (by_place s (λ g. Each (λ c. IsRate c.rate) g.charges) rated_on))
      (each_until 100001445 (others_of s f) (omega (arith, others_end s v f h))))

  -- and what the feeder sees
  pub seen_plannable : Each Plannable (seen (limits_of s f) (charges_on s f))
  seen_plannable =
      each_append Plannable (map elsewhere (loads_of (others_of s f))) (loads_of (charges_on s f)) others_plannable
      (plannable (charges_on s f) (rated_on f h) (each_until 100001445 (charges_on s f) (omega (arith, own_end s v f h))))
