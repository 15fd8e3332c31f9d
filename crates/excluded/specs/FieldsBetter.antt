-- The fields of `Better` one by one, and a test of each that computes. It is true exactly where the field holds:
-- `better_tested` in proofs/TestsBetter.antt.
use Rattle.std.specs.Prelude.{ℕ, ◌+◌, max, ◌≤◌, ◌<◌, Bool, true, List, [], ◌∷◌, leb, ltb}
use Rattle.rules.specs.Basics.{Each}
use Rattle.rules.specs.Load.{count, drawn, last_until, IsLine}
use Rattle.rules.specs.Charge.{Charge, loads_of, lateness}
use Rattle.rules.specs.Judgement.{restarted}
use Rattle.rules.specs.Site.{State, feeder_of, charges_on, site_charges, others_of}
use Rattle.guarantee.specs.DemandTwo.{Unbroken}
use Rattle.excluded.specs.Same.{every}
use Rattle.excluded.specs.Minutes.{plan_limit, plan_balance, plan_site}

pub data Merit : Type 0 where
  not_before_clock : Merit
  not_before_order : Merit
  unbroken : Merit
  limit : Merit
  balance : Merit
  site : Merit
  no_later : Merit
  less_late : Merit

abbrev pub merits : List Merit
merits = not_before_clock ∷ not_before_order ∷ unbroken ∷ limit ∷ balance ∷ site ∷ no_later ∷ less_late ∷ []

-- the place of a field in that list
abbrev pub rank : Merit → ℕ
rank not_before_clock = 0
rank not_before_order = 1
rank unbroken = 2
rank limit = 3
rank balance = 4
rank site = 5
rank no_later = 6
rank less_late = 7

-- a station, a feeder and a list of starts for it
pub record Plan : Type 0 where
  pub station : State
  pub feeder : ℕ
  pub list : List ℕ

abbrev pub held_of : Plan → List Charge
held_of x = charges_on x.station x.feeder

abbrev pub new_of : Plan → List Charge
new_of x = restarted x.station.clock (held_of x) x.list

-- up to when the site would draw
abbrev pub last_of : Plan → ℕ
last_of x = max (last_until (loads_of (others_of x.station x.feeder))) (last_until (loads_of (new_of x)))

-- what a field says; all together they are `Better` (`better_fields` there)
abbrev pub Merits : Plan → Merit → Type 0
Merits x not_before_clock = Each (λ u. x.station.clock ≤ u) x.list
Merits x not_before_order = Each (λ c. c.order_minute ≤ c.start) (new_of x)
Merits x unbroken = Each Unbroken (new_of x)
Merits x limit = (l t : ℕ) → IsLine l → x.station.clock ≤ t → count (loads_of (new_of x)) l t ≤ (feeder_of x.station x.feeder).limit
Merits x balance =
    (l m t : ℕ)
    → IsLine l
    → IsLine m
    → x.station.clock ≤ t
    → count (loads_of (new_of x)) l t ≤ count (loads_of (new_of x)) m t + (feeder_of x.station x.feeder).bound
Merits x site =
    (t : ℕ)
    → x.station.clock ≤ t
    → drawn (loads_of (others_of x.station x.feeder)) t + drawn (loads_of (new_of x)) t ≤ x.station.site
Merits x no_later = last_of x ≤ last_until (loads_of (site_charges x.station))
Merits x less_late = lateness (new_of x) < lateness (held_of x)

abbrev pub merited : Plan → Merit → Bool
merited x not_before_clock = every (leb x.station.clock) x.list
merited x not_before_order = every (λ c. leb c.order_minute c.start) (new_of x)
-- of every charge
merited x unbroken = true
merited x limit = plan_limit x.station x.feeder (loads_of (new_of x))
merited x balance = plan_balance x.station x.feeder (loads_of (new_of x))
merited x site = plan_site x.station x.feeder (loads_of (new_of x))
merited x no_later = leb (last_of x) (last_until (loads_of (site_charges x.station)))
merited x less_late = ltb (lateness (new_of x)) (lateness (held_of x))
