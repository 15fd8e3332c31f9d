-- What every site holds that comes from an opening and calls: "Stations come only from opening and these calls."
-- Calls need no more than this and keep it (proofs/Validity.antt). It can be decided from the site's own numbers.
use Rattle.std.specs.Prelude.{◌≡◌, ℕ, suc, ◌+◌, ◌-◌, ◌*◌, max, ◌≤◌, ◌<◌, true, List, [], ◌∷◌, length}
use Rattle.rules.specs.Basics.{Each}
use Rattle.rules.specs.Load.{last_until, IsLine, IsRate, sound}
use Rattle.rules.specs.Charge.{Charge, active_until, loads_of, seen}
use Rattle.rules.specs.Site.{places, Feeder, State, feeder_of, charges_on, site_charges, limits_of}
use Rattle.rules.specs.Calls.{bound_of}

-- one charge that a feeder holds: its rate is within N, D and W, so that it has a start wherever nothing else is drawn
pub record ValidCharge (g : Feeder) (site clock next : ℕ) (c : Charge) : Type 0 where
  pub ticket_low : 1 ≤ c.ticket
  pub ticket_given : c.ticket < next
  pub line : IsLine c.line
  pub time_low : 1 ≤ c.time
  pub time_high : c.time ≤ 1440
  pub active : c.active_time ≡ c.time + g.tail
  pub due_high : c.due ≤ 2000000
  pub ordered : c.order_minute ≤ clock
  pub not_early : c.order_minute ≤ c.start
  pub unfinished : clock < active_until c
  pub rate : IsRate c.rate
  pub within_limit : c.rate ≤ g.limit
  pub within_bound : c.rate ≤ g.bound
  pub within_site_lem : c.rate ≤ site

-- tickets are i or more, and rise along the list
abbrev pub Rising : ℕ → List Charge → Type 0
Rising i [] = Unit {0}
Rising i (c ∷ cs) = (i ≤ c.ticket) × Rising (suc c.ticket) cs

-- no ticket stands in both lists
abbrev pub Apart : List Charge → List Charge → Type 0
Apart cs ds = Each (λ c. Each (λ d. c.ticket ≡ d.ticket → ⊥) ds) cs

-- what a feeder was opened with
pub record ValidSettings (g : Feeder) : Type 0 where
  pub limit_low : 1 ≤ g.limit
  pub limit_high : g.limit ≤ 60
  pub percent_high : g.percent ≤ 100
  pub bound_is : g.bound ≡ bound_of g.limit g.percent
  pub bound_low : 1 ≤ g.bound
  pub tail_high : g.tail ≤ 5

-- what a feeder holds
pub record ValidPlan (site clock next : ℕ) (g : Feeder) : Type 0 where
  pub few : length g.charges ≤ places
  pub each : Each (ValidCharge g site clock next) g.charges
  pub rising : Rising 1 g.charges

-- "names its feeder, from 1"
pub record IsFeeder (s : State) (f : ℕ) : Type 0 where
  pub low : 1 ≤ f
  pub high : f ≤ length s.feeders

-- the largest r of some feeders
abbrev pub longest_tail : List Feeder → ℕ
longest_tail [] = 0
longest_tail (g ∷ gs) = max g.tail (longest_tail gs)

pub record ValidState (s : State) : Type 0 where
  pub feeders_low : 1 ≤ length s.feeders
  pub feeders_high : length s.feeders ≤ 4
  pub site_low : 1 ≤ s.site
  pub site_high : s.site ≤ 720
  pub clock_high : s.clock ≤ 1000000
  pub next_low : 1 ≤ s.next
  pub next_high : s.next ≤ 65536
  -- each feeder by its number
  pub settings : (f : ℕ) → IsFeeder s f → ValidSettings (feeder_of s f)
  pub plan : (f : ℕ) → IsFeeder s f → ValidPlan s.site s.clock s.next (feeder_of s f)
  -- its limit and balance, and W with what the others draw
  pub sound_on : (f : ℕ) → IsFeeder s f → sound (limits_of s f) s.clock (seen (limits_of s f) (charges_on s f)) ≡ true
  -- no ticket stands on two feeders
  pub apart : (f g : ℕ) → IsFeeder s f → IsFeeder s g → (f ≡ g → ⊥) → Apart (charges_on s f) (charges_on s g)
  -- next - 1 tickets have been given: nothing is drawn later than the largest r after the clock and 1,445 minutes, the largest p + r,
  -- for each of them; so with one feeder "no end is above the clock plus 1,445 for each ticket given"
  pub ends_high : last_until (loads_of (site_charges s)) ≤ s.clock + 1445 * (s.next - 1) + longest_tail s.feeders
