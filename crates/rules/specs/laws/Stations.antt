-- Every station that an opening and calls lead to is valid, and how large the numbers of a valid station are.
use Rattle.std.specs.Prelude.{ℕ, ◌≤◌, ◌<◌, ◌^◌}
use Rattle.rules.specs.Basics.{Each}
use Rattle.rules.specs.Load.{last_until}
use Rattle.rules.specs.Charge.{Charge, end_of, active_until, loads_of, lateness}
use Rattle.rules.specs.Site.{State, charges_on, site_charges}
use Rattle.rules.specs.Calls.{Asked, opening, Call, step}
use Rattle.rules.specs.Valid.{IsFeeder, ValidState}

-- Beside each opening, refused or not, stands a valid station.
abbrev pub OpeningsAreValid : Type 0
OpeningsAreValid = (a : Asked) → ValidState (opening a).state

-- Every call, with any numbers and any list, leaves a valid station valid.
abbrev pub StepsAreValid : Type 0
StepsAreValid = (s : State) (c : Call) → ValidState s → ValidState (step s c).state

-- the times that are held of a charge are below b
pub record TimesBelow (b : ℕ) (c : Charge) : Type 0 where
  pub start : c.start < b
  pub end : end_of c < b
  pub until : active_until c < b
  pub order_minute : c.order_minute < b
  pub due : c.due < b

-- No held time reaches 100,000,000: start, s + p, s + p + r, order minute and due minute of every charge that a valid station holds.
abbrev pub NoHeldTimeReachesAHundredMillion : Type 0
NoHeldTimeReachesAHundredMillion = (s : State) → ValidState s → Each (TimesBelow 100000000) (site_charges s)

-- The largest s + p + r is 95,698,080 at most: 1,000,000 for the clock, 1,445 for each of 65,535 tickets, and 5 for the tail.
abbrev pub LastMinuteHasACeiling : Type 0
LastMinuteHasACeiling = (s : State) → ValidState s → last_until (loads_of (site_charges s)) ≤ 95698080

-- the lateness of a feeder's 180 charges is at most 180 times that, 17,225,654,400, which fits 64 bits
pub record FitsLateness (late : ℕ) : Type 0 where
  pub most : late ≤ 17225654400
  pub fits : late < 2 ^ 64

-- The lateness of each feeder of a valid station fits 64 bits.
abbrev pub LatenessFits64Bits : Type 0
LatenessFits64Bits = (s : State) → ValidState s → (f : ℕ) → IsFeeder s f → FitsLateness (lateness (charges_on s f))
