-- Demand 3 as one claim about the list of calls (docs/RULES.md, section 6): from an opening, and from any other station.
use Rattle.std.specs.Prelude.{◌≡◌, ℕ, ◌+◌, ◌≤◌, ◌<◌, true, false, List, ◌++◌, eqb}
use Rattle.rules.specs.Basics.{Each, some}
use Rattle.rules.specs.Load.{IsLine}
use Rattle.rules.specs.Site.{State, feeder_of}
use Rattle.rules.specs.Valid.{IsFeeder}
use Rattle.rules.specs.Calls.{refused, waiting, charging, Call}
use Rattle.guarantee.specs.Past.{Gives, Order, Past, past, times_reported, enquiry, start_of, end_of, active_until, count_in, site_in, orders_of, staying_orders, withdrawn_orders, Numbered, total_time, last_minute}

-- What is claimed of one accepted order, wherever the list began: "For someone who stays, every assurance holds".
pub record Kept (gives : Gives) (h : Past) (o : Order) : Type 0 where
  -- "not before its order minute"
  pub not_early : o.minute ≤ start_of gives h o
  -- "An order whose start is below the clock has been reported once."
  pub reported : start_of gives h o < h.clock → times_reported h.reports o.ticket ≡ 1
  -- "Any other order has never been reported,"
  pub not_reported : h.clock ≤ start_of gives h o → times_reported h.reports o.ticket ≡ 0
  -- "and an enquiry finds it waiting", with its rate.
  pub waits : h.clock ≤ start_of gives h o → enquiry gives h o.ticket ≡ waiting (start_of gives h o) o.rate
  -- "An enquiry finds a begun order charging until it is finished, with its reported start, and that start + p as the end;"
  -- in its tail too, where this end is at or below the clock
  pub charges :
      start_of gives h o < h.clock → h.clock < active_until gives h o → enquiry gives h o.ticket ≡ charging (start_of gives h o) (end_of gives h o) o.rate
  -- "for a finished one the answer is refusal 15."
  pub finished : active_until gives h o ≤ h.clock → enquiry gives h o.ticket ≡ refused 15

-- What is claimed of a withdrawn order: it "has no charge". `count_in` does not count it, and it draws in no minute.
pub record Gone (gives : Gives) (h : Past) (o : Order) : Type 0 where
  pub not_reported : times_reported h.reports o.ticket ≡ 0
  pub not_held_lem : enquiry gives h o.ticket ≡ refused 15

-- "if an order's start is below the clock after some first part of the list, the order has the same start after the whole list":
-- here is what is known after the first part, there what is known after the whole list
abbrev pub Unmoved : Gives → Past → Past → Order → Type 0
Unmoved gives here there o = start_of gives here o < here.clock → start_of gives there o ≡ start_of gives here o

-- "No charge ends later than the last minute in which an order was accepted plus the charging times of all accepted orders",
-- with r for each of these, withdrawn ones too: a withdrawn order's "time still counts in the ceiling on ends", and so does its minute
abbrev pub InTime : Gives → Past → Order → Type 0
InTime gives h o = end_of gives h o ≤ last_minute 0 h.orders + total_time h.tails h.orders

-- "No ticket but theirs has been reported."
abbrev pub NoOther : Past → Type 0
NoOther h = (t : ℕ) → 1 ≤ times_reported h.reports t → some (λ (o : Order). eqb o.ticket t) h.orders ≡ true

-- "No ticket but theirs": and none but theirs is found by an enquiry.
abbrev pub NoOtherFound : Gives → Past → Type 0
NoOtherFound gives h =
    (t : ℕ) → some (λ (o : Order). eqb o.ticket t) h.orders ≡ false → enquiry gives h t ≡ refused 15

-- "No start before the clock has ever changed." Claimed of every list this follows from `reported` after each first
-- part, since reports are only added (`reported_unmoved` in proofs/Unmoved.antt); of one list it says more.
abbrev pub NoneMoved : Gives → State → List Call → Type 0
NoneMoved gives s calls =
    (part rest : List Call)
    → calls ≡ part ++ rest
    → Each (Unmoved gives (past gives s part) (past gives s calls)) (staying_orders (past gives s part))

-- The whole claim, for the station that an opening gave, the list of calls made from it, and what a call gives.
pub record DemandThree (gives : Gives) (s : State) (calls : List Call) : Type 0 where
  -- "in every minute, gone or to come under the plan held, no line has more than its limit charging", of the weighted counts and
  -- with the tails counted, on each feeder
  pub limit : (f l t : ℕ) → IsFeeder s f → IsLine l → count_in gives (past gives s calls) f l t ≤ (feeder_of s f).limit
  -- "and no two lines differ by more than the bound"
  pub balance :
      (f l m t : ℕ)
      → IsFeeder s f
      → IsLine l
      → IsLine m
      → count_in gives (past gives s calls) f l t ≤ count_in gives (past gives s calls) f m t + (feeder_of s f).bound
  -- "with W .. taken over the site"
  pub site : (t : ℕ) → site_in gives (past gives s calls) t ≤ s.site
  -- each accepted order is counted on a feeder
  pub feeders : Each (λ o. IsFeeder s o.feeder) (past gives s calls).orders
  -- "Each accepted order has exactly one charge": "tickets are 1, 2, 3 and so on in the order of acceptance", those withdrawn among
  -- them, so that none is given again
  pub tickets : Numbered 1 (past gives s calls).orders
  pub orders : Each (Kept gives (past gives s calls)) (staying_orders (past gives s calls))
  pub gone : Each (Gone gives (past gives s calls)) (withdrawn_orders (past gives s calls))
  pub in_time : Each (InTime gives (past gives s calls)) (staying_orders (past gives s calls))
  pub no_other : NoOther (past gives s calls)
  pub no_other_found : NoOtherFound gives (past gives s calls)
  pub unmoved : NoneMoved gives s calls

-- "from its clock on"
abbrev pub Since : State → ℕ → Type 0
Since s t = s.clock ≤ t

-- The claim for any other valid station that a list of calls begins with: "for an image from elsewhere, limit and balance hold
-- from its clock on, with the charges it holds counted too, their lines, times and rates, and the starts of those begun, as it
-- has them" (`beginning`). What went before is not known, so no ceiling on ends is claimed.
pub record DemandThreeFrom (gives : Gives) (s : State) (calls : List Call) : Type 0 where
  pub limit : (f l t : ℕ) → IsFeeder s f → IsLine l → Since s t → count_in gives (past gives s calls) f l t ≤ (feeder_of s f).limit
  pub balance :
      (f l m t : ℕ)
      → IsFeeder s f
      → IsLine l
      → IsLine m
      → Since s t
      → count_in gives (past gives s calls) f l t ≤ count_in gives (past gives s calls) f m t + (feeder_of s f).bound
  pub site : (t : ℕ) → Since s t → site_in gives (past gives s calls) t ≤ s.site
  pub feeders : Each (λ o. IsFeeder s o.feeder) (past gives s calls).orders
  -- the orders accepted by the calls get the tickets from its next one on
  pub tickets :
      (new : List Order) × ((past gives s calls).orders ≡ orders_of s ++ new) × Numbered s.next new
  pub orders : Each (Kept gives (past gives s calls)) (staying_orders (past gives s calls))
  pub gone : Each (Gone gives (past gives s calls)) (withdrawn_orders (past gives s calls))
  pub no_other : NoOther (past gives s calls)
  pub no_other_found : NoOtherFound gives (past gives s calls)
  pub unmoved : NoneMoved gives s calls
