-- What an offer or a replan puts to the test, and when starts are better than those that are held.
use Rattle.std.specs.Prelude.{◌≡◌, ℕ, max, ◌≤◌, ◌<◌, List}
use Rattle.rules.specs.Basics.{Each}
use Rattle.rules.specs.Load.{last_until}
use Rattle.rules.specs.Charge.{Charge, loads_of, lateness}
use Rattle.rules.specs.Replan.{Proposal, starts, latest, by_lines}
use Rattle.rules.specs.Judgement.{restarted}
use Rattle.rules.specs.Site.{State, charges_on, site_charges, others_of, limits_of}
use Rattle.station.specs.declared.Station.{Station}
use Rattle.station.specs.View.{view}
use Rattle.calls.specs.declared.Call.{Call}
use Rattle.calls.specs.declared.Call.TheVariants.{Preview, Commit, Move, Offer, ReplanLatest, ReplanLines, Enquire, Board, Withdraw}
use Rattle.theorem.specs.Theorem.{Made}
use Rattle.theorem.specs.Soundness.{IsSound}

-- What an offer or a replan puts to the test: starts for the waiting charges of a feeder, in the order of their tickets, or the
-- cause for having none. An offer has the starts that it was given, and each replan those of its rule.
pub data Plan : Type 0 where
  plan : ℕ → Proposal → ℕ → Plan
  no_plan : Plan

-- the feeder, the proposal, and the rounds that were made for it: none but by lines
abbrev pub plan_in : State → Call → List ℕ → Plan
plan_in s (Preview o) numbers = no_plan
plan_in s (Commit o shown) numbers = no_plan
plan_in s (Move target) numbers = no_plan
plan_in s (Offer f) numbers = plan f (starts numbers) 0
plan_in s (ReplanLatest f) numbers = plan f (latest (limits_of s f) s.clock (charges_on s f)) 0
plan_in s (ReplanLines f allowance) numbers =
    plan f
    (by_lines (limits_of s f) s.clock allowance (charges_on s f)).proposal
    (by_lines (limits_of s f) s.clock allowance (charges_on s f)).rounds
plan_in s (Enquire ticket) numbers = no_plan
plan_in s Board numbers = no_plan
plan_in s (Withdraw ticket) numbers = no_plan

-- the call puts this proposal for feeder f to the test, after so many rounds
abbrev pub Proposes : Station → Made → ℕ → Proposal → ℕ → Type 0
Proposes s m f proposal rounds = plan_in (view s) m.call m.numbers ≡ plan f proposal rounds

-- the charges of feeder f, the waiting ones with these starts
abbrev pub with_starts : Station → ℕ → List ℕ → List Charge
with_starts s f ss = restarted s.clock (charges_on (view s) f) ss

-- the minute from which on the site draws nothing more: the largest s + p + r, now and with these starts
abbrev pub end_now : Station → ℕ
end_now s = last_until (loads_of (site_charges (view s)))

abbrev pub end_with : Station → ℕ → List ℕ → ℕ
end_with s f ss = max (last_until (loads_of (others_of (view s) f))) (last_until (loads_of (with_starts s f ss)))

-- The starts are better: none is before the clock, the plan is sound with them, the site ends no later, and the feeder is less late.
abbrev pub AreBetter : Station → ℕ → List ℕ → Type 0
AreBetter s f ss =
    Each (λ start. s.clock ≤ start) ss
    × IsSound s f (loads_of (with_starts s f ss))
    × (end_with s f ss ≤ end_now s)
    × (lateness (with_starts s f ss) < lateness (charges_on (view s) f))
