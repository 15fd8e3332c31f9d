-- With every rate 1 the rules are the earlier ones: calls that state no other rate give what they gave before, whole lists of
-- them from any valid site that holds charges of rate 1.
use mathlib.Core.Path.{◌≡◌, refl, ap, ◌∙◌}
use Prim.Native.Nat.{ℕ, zero, suc}
use mathlib.Core.Bool.{Bool, true, false, not, ◌||◌}
use mathlib.Core.List.{List, [], ◌∷◌}
use lib.Dec.{ltb}
use borrow.Author.Tests.{le-ltb}
use Rattle.rules.specs.Basics.{Each, Found, at, nothing, first_of}
use Rattle.rules.specs.Charge.{loads_of, seen, has_ticket}
use Rattle.rules.specs.Replan.{Proposal, starts, none, latest, Replanned, by_lines}
use Rattle.rules.specs.Judgement.{judged}
use Rattle.rules.specs.Site.{State, feeder_of, charges_on, site_charges, others_of, limits_of}
use Rattle.rules.specs.Calls.{Result, answering, Call, preview, commit, move, offer, replan_latest, replan_lines, enquire, board, withdraw, no_such_feeder, feeder_with, refusals, draw_for, start_for, previewed_at, previewing, committing, moving, decided, tested, offering, replanning_latest, replanning_lines, enquiring, boarding, withdrawing, step}
use Rattle.rules.specs.Valid.{IsFeeder, ValidState}
use Rattle.earlier.specs.Unrated.{tested_before, start_for_before, step_before, run_before, AtRateOne, StatesOne}
use Rattle.earlier.specs.LawsOfBefore.{RateOneGivesTheSame}
use Rattle.rules.proofs.Lists.{each_append, keep_each}
use Rattle.rules.proofs.Granted.{feeder_granted}
use Rattle.rules.proofs.Restarts.{each_restarted}
use Rattle.rules.proofs.Validity.{step_valid}
use Rattle.earlier.proofs.Feeders.{each_on, each_others, each_holding, each_moved}
use Rattle.earlier.proofs.Unrated.{One, loads_one, elsewhere_one, earliest_is}
use Rattle.earlier.proofs.UnratedPlans.{latest_is, lines_is, judged_is}

-- One call

module _ (s : State) (v : ValidState s) (one : AtRateOne (site_charges s)) where
  own-one : (f : ℕ) → AtRateOne (charges_on s f)
  own-one f = each_on (λ c. c.rate ≡ 1) s one f

  others_one : (f : ℕ) → Each One (limits_of s f).others
  others_one f =
      elsewhere_one (loads_of (others_of s f)) (loads_one (others_of s f) (each_others (λ c. c.rate ≡ 1) s one f))

  tested_is : (f rounds : ℕ) (p : Proposal) (list : List ℕ) → tested s f rounds p list ≡ tested_before s f rounds p list
  tested_is f rounds (starts ss) list =
      ap (decided s f rounds ss list) (judged_is (limits_of s f) s.clock (charges_on s f) (own-one f) (others_one f) ss)
  tested_is f rounds (none cause) list = refl

  start_is : (f line p : ℕ) → start_for s f (draw_for s f line p 1) ≡ start_for_before s f line p 1
  start_is f line p =
      earliest_is (seen (limits_of s f) (charges_on s f))
      (each_append One (limits_of s f).others (loads_of (charges_on s f)) (others_one f) (loads_one (charges_on s f) (own-one f)))
      (limits_of s f) s.clock (draw_for s f line p 1) refl

  -- 17 and 18 do not apply to a rate of 1, where an order names a feeder; where it names none, 29 goes before them
  order_is :
      (c : Call) (f : ℕ)
      → (IsFeeder s f → step s c ≡ step_before s c)
      → ((no_such_feeder s f).0 ≡ true → step s c ≡ step_before s c)
      → step s c ≡ step_before s c
  order_is c f is missing = go (no_such_feeder s f).0 refl
    where
      go : (b : Bool) → (no_such_feeder s f).0 ≡ b → step s c ≡ step_before s c
      go true e = missing e
      go false e = is (feeder_granted s f e)

  rate_low : (f : ℕ) → IsFeeder s f → ltb (feeder_of s f).limit 1 || ltb (feeder_of s f).bound 1 || ltb s.site 1 ≡ false
  rate_low f h =
      rw (
        le-ltb (feeder_of s f).limit 1 (v.settings f h).limit_low,
        le-ltb (feeder_of s f).bound 1 (v.settings f h).bound_low,
        le-ltb s.site 1 v.site_low,
      )

  pub step_is : (c : Call) → StatesOne c → step s c ≡ step_before s c
  unfolding previewing offering replanning_latest replanning_lines
  step_is (preview f line p d rate) h =
      rw h (order_is (preview f line p d 1) f (λ i. rw (start_is f line p, rate_low f i)) (λ e. rw e))
  step_is (commit f line p d rate shown) h =
      rw h (order_is (commit f line p d 1 shown) f (λ i. rw (start_is f line p, rate_low f i)) (λ e. rw e))
  step_is (move target list) h = refl
  step_is (offer f ss) h = ap (answering (first_of (refusals s (offer f ss))) s ss) (tested_is f 0 (starts ss) ss)
  step_is (replan_latest f) h =
      ap (answering (first_of (refusals s (replan_latest f))) s [])
      (tested_is f 0 (latest (limits_of s f) s.clock (charges_on s f)) []
      ∙ ap (λ (p : Proposal). tested_before s f 0 p []) (latest_is (limits_of s f) s.clock (charges_on s f) (own-one f) (others_one f)))
  step_is (replan_lines f allowance) h =
      ap (answering (first_of (refusals s (replan_lines f allowance))) s [])
      (tested_is f (by_lines (limits_of s f) s.clock allowance (charges_on s f)).rounds
      (by_lines (limits_of s f) s.clock allowance (charges_on s f)).proposal []
      ∙ ap (λ (r : Replanned). tested_before s f r.rounds r.proposal [])
      (lines_is (limits_of s f) s.clock (charges_on s f) (own-one f) (others_one f) allowance))
  step_is (enquire ticket) h = refl
  step_is (board asked list) h = refl
  step_is (withdraw ticket) h = refl

-- Rates stay 1

answering_one :
    (i : ℕ) (s : State) (list : List ℕ) (r : Result)
    → AtRateOne (site_charges s)
    → AtRateOne (site_charges r.state)
    → AtRateOne (site_charges (answering i s list r).state)
answering_one zero s list r e f = f
answering_one (suc i) s list r e f = e

tested_one :
    (s : State) (f rounds : ℕ) (p : Proposal) (list : List ℕ)
    → AtRateOne (site_charges s)
    → AtRateOne (site_charges (tested s f rounds p list).state)
tested_one s f rounds (starts ss) list e = go (judged (limits_of s f) s.clock (charges_on s f) ss)
  where
    go : (j : ℕ) → AtRateOne (site_charges (decided s f rounds ss list j).state)
    go zero =
        each_holding (λ c. c.rate ≡ 1) s e f _ s.next
        (each_restarted (λ c. c.rate ≡ 1) (λ c u h. h) s.clock (charges_on s f) ss (each_on (λ c. c.rate ≡ 1) s e f))
    go (suc j) = e
tested_one s f rounds (none cause) list e = e

step_one : (s : State) (c : Call) → StatesOne c → AtRateOne (site_charges s) → AtRateOne (site_charges (step s c).state)
unfolding previewing committing moving offering replanning_latest replanning_lines enquiring boarding withdrawing
step_one s (preview f line p d rate) h e =
    answering_one (first_of (refusals s (preview f line p d rate))) s [] _ e (go (start_for s f (draw_for s f line p rate)))
  where
    go : (r : Found) → AtRateOne (site_charges (previewed_at s r).state)
    go (at start) = e
    go nothing = e
step_one s (commit f line p d rate shown) h e =
    answering_one (first_of (refusals s (commit f line p d rate shown))) s [] _ e
    (each_holding (λ c. c.rate ≡ 1) s e f _ (suc s.next)
    (each_append (λ c. c.rate ≡ 1) (charges_on s f) _ (each_on (λ c. c.rate ≡ 1) s e f) (h, tt)))
step_one s (move target list) h e =
    answering_one (first_of (refusals s (move target list))) s list _ e (each_moved (λ c. c.rate ≡ 1) s e target)
step_one s (offer f ss) h e =
    answering_one (first_of (refusals s (offer f ss))) s ss _ e (tested_one s f 0 (starts ss) ss e)
step_one s (replan_latest f) h e =
    answering_one (first_of (refusals s (replan_latest f))) s [] _ e
    (tested_one s f 0 (latest (limits_of s f) s.clock (charges_on s f)) [] e)
step_one s (replan_lines f allowance) h e =
    answering_one (first_of (refusals s (replan_lines f allowance))) s [] _ e
    (tested_one s f (by_lines (limits_of s f) s.clock allowance (charges_on s f)).rounds
    (by_lines (limits_of s f) s.clock allowance (charges_on s f)).proposal [] e)
step_one s (enquire ticket) h e = answering_one (first_of (refusals s (enquire ticket))) s [] _ e e
step_one s (board asked list) h e = answering_one (first_of (refusals s (board asked list))) s list _ e e
step_one s (withdraw ticket) h e =
    let f : ℕ = feeder_with ticket 1 s.feeders in
    answering_one (first_of (refusals s (withdraw ticket))) s [] _ e
    (each_holding (λ c. c.rate ≡ 1) s e f _ s.next
    (keep_each (λ c. c.rate ≡ 1) (λ c. not (has_ticket ticket c)) (charges_on s f) (each_on (λ c. c.rate ≡ 1) s e f)))

-- Lists of calls

pub run_is : RateOneGivesTheSame
run_is s [] v e h = refl
run_is s (c ∷ calls) v e h =
    ap (λ (rest : List Result). step s c ∷ rest) (run_is (step s c).state calls (step_valid s c v) (step_one s c h.0 e) h.1)
    ∙ ap (λ (r : Result). r ∷ run_before r.state calls) (step_is s v e c h.0)
