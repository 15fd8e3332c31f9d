-- With r = 0 every answer is the old one. From an opening with r 0 on each feeder every list of calls gives what it gave before, call
-- by call: answers, stations and lists.
use mathlib.Core.Path.{◌≡◌, refl, ap, ◌∙◌}
use Prim.Native.Nat.{ℕ, zero, suc, ◌-◌}
use mathlib.Core.Bool.{false, not}
use mathlib.Core.List.{List, [], ◌∷◌, map}
use native.Mathlib.Omega.{arith}
use lib.Dec.{ltb}
use borrow.Author.Tests.{le-ltb}
use Rattle.rules.specs.Basics.{Each, Found, at, nothing, first_of, some}
use Rattle.rules.specs.Charge.{Charge, unfinished_charges, has_ticket}
use Rattle.rules.specs.Replan.{Proposal, starts, none, latest, by_lines}
use Rattle.rules.specs.Judgement.{judged}
use Rattle.rules.specs.Site.{State, feeder_of, charges_on, limits_of, with_charges, holding}
use Rattle.rules.specs.Calls.{Settings, Asked, settings_read, fresh_feeder, Result, answering, fresh, least, open_refusals, opening, Call, preview, commit, move, offer, replan_latest, replan_lines, enquire, board, withdraw, feeder_with, refusals, draw_for, start_for, previewed_at, previewing, committing, moving, decided, tested, offering, replanning_latest, replanning_lines, enquiring, boarding, withdrawing, step}
use Rattle.rules.proofs.Lists.{each_append, keep_each}
use Rattle.rules.proofs.Restarts.{each_restarted}
use Rattle.rules.proofs.Validity.{fresh_joined}
use Rattle.earlier.specs.Untailed.{run_before, AsksNoTail, WithoutTails}
use Rattle.earlier.specs.LawsOfBefore.{OpeningWithoutTailsIsSame, WithoutTailsGiveTheSame, FromOpeningWithoutTails}
use Rattle.earlier.proofs.Feeders.{each_on, each_holding, each_moved, feeder_each, each_set, each_feeders}
use Rattle.earlier.proofs.UntailedCalls.{AtItsEnd, NoTail, no_longer, step_is}

-- Sites stay without tails

holding_stays :
    (s : State) (f : ℕ) (cs : List Charge) (n : ℕ) → WithoutTails s → Each AtItsEnd cs → WithoutTails (holding s f cs n)
holding_stays s f cs n w e =
    record {
      none =
          each_set NoTail s.feeders (f - 1) (with_charges (feeder_of s f) cs) w.none
          (feeder_each NoTail s.feeders (f - 1) w.none refl);
      active = each_holding AtItsEnd s w.active f cs n e;
    }

answering_stays :
    (i : ℕ) (s : State) (list : List ℕ) (r : Result) → WithoutTails s → WithoutTails r.state → WithoutTails (answering i s list r).state
answering_stays zero s list r w v = v
answering_stays (suc i) s list r w v = w

tested_stays : (s : State) (f rounds : ℕ) (p : Proposal) (list : List ℕ) → WithoutTails s → WithoutTails (tested s f rounds p list).state
tested_stays s f rounds (starts ss) list w = go (judged (limits_of s f) s.clock (charges_on s f) ss)
  where
    go : (j : ℕ) → WithoutTails (decided s f rounds ss list j).state
    go zero =
        holding_stays s f _ s.next w
        (each_restarted AtItsEnd (λ c u h. h) s.clock (charges_on s f) ss (each_on AtItsEnd s w.active f))
    go (suc j) = w
tested_stays s f rounds (none cause) list w = w

step_stays : (s : State) (c : Call) → WithoutTails s → WithoutTails (step s c).state
unfolding previewing committing moving offering replanning_latest replanning_lines enquiring boarding withdrawing
step_stays s (preview f line p d rate) w =
    answering_stays (first_of (refusals s (preview f line p d rate))) s [] _ w (go (start_for s f (draw_for s f line p rate)))
  where
    go : (r : Found) → WithoutTails (previewed_at s r).state
    go (at start) = w
    go nothing = w
step_stays s (commit f line p d rate shown) w =
    answering_stays (first_of (refusals s (commit f line p d rate shown))) s [] _ w
    (holding_stays s f _ (suc s.next) w
    (each_append AtItsEnd (charges_on s f) _ (each_on AtItsEnd s w.active f) (no_longer s w f p, tt)))
step_stays s (move target list) w =
    answering_stays (first_of (refusals s (move target list))) s list _ w
    (record {
      none = each_feeders NoTail (λ g. with_charges g (unfinished_charges target g.charges)) (λ g h. h) s.feeders w.none;
      active = each_moved AtItsEnd s w.active target;
    })
step_stays s (offer f ss) w =
    answering_stays (first_of (refusals s (offer f ss))) s ss _ w (tested_stays s f 0 (starts ss) ss w)
step_stays s (replan_latest f) w =
    answering_stays (first_of (refusals s (replan_latest f))) s [] _ w
    (tested_stays s f 0 (latest (limits_of s f) s.clock (charges_on s f)) [] w)
step_stays s (replan_lines f allowance) w =
    answering_stays (first_of (refusals s (replan_lines f allowance))) s [] _ w
    (tested_stays s f (by_lines (limits_of s f) s.clock allowance (charges_on s f)).rounds
    (by_lines (limits_of s f) s.clock allowance (charges_on s f)).proposal [] w)
step_stays s (enquire ticket) w = answering_stays (first_of (refusals s (enquire ticket))) s [] _ w w
step_stays s (board asked list) w = answering_stays (first_of (refusals s (board asked list))) s list _ w w
step_stays s (withdraw ticket) w =
    let f : ℕ = feeder_with ticket 1 s.feeders in
    answering_stays (first_of (refusals s (withdraw ticket))) s [] _ w
    (holding_stays s f _ s.next w
    (keep_each AtItsEnd (λ c. not (has_ticket ticket c)) (charges_on s f) (each_on AtItsEnd s w.active f)))

-- Lists of calls

pub run_is : WithoutTailsGiveTheSame
run_is s [] w = refl
run_is s (c ∷ calls) w =
    ap (λ (rest : List Result). step s c ∷ rest) (run_is (step s c).state calls (step_stays s c w))
    ∙ ap (λ (r : Result). r ∷ run_before r.state calls) (step_is s w c)

-- From the opening

no_tail_above : (xs : List Settings) → Each (λ x. x.tail ≡ 0) xs → some (λ x. ltb 5 x.tail) xs ≡ false
no_tail_above [] e = refl
no_tail_above (x ∷ xs) e = rw (le-ltb 5 x.tail (omega (arith, e.0)), no_tail_above xs e.1)

pub opening_is : OpeningWithoutTailsIsSame
unfolding opening
opening_is a h = rw (no_tail_above (settings_read a) h)

fresh_tails : (xs : List Settings) → Each (λ x. x.tail ≡ 0) xs → Each NoTail (map fresh_feeder xs)
fresh_tails [] e = tt
fresh_tails (x ∷ xs) e = (e.0, fresh_tails xs e.1)

fresh_without : (a : Asked) → AsksNoTail a → WithoutTails (fresh a)
fresh_without a h = record { none = fresh_tails (settings_read a) h; active = rw (fresh_joined (settings_read a)) tt }

opened_without : (a : Asked) → AsksNoTail a → WithoutTails (opening a).state
unfolding opening
opened_without a h =
    answering_stays (first_of (open_refusals a)) (fresh least) [] _ (fresh_without least (refl, tt)) (fresh_without a h)

pub old_answers : FromOpeningWithoutTails
old_answers a calls h =
    run_is (opening a).state calls (opened_without a h)
    ∙ ap (λ (r : Result). run_before r.state calls) (opening_is a h)
