-- With one feeder and W 720 every answer is as before. From an opening of one feeder every list of calls that name it gives what it
-- gave before, call by call: answers, stations and lists.
use mathlib.Core.Path.{◌≡◌, refl, sym, ap, subst, ◌∙◌}
use Prim.Native.Nat.{ℕ, zero, suc}
use mathlib.Core.Bool.{Bool, true, false, cond, ◌||◌}
use mathlib.Core.List.{List, [], ◌∷◌}
use lib.Dec.{ltb, eqb}
use Rattle.rules.specs.Basics.{Found, at, nothing, first_of, some}
use Rattle.rules.specs.Charge.{has_ticket, without_ticket}
use Rattle.rules.specs.Replan.{Proposal, starts, none, latest, Replanned, by_lines}
use Rattle.rules.specs.Judgement.{judged}
use Rattle.rules.specs.Site.{Feeder, State, charges_on, holding}
use Rattle.rules.specs.Entry.{one_feeder}
use Rattle.rules.specs.Calls.{bound_of, Result, answering, opening, fresh, least, open_refusals, Call, preview, commit, move, offer, replan_latest, replan_lines, enquire, board, withdraw, lent, refusals, draw_for, start_for, previewed_at, previewing, committing, moving, decided, tested, offering, replanning_latest, replanning_lines, enquiring, boarding, withdrawing, granted, step}
use Rattle.rules.specs.Valid.{ValidState}
use Rattle.rules.proofs.Validity.{opening_valid, step_valid}
use Rattle.earlier.specs.Single.{alone, step_before, run_before, NamesOne}
use Rattle.earlier.specs.LawsOfBefore.{Alone, OpeningOfOneIsSame, OneFeederGivesTheSame, FromOpeningOfOne, limits_alone}
use Rattle.earlier.proofs.OneCall.{or-false, step_is}

-- The feeder stays alone

answering_alone : (i : ℕ) (s : State) (list : List ℕ) (r : Result) → Alone s → Alone r.state → Alone (answering i s list r).state
answering_alone zero s list r a b = b
answering_alone (suc i) s list r a b = a

module _ (g : Feeder) (k n : ℕ) where
  tested_alone_lem : (rounds : ℕ) (p : Proposal) (list : List ℕ) → Alone (tested (alone g k n) 1 rounds p list).state
  tested_alone_lem rounds (starts ss) list = go (judged (limits_alone g) k g.charges ss)
    where
      go : (j : ℕ) → Alone (decided (alone g k n) 1 rounds ss list j).state
      go zero = (_, refl)
      go (suc j) = (g, refl)
  tested_alone_lem rounds (none cause) list = (g, refl)

  granted_alone : (c : Call) → NamesOne c → Alone (granted (alone g k n) c).state
  unfolding previewing committing moving offering replanning_latest replanning_lines enquiring boarding withdrawing
  granted_alone (preview f line p d rate) h = go (start_for (alone g k n) f (draw_for (alone g k n) f line p rate))
    where
      go : (r : Found) → Alone (previewed_at (alone g k n) r).state
      go (at start) = (g, refl)
      go nothing = (g, refl)
  granted_alone (commit f line p d rate shown) h = rw h (_, refl)
  granted_alone (move target list) h = (_, refl)
  granted_alone (offer f ss) h = rw h (tested_alone_lem 0 (starts ss) ss)
  granted_alone (replan_latest f) h = rw h (tested_alone_lem 0 (latest (limits_alone g) k g.charges) [])
  granted_alone (replan_lines f allowance) h =
      let r : Replanned = by_lines (limits_alone g) k allowance g.charges in
      rw h (tested_alone_lem r.rounds r.proposal [])
  granted_alone (enquire ticket) h = (g, refl)
  granted_alone (board asked list) h = (g, refl)
  granted_alone (withdraw ticket) h = go (some (has_ticket ticket) g.charges)
    where
      go : (b : Bool) → Alone (holding (alone g k n) (cond b 1 2) (without_ticket ticket (charges_on (alone g k n) (cond b 1 2))) n)
      go true = (_, refl)
      go false = (g, refl)

  step_alone : (c : Call) → NamesOne c → Alone (step (alone g k n) c).state
  step_alone c h =
      answering_alone (first_of (refusals (alone g k n) c)) (alone g k n) (lent c) (granted (alone g k n) c) (g, refl) (granted_alone c h)

-- Lists of calls

pub run_is : OneFeederGivesTheSame
run_is s [] a v h = refl
run_is s (c ∷ calls) (g, e) v h =
    ap (λ (rest : List Result). step s c ∷ rest) (run_is (step s c).state calls stays (step_valid s c v) h.1)
    ∙ ap (λ (r : Result). r ∷ run_before r.state calls) same
  where
    stays : Alone (step s c).state
    stays = subst (λ (x : State). Alone (step x c).state) (sym e) (step_alone g s.clock s.next c h.0)

    same : step s c ≡ step_before s c
    same =
        subst (λ (x : State). step x c ≡ step_before x c) (sym e)
        (step_is g s.clock s.next (subst (λ (x : State). ValidState x) e v) c h.0)

-- From the opening

pub opening_is : OpeningOfOneIsSame
unfolding opening
opening_is n c r =
    rw (
      or-false (ltb n 1 || ltb 60 n),
      or-false (ltb 100 c),
      or-false (eqb (bound_of n c) 0),
      or-false (ltb 5 r),
    )

opened_alone : (n c r : ℕ) → Alone (opening (one_feeder n c r)).state
unfolding opening
opened_alone n c r = answering_alone (first_of (open_refusals (one_feeder n c r))) (fresh least) [] _ (_, refl) (_, refl)

pub old_answers : FromOpeningOfOne
old_answers n c r calls h =
    run_is (opening (one_feeder n c r)).state calls (opened_alone n c r) (opening_valid (one_feeder n c r)) h
    ∙ ap (λ (x : Result). run_before x.state calls) (opening_is n c r)
