-- How much of the lent list is printed: a report or the answers of a board, and nothing with any other answer.
use mathlib.Core.Path.{◌≡◌, refl}
use mathlib.Core.Bool.{Bool, true, false, cond}
use mathlib.Core.List.{List, [], ◌∷◌}
use Prim.Native.Nat.{ℕ, zero, suc, ◌-◌, ◌*◌, ◌≤◌, ◌<◌}
use native.Mathlib.Omega.{arith}
use lib.Dec.{ltb, eqb}
use borrow.Author.Tests.{ltb-false}
use lib.ListN.{length, get_or, length-append}
use Rattle.rules.specs.Basics.{Found, at, nothing, first_of, keep}
use Rattle.rules.specs.Charge.{Charge, end_of, is_begun}
use Rattle.rules.specs.Replan as replan
use Rattle.rules.specs.Replan.{Proposal, latest, by_lines}
use Rattle.rules.specs.Judgement.{judged}
use Rattle.rules.specs.Site.{Feeder, no_feeder, State, charges_on, site_charges, limits_of, joined}
use Rattle.rules.specs.Valid.{ValidState}
use Rattle.rules.specs.Calls as rules
use Rattle.rules.specs.Calls.{Answer, refused, opened, previewed, committed, moved, planned, waiting, charging, looked, withdrawn, preview, commit, move, offer, replan_latest, replan_lines, enquire, board, withdraw, Result, step, refusals, answering, draw_for, start_for, previewed_at, decided, tested, previewing, committing, moving, offering, replanning_latest, replanning_lines, enquiring, boarding, withdrawing, rises_from, is_passed, start_before}
use Rattle.rules.proofs.Lists.{length_keep}
use Rattle.rules.proofs.Sorting.{length-sorted}
use Rattle.answers.specs.Answers.{answer_text, listed_of}
use Rattle.calls.specs.declared.Call.{Call}
use Rattle.calls.specs.declared.Call.TheVariants.{Preview, Commit, Move, Offer, ReplanLatest, ReplanLines, Enquire, Board, Withdraw}
use Rattle.calls.specs.Applied.{call_of, Lends, none, reads, writes, both, lends, lent_of}

-- where nothing of the lent list is printed, any other would do
text_same : (a : Answer) (asked : ℕ) (list other : List ℕ) → listed_of a asked ≡ 0 → answer_text a asked list ≡ answer_text a asked other
unfolding answer_text
text_same (refused k) asked list other e = refl
text_same (opened bounds) asked list other e = refl
text_same (previewed u) asked list other e = refl
text_same (committed t u) asked list other e = refl
text_same (moved k d) asked list other e = rw e
text_same (planned c b a k) asked list other e = refl
text_same (waiting u w) asked list other e = refl
text_same (charging u v w) asked list other e = refl
text_same (looked n) asked list other e = rw e
text_same withdrawn asked list other e = refl

-- Whatever numbers were read, nothing is printed of the list with any answer but a move's and a board's

module _ (asked : ℕ) where
  refused_none : (i : ℕ) (s : State) (list : List ℕ) (r : Result) → listed_of r.answer asked ≡ 0 → listed_of (answering i s list r).answer asked ≡ 0
  refused_none zero s list r e = e
  refused_none (suc k) s list r e = refl

  previewed_none : (s : State) (f : Found) → listed_of (previewed_at s f).answer asked ≡ 0
  previewed_none s (at start) = refl
  previewed_none s nothing = refl

  decided_none : (s : State) (f rounds : ℕ) (ss list : List ℕ) (cause : ℕ) → listed_of (decided s f rounds ss list cause).answer asked ≡ 0
  decided_none s f rounds ss list zero = refl
  decided_none s f rounds ss list (suc k) = refl

  tested_none : (s : State) (f rounds : ℕ) (p : Proposal) (list : List ℕ) → listed_of (tested s f rounds p list).answer asked ≡ 0
  tested_none s f rounds (replan.starts ss) list = decided_none s f rounds ss list (judged (limits_of s f) s.clock (charges_on s f) ss)
  tested_none s f rounds (replan.none cause) list = refl

  enquired_none : (clock : ℕ) (cs : List Charge) (ticket : ℕ) → listed_of (rules.told clock cs ticket) asked ≡ 0
  enquired_none clock [] ticket = refl
  enquired_none clock (c ∷ cs) ticket = go (eqb c.ticket ticket) (is_begun clock c) (enquired_none clock cs ticket)
    where
      go :
          (a b : Bool) → listed_of (rules.told clock cs ticket) asked ≡ 0
          → listed_of (cond a (cond b (charging c.start (end_of c) c.rate) (waiting c.start c.rate)) (rules.told clock cs ticket)) asked ≡ 0
      go true true h = refl
      go true false h = refl
      go false b h = h

-- no feeder holds more than 180 charges
few_joined : (gs : List Feeder) → ((i : ℕ) → i < length gs → length (get_or gs i no_feeder).charges ≤ 180) → length (joined gs) ≤ 180 * length gs
few_joined [] h = omega arith
few_joined (g ∷ gs) h =
    omega (arith, length-append g.charges (joined gs), h 0 (omega arith), few_joined gs (λ i k. h (suc i) (omega arith)))

few_held : (s : State) → ValidState s → length (site_charges s) ≤ 180 * length s.feeders
few_held s v =
    few_joined s.feeders (λ i h. let e : suc i - 1 ≡ i = omega arith in rw e at (v.plan (suc i) (record { low = omega arith; high = omega arith })).few)

-- "report list under 360 places" for each feeder is refused, and no more charges are reported than are held
few_moved :
    (s : State) (target asked : ℕ) (list : List ℕ) → ValidState s
    → (listed_of (step s (move target list)).answer asked ≤ 1440) × (listed_of (step s (move target list)).answer asked ≤ length list)
unfolding moving
few_moved s target asked list v = go (ltb 1000000 target) refl (ltb (length list) room) refl (ltb target s.clock) refl
  where
    room : ℕ
    room = 360 * length s.feeders

    go :
        (a : Bool) → ltb 1000000 target ≡ a → (b : Bool) → ltb (length list) room ≡ b → (d : Bool) → ltb target s.clock ≡ d
        → (listed_of (step s (move target list)).answer asked ≤ 1440) × (listed_of (step s (move target list)).answer asked ≤ length list)
    go true p b q d u = rw p (omega arith)
    go false p true q d u = rw (p, q) (omega arith)
    go false p false q true u = rw (p, q, u) (omega arith)
    go false p false q false u =
        rw (p, q, u) (omega (arith, length-sorted start_before (keep (is_passed s.clock target) (site_charges s)), length_keep (is_passed s.clock target) (site_charges s), few_held s v, v.feeders_high, ltb-false (length list) room q))

-- an answer list that is too short is refused, and so are more tickets than 180
few_boarded :
    (s : State) (ss list : List ℕ)
    → (listed_of (step s (board ss list)).answer (length ss) ≤ 1440) × (listed_of (step s (board ss list)).answer (length ss) ≤ length list)
unfolding boarding
few_boarded s ss list = go (rises_from 0 ss) refl (ltb 180 (length ss)) refl (ltb (length list) (length ss)) refl
  where
    go :
        (a : Bool) → rises_from 0 ss ≡ a → (b : Bool) → ltb 180 (length ss) ≡ b → (d : Bool) → ltb (length list) (length ss) ≡ d
        → (listed_of (step s (board ss list)).answer (length ss) ≤ 1440) × (listed_of (step s (board ss list)).answer (length ss) ≤ length list)
    go false p b q d u = rw p (omega arith)
    go true p true q d u = rw (p, q) (omega arith)
    go true p false q true u = rw (p, q, u) (omega arith)
    go true p false q false u = rw (p, q, u) (omega (arith, ltb-false 180 (length ss) q, ltb-false (length list) (length ss) u))

-- how many numbers of the list are printed with what a call answers
abbrev pub Reports : Lends → ℕ → ℕ → Type 0
Reports none n places = n ≡ 0
Reports reads n places = n ≡ 0
Reports writes n places = (n ≤ 1440) × (n ≤ places)
Reports both n places = (n ≤ 1440) × (n ≤ places)

pub reports :
    (s : State) (c : Call) (ss list : List ℕ) → ValidState s
    → Reports (lends c) (listed_of (step s (call_of c ss list)).answer (length ss)) (length list)
unfolding previewing committing offering replanning_latest replanning_lines enquiring withdrawing
reports s (Preview o) ss list v =
    refused_none (length ss) (first_of (refusals s (preview o.feeder o.line o.time o.due o.rate))) s [] (previewing s o.feeder o.line o.time o.due o.rate) (previewed_none (length ss) s (start_for s o.feeder (draw_for s o.feeder o.line o.time o.rate)))
reports s (Commit o shown) ss list v =
    refused_none (length ss) (first_of (refusals s (commit o.feeder o.line o.time o.due o.rate shown))) s [] (committing s o.feeder o.line o.time o.due o.rate shown) refl
reports s (Move target) ss list v = few_moved s target (length ss) list v
reports s (Offer f) ss list v =
    refused_none (length ss) (first_of (refusals s (offer f ss))) s ss (offering s f ss) (tested_none (length ss) s f 0 (replan.starts ss) ss)
reports s (ReplanLatest f) ss list v =
    refused_none (length ss) (first_of (refusals s (replan_latest f))) s [] (replanning_latest s f) (tested_none (length ss) s f 0 (latest (limits_of s f) s.clock (charges_on s f)) [])
reports s (ReplanLines f allowance) ss list v =
    refused_none (length ss) (first_of (refusals s (replan_lines f allowance))) s [] (replanning_lines s f allowance) (tested_none (length ss) s f (by_lines (limits_of s f) s.clock allowance (charges_on s f)).rounds (by_lines (limits_of s f) s.clock allowance (charges_on s f)).proposal [])
reports s (Enquire ticket) ss list v =
    refused_none (length ss) (first_of (refusals s (enquire ticket))) s [] (enquiring s ticket) (enquired_none (length ss) s.clock (site_charges s) ticket)
reports s Board ss list v = few_boarded s ss list
reports s (Withdraw ticket) ss list v = refused_none (length ss) (first_of (refusals s (withdraw ticket))) s [] (withdrawing s ticket) refl

pub few_reports : (l : Lends) (n places : ℕ) → Reports l n places → (n ≤ 1440) × (n ≤ places)
few_reports none n places h = omega arith
few_reports reads n places h = omega arith
few_reports writes n places h = h
few_reports both n places h = h

pub text_after :
    (l : Lends) (a : Answer) (asked : ℕ) (ss list : List ℕ) (places : ℕ) → Reports l (listed_of a asked) places
    → answer_text a asked list ≡ answer_text a asked (lent_of l ss list)
text_after none a asked ss list places h = text_same a asked list [] h
text_after reads a asked ss list places h = text_same a asked list ss h
text_after writes a asked ss list places h = refl
text_after both a asked ss list places h = refl
