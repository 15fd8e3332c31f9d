-- Demand 1.
use mathlib.Core.Logic.{inl, inr}
use mathlib.Core.Path.{◌≡◌, refl, sym, ap, subst, ◌∙◌}
use Prim.Native.Nat.{ℕ, zero, suc}
use mathlib.Core.Bool.{Bool, true, false, ◌||◌, true≢false}
use mathlib.Core.List.{List, [], ◌∷◌, map}
use native.Mathlib.Omega.{arith}
use lib.Dec.{eqb}
use Rattle.rules.specs.Basics.{some, first_of}
use Rattle.rules.specs.Charge.{Charge, end_of, is_begun, has_ticket}
use Rattle.rules.specs.Replan.{Proposal, starts, none, latest, Replanned, by_lines}
use Rattle.rules.specs.Judgement.{judged}
use Rattle.rules.specs.Site.{State, charges_on, site_charges, limits_of}
use Rattle.rules.specs.Calls.{Asked, Answer, refused, opened, planned, Result, answering, fresh, least, open_refusals, opening, Call, preview, commit, move, offer, replan_latest, replan_lines, enquire, board, withdraw, lent, refusals, previewing, committing, moving, decided, tested, offering, replanning_latest, replanning_lines, told, enquiring, boarding, withdrawing, granted, step}
use Rattle.rules.specs.Valid.{ValidState}
use Rattle.rules.proofs.Tables.{Numbered, first_of_none, none_first_of}
use Rattle.rules.proofs.Granted.{refusals_numbered, open_refusals_numbered, order_granted, enquire_granted}
use Rattle.rules.proofs.Validity.{opening_valid, step_valid, order_found}
use Rattle.guarantee.specs.Past.{is_refused, Past, beginning, extended, after}
use Rattle.guarantee.specs.Demands.{reached}
use Rattle.guarantee.specs.DemandOne.{FirstIs, NoneApplies, RefusedBy, AnswerTo, DemandOne, DemandOneOpening}
use Rattle.guarantee.specs.Follows.{OwnAnswersAreNoRefusals}
use Rattle.guarantee.proofs.Tables.{first_of_is, is_first_of, is_numbered}

-- What a table makes of a call

-- a refusal of an answer that is none
not_refused : (a : Answer) (k : ℕ) → is_refused a ≡ false → a ≡ refused k → ⊥
not_refused a k e p = true≢false (sym (ap is_refused p) ∙ e)

refused_by :
    (rows : List (Bool × ℕ)) (kept : State) (list : List ℕ) (r : Result)
    → Numbered rows
    → (NoneApplies rows → is_refused r.answer ≡ false)
    → RefusedBy rows kept list (answering (first_of rows) kept list r)
refused_by rows kept list r numbered plain = go (first_of rows) refl
  where
    go : (i : ℕ) → first_of rows ≡ i → RefusedBy rows kept list (answering i kept list r)
    go zero e =
        let free : is_refused r.answer ≡ false = plain (first_of_none rows numbered e) in
        record {
          number =
              λ k. (
                (λ p. absurd (not_refused r.answer k free p)),
                (λ h. absurd (positive k h (sym (is_first_of k rows h) ∙ e))),
              );
          same_station = λ p. absurd (true≢false (sym p ∙ free));
          same_list_lem = λ p. absurd (true≢false (sym p ∙ free));
        }
      where
        positive : (k : ℕ) → FirstIs rows k → k ≡ 0 → ⊥
        positive k h z = omega (arith, is_numbered k rows numbered h)
    go (suc i) e =
        record {
          number =
              λ k. (
                (λ p. let same : suc i ≡ k = cc in rw (← same) (first_of_is i rows e)),
                (λ h. ap refused (sym e ∙ is_first_of k rows h)),
              );
          same_station = λ p. refl;
          same_list_lem = λ p. refl;
        }

-- an answer of a call's own kind is no refusal
pub answer_not_refused : OwnAnswersAreNoRefusals
answer_not_refused (preview f line p d rate) a (s, e) = rw e
answer_not_refused (commit f line p d rate shown) a (t, e) = rw e
answer_not_refused (move target list) a (n, m, e) = rw e
answer_not_refused (offer f ss) a (i, b, c, n, e) = rw e
answer_not_refused (replan_latest f) a (i, b, c, n, e) = rw e
answer_not_refused (replan_lines f allowance) a (i, b, c, n, e) = rw e
answer_not_refused (enquire ticket) a (inl (s, w, e)) = rw e
answer_not_refused (enquire ticket) a (inr (s, u, w, e)) = rw e
answer_not_refused (board asked list) a (n, e) = rw e
answer_not_refused (withdraw ticket) a e = rw e

-- a tested plan is answered with a cause
abbrev Planned : Answer → Type 0
Planned a = (i : ℕ) × (b : ℕ) × (c : ℕ) × (n : ℕ) × (a ≡ planned i b c n)

decided_planned :
    (s : State) (f rounds : ℕ) (ss list : List ℕ) (j : ℕ) → Planned (decided s f rounds ss list j).answer
decided_planned s f rounds ss list zero = (_, _, _, _, refl)
decided_planned s f rounds ss list (suc j) = (_, _, _, _, refl)

tested_planned : (s : State) (f rounds : ℕ) (p : Proposal) (list : List ℕ) → Planned (tested s f rounds p list).answer
tested_planned s f rounds (starts ss) list =
    decided_planned s f rounds ss list (judged (limits_of s f) s.clock (charges_on s f) ss)
tested_planned s f rounds (none cause) list = (_, _, _, _, refl)

-- a held charge is told of
told_held :
    (k t : ℕ) (cs : List Charge)
    → some (has_ticket t) cs ≡ true
    → AnswerTo (enquire t) (told k cs t)
told_held k t [] e = absurd (true≢false (sym e))
told_held k t (c ∷ cs) e = go (eqb c.ticket t) refl (is_begun k c) refl e (told_held k t cs)
  where
    go :
        (a : Bool)
        → eqb c.ticket t ≡ a
        → (b : Bool)
        → is_begun k c ≡ b
        → a || some (has_ticket t) cs ≡ true
        → (some (has_ticket t) cs ≡ true → AnswerTo (enquire t) (told k cs t))
        → AnswerTo (enquire t) (told k (c ∷ cs) t)
    go true p true q u later = inr (c.start, end_of c, c.rate, rw (p, q))
    go true p false q u later = inl (c.start, c.rate, rw (p, q))
    go false p b q u later = rw p (later u)

granted_answer : (s : State) (c : Call) → ValidState s → NoneApplies (refusals s c) → AnswerTo c (granted s c).answer
unfolding previewing committing moving offering replanning_latest replanning_lines enquiring boarding withdrawing
granted_answer s (preview f line p d rate) v q =
    let found = order_found s f line p d rate v (order_granted s f line p d rate q) in (found.0, rw found.1)
granted_answer s (commit f line p d rate shown) v q = (s.next, refl)
granted_answer s (move target list) v q = (_, _, refl)
granted_answer s (offer f ss) v q = tested_planned s f 0 (starts ss) ss
granted_answer s (replan_latest f) v q =
    tested_planned s f 0 (latest (limits_of s f) s.clock (charges_on s f)) []
granted_answer s (replan_lines f allowance) v q =
    let r : Replanned = by_lines (limits_of s f) s.clock allowance (charges_on s f) in
    tested_planned s f r.rounds r.proposal []
granted_answer s (enquire ticket) v q =
    told_held s.clock ticket (site_charges s) (enquire_granted s ticket q)
granted_answer s (board asked list) v q = (_, refl)
granted_answer s (withdraw ticket) v q = refl

-- The demand

pub valid_demand_one : (s : State) → ValidState s → (call : Call) → DemandOne step s call
valid_demand_one s v call =
    record {
      refused_by =
          refused_by (refusals s call) s (lent call) (granted s call) (refusals_numbered s call)
          (λ q. answer_not_refused call (granted s call).answer (granted_answer s call v q));
      answered =
          λ q.
          subst (λ (i : ℕ). AnswerTo call (answering i s (lent call) (granted s call)).answer)
          (sym (none_first_of (refusals s call) q))
          (granted_answer s call v q);
    }

-- every station that calls lead to from a valid one is valid
pub after_valid : (calls : List Call) (h : Past) → ValidState h.station → ValidState (after step h calls).station
after_valid [] h v = v
after_valid (x ∷ calls) h v = after_valid calls (extended h x (step h.station x)) (step_valid h.station x v)

pub reached_valid : (a : Asked) (calls : List Call) → ValidState (reached a calls)
reached_valid a calls = after_valid calls (beginning (opening a).state) (opening_valid a)

pub demand_one : (a : Asked) (calls : List Call) (call : Call) → DemandOne step (reached a calls) call
demand_one a calls call = valid_demand_one (reached a calls) (reached_valid a calls) call

pub demand_one_opening : (a : Asked) → DemandOneOpening opening a
unfolding opening
demand_one_opening a =
    record {
      refused_by =
          refused_by (open_refusals a) (fresh least) []
          (record { answer = opened (map (λ g. g.bound) (fresh a).feeders); state = fresh a; list = [] })
          (open_refusals_numbered a)
          (λ q. refl);
      answered = λ q. rw (none_first_of (open_refusals a) q) (refl, refl);
    }
