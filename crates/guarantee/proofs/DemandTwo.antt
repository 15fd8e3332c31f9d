-- Demand 2.
use mathlib.Core.Logic.{◌↔◌}
use mathlib.Core.Path.{◌≡◌, refl, sym, ap, subst}
use Prim.Native.Nat.{ℕ, zero, suc, ◌≤◌}
use mathlib.Core.List.{List, []}
use native.Mathlib.Omega.{arith}
use lib.ListN.{length}
use Rattle.rules.specs.Basics.{first_of}
use Rattle.rules.specs.Charge.{waiting_charges, lateness}
use Rattle.rules.specs.Replan.{Proposal, starts, none, latest, Replanned, by_lines}
use Rattle.rules.specs.Judgement.{restarted, judged}
use Rattle.rules.specs.Site.{Feeder, State, charges_on, limits_of, holding}
use Rattle.rules.specs.Calls.{Asked, refused, planned, Result, answering, Call, offer, replan_latest, replan_lines, lent, refusals, decided, tested, offering, replanning_latest, replanning_lines, granted, step}
use Rattle.rules.specs.Valid.{IsFeeder, ValidState}
use Rattle.rules.proofs.Tables.{none_first_of}
use Rattle.rules.proofs.Granted.{refusals_none, feeder_granted, offer_granted}
use Rattle.rules.proofs.Judgements.{Meets, judged_meets}
use Rattle.rules.proofs.Restarts.{Restarted, restarted_is}
use Rattle.rules.proofs.Sites.{put_same}
use Rattle.guarantee.specs.DemandOne.{FirstIs, NoneApplies}
use Rattle.guarantee.specs.DemandTwo.{Taken, GivenStarts, cause_of, Tested, DemandTwo}
use Rattle.guarantee.specs.Demands.{reached}
use Rattle.guarantee.proofs.Proposals.{Proper, latest_proper, lines_proper, restarted_starts, restarted_begun, restarted_otherwise}
use Rattle.guarantee.proofs.Orders.{preview_start, commit_start}
use Rattle.guarantee.proofs.Boards.{board_shown}
use Rattle.guarantee.proofs.Leaving.{withdrawal}
use Rattle.guarantee.proofs.DemandOne.{valid_demand_one, reached_valid}
use Rattle.guarantee.proofs.Taking.{same_starts, none_apart, not_taken, refused_not_taken, taken_follows}

-- The test of a plan

-- what the test makes of a proposal
record Judged (s : State) (f : ℕ) (p : Proposal) (rounds : ℕ) (r : Result) : Type 0 where
  given : (ss : List ℕ) → p ≡ starts ss → Taken r.answer → GivenStarts s f ss r.state
  unchanged : (Taken r.answer → ⊥) → r.state ≡ s
  answer : r.answer ≡ planned (cause_of s f p) (lateness (charges_on s f)) (lateness (charges_on r.state f)) rounds

tested_judged :
    (s : State) (f : ℕ)
    → IsFeeder s f
    → (rounds : ℕ) (p : Proposal) (list : List ℕ)
    → Proper (length (waiting_charges s.clock (charges_on s f))) p
    → Judged s f p rounds (tested s f rounds p list)
tested_judged s f h rounds (starts ss) list proper = go (judged (limits_of s f) s.clock (charges_on s f) ss) refl
  where
    now : charges_on (holding s f (restarted s.clock (charges_on s f) ss) s.next) f ≡ restarted s.clock (charges_on s f) ss
    now = ap (λ (g : Feeder). g.charges) (put_same s f h s.next (restarted s.clock (charges_on s f) ss))

    go :
        (j : ℕ)
        → judged (limits_of s f) s.clock (charges_on s f) ss ≡ j
        → Judged s f (starts ss) rounds (decided s f rounds ss list j)
    go zero e =
        let m : Meets (limits_of s f) s.clock (charges_on s f) ss (restarted s.clock (charges_on s f) ss)
        = judged_meets (limits_of s f) s.clock (charges_on s f) ss e in
        let r : Restarted s.clock (charges_on s f) (restarted s.clock (charges_on s f) ss)
        = restarted_is s.clock (charges_on s f) ss m.none_early in
        record {
          given =
              λ us q t.
              rw (← (same_starts ss us q))
              (record {
                waiting_starts = rw now (restarted_starts s.clock (charges_on s f) ss m.none_early proper);
                begun_same = rw now (restarted_begun r);
                charges_same = rw now (restarted_otherwise r);
                station_same = rw now;
              });
          unchanged = λ n. absurd (n (_, _, _, refl));
          answer = rw (e, now);
        }
    go (suc j) e =
        record {
          given = λ us q t. absurd (not_taken j _ _ _ t);
          unchanged = λ n. refl;
          answer = rw e;
        }
tested_judged s f h rounds (none cause) list proper =
    record {
      given = λ us q t. absurd (none_apart cause us q);
      unchanged = λ n. refl;
      answer = refl;
    }

-- a tested list stays
tested_list : (s : State) (f rounds : ℕ) (p : Proposal) (list : List ℕ) → (tested s f rounds p list).list ≡ list
tested_list s f rounds (starts ss) list = go (judged (limits_of s f) s.clock (charges_on s f) ss)
  where
    go : (j : ℕ) → (decided s f rounds ss list j).list ≡ list
    go zero = refl
    go (suc j) = refl
tested_list s f rounds (none cause) list = refl

-- a call that ends with the test, refused or not
call_tested :
    (s : State) (f : ℕ) (call : Call) (p : Proposal) (rounds : ℕ)
    → ValidState s
    → (NoneApplies (refusals s call) → IsFeeder s f)
    → (p ≡ none 0 → ⊥)
    → (NoneApplies (refusals s call) → Judged s f p rounds (granted s call))
    → (granted s call).list ≡ lent call
    → Tested s f call p rounds (step s call)
call_tested s f call p rounds v named some j same = go (first_of (refusals s call)) refl (valid_demand_one s v call).refused_by.number
  where
    go :
        (i : ℕ)
        → first_of (refusals s call) ≡ i
        → ((k : ℕ) → ((answering i s (lent call) (granted s call)).answer ≡ refused k) ↔ FirstIs (refusals s call) k)
        → Tested s f call p rounds (answering i s (lent call) (granted s call))
    go zero e number =
        let judged = j (refusals_none s call e) in
        record {
          taken = taken_follows s v f call named p some rounds (granted s call) number (λ q. judged.answer);
          given = judged.given;
          unchanged = judged.unchanged;
          answer = λ q. judged.answer;
          same_list_lem = same;
        }
    go (suc i) e number =
        record {
          taken =
              taken_follows s v f call named p some rounds (answering (suc i) s (lent call) (granted s call)) number
              (λ q. absurd (apart e (none_first_of (refusals s call) q)));
          given = λ us q t. absurd (refused_not_taken (suc i) t);
          unchanged = λ n. refl;
          answer = λ q. absurd (apart e (none_first_of (refusals s call) q));
          same_list_lem = refl;
        }
      where
        apart : first_of (refusals s call) ≡ suc i → first_of (refusals s call) ≡ 0 → ⊥
        apart p q = omega arith

-- a proposal of a replan without starts has a cause
proper_cause : (n : ℕ) (p : Proposal) → Proper n p → p ≡ none 0 → ⊥
proper_cause n p proper e = let h : 1 ≤ 0 = subst (Proper n) e proper in omega arith

-- The demand

pub valid_demand_two : (s : State) → ValidState s → DemandTwo step s
unfolding offering replanning_latest replanning_lines
valid_demand_two s v =
    record {
      previews = λ f line p d rate. preview_start s f line p d rate v;
      commits = λ f line p d rate shown q. commit_start s f line p d rate shown v q;
      offers =
          λ f ss.
          call_tested s f (offer f ss) (starts ss) 0 v (λ q. (offer_granted s f ss q).is_feeder_lem) (λ e. none_apart 0 ss (sym e))
          (λ q. let g = offer_granted s f ss q in tested_judged s f g.is_feeder_lem 0 (starts ss) ss g.each_waiting)
          (tested_list s f 0 (starts ss) ss);
      replans_latest =
          λ f.
          let p : Proposal = latest (limits_of s f) s.clock (charges_on s f) in
          let proper = latest_proper (limits_of s f) s.clock (charges_on s f) in
          let named : NoneApplies (refusals s (replan_latest f)) → IsFeeder s f = λ q. feeder_granted s f q.0 in
          call_tested s f (replan_latest f) p 0 v named (proper_cause _ p proper)
          (λ q. tested_judged s f (named q) 0 p [] proper)
          (tested_list s f 0 p []);
      replans_lines =
          λ f allowance.
          let r : Replanned = by_lines (limits_of s f) s.clock allowance (charges_on s f) in
          let proper = lines_proper (limits_of s f) s.clock allowance (charges_on s f) in
          let named : NoneApplies (refusals s (replan_lines f allowance)) → IsFeeder s f = λ q. feeder_granted s f q.0 in
          call_tested s f (replan_lines f allowance) r.proposal r.rounds v named (proper_cause _ r.proposal proper)
          (λ q. tested_judged s f (named q) r.rounds r.proposal [] proper)
          (tested_list s f r.rounds r.proposal []);
      boards = λ asked list. board_shown s asked list v;
      withdrawals = λ ticket. withdrawal s ticket v;
    }

pub demand_two : (a : Asked) (calls : List Call) → DemandTwo step (reached a calls)
demand_two a calls = valid_demand_two (reached a calls) (reached_valid a calls)
