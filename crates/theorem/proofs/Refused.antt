-- The tests of each call's table say the same as its conditions in words.
use mathlib.Core.Logic.{◌⊎◌, inl, inr, ◌↔◌}
use mathlib.Core.Path.{◌≡◌, refl, sym, subst, ◌∙◌}
use Prim.Native.Nat.{ℕ, suc, ◌*◌, ◌<◌}
use mathlib.Core.Bool.{Bool, true, false, not, ◌&&◌, ◌||◌}
use mathlib.Core.List.{List, [], ◌∷◌, ◌++◌}
use native.Mathlib.Omega.{arith}
use lib.Dec.{ltb, leb, eqb}
use lib.ListN.{length}
use borrow.Author.Tests.{leb-true, le-leb, not-false}
use Rattle.rules.specs.Basics.{some}
use Rattle.rules.specs.Load.{Load}
use Rattle.rules.specs.Charge.{loads_of, is_begun, waiting_charges, has_ticket, without_ticket}
use Rattle.rules.specs.Site.{feeder_of, charges_on, site_charges}
use Rattle.rules.specs.Calls.{Answer, refused, committed, withdrawn, preview, commit, withdraw, refusals, order_refusals, is_start, start_for, draw_for, feeder_with, sound_without, rises_from, step}
use Rattle.rules.specs.Calls as rules
use Rattle.rules.proofs.Ranges.{and_right, and_both}
use Rattle.rules.proofs.Lists.{each_append}
use Rattle.rules.proofs.Withdrawing.{held_waits}
use Rattle.guarantee.specs.DemandOne.{FirstIs, NoneApplies}
use Rattle.guarantee.specs.DemandTwo.{Waits, CommitStart, Withdrawal}
use Rattle.guarantee.proofs.DemandOne.{valid_demand_one}
use Rattle.guarantee.proofs.DemandTwo.{valid_demand_two}
use Rattle.station.specs.declared.Station.{Station}
use Rattle.station.specs.View.{view, Valid}
use Rattle.station.proofs.Views.{view_length}
use Rattle.ordering.specs.declared.Order.{Order}
use Rattle.calls.specs.declared.Call.{Call}
use Rattle.calls.specs.declared.Call.TheVariants.{Preview, Commit, Move, Offer, ReplanLatest, ReplanLines, Enquire, Board, Withdraw}
use Rattle.calls.specs.Applied.{call_of}
use Rattle.theorem.specs.Single.{tests, when}
use Rattle.theorem.specs.Soundness.{IsSound, IsEarliestStart}
use Rattle.theorem.specs.Refused.{RefusedByTheTable, RefusedForTheFirst, OthersAreAnswered, RefusalLeavesTheStation, RefusalLeavesTheList}
use Rattle.theorem.specs.Conditions.{order_conditions, Rises, conditions_by}
use Rattle.theorem.proofs.Single.{very_station, refused_by, answered, written_stays}
use Rattle.theorem.proofs.Soundness.{spelled_earliest, earliest_spelled, spelled_sound, sound_spelled}
use Rattle.theorem.proofs.Conditions.{Matches, first_holds, matches_more, below_is, most_is, equal_is, either_is, both_is, not_is, some_is, none_is}

feeder_is : (s : Station) (f : ℕ) → ((rules.no_such_feeder (view s) f).0 ≡ true) ↔ ((f < 1) ⊎ (s.count < f))
feeder_is s f =
    either_is (ltb f 1) (ltb (length (view s).feeders) f) (below_is f 1)
    (subst (λ (n : ℕ). (ltb (length (view s).feeders) f ≡ true) ↔ (n < f)) (view_length s)
    (below_is (length (view s).feeders) f))

outside_is : (a low high : ℕ) → (ltb a low || ltb high a ≡ true) ↔ ((a < low) ⊎ (high < a))
outside_is a low high = either_is (ltb a low) (ltb high a) (below_is a low) (below_is high a)

order_matches :
    (s : Station) (o : Order)
    → Matches (order_refusals (view s) o.feeder o.line o.time o.due o.rate) (order_conditions s o)
order_matches s o =
    let g = feeder_of (view s) o.feeder in (
      feeder_is s o.feeder,
      refl,
      (λ there. (
        outside_is o.line 1 3,
        refl,
        (λ on. (
          outside_is o.time 1 1440,
          refl,
          (λ time. (
            outside_is o.rate 1 2,
            refl,
            (λ rated. (
              either_is (ltb g.limit o.rate || ltb g.bound o.rate) (ltb s.site o.rate)
                  (either_is (ltb g.limit o.rate) (ltb g.bound o.rate) (below_is g.limit o.rate) (below_is g.bound o.rate))
                  (below_is s.site o.rate),
              refl,
              (λ within. (
                below_is 2000000 o.due,
                refl,
                (λ due. (
                  most_is 180 (length (charges_on (view s) o.feeder)),
                  refl,
                  (λ full. (below_is 65535 s.next, refl, (λ given. tt))),
                )),
              )),
            )),
          )),
        )),
      )),
    )

-- the first rows of a longer table do not hold
pub behind : (rows more : List (Bool × ℕ)) (k : ℕ) → NoneApplies rows → FirstIs more k → FirstIs (rows ++ more) k
behind [] more k none f = f
behind (row ∷ rows) more k none f = inr (none.0, behind rows more k none.1 f)

apart_committed : {k t u : ℕ} → refused k ≡ committed t u → ⊥
apart_committed e = let z : ◌≡◌ {A = ℕ} 0 1 = cc in omega arith

apart_withdrawn : {k : ℕ} → refused k ≡ withdrawn → ⊥
apart_withdrawn e = let z : ◌≡◌ {A = ℕ} 0 1 = cc in omega arith

-- 16, of an order that nothing else refuses
module _ (s : Station) (v : Valid s) (o : Order) (shown : ℕ) where
  abbrev order_rows : List (Bool × ℕ)
  order_rows = order_refusals (view s) o.feeder o.line o.time o.due o.rate

  abbrev other : Bool
  other = not (is_start (start_for (view s) o.feeder (draw_for (view s) o.feeder o.line o.time o.rate)) shown)

  abbrev call : rules.Call
  call = commit o.feeder o.line o.time o.due o.rate shown

  commit_is : NoneApplies order_rows → (other ≡ true) ↔ (IsEarliestStart s o shown → ⊥)
  commit_is none = (there, (λ n. back n other refl))
    where
      gives : CommitStart (view s) o.feeder o.line o.time o.due o.rate shown (step (view s) call)
      gives = (valid_demand_two (view s) v.state).commits o.feeder o.line o.time o.due o.rate shown none

      there : other ≡ true → IsEarliestStart s o shown → ⊥
      there e w =
          apart_committed
          (sym
          (((valid_demand_one (view s) v.state call).refused_by.number 16).1
          (behind order_rows ((other, 16) ∷ []) 16 none (inl (e, refl))))
          ∙ gives.answer.1 (earliest_spelled s o shown w))

      back : (IsEarliestStart s o shown → ⊥) → (b : Bool) → other ≡ b → other ≡ true
      back n true e = e
      back n false e =
          let got =
          (valid_demand_one (view s) v.state call).answered
          (each_append (λ row. row.0 ≡ false) order_rows ((other, 16) ∷ []) none (e, tt)) in
          absurd (apart_committed
          (sym (gives.refusal (λ w. n (spelled_earliest s o shown w))) ∙ got.1))

-- tickets that rise
rises_behind : (x : ℕ) (l : List ℕ) → (rises_from (suc x) l ≡ true) ↔ Rises (x ∷ l)
rises_behind x [] = ((λ e. tt), (λ h. refl))
rises_behind x (y ∷ l) =
    both_is (leb (suc x) y) (rises_from (suc y) l)
    ((λ e. omega (arith, leb-true (suc x) y e)), (λ h. le-leb (suc x) y (omega arith)))
    (rises_behind y l)

rises_is : (l : List ℕ) → (rises_from 0 l ≡ true) ↔ Rises l
rises_is [] = ((λ e. tt), (λ h. refl))
rises_is (x ∷ l) = (
  (λ e. (rises_behind x l).0 (and_right (leb 0 x) (rises_from (suc x) l) e)),
  (λ h. and_both (leb 0 x) (rises_from (suc x) l) (le-leb 0 x (omega arith)) ((rises_behind x l).1 h)),
)

-- 26, of a waiting charge
module _ (s : Station) (v : Valid s) (ticket : ℕ) where
  abbrev holder : ℕ
  holder = feeder_with ticket 1 (view s).feeders

  abbrev unsound : Bool
  unsound = not (sound_without (view s) holder ticket)

  abbrev missing : Bool
  missing = not (some (has_ticket ticket) (site_charges (view s)))

  abbrev begun : Bool
  begun = some (λ c. has_ticket ticket c && is_begun s.clock c) (site_charges (view s))

  withdraw_is :
      missing ≡ false
      → begun ≡ false
      → (unsound ≡ true)
      ↔ (IsSound s holder (loads_of (without_ticket ticket (charges_on (view s) holder))) → ⊥)
  withdraw_is p q = (there, (λ n. back n unsound refl))
    where
      gives : Withdrawal (view s) holder ticket (step (view s) (withdraw ticket))
      gives = (valid_demand_two (view s) v.state).withdrawals ticket

      loads : List Load
      loads = loads_of (without_ticket ticket (charges_on (view s) holder))

      waits : Waits (view s) ticket
      waits =
          held_waits s.clock ticket (site_charges (view s))
          (not-false (some (has_ticket ticket) (site_charges (view s))) p) q

      there : unsound ≡ true → IsSound s holder loads → ⊥
      there e w =
          apart_withdrawn
          (sym
          (((valid_demand_one (view s) v.state (withdraw ticket)).refused_by.number 26).1
          (inr (p, inr (q, inl (e, refl)))))
          ∙ gives.removed.1 (waits, sound_spelled s holder loads w))

      back : (IsSound s holder loads → ⊥) → (b : Bool) → unsound ≡ b → unsound ≡ true
      back n true e = e
      back n false e =
          absurd (n (spelled_sound s holder loads
          (gives.removed.0 ((valid_demand_one (view s) v.state (withdraw ticket)).answered (p, (q, (e, tt))))).1))

matches : (s : Station) → Valid s → (c : Call) (numbers list : List ℕ) → Matches (refusals (view s) (call_of c numbers list)) (conditions_by s c numbers list)
matches s v (Preview o) numbers list = order_matches s o
matches s v (Commit o shown) numbers list =
    matches_more (order_refusals (view s) o.feeder o.line o.time o.due o.rate)
    ((not (is_start (start_for (view s) o.feeder (draw_for (view s) o.feeder o.line o.time o.rate)) shown), 16) ∷ [])
    (order_conditions s o)
    (when (IsEarliestStart s o shown → ⊥) 16 ∷ [])
    (order_matches s o)
    (λ none. (commit_is s v o shown none, refl, (λ p. tt)))
matches s v (Move target) numbers list = (
  below_is 1000000 target,
  refl,
  (λ p. (
    subst (λ (n : ℕ). (ltb (length list) (360 * length (view s).feeders) ≡ true) ↔ (length list < 360 * n)) (view_length s)
        (below_is (length list) (360 * length (view s).feeders)),
    refl,
    (λ q. (below_is target s.clock, refl, (λ r. tt))),
  )),
)
matches s v (Offer f) numbers list = (
  feeder_is s f,
  refl,
  (λ p. (
    not_is (eqb (length numbers) (length (waiting_charges s.clock (charges_on (view s) f))))
        (equal_is (length numbers) (length (waiting_charges s.clock (charges_on (view s) f)))),
    refl,
    (λ q. tt),
  )),
)
matches s v (ReplanLatest f) numbers list = (feeder_is s f, refl, (λ p. tt))
matches s v (ReplanLines f allowance) numbers list =
    (feeder_is s f, refl, (λ p. (outside_is allowance 1 1000, refl, (λ q. tt))))
matches s v (Enquire ticket) numbers list = (
  none_is (has_ticket ticket) (λ c. c.ticket ≡ ticket) (λ c. equal_is c.ticket ticket) (site_charges (view s)),
  refl,
  (λ p. tt),
)
matches s v Board numbers list = (
  either_is (not (rises_from 0 numbers)) (ltb 180 (length numbers))
      (not_is (rises_from 0 numbers) (rises_is numbers))
      (below_is 180 (length numbers)),
  refl,
  (λ p. (below_is (length list) (length numbers), refl, (λ q. tt))),
)
matches s v (Withdraw ticket) numbers list = (
  none_is (has_ticket ticket) (λ c. c.ticket ≡ ticket) (λ c. equal_is c.ticket ticket) (site_charges (view s)),
  refl,
  (λ p. (
    some_is (λ c. has_ticket ticket c && is_begun s.clock c) (λ c. (c.ticket ≡ ticket) × (c.start < s.clock))
        (λ c.
        both_is (has_ticket ticket c) (is_begun s.clock c) (equal_is c.ticket ticket) (below_is c.start s.clock))
        (site_charges (view s)),
    refl,
    (λ q. (withdraw_is s v ticket p q, refl, (λ r. tt))),
  )),
)

pub refused_by_the_table : RefusedByTheTable
refused_by_the_table s m v meets k = (refused_by s m v meets).number k

pub refused_for_the_first : RefusedForTheFirst
refused_for_the_first s m v meets k =
    let table = (refused_by s m v meets).number k in
    let words = first_holds (tests s m) (conditions_by s m.call m.numbers m.list) k (matches s v m.call m.numbers m.list) in
    ((λ e. words.0 (table.0 e)), (λ h. table.1 (words.1 h)))

pub others_are_answered : OthersAreAnswered
others_are_answered s m v meets = answered s m v meets

pub refusal_leaves_the_station : RefusalLeavesTheStation
refusal_leaves_the_station s m v meets r = very_station s m v meets ((refused_by s m v meets).same_station r)

pub refusal_leaves_the_list : RefusalLeavesTheList
refusal_leaves_the_list s m v meets r = written_stays s m v meets ((refused_by s m v meets).same_list_lem r)
