-- One call after another: each keeps the invariant.
use mathlib.Core.Path.{◌≡◌, refl, ap}
use Prim.Native.Nat.{ℕ, zero, suc, ◌+◌, ◌≤◌}
use mathlib.Core.List.{List, [], ◌∷◌, ◌++◌, append-nil}
use Rattle.rules.specs.Basics.{Found, at, nothing, first_of}
use Rattle.rules.specs.Load.{Limits}
use Rattle.rules.specs.Charge.{Charge, seen, without_ticket}
use Rattle.rules.specs.Replan.{Proposal, starts, none, latest, Replanned, by_lines}
use Rattle.rules.specs.Judgement.{restarted, judged}
use Rattle.rules.specs.Site.{Feeder, State, feeder_of, charges_on, limits_of}
use Rattle.rules.specs.Calls.{Answer, refused, Result, answering, Call, preview, commit, move, offer, replan_latest, replan_lines, enquire, board, withdraw, lent, new_charge, draw_for, start_for, refusals, feeder_with, previewed_at, previewing, committing, moving, decided, tested, offering, replanning_latest, replanning_lines, enquiring, boarding, withdrawing, granted, step}
use Rattle.rules.specs.Valid.{IsFeeder}
use Rattle.rules.proofs.Searches.{earliest_first}
use Rattle.rules.proofs.Tables.{NoneHolds}
use Rattle.rules.proofs.Granted.{refusals_none, feeder_granted, OrderGranted, order_granted, commit_granted, move_granted, offer_granted, WithdrawGranted, withdraw_granted}
use Rattle.rules.proofs.Judgements.{judged_meets}
use Rattle.guarantee.specs.Past.{Order, Report, nothing_new, learnt, Past, extended, after}
use Rattle.guarantee.proofs.History.{Booked, booked}
use Rattle.guarantee.proofs.Held.{station_of, is_station, station_feeder, station_moved}
use Rattle.guarantee.proofs.Commits.{order_change, after_order}
use Rattle.guarantee.proofs.Moves.{after_move}
use Rattle.guarantee.proofs.Plans.{plan_change, after_plan}
use Rattle.guarantee.proofs.Departures.{left_feeder, left_change, after_withdrawal}
use Rattle.guarantee.proofs.Rebooked.{rebooked}
use Rattle.guarantee.proofs.Withdrawals.{without_in}
use Rattle.guarantee.proofs.Invariant.{tails_of, Invariant}
use Rattle.guarantee.proofs.Changed.{change_station}

-- One call

-- what a call with its result leaves
pub record Next (s : State) (k : ℕ) (os : List Order) (ws : List ℕ) (rs : List Report) (c : Call) (r : Result) : Type 0 where
  pub now : List Booked
  pub next : ℕ
  pub station :
      r.state
      ≡ station_of s (learnt k c r.answer r.list).clock next now
  pub invariant :
      Invariant s
      (learnt k c r.answer r.list).clock
      next
      (os ++ (learnt k c r.answer r.list).orders)
      (ws ++ (learnt k c r.answer r.list).withdrawn)
      now
      (rs ++ (learnt k c r.answer r.list).reports)

-- a refusal lets one learn nothing
refused_learnt : (k j : ℕ) (c : Call) (list : List ℕ) → learnt k c (refused j) list ≡ nothing_new k
refused_learnt k j (preview f line p d rate) list = refl
refused_learnt k j (commit f line p d rate shown) list = refl
refused_learnt k j (move target l) list = refl
refused_learnt k j (offer f ss) list = refl
refused_learnt k j (replan_latest f) list = refl
refused_learnt k j (replan_lines f allowance) list = refl
refused_learnt k j (enquire ticket) list = refl
refused_learnt k j (board asked l) list = refl
refused_learnt k j (withdraw ticket) list = refl

module _
    (s : State) (k n : ℕ) (os : List Order) (ws : List ℕ) (hs : List Booked) (rs : List Report)
    (inv : Invariant s k n os ws hs rs)
  where
    -- other starts, and nothing else
    becomes :
        (c : Call) (r : Result) (ds : List Booked)
        → learnt k c r.answer r.list ≡ nothing_new k
        → r.state ≡ station_of s k n ds
        → Invariant s k n os ws ds rs
        → Next s k os ws rs c r
    becomes c r ds e y i =
        record {
          now = ds;
          next = n;
          station = rw e y;
          invariant = rw (e, append-nil os, append-nil ws, append-nil rs) i;
        }

    named : (f : ℕ) → IsFeeder (station_of s k n hs) f → IsFeeder s f
    named f h = is_station s k n hs f h

    stays :
        (c : Call) (r : Result)
        → learnt k c r.answer r.list ≡ nothing_new k
        → r.state ≡ station_of s k n hs
        → Next s k os ws rs c r
    stays c r e y = becomes c r hs e y inv

    tested_next :
        (f : ℕ)
        → IsFeeder s f
        → (c : Call) (rounds : ℕ) (p : Proposal) (list : List ℕ)
        → ((a : Answer) → learnt k c a list ≡ nothing_new k)
        → Next s k os ws rs c (tested (station_of s k n hs) f rounds p list)
    tested_next f h c rounds (starts ss) list e = go (judged y k held ss) refl
      where
        y : Limits
        y = limits_of (station_of s k n hs) f

        held : List Charge
        held = charges_on (station_of s k n hs) f

        go : (j : ℕ) → judged y k held ss ≡ j → Next s k os ws rs c (decided (station_of s k n hs) f rounds ss list j)
        go zero q =
            let ok = judged_meets y k held ss q in
            becomes c _ (rebooked f k hs ss) (e _)
            (change_station s k n os ws hs rs inv f h (restarted k held ss) (rebooked f k hs ss)
            (plan_change s k n os ws hs rs inv f h ss ok) n)
            (after_plan s k n os ws hs rs inv f h ss ok)
        go (suc j) q = stays c _ (e _) refl
    tested_next f h c rounds (none cause) list e = stays c _ (e _) refl

    preview_next :
        (f line p d rate : ℕ) (r : Found)
        → Next s k os ws rs (preview f line p d rate) (previewed_at (station_of s k n hs) r)
    preview_next f line p d rate (at start) = stays (preview f line p d rate) _ refl refl
    preview_next f line p d rate nothing = stays (preview f line p d rate) _ refl refl

    commit_next :
        (f line p d rate start : ℕ)
        → OrderGranted (station_of s k n hs) f line p d rate
        → start_for (station_of s k n hs) f (draw_for (station_of s k n hs) f line p rate) ≡ at start
        → Next s k os ws rs (commit f line p d rate start) (committing (station_of s k n hs) f line p d rate start)
    unfolding committing
    commit_next f line p d rate start g e =
        let h : IsFeeder s f = is_station s k n hs f g.is_feeder_lem in
        let y : Limits = limits_of (station_of s k n hs) f in
        let held : List Charge = charges_on (station_of s k n hs) f in
        let new : Charge = new_charge (station_of s k n hs) f line p d rate start in
        let tail : new.active_time ≡ p + (feeder_of s f).tail
        = ap (λ (x : Feeder). p + x.tail) (station_feeder s k n hs f h) in
        let r = earliest_first y k (seen y held) (draw_for (station_of s k n hs) f line p rate) start e in
        record {
          now = hs ++ (booked f new ∷ []);
          next = suc n;
          station =
              change_station s k n os ws hs rs inv f h (held ++ (new ∷ [])) (hs ++ (booked f new ∷ []))
              (order_change s k n os ws hs rs inv f h new refl refl g.is_line g.time_low tail r.low)
              (suc n);
          invariant =
              rw (append-nil ws, append-nil rs)
              (after_order s k n os ws hs rs inv f h new refl refl g.is_line g.time_low tail r.low r.high r.here);
        }

    withdraw_next :
        (t : ℕ)
        → WithdrawGranted (station_of s k n hs) t
        → Next s k os ws rs (withdraw t) (withdrawing (station_of s k n hs) t)
    unfolding withdrawing
    withdraw_next t g =
        let f : ℕ = feeder_with t 1 (station_of s k n hs).feeders in
        record {
          now = without_in t hs;
          next = n;
          station =
              change_station s k n os ws hs rs inv f (left_feeder s k n os ws hs rs inv t g)
              (without_ticket t (charges_on (station_of s k n hs) f))
              (without_in t hs)
              (left_change s k n os ws hs rs inv t g)
              n;
          invariant = rw (append-nil os, append-nil rs) (after_withdrawal s k n os ws hs rs inv t g);
        }

    -- a call that is not refused
    granted_next :
        (c : Call)
        → NoneHolds (refusals (station_of s k n hs) c)
        → Next s k os ws rs c (granted (station_of s k n hs) c)
    unfolding previewing moving offering replanning_latest replanning_lines enquiring boarding
    granted_next (preview f line p d rate) q =
        preview_next f line p d rate (start_for (station_of s k n hs) f (draw_for (station_of s k n hs) f line p rate))
    granted_next (commit f line p d rate shown) q =
        let g = commit_granted (station_of s k n hs) f line p d rate shown q in
        commit_next f line p d rate shown (order_granted (station_of s k n hs) f line p d rate g.0) g.1
    granted_next (move target list) q =
        let h : k ≤ target = (move_granted (station_of s k n hs) target list q).not_back in
        record {
          now = hs;
          next = n;
          station = station_moved s k n hs target h;
          invariant = rw (append-nil os, append-nil ws) (after_move s k n os ws hs rs inv target _ h);
        }
    granted_next (offer f ss) q =
        tested_next f (named f (offer_granted (station_of s k n hs) f ss q).is_feeder_lem) (offer f ss) 0 (starts ss) ss (λ a. refl)
    granted_next (replan_latest f) q =
        tested_next f (named f (feeder_granted (station_of s k n hs) f q.0)) (replan_latest f) 0
        (latest (limits_of (station_of s k n hs) f) k (charges_on (station_of s k n hs) f))
        []
        (λ a. refl)
    granted_next (replan_lines f allowance) q =
        let r : Replanned = by_lines (limits_of (station_of s k n hs) f) k allowance (charges_on (station_of s k n hs) f) in
        tested_next f (named f (feeder_granted (station_of s k n hs) f q.0)) (replan_lines f allowance)
        r.rounds r.proposal
        []
        (λ a. refl)
    granted_next (enquire ticket) q = stays (enquire ticket) _ refl refl
    granted_next (board asked list) q = stays (board asked list) _ refl refl
    granted_next (withdraw ticket) q = withdraw_next ticket (withdraw_granted (station_of s k n hs) ticket q)

    step-next : (c : Call) → Next s k os ws rs c (step (station_of s k n hs) c)
    step-next c =
        go (first_of (refusals (station_of s k n hs) c))
        (λ e. granted_next c (refusals_none (station_of s k n hs) c e))
      where
        go :
            (j : ℕ)
            → (j ≡ 0 → Next s k os ws rs c (granted (station_of s k n hs) c))
            → Next s k os ws rs c
            (answering j (station_of s k n hs) (lent c) (granted (station_of s k n hs) c))
        go zero f = f refl
        go (suc j) f = stays c _ (refused_learnt k (suc j) c (lent c)) refl

-- A list of calls

-- what is known after some calls, and the history behind it
pub record Known (s : State) (h : Past) (hs : List Booked) : Type 0 where
  pub tails : h.tails ≡ tails_of s
  -- the next ticket
  pub next : ℕ
  pub station : h.station ≡ station_of s h.clock next hs
  pub invariant : Invariant s h.clock next h.orders h.withdrawn hs h.reports

-- a past that calls lead to
pub record Reach (s : State) (h : Past) : Type 0 where
  pub now : List Booked
  pub known : Known s h now

reach_one : (s : State) (h : Past) (hs : List Booked) (c : Call) → Known s h hs → Reach s (extended h c (step h.station c))
reach_one s h hs c known =
    let x : Next s h.clock h.orders h.withdrawn h.reports c (step h.station c)
    = rw known.station (step-next s h.clock known.next h.orders h.withdrawn hs h.reports known.invariant c) in
    record {
      now = x.now;
      known = record { tails = known.tails; next = x.next; station = x.station; invariant = x.invariant };
    }

pub reach : (s : State) (calls : List Call) (h : Past) (hs : List Booked) → Known s h hs → Reach s (after step h calls)
reach s [] h hs known = record { now = hs; known = known }
reach s (c ∷ calls) h hs known =
    let x : Reach s (extended h c (step h.station c)) = reach_one s h hs c known in
    reach s calls (extended h c (step h.station c)) x.now x.known
