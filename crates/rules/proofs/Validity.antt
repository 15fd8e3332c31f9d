-- An opening gives a valid site, every call leaves one, and an order on one always gets a start.
use mathlib.Core.Path.{◌≡◌, refl, ◌∙◌}
use Prim.Native.Nat.{ℕ, zero, suc, ◌-◌, ◌<◌}
use mathlib.Core.Bool.{Bool, true, false, cond}
use mathlib.Core.List.{List, [], ◌∷◌, map}
use native.Mathlib.Omega.{arith}
use lib.Dec.{eqb}
use lib.ListN.{length, get_or}
use Rattle.rules.specs.Basics.{Each, Found, at, nothing, first_of}
use Rattle.rules.specs.Load.{sound}
use Rattle.rules.specs.Charge.{seen}
use Rattle.rules.specs.Replan.{Proposal, starts, none, latest, by_lines}
use Rattle.rules.specs.Judgement.{judged}
use Rattle.rules.specs.Site.{State, no_feeder, charges_on, joined, others_from, limits_of}
use Rattle.rules.specs.Calls.{Settings, settings, Asked, settings_read, fresh_feeder, Result, answering, opened, fresh, least, open_refusals, opening, preview, commit, move, offer, replan_latest, replan_lines, enquire, board, withdraw, draw_for, start_for, refusals, previewed_at, previewing, committing, moving, decided, tested, offering, replanning_latest, replanning_lines, enquiring, boarding, withdrawing}
use Rattle.rules.specs.Valid.{ValidSettings, IsFeeder, ValidState}
use Rattle.rules.specs.laws.Searches.{OrdersGetAStart}
use Rattle.rules.specs.laws.Stations.{OpeningsAreValid, StepsAreValid}
use Rattle.rules.proofs.Lists.{length_tabulate}
use Rattle.rules.proofs.Tables.{first_of_none}
use Rattle.rules.proofs.Granted.{refusals_none, open_refusals_numbered, SettingsGranted, OpenGranted, open_granted, feeder_granted, OrderGranted, order_granted, commit_granted, move_granted, offer_granted, withdraw_granted}
use Rattle.rules.proofs.Searches.{earliest_found}
use Rattle.rules.proofs.Judgements.{judged_meets}
use Rattle.rules.proofs.Sites.{map_length}
use Rattle.rules.proofs.Changes.{commit_valid, move_valid, withdraw_valid}
use Rattle.rules.proofs.Restarts.{plan_valid}

-- The opening

-- feeders that hold nothing
pub fresh_joined : (xs : List Settings) → joined (map fresh_feeder xs) ≡ []
fresh_joined [] = refl
fresh_joined (x ∷ xs) = fresh_joined xs

fresh_others : (f i : ℕ) (xs : List Settings) → others_from f i (map fresh_feeder xs) ≡ []
fresh_others f i [] = refl
fresh_others f i (x ∷ xs) = go (eqb i f) (fresh_others f (suc i) xs)
  where
    go :
        (b : Bool)
        → others_from f (suc i) (map fresh_feeder xs) ≡ []
        → cond b (others_from f (suc i) (map fresh_feeder xs)) (others_from f (suc i) (map fresh_feeder xs)) ≡ []
    go true e = e
    go false e = e

fresh_none : (xs : List Settings) (i : ℕ) → (get_or (map fresh_feeder xs) i no_feeder).charges ≡ []
fresh_none [] i = refl
fresh_none (x ∷ xs) zero = refl
fresh_none (x ∷ xs) (suc i) = fresh_none xs i

fresh_settings : (xs : List Settings) (i : ℕ) → Each SettingsGranted xs → i < length xs → ValidSettings (get_or (map fresh_feeder xs) i no_feeder)
fresh_settings [] i e h = absurd (omega arith)
fresh_settings (x ∷ xs) zero e h =
    record {
      limit_low = e.0.limit_low;
      limit_high = e.0.limit_high;
      percent_high = e.0.percent_high;
      bound_is = refl;
      bound_low = e.0.bound_low;
      tail_high = e.0.tail_high;
    }
fresh_settings (x ∷ xs) (suc i) e h = fresh_settings xs i e.1 (omega arith)

fresh_valid : (a : Asked) → OpenGranted a → ValidState (fresh a)
unfolding sound
fresh_valid a g =
    record {
      feeders_low = rw long g.count_low;
      feeders_high = rw long g.count_high;
      site_low = g.site_low;
      site_high = g.site_high;
      clock_high = omega arith;
      next_low = omega arith;
      next_high = omega arith;
      settings =
          λ f h.
          fresh_settings (settings_read a) (f - 1) g.each
          (omega (arith, h.low, h.high, map_length fresh_feeder (settings_read a)));
      plan =
          λ f h.
          record {
            few = rw (fresh_none (settings_read a) (f - 1)) (omega arith);
            each = rw (fresh_none (settings_read a) (f - 1)) tt;
            rising = rw (fresh_none (settings_read a) (f - 1)) tt;
          };
      sound_on = λ f h. rw (fresh_others f 1 (settings_read a), fresh_none (settings_read a) (f - 1));
      apart = λ f k h j d. rw (fresh_none (settings_read a) (f - 1)) tt;
      ends_high = rw (fresh_joined (settings_read a)) (omega arith);
    }
  where
    long : length (map fresh_feeder (settings_read a)) ≡ a.count
    long =
        map_length fresh_feeder (settings_read a)
        ∙ length_tabulate (λ i. get_or a.settings i (settings 0 0 0)) a.count 0

pub opening_valid : OpeningsAreValid
unfolding opening
opening_valid a = go (first_of (open_refusals a)) refl
  where
    go :
        (i : ℕ)
        → first_of (open_refusals a) ≡ i
        → ValidState
        (answering i (fresh least) [] (record { answer = opened (map (λ g. g.bound) (fresh a).feeders); state = fresh a; list = [] })).state
    go zero e = fresh_valid a (open_granted a (first_of_none (open_refusals a) (open_refusals_numbered a) e))
    go (suc i) e =
        fresh_valid least
        (
        record {
          count_low = omega arith;
          count_high = omega arith;
          each = (
            record {
              limit_low = omega arith;
              limit_high = omega arith;
              percent_high = omega arith;
              bound_low = omega arith;
              tail_high = omega arith;
            },
            tt,
          );
          site_low = omega arith;
          site_high = omega arith;
        }
        )

-- All calls

answering_valid :
    (i : ℕ) (s : State) (list : List ℕ) (r : Result)
    → ValidState s
    → (i ≡ 0 → ValidState r.state)
    → ValidState (answering i s list r).state
answering_valid zero s list r v f = f refl
answering_valid (suc i) s list r v f = v

tested_valid :
    (s : State) (f rounds : ℕ) (p : Proposal) (list : List ℕ)
    → ValidState s
    → IsFeeder s f
    → ValidState (tested s f rounds p list).state
tested_valid s f rounds (starts ss) list v h = go (judged (limits_of s f) s.clock (charges_on s f) ss) refl
  where
    go :
        (j : ℕ) → judged (limits_of s f) s.clock (charges_on s f) ss ≡ j → ValidState (decided s f rounds ss list j).state
    go zero e = plan_valid s f ss v h (judged_meets (limits_of s f) s.clock (charges_on s f) ss e)
    go (suc j) e = v
tested_valid s f rounds (none cause) list v h = v

pub step_valid : StepsAreValid
unfolding previewing committing moving offering replanning_latest replanning_lines enquiring boarding withdrawing
step_valid s (preview f line p d rate) v =
    answering_valid (first_of (refusals s (preview f line p d rate))) s [] _ v (λ e. go (start_for s f (draw_for s f line p rate)))
  where
    go : (r : Found) → ValidState (previewed_at s r).state
    go (at start) = v
    go nothing = v
step_valid s (commit f line p d rate shown) v =
    answering_valid (first_of (refusals s (commit f line p d rate shown))) s [] _ v
    (λ e.
    let g = commit_granted s f line p d rate shown (refusals_none s (commit f line p d rate shown) e) in
    commit_valid s f line p d rate shown v (order_granted s f line p d rate g.0) g.1)
step_valid s (move target list) v =
    answering_valid (first_of (refusals s (move target list))) s list _ v
    (λ e.
    move_valid s target list v (move_granted s target list (refusals_none s (move target list) e)))
step_valid s (offer f ss) v =
    answering_valid (first_of (refusals s (offer f ss))) s ss _ v
    (λ e. tested_valid s f 0 (starts ss) ss v (offer_granted s f ss (refusals_none s (offer f ss) e)).is_feeder_lem)
step_valid s (replan_latest f) v =
    answering_valid (first_of (refusals s (replan_latest f))) s [] _ v
    (λ e.
    tested_valid s f 0 (latest (limits_of s f) s.clock (charges_on s f)) [] v
    (feeder_granted s f (refusals_none s (replan_latest f) e).0))
step_valid s (replan_lines f allowance) v =
    answering_valid (first_of (refusals s (replan_lines f allowance))) s [] _ v
    (λ e.
    tested_valid s f (by_lines (limits_of s f) s.clock allowance (charges_on s f)).rounds
    (by_lines (limits_of s f) s.clock allowance (charges_on s f)).proposal [] v
    (feeder_granted s f (refusals_none s (replan_lines f allowance) e).0))
step_valid s (enquire ticket) v =
    answering_valid (first_of (refusals s (enquire ticket))) s [] _ v (λ e. v)
step_valid s (board asked list) v =
    answering_valid (first_of (refusals s (board asked list))) s list _ v (λ e. v)
step_valid s (withdraw ticket) v =
    answering_valid (first_of (refusals s (withdraw ticket))) s [] _ v
    (λ e. withdraw_valid s ticket v (withdraw_granted s ticket (refusals_none s (withdraw ticket) e)))

-- an order that is not refused gets a start on a valid site: its rate is above neither N nor D nor W
pub order_found :
    (s : State) (f line p d rate : ℕ)
    → ValidState s
    → OrderGranted s f line p d rate
    → (start : ℕ) × (start_for s f (draw_for s f line p rate) ≡ at start)
order_found s f line p d rate v g =
    earliest_found (limits_of s f) s.clock (seen (limits_of s f) (charges_on s f)) (draw_for s f line p rate)
    g.within_limit g.within_site_lem g.within_bound
    (v.sound_on f g.is_feeder_lem)

-- so does one whose table of refusals gives no number
pub order_starts : OrdersGetAStart
order_starts s f line p d rate v e =
    order_found s f line p d rate v (order_granted s f line p d rate (refusals_none s (preview f line p d rate) e))
