-- What holds of a call to which no refusal applies, read by name.
use mathlib.Core.Path.{◌≡◌, refl, sym, ap}
use Prim.Native.Nat.{ℕ, ◌*◌, ◌≤◌, ◌<◌}
use mathlib.Core.Bool.{Bool, true, false, not, ◌&&◌, ◌||◌, true≢false}
use mathlib.Core.List.{List, [], ◌∷◌}
use native.Mathlib.Omega.{arith}
use lib.Dec.{ltb, eqb}
use lib.ListN.{length}
use borrow.Author.Tests.{ltb-false, leb-false, not-false, eqb-true, eqb-false, eq-eqb}
use Rattle.rules.specs.Basics.{Each, Found, at, nothing, first_of, some}
use Rattle.rules.specs.Load.{IsLine, IsRate}
use Rattle.rules.specs.Charge.{is_begun, waiting_charges, has_ticket}
use Rattle.rules.specs.Site.{State, feeder_of, charges_on, site_charges}
use Rattle.rules.specs.Valid.{IsFeeder}
use Rattle.rules.specs.Calls.{Settings, Asked, settings_read, bound_of, open_refusals, no_such_feeder, feeder_with, sound_without, Call, preview, commit, move, offer, replan_latest, replan_lines, enquire, board, withdraw, draw_for, start_for, is_start, order_refusals, refusals}
use Rattle.rules.proofs.Ranges.{or_left, or_right}
use Rattle.rules.proofs.Lists.{each_append}
use Rattle.rules.proofs.Tables.{NoneHolds, Numbered, first_of_none, none_front}

-- No number of a table is 0, so number 0 says that no condition holds.

pub refusals_numbered : (s : State) (c : Call) → Numbered (refusals s c)
refusals_numbered s (preview f line p d rate) = omega arith
refusals_numbered s (commit f line p d rate shown) = omega arith
refusals_numbered s (move target list) = omega arith
refusals_numbered s (offer f ss) = omega arith
refusals_numbered s (replan_latest f) = omega arith
refusals_numbered s (replan_lines f allowance) = omega arith
refusals_numbered s (enquire ticket) = omega arith
refusals_numbered s (board asked list) = omega arith
refusals_numbered s (withdraw ticket) = omega arith

pub refusals_none : (s : State) (c : Call) → first_of (refusals s c) ≡ 0 → NoneHolds (refusals s c)
refusals_none s c e = first_of_none (refusals s c) (refusals_numbered s c) e

pub open_refusals_numbered : (a : Asked) → Numbered (open_refusals a)
open_refusals_numbered a = omega arith

-- An opening

-- the settings of one feeder
pub record SettingsGranted (x : Settings) : Type 0 where
  pub limit_low : 1 ≤ x.limit
  pub limit_high : x.limit ≤ 60
  pub percent_high : x.percent ≤ 100
  pub bound_low : 1 ≤ bound_of x.limit x.percent
  pub tail_high : x.tail ≤ 5

pub record OpenGranted (a : Asked) : Type 0 where
  pub count_low : 1 ≤ a.count
  pub count_high : a.count ≤ 4
  pub each : Each SettingsGranted (settings_read a)
  pub site_low : 1 ≤ a.site
  pub site_high : a.site ≤ 720

settings_granted :
    (xs : List Settings)
    → some (λ x. ltb x.limit 1 || ltb 60 x.limit) xs ≡ false
    → some (λ x. ltb 100 x.percent) xs ≡ false
    → some (λ x. eqb (bound_of x.limit x.percent) 0) xs ≡ false
    → some (λ x. ltb 5 x.tail) xs ≡ false
    → Each SettingsGranted xs
settings_granted [] limit percent bound long = tt
settings_granted (x ∷ xs) limit percent bound long =
    let within : ltb x.limit 1 || ltb 60 x.limit ≡ false = or_left (ltb x.limit 1 || ltb 60 x.limit) _ limit in (
      record {
        limit_low = ltb-false x.limit 1 (or_left (ltb x.limit 1) (ltb 60 x.limit) within);
        limit_high = ltb-false 60 x.limit (or_right (ltb x.limit 1) (ltb 60 x.limit) within);
        percent_high = ltb-false 100 x.percent (or_left (ltb 100 x.percent) _ percent);
        bound_low =
            omega (
              arith,
              eqb-false (bound_of x.limit x.percent) 0 (or_left (eqb (bound_of x.limit x.percent) 0) _ bound),
            );
        tail_high = ltb-false 5 x.tail (or_left (ltb 5 x.tail) _ long);
      },
      settings_granted xs (or_right (ltb x.limit 1 || ltb 60 x.limit) _ limit)
          (or_right (ltb 100 x.percent) _ percent)
          (or_right (eqb (bound_of x.limit x.percent) 0) _ bound)
          (or_right (ltb 5 x.tail) _ long),
    )

pub open_granted : (a : Asked) → NoneHolds (open_refusals a) → OpenGranted a
open_granted a (count, (limit, (percent, (bound, (long, (site, end)))))) =
    record {
      count_low = ltb-false a.count 1 (or_left (ltb a.count 1) (ltb 4 a.count) count);
      count_high = ltb-false 4 a.count (or_right (ltb a.count 1) (ltb 4 a.count) count);
      each = settings_granted (settings_read a) limit percent bound long;
      site_low = ltb-false a.site 1 (or_left (ltb a.site 1) (ltb 720 a.site) site);
      site_high = ltb-false 720 a.site (or_right (ltb a.site 1) (ltb 720 a.site) site);
    }

-- The calls

-- a feeder of this number is there
pub feeder_granted : (s : State) (f : ℕ) → (no_such_feeder s f).0 ≡ false → IsFeeder s f
feeder_granted s f e =
    record {
      low = ltb-false f 1 (or_left (ltb f 1) (ltb (length s.feeders) f) e);
      high = ltb-false (length s.feeders) f (or_right (ltb f 1) (ltb (length s.feeders) f) e);
    }

pub record OrderGranted (s : State) (f line p d rate : ℕ) : Type 0 where
  pub is_feeder_lem : IsFeeder s f
  pub is_line : IsLine line
  pub time_low : 1 ≤ p
  pub time_high : p ≤ 1440
  pub is_rate : IsRate rate
  pub within_limit : rate ≤ (feeder_of s f).limit
  pub within_bound : rate ≤ (feeder_of s f).bound
  pub within_site_lem : rate ≤ s.site
  pub due_high : d ≤ 2000000
  pub room : length (charges_on s f) < 180
  pub ticket_left : s.next ≤ 65535

pub order_granted : (s : State) (f line p d rate : ℕ) → NoneHolds (order_refusals s f line p d rate) → OrderGranted s f line p d rate
order_granted s f line p d rate (there, (on, (time, (rated, (within, (due, (full, (given, end)))))))) =
    let above_limit : Bool = ltb (feeder_of s f).limit rate in
    let above_bound : Bool = ltb (feeder_of s f).bound rate in
    let above_site : Bool = ltb s.site rate in
    record {
      is_feeder_lem = feeder_granted s f there;
      is_line =
          record {
            low = ltb-false line 1 (or_left (ltb line 1) (ltb 3 line) on);
            high = ltb-false 3 line (or_right (ltb line 1) (ltb 3 line) on);
          };
      time_low = ltb-false p 1 (or_left (ltb p 1) (ltb 1440 p) time);
      time_high = ltb-false 1440 p (or_right (ltb p 1) (ltb 1440 p) time);
      is_rate =
          record {
            low = ltb-false rate 1 (or_left (ltb rate 1) (ltb 2 rate) rated);
            high = ltb-false 2 rate (or_right (ltb rate 1) (ltb 2 rate) rated);
          };
      within_limit = ltb-false (feeder_of s f).limit rate (or_left above_limit above_bound (or_left (above_limit || above_bound) above_site within));
      within_bound =
          ltb-false (feeder_of s f).bound rate
          (or_right above_limit above_bound (or_left (above_limit || above_bound) above_site within));
      within_site_lem =
          ltb-false s.site rate (or_right (above_limit || above_bound) above_site within);
      due_high = ltb-false 2000000 d due;
      room = leb-false 180 (length (charges_on s f)) full;
      ticket_left = ltb-false 65535 s.next given;
    }

-- a start that is shown, and the one found

start_shown : (f : Found) (shown : ℕ) → is_start f shown ≡ true → f ≡ at shown
start_shown (at start) shown e = ap at (eqb-true start shown e)
start_shown nothing shown e = absurd (true≢false (sym e))

shown_start : (f : Found) (shown : ℕ) → f ≡ at shown → is_start f shown ≡ true
shown_start f shown e = rw (e, eq-eqb shown shown refl)

-- a commit meets no refusal exactly where its order meets none and the start shown is the earliest

pub commit_granted :
    (s : State) (f line p d rate shown : ℕ)
    → NoneHolds (refusals s (commit f line p d rate shown))
    → NoneHolds (order_refusals s f line p d rate) × (start_for s f (draw_for s f line p rate) ≡ at shown)
commit_granted s f line p d rate shown e =
    let found : Found = start_for s f (draw_for s f line p rate) in
    let r = none_front (order_refusals s f line p d rate) ((not (is_start found shown), 16) ∷ []) e in
    (r.0, start_shown found shown (not-false (is_start found shown) r.1.0))

pub granted_commit :
    (s : State) (f line p d rate shown : ℕ)
    → NoneHolds (order_refusals s f line p d rate)
    → start_for s f (draw_for s f line p rate) ≡ at shown
    → NoneHolds (refusals s (commit f line p d rate shown))
granted_commit s f line p d rate shown e h =
    let found : Found = start_for s f (draw_for s f line p rate) in
    each_append (λ row. row.0 ≡ false) (order_refusals s f line p d rate) ((not (is_start found shown), 16) ∷ []) e
    (rw (shown_start found shown h), tt)

pub record MoveGranted (s : State) (target : ℕ) (list : List ℕ) : Type 0 where
  pub target_high : target ≤ 1000000
  pub list_long : 360 * length s.feeders ≤ length list
  pub not_back : s.clock ≤ target

pub move_granted : (s : State) (target : ℕ) (list : List ℕ) → NoneHolds (refusals s (move target list)) → MoveGranted s target list
move_granted s target list (high, (short, (back, end))) =
    record {
      target_high = ltb-false 1000000 target high;
      list_long = ltb-false (length list) (360 * length s.feeders) short;
      not_back = ltb-false target s.clock back;
    }

-- a start for each waiting charge of the feeder
pub record OfferGranted (s : State) (f : ℕ) (ss : List ℕ) : Type 0 where
  pub is_feeder_lem : IsFeeder s f
  pub each_waiting : length ss ≡ length (waiting_charges s.clock (charges_on s f))

pub offer_granted : (s : State) (f : ℕ) (ss : List ℕ) → NoneHolds (refusals s (offer f ss)) → OfferGranted s f ss
offer_granted s f ss (there, (other, end)) =
    record {
      is_feeder_lem = feeder_granted s f there;
      each_waiting = eqb-true (length ss) (length (waiting_charges s.clock (charges_on s f))) (not-false _ other);
    }

-- the ticket is held
pub enquire_granted :
    (s : State) (ticket : ℕ)
    → NoneHolds (refusals s (enquire ticket))
    → some (has_ticket ticket) (site_charges s) ≡ true
enquire_granted s ticket (missing, end) = not-false (some (has_ticket ticket) (site_charges s)) missing

pub record WithdrawGranted (s : State) (ticket : ℕ) : Type 0 where
  pub held : some (has_ticket ticket) (site_charges s) ≡ true
  pub not_begun : some (λ c. has_ticket ticket c && is_begun s.clock c) (site_charges s) ≡ false
  pub rest_sound_lem : sound_without s (feeder_with ticket 1 s.feeders) ticket ≡ true

pub withdraw_granted : (s : State) (ticket : ℕ) → NoneHolds (refusals s (withdraw ticket)) → WithdrawGranted s ticket
withdraw_granted s ticket (missing, (begun, (unsound, end))) =
    record {
      held = not-false (some (has_ticket ticket) (site_charges s)) missing;
      not_begun = begun;
      rest_sound_lem = not-false (sound_without s (feeder_with ticket 1 s.feeders) ticket) unsound;
    }
