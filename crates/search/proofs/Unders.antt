-- Where one more load fits under a cap and the site's limit: the smallest start, and the run of minutes with room.
use Prim.Native.Nat.{ℕ, zero, suc, ◌+◌, ◌-◌, ◌^◌, min, max, ◌≤◌, ◌<◌}
use mathlib.Core.Path.{◌≡◌, refl, sym, ◌∙◌, ap}
use mathlib.Core.Bool.{Bool, true, false, cond, ◌&&◌, and-true, and-false, true≢false}
use mathlib.Core.List.{List}
use native.Mathlib.Omega.{arith}
use borrow.Author.Tests.{le-leb, ne_eqb}
use lib.Dec.{ltb, leb}
use lib.ListN.{length, get_or}
use Rattle.std.specs.Prelude.{Option}
use Rattle.rules.specs.Basics.{run_of}
use Rattle.rules.specs.Load.{draw, Load, IsLine, whole_of, counts}
use Rattle.rules.specs.Search.{Caps, room_for, fits_under}
use Rattle.rules.proofs.Ranges.{fails, throughout_at}
use Rattle.rules.proofs.Fitting.{run_is, fits_run_lem}
use Rattle.profile.specs.Steps.{level_at, minutes_of, counts_of, empty_step, In}
use Rattle.profile.specs.Shows.{Profile, line_of, level_of, levels, last_minute, Shows}
use Rattle.profile.specs.declared.steps.Step.{Step}
use Rattle.profile.proofs.Lines.{line_column}
use Rattle.profile.proofs.Levels.{level_in}
use Rattle.search.specs.Rooms.{has_room, Visit, FailsAt, FailsIn, FailsPast, Misses, Least}
use Rattle.search.specs.Starts.{CanStart}
use Rattle.search.specs.Caps.{list_of, caps_of, CapsShown, under_in, room_under, CanCap, EarliestStartUnder}
use Rattle.search.specs.declared.caps.LineCaps.{LineCaps}
use Rattle.search.proofs.Sounds.{whole_none, whole_columns}
use Rattle.search.proofs.Rooms.{room_after, room_always}

-- The room of a step

room_and : (b : Bool) (room t : ℕ) → has_room (cond b room 0) t ≡ has_room room t && b
room_and true room t = sym (and-true (has_room room t))
room_and false room t = room_after 0 t (omega arith) (omega arith) ∙ sym (and-false (has_room room t))

-- in a step the room is that of its counts
pub step_room :
    (p : Profile) (c : LineCaps) (line rate i : ℕ) {x : ℕ} → x ≡ under_in c line rate (get_or p i (empty_step 0))
    → (v : ℕ) → In p i v → room_under p c line rate v ≡ has_room x v
step_room p c line rate i e v h =
    ap (λ (x : ℕ). has_room (caps_of c line (x + rate)) v && leb (whole_of (levels p v) + rate) c.site)
    (level_in p (line_of p line) h)
    ∙ ap (λ (x : ℕ). has_room (caps_of c line (line_of p line i + rate)) v && leb (x + rate) c.site)
    (whole_columns (levels p v) (λ l. line_of p l i) (λ l j. level_in p (line_of p l) h))
    ∙ sym (room_and (leb (whole_of (λ l. line_of p l i) + rate) c.site) (caps_of c line (line_of p line i + rate)) v)
    ∙ ap (λ (x : ℕ). has_room x v) (sym e)

-- an answer goes by the room that there is
pub under_told :
    {p : Profile} (c : LineCaps) (line rate : ℕ) {until i t x : ℕ} {held : Step} (r : Option ℕ) → Visit p until i held t
    → x ≡ under_in c line rate held → FailsPast p until i t x r → FailsIn (room_under p c line rate) p until i t r
under_told {p} c line rate {i = i} {held = held} r u at past = past.told (room_under p c line rate) held u (step_room p c line rate i (rw u.item at at))

-- what is no line has the room of the other feeders
module _ (line : ℕ) (one : line ≡ 1 → ⊥) (two : line ≡ 2 → ⊥) (three : line ≡ 3 → ⊥) where
  others_count : (s : Step) → counts_of s 4 ≡ counts_of s line
  others_count s = rw (ne_eqb line 1 one, ne_eqb line 2 two, ne_eqb line 3 three) refl

  others_list : (c : LineCaps) → list_of c 4 ≡ list_of c line
  others_list c = rw (ne_eqb line 1 one, ne_eqb line 2 two) refl

  pub others_under : (p : Profile) (c : LineCaps) (rate : ℕ) → room_under p c 4 rate ≡ room_under p c line rate
  others_under p c rate =
      λ i t.
      has_room (get_or (others_list c i) (level_at (minutes_of p) (λ m. others_count (get_or p m (empty_step 0)) i) (length p) t + rate) 0) t
      && leb (whole_of (levels p t) + rate) c.site

-- The smallest start

module _ {p : Profile} {c : LineCaps} {line time rate : ℕ} (can : CanStart p time) (h : IsLine line) (full : CanCap c line rate) where
  -- in the last step one more load is alone
  pub under_rests : (t : ℕ) → In p (length p - 1) t → room_under p c line rate t ≡ true
  under_rests t i = step_room p c line rate (length p - 1) alone t i ∙ room_always (caps_of c line rate) t full.some
    where
      last : ℕ
      last = length p - 1

      alone : caps_of c line rate ≡ under_in c line rate (get_or p last (empty_step 0))
      alone =
          ap (caps_of c line) (omega (arith, can.empty line (line_column line h)))
          ∙ sym
          (ap (λ (b : Bool). cond b (caps_of c line (line_of p line last + rate)) 0)
          (le-leb (whole_of (λ l. line_of p l last) + rate) c.site (omega (arith, whole_none (λ l. line_of p l last) can.empty, full.within_site_lem))))

-- the search began with the smaller one of `from` and the last change
pub under_earliest :
    {p : Profile} {c : LineCaps} {line time rate : ℕ} (from : ℕ) {start r : ℕ} → start ≡ min from (last_minute p)
    → Least (room_under p c line rate) time start r × (r ≤ last_minute p) → EarliestStartUnder p c line time rate (min from (last_minute p)) r
under_earliest from cut m = rw (← cut) (record { least = m.0; high = m.1 })

-- The run of minutes with room

module _ (p : Profile) (c : LineCaps) (line rate most : ℕ) {from until : ℕ} (ends : until ≡ from + most) where
  pub run_ends :
      {r : ℕ} → ((t : ℕ) → from ≤ t → t < until → room_under p c line rate t ≡ true) → r ≡ most
      → r ≡ run_of (room_under p c line rate) most from
  run_ends w e =
      e
      ∙ sym
      (run_is (room_under p c line rate) most from most
      (record { high = omega arith; passes = λ t a b. w t a (omega arith); stops = λ l. absurd (omega arith) }))

  pub run_fails :
      {i m r : ℕ} → FailsAt (room_under p c line rate) p from until m i → r ≡ m - from
      → r ≡ run_of (room_under p c line rate) most from
  run_fails {i} {m} {r} w e =
      sym
      (run_is (room_under p c line rate) most from r
      (record {
        high = omega (arith, w.high);
        passes = λ t a b. w.passed t a (omega (arith, w.low));
        stops = λ l. let here : from + r ≡ m = omega (arith, w.low) in rw here (w.fails m (omega arith) w.inside);
      }))

-- What runs and starts say of the loads and the caps that are shown

pub run_same : (f g : ℕ → Bool) (k a : ℕ) → ((t : ℕ) → a ≤ t → f t ≡ g t) → run_of f k a ≡ run_of g k a
run_same f g zero a h = refl
run_same f g (suc k) a h = rw (h a (omega arith), run_same f g k (suc a) (λ t i. h t (omega arith)))

module _ {p : Profile} {c : LineCaps} {line : ℕ} (h : IsLine line) {clock : ℕ} {xs : List Load} {site : ℕ} {cap : Caps} (s : Shows p clock xs)
    (w : CapsShown c site cap) (rate : ℕ) where
  room_shows : (t : ℕ) → clock ≤ t → room_under p c line rate t ≡ room_for site cap xs line rate t
  room_shows t a =
      ap (λ (x : ℕ). has_room (caps_of c line (level_of p line t + rate)) t && leb (whole_of (levels p t) + rate) x) w.within
      ∙ ap (λ (b : Bool). b && leb (whole_of (levels p t) + rate) site) (w.rooms line h (level_of p line t + rate) t)
      ∙ ap (λ (x : ℕ). leb (x + rate) (cap line t) && leb (whole_of (levels p t) + rate) site) (s.counted line (line_column line h) t a)
      ∙ ap (λ (x : ℕ). leb (counts xs t line + rate) (cap line t) && leb (x + rate) site)
      (whole_columns (levels p t) (counts xs t) (λ l j. s.counted l j t a))

  -- a charge fits exactly when it is no longer than the run
  pub run_shows :
      (time most from : ℕ) → clock ≤ from → time ≤ most
      → fits_under site cap xs (draw line time rate) from ≡ leb time (run_of (room_under p c line rate) most from)
  run_shows time most from low enough =
      fits_run_lem site cap xs (draw line time rate) most from enough
      ∙ ap (leb time)
      (run_same (room_for site cap xs line rate) (room_under p c line rate) most from (λ t a. sym (room_shows t (omega arith))))

  -- it does not fit where one of its minutes has no room
  pub misses_fails : (time u : ℕ) → clock ≤ u → Misses (room_under p c line rate) time u → fits_under site cap xs (draw line time rate) u ≡ false
  misses_fails time u a x =
      fails (fits_under site cap xs (draw line time rate) u)
      (λ e.
      true≢false
      (sym (throughout_at (room_for site cap xs line rate) time u e x.minute x.low x.high)
      ∙ sym (room_shows x.minute (omega (arith, x.low)))
      ∙ x.fails))
