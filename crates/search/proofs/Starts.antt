-- The earliest start, from the first that fits and from where the levels are unsound.
use Prim.Native.Nat.{ℕ, suc, ◌+◌, ◌-◌, ◌^◌, ◌≤◌, ◌<◌, max}
use mathlib.Core.Path.{◌≡◌, sym, ◌∙◌, ap, subst}
use mathlib.Core.Bool.{true, false, true≢false}
use mathlib.Core.List.{List, []}
use mathlib.Core.Logic.{◌⊎◌, inl, inr, ⊎_elim}
use native.Mathlib.Omega.{arith}
use lib.ListN.{length}
use Rattle.std.specs.Prelude.{Option, Some, None}
use Rattle.std.specs.declared.ops.Range.{Range}
use Rattle.rules.specs.Load.{Load, load_from, counts, last_until, sound_counts, sound}
use Rattle.rules.specs.Search.{added, earliest}
use Rattle.rules.proofs.Ranges.{fails, below_or_not, first-is, first_nothing}
use Rattle.rules.proofs.Counts.{draws_before, draws_after, draws_in, count_past, sound_at_lem, sound_all, sound_from_lem, sound_true}
use Rattle.rules.proofs.Searches.{count_added}
use Rattle.profile.specs.Minutes.{Fails}
use Rattle.profile.specs.Shows.{Profile, draw_of, line_of, level_of, first_minute, last_minute, Shows, found_at}
use Rattle.profile.specs.declared.loads.Draw.{Draw}
use Rattle.profile.proofs.Lines.{sound_tests}
use Rattle.profile.proofs.Levels.{level_in, last_step}
use Rattle.profile.proofs.Shown.{shows_small}
use Rattle.search.specs.Numbers.{limits_beside}
use Rattle.search.specs.Rooms.{Least}
use Rattle.search.specs.Candidates.{fits_in}
use Rattle.search.specs.Starts.{CanStart, sound_in, sound_with, UnsoundWithin, UnsoundIf, UnsoundMinutes, StartsIf, EarliestStart, Earliest}
use Rattle.search.specs.declared.limits.Limits.{Limits}

-- One more load

module _ (p : Profile) (y : Limits) (a : Draw) (s t : ℕ) where
  -- in its minutes
  pub with_in : s ≤ t → t < s + a.time → sound_with p y a s t ≡ fits_in p y a t
  with_in i j = sound_tests (limits_beside y []) _ _ (λ l h. ap (λ (x : ℕ). level_of p l t + x) (draws_in (load_from (draw_of a) s) l t i j))

  -- in another minute
  pub with_out : (t < s) ⊎ (s + a.time ≤ t) → sound_with p y a s t ≡ sound_in p y t
  with_out w =
      sound_tests (limits_beside y []) _ _
      (λ l h. ⊎_elim (λ i. omega (arith, draws_before (load_from (draw_of a) s) l t i)) (λ i. omega (arith, draws_after (load_from (draw_of a) s) l t i)) w)

-- The answers of `earliest`

-- no minute is unsound: r is the smallest start from the first minute on that fits in all its minutes
pub start_anywhere :
    {p : Profile} {y : Limits} (a : Draw) {u : Option (Range ℕ)} {start r : ℕ} → UnsoundMinutes p y u → u ≡ None → start ≡ first_minute p
    → Least (fits_in p y a) a.time start r × (r ≤ last_minute p) → EarliestStart p y a (Some r)
start_anywhere {p} {y} a {u} {start} {r} w none b m =
    record {
      answer =
          record {
            low = omega (arith, m.0.low);
            high = m.1;
            sound = λ t i. go t i (below_or_not t r) (below_or_not t (r + a.time));
            least = λ s i c.
                let x = m.0.failed s (omega arith) c in
                record {
                  minute = x.minute;
                  low = omega (arith, x.low);
                  fails = with_in p y a s x.minute x.low x.high ∙ x.fails;
                };
          };
    }
  where
    all : UnsoundIf p y None
    all = subst (UnsoundIf p y) none w.answer

    go : (t : ℕ) → first_minute p ≤ t → (t < r) ⊎ (r ≤ t) → (t < r + a.time) ⊎ (r + a.time ≤ t) → sound_with p y a r t ≡ true
    go t i (inl c) d = with_out p y a r t (inl c) ∙ all t i
    go t i (inr c) (inl d) = with_in p y a r t c d ∙ m.0.passes t c d
    go t i (inr c) (inr d) = with_out p y a r t (inr d) ∙ all t i

pub told_unsound : {p : Profile} {y : Limits} {r : Option (Range ℕ)} {minutes : Range ℕ} → UnsoundMinutes p y r → r ≡ Some minutes → UnsoundWithin p y minutes
told_unsound {p} {y} w e = subst (UnsoundIf p y) e w.answer

-- r is the smallest start, from the first minute on and reaching the end of what is unsound, that fits in all its minutes
module _ {p : Profile} {y : Limits} (a : Draw) {minutes : Range ℕ} {start r : ℕ} (u : UnsoundWithin p y minutes)
    (b : start ≡ max (first_minute p) (minutes.end - a.time)) (m : Least (fits_in p y a) a.time start r) where
  short : (s : ℕ) → first_minute p ≤ s → s < r → Fails (sound_with p y a s) (first_minute p)
  short s i c =
      ⊎_elim
      (λ lt.
      record {
        minute = minutes.end - 1;
        low = omega (arith, u.low, u.order);
        fails = with_out p y a s (minutes.end - 1) (inr (omega arith)) ∙ u.last_fails;
      })
      (λ ge.
      let x = m.failed s ge c in
      record {
        minute = x.minute;
        low = omega (arith, x.low);
        fails = with_in p y a s x.minute x.low x.high ∙ x.fails;
      })
      (below_or_not s start)

  -- every unsound minute lies in the load
  pub start_covers : r ≤ last_minute p → r ≤ minutes.start → EarliestStart p y a (Some r)
  start_covers near le =
      record {
        answer =
            record {
              low = omega (arith, m.low);
              high = near;
              sound = λ t i. go t i (below_or_not t r) (below_or_not t (r + a.time));
              least = short;
            };
      }
    where
      go : (t : ℕ) → first_minute p ≤ t → (t < r) ⊎ (r ≤ t) → (t < r + a.time) ⊎ (r + a.time ≤ t) → sound_with p y a r t ≡ true
      go t i (inl c) d = with_out p y a r t (inl c) ∙ u.before t i (omega arith)
      go t i (inr c) (inl d) = with_in p y a r t c d ∙ m.passes t c d
      go t i (inr c) (inr d) = with_out p y a r t (inr d) ∙ u.after t (omega (arith, m.low))

  -- one lies before it
  pub start_late : minutes.start < r → EarliestStart p y a None
  start_late lt =
      record {
        answer = λ s i.
            ⊎_elim
            (λ c. short s i c)
            (λ c. record { minute = minutes.start; low = u.low; fails = with_out p y a s minutes.start (inl (omega arith)) ∙ u.first_fails })
            (below_or_not s r);
      }

-- What the answer says of the loads that a profile shows

module _ {p : Profile} {clock : ℕ} {loads : List Load} (s : Shows p clock loads) where
  module _ (y : Limits) (others : List Load) (a : Draw) (i : ℕ) where
    sound_with_lem : (t : ℕ) → clock ≤ t → sound_with p y a i t ≡ sound_counts (limits_beside y others) (counts (added loads (draw_of a) i) t)
    sound_with_lem t h =
        sound_tests (limits_beside y others) _ _ (λ l j. omega (arith, s.counted l j t h, count_added loads (draw_of a) i l t))

    -- the rules' plan with one more load is sound, or not
    with_sound : ((t : ℕ) → first_minute p ≤ t → sound_with p y a i t ≡ true) → sound (limits_beside y others) clock (added loads (draw_of a) i) ≡ true
    with_sound h =
        sound_true (limits_beside y others) clock (added loads (draw_of a) i)
        (λ t j.
        sound_at_lem (limits_beside y others) (counts (added loads (draw_of a) i) t) (sym (sound_with_lem t j) ∙ h t (omega (arith, s.starts))))

    with_unsound : Fails (sound_with p y a i) (first_minute p) → sound (limits_beside y others) clock (added loads (draw_of a) i) ≡ false
    with_unsound h =
        fails (sound (limits_beside y others) clock (added loads (draw_of a) i))
        (λ e.
        true≢false
        (sym
        (sound_all (limits_beside y others) (counts (added loads (draw_of a) i) h.minute)
        (sound_from_lem (limits_beside y others) clock (added loads (draw_of a) i) e h.minute (omega (arith, s.starts, h.low))))
        ∙ sym (sound_with_lem h.minute (omega (arith, s.starts, h.low)))
        ∙ h.fails))

  -- a profile of loads meets what a search for a start asks
  pub can_start : (time : ℕ) → length loads ≤ 720 → max clock (last_until loads) + time < 2 ^ 32 → CanStart p time
  can_start time few fit =
      record {
        formed = s.formed;
        small = shows_small p clock loads s few;
        empty = λ l h.
            let t = max (last_minute p) (max clock (last_until loads)) in
            sym (level_in p (line_of p l) (last_step p t s.formed.some (omega arith)))
            ∙ s.counted l h t (omega arith)
            ∙ count_past loads l t (omega arith);
        ends_fit = omega (arith, s.ends (length p - 1) (omega (arith, s.formed.some)));
      }

pub earliest_shows : {p : Profile} {y : Limits} {a : Draw} {r : Option ℕ} → EarliestStart p y a r → Earliest p y a r
unfolding earliest
earliest_shows {p} {y} {a} {r} k clock loads others s = go r k.answer
  where
    go : (r : Option ℕ) → StartsIf p y a r → earliest (limits_beside y others) clock loads (draw_of a) ≡ found_at r
    go (Some i) h =
        first-is (λ i. sound (limits_beside y others) clock (added loads (draw_of a) i)) (suc (last_until loads - clock)) clock i
        (record {
          low = omega (arith, s.starts, h.low);
          high = omega (arith, s.starts, h.low, h.high, s.ends (length p - 1) (omega (arith, s.formed.some)));
          here = with_sound s y others a i h.sound;
          least = λ j b c. with_unsound s y others a j (h.least j (omega (arith, s.starts)) c);
        })
    go None h =
        first_nothing (λ i. sound (limits_beside y others) clock (added loads (draw_of a) i)) (suc (last_until loads - clock)) clock
        (λ j b c. with_unsound s y others a j (h j (omega (arith, s.starts))))
