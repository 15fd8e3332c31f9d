-- A profile that shows loads: from nothing, with one more load, and what is asked of it.
use Prim.Native.Nat.{ℕ, ◌+◌, ◌*◌, ◌≤◌, ◌<◌, ◌^◌, max}
use mathlib.Core.Path.{◌≡◌, sym, ◌∙◌, ap}
use mathlib.Core.Bool.{Bool}
use mathlib.Core.List.{List, [], ◌∷◌}
use native.Mathlib.Omega.{arith}
use lib.ListN.{length, length-append}
use Rattle.rules.specs.Basics.{Each}
use Rattle.rules.specs.Load.{Draw, Load, load_from, IsRate, draws, count, counts, last_until}
use Rattle.rules.specs.Search.{added}
use Rattle.rules.proofs.Lists.{each_append}
use Rattle.rules.proofs.Counts.{draws_most}
use Rattle.rules.proofs.Searches.{count_added}
use Rattle.profile.specs.declared.loads.Draw as code
use Rattle.profile.specs.Steps.{most_steps}
use Rattle.profile.specs.Shows.{Profile, draw_of, levels, Rated, Shows, Small, CanAdd, LoadAdded, Added}
use Rattle.profile.proofs.Lines.{Respects}

-- a test of the lines' levels goes by the counts of the loads
pub shown_test :
    {test : (ℕ → ℕ) → Bool} {p : Profile} {clock : ℕ} {loads : List Load} → Respects test → Shows p clock loads →
    (t : ℕ) → clock ≤ t → test (levels p t) ≡ test (counts loads t)
shown_test same s t a = same _ _ (λ l hl. s.counted l hl t a)

pub last_added : (xs : List Load) (a : Draw) (s : ℕ) → last_until (added xs a s) ≡ max (last_until xs) (s + a.time)
last_added [] a s = omega arith
last_added (x ∷ xs) a s = omega (arith, last_added xs a s)

pub length_added : (xs : List Load) (a : Draw) (s : ℕ) → length (added xs a s) ≡ length xs + 1
length_added xs a s = length-append xs (load_from a s ∷ [])

-- whatever loads p shows, q shows them and one more
pub added_shows : {p q : Profile} {a : code.Draw} {start : ℕ} → IsRate a.rate → LoadAdded p q a start → Added p q a start
added_shows {p} {q} {a} {start} is_rate h clock loads s =
    record {
      formed = h.formed;
      rated = each_append Rated loads (load_from (draw_of a) start ∷ []) s.rated (is_rate, tt);
      few = omega (arith, length_added loads (draw_of a) start, s.few, h.few);
      starts = h.starts ∙ s.starts;
      ends = λ i lt.
          let last = last_added loads (draw_of a) start in
          h.ends (max clock (last_until (added loads (draw_of a) start))) (λ k b. omega (arith, s.ends k b, last)) (omega (arith, last)) i lt;
      counted = λ l hl t c.
          h.level l hl t (omega (arith, s.starts)) ∙ ap (λ (x : ℕ). x + draws (load_from (draw_of a) start) l t) (s.counted l hl t c)
          ∙ sym (count_added loads (draw_of a) start l t);
    }

pub count_few : (xs : List Load) → Each Rated xs → (l t : ℕ) → count xs l t ≤ 2 * length xs
count_few [] e l t = omega arith
count_few (x ∷ xs) e l t = omega (arith, e.0.high, draws_most x l t, count_few xs e.1 l t)

pub shows_small : (p : Profile) (clock : ℕ) (loads : List Load) → Shows p clock loads → length loads ≤ 720 → Small p
shows_small p clock loads s few l hl t a = omega (arith, s.counted l hl t (omega (arith, s.starts)), count_few loads s.rated l t)

-- a profile with places for one more load meets what it asks
pub can_add :
    (p : Profile) (places clock : ℕ) (loads : List Load) (a : code.Draw) (start : ℕ) → Shows p clock loads → 3 + 2 * length loads ≤ places → places ≤ most_steps
    → IsRate a.rate → start + a.time < 2 ^ 32 → CanAdd p places a start
can_add p places clock loads a start s few most is_rate fit =
    record {
      formed = s.formed;
      small = shows_small p clock loads s (omega arith);
      room = omega (arith, s.few);
      most = most;
      is_rate = is_rate;
      ends_fit = fit;
    }
