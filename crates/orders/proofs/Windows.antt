-- A window of a search for a start: the loads that begin before its end draw below it what all do.
use mathlib.Core.Path.{◌≡◌, refl, ◌∙◌}
use Prim.Native.Nat.{ℕ, ◌+◌, ◌*◌, ◌≤◌, ◌<◌}
use mathlib.Core.List.{List, [], ◌++◌}
use native.Mathlib.Omega.{arith}
use lib.ListN.{length, length-append}
use borrow.Author.Tests.{le-ltb}
use Rattle.rules.specs.Basics.{Each}
use Rattle.rules.specs.Load.{Load, IsColumn, count, last_until}
use Rattle.rules.proofs.Lists.{keep_none, length_keep}
use Rattle.rules.proofs.Counts.{count-append}
use Rattle.rules.proofs.Sites.{last_until_append}
use Rattle.profile.specs.Steps.{most_steps}
use Rattle.profile.specs.Shows.{Profile, level_of, Shows}
use Rattle.windows.specs.Windows.{starts_in, started, Drawable, CanAddStarted, StartedAdded}
use Rattle.orders.proofs.Parts.{is_before, started_before, count_in_two, length_in_two, count_before, last_kept}

-- p shows, in some order, the loads that begin before `until`
pub record Window (xs : List Load) (clock until : ℕ) (p : Profile) : Type 0 where
  pub loads : List Load
  pub shows : Shows p clock loads
  pub few : length loads ≡ length (started_before until xs)
  pub last : last_until loads ≤ last_until xs
  pub alike : (l t : ℕ) → count loads l t ≡ count (started_before until xs) l t

module _ {xs : List Load} {clock : ℕ} where
  pub window_none : {p : Profile} → Shows p clock [] → Window xs clock 0 p
  window_none h =
      record {
        loads = [];
        shows = h;
        few = rw none refl;
        last = omega arith;
        alike = λ l t. rw none refl;
      }
    where
      none : started_before 0 xs ≡ []
      none = keep_none (is_before 0) (λ x. le-ltb x.from 0 (omega arith)) xs

  module _ {p : Profile} {low high : ℕ} (w : Window xs clock low p) (h : low ≤ high) where
    -- what `add_started` asks
    pub window_can_add : {places : ℕ} → Each Drawable xs → 1 + 2 * length xs ≤ places → places ≤ most_steps → CanAddStarted p places xs low high
    window_can_add each enough most =
        record {
          drawable = each;
          room =
              record {
                clock = clock;
                loads = w.loads;
                shows = w.shows;
                few = omega (arith, w.few, length_in_two low high h xs, length_keep (is_before high) xs, enough);
                most = most;
              };
        }

    pub window_on : {q : Profile} → StartedAdded p q xs low high → Window xs clock high q
    window_on a =
        record {
          loads = w.loads ++ started low high xs;
          shows = a clock w.loads w.shows;
          few = omega (arith, w.few, length-append w.loads (started low high xs), length_in_two low high h xs);
          last = omega (arith, w.last, last_until_append w.loads (started low high xs), last_kept (starts_in low high) xs);
          alike = λ l t.
              omega (arith, w.alike l t, count-append w.loads (started low high xs) l t, count_in_two l t low high h xs);
        }

  -- below its end its levels are the counts of all loads
  pub window_counts :
      {until : ℕ} {p : Profile} → Window xs clock until p → (l t : ℕ) → IsColumn l → clock ≤ t → t < until → level_of p l t ≡ count xs l t
  window_counts {until} w l t i a b = w.shows.counted l i t a ∙ w.alike l t ∙ count_before until l t b xs
