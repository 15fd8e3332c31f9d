-- The search for a start, window by window.
use mathlib.Core.Logic.{⊎_elim}
use mathlib.Core.Path.{◌≡◌, ◌∙◌}
use Prim.Native.Nat.{ℕ, suc, ◌+◌, ◌-◌, ◌≤◌, ◌<◌, max}
use mathlib.Core.Bool.{Bool, false}
use mathlib.Core.List.{List, []}
use native.Mathlib.Omega.{arith}
use lib.ListN.{length}
use Rattle.rules.specs.Basics.{at}
use Rattle.rules.specs.Load.{Load, last_until, sound_at, sound}
use Rattle.rules.specs.Search.{added, earliest}
use Rattle.rules.proofs.Ranges.{below_or_not, first-is}
use Rattle.rules.proofs.Lists.{length_keep}
use Rattle.rules.proofs.TestedStarts.{counts_own, fails_unsound, fits_sound}
use Rattle.profile.specs.declared.loads.Draw.{Draw}
use Rattle.profile.specs.Shows.{Profile, draw_of, last_minute, Shows}
use Rattle.profile.proofs.Lines.{sound_tests}
use Rattle.search.specs.declared.limits.Limits.{Limits}
use Rattle.search.specs.Numbers.{limits_beside}
use Rattle.search.specs.Candidates.{fits_in, CanFit, FirstFitting}
use Rattle.search.proofs.Starts.{can_start}
use Rattle.windows.specs.Windows.{StartedAdded}
use Rattle.orders.specs.Asked.{OrderBeside}
use Rattle.orders.proofs.Parts.{is_before}
use Rattle.orders.proofs.Windows.{Window, window_none, window_on, window_counts}

-- with a start in minute j the plan is sound
abbrev sound_from : List Load → ℕ → Limits → Draw → ℕ → Bool
sound_from xs clock y a j = sound (limits_beside y []) clock (added xs (draw_of a) j)

-- before the window from `low` up to `until` is added: no start before `start` is sound
pub record Seeking (xs : List Load) (clock : ℕ) (y : Limits) (a : Draw) (p : Profile) (start low until : ℕ) : Type 0 where
  pub window : Window xs clock low p
  pub from : clock ≤ start
  pub most : start ≤ max clock (last_until xs)
  pub wide : start + a.time ≤ until
  pub order : low ≤ until
  pub failed : (j : ℕ) → clock ≤ j → j < start → sound_from xs clock y a j ≡ false

pub seeking_begin :
    {xs : List Load} {clock : ℕ} {y : Limits} {a : Draw} {p : Profile} {start until : ℕ}
    → Shows p clock [] → start ≡ clock → until ≡ clock + a.time → Seeking xs clock y a p start 0 until
seeking_begin h same e =
    rw same
    (record {
      window = window_none h;
      from = omega arith;
      most = omega arith;
      wide = omega arith;
      order = omega arith;
      failed = λ j c d. absurd (omega arith);
    })

module _ {xs : List Load} {clock : ℕ} {y : Limits} {a : Draw} (f : OrderBeside xs clock y a) {p q : Profile} {start low until : ℕ}
    (k : Seeking xs clock y a p start low until) (more : StartedAdded p q xs low until) where
  pub wider : Window xs clock until q
  wider = window_on k.window k.order more

  -- what `first_fitting` asks
  pub seeking_can : length xs ≤ 720 → CanFit q y a start
  seeking_can few =
      record {
        can =
            can_start wider.shows a.time
            (omega (arith, wider.few, length_keep (is_before until) xs))
            (omega (arith, wider.last, f.end_most, f.clock_most, f.time_most));
        alone = f.alone;
        some = f.some;
        low = omega (arith, wider.shows.starts, k.from);
        ends_fit = omega (arith, k.most, f.end_most, f.clock_most, f.time_most);
      }

  -- a minute of a start's own below the window's end
  own :
      (j t : ℕ) → clock ≤ j → j ≤ t → t < j + a.time → t < until
      → sound_at (limits_beside y []) (added xs (draw_of a) j) t ≡ fits_in q y a t
  own j t b c d e =
      sound_tests (limits_beside y []) _ _
      (λ l i.
      omega (
        arith,
        counts_own (limits_beside y []) clock xs (draw_of a) j t c d l,
        window_counts wider l t i (omega arith) e,
      ))

  -- r is what `first_fitting` answers
  module _ {r : ℕ} (high : r ≤ max start (last_minute q)) where
    most : r ≤ max clock (last_until xs)
    most =
        omega (arith, high, k.most, wider.last, wider.shows.ends (length q - 1) (omega (arith, wider.shows.formed.some)))

    -- no number is too large, and the window reaches behind the clock
    pub seeking_bounds : (r + a.time ≤ 100002890) × (clock ≤ until)
    seeking_bounds = (omega (arith, most, f.end_most, f.clock_most, f.time_most), omega (arith, k.from, k.wide))

    module _ (h : FirstFitting q y a start until r) where
      seeking_failed : (j : ℕ) → clock ≤ j → j < r → sound_from xs clock y a j ≡ false
      seeking_failed j b c =
          ⊎_elim
          (λ d. k.failed j b d)
          (λ d.
          let x = h.failed j d c in
          fails_unsound (limits_beside y []) clock xs (draw_of a) j x.minute (omega (arith, x.low))
          (own j x.minute b x.low x.high x.below ∙ x.fails))
          (below_or_not j start)

      -- a start that the window shows whole is the earliest of all
      pub seeking_found : r + a.time ≤ until → (others : List Load) → earliest (limits_beside y others) clock xs (draw_of a) ≡ at r
      unfolding earliest sound
      seeking_found b others =
          first-is (sound_from xs clock y a) (suc (last_until xs - clock)) clock r
          (record {
            low = omega (arith, k.from, h.low);
            high = omega (arith, most);
            here =
                fits_sound (limits_beside y []) clock xs (draw_of a) r f.sound_on
                (λ t c d. own r t (omega (arith, k.from, h.low)) c d (omega arith) ∙ h.passes b t c d);
            least = seeking_failed;
          })

      -- one that reaches behind it begins the next
      pub seeking_on : {edge next : ℕ} → until < r + a.time → edge ≡ until → r + a.time ≤ next → Seeking xs clock y a q r edge next
      seeking_on b same c =
          rw same
          (record {
            window = wider;
            from = omega (arith, k.from, h.low);
            most = most;
            wide = c;
            order = omega arith;
            failed = seeking_failed;
          })
