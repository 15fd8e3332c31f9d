-- The loads of one window, put into a profile place by place.
use mathlib.Core.Path.{◌≡◌, refl, sym, ◌∙◌}
use Prim.Native.Nat.{ℕ, zero, suc, ◌+◌, ◌-◌, ◌^◌, ◌≤◌, ◌<◌}
use mathlib.Core.Bool.{Bool, true, false, ◌&&◌}
use mathlib.Core.List.{List, [], ◌∷◌, ◌++◌, append_assoc}
use native.Mathlib.Omega.{arith}
use lib.Dec.{leb, ltb}
use lib.ListN.{length, length-append}
use borrow.Author.Tests.{lt-ltb, le-ltb, lt-leb, le-leb}
use Rattle.std.specs.Cmp.{ranks}
use Rattle.std.specs.Ordering.{nat_cmp, is_lt, is_le, MatchOrdering}
use Rattle.std.specs.declared.cmp.Ordering.{Ordering}
use Rattle.std.specs.declared.cmp.Ordering.TheVariants.{Less, Equal, Greater}
use Rattle.rules.specs.Basics.{tabulate}
use Rattle.rules.specs.Load.{Load, load_from}
use Rattle.charges.proofs.Members.{each_place}
use Rattle.charges.proofs.Walking.{keep_hit, keep_miss, count_hit}
use Rattle.profile.specs.declared.loads.Draw.{Draw}
use Rattle.profile.specs.Shows.{Profile, draw_of, Shows, LoadAdded, CanAdd}
use Rattle.profile.proofs.Shown.{added_shows, can_add}
use Rattle.windows.specs.Windows.{starts_in, started, Drawable, CanAddStarted}

-- a range contains what is not before its start, and before its end
in_window : (low high t : ℕ) → (is_le (nat_cmp low t) && is_lt (nat_cmp t high)) ≡ (leb low t && ltb t high)
in_window low high t = go (nat_cmp low t) (nat_cmp t high) (ranks low t) (ranks t high)
  where
    go :
        (a b : Ordering) → MatchOrdering a (low < t) (low ≡ t) (t < low) → MatchOrdering b (t < high) (t ≡ high) (high < t) →
        (is_le a && is_lt b) ≡ (leb low t && ltb t high)
    go Greater b h k = rw (lt-leb low t h) refl
    go Less Less h k = rw (le-leb low t (omega arith), lt-ltb t high k) refl
    go Less Equal h k = rw (le-leb low t (omega arith), le-ltb t high (omega arith)) refl
    go Less Greater h k = rw (le-leb low t (omega arith), le-ltb t high (omega arith)) refl
    go Equal Less h k = rw (le-leb low t (omega arith), lt-ltb t high k) refl
    go Equal Equal h k = rw (le-leb low t (omega arith), le-ltb t high (omega arith)) refl
    go Equal Greater h k = rw (le-leb low t (omega arith), le-ltb t high (omega arith)) refl

module _ (f : ℕ → Load) (low high : ℕ) where
  -- those among the first i loads
  abbrev pub started_below : ℕ → List Load
  started_below i = started low high (tabulate f i 0)

  -- no more are among the first loads than among all
  started_few : (i d : ℕ) → length (started_below i) ≤ length (started_below (i + d))
  started_few i zero = let e : i + 0 ≡ i = omega arith in rw e (omega arith)
  started_few i (suc d) =
      let e : i + suc d ≡ i + d + 1 = omega arith in
      rw e (go (starts_in low high (f (i + d))) refl (started_few i d))
    where
      go :
          (b : Bool) → starts_in low high (f (i + d)) ≡ b → length (started_below i) ≤ length (started_below (i + d)) →
          length (started_below i) ≤ length (started_below (i + d + 1))
      go true e h = omega (arith, count_hit (starts_in low high) f (i + d) e)
      go false e h = rw (keep_miss (starts_in low high) f (i + d) e) h

-- q shows what p shows, and those of the first i loads that begin in the window
pub record Extended (p q : Profile) (f : ℕ → Load) (low high i : ℕ) : Type 0 where
  pub shown : (clock : ℕ) (loads : List Load) → Shows p clock loads → Shows q clock (loads ++ started_below f low high i)

-- the next load, which the window contains or not
module _ {p q : Profile} {places held : ℕ} {f : ℕ → Load} {low high i : ℕ} (can : CanAddStarted p places (tabulate f held 0) low high)
    (w : Extended p q f low high i) (more : i < held) {inside : Bool} (told : inside ≡ (is_le (nat_cmp low (f i).from) && is_lt (nat_cmp (f i).from high))) where
  starts : {b : Bool} → inside ≡ b → starts_in low high (f i) ≡ b
  starts e = sym (told ∙ in_window low high (f i).from) ∙ e

  pub next_drawable : Drawable (f i)
  next_drawable = each_place Drawable f held can.drawable i more

  module _ (contained : inside ≡ true) {a : Draw} {start : ℕ} where
    -- one that is added leaves room for those behind it
    pub extended_can_add : 1 ≤ a.rate → a.rate ≤ 2 → start + a.time < 2 ^ 32 → CanAdd q places a start
    extended_can_add rate_low rate_high ends_fit =
        let n : i + 1 + (held - (i + 1)) ≡ held = omega arith in
        let all : length (started_below f low high (i + 1)) ≤ length (started low high (tabulate f held 0)) = rw n at (started_few f low high (i + 1) (held - (i + 1))) in
        can_add q places can.room.clock (can.room.loads ++ started_below f low high i) a start
        (w.shown can.room.clock can.room.loads can.room.shows)
        (omega (arith, all, count_hit (starts_in low high) f i (starts contained), length-append can.room.loads (started_below f low high i), can.room.few))
        can.room.most
        (record { low = rate_low; high = rate_high })
        ends_fit

    pub extended_on :
        {r : Profile} → a.line ≡ (f i).line → a.rate ≡ (f i).rate → start ≡ (f i).from → start + a.time ≡ (f i).until → LoadAdded q r a start →
        Extended p r f low high (i + 1)
    extended_on {r} line rate from until added =
        let is : load_from (draw_of a) start ≡ f i = rw (until, line, rate, from) refl in
        record {
          shown = λ clock loads s.
              rw (keep_hit (starts_in low high) f i (starts contained), ← append_assoc loads (started_below f low high i) (f i ∷ []), ← is)
              (added_shows (rw rate next_drawable.is_rate) added clock (loads ++ started_below f low high i) (w.shown clock loads s));
        }

  pub extended_past : inside ≡ false → Extended p q f low high (i + 1)
  extended_past outside = record { shown = λ clock loads s. rw (keep_miss (starts_in low high) f i (starts outside)) (w.shown clock loads s) }
