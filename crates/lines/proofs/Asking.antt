-- What an unbalanced minute asks for: seen from its step, and as the rules have it.
use mathlib.Core.Path.{◌≡◌, refl, sym, ◌∙◌, ap}
use Prim.Native.Nat.{ℕ, zero, suc, ◌+◌, ◌<◌, max, min}
use mathlib.Core.Bool.{true, false}
use mathlib.Core.List.{List, ◌++◌}
use native.Mathlib.Omega.{arith}
use lib.Dec.{ltb}
use borrow.Author.Tests.{eq-eqb, ne_eqb, lt-ltb, le-ltb}
use Rattle.std.specs.declared.option.Option.TheVariants.{Some, None}
use Rattle.rules.specs.Basics.{at, nothing, Each}
use Rattle.rules.specs.Load.{Load, IsLine, count, counts}
use Rattle.rules.specs.Charge.{Charge, loads_of}
use Rattle.rules.specs.Search.{Caps, first_unbalanced}
use Rattle.rules.specs.Replan.{starts, none, largest_line, smallest_line, placed_active, ends, lowers, after_round, round, standing}
use Rattle.rules.proofs.Lists.{each_right}
use Rattle.rules.proofs.Rounds.{largest_line_lem}
use Rattle.rules.proofs.Counts.{count-append}
use Rattle.charges.specs.declared.Charges.{Charges}
use Rattle.charges.specs.Arrays.{charges_of}
use Rattle.profile.specs.declared.steps.Step.{Step}
use Rattle.profile.specs.Steps.{counts_of}
use Rattle.profile.specs.Shows.{Profile, level_of, levels, Rated}
use Rattle.profile.proofs.Lines.{line_one, line_two, line_three}
use Rattle.planner.specs.Starts.{WaitingStarts}
use Rattle.planner.specs.declared.Beside.{Beside}
use Rattle.planner.specs.Ready.{terms_of}
use Rattle.planner.specs.Placed.{plan_of, AllPlaced}
use Rattle.planner.proofs.Placing.{placed_active_lem}
use Rattle.lines.specs.Lines.{lines_placed}
use Rattle.lines.specs.Rounds.{asked_in}
use Rattle.lines.proofs.Extremes.{largest_alike, largest_count, smallest_count}

-- Seen from the step of the minute

module _ (p base : Profile) (t bound : ℕ) (s : Step) (counted : (l : ℕ) → IsLine l → counts_of s l ≡ level_of p l t) {line x y : ℕ}
    (e : line ≡ largest_line (counts_of s)) (ex : x ≡ max s.one (max s.two s.three)) (ey : y ≡ level_of base line t) where
  is_large : line ≡ largest_line (levels p t)
  is_large = e ∙ largest_alike (counts_of s) (levels p t) counted

  large : level_of p line t ≡ x
  large = sym (counted line (rw e (largest_line_lem (counts_of s)).line)) ∙ ap (counts_of s) e ∙ largest_count (counts_of s) ∙ sym ex

  pub asked_none : x ≡ y → None ≡ asked_in p base t bound
  asked_none same = rw (← is_large, large, ← ey, eq-eqb x y same)

  pub asked_lowers :
      {low minute cap : ℕ} → (x ≡ y → ⊥) → low ≡ min s.one (min s.two s.three) → minute ≡ t → cap ≡ low + bound
      → Some (record { line = line; minute = minute; cap = cap }) ≡ asked_in p base t bound
  asked_lowers {low} ne el em ec = rw (ec, em, ← small, ← is_large, large, ← ey, ne_eqb x y ne)
    where
      small : level_of p (smallest_line (levels p t)) t ≡ low
      small = omega (arith, el, smallest_count (levels p t), counted 1 line_one, counted 2 line_two, counted 3 line_three)

-- As the rules have it

-- a placed charge of line i is active in t exactly where what stands alone counts less
module _ (base : List Load) (placed : List Charge) (i t : ℕ) (rated : Each Rated (base ++ loads_of placed)) where
  both : count (base ++ loads_of placed) i t ≡ count base i t + count (loads_of placed) i t
  both = count-append base (loads_of placed) i t

  active_counted : placed_active placed i t ≡ ltb 0 (count (loads_of placed) i t)
  active_counted = placed_active_lem placed i t (each_right Rated base (loads_of placed) rated)

  pub none_active : count (base ++ loads_of placed) i t ≡ count base i t → placed_active placed i t ≡ false
  none_active e = active_counted ∙ le-ltb 0 (count (loads_of placed) i t) (omega (arith, both))

  pub some_active : (count (base ++ loads_of placed) i t ≡ count base i t → ⊥) → placed_active placed i t ≡ true
  some_active h = active_counted ∙ lt-ltb 0 (count (loads_of placed) i t) (more (count (loads_of placed) i t) refl)
    where
      more : (k : ℕ) → count (loads_of placed) i t ≡ k → 0 < k
      more zero e = absurd (h (omega (arith, both)))
      more (suc k) e = omega arith

module _ (cap : Caps) (b : Beside) {c : Charges} {p : Profile} {given : List ℕ}
    (a : AllPlaced (lines_placed cap b c 3) (terms_of b) b.clock c p given) where
  abbrev base : List Load
  base = standing (terms_of b) b.clock (charges_of c)

  abbrev plan : List Load
  plan = plan_of (terms_of b) b.clock c a.placed

  pub round_balanced :
      {listed : List ℕ}
      → first_unbalanced (terms_of b) b.clock plan ≡ nothing
      → WaitingStarts b.clock c given listed
      → round (terms_of b) b.clock (charges_of c) cap ≡ ends (starts listed)
  unfolding round
  round_balanced e w = rw (a.gives, e, after_round, w.gives a.placed a.plan.stored)

  module _ {t i : ℕ} (e : first_unbalanced (terms_of b) b.clock plan ≡ at t) (large : i ≡ largest_line (counts plan t)) where
    pub round_ends : count plan i t ≡ count base i t → round (terms_of b) b.clock (charges_of c) cap ≡ ends (none 1)
    unfolding round
    round_ends same = rw (a.gives, e, after_round, ← large, none_active base a.placed i t a.plan.shows.rated same)

    pub round_lowers :
        (j v : ℕ)
        → (count plan i t ≡ count base i t → ⊥)
        → j ≡ smallest_line (counts plan t)
        → v ≡ count plan j t + b.limits.bound
        → round (terms_of b) b.clock (charges_of c) cap ≡ lowers i t v
    unfolding round
    round_lowers j v more small low =
        rw (a.gives, e, after_round, ← large, some_active base a.placed i t a.plan.shows.rated more, ← small, low)
