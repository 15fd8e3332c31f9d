-- Loads put into a profile whole: of the other feeders, and of the charges that start before a minute.
use mathlib.Core.Path.{◌≡◌, refl, sym, ◌∙◌, ap}
use Prim.Native.Nat.{ℕ, ◌+◌, ◌*◌, ◌≤◌, ◌<◌}
use mathlib.Core.List.{List, [], ◌∷◌}
use native.Mathlib.Omega.{arith}
use lib.Dec.{ltb}
use lib.ListN.{length}
use borrow.Author.Tests.{lt-ltb, le-leb}
use Rattle.rules.specs.Basics.{Each, keep}
use Rattle.rules.specs.Load.{Load}
use Rattle.rules.specs.Charge.{loads_of, begun_charges, seen}
use Rattle.rules.specs.Site.{places}
use Rattle.rules.proofs.Lists.{length_keep, length_tabulate, each_map}
use Rattle.charges.specs.declared.Charges.{Charges}
use Rattle.charges.specs.Arrays.{charge_at, charges_of}
use Rattle.charges.specs.Drawn.{loads_lent}
use Rattle.charges.proofs.Drawing.{loads_begun}
use Rattle.profile.specs.Steps.{most_steps}
use Rattle.profile.specs.Shows.{Profile, Shows}
use Rattle.windows.specs.Windows.{starts_in, started, Drawable, CanAddStarted, StartedAdded}
use Rattle.planner.specs.declared.Beside.{Beside}
use Rattle.planner.specs.Others.{Plannable}
use Rattle.planner.specs.Ready.{terms_of, Spacious, Profiled}
use Rattle.planner.proofs.Showing.{length_loads_of}

-- every start is at or behind minute 0
from_zero : (high : ℕ) (x : Load) → starts_in 0 high x ≡ ltb x.from high
from_zero high x = rw (le-leb 0 x.from (omega arith)) refl

started_before_lem : (before : ℕ) (xs : List Load) → started 0 before xs ≡ keep (λ x. ltb x.from before) xs
started_before_lem before [] = refl
started_before_lem before (x ∷ xs) = rw (from_zero before x, started_before_lem before xs) refl

-- where every start is below `high`, all are started before it
started_all : (high : ℕ) (xs : List Load) → Each (λ x. x.from < high) xs → started 0 high xs ≡ xs
started_all high [] e = refl
started_all high (x ∷ xs) e = rw (from_zero high x, lt-ltb x.from high e.0, started_all high xs e.1) refl

plannable_below : (xs : List Load) → Each Plannable xs → Each (λ x. x.from < 4294967295) xs
plannable_below = each_map Plannable (λ x. x.from < 4294967295) (λ x p. p.below)

pub plannable_drawable : (xs : List Load) → Each Plannable xs → Each Drawable xs
plannable_drawable = each_map Plannable Drawable (λ x p. p.drawable)

-- loads, of which those that start before a minute are added
can_add_before :
    {size clock : ℕ} {p : Profile} {loads : List Load} → Shows p clock loads → (high : ℕ) (xs : List Load) → Each Plannable xs →
    1 + 2 * (length loads + length xs) ≤ size → size ≤ most_steps → CanAddStarted p size xs 0 high
can_add_before {size} {clock} {p} {loads} s high xs each few most =
    record {
      drawable = plannable_drawable xs each;
      room = record { clock = clock; loads = loads; shows = s; few = omega (arith, few, length_keep (starts_in 0 high) xs); most = most };
    }

module _ (b : Beside) where
  -- What the other feeders draw

  pub others_can_add : {size : ℕ} {p : Profile} → Spacious b size → Shows p b.clock [] → CanAddStarted p size (loads_lent b.others) 0 4294967295
  others_can_add space s = can_add_before s 4294967295 (loads_lent b.others) b.others_fit.plannable (omega (arith, space.enough)) space.most

  pub others_shown : {p q : Profile} → Shows p b.clock [] → StartedAdded p q (loads_lent b.others) 0 4294967295 → Shows q b.clock (loads_lent b.others)
  others_shown s a =
      rw (started_all 4294967295 (loads_lent b.others) (plannable_below (loads_lent b.others) b.others_fit.plannable)) at (a b.clock [] s)

  -- The charges that start before a minute, lent as loads

  module _ {p : Profile} (s : Shows p b.clock (loads_lent b.others)) {c : Charges} (v : Profiled c) {xs : List Load} (lent : xs ≡ loads_of (charges_of c))
      (before : ℕ) where
    few : length xs ≤ places
    few = omega (arith, ap length lent, length_loads_of (charges_of c), length_tabulate (charge_at c) c.held 0, c.few)

    pub own_can_add : {size : ℕ} → Spacious b size → CanAddStarted p size xs 0 before
    own_can_add space = can_add_before s before xs (rw lent v.plannable) (omega (arith, space.enough, few)) space.most

    pub own_shown :
        {q : Profile} (high : ℕ) → high ≡ before → StartedAdded p q xs 0 high → Shows q b.clock (seen (terms_of b) (begun_charges before (charges_of c)))
    own_shown high e a =
        rw (← e, loads_begun high (charges_of c), ← started_before_lem high (loads_of (charges_of c)), ← lent) (a b.clock (loads_lent b.others) s)

-- all charges start before the largest number of 32 bits
all_before : (c : Charges) → Profiled c → loads_of (begun_charges 4294967295 (charges_of c)) ≡ loads_of (charges_of c)
all_before c v =
    loads_begun 4294967295 (charges_of c) ∙ sym (started_before_lem 4294967295 (loads_of (charges_of c)))
    ∙ started_all 4294967295 (loads_of (charges_of c)) (plannable_below (loads_of (charges_of c)) v.plannable)

pub all_shown :
    {p : Profile} (b : Beside) {c : Charges} → Profiled c → (before : ℕ) → before ≡ 4294967295 →
    Shows p b.clock (seen (terms_of b) (begun_charges before (charges_of c))) → Shows p b.clock (seen (terms_of b) (charges_of c))
all_shown {p} b {c} v before e s = rw (e, all_before c v) at s
