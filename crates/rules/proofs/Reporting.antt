-- The report of a clock move is sorted, and a move to the clock itself reports and drops nothing.
use mathlib.Core.Path.{◌≡◌, refl}
use Prim.Native.Nat.{ℕ, suc, ◌-◌, ◌<◌}
use mathlib.Core.Bool.{true, false, not}
use mathlib.Core.List.{List, [], ◌∷◌, map}
use native.Mathlib.Omega.{arith}
use lib.Dec.{ltb, leb}
use lib.ListN.{length, get_or}
use borrow.Author.Tests.{leb-true, ltb-true, lt-leb}
use Rattle.rules.specs.Basics.{Each, keep}
use Rattle.rules.specs.Charge.{Charge, active_until, is_finished, unfinished_charges}
use Rattle.rules.specs.Site.{Feeder, no_feeder, site_charges, with_charges}
use Rattle.rules.specs.Calls.{is_passed, moving}
use Rattle.rules.specs.Valid.{ValidCharge}
use Rattle.rules.specs.laws.Orders.{ReportIsInOrder, MoveToTheClockKeepsAll}
use Rattle.rules.proofs.Ranges.{and_left, and_right, fails}
use Rattle.rules.proofs.Lists.{each_map, keep_all, keep_none}
use Rattle.rules.proofs.Sites.{by_place}
use Rattle.rules.proofs.Distinct.{in_order_keep, site_distinct}
use Rattle.rules.proofs.Queues.{start_order}

-- "reported .. ordered by start, then ticket": the passed charges, each once, and of any two the earlier one has the
-- smaller start, or the same start and the smaller ticket
pub report_order : ReportIsInOrder
report_order s target v =
    start_order (keep (is_passed s.clock target) (site_charges s))
    (in_order_keep (λ a b. a.ticket ≡ b.ticket → ⊥) (is_passed s.clock target) (site_charges s) (site_distinct s v))

none_passed : (clock : ℕ) (c : Charge) → is_passed clock clock c ≡ false
none_passed clock c =
    fails (is_passed clock clock c)
    (λ e.
    omega (
      arith,
      leb-true clock c.start (and_left (leb clock c.start) (ltb c.start clock) e),
      ltb-true c.start clock (and_right (leb clock c.start) (ltb c.start clock) e),
    ))

none_finished :
    (gs : List Feeder) (site clock next : ℕ)
    → ((i : ℕ) → i < length gs → Each (ValidCharge (get_or gs i no_feeder) site clock next) (get_or gs i no_feeder).charges)
    → map (λ g. with_charges g (unfinished_charges clock g.charges)) gs ≡ gs
none_finished [] site clock next h = refl
none_finished (g ∷ gs) site clock next h =
    rw (
      keep_all (λ c. not (is_finished clock c)) g.charges
          (each_map (ValidCharge g site clock next) (λ c. not (is_finished clock c) ≡ true)
          (λ c p. rw (lt-leb (active_until c) clock p.unfinished)) g.charges (h 0 (omega arith))),
      none_finished gs site clock next (λ i j. h (suc i) (omega arith)),
    )

-- "A target equal to the clock reports and drops nothing."
pub move_to_the_clock : MoveToTheClockKeepsAll
unfolding moving
move_to_the_clock s list v =
    rw (
      keep_none (is_passed s.clock s.clock) (none_passed s.clock) (site_charges s),
      none_finished s.feeders s.site s.clock s.next
          (by_place s (λ g. Each (ValidCharge g s.site s.clock s.next) g.charges) (λ f h. (v.plan f h).each)),
      nothing_less (length (site_charges s)),
    )
  where
    nothing_less : (n : ℕ) → n - n ≡ 0
    nothing_less n = omega arith
