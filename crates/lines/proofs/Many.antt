-- How many charges the lines have.
use mathlib.Core.Path.{◌≡◌, refl}
use Prim.Native.Nat.{ℕ, zero, suc, ◌+◌, ◌≤◌}
use mathlib.Core.List.{List, [], ◌∷◌}
use native.Mathlib.Omega.{arith}
use lib.ListN.{length}
use Rattle.std.proofs.lemmas.Bool.Decides.{nat_tests}
use Rattle.rules.specs.Site.{places}
use Rattle.rules.specs.Charge.{Charge}
use Rattle.rules.specs.Replan.{of_line}
use Rattle.rules.proofs.Lists.{length_tabulate}
use Rattle.charges.specs.declared.Charges.{Charges}
use Rattle.charges.specs.Arrays.{charge_at, charges_of}
use Rattle.charges.specs.Held.{Listed}
use Rattle.planner.specs.Ready.{begun_of}
use Rattle.lines.specs.Lines.{waiting_of, many_up_to}
use Rattle.planner.proofs.Showing.{begun_and_waiting_lem}

-- a charge is on one line at most
lines_length : (cs : List Charge) → length (of_line 1 cs) + (length (of_line 2 cs) + length (of_line 3 cs)) ≤ length cs
lines_length [] = omega arith
lines_length (c ∷ cs) = grind (arith, nat_tests, lines_length cs)

many_most : (cs : List Charge) (l : ℕ) → l ≤ 3 → many_up_to l cs ≤ length cs
many_most cs zero h = omega arith
many_most cs (suc zero) h = omega (arith, lines_length cs)
many_most cs (suc (suc zero)) h = omega (arith, lines_length cs)
many_most cs (suc (suc (suc zero))) h = omega (arith, lines_length cs)
many_most cs (suc (suc (suc (suc l)))) h = absurd (omega arith)

-- the begun charges and those of the first l lines have room
pub many_room : (clock : ℕ) {c : Charges} → Listed c → (l : ℕ) → l ≤ 3 → length (begun_of clock c) + many_up_to l (waiting_of clock c) ≤ places
many_room clock {c} h l most =
    omega (
      arith,
      many_most (waiting_of clock c) l most,
      begun_and_waiting_lem clock (charges_of c),
      length_tabulate (charge_at c) c.held 0,
      c.few,
    )

pub many_next : (before line : ℕ) (cs : List Charge) → line ≡ before + 1 → many_up_to line cs ≡ many_up_to before cs + length (of_line line cs)
many_next before line cs e = let next : line ≡ suc before = omega arith in rw next refl
