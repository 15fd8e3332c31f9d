-- Charges in ticket order: of any two the later one has the greater ticket.
use Prim.Native.Nat.{ℕ, zero, suc, ◌+◌, ◌-◌, ◌<◌}
use mathlib.Core.Path.{◌≡◌}
use native.Mathlib.Omega.{arith}
use native.Mathlib.Nat.{add-zero}
use Rattle.charges.specs.declared.Charges.{Charges}
use Rattle.charges.specs.Arrays.{charge_at}
use Rattle.charges.specs.Held.{Rising}

pub rising_all :
    (c : Charges) → Rising c → (i j : ℕ) → i < j → j < c.held → (charge_at c i).ticket < (charge_at c j).ticket
rising_all c r i j h l = let e : i + 1 + (j - (i + 1)) ≡ j = omega arith in rw e at (go (j - (i + 1)) (omega arith))
  where
    go : (d : ℕ) → i + 1 + d < c.held → (charge_at c i).ticket < (charge_at c (i + 1 + d)).ticket
    go zero m = rw (add-zero (i + 1)) (r i (omega arith))
    go (suc d) m =
        let e : i + 1 + suc d ≡ i + 1 + d + 1 = omega arith in
        rw e (omega (arith, go d (omega arith), r (i + 1 + d) (omega arith)))
