-- With a cause the charges stay, late by as much as before; with none the starts, one per waiting charge, are tested.
use mathlib.Core.Path.{refl, sym}
use native.Mathlib.Omega.{arith}
use Rattle.planning.proofs.tested.replanned.Goals as goal

pub returns-in-Err : goal.returns-in-Err
returns-in-Err c = rw c.in-Err.is (record { cause = refl; before = sym c.lateness-before.ensures; after = omega (arith, c.lateness-before.ensures); made = refl; left = refl })
