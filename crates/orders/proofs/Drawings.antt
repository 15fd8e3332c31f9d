-- What an order's feeder sees, lent to the search for a start.
use mathlib.Core.Path.{◌≡◌, refl}
use Prim.Native.Nat.{ℕ, ◌+◌, ◌*◌, ◌≤◌}
use mathlib.Core.List.{List, []}
use lib.ListN.{length}
use Rattle.rules.specs.Load.{Load, sound}
use Rattle.profile.specs.Steps.{most_steps}
use Rattle.search.specs.declared.limits.Limits.{Limits}
use Rattle.search.specs.Numbers.{limits_beside}
use Rattle.orders.specs.declared.sought.Sought.{Sought}
use Rattle.orders.specs.Asked.{OrderBeside, CanOrder}

-- what the limits say of the other feeders is not read: what these draw stands among the loads
pub sound_beside :
    (y : Limits) (others : List Load) (clock : ℕ) (xs : List Load) → sound (limits_beside y others) clock xs ≡ sound (limits_beside y []) clock xs
unfolding sound
sound_beside y others clock xs = refl

-- loads that are lent
pub lent_can_order :
    (q : Sought) {places : ℕ} {lent xs : List Load} → lent ≡ xs → 1 + 2 * length xs ≤ places → places ≤ most_steps → OrderBeside xs q.clock q.limits q.draw
    → CanOrder q places lent
lent_can_order q e enough most plan = rw e (record { enough = enough; most = most; plan = plan })
