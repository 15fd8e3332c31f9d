-- The start that is sought for an order, and what the search for it asks.
use Rattle.std.specs.Prelude.{◌≡◌, ℕ, ◌+◌, ◌*◌, ◌≤◌, true, List, [], length}
use Rattle.rules.specs.Basics.{Found, Each}
use Rattle.rules.specs.Load.{Load, last_until, sound}
use Rattle.rules.specs.Search.{earliest}
use Rattle.profile.specs.declared.loads.Draw.{Draw}
use Rattle.profile.specs.Steps.{most_steps}
use Rattle.profile.specs.Shows.{draw_of}
use Rattle.search.specs.declared.limits.Limits.{Limits}
use Rattle.search.specs.Numbers.{limits_beside, SoundAlone}
use Rattle.windows.specs.Windows.{Drawable}
use Rattle.orders.specs.declared.sought.Sought.{Sought}

-- the start of an order among these loads. What the other feeders draw stands among them, so that the limits say nothing of it.
abbrev pub start_sought : Sought → List Load → List Load → Found
start_sought q others xs = earliest (limits_beside q.limits others) q.clock xs (draw_of q.draw)

-- a sound plan of loads with numbers in range, and what none of refusals 4 to 18 turns away
pub record OrderBeside (xs : List Load) (clock : ℕ) (y : Limits) (a : Draw) : Type 0 where
  pub drawable : Each Drawable xs
  pub end_most : last_until xs ≤ 100001445
  pub clock_most : clock ≤ 1000000
  pub sound_on : sound (limits_beside y []) clock xs ≡ true
  pub some : 1 ≤ a.time
  pub time_most : a.time ≤ 1445
  pub alone : SoundAlone y a

-- a list of so many places has them for the steps of the loads
pub record CanOrder (q : Sought) (places : ℕ) (xs : List Load) : Type 0 where
  pub enough : 1 + 2 * length xs ≤ places
  pub most : places ≤ most_steps
  pub plan : OrderBeside xs q.clock q.limits q.draw
