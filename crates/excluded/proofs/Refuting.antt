-- What the refutations of wrong stations share.
use mathlib.Core.Path.{refl}
use Prim.Native.Nat.{◌≤◌}
use native.Mathlib.Omega.{arith}
use lib.ListN.{length}
use Rattle.rules.specs.Load.{IsLine}
use Rattle.rules.specs.Site.{State}
use Rattle.rules.specs.Valid.{IsFeeder}
use Rattle.rules.specs.Calls.{preview, commit, move, offer, replan_latest, replan_lines, enquire, board, withdraw}
use Rattle.excluded.specs.LawsOfStations.{PartsAreTheRules}

pub unaltered : PartsAreTheRules
unaltered s (preview f line p d rate) = refl
unaltered s (commit f line p d rate shown) = refl
unaltered s (move target list) = refl
unaltered s (offer f ss) = refl
unaltered s (replan_latest f) = refl
unaltered s (replan_lines f allowance) = refl
unaltered s (enquire ticket) = refl
unaltered s (board asked list) = refl
unaltered s (withdraw ticket) = refl

pub line_one : IsLine 1
line_one = record { low = omega arith; high = omega arith }

pub line_two : IsLine 2
line_two = record { low = omega arith; high = omega arith }

pub line_three : IsLine 3
line_three = record { low = omega arith; high = omega arith }

pub feeder_one : (s : State) → 1 ≤ length s.feeders → IsFeeder s 1
feeder_one s h = record { low = omega arith; high = h }
