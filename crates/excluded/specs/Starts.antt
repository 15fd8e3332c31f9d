-- A test whether a start is the earliest. It is true exactly where it is: `earliest_tests` in proofs/TestsStarts.antt.
use Rattle.std.specs.Prelude.{ℕ, ◌-◌, Bool, not, ◌&&◌, leb}
use Rattle.rules.specs.Basics.{throughout}
use Rattle.rules.specs.Load.{Draw}
use Rattle.rules.specs.Charge.{loads_of}
use Rattle.rules.specs.Search.{added}
use Rattle.rules.specs.Site.{State, charges_on}
use Rattle.excluded.specs.Minutes.{plan_sound}

-- the held plan and the load of this draw from u on are sound together
abbrev pub sound_with : State → ℕ → Draw → ℕ → Bool
sound_with s f a u = plan_sound s f (added (loads_of (charges_on s f)) a u)

-- no start from the clock on and before this one is sound
abbrev pub no_earlier : State → ℕ → Draw → ℕ → Bool
no_earlier s f a start = throughout (λ u. not (sound_with s f a u)) (start - s.clock) s.clock

abbrev pub is_earliest : State → ℕ → Draw → ℕ → Bool
is_earliest s f a start = leb s.clock start && (sound_with s f a start && no_earlier s f a start)
