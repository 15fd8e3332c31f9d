-- The smallest start of a charge, and the first unbalanced minute (docs/RULES.md, sections 3 to 5).
-- Past the last end of a plan every count is 0, so each search ends there; proofs/Searches.antt shows that it misses nothing.
use Rattle.std.specs.Prelude.{ℕ, suc, ◌+◌, ◌-◌, Bool, not, ◌&&◌, List, [], ◌∷◌, ◌++◌, leb}
use Rattle.rules.specs.Basics.{throughout, Found, first}
use Rattle.rules.specs.Load.{Load, Draw, load_from, count, counts, whole_of, last_until, Limits, sound, balance_at}

-- the loads and that of one more charge, with its start s
abbrev pub added : List Load → Draw → ℕ → List Load
added xs a s = xs ++ (load_from a s ∷ [])

-- "The start is the smallest s not below the clock with which the held plan and this charge are sound together."
unfoldable pub earliest : Limits → ℕ → List Load → Draw → Found
earliest y clock xs a = first (λ s. sound y clock (added xs a s)) (suc (last_until xs - clock)) clock

-- the cap of each line in each minute
abbrev pub Caps : Type 0
Caps = ℕ → ℕ → ℕ

-- room in minute t for one more charge of a rate on a line: the line's count, itself included, is at or below the cap, and the
-- count of all lines, itself included, at or below the site's limit w
abbrev pub room_for : ℕ → Caps → List Load → ℕ → ℕ → ℕ → Bool
room_for w cap xs line rate t = leb (count xs line t + rate) (cap line t) && leb (whole_of (counts xs t) + rate) w

-- "with the line's count, itself included, at or below the cap in all its minutes", and "no charge where the site would pass W",
-- for one more charge that starts in minute s
abbrev pub fits_under : ℕ → Caps → List Load → Draw → ℕ → Bool
fits_under w cap xs a s = throughout (room_for w cap xs a.line a.rate) a.time s

-- "the first minute t in which two counts differ by more than D, from the clock on"
unfoldable pub first_unbalanced : Limits → ℕ → List Load → Found
first_unbalanced y clock xs = first (λ t. not (balance_at y xs t)) (last_until xs - clock) clock
