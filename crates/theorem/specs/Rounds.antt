-- A round of the replan by lines, spelled out: what it finds uneven, and which cap it lowers.
use Rattle.std.specs.Prelude.{◌≡◌, ℕ, zero, suc, ◌+◌, ◌≤◌, ◌<◌, true, List, ◌++◌}
use Rattle.rules.specs.Load.{count, IsLine}
use Rattle.rules.specs.Charge.{Charge, loads_of, begun_charges, waiting_charges}
use Rattle.rules.specs.Search.{Caps}
use Rattle.rules.specs.Priority.{fits_at}
use Rattle.rules.specs.Replan.{all, standing, place_lines, lowered, placed_active}
use Rattle.rules.specs.Site.{feeder_of, charges_on, limits_of}
use Rattle.station.specs.declared.Station.{Station}
use Rattle.station.specs.View.{view}

-- A round with these caps gives all waiting charges of feeder f these starts: line by line, each time the smallest start at which any charge
-- that is left fits under the caps, and to the charge of the largest weight for its time (`place_lines`).
abbrev pub IsRound : Station → ℕ → Caps → List Charge → Type 0
IsRound s f cap placed =
    place_lines (fits_at s.site cap) s.clock (standing (limits_of (view s) f) s.clock (charges_on (view s) f))
    (waiting_charges s.clock (charges_on (view s) f)) 3
    ≡ all placed

-- the count of a line in minute t, of begun charges and those placed
abbrev pub count_with : Station → ℕ → List Charge → ℕ → ℕ → ℕ
count_with s f placed line t = count (loads_of (begun_charges s.clock (charges_on (view s) f) ++ placed)) line t

-- in minute t no two counts differ by more than the bound
abbrev pub IsEvenAt : Station → ℕ → List Charge → ℕ → Type 0
IsEvenAt s f placed t =
    (line other : ℕ)
    → IsLine line
    → IsLine other
    → count_with s f placed line t ≤ count_with s f placed other t + (feeder_of (view s) f).bound

-- t is the first minute from the clock on in which two do
abbrev pub IsFirstUneven : Station → ℕ → List Charge → ℕ → Type 0
IsFirstUneven s f placed t =
    (s.clock ≤ t)
    × (IsEvenAt s f placed t → ⊥)
    × ((earlier : ℕ) → s.clock ≤ earlier → earlier < t → IsEvenAt s f placed earlier)

-- a line with the largest count in minute t, and the lowest such line; one with the smallest, and the lowest such line
abbrev pub IsFullest : Station → ℕ → List Charge → ℕ → ℕ → Type 0
IsFullest s f placed t line =
    IsLine line
    × ((other : ℕ) → IsLine other → count_with s f placed other t ≤ count_with s f placed line t)
    × ((lower : ℕ) → 1 ≤ lower → lower < line → count_with s f placed lower t < count_with s f placed line t)

abbrev pub IsEmptiest : Station → ℕ → List Charge → ℕ → ℕ → Type 0
IsEmptiest s f placed t line =
    IsLine line
    × ((other : ℕ) → IsLine other → count_with s f placed line t ≤ count_with s f placed other t)
    × ((lower : ℕ) → 1 ≤ lower → lower < line → count_with s f placed line t < count_with s f placed lower t)

-- the round leaves caps: that of the fullest line in the first uneven minute, on which a placed charge is active then, is lowered from this
-- minute on to the smallest count and the bound
abbrev pub Lowers : Station → ℕ → Caps → Caps → Type 0
Lowers s f cap next =
    (placed : List Charge)
    × (t : ℕ)
    × (full : ℕ)
    × (empty : ℕ)
    × IsRound s f cap placed
    × IsFirstUneven s f placed t
    × IsFullest s f placed t full
    × IsEmptiest s f placed t empty
    × (placed_active placed full t ≡ true)
    × (next ≡ lowered cap full t (count_with s f placed empty t + (feeder_of (view s) f).bound))

-- the caps when n rounds have each found one to lower, and all these are lowered; at first they are the feeder's limit
abbrev pub AreCapsAfter : Station → ℕ → ℕ → Caps → Type 0
AreCapsAfter s f zero cap = cap ≡ (λ line t. (feeder_of (view s) f).limit)
AreCapsAfter s f (suc n) cap = (before : Caps) × AreCapsAfter s f n before × Lowers s f before cap
