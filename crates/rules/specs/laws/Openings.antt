-- What an opening reads of the settings that it is given, and when it is refused for a bound of 0.
use Rattle.std.specs.Prelude.{◌≡◌, ℕ, ◌<◌, true, false, ◌||◌, ltb, eqb, List, get_or, ◌↔◌}
use Rattle.rules.specs.Basics.{some}
use Rattle.rules.specs.Calls.{Settings, settings, Asked, settings_read, bound_of, refused, opening}

-- the settings at a place, the first at 0; what is not given counts as 0, 0, 0
abbrev pub given_at : List Settings → ℕ → Settings
given_at xs i = get_or xs i (settings 0 0 0)

-- Settings past the count are not read: with one count and one W, two lists of settings that are the same at each place below the count
-- open alike, whatever stands behind.
abbrev pub SettingsPastTheCountAreNotRead : Type 0
SettingsPastTheCountAreNotRead =
    (count w : ℕ) (xs ys : List Settings)
    → ((i : ℕ) → i < count → given_at xs i ≡ given_at ys i)
    → opening (record { count = count; site = w; settings = xs })
    ≡ opening (record { count = count; site = w; settings = ys })

-- Where the count is in range, and N and c of each feeder up to it, an opening is refused with 3 exactly where some D is 0.
abbrev pub RefusalThreeIsABoundOfZero : Type 0
RefusalThreeIsABoundOfZero =
    (a : Asked)
    → ltb a.count 1 || ltb 4 a.count ≡ false
    → some (λ x. ltb x.limit 1 || ltb 60 x.limit) (settings_read a) ≡ false
    → some (λ x. ltb 100 x.percent) (settings_read a) ≡ false
    → ((opening a).answer ≡ refused 3) ↔ (some (λ x. eqb (bound_of x.limit x.percent) 0) (settings_read a) ≡ true)
