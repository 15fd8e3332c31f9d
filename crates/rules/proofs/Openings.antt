-- What an opening reads of the settings that it is given.
use mathlib.Core.Path.{refl}
use native.Mathlib.Omega.{arith}
use Rattle.rules.specs.Calls.{opening}
use Rattle.rules.specs.laws.Openings.{given_at, SettingsPastTheCountAreNotRead}
use Rattle.rules.proofs.Lists.{tabulate_same}

-- "settings past the count are not read": with one count and one W, two lists of settings that are the same at each place below the
-- count open alike, whatever stands behind
pub past_the_count : SettingsPastTheCountAreNotRead
unfolding opening
past_the_count count w xs ys same =
    rw (tabulate_same (given_at xs) (given_at ys) count 0 (λ i a b. same i (omega arith))) refl
