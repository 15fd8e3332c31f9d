-- What a field says of a call that no condition refuses, and its test.
use Rattle.std.specs.Prelude.{ℕ, Bool, not, List}
use Rattle.rules.specs.Site.{State}
use Rattle.rules.specs.Calls.{Call, refusals}
use Rattle.guarantee.specs.DemandOne.{NoneApplies}
use Rattle.excluded.specs.Same.{every, where_so}

abbrev pub Free : State → Call → Type 0 → Type 0
Free s c P = NoneApplies (refusals s c) → P

abbrev pub none_applies : List (Bool × ℕ) → Bool
none_applies rows = every (λ row. not row.0) rows

abbrev pub free : State → Call → Bool → Bool
free s c b = where_so (none_applies (refusals s c)) b
