-- Wrong rules for replan by lines (Wrong.antt) that the statement excludes, each by a station that calls lead to.
use Rattle.allowance.specs.Allowance.{replans, plays, LargerAllowance}
use Rattle.allowance.specs.Wrong.{tail_left_out, not_placed_anew, lowered_to_the_count, charges_limited, rounds_told, with_tails, station_h}

-- a round that leaves tails out of the caps
abbrev pub TailHasToBeUnderTheCap : Type 0
TailHasToBeUnderTheCap = LargerAllowance replans tail_left_out with_tails 1 → ⊥

-- one that places nothing anew
abbrev pub ChargesHaveToBePlacedAnew : Type 0
ChargesHaveToBePlacedAnew = LargerAllowance replans not_placed_anew with_tails 1 → ⊥

-- a cap lowered to the count itself
abbrev pub CapsHaveToFall : Type 0
CapsHaveToFall = LargerAllowance replans lowered_to_the_count with_tails 1 → ⊥

-- an allowance that also limits which charges are placed
abbrev pub AllowanceLimitsNoCharges : Type 0
AllowanceLimitsNoCharges = LargerAllowance charges_limited plays station_h 1 → ⊥

-- rounds told by the allowance
abbrev pub AllowanceTellsNoRounds : Type 0
AllowanceTellsNoRounds = LargerAllowance rounds_told plays station_h 1 → ⊥
