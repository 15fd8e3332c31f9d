-- What an offer and both replans tell in the same way.
use Rattle.std.specs.Prelude.{ℕ, ◌≡◌, List, Result}
use Rattle.rules.specs.Calls.{written, replan_latest}
use Rattle.refusals.specs.declared.Refusal.{Refusal}
use Rattle.refusals.specs.Refusals.{refusal_in}
use Rattle.service.specs.Left.{counted}
use Rattle.service.specs.Named.{told_of, blocks_in}
use Rattle.service.specs.declared.numbers.Numbers.{Numbers}

-- the number returned and those behind the references, as of a replan by latest start, of whatever feeder
pub record TellsPlan (r : Result Numbers Refusal) (numbers : List ℕ) (number : ℕ) (behind : List ℕ) : Type 0 where
  pub number_is : number ≡ refusal_in r
  pub numbers_are : behind ≡ written (counted (blocks_in r) (told_of (replan_latest 0) r)) numbers
