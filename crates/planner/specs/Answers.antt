-- What a replan proposes, as the rules have it.
use Rattle.std.specs.Prelude.{◌≡◌, ℕ, length, Result, Ok, Err}
use Rattle.rules.specs.Replan.{Proposal, starts, none}
use Rattle.charges.specs.declared.Charges.{Charges}
use Rattle.charges.specs.Starts.{Starts}
use Rattle.planner.specs.declared.cause.Cause.{Cause}
use Rattle.planner.specs.Causes.{number_of}
use Rattle.planner.specs.Starts.{waiting_count}

-- starts for the waiting charges, or the cause for having none
abbrev pub proposal_of : Result Starts Cause → Proposal
proposal_of (Ok list) = starts list
proposal_of (Err cause) = none (number_of cause)

-- a start for each of n waiting charges, where there are starts
abbrev pub ForEach : ℕ → Result Starts Cause → Type 0
ForEach n (Ok list) = length list ≡ n
ForEach n (Err cause) = Unit {0}

-- the answer is this proposal
pub record Proposes (clock : ℕ) (c : Charges) (p : Proposal) (r : Result Starts Cause) : Type 0 where
  pub same : p ≡ proposal_of r
  pub many : ForEach (waiting_count clock c) r
