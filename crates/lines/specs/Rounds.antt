-- The rounds of replan by lines, as the rules have them.
use Rattle.std.specs.Prelude.{◌≡◌, ℕ, ◌+◌, ◌≤◌, ◌<◌, cond, eqb, Option, Some, None, Result}
use Rattle.std.specs.declared.ops.ControlFlow.{ControlFlow}
use Rattle.std.specs.declared.ops.ControlFlow.TheVariants.{Break, Continue}
use Rattle.rules.specs.Replan as rules
use Rattle.rules.specs.Replan.{largest_line, smallest_line, ends, lowers, round}
use Rattle.rules.specs.Load.{IsLine}
use Rattle.rules.specs.Search.{Caps}
use Rattle.charges.specs.declared.Charges.{Charges}
use Rattle.charges.specs.Arrays.{charges_of}
use Rattle.charges.specs.Starts.{Starts}
use Rattle.profile.specs.Shows.{Profile, level_of, levels, first_minute, Formed, most_drawn}
use Rattle.search.specs.declared.caps.Lowering.{Lowering}
use Rattle.search.specs.Caps.{CapsShown}
use Rattle.planner.specs.declared.cause.Cause.{Cause}
use Rattle.planner.specs.Ready.{terms_of}
use Rattle.planner.specs.Starts.{waiting_count}
use Rattle.planner.specs.Answers.{proposal_of, ForEach}
use Rattle.lines.specs.declared.place.Task.{Task}
use Rattle.lines.specs.declared.rounds.Replanned.{Replanned}

-- a round ends the replan with what is proposed, or goes on with a cap that is lowered
abbrev pub Round : Type 0
Round = ControlFlow (Result Starts Cause) Lowering

-- what came of a round
abbrev pub outcome : Round → rules.Outcome
outcome (Break p) = ends (proposal_of p)
outcome (Continue x) = lowers x.line x.minute x.cap

-- what minute t of a plan asks for, where its profile is p and that of what stands alone is base
abbrev pub asked_in : Profile → Profile → ℕ → ℕ → Option Lowering
asked_in p base t bound =
    cond (eqb (level_of p (largest_line (levels p t)) t) (level_of base (largest_line (levels p t)) t))
    None
    (Some (record { line = largest_line (levels p t); minute = t; cap = level_of p (smallest_line (levels p t)) t + bound }))

-- both profiles have the minute, and the counts are small
pub record Comparable (p base : Profile) (t bound : ℕ) : Type 0 where
  pub planned : Formed p
  pub formed : Formed base
  pub begun : first_minute p ≤ t
  pub low : first_minute base ≤ t
  pub small : (l : ℕ) → IsLine l → level_of p l t ≤ most_drawn
  pub bound_most : bound ≤ 60

-- each of n waiting charges has a start in what is proposed; of a lowering the minute is a number of 32 bits, and the cap is not below the bound
abbrev pub Fits : ℕ → ℕ → Round → Type 0
Fits n bound (Break p) = ForEach n p
Fits n bound (Continue x) = (x.minute < 4294967295) × (bound ≤ x.cap)

-- the answer is what came of the round under the caps, whatever they are
pub record Plays (k : Task) (r : Round) : Type 0 where
  pub same :
      (cap : Caps)
      → CapsShown k.caps.now k.beside.limits.site cap
      → round (terms_of k.beside) k.beside.clock (charges_of k.charges.now) cap ≡ outcome r
  pub fits : Fits (waiting_count k.beside.clock k.charges.now) k.beside.limits.bound r

-- the answer is this proposal, with the rounds made for it
pub record Replans (clock : ℕ) (c : Charges) (p : rules.Replanned) (r : Replanned) : Type 0 where
  pub same : p ≡ record { proposal = proposal_of r.proposed; rounds = r.rounds }
  pub many : ForEach (waiting_count clock c) r.proposed
