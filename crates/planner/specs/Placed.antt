-- The waiting charges placed one after another: the profile and the starts that they leave.
use Rattle.std.specs.Prelude.{◌≡◌, ℕ, ◌*◌, max, ◌+◌, ◌≤◌, List, ◌++◌, length}
use Rattle.rules.specs.Site.{places}
use Rattle.rules.specs.Basics.{Each}
use Rattle.rules.specs.Load.{Load, Limits, last_until}
use Rattle.rules.specs.Charge.{Charge, loads_of}
use Rattle.rules.specs.Replan.{Placed, all, standing}
use Rattle.charges.specs.declared.Charges.{Charges}
use Rattle.profile.specs.Shows.{Profile, Shows}
use Rattle.planner.specs.Starts.{Stored}
use Rattle.charges.specs.Arrays.{charges_of}
use Rattle.planner.specs.Ready.{begun_of}

-- no charge with this ticket is placed
abbrev pub Missing : ℕ → List Charge → Type 0
Missing t placed = Each (λ x. x.ticket ≡ t → ⊥) placed

-- what stands and the charges placed so far
abbrev pub plan_of : Limits → ℕ → Charges → List Charge → List Load
plan_of y clock c placed = standing y clock (charges_of c) ++ loads_of placed

-- the plan of what stands and the charges placed so far
pub record PlanShown (y : Limits) (clock : ℕ) (c : Charges) (placed : List Charge) (p : Profile) (by_place : List ℕ) : Type 0 where
  pub shows : Shows p clock (plan_of y clock c placed)
  pub stored : Stored c by_place placed
  pub length_is : length by_place ≡ places
  pub ends : max clock (last_until (plan_of y clock c placed)) ≤ 100001445 + 1445 * length placed

-- every waiting charge is placed, as the rules place them
pub record AllPlaced (result : Placed) (y : Limits) (clock : ℕ) (c : Charges) (p : Profile) (by_place : List ℕ) : Type 0 where
  pub placed : List Charge
  pub gives : result ≡ all placed
  pub few : length (begun_of clock c) + length placed ≤ places
  pub plan : PlanShown y clock c placed p by_place
