-- The three demands hold.
use Rattle.guarantee.specs.Demands.{Demands}
use Rattle.guarantee.proofs.DemandOne.{demand_one, demand_one_opening}
use Rattle.guarantee.proofs.DemandTwo.{demand_two}
use Rattle.guarantee.proofs.DemandThree.{demand_three}

pub demands : Demands
demands = record { one_opening = demand_one_opening; one = demand_one; two = demand_two; three = demand_three }
