use Rattle.guarantee.proofs.DemandOne.{valid_demand_one}
use Rattle.guarantee.proofs.DemandTwo.{valid_demand_two}
use Rattle.guarantee.proofs.DemandThree.{demand_three_from}
use Rattle.guarantee.proofs.any_station_keeps_them.Goals as goal

pub returns : goal.returns
returns c = record { one = valid_demand_one; two = valid_demand_two; three = demand_three_from }
