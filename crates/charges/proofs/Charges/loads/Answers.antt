use Rattle.std.proofs.Common.{rules}
use Rattle.charges.proofs.Drawing.{loads_in_lem, loads_cut}
use Rattle.charges.proofs.Charges.loads.Goals as goal

pub returns : goal.returns
returns c =
    let s = c.args.self.now in
    let cut = loads_cut s.held s.lines s.active_times s.starts s.rates (search rules) in
    search (rules, cut, loads_in_lem s)
