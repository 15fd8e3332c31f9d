use Rattle.std.proofs.Common.{rules}
use Rattle.charges.proofs.Drawing.{loads_cut}
use Rattle.charges.proofs.drawn.Drawn.loads.Goals as goal

pub returns : goal.returns
returns c =
    let d = c.self.inside in
    let cut = loads_cut d.held d.lines d.active_times d.starts d.rates (search rules) in
    search (rules, cut)
