use Rattle.std.proofs.Common.{rules}
use mathlib.Core.Path.{ap}
use native.Mathlib.Omega.{arith}
use Prim.Native.Nat.{◌<◌}
use lib.ListN.{length, length-take}
use Rattle.profile.proofs.Edited.{doubled_put}
use Rattle.profile.proofs.loads.Profile.put_in.Goals as goal

pub returns : goal.returns
returns g c =
    let before : c.args.i < c.self.inside.count = omega (arith, c.requires.0, ap length c.self.view_is, length-take c.self.inside.count c.self.inside.list) in
    rw (← c.self.view_is)
    (doubled_put c.self.inside.list c.copy_within.new.self before (search rules) c.copy_within.ensures.len c.copy_within.ensures.by_index.0 c.copy_within.ensures.by_index.1)
