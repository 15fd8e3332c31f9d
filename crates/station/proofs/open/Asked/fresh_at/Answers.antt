use native.Mathlib.Omega.{arith}
use Rattle.station.proofs.FreshFeeders.{product_granted}
use Rattle.station.proofs.open.Asked.fresh_at.Goals as goal

pub fresh-requires : goal.fresh-requires
fresh-requires c =
    omega (arith, product_granted c.args.self.now c.args.place c.requires.0 c.if-place-self.true)
