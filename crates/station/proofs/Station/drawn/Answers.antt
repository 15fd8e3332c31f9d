-- Its own charges are joined behind the others.
use native.Mathlib.Omega.{arith}
use mathlib.Core.Path.{◌≡◌, ap, ◌∙◌}
use mathlib.Core.Bool.{true}
use mathlib.Core.List.{◌++◌}
use Rattle.rules.specs.Charge.{loads_of}
use Rattle.charges.specs.Arrays.{charges_of}
use Rattle.charges.specs.Drawn.{seen_from}
use Rattle.station.specs.View.{feeder_at}
use Rattle.station.proofs.Views.{feeder_read}
use Rattle.station.proofs.Rests.{length_gathered, drawn_own}
use Rattle.station.proofs.Station.drawn.Goals as goal

pub returns : goal.returns
returns c =
    let s = c.args.self.now in
    let own = (feeder_at s c.args.place).charges in
    let joined : c.append.new.self ≡ c.rest-drawn.result ++ seen_from true (loads_of (charges_of own)) =
    c.append.ensures ∙ ap (λ g. c.rest-drawn.result ++ loads_of (charges_of g.charges)) (feeder_read s c.requires.0 c.requires.1 _) in (
      drawn_own s c.args.place c.requires.1 c.rest-drawn.ensures.0 joined,
      omega (arith, c.rest-drawn.ensures.1, own.few, length_gathered true c.rest-drawn.result own joined),
    )
