use Rattle.std.proofs.Common.{rules}
use mathlib.Core.Path.{◌≡◌, ◌∙◌, ap}
use native.Mathlib.Omega.{arith}
use Prim.Native.Nat.{ℕ, max}
use Rattle.profile.specs.Shows.{first_minute}
use Rattle.profile.proofs.Edited.{first_taken}
use Rattle.profile.proofs.Adds.{raise_can, add_done}
use Rattle.profile.proofs.loads.Profile.add.Goals as goal

pub returns : goal.returns
returns g c =
    let from : c.max-from.result ≡ max (first_minute c.args.self.now) c.args.start = c.max-from.ensures ∙ ap (λ (x : ℕ). max x c.args.start) (first_taken c.self.inside.list c.self.inside.count c.self.view_is c.requires.formed.some) in
    add_done c.requires from c.if-until-from.false c.split_both-steps.ensures.first c.split_both-steps.ensures.second (omega arith) (omega arith) (omega arith) c.raise.ensures

pub raise-requires : goal.raise-requires
raise-requires g c =
    let from : c.max-from.result ≡ max (first_minute c.args.self.now) c.args.start = c.max-from.ensures ∙ ap (λ (x : ℕ). max x c.args.start) (first_taken c.self.inside.list c.self.inside.count c.self.view_is c.requires.formed.some) in
    (search rules, raise_can c.requires from c.if-until-from.false c.split_both-steps.ensures.first c.split_both-steps.ensures.second (search rules) (omega (arith, c.requires.is_rate.high)))
