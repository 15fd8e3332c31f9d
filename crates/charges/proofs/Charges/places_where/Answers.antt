use mathlib.Core.Path.{◌≡◌, ap, sym, ◌∙◌}
use native.Mathlib.Omega.{arith}
use lib.ListN.{length-append}
use Rattle.rules.specs.Basics.{tabulate, keep}
use Rattle.charges.specs.Arrays.{charge_at}
use Rattle.charges.proofs.Walking.{keep_hit, keep_miss}
use Rattle.charges.proofs.Charges.places_where.Goals.{then-test, else-test}
use Rattle.charges.proofs.Charges.places_where.Goals as goal

pub loop-i-preserved : goal.loop-i-preserved
loop-i-preserved g c =
    elim c.if-test.branch [
      | then-test w ↦ (
        rw (w.places-is, w.push.ensures, length-append) (omega arith),
        λ p h. w.places-is ∙ w.push.ensures ∙ rw (c.loop-i.invariant.1 p h)
            (sym (keep_hit (λ j. p (charge_at c.args.self.now j)) (λ j. j) c.loop-i.i (sym (h c.loop-i.i c.loop-i-test.true c.test.result c.test.ensures) ∙ w.if-test.true))),
      )
      | else-test w ↦ (
        rw w.places-is (omega arith),
        λ p h. w.places-is ∙ c.loop-i.invariant.1 p h
            ∙ sym (keep_miss (λ j. p (charge_at c.args.self.now j)) (λ j. j) c.loop-i.i (sym (h c.loop-i.i c.loop-i-test.true c.test.result c.test.ensures) ∙ w.if-test.false)),
      )
    ]

pub returns : goal.returns
returns g c =
    let whole : c.loop-i.i ≡ c.args.self.now.held = omega arith in
    λ p h. c.loop-i.invariant.1 p h ∙ ap (λ n. keep (λ j. p (charge_at c.args.self.now j)) (tabulate (λ j. j) n 0)) whole
