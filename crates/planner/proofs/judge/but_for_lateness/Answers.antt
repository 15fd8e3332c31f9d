-- Each way out is the first of causes 3 to 6 that applies.
use Rattle.planner.proofs.Judging.{next_profiled, judges_three, judges_four, judges_broken}
use mathlib.Core.Path.{sym, ◌∙◌}
use Rattle.planner.proofs.judge.but_for_lateness.Goals as goal

pub returns-then-start_below : goal.returns-then-start_below
returns-then-start_below g c = judges_three c.args.beside _ c.requires.2 c.start_below.ensures c.if-start_below.true

pub returns-then-ends_later : goal.returns-then-ends_later
returns-then-ends_later g c = judges_four c.args.beside _ c.requires.2 c.start_below.ensures c.if-start_below.false c.ends_later.ensures c.if-ends_later.true

pub soundness-requires : goal.soundness-requires
soundness-requires g c = (c.requires.0, next_profiled c.args.beside _ c.requires.1 c.requires.2 (sym c.ends_later.ensures ∙ c.if-ends_later.false))

pub returns : goal.returns
returns g c = judges_broken c.args.beside _ c.requires.2 c.start_below.ensures c.if-start_below.false c.ends_later.ensures c.if-ends_later.false c.soundness.ensures
