-- The last draw of the site is the later one of the others' and the feeder's.
use mathlib.Core.Path.{ap, ◌∙◌}
use Rattle.rules.specs.Load.{last_until}
use Rattle.planner.proofs.Judging.{later_lem}
use Rattle.planner.proofs.judge.ends_later.Goals as goal

pub returns : goal.returns
returns c =
    rw (c.max.ensures, c.max-2.ensures)
    (later_lem c.args.beside c.args.charges.now c.args.next.now c.last_until-others.ensures (c.last_until-held.ensures ∙ ap last_until c.loads.ensures)
    (c.last_until-then.ensures ∙ ap last_until c.loads-2.ensures))
