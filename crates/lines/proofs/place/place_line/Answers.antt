-- Of a line its own waiting charges are left first, and each turn places the one that the rules take.
use native.Mathlib.Omega.{arith}
use mathlib.Core.Path.{refl, ap}
use Prim.Native.Nat.{ℕ}
use lib.ListN.{length}
use Rattle.std.proofs.lemmas.List.Edits.{length-remove}
use Rattle.planner.proofs.Growing.{add_other}
use Rattle.lines.proofs.Beginning.{own_range, line_crowd, line_start}
use Rattle.lines.proofs.Following.{can_next}
use Rattle.lines.proofs.Continuing.{next_can_add, line_next}
use Rattle.lines.proofs.Ending.{is_none, line_done}
use Rattle.lines.proofs.place.place_line.Goals as goal

pub loop-next-init : goal.loop-next-init
loop-next-init g c =
    λ cap shown.
    line_start c.requires.0 c.args.line c.on_line-places.ensures (omega (arith, c.requires.1.low)) (c.requires.2 cap shown) (rw c.as_slice-waiting.ensures.0 at c.times_of-times.ensures) refl

pub loop-next-preserved : goal.loop-next-preserved
loop-next-preserved g c =
    λ cap shown.
    rw (c.remove.ensures, ← c.as_slice.ensures.0)
    (line_next c.in-Some.ensures c.requires.0 refl shown
    (rw (← c.steps.ensures, ← c.as_slice.ensures.0) at (c.loop-next.invariant cap shown))
    c.draw_at-draw.ensures
    (rw (← c.steps.ensures) at c.add.ensures)
    (line_crowd c.requires.0 c.args.line c.on_line-places.ensures (rw c.as_slice-waiting.ensures.0 at c.crowd_of-crowd.ensures)))

pub crowd_of-crowd-requires : goal.crowd_of-crowd-requires
crowd_of-crowd-requires g c = rw c.as_slice-waiting.ensures.0 (own_range c.requires.0 c.args.line c.on_line-places.ensures)

pub times_of-times-requires : goal.times_of-times-requires
times_of-times-requires g c = rw c.as_slice-waiting.ensures.0 (own_range c.requires.0 c.args.line c.on_line-places.ensures)

pub next_charge-requires : goal.next_charge-requires
next_charge-requires g c =
    can_next _ _ c.requires.0 refl refl (line_crowd c.requires.0 c.args.line c.on_line-places.ensures (rw c.as_slice-waiting.ensures.0 at c.crowd_of-crowd.ensures))
    (rw (← c.steps.ensures, ← c.as_slice.ensures.0) at (c.loop-next.invariant c.requires.0.capped.cap c.requires.0.capped.shown))

pub add-requires : goal.add-requires
add-requires g c =
    let x =
    next_can_add c.in-Some.ensures c.requires.0 refl c.requires.0.capped.shown
    (rw (← c.steps.ensures, ← c.as_slice.ensures.0) at (c.loop-next.invariant c.requires.0.capped.cap c.requires.0.capped.shown))
    c.draw_at-draw.ensures in (
      omega (arith, c.requires.0.space.most),
      rw (← c.steps.ensures) (add_other x (omega (arith, x.is_rate.low)) (omega (arith, x.is_rate.high)) (omega (arith, x.ends_fit))),
    )

pub loop-next-smaller : goal.loop-next-smaller
loop-next-smaller g c =
    omega (arith, rw c.as_slice.ensures.0 at c.in-Some.ensures.inside, ap length c.remove.ensures, length-remove {X = ℕ})

pub returns-in_default : goal.returns-in_default
returns-in_default g c =
    let e = rw (is_none _ c.in_default.not-Some, c.as_slice.ensures.0) at c.next_charge.ensures in
    λ cap shown. line_done (c.loop-next.invariant cap shown) (ap length e)
