-- At the last start, or at the next one.
use native.Mathlib.Omega.{arith}
use Prim.Native.Nat.{◌≤◌}
use lib.ListN.{length}
use Rattle.std.proofs.lemmas.Bool.Decides.{nat_tests}
use Rattle.lines.proofs.Nexts.{there_range, can_there, taken_there, next_there}
use Rattle.lines.proofs.next.Room.next_charge.Goals as goal

pub chosen_at-requires-2 : goal.chosen_at-requires-2
chosen_at-requires-2 c =
    let more : 1 ≤ length c.args.left.now.places.now = grind (arith, nat_tests) in
    let m = rw c.in_ok-start.was at c.next_start.ensures in
    let r = there_range c.requires more c.narrowed-left.ensures m in
    can_there c.requires more c.narrowed-left.ensures r.0 (omega (arith, r.1, c.requires.can_start.ends_fit))

pub returns-in_err-position : goal.returns-in_err-position
returns-in_err-position c =
    let more : 1 ≤ length c.args.left.now.places.now = grind (arith, nat_tests) in
    let m = rw c.in_ok-start.was at c.next_start.ensures in
    absurd (taken_there c.requires more c.narrowed-left.ensures m (rw c.in_err-position.was at c.chosen_at-2.ensures))

pub returns : goal.returns
returns c =
    let more : 1 ≤ length c.args.left.now.places.now = grind (arith, nat_tests) in
    let m = rw c.in_ok-start.was at c.next_start.ensures in
    next_there c.requires more c.narrowed-left.ensures m (rw c.in_ok-position.was at c.chosen_at-2.ensures)
