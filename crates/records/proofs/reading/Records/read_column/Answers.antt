use Rattle.std.proofs.Common.{arith}
use Rattle.charges.proofs.Storing.{zeros}
use Rattle.rules.specs.Site.{places}
use Rattle.records.proofs.Joining.{joined-none}
use Rattle.records.proofs.Columning.{filled_by_none, held_long, row_fits, row_filled, rows_joined, column_read}
use Rattle.records.proofs.reading.Records.read_column.Goals as goal

pub loop-j-init : goal.loop-j-init
loop-j-init c = (filled_by_none _, λ q h. rw (zeros places q) (joined-none _ _ _))

pub join_row-requires : goal.join_row-requires
join_row-requires c =
    let r = c.args.self.now in
    let v = c.loop-j.invariant in
    let contents = r.contents.now in
    (omega arith, omega (arith, held_long contents r.headed.few v.0 v.1), row_fits contents r.headed.few v.0 v.1 c.args.field.within.1 (omega arith))

pub loop-j-preserved : goal.loop-j-preserved
loop-j-preserved c =
    let r = c.args.self.now in
    let v = c.loop-j.invariant in
    let contents = r.contents.now in
    (row_filled contents r.headed.few v.0 v.1 _ c.join_row.ensures, rows_joined contents r.headed.few v.0 v.1 _ c.join_row.ensures (omega arith))

pub returns : goal.returns
returns c = column_read c.args.self.now.contents.now c.loop-j.invariant.0 c.loop-j.invariant.1 (omega arith)
