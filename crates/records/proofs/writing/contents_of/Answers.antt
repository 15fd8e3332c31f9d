-- The header and each column are the contents of the station.
use mathlib.Core.Path.{refl}
use native.Mathlib.Omega.{arith}
use Rattle.charges.specs.Arrays.{tickets, starts, dues, order_minutes, times, lines, rates}
use Rattle.validity.specs.Settled.{single}
use Rattle.records.specs.Contents.{content_byte, contents_of}
use Rattle.records.proofs.Begun.{begun_none, begun_skip, begun_all}
use Rattle.records.proofs.Packing.{last_content, header_of_lem, behind_header, column_of_lem}
use Rattle.records.proofs.writing.contents_of.Goals as goal

pub returns : goal.returns
unfolding contents_of
returns c =
    let o = c.args.one.now in
    let f = content_byte (single o) in
    let k = c.requires in
    begun_all
    (c.put_column-7.ensures.put f (column_of_lem o k _ 6 19 1 (λ q. (refl, refl)) (k.filled rates) (omega arith))
    (c.put_column-6.ensures.put f (column_of_lem o k _ 5 18 1 (λ q. (refl, refl)) (k.filled lines) (omega arith))
    (c.put_column-5.ensures.put f (column_of_lem o k _ 4 16 2 (λ q. (refl, refl)) (k.filled times) (omega arith))
    (c.put_column-4.ensures.put f (column_of_lem o k _ 3 12 4 (λ q. (refl, refl)) (k.filled order_minutes) (omega arith))
    (c.put_column-3.ensures.put f (column_of_lem o k _ 2 8 4 (λ q. (refl, refl)) (k.filled dues) (omega arith))
    (c.put_column-2.ensures.put f (column_of_lem o k _ 1 4 4 (λ q. (refl, refl)) (k.filled starts) (omega arith))
    (c.put_column.ensures.put f (column_of_lem o k _ 0 0 4 (λ q. (refl, refl)) (k.filled tickets) (omega arith))
    (begun_skip (c.put_header.ensures.put f (header_of_lem o) (begun_none f)) 508 (omega arith) (behind_header (single o))))))))))
    (omega arith) (last_content (single o))
