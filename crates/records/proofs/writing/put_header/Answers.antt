-- One number after another.
use Rattle.std.proofs.Common.{arith}
use Rattle.records.proofs.Begun.{begun_put}
use Rattle.records.proofs.writing.put_header.Goals as goal

pub returns : goal.returns
returns c =
    record {
      put = λ f h b.
          begun_put _ 28
          (begun_put _ 24
          (begun_put _ 20
          (begun_put _ 16
          (begun_put _ 12
          (begun_put _ 8
          (begun_put _ 4 b c.put_number.ensures (omega arith) h.limit (omega arith))
          c.put_number-2.ensures (omega arith) h.percent (omega arith))
          c.put_number-3.ensures (omega arith) h.tail (omega arith))
          c.put_number-4.ensures (omega arith) h.clock (omega arith))
          c.put_number-5.ensures (omega arith) h.next (omega arith))
          c.put_number-6.ensures (omega arith) h.held (omega arith))
          c.put_number-7.ensures (omega arith) h.site (omega arith);
    }
