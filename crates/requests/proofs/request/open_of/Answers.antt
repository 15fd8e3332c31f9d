-- The settings of an opening are those of the numbers that were given, feeder by feeder.
use Rattle.requests.proofs.Opening.{opening_read}
use Rattle.requests.proofs.request.open_of.Goals as goal

pub returns-in-len2-up : goal.returns-in-len2-up
returns-in-len2-up c =
    record {
      call_is =
          opening_read c.args.numbers.now c.in-len2-up.len_at_least c.if-settings-eq0.true c.from_numbers-asked.ensures;
      call_fits = tt;
    }
