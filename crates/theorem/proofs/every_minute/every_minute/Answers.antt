use Rattle.theorem.proofs.EveryMinute.{no_line_above, lines_together, site_within}
use Rattle.theorem.proofs.every_minute.every_minute.Goals as goal

pub returns : goal.returns
returns c =
    record {
      limit = no_line_above;
      balance = lines_together;
      site = site_within;
    }
