use Rattle.theorem.proofs.AcrossRestarts.{no_line_above, no_two_lines, site_within}
use Rattle.theorem.proofs.restarting.every_minute_since.Goals as goal

pub returns : goal.returns
returns c =
    record {
      limit = no_line_above;
      balance = no_two_lines;
      site = site_within;
    }
