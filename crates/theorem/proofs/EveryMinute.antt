-- In every minute.
use Rattle.theorem.specs.AfterCalls.{AfterAnyCalls}
use Rattle.theorem.specs.EveryMinute.{NoLineAboveItsLimit, NoLinesFurtherApart, SiteWithinItsLimit}
use Rattle.theorem.proofs.Carried.{carried}

pub no_line_above : AfterAnyCalls NoLineAboveItsLimit
no_line_above = carried NoLineAboveItsLimit (λ s calls three. three.limit)

pub lines_together : AfterAnyCalls NoLinesFurtherApart
lines_together = carried NoLinesFurtherApart (λ s calls three. three.balance)

pub site_within : AfterAnyCalls SiteWithinItsLimit
site_within = carried SiteWithinItsLimit (λ s calls three. three.site)
