-- The claim for an image from elsewhere, computed on a station (specs/CasesElsewhere.antt).
use mathlib.Core.Path.{refl}
use Rattle.rules.specs.Load.{limited, balanced, within_site, sound}
use Rattle.rules.specs.Search.{earliest}
use Rattle.rules.specs.Calls.{committing, moving, enquiring}
use Rattle.layout.specs.Lists.{every}
use Rattle.layout.specs.Validity.{between, settings_ranged, bound_right, fields_ranged, rate_right, times_right, charge_right, ticket_right, record_right, is_valid}
use Rattle.restarts.specs.CasesElsewhere.{UnevenIsValid, UnevenGoesOn, UnevenCounts}

pub uneven_valid : UnevenIsValid
unfolding is_valid settings_ranged between bound_right every record_right ticket_right charge_right fields_ranged rate_right times_right sound limited balanced within_site
uneven_valid = refl

pub continued_known : UnevenGoesOn
unfolding limited balanced within_site sound earliest committing moving enquiring
continued_known = (refl, refl, refl, refl, refl)

pub continued_counts : UnevenCounts
unfolding limited balanced within_site sound earliest committing moving enquiring
continued_counts = (refl, refl, refl, refl)
