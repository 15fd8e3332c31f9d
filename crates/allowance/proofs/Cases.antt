-- Allowances on three stations and a site of two feeders, computed (specs/Cases.antt).
use mathlib.Core.Path.{refl}
use Rattle.rules.specs.Load.{limited, balanced, within_site, sound}
use Rattle.rules.specs.Search.{earliest, first_unbalanced}
use Rattle.rules.specs.Priority.{fading, weights, weight_of, first_fit, picked}
use Rattle.rules.specs.Replan.{place_on, round, rounds_from, by_lines}
use Rattle.rules.specs.Judgement.{judged}
use Rattle.rules.specs.Calls.{opening, committing, moving, replanning_lines}
use Rattle.allowance.specs.Cases.{AllowancesWorkedOut, SitesWorkedOut}

pub allowances_hold : AllowancesWorkedOut
unfolding limited balanced within_site sound earliest first_unbalanced fading weights weight_of first_fit picked place_on round rounds_from by_lines judged opening committing moving replanning_lines
allowances_hold = (refl, refl, refl, refl, refl, refl, refl)

pub sites_hold : SitesWorkedOut
unfolding limited balanced within_site sound earliest first_unbalanced fading weights weight_of first_fit picked place_on round rounds_from by_lines judged opening committing moving replanning_lines
sites_hold = (refl, refl, refl, refl)
