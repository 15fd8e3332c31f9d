-- Images printed: that of case e, and two that are refused.
use mathlib.Core.Path.{refl}
use mathlib.Core.List.{[]}
use native.Mathlib.Omega.{arith}
use Rattle.rules.specs.Load.{limited, within_site, balanced, sound}
use Rattle.layout.specs.Lists.{every}
use Rattle.layout.specs.Validity.{between, settings_ranged, bound_right, fields_ranged, rate_right, times_right, charge_right, ticket_right, record_right, is_valid}
use Rattle.layout.proofs.Validity.{valid_by_test}
use Rattle.layout.specs.LawsOfCases.{zeros}
use Rattle.layout.proofs.Examples.{zeros_refused}
use Rattle.page.specs.Cases.{station_e}
use Rattle.page.specs.LawsOfWalls.{NothingPrintsNoStation, ZerosPrintNoStation, CaseEIsPrinted}
use Rattle.page.proofs.Walling.{wall_refused, wall_saved, wall_length}

pub case_e_printed : CaseEIsPrinted
unfolding every between settings_ranged bound_right fields_ranged rate_right times_right charge_right ticket_right record_right is_valid limited within_site balanced sound
case_e_printed = wall_saved station_e refl (valid_by_test station_e refl refl)

pub nothing_printed : NothingPrintsNoStation
nothing_printed = wall_length [] (λ e. omega (arith, e))

pub zeros_printed : ZerosPrintNoStation
zeros_printed = wall_refused zeros (λ e. omega (arith, e, zeros_refused))
