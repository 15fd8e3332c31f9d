-- Images, places, checks, refusals and validity worked out by hand: the checker computes each.
use mathlib.Core.Path.{refl}
use Rattle.rules.specs.Load.{limited, balanced, within_site, sound}
use Rattle.layout.specs.Lists.{every}
use Rattle.layout.specs.Image.{record_byte, numbered, content, weighed, check_of}
use Rattle.layout.specs.Validity.{between, settings_ranged, bound_right, fields_ranged, rate_right, times_right, charge_right, ticket_right, record_right, is_valid}
use Rattle.layout.specs.Reading.{restore_refusal}
use Rattle.layout.specs.Blocks.{failing, same_block, differing}
use Rattle.layout.specs.Saving.{save_refusal, saving}
use Rattle.layout.specs.LawsOfCases.{PlacesAreThese, BytesAreThese, ChecksAreThese, LargestCheck, SwapChangesCheck, OneBlockDiffers, RestoreRefusalsAreThese, SaveRefusalsAreThese, ShortIsNotWritten, ShortIsNotRead, RecordsAreJudged, StationsAreJudged}

pub largest_check : LargestCheck
unfolding check_of weighed
largest_check = refl

pub swap_found : SwapChangesCheck
unfolding check_of weighed
swap_found = refl

pub places_hold : PlacesAreThese
places_hold = refl

pub images_hold : BytesAreThese
unfolding record_byte numbered content
images_hold = refl

pub checks_hold : ChecksAreThese
unfolding record_byte numbered content weighed check_of
checks_hold = refl

pub one_differs : OneBlockDiffers
unfolding every failing same_block differing
one_differs = refl

pub rows_hold : RestoreRefusalsAreThese
rows_hold = refl

pub save_rows_hold : SaveRefusalsAreThese
save_rows_hold = refl

pub short_refused : ShortIsNotWritten
unfolding save_refusal saving
short_refused = refl

pub short_not_read : ShortIsNotRead
unfolding restore_refusal
short_not_read = refl

pub records_hold : RecordsAreJudged
unfolding every between fields_ranged rate_right times_right charge_right ticket_right record_right
records_hold = refl

pub validity_holds : StationsAreJudged
unfolding every between settings_ranged bound_right fields_ranged rate_right times_right charge_right ticket_right record_right is_valid limited balanced within_site sound
validity_holds = (refl, refl, refl)
