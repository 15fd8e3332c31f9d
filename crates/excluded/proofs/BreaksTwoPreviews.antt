-- For each field of demand 2 for previews there is a station that breaks it for one preview, and no other field.
use mathlib.Core.Path.{refl}
use Rattle.rules.specs.Load.{limited, within_site, balanced, sound}
use Rattle.rules.specs.Search.{earliest}
use Rattle.rules.specs.Calls.{previewing}
use Rattle.excluded.specs.FieldsTwoPreviews.{Field, Trial, Holds, tested}
use Rattle.excluded.specs.BreaksTwoPreviews.{entries}
use Rattle.excluded.specs.LawsOfEntries.{EntriesOfPreviewsAgree, ExactlyTheseOfPreviews, EachAloneOfPreviews}
use Rattle.excluded.proofs.Breaks.{each_exactly}
use Rattle.excluded.proofs.TestsTwoPreviews.{previews_tested}

-- the checker computes every test
pub entries_hold : EntriesOfPreviewsAgree
unfolding limited within_site balanced sound earliest previewing
entries_hold = refl

-- so each wrong station breaks the field that its entry names, and no other, and the rules break none
pub exactly_two_previews : ExactlyTheseOfPreviews
exactly_two_previews = each_exactly Trial Field Holds tested previews_tested entries entries_hold

pub alone_two_previews : EachAloneOfPreviews
alone_two_previews = refl
