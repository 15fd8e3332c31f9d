-- For each field of demand 1 there is a station, and an opening, that breaks it for one call, and no other field.
use mathlib.Core.Path.{refl}
use Rattle.rules.specs.Load.{limited, within_site, balanced, sound}
use Rattle.rules.specs.Search.{earliest}
use Rattle.rules.specs.Calls.{opening, previewing, committing, moving, boarding, withdrawing}
use Rattle.excluded.specs.FieldsOne.{Field, Trial, Holds, tested}
use Rattle.excluded.specs.BreaksOne.{entries}
use Rattle.excluded.specs.LawsOfEntries.{EntriesOfCallsAgree, ExactlyTheseOfCalls, EachAloneOfCalls, EachAloneOfOpenings}
use Rattle.excluded.proofs.Breaks.{each_exactly}
use Rattle.excluded.proofs.TestsOne.{one_tested}

-- the checker computes every test
pub entries_hold : EntriesOfCallsAgree
unfolding limited within_site balanced sound earliest opening previewing committing moving boarding withdrawing
entries_hold = refl

-- so each wrong station and opening breaks the fields that its entry names, and no other, and the rules break none
pub exactly_one : ExactlyTheseOfCalls
exactly_one = each_exactly Trial Field Holds tested one_tested entries entries_hold

pub alone_one : EachAloneOfCalls
alone_one = refl

pub alone_one_opening : EachAloneOfOpenings
alone_one_opening = refl
