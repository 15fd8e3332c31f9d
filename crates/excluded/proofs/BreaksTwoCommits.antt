-- For each field of demand 2 for commits there is a station that breaks it for one commit, and no other field.
use mathlib.Core.Path.{refl}
use Rattle.rules.specs.Load.{limited, within_site, balanced, sound}
use Rattle.rules.specs.Search.{earliest}
use Rattle.rules.specs.Calls.{committing}
use Rattle.excluded.specs.FieldsTwoCommits.{Field, Trial, Holds, tested}
use Rattle.excluded.specs.BreaksTwoCommits.{entries}
use Rattle.excluded.specs.LawsOfEntries.{EntriesOfCommitsAgree, ExactlyTheseOfCommits, EachAloneOfCommits}
use Rattle.excluded.proofs.Breaks.{each_exactly}
use Rattle.excluded.proofs.TestsTwoCommits.{commits_tested}

-- the checker computes every test
pub entries_hold : EntriesOfCommitsAgree
unfolding limited within_site balanced sound earliest committing
entries_hold = refl

-- so each wrong station breaks the field that its entry names, and no other, and the rules break none
pub exactly_two_commits : ExactlyTheseOfCommits
exactly_two_commits = each_exactly Trial Field Holds tested commits_tested entries entries_hold

pub alone_two_commits : EachAloneOfCommits
alone_two_commits = refl
