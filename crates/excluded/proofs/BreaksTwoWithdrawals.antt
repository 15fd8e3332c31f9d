-- For each field of demand 2 for withdrawals there is a station that breaks it for one withdrawal, and no other field.
use mathlib.Core.Path.{refl}
use Rattle.rules.specs.Load.{limited, within_site, balanced, sound}
use Rattle.rules.specs.Calls.{withdrawing}
use Rattle.excluded.specs.FieldsTwoWithdrawals.{Field, Trial, Holds, tested}
use Rattle.excluded.specs.BreaksTwoWithdrawals.{entries}
use Rattle.excluded.specs.LawsOfEntries.{EntriesOfWithdrawalsAgree, ExactlyTheseOfWithdrawals, EachAloneOfWithdrawals}
use Rattle.excluded.proofs.Breaks.{each_exactly}
use Rattle.excluded.proofs.TestsTwoWithdrawals.{withdrawals_tested}

-- the checker computes every test
pub entries_hold : EntriesOfWithdrawalsAgree
unfolding limited within_site balanced sound withdrawing
entries_hold = refl

-- so each wrong station breaks the fields that its entry names, and no other, and the rules break none
pub exactly_two_withdrawals : ExactlyTheseOfWithdrawals
exactly_two_withdrawals = each_exactly Trial Field Holds tested withdrawals_tested entries entries_hold

pub alone_two_withdrawals : EachAloneOfWithdrawals
alone_two_withdrawals = refl
