-- For each field of demand 2 for offers and replans there is a station that breaks it for one call, and no other field but
-- where the field follows from others.
use mathlib.Core.Path.{refl}
use Rattle.rules.specs.Load.{limited, within_site, balanced, sound}
use Rattle.rules.specs.Search.{earliest, first_unbalanced}
use Rattle.rules.specs.Priority.{fading, weights, weight_of, first_fit, picked}
use Rattle.rules.specs.Replan.{place_all, latest, place_on, round, rounds_from, by_lines}
use Rattle.rules.specs.Judgement.{judged}
use Rattle.rules.specs.Calls.{offering, replanning_latest, replanning_lines}
use Rattle.excluded.specs.FieldsBetter.{Merit, Plan, Merits, merited}
use Rattle.excluded.specs.FieldsTwoPlans.{Field, Trial, Holds, tested}
use Rattle.excluded.specs.BreaksTwoPlans.{plans, entries}
use Rattle.excluded.specs.LawsOfEntries.{PlansAgree, ExactlyTheseOfBetter, EntriesOfPlansAgree, ExactlyTheseOfPlans, EachAloneOfPlans, EachAloneOfBetter}
use Rattle.excluded.proofs.Breaks.{each_exactly}
use Rattle.excluded.proofs.TestsBetter.{better_tested}
use Rattle.excluded.proofs.TestsTwoPlans.{plans_tested}

-- the checker computes every test
pub plans_hold : PlansAgree
unfolding limited within_site balanced sound
plans_hold = refl

-- so of each offered plan the field that its entry names is false, and no other
pub exactly_better : ExactlyTheseOfBetter
exactly_better = each_exactly Plan Merit Merits merited better_tested plans plans_hold

pub entries_hold : EntriesOfPlansAgree
unfolding limited within_site balanced sound earliest first_unbalanced place_all latest fading weights weight_of first_fit picked place_on round rounds_from by_lines judged offering replanning_latest replanning_lines
entries_hold = refl

-- so each wrong station breaks the fields that its entry names, and no other, and the rules break none
pub exactly_two_plans : ExactlyTheseOfPlans
exactly_two_plans = each_exactly Trial Field Holds tested plans_tested entries entries_hold

pub alone_two_plans : EachAloneOfPlans
alone_two_plans = refl

pub alone_better : EachAloneOfBetter
alone_better = refl
