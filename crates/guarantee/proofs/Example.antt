-- What thirteen calls lead to, computed (specs/Example.antt).
use mathlib.Core.Path.{refl}
use Rattle.rules.specs.Load.{limited, within_site, balanced, sound}
use Rattle.rules.specs.Search.{earliest}
use Rattle.rules.specs.Replan.{place_all, latest}
use Rattle.rules.specs.Judgement.{judged}
use Rattle.rules.specs.Calls.{opening, previewing, committing, moving, offering, replanning_latest, enquiring}
use Rattle.guarantee.specs.Example.{FirstCallsAreKnown, CallsAreKnown, StartsAreFound, CountsAreFound}

pub first_known : FirstCallsAreKnown
unfolding limited within_site balanced sound earliest place_all latest judged opening committing moving replanning_latest
first_known = refl

pub example_known : CallsAreKnown
unfolding limited within_site balanced sound earliest place_all latest judged opening previewing committing moving offering replanning_latest enquiring
example_known = (refl, refl, refl)

pub example_starts : StartsAreFound
unfolding limited within_site balanced sound earliest place_all latest judged opening previewing committing moving offering replanning_latest enquiring
example_starts = (refl, refl, refl)

pub example_counts : CountsAreFound
unfolding limited within_site balanced sound earliest place_all latest judged opening previewing committing moving offering replanning_latest enquiring
example_counts = (refl, refl, refl, refl, refl)
