-- Rates, tails, withdrawals and a site of two feeders, computed on lists of calls (specs/Examples.antt).
use mathlib.Core.Path.{refl}
use Rattle.rules.specs.Load.{limited, within_site, balanced, sound}
use Rattle.rules.specs.Search.{earliest}
use Rattle.rules.specs.Calls.{opening, committing, moving, enquiring, withdrawing}
use Rattle.guarantee.specs.Examples.{RatesAreCounted, TailsAreCounted, WithdrawnOrdersAreKnown, WithdrawnOrdersAreNotCounted, OrdersOfTwoAreKnown, FeedersAreCountedApart}

pub rated_counts : RatesAreCounted
unfolding limited within_site balanced sound earliest opening committing moving enquiring
rated_counts = (refl, refl, refl, refl)

pub tailed_counts : TailsAreCounted
unfolding limited within_site balanced sound earliest opening committing moving enquiring
tailed_counts = (refl, refl, refl, refl)

pub shorter_known : WithdrawnOrdersAreKnown
unfolding limited within_site balanced sound earliest opening committing moving enquiring withdrawing
shorter_known = (refl, refl, refl, refl, refl, refl)

pub withdrawn_not_counted : WithdrawnOrdersAreNotCounted
unfolding limited within_site balanced sound earliest opening committing moving enquiring withdrawing
withdrawn_not_counted = (refl, refl, refl, refl, refl)

pub of_two_known : OrdersOfTwoAreKnown
unfolding limited within_site balanced sound earliest opening committing enquiring
of_two_known = (refl, refl, refl)

pub counted_by_feeder : FeedersAreCountedApart
unfolding limited within_site balanced sound earliest opening committing enquiring
counted_by_feeder = (refl, refl, refl, refl)
