-- The fields of demand 1 one by one are demand 1, of a call and of an opening.
use Rattle.guarantee.specs.DemandOne.{RefusedBy, NoneApplies}
use Rattle.excluded.specs.FieldsOne.{Field, number, same_station, same_list_lem, answered, Trial, called_on, opened_by, tried, OwnAnswer, Holds}
use Rattle.excluded.specs.LawsOfFields.{CallIsItsFields, OpeningIsItsFields}

abbrev Refused : Trial → Type 0
Refused r = RefusedBy (tried r).rows (tried r).station (tried r).list (tried r).result

module _ (r : Trial) where
  fields-of : Refused r → (NoneApplies (tried r).rows → OwnAnswer r) → (f : Field) → Holds r f
  fields-of d own number = d.number
  fields-of d own same_station = d.same_station
  fields-of d own same_list_lem = d.same_list_lem
  fields-of d own answered = own

  refused-of : ((f : Field) → Holds r f) → Refused r
  refused-of h = record { number = h number; same_station = h same_station; same_list_lem = h same_list_lem }

pub one_fields : CallIsItsFields
one_fields gives s c = (
  (λ d. fields-of (called_on gives s c) d.refused_by d.answered),
  (λ h. record { refused_by = refused-of (called_on gives s c) h; answered = h answered }),
)

pub one_opening_fields : OpeningIsItsFields
one_opening_fields opens x = (
  (λ d. fields-of (opened_by opens x) d.refused_by d.answered),
  (λ h. record { refused_by = refused-of (opened_by opens x) h; answered = h answered }),
)
