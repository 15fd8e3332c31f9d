-- The fields of demand 3 one by one are demand 3.
use mathlib.Core.List.{List}
use Rattle.rules.specs.Site.{State}
use Rattle.rules.specs.Calls.{Call}
use Rattle.guarantee.specs.Past.{Gives, Order, past, staying_orders, withdrawn_orders}
use Rattle.guarantee.specs.DemandThree.{DemandThree}
use Rattle.rules.proofs.Lists.{each_both}
use Rattle.guarantee.proofs.Each.{each_in}
use Rattle.excluded.specs.FieldsThree.{Field, limit, balance, site, feeders, tickets, not_early, in_time, reported, not_reported, waits, charges, finished, gone_not_reported, gone_not_held, no_other, no_other_found, unmoved, Holds}
use Rattle.excluded.specs.LawsOfFields.{ListIsItsFields}

module _ (gives : Gives) (s : State) (calls : List Call) where
  field_holds : DemandThree gives s calls → (f : Field) → Holds gives s calls f
  field_holds d limit = d.limit
  field_holds d balance = d.balance
  field_holds d site = d.site
  field_holds d feeders = d.feeders
  field_holds d tickets = d.tickets
  field_holds d not_early = each_in (λ o k. k.not_early) (staying_orders (past gives s calls)) d.orders
  field_holds d in_time = d.in_time
  field_holds d reported = each_in (λ o k. k.reported) (staying_orders (past gives s calls)) d.orders
  field_holds d not_reported = each_in (λ o k. k.not_reported) (staying_orders (past gives s calls)) d.orders
  field_holds d waits = each_in (λ o k. k.waits) (staying_orders (past gives s calls)) d.orders
  field_holds d charges = each_in (λ o k. k.charges) (staying_orders (past gives s calls)) d.orders
  field_holds d finished = each_in (λ o k. k.finished) (staying_orders (past gives s calls)) d.orders
  field_holds d gone_not_reported = each_in (λ o k. k.not_reported) (withdrawn_orders (past gives s calls)) d.gone
  field_holds d gone_not_held = each_in (λ o k. k.not_held_lem) (withdrawn_orders (past gives s calls)) d.gone
  field_holds d no_other = d.no_other
  field_holds d no_other_found = d.no_other_found
  field_holds d unmoved = d.unmoved

  fields_hold : ((f : Field) → Holds gives s calls f) → DemandThree gives s calls
  fields_hold d =
      let os : List Order = staying_orders (past gives s calls) in
      let gs : List Order = withdrawn_orders (past gives s calls) in
      record {
        limit = d limit;
        balance = d balance;
        site = d site;
        feeders = d feeders;
        tickets = d tickets;
        orders =
            each_in
            (λ o k.
            record {
              not_early = k.0;
              reported = k.1.0;
              not_reported = k.1.1.0;
              waits = k.1.1.1.0;
              charges = k.1.1.1.1.0;
              finished = k.1.1.1.1.1;
            })
            os
            (each_both _ _ os (d not_early)
            (each_both _ _ os (d reported) (each_both _ _ os (d not_reported) (each_both _ _ os (d waits) (each_both _ _ os (d charges) (d finished))))));
        gone =
            each_in (λ o k. record { not_reported = k.0; not_held_lem = k.1 }) gs
            (each_both _ _ gs (d gone_not_reported) (d gone_not_held));
        in_time = d in_time;
        no_other = d no_other;
        no_other_found = d no_other_found;
        unmoved = d unmoved;
      }

pub three_fields : ListIsItsFields
three_fields gives s calls = (field_holds gives s calls, fields_hold gives s calls)
