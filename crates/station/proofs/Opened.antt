-- The result of an opening, refused or not.
use mathlib.Core.Path.{◌≡◌, sym, ap, subst, ◌∙◌}
use mathlib.Core.List.{[], ◌∷◌, map}
use native.Mathlib.Omega.{arith}
use lib.ListN.{take}
use Rattle.std.specs.Prelude.{Ok, Err}
use Rattle.rules.specs.Basics.{first_of}
use Rattle.rules.specs.Site.{State}
use Rattle.rules.specs.Calls as rules
use Rattle.rules.specs.Calls.{Result, Answer, opened, fresh, least, open_refusals, opening}
use Rattle.rules.specs.Valid.{ValidState}
use Rattle.rules.proofs.Granted.{OpenGranted}
use Rattle.rules.proofs.Validity.{opening_valid}
use Rattle.refusals.specs.declared.Refusal.{Refusal}
use Rattle.refusals.specs.Refusals.{number_of}
use Rattle.station.specs.declared.Feeder.{Feeder}
use Rattle.station.specs.declared.Station.{Station}
use Rattle.station.specs.declared.open.Settings.{Settings}
use Rattle.station.specs.declared.open.Asked.{Asked}
use Rattle.station.specs.declared.bounds.Opened.{Opened}
use Rattle.station.specs.View.{view, Formed, station_of}
use Rattle.station.specs.Opened.{settings_of, asked_of, fresh_of, fresh_feeder, opened_of, bounds_of, FreshLeast, OnlyLeast, Opens}
use Rattle.station.proofs.FreshFeeders.{opens, view_fresh, formed_fresh, bounds_fresh}
use Rattle.station.proofs.Refusing.{number_some, answering_refused}

abbrev result_of : Answer → State → Result
result_of answer s = record { answer = answer; state = s; list = [] }

-- The station beside a refused opening, which is what an opening of the least settings gives

abbrev least_settings : Settings
least_settings = record { limit = 1; percent = 100; tail = 0 }

abbrev least_asked : Asked
least_asked = record { count = 1; site = 720; settings = least_settings ∷ least_settings ∷ least_settings ∷ least_settings ∷ [] }

pub least_fresh : {s : Station} → s ≡ fresh_of least_asked → FreshLeast s
unfolding opening
least_fresh {s} e =
    record {
      state_is = ap view e;
      valid =
          record {
            formed = subst Formed (sym e) (formed_fresh least_asked (omega arith) (omega arith));
            state = subst ValidState (sym (ap view e)) (opening_valid least);
          };
    }

-- its only feeder
pub least_only : {g : Feeder} → g ≡ fresh_feeder (settings_of least_settings) → OnlyLeast (record { site = 720; clock = 0; next = 1; feeder = g })
least_only {g} e = record { state_is = fresh_least.state_is; alone = record { valid = fresh_least.valid } }
  where
    fresh_least : FreshLeast (station_of (record { site = 720; clock = 0; next = 1; feeder = g }))
    fresh_least =
        least_fresh (ap (λ (x : Feeder). station_of (record { site = 720; clock = 0; next = 1; feeder = x })) e)

-- Refused, and opened

pub open_refused :
    (a : rules.Asked) (refusal : Refusal) {s : Station} → number_of refusal ≡ first_of (open_refusals a) → FreshLeast s → Opens (opening a) (Err refusal) s
unfolding opening
open_refused a refusal e l =
    record {
      result =
          rw (l.state_is, ← e)
          (sym (answering_refused (number_of refusal) (fresh least) [] (result_of (opened (map (λ g. g.bound) (fresh a).feeders)) (fresh a)) (number_some refusal)));
      valid = l.valid;
    }

pub open_opened :
    (a : Asked) (o : Opened) (s : Station)
    → 0 ≡ first_of (open_refusals (asked_of a))
    → s ≡ fresh_of a
    → opened_of o ≡ opened (take s.count (bounds_of s))
    → Opens (opening (asked_of a)) (Ok o) s
unfolding opening
open_opened a o s e f b =
    record {
      result = result;
      valid =
          record {
            formed = subst Formed (sym f) (formed_fresh a granted.count_low granted.count_high);
            state = subst ValidState (sym (ap (λ (x : Result). x.state) result)) (opening_valid (asked_of a));
          };
    }
  where
    granted : OpenGranted (asked_of a)
    granted = opens a (sym e)

    result : result_of (opened_of o) (view s) ≡ opening (asked_of a)
    result =
        rw (← e, b, f)
        (ap (λ bs. result_of (opened bs) (view (fresh_of a))) (bounds_fresh a granted.count_high)
        ∙ ap (result_of (opened (map (λ g. g.bound) (fresh (asked_of a)).feeders))) (view_fresh a granted.count_high))
