-- What an opening gives, whatever it asks for: N, c and r of each feeder, how many feeders, and W.
use Rattle.std.specs.Prelude.{◌⊎◌, ◌↔◌, ◌≡◌, ℕ, ◌-◌, ◌≤◌, ◌<◌, true, false, List, [], ◌∷◌, map, get_or, Result}
use Rattle.rules.specs.Site.{Feeder, feeder_of}
use Rattle.rules.specs.Calls.{Settings, Asked, Answer, refused, opened, settings, settings_read, bound_of, open_refusals}
use Rattle.guarantee.specs.Past.{is_refused}
use Rattle.guarantee.specs.DemandOne.{FirstIs}
use Rattle.refusals.specs.declared.Refusal.{Refusal}
use Rattle.station.specs.declared.Station.{Station}
use Rattle.station.specs.declared.bounds.Opened.{Opened}
use Rattle.station.specs.View.{view}
use Rattle.station.specs.Opened.{open_answer}
use Rattle.theorem.specs.Theorem.{MeetsOpen}
use Rattle.theorem.specs.Single.{OfSome, Condition, when, FirstToHold}

-- it holds of every opening: of what was asked for, of the answer, and of the station that it gave
abbrev pub OfEveryOpening : (Asked → Answer → Station → Type 0) → Type 0
OfEveryOpening Holds =
    (x : Asked) (answer : Result Opened Refusal) (first : Station) → MeetsOpen x answer first → Holds x (open_answer answer) first

-- An opening is refused with a number exactly when that is the number of the first condition of its table that applies.
abbrev pub OpeningRefusedByTheTable : Type 0
OpeningRefusedByTheTable =
    OfEveryOpening (λ x told first. (k : ℕ) → (told ≡ refused k) ↔ FirstIs (open_refusals x) k)

-- what an opening is refused for, in words: 1, 2, 3 and 19 where it is so of any feeder up to the count
abbrev pub opening_conditions : Asked → List Condition
opening_conditions x =
    when ((x.count < 1) ⊎ (4 < x.count)) 27
    ∷ when (OfSome (λ y. (y.limit < 1) ⊎ (60 < y.limit)) (settings_read x)) 1
    ∷ when (OfSome (λ y. 100 < y.percent) (settings_read x)) 2
    ∷ when (OfSome (λ y. bound_of y.limit y.percent ≡ 0) (settings_read x)) 3
    ∷ when (OfSome (λ y. 5 < y.tail) (settings_read x)) 19
    ∷ when ((x.site < 1) ⊎ (720 < x.site)) 28
    ∷ []

-- And that is the first of the conditions in words.
abbrev pub OpeningRefusedForTheFirst : Type 0
OpeningRefusedForTheFirst =
    OfEveryOpening (λ x told first. (k : ℕ) → (told ≡ refused k) ↔ FirstToHold (opening_conditions x) k)

-- a feeder of these settings that holds nothing
abbrev pub empty_feeder : Settings → Feeder
empty_feeder y =
    record {
      limit = y.limit;
      percent = y.percent;
      bound = bound_of y.limit y.percent;
      tail = y.tail;
      charges = [];
    }

-- Beside a refused one stands the fresh station of one feeder, N 1, c 100 and r 0, under W 720.
abbrev pub LeastBesideARefusal : Type 0
LeastBesideARefusal =
    OfEveryOpening (λ x told first.
    is_refused told ≡ true
    → (first.count ≡ 1)
    × (first.site ≡ 720)
    × (first.clock ≡ 0)
    × (first.next ≡ 1)
    × (feeder_of (view first) 1 ≡ empty_feeder (settings 1 100 0)))

-- One that is not refused answers D of each feeder, and gives the station that was asked for: as many feeders, each with its settings, and W.
-- Its clock is 0, its next ticket is 1, and it holds nothing.
abbrev pub OpenedAsAsked : Type 0
OpenedAsAsked =
    OfEveryOpening (λ x told first.
    is_refused told ≡ false
    → (told ≡ opened (map (λ y. bound_of y.limit y.percent) (settings_read x)))
    × (first.count ≡ x.count)
    × (first.site ≡ x.site)
    × (first.clock ≡ 0)
    × (first.next ≡ 1)
    × ((f : ℕ)
    → 1 ≤ f
    → f ≤ x.count
    → feeder_of (view first) f ≡ empty_feeder (get_or x.settings (f - 1) (settings 0 0 0))))
