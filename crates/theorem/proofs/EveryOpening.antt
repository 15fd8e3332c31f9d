-- Of openings.
use mathlib.Core.Logic.{◌⊎◌}
use mathlib.Core.Path.{◌≡◌, refl, sym, ap, ◌∙◌}
use Prim.Native.Nat.{ℕ, zero, suc, ◌+◌, ◌-◌, ◌<◌}
use mathlib.Core.Bool.{false, ◌||◌, true≢false}
use mathlib.Core.List.{List, [], ◌∷◌, map}
use native.Mathlib.Omega.{arith}
use lib.Dec.{ltb, eqb}
use lib.ListN.{length, get_or}
use Rattle.rules.specs.Basics.{first_of}
use Rattle.rules.specs.Site.{State, no_feeder, feeder_of}
use Rattle.rules.specs.Calls.{Settings, settings, Asked, bound_of, fresh_feeder, opened, answering, settings_read, fresh, least, open_refusals, opening}
use Rattle.rules.proofs.Lists.{length_tabulate, get_d_tabulate}
use Rattle.rules.proofs.Tables.{first_of_none}
use Rattle.rules.proofs.Granted.{open_refusals_numbered}
use Rattle.rules.proofs.Sites.{map_length}
use Rattle.guarantee.specs.Past.{is_refused}
use Rattle.guarantee.specs.DemandOne.{NoneApplies}
use Rattle.station.specs.View.{view}
use Rattle.station.proofs.Views.{view_length}
use Rattle.theorem.specs.EveryOpening.{OpeningRefusedByTheTable, opening_conditions, OpeningRefusedForTheFirst, LeastBesideARefusal, OpenedAsAsked}
use Rattle.theorem.proofs.Chains.{theorem}
use Rattle.theorem.proofs.Conditions.{Matches, first_holds, below_is, equal_is, either_is, some_is}

-- of an opening that is not refused no condition applies
opening_none : (x : Asked) → is_refused (opening x).answer ≡ false → NoneApplies (open_refusals x)
unfolding opening
opening_none x = go (first_of (open_refusals x)) refl
  where
    go :
        (i : ℕ)
        → first_of (open_refusals x) ≡ i
        → is_refused
        (answering i (fresh least) []
        (record { answer = opened (map (λ g. g.bound) (fresh x).feeders); state = fresh x; list = [] })).answer
        ≡ false
        → NoneApplies (open_refusals x)
    go zero e free = first_of_none (open_refusals x) (open_refusals_numbered x) e
    go (suc i) e free = absurd (true≢false free)

pub opening_refused : OpeningRefusedByTheTable
opening_refused x answer first opens k =
    let g = theorem x answer first opens [] tt in
    let r = g.one_opening.refused_by.number k in
    ((λ e. r.0 (sym g.opened ∙ e)), (λ h. g.opened ∙ r.1 h))

-- its table and the conditions in words
opening_matches : (x : Asked) → Matches (open_refusals x) (opening_conditions x)
opening_matches x = (
  either_is (ltb x.count 1) (ltb 4 x.count) (below_is x.count 1) (below_is 4 x.count),
  refl,
  (λ a. (
    some_is (λ y. ltb y.limit 1 || ltb 60 y.limit) (λ y. (y.limit < 1) ⊎ (60 < y.limit))
        (λ y. either_is (ltb y.limit 1) (ltb 60 y.limit) (below_is y.limit 1) (below_is 60 y.limit)) (settings_read x),
    refl,
    (λ b. (
      some_is (λ y. ltb 100 y.percent) (λ y. 100 < y.percent) (λ y. below_is 100 y.percent) (settings_read x),
      refl,
      (λ c. (
        some_is (λ y. eqb (bound_of y.limit y.percent) 0) (λ y. bound_of y.limit y.percent ≡ 0)
            (λ y. equal_is (bound_of y.limit y.percent) 0) (settings_read x),
        refl,
        (λ d. (
          some_is (λ y. ltb 5 y.tail) (λ y. 5 < y.tail) (λ y. below_is 5 y.tail) (settings_read x),
          refl,
          (λ e.
              (either_is (ltb x.site 1) (ltb 720 x.site) (below_is x.site 1) (below_is 720 x.site), refl, (λ f. tt))),
        )),
      )),
    )),
  )),
)

pub opening_refused_for : OpeningRefusedForTheFirst
opening_refused_for x answer first opens k =
    let r = opening_refused x answer first opens k in
    let w = first_holds (open_refusals x) (opening_conditions x) k (opening_matches x) in
    ((λ e. w.0 (r.0 e)), (λ h. r.1 (w.1 h)))

pub least_beside : LeastBesideARefusal
least_beside x answer first opens refuses =
    let g = theorem x answer first opens [] tt in
    let e : view first ≡ fresh least
    = g.began ∙ g.one_opening.refused_by.same_station (sym (ap is_refused g.opened) ∙ refuses) in (
      sym (view_length first) ∙ ap (λ (s : State). length s.feeders) e,
      ap (λ (s : State). s.site) e,
      ap (λ (s : State). s.clock) e,
      ap (λ (s : State). s.next) e,
      ap (λ (s : State). feeder_of s 1) e,
    )

-- the bounds and the feeders of a fresh station
fresh_bounds :
    (xs : List Settings) → map (λ g. g.bound) (map fresh_feeder xs) ≡ map (λ y. bound_of y.limit y.percent) xs
fresh_bounds [] = refl
fresh_bounds (y ∷ xs) = ap (λ l. bound_of y.limit y.percent ∷ l) (fresh_bounds xs)

fresh_at :
    (xs : List Settings) (i : ℕ)
    → i < length xs
    → get_or (map fresh_feeder xs) i no_feeder ≡ fresh_feeder (get_or xs i (settings 0 0 0))
fresh_at [] i h = absurd (omega arith)
fresh_at (y ∷ xs) zero h = refl
fresh_at (y ∷ xs) (suc i) h = fresh_at xs i (omega arith)

pub opened_as_asked : OpenedAsAsked
opened_as_asked x answer first opens free =
    let g = theorem x answer first opens [] tt in
    let gave = g.one_opening.answered (opening_none x (sym (ap is_refused g.opened) ∙ free)) in
    let e : view first ≡ fresh x = g.began ∙ gave.1 in
    let read : length (settings_read x) ≡ x.count = length_tabulate (λ i. get_or x.settings i (settings 0 0 0)) x.count 0 in (
      g.opened ∙ (gave.0 ∙ ap opened (fresh_bounds (settings_read x))),
      sym (view_length first) ∙ (ap (λ (s : State). length s.feeders) e ∙ (map_length fresh_feeder (settings_read x) ∙ read)),
      ap (λ (s : State). s.site) e,
      ap (λ (s : State). s.clock) e,
      ap (λ (s : State). s.next) e,
      (λ f low high.
          ap (λ (s : State). feeder_of s f) e
          ∙ (fresh_at (settings_read x) (f - 1) (omega arith)
          ∙ (ap fresh_feeder (get_d_tabulate (λ i. get_or x.settings i (settings 0 0 0)) x.count 0 (f - 1) (settings 0 0 0) (omega arith))
          ∙ ap (λ (i : ℕ). fresh_feeder (get_or x.settings i (settings 0 0 0))) (from_zero (f - 1))))),
    )
  where
    from_zero : (i : ℕ) → 0 + i ≡ i
    from_zero i = omega arith
