-- What is claimed across restarts holds of the code, and each sentence of it.
use mathlib.Core.Path.{◌≡◌, refl, sym, ap, subst, ◌∙◌}
use Prim.Native.Nat.{ℕ, zero, suc, ◌+◌, ◌≤◌, ◌<◌}
use mathlib.Core.Bool.{Bool, cond}
use mathlib.Core.List.{List, [], ◌∷◌, ◌++◌, map}
use native.Mathlib.Omega.{arith}
use lib.Dec.{ltb}
use lib.ListN.{length, get_or}
use borrow.Author.Tests.{lt-ltb, le-ltb}
use Rattle.station.proofs.Refusing.{number_some}
use Rattle.refusals.specs.Refusals.{refusal_in}
use Rattle.std.specs.Prelude.{Result, Ok, Err}
use Rattle.rules.specs.Basics.{Each}
use Rattle.rules.specs.Charge.{Charge}
use Rattle.rules.specs.Site.{State, feeder_of, charges_on}
use Rattle.rules.specs.Calls as rules
use Rattle.rules.specs.Calls.{fresh, least, step}
use Rattle.guarantee.specs.Past.{Past, start_of, order_of, count_in, site_in}
use Rattle.guarantee.proofs.DemandOne.{valid_demand_one}
use Rattle.guarantee.proofs.DemandTwo.{valid_demand_two}
use Rattle.layout.specs.Reading.{RestoreResult, restoring}
use Rattle.refusals.specs.declared.Refusal.{Refusal}
use Rattle.station.specs.View.{view}
use Rattle.restarts.specs.Events as events
use Rattle.restarts.specs.Events.{Beginning, an_opening, an_image, a_refused_restore, first, CallList, left, up_to, Lists, lists_from}
use Rattle.restarts.specs.Restarts as controller
use Rattle.restarts.specs.Restarts.{FromElsewhere, ClaimedFrom, Claimed}
use Rattle.restarts.specs.Minutes.{began_with, known_of}
use Rattle.restarts.proofs.Restarts.{claimed, first_together}
use Rattle.restarts.proofs.Together.{Together, together_next}
use Rattle.restarts.proofs.Minutes.{limit_claimed, balance_claimed, site_claimed}
use Rattle.theorem.specs.Images.{given_back}
use Rattle.theorem.specs.Keeper.{CodeEvent, by_restore, by_image, Start, with_opening, with_image, started, Happened, MadeList, none_made, MadeLists, brought_by, lists_with, lists_after, lists_first, made_in_force, kept_after, calls_in, all_events_of, asked_first, events_from}
use Rattle.theorem.specs.AcrossRestarts.{IsAsTheRulesSay, AreAsTheRulesSay, known_in_force, GuaranteedAcross, CodeAcrossRestarts}
use Rattle.theorem.specs.ClaimsAcrossRestarts.{AfterAnyEvents, ItsStationIsValid, ItsListIsThatOfTheRules, ItsStationIsOfThisList, AllSeenIsAsTheRulesSay, FurtherCallsAreTheRules, AllKnownWasSeen, RefusalsOfItsStation, PlansOfItsStation, OrdersOfItsList}
use Rattle.theorem.specs.MinutesAcrossRestarts.{WhateverHappens, NoLineAboveItsLimitSince, NoLinesFurtherApartSince, SiteWithinItsLimitSince, SinceAnyImage, BegunKeepTheirStarts, NoneOfThemIsReported, ListAfterARefusedRestore, ListOfARefusedBeginning, ListAfterASaveNotMade, ListAfterASavedImage}
use Rattle.theorem.proofs.Chains.{one_step}
use Rattle.theorem.proofs.Kept.{get_map, lists_in, Goes, brought_same, brought_known, all_go, all_seen, all_lists}

-- Where it begins

start_goes : (b : Start) (events : List CodeEvent) → Happened b events → Goes (started b) (lists_first b)
start_goes (with_opening o) es h =
    record {
      valid = h.0.valid;
      together =
          subst (λ (s : State). Together (record { station = s; images = [] }) (lists_in (lists_first (with_opening o))))
          (sym (ap (λ (r : rules.Result). r.state) h.0.result))
          (first_together o.asked);
      now = refl;
      saved = tt;
    }
start_goes (with_image r) es h =
    record {
      valid = h.0.valid;
      together =
          rw (ap (λ (x : RestoreResult). x.state) h.0.result, brought_same r h.0)
          (together_next (controller.opened least) (events.unsaved least) (events.brings r.image) (first_together least));
      now = brought_known r.image r.answer;
      saved = tt;
    }

start_lists :
    (b : Start) (es : List CodeEvent)
    → Happened b es
    → lists_from (lists_in (lists_first b)) (all_events_of es) ≡ lists_from (events.unsaved (asked_first b)) (events_from b es)
start_lists (with_opening o) es h = refl
start_lists (with_image r) es h =
    ap (λ (l : CallList). lists_from (record { now = l; saved = [] }) (all_events_of es)) (brought_same r h.0)

pub across_restarts : CodeAcrossRestarts
across_restarts b es h =
    let g : Goes (kept_after b es) (lists_after (lists_first b) es) = all_go (started b) (lists_first b) es (start_goes b es h) h.1 in
    record {
      valid = g.valid;
      lists =
          ap (λ (l : Lists). l.now) (all_lists (started b) (lists_first b) es (start_goes b es h) h.1 ∙ start_lists b es h);
      station = g.together.station;
      seen = all_seen (started b) (lists_first b) es (start_goes b es h) h.1;
      next = λ m. one_step (kept_after b es).station m g.valid;
      known_same = g.now;
      one = valid_demand_one (view (kept_after b es).station) g.valid.state;
      two = valid_demand_two (view (kept_after b es).station) g.valid.state;
      three = claimed (made_in_force b es).beginning (calls_in (made_in_force b es)).calls g.together.now;
    }

-- Each sentence

module _ (b : Start) (es : List CodeEvent) (h : Happened b es) where
  holds : GuaranteedAcross b es
  holds = across_restarts b es h

pub station_valid : AfterAnyEvents ItsStationIsValid
station_valid b es h = (holds b es h).valid

pub list_same : AfterAnyEvents ItsListIsThatOfTheRules
list_same b es h = (holds b es h).lists

pub station_same : AfterAnyEvents ItsStationIsOfThisList
station_same b es h = (holds b es h).station

pub seen_same : AfterAnyEvents AllSeenIsAsTheRulesSay
seen_same b es h = (holds b es h).seen

pub further_same : AfterAnyEvents FurtherCallsAreTheRules
further_same b es h = (holds b es h).next

pub known_was_seen : AfterAnyEvents AllKnownWasSeen
known_was_seen b es h = (holds b es h).known_same

pub refusals_hold : AfterAnyEvents RefusalsOfItsStation
refusals_hold b es h = (holds b es h).one

pub plans_hold : AfterAnyEvents PlansOfItsStation
plans_hold b es h = (holds b es h).two

pub orders_hold : AfterAnyEvents OrdersOfItsList
orders_hold b es h = (holds b es h).three

pub no_line_above : WhateverHappens NoLineAboveItsLimitSince
no_line_above b es h f l t i j since =
    subst (λ (p : Past). count_in step p f l t ≤ (feeder_of (began_with (calls_in (made_in_force b es))) f).limit) (sym (holds b es h).known_same)
    (limit_claimed (made_in_force b es).beginning (calls_in (made_in_force b es)).calls (holds b es h).three f l t i j since)

pub no_two_lines : WhateverHappens NoLinesFurtherApartSince
no_two_lines b es h f l m t i j k since =
    subst (λ (p : Past). count_in step p f l t ≤ count_in step p f m t + (feeder_of (began_with (calls_in (made_in_force b es))) f).bound) (sym (holds b es h).known_same)
    (balance_claimed (made_in_force b es).beginning (calls_in (made_in_force b es)).calls (holds b es h).three f l m t i j k since)

pub site_within : WhateverHappens SiteWithinItsLimitSince
site_within b es h t since =
    subst (λ (p : Past). site_in step p t ≤ (began_with (calls_in (made_in_force b es))).site) (sym (holds b es h).known_same)
    (site_claimed (made_in_force b es).beginning (calls_in (made_in_force b es)).calls (holds b es h).three t since)

-- a list that began with an image
from_image :
    (b : Start) (es : List CodeEvent)
    → Happened b es
    → (image : List ℕ)
    → (made_in_force b es).beginning ≡ an_image image
    → FromElsewhere (restoring image).state (calls_in (made_in_force b es)).calls
from_image b es h image e =
    subst (λ (x : Beginning). ClaimedFrom x (calls_in (made_in_force b es)).calls) e (holds b es h).three

known_image :
    (b : Start) (es : List CodeEvent)
    → Happened b es
    → (image : List ℕ)
    → (made_in_force b es).beginning ≡ an_image image
    → known_in_force (made_in_force b es) ≡ known_of (record { beginning = an_image image; calls = (calls_in (made_in_force b es)).calls })
known_image b es h image e =
    (holds b es h).known_same
    ∙ ap (λ (x : Beginning). known_of (record { beginning = x; calls = (calls_in (made_in_force b es)).calls })) e

pub begun_keep : SinceAnyImage BegunKeepTheirStarts
begun_keep b es h image e f i =
    subst
    (λ (p : Past).
    Each (λ (c : Charge). c.start < (restoring image).state.clock → start_of step p (order_of f c) ≡ c.start) (charges_on (restoring image).state f))
    (sym (known_image b es h image e))
    ((from_image b es h image e).begun f i)

pub not_reported_again : SinceAnyImage NoneOfThemIsReported
not_reported_again b es h image e =
    let n = (from_image b es h image e).not_again in
    (n.0, ap (λ (p : Past). p.reports) (known_image b es h image e) ∙ n.1, n.2)

lists_split : (l : MadeLists) (es fs : List CodeEvent) → lists_after l (es ++ fs) ≡ lists_after (lists_after l es) fs
lists_split l [] fs = refl
lists_split l (e ∷ es) fs = lists_split (lists_with l e) es fs

pub begins_anew : ListAfterARefusedRestore
begins_anew b es r refusal h e =
    let new : made_in_force b (es ++ (by_image r ∷ [])) ≡ none_made a_refused_restore
    = ap (λ (l : MadeLists). l.now) (lists_split (lists_first b) es (by_image r ∷ [])) ∙ ap (brought_by r.image) e in
    (new, (holds b (es ++ (by_image r ∷ [])) h).station ∙ ap (λ (l : MadeList). left (calls_in l)) new)

pub begins_refused : ListOfARefusedBeginning
begins_refused r refusal h e =
    let new : made_in_force (with_image r) [] ≡ none_made a_refused_restore = ap (brought_by r.image) e in
    (new, (holds (with_image r) [] h).station ∙ ap (λ (l : MadeList). left (calls_in l)) new)

-- the last of the events: the rules say what was seen of it
last_seen : (l : MadeLists) (es : List CodeEvent) (e : CodeEvent) → AreAsTheRulesSay l (es ++ (e ∷ [])) → IsAsTheRulesSay (lists_after l es) e
last_seen l [] e h = h.0
last_seen l (d ∷ es) e h = last_seen (lists_with l d) es e h.1

pub accepted : (a : Result Unit Refusal) → refusal_in a ≡ 0 → a ≡ Ok tt
accepted (Ok done) e = refl
accepted (Err refusal) e = absurd (omega (arith, e, number_some refusal))

pub saved_comes_back : ListAfterASavedImage
saved_comes_back b es k r h few =
    let l : MadeLists = lists_after (lists_first b) es in
    let none : MadeList = none_made a_refused_restore in
    let seen : given_back r ≡ record { refusal = cond (ltb k (length l.saved)) 0 20; state = left (up_to (map calls_in l.saved) k) }
    = last_seen (lists_first b) es (by_restore k r) (holds b (es ++ (by_restore k r ∷ [])) h).seen in (
      accepted r.answer (ap (λ (x : RestoreResult). x.refusal) seen ∙ ap (λ (b : Bool). cond b 0 20) (lt-ltb k (length l.saved) few)),
      ap (λ (x : MadeLists). x.now) (lists_split (lists_first b) es (by_restore k r ∷ [])),
      ap (λ (x : RestoreResult). x.state) seen ∙ ap left (sym (get_map calls_in l.saved k none)),
    )

get_none : {A : Type 0} (l : List A) (k : ℕ) (a : A) → length l ≤ k → get_or l k a ≡ a
get_none [] k a low = refl
get_none (x ∷ l) zero a low = absurd (omega (arith, low))
get_none (x ∷ l) (suc k) a low = get_none l k a (omega (arith, low))

pub not_made_refused : ListAfterASaveNotMade
not_made_refused b es k r h many =
    let l : MadeLists = lists_after (lists_first b) es in
    let none : MadeList = none_made a_refused_restore in
    let seen : given_back r ≡ record { refusal = cond (ltb k (length l.saved)) 0 20; state = left (up_to (map calls_in l.saved) k) }
    = last_seen (lists_first b) es (by_restore k r) (holds b (es ++ (by_restore k r ∷ [])) h).seen in
    let past : get_or l.saved k none ≡ none = get_none l.saved k none many in (
      ap (λ (x : RestoreResult). x.refusal) seen ∙ ap (λ (b : Bool). cond b 0 20) (le-ltb k (length l.saved) many),
      ap (λ (x : MadeLists). x.now) (lists_split (lists_first b) es (by_restore k r ∷ [])) ∙ past,
      ap (λ (x : RestoreResult). x.state) seen
          ∙ ap left (sym (get_map calls_in l.saved k none))
          ∙ ap (λ (x : MadeList). left (calls_in x)) past,
    )
