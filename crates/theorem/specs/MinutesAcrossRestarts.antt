-- What is guaranteed across restarts, in sentences: `s` is the station that the list of calls in force began with, and `h` is what is known
-- of its calls, read off what they were asked, their answers and their lists (crates/guarantee/specs/Past.antt).
use Rattle.std.specs.Prelude.{◌≡◌, ℕ, ◌+◌, ◌≤◌, ◌<◌, List, [], ◌∷◌, ◌++◌, map, length, get_or, Ok, Err}
use Rattle.rules.specs.Basics.{Each}
use Rattle.rules.specs.Load.{IsLine}
use Rattle.rules.specs.Charge.{Charge, begun_charges}
use Rattle.rules.specs.Site.{State, feeder_of, charges_on, site_charges}
use Rattle.rules.specs.Valid.{IsFeeder}
use Rattle.rules.specs.Calls.{fresh, least, step}
use Rattle.refusals.specs.declared.Refusal.{Refusal}
use Rattle.refusals.specs.Refusals.{refusal_in}
use Rattle.guarantee.specs.Past.{Past, Report, order_of, report_of, times_reported, start_of, count_in, site_in}
use Rattle.layout.specs.Reading.{restoring}
use Rattle.station.specs.View.{view}
use Rattle.restarts.specs.Events.{an_image, a_refused_restore, left}
use Rattle.restarts.specs.Minutes.{first_minute, began_with}
use Rattle.theorem.specs.Images.{Restore}
use Rattle.theorem.specs.Keeper.{CodeEvent, by_restore, by_image, Start, with_image, Happened, none_made, lists_after, lists_first, made_in_force, calls_in, kept_after}
use Rattle.theorem.specs.AcrossRestarts.{known_in_force}

-- Whatever happens to a controller, it holds: of the station that was opened, read from an image or, beside a refused restore, the fresh one;
-- of the first minute of which the list claims limit, balance and W, the clock of an image and else 0; and of what is known.
abbrev pub WhateverHappens : (State → ℕ → Past → Type 0) → Type 0
WhateverHappens Holds =
    (b : Start) (events : List CodeEvent)
    → Happened b events
    → Holds
    (began_with (calls_in (made_in_force b events)))
    (first_minute (made_in_force b events).beginning)
    (known_in_force (made_in_force b events))

-- From this minute on no line of a feeder is above the feeder's limit N,
abbrev pub NoLineAboveItsLimitSince : State → ℕ → Past → Type 0
NoLineAboveItsLimitSince s since h =
    (f l t : ℕ) → IsFeeder s f → IsLine l → since ≤ t → count_in step h f l t ≤ (feeder_of s f).limit

-- no two lines of a feeder are further apart than the feeder's bound D,
abbrev pub NoLinesFurtherApartSince : State → ℕ → Past → Type 0
NoLinesFurtherApartSince s since h =
    (f l m t : ℕ)
    → IsFeeder s f
    → IsLine l
    → IsLine m
    → since ≤ t
    → count_in step h f l t ≤ count_in step h f m t + (feeder_of s f).bound

-- and all feeders together draw no more than the site's limit W.
abbrev pub SiteWithinItsLimitSince : State → ℕ → Past → Type 0
SiteWithinItsLimitSince s since h = (t : ℕ) → since ≤ t → site_in step h t ≤ s.site

-- Where the list in force began with an image from elsewhere, it holds of the station of this image.
abbrev pub SinceAnyImage : (State → Past → Type 0) → Type 0
SinceAnyImage Holds =
    (b : Start) (events : List CodeEvent)
    → Happened b events
    → (image : List ℕ)
    → (made_in_force b events).beginning ≡ an_image image
    → Holds (restoring image).state (known_in_force (made_in_force b events))

-- A charge that had begun keeps the start that the image has it with,
abbrev pub BegunKeepTheirStarts : State → Past → Type 0
BegunKeepTheirStarts s h =
    (f : ℕ) → IsFeeder s f → Each (λ (c : Charge). c.start < s.clock → start_of step h (order_of f c) ≡ c.start) (charges_on s f)

-- and is not reported again: the reports are those of the charges that had begun, and then new ones without their tickets.
abbrev pub NoneOfThemIsReported : State → Past → Type 0
NoneOfThemIsReported s h =
    (new : List Report)
    × (h.reports ≡ map report_of (begun_charges s.clock (site_charges s)) ++ new)
    × ((f : ℕ) → IsFeeder s f → Each (λ (c : Charge). c.start < s.clock → times_reported new c.ticket ≡ 0) (charges_on s f))

-- A refused restore is followed by a new list of calls, from the fresh station of 1, 100 and r = 0, one feeder and W 720.
abbrev pub ListAfterARefusedRestore : Type 0
ListAfterARefusedRestore =
    (b : Start) (events : List CodeEvent) (r : Restore) (refusal : Refusal)
    → Happened b (events ++ (by_image r ∷ []))
    → r.answer ≡ Err refusal
    → (made_in_force b (events ++ (by_image r ∷ [])) ≡ none_made a_refused_restore)
    × (view (kept_after b (events ++ (by_image r ∷ []))).station ≡ fresh least)

-- A controller that begins with a refused image begins with a new list of calls, from the same station.
abbrev pub ListOfARefusedBeginning : Type 0
ListOfARefusedBeginning =
    (r : Restore) (refusal : Refusal)
    → Happened (with_image r) []
    → r.answer ≡ Err refusal
    → (made_in_force (with_image r) [] ≡ none_made a_refused_restore) × (view r.station ≡ fresh least)

-- A restore of a save that was not made is refused with 20, for it is lent no bytes, and followed by a new list from the same station.
abbrev pub ListAfterASaveNotMade : Type 0
ListAfterASaveNotMade =
    (b : Start) (events : List CodeEvent) (k : ℕ) (r : Restore)
    → Happened b (events ++ (by_restore k r ∷ []))
    → length (lists_after (lists_first b) events).saved ≤ k
    → (refusal_in r.answer ≡ 20)
    × (made_in_force b (events ++ (by_restore k r ∷ [])) ≡ none_made a_refused_restore)
    × (view r.station ≡ fresh least)

-- A restore of the image that save k wrote is accepted, and followed by the list of calls up to this save: the calls between fall out.
abbrev pub ListAfterASavedImage : Type 0
ListAfterASavedImage =
    (b : Start) (events : List CodeEvent) (k : ℕ) (r : Restore)
    → Happened b (events ++ (by_restore k r ∷ []))
    → k < length (lists_after (lists_first b) events).saved
    → (r.answer ≡ Ok tt)
    × (made_in_force b (events ++ (by_restore k r ∷ [])) ≡ get_or (lists_after (lists_first b) events).saved k (none_made a_refused_restore))
    × (view r.station ≡ left (calls_in (get_or (lists_after (lists_first b) events).saved k (none_made a_refused_restore))))
