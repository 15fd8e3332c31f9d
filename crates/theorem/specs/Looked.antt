-- What an enquiry tells and a board shows, in words.
use Rattle.std.specs.Prelude.{◌⊎◌, ◌≡◌, ℕ, ◌+◌, ◌≤◌, ◌<◌, [], leb, length, get_or}
use Rattle.rules.specs.Basics.{keep, Each}
use Rattle.rules.specs.Site.{site_charges}
use Rattle.rules.specs.Calls.{refused, waiting, charging, looked}
use Rattle.guarantee.specs.DemandTwo.{highest}
use Rattle.station.specs.View.{view}
use Rattle.calls.specs.declared.Call.TheVariants.{Enquire, Board}
use Rattle.theorem.specs.Single.{OfEveryCall, answer_told, IsGranted, OfSome}

-- An enquiry tells of the charge with its ticket: a start from the clock on still waits, an earlier one is charging until start + time.
-- Where no charge held has the ticket, it is refused with 15.
abbrev pub EnquiryTellsTheCharge : Type 0
EnquiryTellsTheCharge =
    OfEveryCall (λ s m.
    (ticket : ℕ)
    → m.call ≡ Enquire ticket
    → OfSome (λ c. (c.ticket ≡ ticket) × (s.clock ≤ c.start) × (answer_told m ≡ waiting c.start c.rate)) (site_charges (view s))
    ⊎ (OfSome
    (λ c. (c.ticket ≡ ticket) × (c.start < s.clock) × (answer_told m ≡ charging c.start (c.start + c.time) c.rate))
    (site_charges (view s))
    ⊎ (Each (λ c. c.ticket ≡ ticket → ⊥) (site_charges (view s)) × (answer_told m ≡ refused 15))))

abbrev pub EnquiryChangesNothing : Type 0
EnquiryChangesNothing =
    OfEveryCall (λ s m. (ticket : ℕ) → m.call ≡ Enquire ticket → (m.station ≡ s) × (m.written ≡ m.list))

-- A board that is not refused answers how many charges have a ticket not above the highest that is asked for.
abbrev pub BoardCounts : Type 0
BoardCounts =
    OfEveryCall (λ s m.
    m.call ≡ Board
    → IsGranted m
    → answer_told m ≡ looked (length (keep (λ c. leb c.ticket (highest m.numbers)) (site_charges (view s)))))

-- Asked for no tickets, it looks at no charge.
abbrev pub BoardOfNoneLooksAtNone : Type 0
BoardOfNoneLooksAtNone =
    OfEveryCall (λ s m. m.call ≡ Board → IsGranted m → m.numbers ≡ [] → answer_told m ≡ looked 0)

-- At the place of each ticket it writes the start of its charge, or 4,294,967,295 where no charge held has it.
abbrev pub BoardWritesStarts : Type 0
BoardWritesStarts =
    OfEveryCall (λ s m.
    m.call ≡ Board
    → IsGranted m
    → (place : ℕ)
    → place < length m.numbers
    → OfSome
    (λ c. (c.ticket ≡ get_or m.numbers place 0) × (get_or m.written place 0 ≡ c.start))
    (site_charges (view s))
    ⊎ (Each (λ c. c.ticket ≡ get_or m.numbers place 0 → ⊥) (site_charges (view s))
    × (get_or m.written place 0 ≡ 4294967295)))

-- Later places keep what they held, and the list is as long as before.
abbrev pub BoardKeepsLaterPlaces : Type 0
BoardKeepsLaterPlaces =
    OfEveryCall (λ s m.
    m.call ≡ Board
    → IsGranted m
    → (length m.written ≡ length m.list)
    × ((place : ℕ) → length m.numbers ≤ place → get_or m.written place 0 ≡ get_or m.list place 0))

-- Refused or not, it changes nothing.
abbrev pub BoardChangesNothing : Type 0
BoardChangesNothing = OfEveryCall (λ s m. m.call ≡ Board → m.station ≡ s)
