-- What a preview and a commit give, in words.
use Rattle.std.specs.Prelude.{◌↔◌, ◌≡◌, ℕ, ◌+◌, [], ◌∷◌, ◌++◌}
use Rattle.rules.specs.Charge.{Charge}
use Rattle.rules.specs.Site.{feeder_of, charges_on, holding}
use Rattle.rules.specs.Calls.{refused, previewed, committed, refusals}
use Rattle.guarantee.specs.DemandOne.{NoneApplies}
use Rattle.station.specs.declared.Station.{Station}
use Rattle.station.specs.View.{view}
use Rattle.ordering.specs.declared.Order.{Order}
use Rattle.ordering.specs.Ordered.{preview_of}
use Rattle.calls.specs.declared.Call.TheVariants.{Preview, Commit}
use Rattle.theorem.specs.Single.{OfEveryCall, answer_told, IsGranted}
use Rattle.theorem.specs.Soundness.{IsEarliestStart}

-- A preview that is not refused shows the earliest sound start.
abbrev pub PreviewShowsTheEarliest : Type 0
PreviewShowsTheEarliest =
    OfEveryCall (λ s m.
    (o : Order) → m.call ≡ Preview o → IsGranted m → (start : ℕ) × (answer_told m ≡ previewed start) × IsEarliestStart s o start)

-- A preview changes nothing, refused or not.
abbrev pub PreviewChangesNothing : Type 0
PreviewChangesNothing =
    OfEveryCall (λ s m. (o : Order) → m.call ≡ Preview o → (m.station ≡ s) × (m.written ≡ m.list))

-- nothing refuses the order
abbrev pub IsOrderable : Station → Order → Type 0
IsOrderable s o = NoneApplies (refusals (view s) (preview_of o))

-- A commit of such an order gives the next ticket and the start shown exactly where this is the earliest sound start,
abbrev pub CommitGivesTheEarliest : Type 0
CommitGivesTheEarliest =
    OfEveryCall (λ s m.
    (o : Order) (shown : ℕ)
    → m.call ≡ Commit o shown
    → IsOrderable s o
    → (answer_told m ≡ committed s.next shown) ↔ IsEarliestStart s o shown)

-- and is refused with 16 exactly where another start is.
abbrev pub CommitRefusesAnother : Type 0
CommitRefusesAnother =
    OfEveryCall (λ s m.
    (o : Order) (shown : ℕ)
    → m.call ≡ Commit o shown
    → IsOrderable s o
    → (answer_told m ≡ refused 16) ↔ (IsEarliestStart s o shown → ⊥))

-- the charge of an order, with its start
abbrev pub charge_for : Station → Order → ℕ → Charge
charge_for s o start =
    record {
      ticket = s.next;
      line = o.line;
      order_minute = s.clock;
      time = o.time;
      active_time = o.time + (feeder_of (view s) o.feeder).tail;
      due = o.due;
      start = start;
      rate = o.rate;
    }

-- A commit that is not refused changes nothing but that its feeder holds one more charge, behind the others, and the next ticket.
abbrev pub CommitAddsOneCharge : Type 0
CommitAddsOneCharge =
    OfEveryCall (λ s m.
    (o : Order) (shown : ℕ)
    → m.call ≡ Commit o shown
    → IsGranted m
    → (view m.station
    ≡ holding (view s) o.feeder (charges_on (view s) o.feeder ++ (charge_for s o shown ∷ [])) (s.next + 1))
    × (m.written ≡ m.list))
