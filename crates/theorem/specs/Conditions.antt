-- What each call is refused for, in words, in the order in which the first that holds gives the number.
use Rattle.std.specs.Prelude.{◌⊎◌, ◌≡◌, ℕ, ◌*◌, ◌≤◌, ◌<◌, List, [], ◌∷◌, ◌++◌, length}
use Rattle.rules.specs.Basics.{Each}
use Rattle.rules.specs.Charge.{loads_of, waiting_charges, without_ticket}
use Rattle.rules.specs.Site.{feeder_of, charges_on, site_charges}
use Rattle.rules.specs.Calls.{feeder_with}
use Rattle.station.specs.declared.Station.{Station}
use Rattle.station.specs.View.{view}
use Rattle.ordering.specs.declared.Order.{Order}
use Rattle.calls.specs.declared.Call.{Call}
use Rattle.calls.specs.declared.Call.TheVariants.{Preview, Commit, Move, Offer, ReplanLatest, ReplanLines, Enquire, Board, Withdraw}
use Rattle.theorem.specs.Theorem.{Made}
use Rattle.theorem.specs.Single.{OfSome, Condition, when}
use Rattle.theorem.specs.Soundness.{IsSound, IsEarliestStart}

-- there is no such feeder
abbrev pub no_such_feeder : Station → ℕ → Condition
no_such_feeder s f = when ((f < 1) ⊎ (s.count < f)) 29

-- what an order is refused for, previewed or committed: its feeder, line, charging time, rate and due minute, that the feeder is full, and
-- that all tickets are given
abbrev pub order_conditions : Station → Order → List Condition
order_conditions s o =
    no_such_feeder s o.feeder
    ∷ when ((o.line < 1) ⊎ (3 < o.line)) 4
    ∷ when ((o.time < 1) ⊎ (1440 < o.time)) 5
    ∷ when ((o.rate < 1) ⊎ (2 < o.rate)) 17
    ∷ when
    ((((feeder_of (view s) o.feeder).limit < o.rate) ⊎ ((feeder_of (view s) o.feeder).bound < o.rate))
    ⊎ (s.site < o.rate)) 18
    ∷ when (2000000 < o.due) 6
    ∷ when (180 ≤ length (charges_on (view s) o.feeder)) 13
    ∷ when (65535 < s.next) 14
    ∷ []

-- each number is above the one before it
abbrev pub Rises : List ℕ → Type 0
Rises [] = Unit {0}
Rises (a ∷ []) = Unit {0}
Rises (a ∷ b ∷ l) = (a < b) × Rises (b ∷ l)

-- what a call is refused for, with the list that it reads and the one that it writes
abbrev pub conditions_by : Station → Call → List ℕ → List ℕ → List Condition
conditions_by s (Preview o) numbers list = order_conditions s o
conditions_by s (Commit o shown) numbers list =
    order_conditions s o ++ (when (IsEarliestStart s o shown → ⊥) 16 ∷ [])
conditions_by s (Move target) numbers list =
    when (1000000 < target) 8
    ∷ when (length list < 360 * s.count) 9
    ∷ when (target < s.clock) 12
    ∷ []
conditions_by s (Offer f) numbers list =
    no_such_feeder s f
    ∷ when (length numbers ≡ length (waiting_charges s.clock (charges_on (view s) f)) → ⊥) 10
    ∷ []
conditions_by s (ReplanLatest f) numbers list = no_such_feeder s f ∷ []
conditions_by s (ReplanLines f allowance) numbers list =
    no_such_feeder s f
    ∷ when ((allowance < 1) ⊎ (1000 < allowance)) 11
    ∷ []
conditions_by s (Enquire ticket) numbers list =
    when (Each (λ c. c.ticket ≡ ticket → ⊥) (site_charges (view s))) 15
    ∷ []
conditions_by s Board numbers list =
    when ((Rises numbers → ⊥) ⊎ (180 < length numbers)) 23
    ∷ when (length list < length numbers) 24
    ∷ []
conditions_by s (Withdraw ticket) numbers list =
    when (Each (λ c. c.ticket ≡ ticket → ⊥) (site_charges (view s))) 15
    ∷ when (OfSome (λ c. (c.ticket ≡ ticket) × (c.start < s.clock)) (site_charges (view s))) 25
    ∷ when
    (IsSound s (feeder_with ticket 1 (view s).feeders)
    (loads_of (without_ticket ticket (charges_on (view s) (feeder_with ticket 1 (view s).feeders))))
    → ⊥) 26
    ∷ []

abbrev pub conditions : Station → Made → List Condition
conditions s m = conditions_by s m.call m.numbers m.list
