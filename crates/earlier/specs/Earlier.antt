-- Calls as they were, to compare with: the order of one call that N2 made a preview and a commit, and its refusals before N1.
use Rattle.std.specs.Prelude.{◌⊎◌, ◌≡◌, ℕ, ◌+◌, Bool, ◌||◌, List, [], ◌∷◌, ltb, leb, length}
use Rattle.rules.specs.Basics.{Found, at, nothing, first_of}
use Rattle.rules.specs.Site.{places, State, feeder_of, charges_on}
use Rattle.rules.specs.Calls.{refused, previewed, committed, Result, answering, commit, new_charge, draw_for, start_for, no_such_feeder, order_refusals, taking, step}

-- Before N2

-- "The start is the smallest s .. No other start moves. Answer: ticket and start."
abbrev pub ordered_at : State → ℕ → ℕ → ℕ → ℕ → ℕ → Found → Result
ordered_at s f line p d rate (at start) =
    record { answer = committed s.next start; state = taking s f (new_charge s f line p d rate start); list = [] }
ordered_at s f line p d rate nothing = record { answer = refused 0; state = s; list = [] }

-- an order with these refusals
abbrev pub ordered_by : List (Bool × ℕ) → State → ℕ → ℕ → ℕ → ℕ → ℕ → Result
ordered_by rows s f line p d rate =
    answering (first_of rows) s [] (ordered_at s f line p d rate (start_for s f (draw_for s f line p rate)))

abbrev pub ordering : State → ℕ → ℕ → ℕ → ℕ → ℕ → Result
ordering s f line p d rate = ordered_by (order_refusals s f line p d rate) s f line p d rate

-- What a preview gave, and what an order gave: the preview shows a start, and the commit of it on the station that the preview
-- left gives the same as the order; or the preview is refused, and so was the order.
abbrev pub Together : ℕ → ℕ → ℕ → ℕ → ℕ → Result → Result → Type 0
Together f line p d rate shown before =
    ((start : ℕ) × (shown.answer ≡ previewed start) × (step shown.state (commit f line p d rate start) ≡ before))
    ⊎ ((k : ℕ) × (shown.answer ≡ refused k) × (shown ≡ before))

-- Before N1

-- the refusals of an order, with the row that N1 took away
abbrev pub earlier_refusals : State → ℕ → ℕ → ℕ → ℕ → ℕ → List (Bool × ℕ)
earlier_refusals s f line p d rate =
    -- "no such feeder"
    no_such_feeder s f
    -- "line not 1 to 3"
    ∷ (ltb line 1 || ltb 3 line, 4)
    -- "p not 1 to 1,440"
    ∷ (ltb p 1 || ltb 1440 p, 5)
    -- "rate not 1 or 2"
    ∷ (ltb rate 1 || ltb 2 rate, 17)
    -- "rate above N or above D", or above W
    ∷ (ltb (feeder_of s f).limit rate || ltb (feeder_of s f).bound rate || ltb s.site rate, 18)
    -- "d above 2,000,000"
    ∷ (ltb 2000000 d, 6)
    -- "d below clock + p"
    ∷ (ltb d (s.clock + p), 7)
    -- "180 charges held"
    ∷ (leb places (length (charges_on s f)), 13)
    -- "65,535 tickets given"
    ∷ (ltb 65535 s.next, 14)
    ∷ []

abbrev pub earlier_order : State → ℕ → ℕ → ℕ → ℕ → ℕ → Result
earlier_order s f line p d rate = ordered_by (earlier_refusals s f line p d rate) s f line p d rate
