-- The searches miss nothing: a start is found wherever there is one, and an unbalanced minute too.
use Rattle.std.specs.Prelude.{◌≡◌, ℕ, ◌≤◌, true, false, List}
use Rattle.rules.specs.Basics.{at, nothing, first_of}
use Rattle.rules.specs.Load.{Load, Draw, counts, Limits, sound}
use Rattle.rules.specs.Site.{State}
use Rattle.rules.specs.Search.{added, earliest, first_unbalanced}
use Rattle.rules.specs.Calls.{draw_for, start_for, order_refusals}
use Rattle.rules.specs.Valid.{ValidState}
use Rattle.rules.specs.laws.Soundness.{Balanced}

-- A sound plan always leaves a start for a rate that is above neither N nor W nor D.
abbrev pub SoundPlansLeaveAStart : Type 0
SoundPlansLeaveAStart =
    (y : Limits) (k : ℕ) (xs : List Load) (a : Draw)
    → a.rate ≤ y.limit
    → a.rate ≤ y.site
    → a.rate ≤ y.bound
    → sound y k xs ≡ true
    → (s : ℕ) × (earliest y k xs a ≡ at s)

-- Where no start is found, none at all is sound.
abbrev pub NoStartFoundIsNoStart : Type 0
NoStartFoundIsNoStart =
    (y : Limits) (k : ℕ) (xs : List Load) (a : Draw)
    → a.rate ≤ y.limit
    → a.rate ≤ y.site
    → a.rate ≤ y.bound
    → earliest y k xs a ≡ nothing
    → (s : ℕ)
    → k ≤ s
    → sound y k (added xs a s) ≡ false

-- Where no unbalanced minute is found, every minute from the clock on is in balance.
abbrev pub NoMinuteFoundIsBalance : Type 0
NoMinuteFoundIsBalance =
    (y : Limits) (k : ℕ) (xs : List Load)
    → first_unbalanced y k xs ≡ nothing
    → (t : ℕ)
    → k ≤ t
    → Balanced y.bound (counts xs t)

-- An order on a valid station that is not refused always gets a start.
abbrev pub OrdersGetAStart : Type 0
OrdersGetAStart =
    (s : State) (f line p d rate : ℕ)
    → ValidState s
    → first_of (order_refusals s f line p d rate) ≡ 0
    → (start : ℕ) × (start_for s f (draw_for s f line p rate) ≡ at start)
