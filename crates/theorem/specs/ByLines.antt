-- The replan by lines, spelled out: when it ends with starts, and when without.
use Rattle.std.specs.Prelude.{◌↔◌, ◌≡◌, ℕ, ◌+◌, ◌≤◌, ◌<◌, false, List}
use Rattle.rules.specs.Charge.{Charge, waiting_charges}
use Rattle.rules.specs.Search.{Caps}
use Rattle.rules.specs.Replan.{starts, starts_in, placed_active}
use Rattle.rules.specs.Site.{charges_on}
use Rattle.station.specs.View.{view}
use Rattle.calls.specs.declared.Call.TheVariants.{ReplanLines}
use Rattle.theorem.specs.Single.{OfEveryCall, IsGranted, HasCauseAfter}
use Rattle.theorem.specs.Proposed.{Proposes}
use Rattle.theorem.specs.Rounds.{IsRound, IsEvenAt, IsFirstUneven, IsFullest, AreCapsAfter}

-- The replan puts starts to the test after some rounds exactly when the last of them, within the allowance, is even in every minute from the
-- clock on, and then its starts.
abbrev pub StartsOfAnEvenRound : Type 0
StartsOfAnEvenRound =
    OfEveryCall (λ s m.
    (f allowance : ℕ)
    → m.call ≡ ReplanLines f allowance
    → IsGranted m
    → (ss : List ℕ) (rounds : ℕ)
    → Proposes s m f (starts ss) rounds
    ↔ ((n : ℕ)
    × (cap : Caps)
    × (placed : List Charge)
    × (n < allowance)
    × (rounds ≡ n + 1)
    × AreCapsAfter s f n cap
    × IsRound s f cap placed
    × ((t : ℕ) → s.clock ≤ t → IsEvenAt s f placed t)
    × (starts_in placed (waiting_charges s.clock (charges_on (view s) f)) ≡ ss)))

-- It has cause 1 after so many rounds exactly when each round before the last of them found a cap to lower, and in the last, within the
-- allowance, no placed charge of the fullest line is active in the first uneven minute.
abbrev pub CauseOneIsNoneActive : Type 0
CauseOneIsNoneActive =
    OfEveryCall (λ s m.
    (f allowance : ℕ)
    → m.call ≡ ReplanLines f allowance
    → IsGranted m
    → (rounds : ℕ)
    → HasCauseAfter m 1 rounds
    ↔ ((n : ℕ)
    × (cap : Caps)
    × (placed : List Charge)
    × (t : ℕ)
    × (full : ℕ)
    × (n < allowance)
    × (rounds ≡ n + 1)
    × AreCapsAfter s f n cap
    × IsRound s f cap placed
    × IsFirstUneven s f placed t
    × IsFullest s f placed t full
    × (placed_active placed full t ≡ false)))

-- It has cause 2 after so many rounds exactly when as many rounds as the allowance each found a cap to lower, and these are the rounds. The
-- cap that the last of them found is lowered no more: no round is left to use it.
abbrev pub CauseTwoIsAllowanceSpent : Type 0
CauseTwoIsAllowanceSpent =
    OfEveryCall (λ s m.
    (f allowance : ℕ)
    → m.call ≡ ReplanLines f allowance
    → IsGranted m
    → (rounds : ℕ)
    → HasCauseAfter m 2 rounds ↔ ((cap : Caps) × (rounds ≡ allowance) × AreCapsAfter s f allowance cap))
