-- What a board shows, place by place, and how many charges it looks at.
use mathlib.Core.Path.{◌≡◌, refl}
use Prim.Native.Nat.{ℕ, zero, suc, ◌+◌, ◌-◌, ◌*◌, ◌≤◌, ◌<◌}
use mathlib.Core.Bool.{Bool, true, false, cond, ◌||◌, false≢true}
use mathlib.Core.List.{List, [], ◌∷◌, ◌++◌, map}
use native.Mathlib.Omega.{arith}
use lib.Dec.{eqb}
use lib.ListN.{length, get_or, drop}
use Rattle.rules.specs.Basics.{Each, some}
use Rattle.rules.specs.Charge.{Charge, active_until, has_ticket}
use Rattle.rules.specs.Site.{site_charges}
use Rattle.rules.specs.Calls.{not_held, start_or_not_held, is_looked_at, boarding}
use Rattle.rules.specs.Valid.{longest_tail}
use Rattle.rules.specs.laws.Boards.{TicketsAreShown, LaterPlacesAreKept, NotHeldIsShownExactly, LookedIsAtMostTheHeld}
use Rattle.rules.proofs.Ranges.{or_left, or_right, fails}
use Rattle.rules.proofs.Lists.{length_keep}
use Rattle.rules.proofs.Ends.{each_until}
use Rattle.rules.proofs.Sites.{tails_high}

-- The places

front : (f : ℕ → ℕ) (xs rest : List ℕ) (i : ℕ) → i < length xs → get_or (map f xs ++ rest) i 0 ≡ f (get_or xs i 0)
front f [] rest i h = absurd (omega arith)
front f (x ∷ xs) rest zero h = refl
front f (x ∷ xs) rest (suc i) h = front f xs rest i (omega arith)

-- "writes the start of each to another such list, or 4,294,967,295 for one not held"
pub place_shown : TicketsAreShown
unfolding boarding
place_shown s asked list i h = front (start_or_not_held (site_charges s)) asked _ i h

behind :
    (f : ℕ → ℕ) (xs list : List ℕ) (i : ℕ)
    → length xs ≤ i
    → length xs ≤ length list
    → get_or (map f xs ++ drop (length (map f xs)) list) i 0 ≡ get_or list i 0
behind f [] list i h j = refl
behind f (x ∷ xs) [] i h j = absurd (omega arith)
behind f (x ∷ xs) (y ∷ ys) zero h j = absurd (omega arith)
behind f (x ∷ xs) (y ∷ ys) (suc i) h j = behind f xs ys i (omega arith) (omega arith)

-- "Later places of the answer list are kept."
pub place_kept : LaterPlacesAreKept
unfolding boarding
place_kept s asked list i h j = behind (start_or_not_held (site_charges s)) asked list i h j

-- The ticket of a place is held, or not

not_held_shown : (cs : List Charge) (t : ℕ) → some (has_ticket t) cs ≡ false → start_or_not_held cs t ≡ not_held
not_held_shown [] t e = refl
not_held_shown (c ∷ cs) t e =
    rw (or_left (eqb c.ticket t) (some (has_ticket t) cs) e)
    (not_held_shown cs t (or_right (eqb c.ticket t) (some (has_ticket t) cs) e))

held_shown :
    (cs : List Charge) (t b : ℕ)
    → some (has_ticket t) cs ≡ true
    → Each (λ c. active_until c ≤ b) cs
    → start_or_not_held cs t ≤ b
held_shown [] t b e ends = absurd (false≢true e)
held_shown (c ∷ cs) t b e ends = go (eqb c.ticket t) e (λ u. held_shown cs t b u ends.1)
  where
    go :
        (a : Bool)
        → a || some (has_ticket t) cs ≡ true
        → (some (has_ticket t) cs ≡ true → start_or_not_held cs t ≤ b)
        → cond a c.start (start_or_not_held cs t) ≤ b
    go true u later = omega (arith, ends.0)
    go false u later = later u

-- no end on a valid site comes near 4,294,967,295, so this number says that no held charge has the ticket
pub shown_exactly : NotHeldIsShownExactly
shown_exactly s t v = (
  (λ e.
      fails (some (has_ticket t) (site_charges s))
      (λ h.
      omega (
        arith,
        v.clock_high,
        v.next_high,
        tails_high s v,
        held_shown (site_charges s) t (s.clock + 1445 * (s.next - 1) + longest_tail s.feeders) h
            (each_until (s.clock + 1445 * (s.next - 1) + longest_tail s.feeders) (site_charges s) v.ends_high),
      ))),
  not_held_shown (site_charges s) t,
)

-- The charges looked at

-- "so never more than are held"
pub looked_most : LookedIsAtMostTheHeld
looked_most asked cs = length_keep (is_looked_at asked) cs
