-- A call leaves as many feeders as there were: a station of one feeder can be saved after it too.
use mathlib.Core.Path.{◌≡◌, refl}
use Prim.Native.Nat.{ℕ, zero, suc, ◌-◌}
use mathlib.Core.List.{List}
use lib.ListN.{length, length-set}
use Rattle.rules.specs.Basics.{Found, at, nothing, first_of}
use Rattle.rules.specs.Charge.{Charge, unfinished_charges}
use Rattle.rules.specs.Replan.{Proposal, starts, none, latest, by_lines}
use Rattle.rules.specs.Judgement.{judged}
use Rattle.rules.specs.Site.{State, feeder_of, charges_on, limits_of, with_charges, holding}
use Rattle.rules.specs.Calls.{answering, Call, preview, commit, move, offer, replan_latest, replan_lines, enquire, board, withdraw, lent, draw_for, start_for, refusals, previewed_at, previewing, committing, moving, decided, tested, offering, replanning_latest, replanning_lines, enquiring, boarding, withdrawing, granted, step}
use Rattle.rules.proofs.Sites.{map_length}

module _ (s : State) where
  abbrev AsMany : State → Type 0
  AsMany t = length t.feeders ≡ length s.feeders

  holding_many : (f : ℕ) (cs : List Charge) (n : ℕ) → AsMany (holding s f cs n)
  holding_many f cs n = length-set s.feeders (f - 1) (with_charges (feeder_of s f) cs)

  previewed_many : (x : Found) → AsMany (previewed_at s x).state
  previewed_many (at start) = refl
  previewed_many nothing = refl

  decided_many : (f rounds : ℕ) (ss list : List ℕ) (cause : ℕ) → AsMany (decided s f rounds ss list cause).state
  decided_many f rounds ss list zero = holding_many f _ s.next
  decided_many f rounds ss list (suc k) = refl

  tested_many : (f rounds : ℕ) (p : Proposal) (list : List ℕ) → AsMany (tested s f rounds p list).state
  tested_many f rounds (starts ss) list =
      decided_many f rounds ss list (judged (limits_of s f) s.clock (charges_on s f) ss)
  tested_many f rounds (none cause) list = refl

  granted_many : (c : Call) → AsMany (granted s c).state
  unfolding previewing committing moving offering replanning_latest replanning_lines enquiring boarding withdrawing
  granted_many (preview f line p d rate) = previewed_many (start_for s f (draw_for s f line p rate))
  granted_many (commit f line p d rate shown) = holding_many f _ (suc s.next)
  granted_many (move target list) =
      map_length (λ g. with_charges g (unfinished_charges target g.charges)) s.feeders
  granted_many (offer f ss) = tested_many f 0 (starts ss) ss
  granted_many (replan_latest f) = tested_many f 0 (latest (limits_of s f) s.clock (charges_on s f)) _
  granted_many (replan_lines f allowance) =
      tested_many f _ (by_lines (limits_of s f) s.clock allowance (charges_on s f)).proposal _
  granted_many (enquire ticket) = refl
  granted_many (board asked list) = refl
  granted_many (withdraw ticket) = holding_many _ _ s.next

  pub feeders_stay : (c : Call) → length (step s c).state.feeders ≡ length s.feeders
  feeders_stay c = go (first_of (refusals s c))
    where
      go : (i : ℕ) → AsMany (answering i s (lent c) (granted s c)).state
      go zero = granted_many c
      go (suc i) = refl
