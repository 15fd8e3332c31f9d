-- N7: with r = 0 a call gives what it gave before.
use mathlib.Core.Path.{◌≡◌, refl, sym, ap, ◌∙◌}
use Prim.Native.Nat.{ℕ, ◌+◌, ◌-◌}
use mathlib.Core.List.{List, [], ◌∷◌, map}
use native.Mathlib.Omega.{arith}
use lib.ListN.{length}
use Rattle.rules.specs.Basics.{Each, first_of}
use Rattle.rules.specs.Charge.{Charge, load_of, loads_of, unfinished_charges}
use Rattle.rules.specs.Site.{Feeder, State, feeder_of, charges_on, joined, site_charges, others_of, with_charges}
use Rattle.rules.specs.Calls.{answering, Call, preview, commit, move, offer, replan_latest, replan_lines, enquire, board, withdraw, refusals, moved, reported, pairs, written, draw_for, start_for, moved_to, previewing, committing, moving, step}
use Rattle.rules.proofs.Lists.{each_right}
use Rattle.earlier.specs.Untailed.{load_before, loads_before, unfinished_before, active_for, feeder_before, station_before, start_for_before, moved_before, step_before, WithoutTails}
use Rattle.earlier.proofs.Feeders.{each_left, each_on, each_others, feeder_each}

-- active for its p
abbrev pub AtItsEnd : Charge → Type 0
AtItsEnd c = c.active_time ≡ c.time

-- without r
abbrev pub NoTail : Feeder → Type 0
NoTail g = g.tail ≡ 0

-- what offers and replans then read of a charge
pub load_then : (c : Charge) → load_of (active_for c.time c) ≡ load_before c
load_then c = refl

-- Charges

loads_are : (cs : List Charge) → Each AtItsEnd cs → loads_of cs ≡ loads_before cs
loads_are [] e = refl
loads_are (c ∷ cs) e = rw (e.0, loads_are cs e.1)

unfinished_are : (clock : ℕ) (cs : List Charge) → Each AtItsEnd cs → unfinished_charges clock cs ≡ unfinished_before clock cs
unfinished_are clock [] e = refl
unfinished_are clock (c ∷ cs) e = rw (e.0, unfinished_are clock cs e.1)

charges_are : (cs : List Charge) → Each AtItsEnd cs → map (λ c. active_for c.time c) cs ≡ cs
charges_are [] e = refl
charges_are (c ∷ cs) e =
    ap (λ (k : ℕ). active_for k c ∷ map (λ c. active_for c.time c) cs) (sym e.0)
    ∙ ap (λ (l : List Charge). c ∷ l) (charges_are cs e.1)

-- Feeders

feeders_are : (gs : List Feeder) → Each AtItsEnd (joined gs) → map feeder_before gs ≡ gs
feeders_are [] e = refl
feeders_are (g ∷ gs) e =
    ap (λ (cs : List Charge). with_charges g cs ∷ map feeder_before gs) (charges_are g.charges (each_left AtItsEnd g.charges (joined gs) e))
    ∙ ap (λ (l : List Feeder). g ∷ l) (feeders_are gs (each_right AtItsEnd g.charges (joined gs) e))

moved_are :
    (m : ℕ) (gs : List Feeder)
    → Each AtItsEnd (joined gs)
    → map (λ g. with_charges g (unfinished_charges m g.charges)) gs
    ≡ map (λ g. with_charges g (unfinished_before m g.charges)) gs
moved_are m [] e = refl
moved_are m (g ∷ gs) e =
    rw (
      unfinished_are m g.charges (each_left AtItsEnd g.charges (joined gs) e),
      moved_are m gs (each_right AtItsEnd g.charges (joined gs) e),
    )

-- One call

module _ (s : State) (w : WithoutTails s) where
  pub no_longer : (f p : ℕ) → p + (feeder_of s f).tail ≡ p
  no_longer f p = omega (arith, feeder_each NoTail s.feeders (f - 1) w.none refl)

  station_is : station_before s ≡ s
  station_is =
      ap (λ (gs : List Feeder). record { feeders = gs; site = s.site; clock = s.clock; next = s.next })
      (feeders_are s.feeders w.active)

  moved_is : (m : ℕ) → moved_to s m ≡ moved_before s m
  moved_is m =
      ap (λ (gs : List Feeder). record { feeders = gs; site = s.site; clock = m; next = s.next })
      (moved_are m s.feeders w.active)

  start_is : (f line p rate : ℕ) → start_for s f (draw_for s f line p rate) ≡ start_for_before s f line p rate
  start_is f line p rate =
      rw (
        no_longer f p,
        loads_are (charges_on s f) (each_on AtItsEnd s w.active f),
        loads_are (others_of s f) (each_others AtItsEnd s w.active f),
      )

  pub step_is : (c : Call) → step s c ≡ step_before s c
  unfolding previewing committing moving
  step_is (preview f line p d rate) = rw (start_is f line p rate)
  step_is (commit f line p d rate shown) = rw (start_is f line p rate, no_longer f p)
  step_is (move target list) =
      let report : List Charge = reported s.clock target (site_charges s) in
      ap
      (λ (x : State).
      answering (first_of (refusals s (move target list))) s list
      (record {
        answer = moved (length report) (length (site_charges s) - length (site_charges x));
        state = x;
        list = written (pairs report) list;
      }))
      (moved_is target)
  step_is (offer f ss) = rw station_is
  step_is (replan_latest f) = rw station_is
  step_is (replan_lines f allowance) = rw station_is
  step_is (enquire ticket) = refl
  step_is (board asked list) = refl
  step_is (withdraw ticket) = refl
