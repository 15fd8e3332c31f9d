-- N14: with one feeder and W 720 a call gives what it gave before.
use mathlib.Core.Path.{◌≡◌, refl, ap, subst, ◌∙◌}
use Prim.Native.Nat.{ℕ, zero, suc, ◌+◌, ◌≤◌}
use mathlib.Core.Bool.{Bool, true, false, not, ◌||◌}
use mathlib.Core.List.{List, [], append-nil}
use native.Mathlib.Omega.{arith}
use lib.Dec.{ltb}
use borrow.Author.Tests.{ltb-false, le-ltb}
use Rattle.rules.specs.Basics.{Each, first_of, some}
use Rattle.rules.specs.Charge.{Charge, loads_of, unfinished_charges, has_ticket, without_ticket}
use Rattle.rules.specs.Replan.{Proposal, starts, none, latest, Replanned, by_lines}
use Rattle.rules.specs.Site.{Feeder, State}
use Rattle.rules.specs.Calls.{answering, Call, preview, commit, move, offer, replan_latest, replan_lines, enquire, board, withdraw, lent, refusals, draw_for, start_for, previewing, moving, decided, tested, offering, replanning_latest, replanning_lines, enquiring, boarding, withdrawing, granted, step}
use Rattle.rules.specs.Valid.{IsFeeder, ValidState}
use Rattle.rules.proofs.Lists.{each_map}
use Rattle.rules.proofs.Tables.{NoneHolds}
use Rattle.rules.proofs.Granted.{refusals_none, order_granted, withdraw_granted}
use Rattle.earlier.specs.Single.{alone, tested_before, start_for_before, refusals_before, granted_before, step_before, NamesOne}
use Rattle.earlier.proofs.Rates.{rates_in_loads, rates_kept, rates_most}
use Rattle.earlier.specs.LawsOfBefore.{limits_alone, rates, WithTail}
use Rattle.earlier.proofs.OnePlans.{sound_is, earliest_is, latest_is, lines_is}
use Rattle.earlier.proofs.OneTest.{judged_is}

pub or-false : (a : Bool) → a || false ≡ a
or-false true = refl
or-false false = refl

or-true : (a : Bool) → a || true ≡ true
or-true true = refl
or-true false = refl

-- One call

module _ (g : Feeder) (k n : ℕ) (v : ValidState (alone g k n)) where
  abbrev s : State
  s = alone g k n

  first_one : IsFeeder s 1
  first_one = record { low = omega arith; high = omega arith }

  -- all rates, and 2 more, are below W
  few : rates g.charges + 2 ≤ 720
  few =
      omega (
        arith,
        (v.plan 1 first_one).few,
        rates_most g.charges
            (each_map _ (λ c. c.rate ≤ 2) (λ c w. w.rate.high) g.charges (v.plan 1 first_one).each),
      )

  tails : Each (WithTail g.tail) g.charges
  tails = each_map _ (WithTail g.tail) (λ c w. w.active) g.charges (v.plan 1 first_one).each

  start_is : (line p rate : ℕ) → rate ≤ 2 → start_for s 1 (draw_for s 1 line p rate) ≡ start_for_before s line p rate
  start_is line p rate h =
      earliest_is g k (loads_of g.charges) (draw_for s 1 line p rate) (omega (arith, few, rates_in_loads g.charges))

  tested_is : (rounds : ℕ) (p : Proposal) (list : List ℕ) → tested s 1 rounds p list ≡ tested_before s rounds p list
  tested_is rounds (starts ss) list = ap (decided s 1 rounds ss list) (judged_is g k (omega (arith, few)) tails ss)
  tested_is rounds (none cause) list = refl

  -- Refusals

  -- a rate of 1 or 2 is not above W, and any other is refused by 17
  order_refused :
      (rate : ℕ) (c : Call)
      → (rate ≤ 2 → first_of (refusals s c) ≡ first_of (refusals_before s c))
      → (ltb 2 rate ≡ true → first_of (refusals s c) ≡ first_of (refusals_before s c))
      → first_of (refusals s c) ≡ first_of (refusals_before s c)
  order_refused rate c low high = go (ltb 2 rate) refl
    where
      go : (x : Bool) → ltb 2 rate ≡ x → first_of (refusals s c) ≡ first_of (refusals_before s c)
      go true e = high e
      go false e = low (ltb-false 2 rate e)

  rate_row : (rate : ℕ) → rate ≤ 2 → ltb g.limit rate || ltb g.bound rate || ltb 720 rate ≡ ltb g.limit rate || ltb g.bound rate
  rate_row rate h = rw (le-ltb 720 rate (omega arith)) (or-false (ltb g.limit rate || ltb g.bound rate))

  -- the ticket is on the one feeder, or 15 goes before
  withdraw_refused : (ticket : ℕ) → first_of (refusals s (withdraw ticket)) ≡ first_of (refusals_before s (withdraw ticket))
  withdraw_refused ticket = go (some (has_ticket ticket) g.charges) refl
    where
      go :
          (b : Bool)
          → some (has_ticket ticket) g.charges ≡ b
          → first_of (refusals s (withdraw ticket)) ≡ first_of (refusals_before s (withdraw ticket))
      go true e =
          rw (
            append-nil g.charges,
            e,
            sound_is g k (loads_of (without_ticket ticket g.charges))
                (omega (
                  arith,
                  few,
                  rates_in_loads (without_ticket ticket g.charges),
                  rates_kept (λ c. not (has_ticket ticket c)) g.charges,
                )),
          )
      go false e = rw (append-nil g.charges, e)

  refused_is : (c : Call) → NamesOne c → first_of (refusals s c) ≡ first_of (refusals_before s c)
  refused_is (preview f line p d rate) h =
      rw h
      (order_refused rate (preview 1 line p d rate) (λ i. rw (rate_row rate i)) (λ e. rw (e, or-true (ltb rate 1))))
  refused_is (commit f line p d rate shown) h =
      rw h
      (order_refused rate (commit 1 line p d rate shown)
      (λ i. rw (rate_row rate i, start_is line p rate i))
      (λ e. rw (e, or-true (ltb rate 1))))
  refused_is (move target list) h = refl
  refused_is (offer f ss) h = rw h
  refused_is (replan_latest f) h = rw h
  refused_is (replan_lines f allowance) h = rw h
  refused_is (enquire ticket) h = rw (append-nil g.charges)
  refused_is (board asked list) h = refl
  refused_is (withdraw ticket) h = withdraw_refused ticket

  -- What is not refused

  granted_is : (c : Call) → NamesOne c → NoneHolds (refusals s c) → granted s c ≡ granted_before s c
  unfolding previewing moving offering replanning_latest replanning_lines enquiring boarding withdrawing
  granted_is (preview f line p d rate) h q =
      let i : rate ≤ 2 = (order_granted s f line p d rate q).is_rate.high in
      rw (h, start_is line p rate i)
  granted_is (commit f line p d rate shown) h q = rw h
  granted_is (move target list) h q = rw (append-nil g.charges, append-nil (unfinished_charges target g.charges))
  granted_is (offer f ss) h q = rw h (tested_is 0 (starts ss) ss)
  granted_is (replan_latest f) h q =
      rw h
      (tested_is 0 (latest (limits_alone g) k g.charges) []
      ∙ ap (λ (p : Proposal). tested_before s 0 p []) (latest_is g k (omega (arith, few))))
  granted_is (replan_lines f allowance) h q =
      rw h
      (tested_is (by_lines (limits_alone g) k allowance g.charges).rounds (by_lines (limits_alone g) k allowance g.charges).proposal []
      ∙ ap (λ (r : Replanned). tested_before s r.rounds r.proposal []) (lines_is g k (omega (arith, few)) allowance))
  granted_is (enquire ticket) h q = rw (append-nil g.charges)
  granted_is (board asked list) h q = rw (append-nil g.charges)
  granted_is (withdraw ticket) h q =
      let held : some (has_ticket ticket) g.charges ≡ true
      = subst (λ (cs : List Charge). some (has_ticket ticket) cs ≡ true) (append-nil g.charges) (withdraw_granted s ticket q).held in
      rw held

  pub step_is : (c : Call) → NamesOne c → step s c ≡ step_before s c
  step_is c h =
      go (first_of (refusals s c)) refl
      ∙ ap (λ (i : ℕ). answering i s (lent c) (granted_before s c)) (refused_is c h)
    where
      go :
          (i : ℕ)
          → first_of (refusals s c) ≡ i
          → answering i s (lent c) (granted s c) ≡ answering i s (lent c) (granted_before s c)
      go zero e = granted_is c h (refusals_none s c e)
      go (suc i) e = refl
