-- What a clock move reports, drops and leaves.
use mathlib.Core.Path.{◌≡◌, refl, sym, ap, ◌∙◌}
use Prim.Native.Nat.{ℕ, zero, suc, ◌+◌, ◌-◌, ◌*◌}
use mathlib.Core.Bool.{Bool, true, false, cond, not}
use mathlib.Core.List.{List, [], ◌∷◌, ◌++◌, map}
use native.Mathlib.Omega.{arith}
use lib.Dec.{ltb, leb}
use lib.ListN.{length, get_or, drop}
use borrow.Author.Tests.{leb-true, leb-false, lt-ltb, le-ltb}
use Rattle.rules.specs.Basics.{keep}
use Rattle.rules.specs.Charge.{Charge, is_finished, unfinished_charges}
use Rattle.rules.specs.Site.{Feeder, State, no_feeder, feeder_of, joined, site_charges, with_charges}
use Rattle.rules.specs.Calls.{moved, reported, start_before, pairs, written, moved_to, moving, Result}
use Rattle.rules.proofs.Lists.{keep_append}
use Rattle.rules.proofs.Sites.{map_length}
use Rattle.rules.proofs.Sorting.{Inserted, here, later, Rearranged, none, more, InOrder, rearranged_length, sorted_rearranged}
use Rattle.rules.proofs.ThenTicket.{ThenTicket}
use Rattle.rules.proofs.Reporting.{report_order}
use Rattle.station.specs.declared.Station.{Station}
use Rattle.station.specs.View.{view, Valid}
use Rattle.station.proofs.Views.{view_length}
use Rattle.calls.specs.declared.Call.TheVariants.{Move}
use Rattle.calls.specs.Applied.{list_after}
use Rattle.theorem.specs.Theorem.{Made, MeetsApply, given}
use Rattle.theorem.specs.Single.{answer_told, IsGranted}
use Rattle.theorem.specs.Moved.{passed_charges, is_over, is_left, InTurn, AreTheSame, MoveReportsInTurn, MoveKeepsLaterPlaces, MoveCounts, MoveSetsTheClock}
use Rattle.theorem.proofs.Places.{behind_at}
use Rattle.theorem.proofs.Single.{granted_of}

-- A rearrangement

inserted_count :
    (test : Charge → Bool) {a : Charge} {l n : List Charge}
    → Inserted a l n
    → length (keep test n) ≡ length (keep test (a ∷ l))
inserted_count test here = refl
inserted_count test {a = a} (later {b = b} {l = l} {m = m} i) = go (test a) (test b) refl refl (inserted_count test i)
  where
    go :
        (x y : Bool)
        → test a ≡ x
        → test b ≡ y
        → length (keep test m) ≡ length (keep test (a ∷ l))
        → length (keep test (b ∷ m)) ≡ length (keep test (a ∷ b ∷ l))
    go true true p q ih = rw (p, q) (omega (arith, rw p at ih))
    go true false p q ih = rw (p, q) (rw p at ih)
    go false true p q ih = rw (p, q) (omega (arith, rw p at ih))
    go false false p q ih = rw (p, q) (rw p at ih)

pub rearranged_count : (test : Charge → Bool) {l m : List Charge} → Rearranged l m → length (keep test m) ≡ length (keep test l)
rearranged_count test none = refl
rearranged_count test (more {a = a} {l = l} {m = m} r i) = inserted_count test i ∙ go (test a) (rearranged_count test r)
  where
    go :
        (x : Bool)
        → length (keep test m) ≡ length (keep test l)
        → length (cond x (a ∷ keep test m) (keep test m)) ≡ length (cond x (a ∷ keep test l) (keep test l))
    go true ih = ap suc ih
    go false ih = ih

in_turn : (cs : List Charge) → InOrder (λ a b. ThenTicket a.start b.start a b) cs → InTurn cs
in_turn [] o = tt
in_turn (c ∷ cs) o = (o.0, in_turn cs o.1)

pairs_length : (cs : List Charge) → length (pairs cs) ≡ 2 * length cs
pairs_length [] = refl
pairs_length (c ∷ cs) = omega (arith, pairs_length cs)

-- What is over

over_or_left : (target : ℕ) (c : Charge) → not (is_finished target c) ≡ is_left target c
over_or_left target c = go (leb (c.start + c.active_time) target) refl
  where
    go : (b : Bool) → leb (c.start + c.active_time) target ≡ b → not b ≡ ltb target (c.start + c.active_time)
    go true e = sym (le-ltb target (c.start + c.active_time) (leb-true (c.start + c.active_time) target e))
    go false e = sym (lt-ltb target (c.start + c.active_time) (leb-false (c.start + c.active_time) target e))

left_same : (target : ℕ) (cs : List Charge) → unfinished_charges target cs ≡ keep (is_left target) cs
left_same target [] = refl
left_same target (c ∷ cs) = rw (over_or_left target c, left_same target cs)

over_count : (target : ℕ) (cs : List Charge) → length cs ≡ length (keep (is_over target) cs) + length (unfinished_charges target cs)
over_count target [] = omega arith
over_count target (c ∷ cs) = go (is_finished target c) (over_count target cs)
  where
    go :
        (b : Bool)
        → length cs ≡ length (keep (is_over target) cs) + length (unfinished_charges target cs)
        → suc (length cs)
        ≡ length (cond b (c ∷ keep (is_over target) cs) (keep (is_over target) cs))
        + length (cond (not b) (c ∷ unfinished_charges target cs) (unfinished_charges target cs))
    go true ih = omega arith
    go false ih = omega arith

left_joined :
    (target : ℕ) (gs : List Feeder)
    → joined (map (λ g. with_charges g (unfinished_charges target g.charges)) gs) ≡ unfinished_charges target (joined gs)
left_joined target [] = refl
left_joined target (g ∷ gs) =
    rw (left_joined target gs, keep_append (λ c. not (is_finished target c)) g.charges (joined gs))

left_at :
    (target : ℕ) (gs : List Feeder) (i : ℕ)
    → get_or (map (λ g. with_charges g (unfinished_charges target g.charges)) gs) i no_feeder
    ≡ with_charges (get_or gs i no_feeder) (keep (is_left target) (get_or gs i no_feeder).charges)
left_at target [] i = refl
left_at target (g ∷ gs) zero = ap (λ (cs : List Charge). with_charges g cs) (left_same target g.charges)
left_at target (g ∷ gs) (suc i) = left_at target gs i

-- A move

module _ (s : Station) (m : Made) (v : Valid s) (meets : MeetsApply s m) (target : ℕ) (named : m.call ≡ Move target) (free : IsGranted m) where
  gave : given m ≡ moving (view s) target m.list
  gave = granted_of s m v meets (Move target) named free

  abbrev report : List Charge
  report = reported s.clock target (site_charges (view s))

  is_written : m.written ≡ written (pairs report) m.list
  unfolding moving
  is_written = sym (ap (λ c. list_after c m.numbers m.written) named) ∙ ap (λ (r : Result). r.list) gave

  as_many : length report ≡ length (passed_charges s target)
  as_many = rearranged_length (sorted_rearranged start_before (passed_charges s target))

  reports :
      AreTheSame report (passed_charges s target)
      × InTurn report
      × (m.written ≡ pairs report ++ drop (2 * length report) m.list)
  reports =
      let order = report_order (view s) target v.state in (
        (λ test. rearranged_count test order.rearranged),
        in_turn report order.sorted,
        is_written ∙ ap (λ (n : ℕ). pairs report ++ drop n m.list) (pairs_length report),
      )

  counts_told : answer_told m ≡ moved (length (passed_charges s target)) (length (keep (is_over target) (site_charges (view s))))
  unfolding moving
  counts_told =
      ap (λ (r : Result). r.answer) gave
      ∙ rw (
        as_many,
        left_joined target (view s).feeders,
        dropped (length (site_charges (view s))) (length (keep (is_over target) (site_charges (view s))))
            (length (unfinished_charges target (site_charges (view s)))) (over_count target (site_charges (view s))),
      )
    where
      dropped : (a b c : ℕ) → a ≡ b + c → a - c ≡ b
      dropped a b c e = omega arith

  left_over : view m.station ≡ moved_to (view s) target
  unfolding moving
  left_over = ap (λ (r : Result). r.state) gave

pub move_reports_in_turn : MoveReportsInTurn
move_reports_in_turn s m v meets target named free =
    let r = reports s m v meets target named free in
    (report s m v meets target named free, r.0, r.1, r.2)

pub move_keeps_later_places : MoveKeepsLaterPlaces
move_keeps_later_places s m v meets target place named free far =
    let cs = report s m v meets target named free in
    ap (λ (l : List ℕ). get_or l place 0) (is_written s m v meets target named free)
    ∙ behind_at (pairs cs) m.list place (omega (arith, pairs_length cs, as_many s m v meets target named free))

pub move_counts : MoveCounts
move_counts s m v meets target named free = counts_told s m v meets target named free

pub move_sets_the_clock : MoveSetsTheClock
move_sets_the_clock s m v meets target named free =
    let e = left_over s m v meets target named free in (
      ap (λ (z : State). z.clock) e,
      ap (λ (z : State). z.next) e,
      ap (λ (z : State). z.site) e,
      sym (view_length m.station)
          ∙ ap (λ (z : State). length z.feeders) e
          ∙ map_length (λ g. with_charges g (unfinished_charges target g.charges)) (view s).feeders
          ∙ view_length s,
      (λ f. ap (λ (z : State). feeder_of z f) e ∙ left_at target (view s).feeders (f - 1)),
    )
