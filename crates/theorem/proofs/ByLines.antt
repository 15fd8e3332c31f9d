-- The replan by lines, spelled out: when it ends with starts, and when without.
use mathlib.Core.Logic.{inl, inr, ◌↔◌}
use mathlib.Core.Path.{◌≡◌, sym, ap, ◌∙◌}
use Prim.Native.Nat.{ℕ, ◌+◌, ◌≤◌, ◌<◌}
use mathlib.Core.Bool.{false}
use mathlib.Core.List.{List}
use native.Mathlib.Omega.{arith}
use lib.Dec.{ltb}
use borrow.Author.Tests.{ltb-false}
use Rattle.rules.specs.Charge.{Charge, waiting_charges}
use Rattle.rules.specs.Search.{Caps}
use Rattle.rules.specs.Replan.{Proposal, starts, none, starts_in, placed_active, round, Replanned, by_lines}
use Rattle.rules.specs.Site.{charges_on, limits_of}
use Rattle.rules.specs.Valid.{IsFeeder}
use Rattle.rules.proofs.Ranges.{or_left}
use Rattle.station.specs.declared.Station.{Station}
use Rattle.station.specs.View.{view, Valid}
use Rattle.calls.specs.declared.Call.TheVariants.{ReplanLines}
use Rattle.theorem.specs.Theorem.{Made, MeetsApply}
use Rattle.theorem.specs.Single.{IsGranted, HasCauseAfter}
use Rattle.theorem.specs.Proposed.{plan, plan_in, Proposes}
use Rattle.theorem.specs.ByLines.{StartsOfAnEvenRound, CauseOneIsNoneActive, CauseTwoIsAllowanceSpent}
use Rattle.theorem.specs.Rounds.{IsRound, IsEvenAt, IsFirstUneven, IsFullest, AreCapsAfter}
use Rattle.theorem.proofs.Single.{none_of}
use Rattle.theorem.proofs.Planned.{cause_after_tested, there_tested}
use Rattle.theorem.proofs.ByLatestStart.{own_cause}
use Rattle.theorem.proofs.Rounds.{same_starts, none_apart, replanned, Ends, caps_of, even_ends, inactive_ends, lines_end, stops, spent}

-- A call of the replan

module _
    (s : Station) (m : Made) (v : Valid s) (meets : MeetsApply s m) (f allowance : ℕ) (named : m.call ≡ ReplanLines f allowance)
    (free : IsGranted m) where
  abbrev replan : Replanned
  replan = by_lines (limits_of (view s) f) s.clock allowance (charges_on (view s) f)

  proposes : Proposes s m f replan.proposal replan.rounds
  proposes = ap (λ c. plan_in (view s) c m.numbers) named

  there : IsFeeder (view s) f
  there = there_tested s m v meets f replan.proposal replan.rounds proposes free

  some : 1 ≤ allowance
  some =
      ltb-false allowance 1
      (or_left (ltb allowance 1) (ltb 1000 allowance) (none_of s m v meets (ReplanLines f allowance) named free).1.0)

  end : Ends s v f there allowance replan
  end = lines_end s v f there allowance some

  own :
      (k times : ℕ)
      → 1 ≤ k
      → k ≤ 2
      → HasCauseAfter m k times ↔ ((replan.proposal ≡ none k) × (replan.rounds ≡ times))
  own k times low high =
      let t = cause_after_tested s m v meets f replan.proposal replan.rounds proposes free k times in
      let o = own_cause s v f there k low high replan.proposal in
      ((λ e. (o.0 (t.0 e).0, (t.0 e).1)), (λ e. t.1 (o.1 e.0, e.1)))

  -- what comes of the replan is one thing
  differ : (p q : Proposal) (r : Replanned) (n : ℕ) → r ≡ replanned p n → r.proposal ≡ q → p ≡ q
  differ p q r n e g = sym (ap (λ (x : Replanned). x.proposal) e) ∙ g

  even_round :
      (ss : List ℕ) (rounds : ℕ)
      → Proposes s m f (starts ss) rounds
      ↔ ((n : ℕ)
      × (cap : Caps)
      × (placed : List Charge)
      × (n < allowance)
      × (rounds ≡ n + 1)
      × AreCapsAfter s f n cap
      × IsRound s f cap placed
      × ((t : ℕ) → s.clock ≤ t → IsEvenAt s f placed t)
      × (starts_in placed (waiting_charges s.clock (charges_on (view s) f)) ≡ ss))
  even_round ss rounds = (
    (λ q. let e : plan f replan.proposal replan.rounds ≡ plan f (starts ss) rounds = sym proposes ∙ q in forth (made e) (times e) end),
    back,
  )
    where
      made : plan f replan.proposal replan.rounds ≡ plan f (starts ss) rounds → replan.proposal ≡ starts ss
      made e = cc

      times : plan f replan.proposal replan.rounds ≡ plan f (starts ss) rounds → replan.rounds ≡ rounds
      times e = cc

      forth :
          replan.proposal ≡ starts ss
          → replan.rounds ≡ rounds
          → Ends s v f there allowance replan
          → (n : ℕ)
          × (cap : Caps)
          × (placed : List Charge)
          × (n < allowance)
          × (rounds ≡ n + 1)
          × AreCapsAfter s f n cap
          × IsRound s f cap placed
          × ((t : ℕ) → s.clock ≤ t → IsEvenAt s f placed t)
          × (starts_in placed (waiting_charges s.clock (charges_on (view s) f)) ≡ ss)
      forth g r (inl (us, n, cap, less, after, (placed, round, even, e), is)) =
          let same : us ≡ ss = same_starts us ss (differ (starts us) (starts ss) replan (n + 1) is g) in (
            n,
            cap,
            placed,
            less,
            sym r ∙ ap (λ (x : Replanned). x.rounds) is,
            after,
            round,
            even,
            e ∙ same,
          )
      forth g r (inr (inl (n, cap, less, after, q, is))) = absurd (none_apart 1 ss (differ (none 1) (starts ss) replan (n + 1) is g))
      forth g r (inr (inr (cap, after, is))) = absurd (none_apart 2 ss (differ (none 2) (starts ss) replan allowance is g))

      back :
          (n : ℕ)
          × (cap : Caps)
          × (placed : List Charge)
          × (n < allowance)
          × (rounds ≡ n + 1)
          × AreCapsAfter s f n cap
          × IsRound s f cap placed
          × ((t : ℕ) → s.clock ≤ t → IsEvenAt s f placed t)
          × (starts_in placed (waiting_charges s.clock (charges_on (view s) f)) ≡ ss)
          → Proposes s m f (starts ss) rounds
      back (n, cap, placed, less, times, after, round, even, e) =
          let is : replan ≡ replanned (starts ss) (n + 1)
          = stops s v f there allowance n cap (starts ss) less after
          (even_ends s v f there cap ss (caps_of s v f there n cap after) (placed, round, even, e)) in
          proposes ∙ ap (λ (r : Replanned). plan f r.proposal r.rounds) is ∙ ap (λ (k : ℕ). plan f (starts ss) k) (sym times)

  none_active :
      (rounds : ℕ)
      → HasCauseAfter m 1 rounds
      ↔ ((n : ℕ)
      × (cap : Caps)
      × (placed : List Charge)
      × (t : ℕ)
      × (full : ℕ)
      × (n < allowance)
      × (rounds ≡ n + 1)
      × AreCapsAfter s f n cap
      × IsRound s f cap placed
      × IsFirstUneven s f placed t
      × IsFullest s f placed t full
      × (placed_active placed full t ≡ false))
  none_active rounds = (
    (λ e. let c = (own 1 rounds (omega arith) (omega arith)).0 e in forth c.0 c.1 end),
    (λ q. (own 1 rounds (omega arith) (omega arith)).1 (back q)),
  )
    where
      forth :
          replan.proposal ≡ none 1
          → replan.rounds ≡ rounds
          → Ends s v f there allowance replan
          → (n : ℕ)
          × (cap : Caps)
          × (placed : List Charge)
          × (t : ℕ)
          × (full : ℕ)
          × (n < allowance)
          × (rounds ≡ n + 1)
          × AreCapsAfter s f n cap
          × IsRound s f cap placed
          × IsFirstUneven s f placed t
          × IsFullest s f placed t full
          × (placed_active placed full t ≡ false)
      forth g made (inl (us, n, cap, less, after, q, is)) =
          absurd (none_apart 1 us (sym (differ (starts us) (none 1) replan (n + 1) is g)))
      forth g made (inr (inl (n, cap, less, after, (placed, t, full, round, u, i, a), is))) =
          (n, cap, placed, t, full, less, sym made ∙ ap (λ (x : Replanned). x.rounds) is, after, round, u, i, a)
      forth g made (inr (inr (cap, after, is))) =
          let e : none 2 ≡ none 1 = differ (none 2) (none 1) replan allowance is g in
          let z : ◌≡◌ {A = ℕ} 2 1 = cc in
          absurd (omega arith)

      back :
          (n : ℕ)
          × (cap : Caps)
          × (placed : List Charge)
          × (t : ℕ)
          × (full : ℕ)
          × (n < allowance)
          × (rounds ≡ n + 1)
          × AreCapsAfter s f n cap
          × IsRound s f cap placed
          × IsFirstUneven s f placed t
          × IsFullest s f placed t full
          × (placed_active placed full t ≡ false)
          → (replan.proposal ≡ none 1) × (replan.rounds ≡ rounds)
      back (n, cap, placed, t, full, less, times, after, round, u, i, a) =
          let is : replan ≡ replanned (none 1) (n + 1)
          = stops s v f there allowance n cap (none 1) less after
          (inactive_ends s v f there cap (caps_of s v f there n cap after) (placed, t, full, round, u, i, a)) in
          (ap (λ (r : Replanned). r.proposal) is, ap (λ (r : Replanned). r.rounds) is ∙ sym times)

  allowance_spent :
      (rounds : ℕ) → HasCauseAfter m 2 rounds ↔ ((cap : Caps) × (rounds ≡ allowance) × AreCapsAfter s f allowance cap)
  allowance_spent rounds = (
    (λ e. let c = (own 2 rounds (omega arith) (omega arith)).0 e in forth c.0 c.1 end),
    (λ q. (own 2 rounds (omega arith) (omega arith)).1 (back q.0 q.1 q.2)),
  )
    where
      forth :
          replan.proposal ≡ none 2
          → replan.rounds ≡ rounds
          → Ends s v f there allowance replan
          → (cap : Caps) × (rounds ≡ allowance) × AreCapsAfter s f allowance cap
      forth g made (inl (us, n, cap, less, after, q, is)) =
          absurd (none_apart 2 us (sym (differ (starts us) (none 2) replan (n + 1) is g)))
      forth g made (inr (inl (n, cap, less, after, q, is))) =
          let e : none 1 ≡ none 2 = differ (none 1) (none 2) replan (n + 1) is g in
          let z : ◌≡◌ {A = ℕ} 1 2 = cc in
          absurd (omega arith)
      forth g made (inr (inr (cap, after, is))) = (cap, sym made ∙ ap (λ (x : Replanned). x.rounds) is, after)

      back :
          (cap : Caps)
          → rounds ≡ allowance
          → AreCapsAfter s f allowance cap
          → (replan.proposal ≡ none 2) × (replan.rounds ≡ rounds)
      back cap times after =
          let is : replan ≡ replanned (none 2) allowance = spent s v f there allowance cap after some in
          (ap (λ (r : Replanned). r.proposal) is, ap (λ (r : Replanned). r.rounds) is ∙ sym times)

pub starts_of_an_even_round : StartsOfAnEvenRound
starts_of_an_even_round s m v meets f allowance named free ss rounds = even_round s m v meets f allowance named free ss rounds

pub cause_one_is_none_active : CauseOneIsNoneActive
cause_one_is_none_active s m v meets f allowance named free rounds = none_active s m v meets f allowance named free rounds

pub cause_two_is_allowance_spent : CauseTwoIsAllowanceSpent
cause_two_is_allowance_spent s m v meets f allowance named free rounds =
    allowance_spent s m v meets f allowance named free rounds
