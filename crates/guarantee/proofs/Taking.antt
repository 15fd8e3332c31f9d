-- When a plan is taken: the constraints of demand 2 and the cause, and that `taken` follows from what is answered.
use mathlib.Core.Logic.{◌↔◌}
use mathlib.Core.Path.{◌≡◌, refl, sym, ap, subst, ◌∙◌}
use Prim.Native.Nat.{ℕ, zero, suc, max, ◌≤◌}
use mathlib.Core.List.{List, [], ◌∷◌}
use native.Mathlib.Omega.{arith}
use lib.Dec.{ltb, leb}
use borrow.Author.Tests.{leb-true, ltb-true, le-leb, lt-ltb}
use Rattle.rules.specs.Basics.{Each, first_of}
use Rattle.rules.specs.Load.{last_until, IsLine}
use Rattle.rules.specs.Charge.{Charge, active_until, loads_of, seen, lateness}
use Rattle.rules.specs.Replan.{Proposal, starts, none}
use Rattle.rules.specs.Judgement.{restarted}
use Rattle.rules.specs.Site.{State, charges_on, others_of, limits_of}
use Rattle.rules.specs.Calls.{Answer, refused, planned, Result, Call, refusals}
use Rattle.rules.specs.Valid.{IsFeeder, ValidState}
use Rattle.rules.proofs.Ranges.{and_left, and_right, and_both}
use Rattle.rules.proofs.Counts.{sound_from_lem, sound_true}
use Rattle.rules.proofs.Granted.{refusals_none}
use Rattle.rules.proofs.Judgements.{Meets, judged_meets, meets_judged}
use Rattle.rules.proofs.Restarts.{restarted_is, restarted_each, each_restarted}
use Rattle.rules.proofs.Sites.{last_seen, until_append, lines_own}
use Rattle.rules.proofs.Holding.{last_site}
use Rattle.guarantee.specs.DemandOne.{FirstIs, NoneApplies}
use Rattle.guarantee.specs.DemandTwo.{Unbroken, Better, Taken, cause_of}
use Rattle.guarantee.specs.Follows.{ChargesAreUnbroken, BetterStarts, TakingFollows}
use Rattle.guarantee.proofs.Each.{each_in}
use Rattle.guarantee.proofs.Tables.{first_of_is}
use Rattle.guarantee.proofs.Orders.{plan_sound_lem, sound_plan, own_lines}

-- Constraint II

unbroken : (c : Charge) → Unbroken c
unbroken c t = (
  (λ e. (
    leb-true c.start t (and_left (leb c.start t) (ltb t (active_until c)) e),
    ltb-true t (active_until c) (and_right (leb c.start t) (ltb t (active_until c)) e),
  )),
  (λ p. and_both (leb c.start t) (ltb t (active_until c)) (le-leb c.start t p.0) (lt-ltb t (active_until c) p.1)),
)

pub each_unbroken : ChargesAreUnbroken
each_unbroken [] = tt
each_unbroken (c ∷ cs) = (unbroken c, each_unbroken cs)

-- A plan

module _ (s : State) (valid : ValidState s) (f : ℕ) (h : IsFeeder s f) (ss : List ℕ) where
  abbrev now : List Charge
  now = charges_on s f

  abbrev new : List Charge
  new = restarted s.clock (charges_on s f) ss

  -- constraint I follows from "it starts nothing before the clock"
  pub none_before_order : Each (λ u. s.clock ≤ u) ss → Each (λ c. c.order_minute ≤ c.start) new
  none_before_order early =
      each_in (λ c p. p.1) new
      (restarted_each (λ c. (c.order_minute ≤ s.clock) × (c.order_minute ≤ c.start))
      (λ c u i p. (p.0, omega (arith, p.0)))
      (restarted_is s.clock now ss early)
      (each_in (λ c w. (w.ordered, w.not_early)) now (valid.plan f h).each))

  new_lines : Each (λ x. IsLine x.line) (loads_of new)
  new_lines =
      lines_own new (each_restarted (λ c. IsLine c.line) (λ c u p. p) s.clock now ss (own_lines s valid f h))

  -- up to when the site draws then
  new_last : last_until (seen (limits_of s f) new) ≡ max (last_until (loads_of (others_of s f))) (last_until (loads_of new))
  new_last = last_seen (others_of s f) new ∙ until_append (others_of s f) new

  meets_better : Meets (limits_of s f) s.clock now ss new → Better s f ss new
  meets_better m =
      record {
        not_before_clock = m.none_early;
        not_before_order = none_before_order m.none_early;
        unbroken = each_unbroken new;
        sound =
            plan_sound_lem s f (loads_of new) new_lines
            (sound_true (limits_of s f) s.clock (seen (limits_of s f) new)
            (λ t i. record { limit = m.limit t i; site = m.site t i; balance = m.balance t i }));
        no_later = omega (arith, m.not_later, new_last, last_site s f h);
        less_late = omega (arith, m.less_late);
      }

  better_meets : Better s f ss new → Meets (limits_of s f) s.clock now ss new
  better_meets b =
      let here = sound_from_lem (limits_of s f) s.clock (seen (limits_of s f) new) (sound_plan s f (loads_of new) new_lines b.sound) in
      record {
        none_early = b.not_before_clock;
        not_later = omega (arith, b.no_later, new_last, last_site s f h);
        limit = λ t i. (here t i).limit;
        site = λ t i. (here t i).site;
        balance = λ t i. (here t i).balance;
        less_late = omega (arith, b.less_late);
      }

-- The test of a plan

pub not_taken : (j b a n : ℕ) → Taken (planned (suc j) b a n) → ⊥
not_taken j b a n (x, y, z, e) = let q : suc j ≡ 0 = cc in omega arith

pub refused_not_taken : (k : ℕ) → Taken (refused k) → ⊥
refused_not_taken k (x, y, z, e) = let q : ◌≡◌ {A = ℕ} 0 1 = cc in omega arith

pub same_starts : (ss us : List ℕ) → starts ss ≡ starts us → ss ≡ us
same_starts ss us e = cc

pub none_apart : (cause : ℕ) (us : List ℕ) → none cause ≡ starts us → ⊥
none_apart cause us e = let q : ◌≡◌ {A = ℕ} 0 1 = cc in omega arith

-- the cause is 0 exactly for one, since no proposal comes without starts and without a cause
cause_better :
    (s : State)
    → ValidState s
    → (f : ℕ)
    → IsFeeder s f
    → (p : Proposal)
    → (p ≡ none 0 → ⊥)
    → (cause_of s f p ≡ 0) ↔ BetterStarts s f p
cause_better s v f h (starts ss) some = (
  (λ e. (ss, refl, meets_better s v f h ss (judged_meets (limits_of s f) s.clock (charges_on s f) ss e))),
  (λ b.
      meets_judged (limits_of s f) s.clock (charges_on s f) ss
      (better_meets s v f h ss
      (subst (λ (us : List ℕ). Better s f us (restarted s.clock (charges_on s f) us)) (sym (same_starts ss b.0 b.1)) b.2))),
)
cause_better s v f h (none cause) some = (
  (λ e. absurd (some (ap none e))),
  (λ b. absurd (none_apart cause b.0 b.1)),
)

-- `taken` follows from demand 1 and `answer`, of every result, right or wrong
module _
    (s : State) (valid : ValidState s) (f : ℕ) (call : Call) (named : NoneApplies (refusals s call) → IsFeeder s f)
    (p : Proposal) (some : p ≡ none 0 → ⊥) (rounds : ℕ) (r : Result)
    (number : (k : ℕ) → (r.answer ≡ refused k) ↔ FirstIs (refusals s call) k)
    (answer :
    NoneApplies (refusals s call)
    → r.answer ≡ planned (cause_of s f p) (lateness (charges_on s f)) (lateness (charges_on r.state f)) rounds)
  where
    taken_better : Taken r.answer → NoneApplies (refusals s call) × BetterStarts s f p
    taken_better t = go (first_of (refusals s call)) refl
      where
        cause : NoneApplies (refusals s call) → Taken r.answer → cause_of s f p ≡ 0
        cause free (b, a, n, e) = let q = answer free in cc

        go : (i : ℕ) → first_of (refusals s call) ≡ i → NoneApplies (refusals s call) × BetterStarts s f p
        go zero e =
            let free : NoneApplies (refusals s call) = refusals_none s call e in
            (free, (cause_better s valid f (named free) p some).0 (cause free t))
        go (suc i) e =
            absurd (refused_not_taken (suc i)
            (subst (λ (a : Answer). Taken a) ((number (suc i)).1 (first_of_is i (refusals s call) e)) t))

    taken_exactly : Taken r.answer ↔ (NoneApplies (refusals s call) × BetterStarts s f p)
    taken_exactly = (
      taken_better,
      (λ b. (
        _,
        _,
        _,
        answer b.0
            ∙ ap (λ (c : ℕ). planned c (lateness (charges_on s f)) (lateness (charges_on r.state f)) rounds)
            ((cause_better s valid f (named b.0) p some).1 b.1),
      )),
    )

pub taken_follows : TakingFollows
taken_follows s valid f call named p some rounds r number answer =
    taken_exactly s valid f call named p some rounds r number answer
