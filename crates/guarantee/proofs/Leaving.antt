-- When an order can be withdrawn, in the words of demand 2.
use mathlib.Core.Path.{◌≡◌, refl, ap, ◌∙◌}
use Prim.Native.Nat.{ℕ, zero, suc}
use mathlib.Core.Bool.{not}
use mathlib.Core.List.{List, []}
use native.Mathlib.Omega.{arith}
use lib.ListN.{length}
use Rattle.rules.specs.Basics.{Each, first_of}
use Rattle.rules.specs.Load.{IsLine}
use Rattle.rules.specs.Charge.{Charge, loads_of, has_ticket, without_ticket}
use Rattle.rules.specs.Site.{Feeder, State, charges_on, site_charges, holding}
use Rattle.rules.specs.Calls.{refused, withdrawn, Result, answering, withdraw, refusals, feeder_with, withdrawing, step}
use Rattle.rules.specs.Valid.{IsFeeder, ValidState}
use Rattle.rules.proofs.Lists.{keep_each}
use Rattle.rules.proofs.Tables.{none_first_of}
use Rattle.rules.proofs.Granted.{refusals_none, WithdrawGranted, withdraw_granted}
use Rattle.rules.proofs.Withdrawing.{held_waits, waits_held, distinct_not_begun, place_free}
use Rattle.rules.proofs.Sites.{put_same, feeder_with_lem, lines_own}
use Rattle.rules.proofs.Distinct.{site_distinct}
use Rattle.guarantee.specs.DemandTwo.{SoundPlan, Waits, Withdrawal}
use Rattle.guarantee.proofs.Orders.{plan_sound_lem, sound_plan, own_lines}

module _ (s : State) (ticket : ℕ) (v : ValidState s) where
  abbrev f : ℕ
  f = feeder_with ticket 1 s.feeders

  abbrev left : List Charge
  left = without_ticket ticket (charges_on s f)

  -- the feeder that holds a ticket which waits
  waits_on : Waits s ticket → IsFeeder s f
  waits_on w = (feeder_with_lem s ticket (waits_held s.clock ticket (site_charges s) w)).0

  left_lines : Waits s ticket → Each (λ x. IsLine x.line) (loads_of left)
  left_lines w =
      lines_own left
      (keep_each (λ c. IsLine c.line) (λ c. not (has_ticket ticket c)) (charges_on s f) (own_lines s v f (waits_on w)))

  -- `place_free` follows from `removed` and `others_same`, of every result, right or wrong
  pub place_follows :
      (r : Result)
      → (r.answer ≡ withdrawn → Waits s ticket)
      → (r.answer ≡ withdrawn → r.state ≡ holding s f left s.next)
      → r.answer ≡ withdrawn
      → suc (length (charges_on r.state f)) ≡ length (charges_on s f)
  place_follows r waits others a =
      let held = feeder_with_lem s ticket (waits_held s.clock ticket (site_charges s) (waits a)) in
      ap (λ (x : State). suc (length (charges_on x f))) (others a)
      ∙ ap (λ (g : Feeder). suc (length g.charges)) (put_same s f held.0 s.next left)
      ∙ place_free ticket 1 (charges_on s f) (v.plan f held.0).rising held.1

  pub withdrawal : Withdrawal s f ticket (step s (withdraw ticket))
  unfolding withdrawing
  withdrawal = go (first_of (refusals s (withdraw ticket))) refl
    where
      free : Waits s ticket × SoundPlan s f (loads_of left) → first_of (refusals s (withdraw ticket)) ≡ 0
      free p =
          none_first_of (refusals s (withdraw ticket)) (
            rw (waits_held s.clock ticket (site_charges s) p.0),
            (
              distinct_not_begun s.clock ticket (site_charges s) (site_distinct s v) p.0,
              (rw (sound_plan s f (loads_of left) (left_lines p.0) p.1), tt),
            ),
          )

      go :
          (i : ℕ)
          → first_of (refusals s (withdraw ticket)) ≡ i
          → Withdrawal s f ticket (answering i s [] (withdrawing s ticket))
      go zero e =
          let g : WithdrawGranted s ticket = withdraw_granted s ticket (refusals_none s (withdraw ticket) e) in
          let waits : Waits s ticket = held_waits s.clock ticket (site_charges s) g.held g.not_begun in
          record {
            removed = ((λ a. (waits, plan_sound_lem s f (loads_of left) (left_lines waits) g.rest_sound_lem)), (λ p. refl));
            others_same = λ a. refl;
            place_free = place_follows (withdrawing s ticket) (λ a. waits) (λ a. refl);
            unchanged = λ n. absurd (n refl);
          }
      go (suc i) e =
          record {
            removed = ((λ a. absurd (apart a)), (λ p. absurd (other (free p))));
            others_same = λ a. absurd (apart a);
            place_free = λ a. absurd (apart a);
            unchanged = λ n. refl;
          }
        where
          apart : refused (suc i) ≡ withdrawn → ⊥
          apart a = let z : ◌≡◌ {A = ℕ} 0 1 = cc in omega arith

          other : first_of (refusals s (withdraw ticket)) ≡ 0 → ⊥
          other z = omega arith
