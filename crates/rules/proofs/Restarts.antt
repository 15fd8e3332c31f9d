-- Charges with other starts, and that a taken plan leaves a valid site.
use mathlib.Core.Path.{◌≡◌, refl, sym}
use Prim.Native.Nat.{ℕ, suc, ◌≤◌}
use mathlib.Core.Bool.{Bool, true, false, cond}
use mathlib.Core.List.{List, [], ◌∷◌}
use native.Mathlib.Omega.{arith}
use lib.ListN.{length}
use borrow.Author.Tests.{ltb-false}
use Rattle.rules.specs.Basics.{Each}
use Rattle.rules.specs.Charge.{Charge, starting, seen, is_begun}
use Rattle.rules.specs.Judgement.{restarted}
use Rattle.rules.specs.Site.{Feeder, State, feeder_of, charges_on, limits_of, with_charges, holding}
use Rattle.rules.specs.Valid.{ValidCharge, Rising, IsFeeder, ValidState}
use Rattle.rules.proofs.Lists.{each_map}
use Rattle.rules.proofs.Counts.{sound_true}
use Rattle.rules.proofs.Judgements.{Meets}
use Rattle.rules.proofs.Holding.{charge_held, last_site, holding_valid}

-- the second list is the first with other starts, at or above the clock, for some waiting charges
pub data Restarted (clock : ℕ) : List Charge → List Charge → Type 0 where
  empty : Restarted clock [] []
  same : {c : Charge} {cs ds : List Charge} → Restarted clock cs ds → Restarted clock (c ∷ cs) (c ∷ ds)
  other :
      {c : Charge} {s : ℕ} {cs ds : List Charge}
      → clock ≤ c.start
      → clock ≤ s
      → Restarted clock cs ds
      → Restarted clock (c ∷ cs) (starting c s ∷ ds)

pub restarted_none : (clock : ℕ) (cs : List Charge) → Restarted clock cs cs
restarted_none clock [] = empty
restarted_none clock (c ∷ cs) = same (restarted_none clock cs)

pub restarted_is :
    (clock : ℕ) (cs : List Charge) (ss : List ℕ)
    → Each (λ s. clock ≤ s) ss
    → Restarted clock cs (restarted clock cs ss)
restarted_is clock [] ss e = empty
restarted_is clock (c ∷ cs) [] e = restarted_none clock (c ∷ cs)
restarted_is clock (c ∷ cs) (s ∷ ss) e =
    go (is_begun clock c) refl (restarted_is clock cs (s ∷ ss) e) (restarted_is clock cs ss e.1)
  where
    go :
        (b : Bool)
        → is_begun clock c ≡ b
        → Restarted clock cs (restarted clock cs (s ∷ ss))
        → Restarted clock cs (restarted clock cs ss)
        → Restarted clock (c ∷ cs) (cond b (c ∷ restarted clock cs (s ∷ ss)) (starting c s ∷ restarted clock cs ss))
    go true p u v = same u
    go false p u v = other (ltb-false c.start clock p) e.0 v

pub restarted_length : {clock : ℕ} {cs ds : List Charge} → Restarted clock cs ds → length ds ≡ length cs
restarted_length empty = refl
restarted_length (same r) = rw (restarted_length r)
restarted_length (other h j r) = rw (restarted_length r)

pub restarted_each :
    (P : Charge → Type 0) {clock : ℕ} {cs ds : List Charge}
    → ((c : Charge) (s : ℕ) → clock ≤ s → P c → P (starting c s))
    → Restarted clock cs ds
    → Each P cs
    → Each P ds
restarted_each P f empty e = tt
restarted_each P f (same r) e = (e.0, restarted_each P f r e.1)
restarted_each P f (other {c = c} {s = s} h j r) e = (f c s j e.0, restarted_each P f r e.1)

-- of the definition itself, whatever the starts
pub each_restarted :
    (P : Charge → Type 0)
    → ((x : Charge) (s : ℕ) → P x → P (starting x s))
    → (clock : ℕ) (xs : List Charge) (ss : List ℕ)
    → Each P xs
    → Each P (restarted clock xs ss)
each_restarted P f clock [] ss e = tt
each_restarted P f clock (x ∷ xs) [] e = e
each_restarted P f clock (x ∷ xs) (s ∷ ss) e =
    go (is_begun clock x) (each_restarted P f clock xs (s ∷ ss) e.1) (each_restarted P f clock xs ss e.1)
  where
    go :
        (b : Bool)
        → Each P (restarted clock xs (s ∷ ss))
        → Each P (restarted clock xs ss)
        → Each P (cond b (x ∷ restarted clock xs (s ∷ ss)) (starting x s ∷ restarted clock xs ss))
    go true u v = (e.0, u)
    go false u v = (f x s e.0, v)

pub restarted_rising : {clock : ℕ} (i : ℕ) {cs ds : List Charge} → Restarted clock cs ds → Rising i cs → Rising i ds
restarted_rising i empty n = tt
restarted_rising i (same {c = c} r) n = (n.0, restarted_rising (suc c.ticket) r n.1)
restarted_rising i (other {c = c} h j r) n = (n.0, restarted_rising (suc c.ticket) r n.1)

-- A taken plan

pub plan_valid :
    (s : State) (f : ℕ) (ss : List ℕ)
    → ValidState s
    → IsFeeder s f
    → Meets (limits_of s f) s.clock (charges_on s f) ss (restarted s.clock (charges_on s f) ss)
    → ValidState (holding s f (restarted s.clock (charges_on s f) ss) s.next)
plan_valid s f ss v h m =
    let own : Feeder = feeder_of s f in
    let new : List Charge = restarted s.clock (charges_on s f) ss in
    let r : Restarted s.clock (charges_on s f) (restarted s.clock (charges_on s f) ss)
    = restarted_is s.clock (charges_on s f) ss m.none_early in
    holding_valid s v f h s.next new (omega arith) v.next_high
    (record {
      few = rw (restarted_length r) (v.plan f h).few;
      each =
          each_map (ValidCharge own s.site s.clock s.next) (ValidCharge (with_charges own new) s.site s.clock s.next)
          (λ c p. charge_held own new s.site s.clock s.next c p)
          new
          (restarted_each (ValidCharge own s.site s.clock s.next)
          (λ c u j p.
          record {
            ticket_low = p.ticket_low;
            ticket_given = p.ticket_given;
            line = p.line;
            time_low = p.time_low;
            time_high = p.time_high;
            active = p.active;
            due_high = p.due_high;
            ordered = p.ordered;
            not_early = omega (arith, p.ordered);
            unfinished = omega (arith, p.time_low, p.active);
            rate = p.rate;
            within_limit = p.within_limit;
            within_bound = p.within_bound;
            within_site_lem = p.within_site_lem;
          })
          r (v.plan f h).each);
      rising = restarted_rising 1 r (v.plan f h).rising;
    })
    (λ k j n.
    restarted_each (λ c. Each (λ x. c.ticket ≡ x.ticket → ⊥) (charges_on s k)) (λ c u i p. p) r
    (v.apart f k h j (λ q. n (sym q))))
    (sound_true (limits_of s f) s.clock (seen (limits_of s f) new)
    (λ t j. record { limit = m.limit t j; site = m.site t j; balance = m.balance t j }))
    (omega (arith, m.not_later, v.ends_high, last_site s f h))
