-- A ticket stands once in the history: what an enquiry says of it.
use mathlib.Core.Path.{◌≡◌, refl, sym, ◌∙◌}
use Prim.Native.Nat.{ℕ, ◌≤◌, ◌<◌}
use mathlib.Core.Bool.{Bool, true, false, cond, not}
use mathlib.Core.List.{List, [], ◌∷◌}
use native.Mathlib.Omega.{arith}
use lib.Dec.{eqb}
use borrow.Author.Tests.{eqb-true, lt-ltb, le-ltb, le-leb, lt-leb, eq-eqb, ne_eqb}
use Rattle.rules.specs.Basics.{Each, some}
use Rattle.rules.specs.Charge.{Charge, end_of, active_until, is_begun, is_finished, unfinished_charges, has_ticket}
use Rattle.rules.specs.Site.{State, site_charges}
use Rattle.rules.specs.Calls.{told, Answer, refused, waiting, charging, enquire, enquiring, step}
use Rattle.rules.proofs.Ranges.{or_left, or_right}
use Rattle.rules.proofs.Sorting.{Inserted, here, later, Rearranged, none, more, each_rearranged}
use Rattle.rules.proofs.Queues.{Distinct}
use Rattle.guarantee.proofs.Each.{each_two}
use Rattle.guarantee.proofs.History.{Lasts}

pub told_not_held :
    (k t : ℕ) (cs : List Charge) → some (has_ticket t) cs ≡ false → told k cs t ≡ refused 15
told_not_held k t [] e = refl
told_not_held k t (c ∷ cs) e =
    rw (or_left (eqb c.ticket t) (some (has_ticket t) cs) e)
    (told_not_held k t cs (or_right (eqb c.ticket t) (some (has_ticket t) cs) e))

pub enquiry_told : (s : State) (t : ℕ) → (step s (enquire t)).answer ≡ told s.clock (site_charges s) t
unfolding enquiring
enquiry_told s t = go (some (has_ticket t) (site_charges s)) refl
  where
    go :
        (b : Bool)
        → some (has_ticket t) (site_charges s) ≡ b
        → (step s (enquire t)).answer ≡ told s.clock (site_charges s) t
    go true e = rw e
    go false e = rw (e, told_not_held s.clock t (site_charges s) e)

told_other :
    (k t : ℕ) (c : Charge) (cs : List Charge)
    → (c.ticket ≡ t → ⊥)
    → told k (unfinished_charges k (c ∷ cs)) t ≡ told k (unfinished_charges k cs) t
told_other k t c cs h = go (is_finished k c)
  where
    go :
        (b : Bool)
        → told k (cond (not b) (c ∷ unfinished_charges k cs) (unfinished_charges k cs)) t
        ≡ told k (unfinished_charges k cs) t
    go true = refl
    go false = rw (ne_eqb c.ticket t h)

told_none : (k t : ℕ) (cs : List Charge) → Each (λ c. t ≡ c.ticket → ⊥) cs → told k (unfinished_charges k cs) t ≡ refused 15
told_none k t [] e = refl
told_none k t (c ∷ cs) e = told_other k t c cs (λ q. e.0 (sym q)) ∙ told_none k t cs e.1

-- what the held charges tell of a charge of the history
pub record Told (k : ℕ) (held : List Charge) (c : Charge) : Type 0 where
  pub waits : k ≤ c.start → told k held c.ticket ≡ waiting c.start c.rate
  pub charges : c.start < k → k < active_until c → told k held c.ticket ≡ charging c.start (end_of c) c.rate
  pub finished : active_until c ≤ k → told k held c.ticket ≡ refused 15

pub told_each : (k : ℕ) (cs : List Charge) → Distinct cs → Each Lasts cs → Each (Told k (unfinished_charges k cs)) cs
told_each k [] o f = tt
told_each k (c ∷ cs) o f = (
  record {
    waits =
        λ h.
        rw (lt-leb (active_until c) k (omega (arith, f.0)), eq-eqb c.ticket c.ticket refl, le-ltb c.start k h);
    charges = λ h j. rw (lt-leb (active_until c) k j, eq-eqb c.ticket c.ticket refl, lt-ltb c.start k h);
    finished = λ h. rw (le-leb (active_until c) k h) (told_none k c.ticket cs o.0);
  },
  each_two
      (λ d. c.ticket ≡ d.ticket → ⊥)
      (Told k (unfinished_charges k cs))
      (Told k (unfinished_charges k (c ∷ cs)))
      (λ d h a.
      let e : told k (unfinished_charges k (c ∷ cs)) d.ticket ≡ told k (unfinished_charges k cs) d.ticket
      = told_other k d.ticket c cs h in
      record {
        waits = λ j. e ∙ a.waits j;
        charges = λ j l. e ∙ a.charges j l;
        finished = λ j. e ∙ a.finished j;
      })
      cs
      o.0
      (told_each k cs o.1 f.1),
)

-- The order in which the charges stand does not matter

-- what is told of one charge
abbrev tells : ℕ → Charge → Answer
tells k c = cond (is_begun k c) (charging c.start (end_of c) c.rate) (waiting c.start c.rate)

told_inserted :
    (k t : ℕ) {c : Charge} {l m : List Charge}
    → Inserted c l m
    → Each (λ d. c.ticket ≡ d.ticket → ⊥) l
    → told k m t ≡ cond (eqb c.ticket t) (tells k c) (told k l t)
told_inserted k t here e = refl
told_inserted k t {c = c} (later {b = b} {l = l} {m = m} i) e =
    go (eqb b.ticket t) refl (eqb c.ticket t) refl (told_inserted k t i e.1)
  where
    go :
        (x : Bool)
        → eqb b.ticket t ≡ x
        → (y : Bool)
        → eqb c.ticket t ≡ y
        → told k m t ≡ cond (eqb c.ticket t) (tells k c) (told k l t)
        → cond x (tells k b) (told k m t) ≡ cond y (tells k c) (cond x (tells k b) (told k l t))
    go true p true q ih = absurd (e.0 (eqb-true c.ticket t q ∙ sym (eqb-true b.ticket t p)))
    go true p false q ih = refl
    go false p true q ih = ih ∙ rw q
    go false p false q ih = ih ∙ rw q

pub told_rearranged : (k t : ℕ) {l m : List Charge} → Rearranged l m → Distinct l → told k m t ≡ told k l t
told_rearranged k t none r = refl
told_rearranged k t (more {a = a} {l = l} {m = m} q j) r =
    told_inserted k t j (each_rearranged (λ d. a.ticket ≡ d.ticket → ⊥) q r.0) ∙ rw (told_rearranged k t q r.1)
