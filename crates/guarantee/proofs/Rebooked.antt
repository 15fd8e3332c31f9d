-- New starts for the waiting charges of one feeder of the history.
use mathlib.Core.Path.{◌≡◌, refl, sym, ◌∙◌}
use Prim.Native.Nat.{ℕ, ◌+◌, ◌≤◌}
use mathlib.Core.Bool.{Bool, true, false, cond}
use mathlib.Core.List.{List, [], ◌∷◌}
use native.Mathlib.Omega.{arith}
use borrow.Author.Tests.{ltb-false, leb-true, le-ltb, lt-leb, eqb-true, ne_eqb}
use Rattle.rules.specs.Basics.{Each, keep}
use Rattle.rules.specs.Charge.{Charge, starting, active_until, is_begun, is_finished, unfinished_charges}
use Rattle.rules.specs.Judgement.{restarted}
use Rattle.guarantee.proofs.History.{Booked, booked, orders_in, is_on, booked_on, begun_in, charges_in, Lasts}

restarted_nothing : (k : ℕ) (cs : List Charge) → restarted k cs [] ≡ cs
restarted_nothing k [] = refl
restarted_nothing k (c ∷ cs) = refl

-- new starts for the held charges are new starts for the history
pub restarted_unfinished :
    (k : ℕ) (cs : List Charge) (ss : List ℕ)
    → Each Lasts cs
    → Each (λ s. k ≤ s) ss
    → restarted k (unfinished_charges k cs) ss ≡ unfinished_charges k (restarted k cs ss)
restarted_unfinished k [] ss f e = refl
restarted_unfinished k (c ∷ cs) [] f e = restarted_nothing k (unfinished_charges k (c ∷ cs))
restarted_unfinished k (c ∷ cs) (s ∷ ss) f e =
    go (is_finished k c) (is_begun k c) refl refl
    (restarted_unfinished k cs (s ∷ ss) f.1 e)
    (restarted_unfinished k cs ss f.1 e.1)
  where
    go :
        (b d : Bool)
        → is_finished k c ≡ b
        → is_begun k c ≡ d
        → restarted k (unfinished_charges k cs) (s ∷ ss) ≡ unfinished_charges k (restarted k cs (s ∷ ss))
        → restarted k (unfinished_charges k cs) ss ≡ unfinished_charges k (restarted k cs ss)
        → restarted k (unfinished_charges k (c ∷ cs)) (s ∷ ss) ≡ unfinished_charges k (restarted k (c ∷ cs) (s ∷ ss))
    go true true p q u v = rw (p, q, p, u)
    go true false p q u v =
        absurd (omega (arith, leb-true (active_until c) k p, ltb-false c.start k q, f.0))
    go false true p q u v = rw (p, q, p, u)
    go false false p q u v = rw (p, q, lt-leb (s + c.active_time) k (omega (arith, f.0, e.0)), v)

-- new starts for the waiting charges of feeder f
abbrev pub rebooked : ℕ → ℕ → List Booked → List ℕ → List Booked
rebooked f k [] ss = []
rebooked f k (b ∷ bs) [] = b ∷ bs
rebooked f k (b ∷ bs) (s ∷ ss) =
    cond (is_on f b)
    (cond (is_begun k b.charge) (b ∷ rebooked f k bs (s ∷ ss)) (booked b.feeder (starting b.charge s) ∷ rebooked f k bs ss))
    (b ∷ rebooked f k bs (s ∷ ss))

module _ (f k : ℕ) where
  -- the three cases of one charge
  rebooked_cases :
      (P : List Booked → Type 0) (b : Booked) (bs : List Booked) (s : ℕ) (ss : List ℕ)
      → (is_on f b ≡ true → is_begun k b.charge ≡ true → P (b ∷ rebooked f k bs (s ∷ ss)))
      → (is_on f b ≡ true
      → is_begun k b.charge ≡ false
      → P (booked b.feeder (starting b.charge s) ∷ rebooked f k bs ss))
      → (is_on f b ≡ false → P (b ∷ rebooked f k bs (s ∷ ss)))
      → P (rebooked f k (b ∷ bs) (s ∷ ss))
  rebooked_cases P b bs s ss x y z = go (is_on f b) refl (is_begun k b.charge) refl
    where
      go :
          (u : Bool)
          → is_on f b ≡ u
          → (v : Bool)
          → is_begun k b.charge ≡ v
          → P (cond u
          (cond v (b ∷ rebooked f k bs (s ∷ ss)) (booked b.feeder (starting b.charge s) ∷ rebooked f k bs ss))
          (b ∷ rebooked f k bs (s ∷ ss)))
      go true p true q = x p q
      go true p false q = y p q
      go false p v q = z p

  pub rebooked_orders : (bs : List Booked) (ss : List ℕ) → orders_in (rebooked f k bs ss) ≡ orders_in bs
  rebooked_orders [] ss = refl
  rebooked_orders (b ∷ bs) [] = refl
  rebooked_orders (b ∷ bs) (s ∷ ss) =
      rebooked_cases (λ x. orders_in x ≡ orders_in (b ∷ bs)) b bs s ss
      (λ p q. rw (rebooked_orders bs (s ∷ ss)))
      (λ p q. rw (rebooked_orders bs ss))
      (λ p. rw (rebooked_orders bs (s ∷ ss)))

  pub rebooked_each :
      (P : Booked → Type 0)
      → ((b : Booked) (s : ℕ) → k ≤ s → P b → P (booked b.feeder (starting b.charge s)))
      → (bs : List Booked) (ss : List ℕ)
      → Each (λ s. k ≤ s) ss
      → Each P bs
      → Each P (rebooked f k bs ss)
  rebooked_each P g [] ss h e = tt
  rebooked_each P g (b ∷ bs) [] h e = e
  rebooked_each P g (b ∷ bs) (s ∷ ss) h e =
      rebooked_cases (λ x. Each P x) b bs s ss
      (λ p q. (e.0, rebooked_each P g bs (s ∷ ss) h e.1))
      (λ p q. (g b s h.0 e.0, rebooked_each P g bs ss h.1 e.1))
      (λ p. (e.0, rebooked_each P g bs (s ∷ ss) h e.1))

  -- what has begun stays
  pub rebooked_begun : (bs : List Booked) (ss : List ℕ) → Each (λ s. k ≤ s) ss → begun_in k (rebooked f k bs ss) ≡ begun_in k bs
  rebooked_begun [] ss h = refl
  rebooked_begun (b ∷ bs) [] h = refl
  rebooked_begun (b ∷ bs) (s ∷ ss) h =
      rebooked_cases (λ x. begun_in k x ≡ begun_in k (b ∷ bs)) b bs s ss
      (λ p q. rw (rebooked_begun bs (s ∷ ss) h))
      (λ p q. rw (q, le-ltb s k h.0, rebooked_begun bs ss h.1))
      (λ p. rw (rebooked_begun bs (s ∷ ss) h))

  -- the feeder's charges get them
  pub rebooked_own :
      (bs : List Booked) (ss : List ℕ) → booked_on f (rebooked f k bs ss) ≡ restarted k (booked_on f bs) ss
  rebooked_own [] ss = refl
  rebooked_own (b ∷ bs) [] = sym (restarted_nothing k (booked_on f (b ∷ bs)))
  rebooked_own (b ∷ bs) (s ∷ ss) =
      rebooked_cases (λ x. booked_on f x ≡ restarted k (booked_on f (b ∷ bs)) (s ∷ ss)) b bs s ss
      (λ p q. rw (p, q, rebooked_own bs (s ∷ ss)))
      (λ p q. rw (p, q, rebooked_own bs ss))
      (λ p. rw (p, rebooked_own bs (s ∷ ss)))

  -- and those of no other
  pub rebooked_others :
      (g : ℕ) → (g ≡ f → ⊥) → (bs : List Booked) (ss : List ℕ) → booked_on g (rebooked f k bs ss) ≡ booked_on g bs
  rebooked_others g d [] ss = refl
  rebooked_others g d (b ∷ bs) [] = refl
  rebooked_others g d (b ∷ bs) (s ∷ ss) =
      rebooked_cases (λ x. booked_on g x ≡ booked_on g (b ∷ bs)) b bs s ss
      (λ p q. rw (apart p, rebooked_others g d bs (s ∷ ss)))
      (λ p q. rw (apart p, rebooked_others g d bs ss))
      (λ p. kept (is_on g b) (rebooked_others g d bs (s ∷ ss)))
    where
      apart : is_on f b ≡ true → is_on g b ≡ false
      apart p = ne_eqb b.feeder g (λ e. d (sym e ∙ eqb-true b.feeder f p))

      kept :
          (x : Bool)
          → booked_on g (rebooked f k bs (s ∷ ss)) ≡ booked_on g bs
          → charges_in (cond x (b ∷ keep (is_on g) (rebooked f k bs (s ∷ ss))) (keep (is_on g) (rebooked f k bs (s ∷ ss))))
          ≡ charges_in (cond x (b ∷ keep (is_on g) bs) (keep (is_on g) bs))
      kept true e = rw e
      kept false e = e
