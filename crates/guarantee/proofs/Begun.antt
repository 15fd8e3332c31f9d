-- Begun charges of the history: minutes gone are theirs; and those not finished.
use mathlib.Core.Path.{◌≡◌, refl, sym, ap, ◌∙◌}
use Prim.Native.Nat.{ℕ, ◌≤◌, ◌<◌}
use mathlib.Core.Bool.{Bool, true, false, cond, not}
use mathlib.Core.List.{List, [], ◌∷◌}
use native.Mathlib.Omega.{arith}
use borrow.Author.Tests.{ltb-false, leb-true, leb-false, lt-leb}
use Rattle.rules.specs.Basics.{Each, keep}
use Rattle.rules.specs.Load.{Load, count, drawn, last_until}
use Rattle.rules.specs.Charge.{Charge, active_until, load_of, loads_of, is_begun, begun_charges, is_finished, unfinished_charges}
use Rattle.rules.proofs.Lists.{keep_keep}
use Rattle.rules.proofs.Counts.{draws_before}
use Rattle.guarantee.proofs.Each.{keep_image}
use Rattle.guarantee.proofs.History.{Booked, charges_in, is_on, booked_on, begun_in, Lasts}

pub begun_charges_lem :
    (k : ℕ) (bs ds : List Booked)
    → begun_in k ds ≡ begun_in k bs
    → begun_charges k (charges_in ds) ≡ begun_charges k (charges_in bs)
begun_charges_lem k bs ds e =
    keep_image (λ (b : Booked). b.charge) (is_begun k) ds
    ∙ ap (λ (l : List Booked). charges_in l) e
    ∙ sym (keep_image (λ (b : Booked). b.charge) (is_begun k) bs)

pub begun_on :
    (k f : ℕ) (bs ds : List Booked)
    → begun_in k ds ≡ begun_in k bs
    → begun_charges k (booked_on f ds) ≡ begun_charges k (booked_on f bs)
begun_on k f bs ds e =
    begun_charges_lem k (keep (is_on f) bs) (keep (is_on f) ds)
    (keep_keep (λ b. is_begun k b.charge) (is_on f) ds
    ∙ ap (λ (l : List Booked). keep (is_on f) l) e
    ∙ sym (keep_keep (λ b. is_begun k b.charge) (is_on f) bs))

-- a number of loads that does not see those which begin after minute t
record UpTo (t : ℕ) (g : List Load → ℕ) : Type 0 where
  more : (x : Load) (xs ys : List Load) → g xs ≡ g ys → g (x ∷ xs) ≡ g (x ∷ ys)
  unseen : (x : Load) (xs : List Load) → t < x.from → g (x ∷ xs) ≡ g xs

up_to_begun : {t : ℕ} {g : List Load → ℕ} → UpTo t g → (k : ℕ) → t < k → (cs : List Charge) → g (loads_of cs) ≡ g (loads_of (begun_charges k cs))
up_to_begun u k h [] = refl
up_to_begun {g = g} u k h (c ∷ cs) = go (is_begun k c) refl (up_to_begun u k h cs)
  where
    go :
        (b : Bool)
        → is_begun k c ≡ b
        → g (loads_of cs) ≡ g (loads_of (begun_charges k cs))
        → g (loads_of (c ∷ cs)) ≡ g (loads_of (cond b (c ∷ begun_charges k cs) (begun_charges k cs)))
    go true p ih = u.more (load_of c) (loads_of cs) (loads_of (begun_charges k cs)) ih
    go false p ih = u.unseen (load_of c) (loads_of cs) (omega (arith, ltb-false c.start k p)) ∙ ih

-- where the begun charges are the same
module _ (k : ℕ) (cs ds : List Charge) (e : begun_charges k ds ≡ begun_charges k cs) (t : ℕ) (h : t < k) where
  same_number : (g : List Load → ℕ) → UpTo t g → g (loads_of ds) ≡ g (loads_of cs)
  same_number g u = up_to_begun u k h ds ∙ ap (λ (l : List Charge). g (loads_of l)) e ∙ sym (up_to_begun u k h cs)

  pub gone_count : (l : ℕ) → count (loads_of ds) l t ≡ count (loads_of cs) l t
  gone_count l =
      same_number (λ xs. count xs l t)
      (record { more = λ x xs ys q. rw q; unseen = λ x xs j. rw (draws_before x l t j) (omega arith) })

  pub gone_drawn : drawn (loads_of ds) t ≡ drawn (loads_of cs) t
  gone_drawn =
      same_number (λ xs. drawn xs t)
      (record { more = λ x xs ys q. rw q; unseen = λ x xs j. rw (lt-leb x.from t j) (omega arith) })

-- Unfinished charges

-- what is unfinished at a later clock
pub unfinished_later :
    (k m : ℕ) (cs : List Charge) → k ≤ m → unfinished_charges m (unfinished_charges k cs) ≡ unfinished_charges m cs
unfinished_later k m [] h = refl
unfinished_later k m (c ∷ cs) h = go (is_finished k c) (is_finished m c) refl refl (unfinished_later k m cs h)
  where
    go :
        (a b : Bool)
        → is_finished k c ≡ a
        → is_finished m c ≡ b
        → unfinished_charges m (unfinished_charges k cs) ≡ unfinished_charges m cs
        → unfinished_charges m (unfinished_charges k (c ∷ cs)) ≡ unfinished_charges m (c ∷ cs)
    go true true p q ih = rw (p, q, ih)
    go true false p q ih =
        let i : active_until c ≤ k = leb-true (active_until c) k p in
        let j : m < active_until c = leb-false (active_until c) m q in
        absurd (omega arith)
    go false true p q ih = rw (p, q, ih)
    go false false p q ih = rw (p, q, ih)

-- a charge has begun, or is unfinished: what bounds both bounds all
pub ends_bound :
    (k b : ℕ) (cs : List Charge)
    → Each Lasts cs
    → Each (λ c. active_until c ≤ b) (begun_charges k cs)
    → last_until (loads_of (unfinished_charges k cs)) ≤ b
    → Each (λ c. active_until c ≤ b) cs
ends_bound k b [] e begun h = tt
ends_bound k b (c ∷ cs) e begun h = go (is_begun k c) (is_finished k c) refl refl begun h (ends_bound k b cs e.1)
  where
    go :
        (x y : Bool)
        → is_begun k c ≡ x
        → is_finished k c ≡ y
        → Each (λ c. active_until c ≤ b) (cond x (c ∷ begun_charges k cs) (begun_charges k cs))
        → last_until (loads_of (cond (not y) (c ∷ unfinished_charges k cs) (unfinished_charges k cs))) ≤ b
        → (Each (λ c. active_until c ≤ b) (begun_charges k cs)
        → last_until (loads_of (unfinished_charges k cs)) ≤ b
        → Each (λ c. active_until c ≤ b) cs)
        → (active_until c ≤ b) × Each (λ c. active_until c ≤ b) cs
    go true true p q u v ih = (u.0, ih u.1 v)
    go true false p q u v ih = (u.0, ih u.1 (omega arith))
    go false true p q u v ih =
        let i : k ≤ c.start = ltb-false c.start k p in
        let j : active_until c ≤ k = leb-true (active_until c) k q in
        absurd (omega (arith, e.0))
    go false false p q u v ih = (omega arith, ih u (omega arith))
