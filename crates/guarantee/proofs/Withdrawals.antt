-- A withdrawal: a waiting charge leaves the history, and nothing else changes.
use mathlib.Core.Path.{◌≡◌, refl, sym, ap, ◌∙◌}
use Prim.Native.Nat.{ℕ}
use mathlib.Core.Bool.{Bool, true, false, not, ◌&&◌, ◌||◌, true≢false}
use mathlib.Core.List.{List, [], ◌∷◌}
use borrow.Author.Tests.{eqb-true, ne_eqb}
use Rattle.rules.specs.Basics.{Each, keep, some}
use Rattle.rules.specs.Charge.{Charge, is_begun, is_waiting, is_finished, unfinished_charges, has_ticket, without_ticket}
use Rattle.rules.proofs.Ranges.{fails}
use Rattle.rules.proofs.Lists.{keep_all, keep_keep, each_keep}
use Rattle.rules.proofs.Withdrawing.{none-some}
use Rattle.rules.proofs.Queues.{Distinct}
use Rattle.guarantee.proofs.Each.{each_in, image_each, keep_image}
use Rattle.guarantee.proofs.History.{Booked, charges_in, is_on, booked_on, begun_in}

-- the history without the charge of a ticket
abbrev pub without_in : ℕ → List Booked → List Booked
without_in t bs = keep (λ b. not (has_ticket t b.charge)) bs

-- whoever has the ticket passes the test
abbrev pub Only : ℕ → (Booked → Bool) → List Booked → Type 0
Only t f bs = Each (λ b. has_ticket t b.charge ≡ true → f b ≡ true) bs

-- a ticket stands once in the history: what is found of it holds wherever it stands
pub found_only :
    (t : ℕ) (f : Booked → Bool) (bs : List Booked)
    → Distinct (charges_in bs)
    → some (λ b. has_ticket t b.charge && f b) bs ≡ true
    → Only t f bs
found_only t f [] d h = tt
found_only t f (b ∷ bs) d h = go (has_ticket t b.charge) refl (f b) refl h (found_only t f bs d.1)
  where
    behind : has_ticket t b.charge ≡ true → Each (λ x. has_ticket t x.charge ≡ false) bs
    behind p =
        each_in
        (λ x n. ne_eqb x.charge.ticket t (λ q. n (eqb-true b.charge.ticket t p ∙ sym q)))
        bs
        (image_each (λ c. b.charge.ticket ≡ c.ticket → ⊥) (λ (x : Booked). x.charge) bs d.0)

    go :
        (x : Bool)
        → has_ticket t b.charge ≡ x
        → (y : Bool)
        → f b ≡ y
        → (x && y) || some (λ b. has_ticket t b.charge && f b) bs ≡ true
        → (some (λ b. has_ticket t b.charge && f b) bs ≡ true → Only t f bs)
        → (has_ticket t b.charge ≡ true → f b ≡ true) × Only t f bs
    go true p true q u ih = ((λ e. q), each_in (λ x n e. absurd (true≢false (sym e ∙ n))) bs (behind p))
    go true p false q u ih =
        absurd (true≢false
        (sym u
        ∙ none-some (λ b. has_ticket t b.charge && f b) bs (each_in (λ x n. rw n) bs (behind p))))
    go false p y q u ih = ((λ e. absurd (true≢false (sym e ∙ p))), ih u)

-- those who do not have it stay
stay :
    (t : ℕ) (f : Booked → Bool) (bs : List Booked)
    → Each (λ b. has_ticket t b.charge ≡ true → f b ≡ false) bs
    → keep f (without_in t bs) ≡ keep f bs
stay t f bs e =
    keep_keep f (λ b. not (has_ticket t b.charge)) bs
    ∙ keep_all (λ b. not (has_ticket t b.charge)) (keep f bs)
    (each_in
    (λ b p.
    let n : has_ticket t b.charge ≡ false = fails (has_ticket t b.charge) (λ q. true≢false (sym p.1 ∙ p.0 q)) in
    rw n)
    (keep f bs)
    (each_keep (λ b. has_ticket t b.charge ≡ true → f b ≡ false) f bs e))

-- the others' charges, and what has begun
pub left_others :
    (t f g : ℕ) (bs : List Booked)
    → Only t (is_on f) bs
    → (g ≡ f → ⊥)
    → booked_on g (without_in t bs) ≡ booked_on g bs
left_others t f g bs e d =
    ap (λ (l : List Booked). charges_in l)
    (stay t (is_on g) bs
    (each_in (λ b p q. ne_eqb b.feeder g (λ z. d (sym z ∙ eqb-true b.feeder f (p q)))) bs e))

pub left_begun :
    (t k : ℕ) (bs : List Booked) → Only t (λ b. is_waiting k b.charge) bs → begun_in k (without_in t bs) ≡ begun_in k bs
left_begun t k bs e =
    stay t (λ b. is_begun k b.charge) bs (each_in (λ b p q. waits (is_begun k b.charge) (p q)) bs e)
  where
    waits : (x : Bool) → not x ≡ true → x ≡ false
    waits true e = sym e
    waits false e = refl

-- the feeder's own
pub left_own :
    (t k f : ℕ) (bs : List Booked)
    → unfinished_charges k (booked_on f (without_in t bs)) ≡ without_ticket t (unfinished_charges k (booked_on f bs))
left_own t k f bs =
    ap (λ (l : List Charge). unfinished_charges k l)
    (ap (λ (l : List Booked). charges_in l) (keep_keep (is_on f) (λ b. not (has_ticket t b.charge)) bs)
    ∙ sym (keep_image (λ (b : Booked). b.charge) (λ c. not (has_ticket t c)) (keep (is_on f) bs)))
    ∙ keep_keep (λ c. not (is_finished k c)) (λ c. not (has_ticket t c)) (booked_on f bs)
