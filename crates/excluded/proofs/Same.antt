-- The tests whether two lists, answers or stations are the same.
use mathlib.Core.Path.{◌≡◌, refl, sym, ap, ◌∙◌}
use Prim.Native.Nat.{ℕ}
use mathlib.Core.Bool.{Bool, cond, ◌&&◌, false≢true}
use mathlib.Core.List.{List, [], ◌∷◌}
use native.Mathlib.Omega.{arith}
use lib.Dec.{eqb}
use lib.ListN.{get_or, drop}
use Rattle.rules.specs.Charge.{Charge}
use Rattle.rules.specs.Site.{Feeder, State}
use Rattle.rules.specs.Calls.{Answer, refused, opened, previewed, committed, moved, planned, waiting, charging, looked, withdrawn}
use Rattle.rules.proofs.Ranges.{and_left, and_right, and_both}
use Rattle.excluded.specs.Same.{same_each, same_list, in_numbers, same_answer, of_charge, same_charges, of_feeder, same_feeder, of_state, same_state}
use Rattle.excluded.specs.LawsOfTests.{Tests}
use Rattle.excluded.proofs.Tests.{eqb_tests}

pub same_each_lem :
    {A : Type 0} (same : A → A → Bool) → ((a b : A) → Tests (same a b) (a ≡ b)) → (l m : List A) → Tests (same_each same l m) (l ≡ m)
same_each_lem same h [] [] = ((λ e. refl), (λ e. refl))
same_each_lem same h [] (b ∷ m) = ((λ e. absurd (false≢true e)), (λ e. let z : ◌≡◌ {A = ℕ} 0 1 = cc in absurd (omega arith)))
same_each_lem same h (a ∷ l) [] = ((λ e. absurd (false≢true e)), (λ e. let z : ◌≡◌ {A = ℕ} 0 1 = cc in absurd (omega arith)))
same_each_lem same h (a ∷ l) (b ∷ m) = (
  (λ e.
      let p : a ≡ b = (h a b).0 (and_left (same a b) (same_each same l m) e) in
      let q : l ≡ m = (same_each_lem same h l m).0 (and_right (same a b) (same_each same l m) e) in
      rw (p, q)),
  (λ e.
      let p : a ≡ b = cc in
      let q : l ≡ m = cc in
      and_both (same a b) (same_each same l m) ((h a b).1 p) ((same_each_lem same h l m).1 q)),
)

pub same_list_lem : (l m : List ℕ) → Tests (same_list l m) (l ≡ m)
same_list_lem l m = same_each_lem eqb eqb_tests l m

-- things that can be read back from their numbers
same_numbers :
    {A : Type 0} (numbers : A → List ℕ) (read : List ℕ → A)
    → ((a : A) → read (numbers a) ≡ a)
    → (a b : A)
    → Tests (same_list (numbers a) (numbers b)) (a ≡ b)
same_numbers numbers read back a b = (
  (λ e. sym (back a) ∙ (ap read ((same_list_lem (numbers a) (numbers b)).0 e) ∙ back b)),
  (λ e. (same_list_lem (numbers a) (numbers b)).1 (ap numbers e)),
)

-- the answer with these numbers
abbrev read : List ℕ → Answer
read l =
    let of : ℕ → ℕ = λ i. get_or l i 0 in
    cond (eqb (of 0) 0) (refused (of 1))
    (cond (eqb (of 0) 1) (opened (drop 1 l))
    (cond (eqb (of 0) 2) (previewed (of 1))
    (cond (eqb (of 0) 3) (committed (of 1) (of 2))
    (cond (eqb (of 0) 4) (moved (of 1) (of 2))
    (cond (eqb (of 0) 5) (planned (of 1) (of 2) (of 3) (of 4))
    (cond (eqb (of 0) 6) (waiting (of 1) (of 2)) (cond (eqb (of 0) 7) (charging (of 1) (of 2) (of 3))
    (cond (eqb (of 0) 8) (looked (of 1)) withdrawn))))))))

read_back : (a : Answer) → read (in_numbers a) ≡ a
read_back (refused k) = refl
read_back (opened ds) = refl
read_back (previewed s) = refl
read_back (committed t s) = refl
read_back (moved n m) = refl
read_back (planned c b a n) = refl
read_back (waiting s rate) = refl
read_back (charging s e rate) = refl
read_back (looked n) = refl
read_back withdrawn = refl

pub same_answer_lem : (a b : Answer) → Tests (same_answer a b) (a ≡ b)
same_answer_lem a b = same_numbers in_numbers read read_back a b

-- the charge with these numbers
abbrev read_charge : List ℕ → Charge
read_charge l =
    record {
      ticket = get_or l 0 0;
      line = get_or l 1 0;
      order_minute = get_or l 2 0;
      time = get_or l 3 0;
      active_time = get_or l 4 0;
      due = get_or l 5 0;
      start = get_or l 6 0;
      rate = get_or l 7 0;
    }

pub same_charges_lem : (cs ds : List Charge) → Tests (same_charges cs ds) (cs ≡ ds)
same_charges_lem cs ds =
    same_each_lem (λ c d. same_list (of_charge c) (of_charge d)) (same_numbers of_charge read_charge (λ c. refl)) cs ds

-- what has these numbers and those members
module _ {A : Type 0} {B : Type 0} (numbers : A → List ℕ) (members : A → List B) (read : List ℕ → List B → A)
    (back : (a : A) → read (numbers a) (members a) ≡ a)
    (same : B → B → Bool) (right : (b c : B) → Tests (same b c) (b ≡ c)) where
  same_with : (a b : A) → Tests (same_list (numbers a) (numbers b) && same_each same (members a) (members b)) (a ≡ b)
  same_with a b = (
    (λ e.
        let p : numbers a ≡ numbers b
        = (same_list_lem (numbers a) (numbers b)).0 (and_left (same_list (numbers a) (numbers b)) (same_each same (members a) (members b)) e) in
        let q : members a ≡ members b
        = (same_each_lem same right (members a) (members b)).0 (and_right (same_list (numbers a) (numbers b)) (same_each same (members a) (members b)) e) in
        sym (back a) ∙ (ap (λ l. read l (members a)) p ∙ (ap (read (numbers b)) q ∙ back b))),
    (λ e.
        and_both (same_list (numbers a) (numbers b)) (same_each same (members a) (members b))
        ((same_list_lem (numbers a) (numbers b)).1 (ap numbers e))
        ((same_each_lem same right (members a) (members b)).1 (ap members e))),
  )

pub same_feeder_lem : (g h : Feeder) → Tests (same_feeder g h) (g ≡ h)
same_feeder_lem =
    same_with of_feeder (λ (g : Feeder). g.charges)
    (λ l cs. record { limit = get_or l 0 0; percent = get_or l 1 0; bound = get_or l 2 0; tail = get_or l 3 0; charges = cs })
    (λ g. refl)
    (λ c d. same_list (of_charge c) (of_charge d))
    (same_numbers of_charge read_charge (λ c. refl))

pub same_state_lem : (s t : State) → Tests (same_state s t) (s ≡ t)
same_state_lem =
    same_with of_state (λ (s : State). s.feeders)
    (λ l gs. record { feeders = gs; site = get_or l 0 0; clock = get_or l 1 0; next = get_or l 2 0 })
    (λ s. refl)
    same_feeder
    same_feeder_lem
