-- The test of each field of demand 1 is true exactly where the field holds.
use mathlib.Core.Logic.{◌⊎◌, inl, inr, ◌↔◌}
use mathlib.Core.Path.{◌≡◌, refl, sym, ap, ◌∙◌}
use Prim.Native.Nat.{ℕ}
use mathlib.Core.Bool.{Bool, true, false, cond}
use mathlib.Core.List.{List, [], ◌∷◌, map}
use native.Mathlib.Omega.{arith}
use Rattle.rules.specs.Calls.{Answer, refused, opened, previewed, committed, moved, planned, waiting, charging, looked, withdrawn, fresh, Call, preview, commit, move, offer, replan_latest, replan_lines, enquire, board, withdraw}
use Rattle.guarantee.specs.Past.{is_refused}
use Rattle.guarantee.specs.DemandOne.{FirstIs, AnswerTo}
use Rattle.excluded.specs.Same.{same_list, same_answer, number_in}
use Rattle.excluded.specs.FieldsOne.{number, same_station, same_list_lem, answered, Trial, called_on, opened_by, tried, OwnAnswer, refusal_in, first_in, answers_to, own_answer}
use Rattle.excluded.specs.LawsOfTests.{Tests}
use Rattle.excluded.specs.LawsOfTests.{CallsAreTested}
use Rattle.excluded.proofs.Tests.{is_true, none_tests, both_tests, either_tests, where_so_tests}
use Rattle.excluded.proofs.Same.{same_list_lem as same_lists, same_answer_lem, same_state_lem}

-- The number

refusal_is : (a : Answer) (k : ℕ) → refusal_in a ≡ k ∷ [] → a ≡ refused k
refusal_is (refused j) k e = let same : j ≡ k = cc in rw same
refusal_is (opened ds) k e = let z : ◌≡◌ {A = ℕ} 0 1 = cc in absurd (omega arith)
refusal_is (previewed s) k e = let z : ◌≡◌ {A = ℕ} 0 1 = cc in absurd (omega arith)
refusal_is (committed t s) k e = let z : ◌≡◌ {A = ℕ} 0 1 = cc in absurd (omega arith)
refusal_is (moved n m) k e = let z : ◌≡◌ {A = ℕ} 0 1 = cc in absurd (omega arith)
refusal_is (planned c b a n) k e = let z : ◌≡◌ {A = ℕ} 0 1 = cc in absurd (omega arith)
refusal_is (waiting s w) k e = let z : ◌≡◌ {A = ℕ} 0 1 = cc in absurd (omega arith)
refusal_is (charging s f w) k e = let z : ◌≡◌ {A = ℕ} 0 1 = cc in absurd (omega arith)
refusal_is (looked n) k e = let z : ◌≡◌ {A = ℕ} 0 1 = cc in absurd (omega arith)
refusal_is withdrawn k e = let z : ◌≡◌ {A = ℕ} 0 1 = cc in absurd (omega arith)

first-is : (rows : List (Bool × ℕ)) (k : ℕ) → FirstIs rows k ↔ (first_in rows ≡ k ∷ [])
first-is [] k = ((λ e. absurd e), (λ e. let z : ◌≡◌ {A = ℕ} 0 1 = cc in absurd (omega arith)))
first-is (row ∷ rows) k = (there (first-is rows k).0, back row.0 refl (first-is rows k).1)
  where
    there : (FirstIs rows k → first_in rows ≡ k ∷ []) → FirstIs (row ∷ rows) k → first_in (row ∷ rows) ≡ k ∷ []
    there later (inl (p, e)) = rw (p, e)
    there later (inr (p, h)) = rw p (later h)

    back :
        (b : Bool)
        → row.0 ≡ b
        → (first_in rows ≡ k ∷ [] → FirstIs rows k)
        → cond b (row.1 ∷ []) (first_in rows) ≡ k ∷ []
        → FirstIs (row ∷ rows) k
    back true p later e = let same : row.1 ≡ k = cc in inl (p, same)
    back false p later e = inr (p, later e)

-- both are lists of at most one number
abbrev Few : List ℕ → Type 0
Few l = (l ≡ []) ⊎ ((k : ℕ) × (l ≡ k ∷ []))

few_refusals : (a : Answer) → Few (refusal_in a)
few_refusals a = go (is_refused a)
  where
    go : (b : Bool) → Few (cond b (number_in 1 a ∷ []) [])
    go true = inr (number_in 1 a, refl)
    go false = inl refl

few_first : (rows : List (Bool × ℕ)) → Few (first_in rows)
few_first [] = inl refl
few_first (row ∷ rows) = go row.0 (few_first rows)
  where
    go : (b : Bool) → Few (first_in rows) → Few (cond b (row.1 ∷ []) (first_in rows))
    go true later = inr (row.1, refl)
    go false later = later

few_same : (l m : List ℕ) → Few l → Few m → ((k : ℕ) → (l ≡ k ∷ []) ↔ (m ≡ k ∷ [])) → l ≡ m
few_same l m (inr (k, e)) b h = e ∙ sym ((h k).0 e)
few_same l m (inl e) (inr (k, d)) h = (h k).1 d ∙ sym d
few_same l m (inl e) (inl d) h = e ∙ sym d

number_tests :
    (a : Answer) (rows : List (Bool × ℕ))
    → Tests (same_list (refusal_in a) (first_in rows)) ((k : ℕ) → (a ≡ refused k) ↔ FirstIs rows k)
number_tests a rows = (
  (λ e k.
      let same : refusal_in a ≡ first_in rows = (same_lists (refusal_in a) (first_in rows)).0 e in (
        (λ p. (first-is rows k).1 (sym same ∙ ap refusal_in p)),
        (λ p. refusal_is a k (same ∙ (first-is rows k).0 p)),
      )),
  (λ h.
      (same_lists (refusal_in a) (first_in rows)).1
      (few_same (refusal_in a) (first_in rows) (few_refusals a) (few_first rows)
      (λ k. ((λ e. (first-is rows k).0 ((h k).0 (refusal_is a k e))), (λ e. ap refusal_in ((h k).1 ((first-is rows k).1 e))))))),
)

-- The answer

-- an answer is of a kind exactly when it is the one of that kind with its own numbers
module _ (a : Answer) where
  previewed_tests : Tests (same_answer a (previewed (number_in 1 a))) ((s : ℕ) × (a ≡ previewed s))
  previewed_tests = ((λ e. (_, (same_answer_lem a (previewed (number_in 1 a))).0 e)), back)
    where
      back : (s : ℕ) × (a ≡ previewed s) → same_answer a (previewed (number_in 1 a)) ≡ true
      back (s, e) = rw e ((same_answer_lem (previewed s) (previewed s)).1 refl)

  committed_tests : (s : ℕ) → Tests (same_answer a (committed (number_in 1 a) s)) ((t : ℕ) × (a ≡ committed t s))
  committed_tests s = ((λ e. (_, (same_answer_lem a (committed (number_in 1 a) s)).0 e)), back)
    where
      back : (t : ℕ) × (a ≡ committed t s) → same_answer a (committed (number_in 1 a) s) ≡ true
      back (t, e) = rw e ((same_answer_lem (committed t s) (committed t s)).1 refl)

  moved_tests : Tests (same_answer a (moved (number_in 1 a) (number_in 2 a))) ((n : ℕ) × (m : ℕ) × (a ≡ moved n m))
  moved_tests = ((λ e. (_, _, (same_answer_lem a (moved (number_in 1 a) (number_in 2 a))).0 e)), back)
    where
      back : (n : ℕ) × (m : ℕ) × (a ≡ moved n m) → same_answer a (moved (number_in 1 a) (number_in 2 a)) ≡ true
      back (n, m, e) = rw e ((same_answer_lem (moved n m) (moved n m)).1 refl)

  planned_tests :
      Tests (same_answer a (planned (number_in 1 a) (number_in 2 a) (number_in 3 a) (number_in 4 a)))
      ((i : ℕ) × (b : ℕ) × (c : ℕ) × (n : ℕ) × (a ≡ planned i b c n))
  planned_tests =
      ((λ e. (_, _, _, _, (same_answer_lem a (planned (number_in 1 a) (number_in 2 a) (number_in 3 a) (number_in 4 a))).0 e)), back)
    where
      back :
          (i : ℕ) × (b : ℕ) × (c : ℕ) × (n : ℕ) × (a ≡ planned i b c n)
          → same_answer a (planned (number_in 1 a) (number_in 2 a) (number_in 3 a) (number_in 4 a)) ≡ true
      back (i, b, c, n, e) = rw e ((same_answer_lem (planned i b c n) (planned i b c n)).1 refl)

  waiting_tests : Tests (same_answer a (waiting (number_in 1 a) (number_in 2 a))) ((s : ℕ) × (r : ℕ) × (a ≡ waiting s r))
  waiting_tests = ((λ e. (_, _, (same_answer_lem a (waiting (number_in 1 a) (number_in 2 a))).0 e)), back)
    where
      back : (s : ℕ) × (r : ℕ) × (a ≡ waiting s r) → same_answer a (waiting (number_in 1 a) (number_in 2 a)) ≡ true
      back (s, r, e) = rw e ((same_answer_lem (waiting s r) (waiting s r)).1 refl)

  charging_tests :
      Tests (same_answer a (charging (number_in 1 a) (number_in 2 a) (number_in 3 a)))
      ((s : ℕ) × (f : ℕ) × (r : ℕ) × (a ≡ charging s f r))
  charging_tests =
      ((λ e. (_, _, _, (same_answer_lem a (charging (number_in 1 a) (number_in 2 a) (number_in 3 a))).0 e)), back)
    where
      back :
          (s : ℕ) × (f : ℕ) × (r : ℕ) × (a ≡ charging s f r)
          → same_answer a (charging (number_in 1 a) (number_in 2 a) (number_in 3 a)) ≡ true
      back (s, f, r, e) = rw e ((same_answer_lem (charging s f r) (charging s f r)).1 refl)

  looked_tests : Tests (same_answer a (looked (number_in 1 a))) ((n : ℕ) × (a ≡ looked n))
  looked_tests = ((λ e. (_, (same_answer_lem a (looked (number_in 1 a))).0 e)), back)
    where
      back : (n : ℕ) × (a ≡ looked n) → same_answer a (looked (number_in 1 a)) ≡ true
      back (n, e) = rw e ((same_answer_lem (looked n) (looked n)).1 refl)

  answers_tests : (c : Call) → Tests (answers_to c a) (AnswerTo c a)
  answers_tests (preview f line p d rate) = previewed_tests
  answers_tests (commit f line p d rate shown) = committed_tests shown
  answers_tests (move target list) = moved_tests
  answers_tests (offer f ss) = planned_tests
  answers_tests (replan_latest f) = planned_tests
  answers_tests (replan_lines f allowance) = planned_tests
  answers_tests (enquire ticket) = either_tests waiting_tests charging_tests
  answers_tests (board asked list) = looked_tests
  answers_tests (withdraw ticket) = same_answer_lem a withdrawn

own_tests : (r : Trial) → Tests (own_answer r) (OwnAnswer r)
own_tests (called_on gives s c) = answers_tests (gives s c).answer c
own_tests (opened_by opens x) =
    both_tests (same_answer_lem (opens x).answer (opened (map (λ g. g.bound) (fresh x).feeders))) (same_state_lem (opens x).state (fresh x))

-- Each field

pub one_tested : CallsAreTested
one_tested r number = number_tests (tried r).result.answer (tried r).rows
one_tested r same_station =
    where_so_tests (is_true (is_refused (tried r).result.answer)) (same_state_lem (tried r).result.state (tried r).station)
one_tested r same_list_lem =
    where_so_tests (is_true (is_refused (tried r).result.answer)) (same_lists (tried r).result.list (tried r).list)
one_tested r answered = where_so_tests (none_tests (tried r).rows) (own_tests r)
