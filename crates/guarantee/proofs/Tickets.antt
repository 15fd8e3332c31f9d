-- A ticket stands once in the history: what the reports say of it.
use mathlib.Core.Path.{◌≡◌, refl, sym}
use Prim.Native.Nat.{ℕ, ◌+◌, ◌≤◌}
use mathlib.Core.Bool.{Bool, true, false, cond, ◌&&◌, ◌||◌}
use mathlib.Core.List.{List, [], ◌∷◌}
use native.Mathlib.Omega.{arith}
use lib.Dec.{eqb}
use borrow.Author.Tests.{eqb-true}
use Rattle.rules.specs.Basics.{Each, some}
use Rattle.rules.specs.Charge.{Charge, is_begun, has_ticket}
use Rattle.rules.proofs.Ranges.{either_way}
use Rattle.rules.proofs.Queues.{Distinct}
use Rattle.guarantee.specs.Past.{Report, times_reported, reported_start}
use Rattle.guarantee.proofs.Each.{each_two, each_in}
use Rattle.guarantee.proofs.Reports.{Worth, sum_reports, sum_begun}

-- What is reported of a ticket

-- 1 for ticket t
abbrev pub is_ticket : ℕ → Worth
is_ticket t u v = cond (eqb u t) 1 0

-- 1 for ticket t with start s
abbrev pub is_pair : ℕ → ℕ → Worth
is_pair t s u v = cond (eqb u t && eqb v s) 1 0

pub times_sum : (rs : List Report) (t : ℕ) → times_reported rs t ≡ sum_reports (is_ticket t) rs
times_sum [] t = refl
times_sum (r ∷ rs) t = rw (times_sum rs t)

pair_ticket : (t s u v : ℕ) → is_pair t s u v ≤ is_ticket t u v
pair_ticket t s u v = go (eqb u t) (eqb v s)
  where
    go : (a b : Bool) → cond {A = ℕ} (a && b) 1 0 ≤ cond {A = ℕ} a 1 0
    go true true = omega arith
    go true false = omega arith
    go false b = omega arith

pairs_times : (t s : ℕ) (rs : List Report) → sum_reports (is_pair t s) rs ≤ times_reported rs t
pairs_times t s [] = omega arith
pairs_times t s (r ∷ rs) = omega (arith, pairs_times t s rs, pair_ticket t s r.ticket r.start)

pub not_reported_start : (t x : ℕ) (rs : List Report) → times_reported rs t ≡ 0 → reported_start rs t x ≡ x
not_reported_start t x [] e = refl
not_reported_start t x (r ∷ rs) e = go (eqb r.ticket t) e (not_reported_start t x rs)
  where
    go :
        (b : Bool)
        → cond b 1 0 + times_reported rs t ≡ 0
        → (times_reported rs t ≡ 0 → reported_start rs t x ≡ x)
        → cond b r.start (reported_start rs t x) ≡ x
    go true p ih = absurd (omega arith)
    go false p ih = ih (omega arith)

-- reported once, and once with start s
pub once_reported_start :
    (t s x : ℕ) (rs : List Report)
    → times_reported rs t ≡ 1
    → 1 ≤ sum_reports (is_pair t s) rs
    → reported_start rs t x ≡ s
once_reported_start t s x [] e h = absurd (omega arith)
once_reported_start t s x (r ∷ rs) e h =
    go (eqb r.ticket t) (eqb r.start s) refl e h (once_reported_start t s x rs)
  where
    go :
        (a b : Bool)
        → eqb r.start s ≡ b
        → cond a 1 0 + times_reported rs t ≡ 1
        → 1 ≤ cond (a && b) 1 0 + sum_reports (is_pair t s) rs
        → (times_reported rs t ≡ 1 → 1 ≤ sum_reports (is_pair t s) rs → reported_start rs t x ≡ s)
        → cond a r.start (reported_start rs t x) ≡ s
    go true true p u v ih = eqb-true r.start s p
    go true false p u v ih = absurd (omega (arith, pairs_times t s rs))
    go false b p u v ih = ih (omega arith) (omega arith)

-- What is begun of a ticket

-- a number that is 0 for each charge
sum_of_none :
    (f : Worth) (k : ℕ) (cs : List Charge) → Each (λ c. f c.ticket c.start ≡ 0) cs → sum_begun f k cs ≡ 0
sum_of_none f k [] e = refl
sum_of_none f k (c ∷ cs) e = rw (e.0, either_way (is_begun k c) 0, sum_of_none f k cs e.1)

-- a number that is 0 for other tickets, summed over the begun charges
pub sum_of_own :
    (g : Charge → Worth)
    → ((c : Charge) (t s : ℕ) → (t ≡ c.ticket → ⊥) → g c t s ≡ 0)
    → (k : ℕ) (cs : List Charge)
    → Distinct cs
    → Each (λ c. sum_begun (g c) k cs ≡ cond (is_begun k c) (g c c.ticket c.start) 0) cs
sum_of_own g z k [] r = tt
sum_of_own g z k (c ∷ cs) r = (
  rw (sum_of_none (g c) k cs (each_in (λ d h. z c d.ticket d.start (λ e. h (sym e))) cs r.0)) (omega arith),
  each_two
      (λ d. c.ticket ≡ d.ticket → ⊥)
      (λ d. sum_begun (g d) k cs ≡ cond (is_begun k d) (g d d.ticket d.start) 0)
      (λ d. sum_begun (g d) k (c ∷ cs) ≡ cond (is_begun k d) (g d d.ticket d.start) 0)
      (λ d h e. rw (z d c.ticket c.start h, either_way (is_begun k c) 0, e) (omega arith))
      cs
      r.0
      (sum_of_own g z k cs r.1),
)

-- no ticket but those of the history
pub sum_ours :
    (t k : ℕ) (cs : List Charge)
    → 1 ≤ sum_begun (is_ticket t) k cs
    → some (has_ticket t) cs ≡ true
sum_ours t k [] h = absurd (omega arith)
sum_ours t k (c ∷ cs) h = go (eqb c.ticket t) h (sum_ours t k cs)
  where
    go :
        (b : Bool)
        → 1 ≤ cond (is_begun k c) (cond b 1 0) 0 + sum_begun (is_ticket t) k cs
        → (1 ≤ sum_begun (is_ticket t) k cs → some (has_ticket t) cs ≡ true)
        → b || some (has_ticket t) cs ≡ true
    go true u ih = refl
    go false u ih =
        let v : 1 ≤ 0 + sum_begun (is_ticket t) k cs = rw (either_way (is_begun k c) 0) at u in ih (omega arith)
