-- What the clock moves have reported is the begun part of the history, each charge once: a sum over the reports of any number
-- made of ticket and start is the sum over the begun charges.
use mathlib.Core.Path.{◌≡◌, refl, sym, ◌∙◌}
use Prim.Native.Nat.{ℕ, ◌+◌, ◌≤◌, ◌<◌}
use mathlib.Core.Bool.{Bool, true, false, cond}
use mathlib.Core.List.{List, [], ◌∷◌, ◌++◌, map}
use native.Mathlib.Omega.{arith}
use lib.ListN.{length}
use borrow.Author.Tests.{ltb-true, ltb-false, leb-true, le-leb, lt-leb}
use Rattle.rules.specs.Basics.{Each, keep, sorted_by}
use Rattle.rules.specs.Charge.{Charge, active_until, is_begun, begun_charges, is_finished, unfinished_charges}
use Rattle.rules.specs.Calls.{is_passed, pairs}
use Rattle.rules.proofs.Sorting.{sorted_rearranged, Inserted, here, later, Rearranged, none, more}
use Rattle.guarantee.specs.Past.{Report, first_pairs, report_of}
use Rattle.guarantee.proofs.History.{Lasts}

-- a number made of ticket and start
abbrev pub Worth : Type 0
Worth = ℕ → ℕ → ℕ

abbrev pub sum_reports : Worth → List Report → ℕ
sum_reports f [] = 0
sum_reports f (r ∷ rs) = f r.ticket r.start + sum_reports f rs

abbrev pub sum_charges : Worth → List Charge → ℕ
sum_charges f [] = 0
sum_charges f (c ∷ cs) = f c.ticket c.start + sum_charges f cs

-- over those begun at clock k, charge by charge
abbrev pub sum_begun : Worth → ℕ → List Charge → ℕ
sum_begun f k [] = 0
sum_begun f k (c ∷ cs) = cond (is_begun k c) (f c.ticket c.start) 0 + sum_begun f k cs

sum_kept_more :
    (f : Worth) (p : Charge → Bool) (c : Charge) (l : List Charge)
    → sum_charges f (keep p (c ∷ l)) ≡ cond (p c) (f c.ticket c.start) 0 + sum_charges f (keep p l)
sum_kept_more f p c l = go (p c)
  where
    go :
        (b : Bool)
        → sum_charges f (cond b (c ∷ keep p l) (keep p l)) ≡ cond b (f c.ticket c.start) 0 + sum_charges f (keep p l)
    go true = refl
    go false = omega arith

pub sum_begun_lem : (f : Worth) (k : ℕ) (cs : List Charge) → sum_begun f k cs ≡ sum_charges f (begun_charges k cs)
sum_begun_lem f k [] = refl
sum_begun_lem f k (c ∷ cs) = omega (arith, sum_kept_more f (is_begun k) c cs, sum_begun_lem f k cs)

pub sum_reports_append :
    (f : Worth) (xs ys : List Report) → sum_reports f (xs ++ ys) ≡ sum_reports f xs + sum_reports f ys
sum_reports_append f [] ys = omega arith
sum_reports_append f (x ∷ xs) ys = rw (sum_reports_append f xs ys) (omega arith)

-- another order of the charges changes no sum
sum_inserted :
    (f : Worth) (p : Charge → Bool) {c : Charge} {l m : List Charge}
    → Inserted c l m
    → sum_charges f (keep p m) ≡ cond (p c) (f c.ticket c.start) 0 + sum_charges f (keep p l)
sum_inserted f p {c = c} (here {l = l}) = sum_kept_more f p c l
sum_inserted f p (later {b = b} {l = l} {m = m} i) =
    omega (arith, sum_kept_more f p b m, sum_kept_more f p b l, sum_inserted f p i)

pub sum_kept :
    (f : Worth) (p : Charge → Bool) {l m : List Charge}
    → Rearranged l m
    → sum_charges f (keep p m) ≡ sum_charges f (keep p l)
sum_kept f p none = refl
sum_kept f p (more {a = a} {l = l} {m = m} r i) =
    omega (arith, sum_inserted f p i, sum_kept_more f p a l, sum_kept f p r)

-- sorting is one
pub sum_sorted :
    (f : Worth) (before : Charge → Charge → Bool) (xs : List Charge)
    → sum_charges f (sorted_by before xs) ≡ sum_charges f xs
sum_sorted f before xs =
    sym (all (sorted_by before xs)) ∙ sum_kept f (λ c. true) (sorted_rearranged before xs) ∙ all xs
  where
    all : (l : List Charge) → sum_charges f (keep (λ c. true) l) ≡ sum_charges f l
    all [] = refl
    all (c ∷ l) = rw (all l)

-- the first places of the report list are read back
pub sum_pairs :
    (f : Worth) (xs : List Charge) (rest : List ℕ)
    → sum_reports f (first_pairs (length xs) (pairs xs ++ rest)) ≡ sum_charges f xs
sum_pairs f [] rest = refl
sum_pairs f (x ∷ xs) rest = rw (sum_pairs f xs rest)

-- a clock move reports what it passes
pub sum_passed :
    (f : Worth) (k m : ℕ) (cs : List Charge)
    → k ≤ m
    → Each Lasts cs
    → sum_begun f k cs + sum_charges f (keep (is_passed k m) (unfinished_charges k cs)) ≡ sum_begun f m cs
sum_passed f k m [] h e = refl
sum_passed f k m (c ∷ cs) h e =
    go (is_begun k c) (is_begun m c) (is_finished k c) refl refl refl (sum_passed f k m cs h e.1)
  where
    go :
        (a b d : Bool)
        → is_begun k c ≡ a
        → is_begun m c ≡ b
        → is_finished k c ≡ d
        → sum_begun f k cs + sum_charges f (keep (is_passed k m) (unfinished_charges k cs)) ≡ sum_begun f m cs
        → sum_begun f k (c ∷ cs) + sum_charges f (keep (is_passed k m) (unfinished_charges k (c ∷ cs)))
        ≡ sum_begun f m (c ∷ cs)
    go true true false p q u ih = rw (p, q, u, lt-leb k c.start (ltb-true c.start k p)) (omega arith)
    go true true true p q u ih = rw (p, q, u) (omega arith)
    go true false d p q u ih =
        let i : c.start < k = ltb-true c.start k p in
        let j : m ≤ c.start = ltb-false c.start m q in
        absurd (omega arith)
    go false true false p q u ih =
        rw (p, q, u, le-leb k c.start (ltb-false c.start k p), q) (omega arith)
    go false false false p q u ih =
        rw (p, q, u, le-leb k c.start (ltb-false c.start k p), q) (omega arith)
    go false b true p q u ih =
        let i : k ≤ c.start = ltb-false c.start k p in
        let j : active_until c ≤ k = leb-true (active_until c) k u in
        absurd (omega (arith, e.0))

-- reports of charges
pub sum_reports_lem : (f : Worth) (cs : List Charge) → sum_reports f (map report_of cs) ≡ sum_charges f cs
sum_reports_lem f [] = refl
sum_reports_lem f (c ∷ cs) = rw (sum_reports_lem f cs)
