-- Two minutes put in at once: what one after the other comes to.
use Prim.Native.Nat.{ℕ, zero, suc, ◌+◌, ◌-◌, ◌≤◌, ◌<◌}
use mathlib.Core.Path.{◌≡◌, sym, ◌∙◌, ap, subst}
use mathlib.Core.Logic.{⊎_elim}
use native.Mathlib.Omega.{arith}
use mathlib.Core.List.{List}
use lib.ListN.{length, get_or, set, take, length-set, length-take}
use Rattle.std.proofs.lemmas.List.{get_or-take, get_or-set_same, get_or-set_other}
use Rattle.std.proofs.lemmas.List.Edits.{length-insert, get_or-insert_below, get_or-insert_at, get_or-insert_above}
use Rattle.std.specs.List.{insert, CopiedTo, SameBelow, SameFrom}
use Rattle.profile.specs.declared.steps.Step.{Step}
use Rattle.profile.specs.Steps.{minutes_of, empty_step, begun_at, In}
use Rattle.profile.specs.Shows.{Profile, Formed, SplitBoth}
use Rattle.profile.specs.Loads.{PutIn}
use Rattle.profile.proofs.Levels.{same_or_not}
use Rattle.profile.proofs.Edited.{put_minutes}
use Rattle.profile.proofs.Splits.{here', after'}
use Rattle.profile.proofs.Adds.{split_some, split_here}
use Rattle.rules.proofs.Ranges.{below_or_not}

abbrev step : Profile → ℕ → Step
step p m = get_or p m (empty_step 0)

-- p with step i there twice, the second time from a minute on
abbrev between : Profile → ℕ → ℕ → Profile
between p i from = insert p (i + 1) (begun_at from (step p i))

-- q is p with steps i and j there twice, the second time from one minute and from the other on
pub record PutBoth (p q : Profile) (i j from until : ℕ) : Type 0 where
  pub size : length q ≡ length p + 2
  pub before : (m : ℕ) → m ≤ i → step q m ≡ step p m
  pub first : step q (i + 1) ≡ begun_at from (step p i)
  pub middle : (m : ℕ) → i < m → m ≤ j → step q (m + 1) ≡ step p m
  pub second : step q (j + 2) ≡ begun_at until (step p j)
  pub after : (m : ℕ) → j < m → m < length p → step q (m + 2) ≡ step p m

-- the step of the later minute does not come before that of the earlier one
pub in_order :
    (p : Profile) {i j from until : ℕ} → In p i from → In p j until → from < until → i ≤ j
in_order p {i} {j} hi hj short = ⊎_elim (λ l. absurd (omega (arith, hj.later i l hi.below, hi.begun))) (λ g. g) (below_or_not j i)

module _ {p : Profile} {i j from until : ℕ} (f : Formed p) (hi : In p i from) (hj : In p j until) (short : from < until) where
  pub none_new : get_or (minutes_of p) i 0 ≡ from → get_or (minutes_of p) j 0 ≡ until → SplitBoth p p from until (record { start = i; end = j })
  none_new a b = record { between = p; first = split_here f hi.below a; second = split_here f hj.below b }

  pub later_new :
      {q : Profile} → get_or (minutes_of p) i 0 ≡ from → (get_or (minutes_of p) j 0 ≡ until → ⊥) → PutIn p q j until
      → SplitBoth p q from until (record { start = i; end = j + 1 })
  later_new a nb put = record { between = p; first = split_here f hi.below a; second = split_some f hj nb put }

  pub earlier_new :
      {q : Profile} → (get_or (minutes_of p) i 0 ≡ from → ⊥) → get_or (minutes_of p) j 0 ≡ until → PutIn p q i from
      → SplitBoth p q from until (record { start = i + 1; end = j + 1 })
  earlier_new {q} na b put =
      let one = split_some f hi na put in
      let after : i < j = ⊎_elim (λ l. l) (λ g. absurd (omega (arith, in_order p hi hj short, g, hi.begun, b, ap (λ (k : ℕ). get_or (minutes_of p) k 0) (same g)))) (below_or_not i j) in
      let e : suc j ≡ j + 1 = omega arith in
      record {
        between = q;
        first = one;
        second = split_here one.formed (omega (arith, put.size, hj.below)) (ap (λ (k : ℕ). get_or (minutes_of q) k 0) (sym e) ∙ (put_minutes put).after j (omega (arith, after)) hj.below ∙ b);
      }
    where
      same : j ≤ i → i ≡ j
      same g = omega (arith, in_order p hi hj short, g)

module _ {p q : Profile} {i j from until : ℕ} (f : Formed p) (hi : In p i from) (hj : In p j until)
    (ni : get_or (minutes_of p) i 0 ≡ from → ⊥) (nj : get_or (minutes_of p) j 0 ≡ until → ⊥) (short : from < until) (b : PutBoth p q i j from until) where
  within : i + 1 ≤ length p
  within = omega (arith, hi.below)

  order : i ≤ j
  order = in_order p hi hj short

  first_in : PutIn p (between p i from) i from
  first_in =
      record {
        size = length-insert p (i + 1) _ within;
        before = λ m h. get_or-insert_below p (i + 1) _ (empty_step 0) m (omega arith) within;
        here = get_or-insert_at p (i + 1) _ (empty_step 0) within;
        after = λ m h c. let e : suc m ≡ m + 1 = omega arith in rw e (get_or-insert_above p (i + 1) _ (empty_step 0) m (omega arith) within);
      }

  -- step j is in the next place now
  moved : step q (j + 2) ≡ begun_at until (step (between p i from) (j + 1))
  moved =
      ⊎_elim
      (λ (e : j ≡ i). b.second ∙ ap (λ (k : ℕ). begun_at until (step p k)) e ∙ ap (λ (s : Step). begun_at until s) (sym first_in.here) ∙ ap (λ (k : ℕ). begun_at until (step (between p i from) (k + 1))) (sym e))
      (λ ne. let e : suc j ≡ j + 1 = omega arith in b.second ∙ ap (λ (s : Step). begun_at until s) (sym (first_in.after j (omega (arith, ne, order)) hj.below) ∙ ap (λ (k : ℕ). step (between p i from) k) e))
      (same_or_not j i)

  second_in : PutIn (between p i from) q (j + 1) until
  second_in =
      record {
        size = omega (arith, b.size, first_in.size);
        before = kept;
        here = let e : j + 1 + 1 ≡ j + 2 = omega arith in rw e moved;
        after = later;
      }
    where
      kept : (m : ℕ) → m ≤ j + 1 → step q m ≡ step (between p i from) m
      kept zero h = b.before zero (omega arith) ∙ sym (first_in.before zero (omega arith))
      kept (suc m) h =
          ⊎_elim
          (λ l. b.before (suc m) (omega arith) ∙ sym (first_in.before (suc m) (omega arith)))
          (λ g.
          ⊎_elim
          (λ (e : m ≡ i). let n : suc m ≡ i + 1 = omega arith in rw n (b.first ∙ sym first_in.here))
          (λ ne. let n : suc m ≡ m + 1 = omega arith in ap (λ (k : ℕ). step q k) n ∙ b.middle m (omega (arith, ne)) (omega arith) ∙ sym (first_in.after m (omega (arith, ne)) (omega (arith, hj.below))))
          (same_or_not m i))
          (below_or_not m i)

      later : (m : ℕ) → j + 1 < m → m < length (between p i from) → step q (suc m) ≡ step (between p i from) m
      later zero h c = absurd (omega arith)
      later (suc m) h c =
          let n : suc (suc m) ≡ m + 2 = omega arith in
          ap (λ (k : ℕ). step q k) n ∙ b.after m (omega arith) (omega (arith, first_in.size)) ∙ sym (first_in.after m (omega (arith, order)) (omega (arith, first_in.size)))

  begun : get_or (minutes_of p) i 0 < from
  begun = ⊎_elim (λ a. a) (λ a. absurd (ni (omega (arith, hi.begun)))) (below_or_not (get_or (minutes_of p) i 0) from)

  stands : In (between p i from) (j + 1) until
  stands =
      ⊎_elim
      (λ (e : j ≡ i). subst (λ (k : ℕ). In (between p i from) (k + 1) until) (sym e) (here' hi begun first_in until (subst (λ (k : ℕ). In p k until) e hj) (omega arith)))
      (λ ne. let e : j + 1 ≡ suc j = omega arith in rw e (after' hi begun first_in j until hj (omega (arith, ne, order))))
      (same_or_not j i)

  apart : get_or (minutes_of (between p i from)) (j + 1) 0 ≡ until → ⊥
  apart w =
      ⊎_elim
      (λ (e : j ≡ i). omega (arith, (put_minutes first_in).here, ap (λ (k : ℕ). get_or (minutes_of (between p i from)) (k + 1) 0) e, w))
      (λ ne. let e : j + 1 ≡ suc j = omega arith in nj (sym ((put_minutes first_in).after j (omega (arith, ne, order)) hj.below) ∙ ap (λ (k : ℕ). get_or (minutes_of (between p i from)) k 0) (sym e) ∙ w))
      (same_or_not j i)

  pub split_twice : SplitBoth p q from until (record { start = i + 1; end = j + 2 })
  split_twice =
      let one = split_some f hi ni first_in in
      let e : j + 1 + 1 ≡ j + 2 = omega arith in
      record { between = between p i from; first = one; second = rw (← e) (split_some one.formed stands apart second_in) }

-- the steps behind j moved two places up, those from i to j one, and the minutes put in
pub both_put :
    (xs ys zs : List Step) {n i j from until : ℕ} → i ≤ j → j < n → n + 2 ≤ length xs → length ys ≡ length xs → length zs ≡ length ys
    → CopiedTo xs ys j (j + 2) (n - j) → SameBelow xs ys (j + 2) → CopiedTo ys zs i (i + 1) (j + 1 - i) → SameBelow ys zs (i + 1)
    → SameFrom ys zs (i + 1 + (j + 1 - i))
    → let one = set zs (i + 1) (begun_at from (step zs (i + 1))) in
    PutBoth (take n xs) (take (n + 2) (set one (j + 2) (begun_at until (step one (j + 2))))) i j from until
both_put xs ys zs {n} {i} {j} {from} {until} order below room long long' far near close front back =
    record {
      size = omega (arith, few, length-take (n + 2) both, long_both);
      before = λ m b. taken m (omega arith) ∙ left m (omega arith) (omega arith) ∙ front m (empty_step 0) (omega arith) ∙ near m (empty_step 0) (omega arith) ∙ sym (was m (omega arith));
      first = taken (i + 1) (omega arith) ∙ get_or-set_other one (j + 2) (i + 1) _ (empty_step 0) (λ e. omega (arith, e)) ∙ get_or-set_same zs (i + 1) _ (empty_step 0) (omega (arith, long, long')) ∙ ap (λ (s : Step). begun_at from s) (doubled_first ∙ sym (was i (omega arith)));
      middle = λ m b c. taken (m + 1) (omega arith) ∙ left (m + 1) (omega arith) (omega arith) ∙ shifted m b c ∙ sym (was m (omega arith));
      second = taken (j + 2) (omega arith) ∙ get_or-set_same one (j + 2) _ (empty_step 0) (omega (arith, long, long', length-set zs (i + 1) (begun_at from (step zs (i + 1))))) ∙ ap (λ (s : Step). begun_at until s) (get_or-set_other zs (i + 1) (j + 2) _ (empty_step 0) (λ e. omega (arith, e)) ∙ back (j + 2) (empty_step 0) (omega arith) ∙ doubled_second ∙ sym (was j below));
      after = λ m b c. taken (m + 2) (omega (arith, few)) ∙ left (m + 2) (omega arith) (omega arith) ∙ back (m + 2) (empty_step 0) (omega arith) ∙ pushed m b (omega (arith, few)) ∙ sym (was m (omega (arith, few)));
    }
  where
    one : List Step
    one = set zs (i + 1) (begun_at from (step zs (i + 1)))

    both : List Step
    both = set one (j + 2) (begun_at until (step one (j + 2)))

    long_both : length both ≡ length xs
    long_both = length-set one (j + 2) (begun_at until (step one (j + 2))) ∙ length-set zs (i + 1) (begun_at from (step zs (i + 1))) ∙ long' ∙ long

    few : length (take n xs) ≡ n
    few = omega (arith, length-take n xs)

    was : (m : ℕ) → m < n → step (take n xs) m ≡ step xs m
    was m h = get_or-take n xs m (empty_step 0) h

    taken : (m : ℕ) → m < n + 2 → step (take (n + 2) both) m ≡ step both m
    taken m h = get_or-take (n + 2) both m (empty_step 0) h

    left : (m : ℕ) → (m ≡ i + 1 → ⊥) → (m ≡ j + 2 → ⊥) → step both m ≡ step zs m
    left m a b = get_or-set_other one (j + 2) m _ (empty_step 0) b ∙ get_or-set_other zs (i + 1) m _ (empty_step 0) a

    doubled_first : step zs (i + 1) ≡ step xs i
    doubled_first =
        let e : i + (i + 1 - (i + 1)) ≡ i = omega arith in
        close (i + 1) (empty_step 0) (omega arith) (omega arith) ∙ ap (λ (k : ℕ). step ys k) e ∙ near i (empty_step 0) (omega arith)

    shifted : (m : ℕ) → i < m → m ≤ j → step zs (m + 1) ≡ step xs m
    shifted m b c =
        let e : i + (m + 1 - (i + 1)) ≡ m = omega arith in
        close (m + 1) (empty_step 0) (omega arith) (omega arith) ∙ ap (λ (k : ℕ). step ys k) e ∙ near m (empty_step 0) (omega arith)

    doubled_second : step ys (j + 2) ≡ step xs j
    doubled_second =
        let e : j + (j + 2 - (j + 2)) ≡ j = omega arith in
        far (j + 2) (empty_step 0) (omega arith) (omega arith) ∙ ap (λ (k : ℕ). step xs k) e

    pushed : (m : ℕ) → j < m → m < n → step ys (m + 2) ≡ step xs m
    pushed m b c =
        let e : j + (m + 2 - (j + 2)) ≡ m = omega arith in
        far (m + 2) (empty_step 0) (omega arith) (omega arith) ∙ ap (λ (k : ℕ). step xs k) e
