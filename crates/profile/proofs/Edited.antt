-- The minutes and counts of a list of steps: one put in, and some raised on a line.
use Prim.Native.Nat.{ℕ, suc, ◌+◌, ◌-◌, ◌≤◌, ◌<◌}
use mathlib.Core.Path.{◌≡◌, sym, ◌∙◌, ap}
use mathlib.Core.Logic.{◌⊎◌, inl, inr, ⊎_elim}
use native.Mathlib.Omega.{arith}
use mathlib.Core.List.{List}
use lib.ListN.{length, get_or, set, take, drop, length-set, length-take}
use borrow.Rule.Slice.PartMut.{put_mid}
use Rattle.std.proofs.Common.{rules}
use Rattle.std.proofs.Math.ListN.{get_or-map}
use Rattle.std.proofs.lemmas.List as lists
use Rattle.std.proofs.lemmas.List.{places, ext_get_or, length-map, length-drop, get_or-take, get_or-set_same, get_or-set_other}
use Rattle.std.specs.List.{CopiedTo, SameBelow}
use Rattle.rules.specs.Load.{IsColumn}
use Rattle.profile.specs.declared.steps.Step.{Step}
use Rattle.profile.specs.Steps.{minutes_of, counts_of, empty_step, begun_at, Inserted, Doubled, RaisedOn}
use Rattle.profile.specs.Shows.{Profile, line_of, first_minute}
use Rattle.profile.specs.Loads.{PutIn, Raised}
use Rattle.profile.proofs.Levels.{same_or_not}
use Rattle.rules.proofs.Ranges.{below_or_not}

pub minute_at : (p : Profile) (i : ℕ) → get_or (minutes_of p) i 0 ≡ (get_or p i (empty_step 0)).minute
minute_at p i = get_or-map (λ (s : Step). s.minute) p i (empty_step 0)

-- whatever stands for a step that is not there
pub minute_in : (p : Profile) (i : ℕ) (d : Step) → i < length p → get_or (minutes_of p) i 0 ≡ (get_or p i d).minute
minute_in p i d h = lists.get_or-map (λ (s : Step). s.minute) p i d 0 h

-- the first step, read off the list that has places for more
pub first_taken : (xs : List Step) (n : ℕ) {p : Profile} → take n xs ≡ p → 1 ≤ length p → (get_or xs 0 (empty_step 0)).minute ≡ first_minute p
first_taken xs n {p} e some =
    ap (λ (s : Step). s.minute) (sym (get_or-take n xs 0 (empty_step 0) (omega (arith, length-take n xs, ap length e))))
    ∙ sym (minute_at (take n xs) 0)
    ∙ ap (λ (q : Profile). first_minute q) e

-- a minute of the profile, read off that list
pub minute_taken : (xs : List Step) (n i : ℕ) {p : Profile} → take n xs ≡ p → i < length p → get_or (minutes_of p) i 0 ≡ (get_or xs i (empty_step 0)).minute
minute_taken xs n i {p} e h =
    minute_at p i
    ∙ ap (λ (s : Step). s.minute) (ap (λ (q : Profile). get_or q i (empty_step 0)) (sym e) ∙ get_or-take n xs i (empty_step 0) (omega (arith, length-take n xs, ap length e)))

module _ {p q : Profile} {i t : ℕ} (h : PutIn p q i t) where
  pub put_minutes : Inserted (minutes_of p) (minutes_of q) (length p) (i + 1) t
  put_minutes =
      record {
        before = λ m b. minute_at q m ∙ ap (λ (s : Step). s.minute) (h.before m (omega arith)) ∙ sym (minute_at p m);
        here = minute_at q (i + 1) ∙ ap (λ (s : Step). s.minute) h.here;
        after = λ m b c. minute_at q (suc m) ∙ ap (λ (s : Step). s.minute) (h.after m (omega arith) c) ∙ sym (minute_at p m);
      }

  pub put_lines : (l : ℕ) → Doubled (line_of p l) (line_of q l) (length p) i
  put_lines l =
      record {
        before = λ m b. ap (λ (s : Step). counts_of s l) (h.before m b);
        after = λ m b c.
            ⊎_elim
            (λ e. let n : suc m ≡ i + 1 = omega arith in rw n (rw e (ap (λ (s : Step). counts_of s l) h.here)))
            (λ ne. ap (λ (s : Step). counts_of s l) (h.after m (omega arith) c))
            (same_or_not m i);
      }

-- the steps from i on moved one place up, and the one that is there twice begun in minute t
pub doubled_put :
    (xs ys : List Step) {n i t : ℕ} → i < n → n < length xs → length ys ≡ length xs → CopiedTo xs ys i (i + 1) (n - i) → SameBelow xs ys (i + 1) →
    PutIn (take n xs) (take (n + 1) (set ys (i + 1) (begun_at t (get_or ys (i + 1) (empty_step 0))))) i t
doubled_put xs ys {n} {i} {t} below room long moved still =
    record {
      size = sizes;
      before = λ m b.
          get_or-take (n + 1) _ m (empty_step 0) (omega arith)
          ∙ get_or-set_other ys (i + 1) m _ (empty_step 0) (λ e. omega (arith, e))
          ∙ still m (empty_step 0) (omega arith)
          ∙ sym (get_or-take n xs m (empty_step 0) (omega arith));
      here =
          get_or-take (n + 1) _ (i + 1) (empty_step 0) (omega arith)
          ∙ get_or-set_same ys (i + 1) _ (empty_step 0) (omega arith)
          ∙ ap (λ (s : Step). begun_at t s) (twice ∙ sym (get_or-take n xs i (empty_step 0) below));
      after = λ m b c.
          get_or-take (n + 1) _ (suc m) (empty_step 0) (omega (arith, c, few))
          ∙ get_or-set_other ys (i + 1) (suc m) _ (empty_step 0) (λ e. omega (arith, e))
          ∙ moved (suc m) (empty_step 0) (omega arith) (omega (arith, c, few))
          ∙ ap (λ (k : ℕ). get_or xs k (empty_step 0)) (back m b)
          ∙ sym (get_or-take n xs m (empty_step 0) (omega (arith, c, few)));
    }
  where
    few : length (take n xs) ≡ n
    few = omega (arith, length-take n xs)

    sizes : length (take (n + 1) (set ys (i + 1) (begun_at t (get_or ys (i + 1) (empty_step 0))))) ≡ length (take n xs) + 1
    sizes = omega (arith, few, length-take (n + 1) (set ys (i + 1) (begun_at t (get_or ys (i + 1) (empty_step 0)))), length-set ys (i + 1) (begun_at t (get_or ys (i + 1) (empty_step 0))))

    twice : get_or ys (i + 1) (empty_step 0) ≡ get_or xs i (empty_step 0)
    twice =
        let e : i + (i + 1 - (i + 1)) ≡ i = omega arith in
        moved (i + 1) (empty_step 0) (omega arith) (omega arith) ∙ ap (λ (k : ℕ). get_or xs k (empty_step 0)) e

    back : (m : ℕ) → i < m → i + (suc m - (i + 1)) ≡ m
    back m b = omega arith

-- the first k steps have the rate more on a line, and the others are as they were
pub record Raising (gs hs : List Step) (line rate k : ℕ) : Type 0 where
  pub done : (m : ℕ) → m < k → RaisedOn (get_or gs m (empty_step 0)) line rate (get_or hs m (empty_step 0))
  pub left : (m : ℕ) → k ≤ m → get_or hs m (empty_step 0) ≡ get_or gs m (empty_step 0)

-- a list of n steps, with the part from i up to j raised as a whole and put back
module _ (xs : List Step) {ys : List Step} {n line rate i j k : ℕ} (few : n ≤ length xs) (order : i ≤ j) (below : j ≤ n) (hl : IsColumn line) (r : Raising (take (j - i) (drop i xs)) ys line rate k) (long : length ys ≡ length (take (j - i) (drop i xs))) (all : length (take (j - i) (drop i xs)) ≤ k) where
  abbrev edited : Profile
  edited = take n (put_mid i (j - i) xs ys)

  within : length ys ≡ j - i
  within = omega (arith, long, length-take (j - i) (drop i xs), length-drop i xs)

  outside : (m : ℕ) → (m < i) ⊎ (j ≤ m) → get_or edited m (empty_step 0) ≡ get_or (take n xs) m (empty_step 0)
  outside m (inl b) = search (rules, places)
  outside m (inr b) = search (rules, places)

  inside : (m : ℕ) → i ≤ m → m < j → RaisedOn (get_or (take n xs) m (empty_step 0)) line rate (get_or edited m (empty_step 0))
  inside m b c =
      let was : get_or (take (j - i) (drop i xs)) (m - i) (empty_step 0) ≡ get_or (take n xs) m (empty_step 0) = search (rules, places) in
      let is : get_or ys (m - i) (empty_step 0) ≡ get_or edited m (empty_step 0) = search (rules, places) in
      rw (← was, ← is) (r.done (m - i) (omega (arith, all, long, within)))

  same_minute : (m : ℕ) → (m < i) ⊎ (i ≤ m) → (m < j) ⊎ (j ≤ m) → (get_or edited m (empty_step 0)).minute ≡ (get_or (take n xs) m (empty_step 0)).minute
  same_minute m (inl b) _ = ap (λ (s : Step). s.minute) (outside m (inl b))
  same_minute m (inr b) (inl c) = (inside m b c).minute
  same_minute m (inr b) (inr c) = ap (λ (s : Step). s.minute) (outside m (inr c))

  size : length edited ≡ length (take n xs)
  size = search (rules, places)

  pub raised_part : Raised (take n xs) (record { start = i; end = j }) line rate edited
  raised_part =
      record {
        minutes = ext_get_or 0 _ _ (length-map edited _ ∙ size ∙ sym (length-map (take n xs) _)) (λ m _. minute_at edited m ∙ same_minute m (below_or_not m i) (below_or_not m j) ∙ sym (minute_at (take n xs) m));
        size = size;
        each = λ l hc.
            record {
              before = λ m b. ap (λ (s : Step). counts_of s l) (outside m (inl b));
              between = λ m b c. (inside m b c).each l hc hl;
              after = λ m b. ap (λ (s : Step). counts_of s l) (outside m (inr b));
            };
      }
