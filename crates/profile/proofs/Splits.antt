-- A step put in, and steps raised: what they do to the levels.
use Prim.Native.Nat.{ℕ, zero, suc, ◌+◌, ◌≤◌, ◌<◌}
use mathlib.Core.Path.{◌≡◌, refl, sym, ◌∙◌, ap, subst}
use mathlib.Core.Bool.{Bool, true, false, cond, ◌&&◌}
use mathlib.Core.Logic.{⊎_elim}
use native.Mathlib.Omega.{arith}
use borrow.Author.Tests.{le-leb, lt-leb, lt-ltb, le-ltb}
use lib.Dec.{leb, ltb}
use lib.ListN.{length, get_or}
use Rattle.profile.specs.Steps.{minutes_of, level_at, In, Rising, Inserted, Raised}
use Rattle.profile.specs.Shows.{Profile, line_of, level_of, first_minute}
use Rattle.profile.specs.Loads.{PutIn}
use Rattle.rules.proofs.Ranges.{below_or_not}
use Rattle.profile.proofs.Levels.{same_or_not, level_in, step_of, rising_le, Place}
use Rattle.profile.proofs.Edited.{put_minutes, put_lines}

add-one : (i : ℕ) → i + 1 ≡ suc i
add-one i = omega arith

-- t put in after step i, which has begun before t
module _ {p q : Profile} {i t : ℕ} (inn : In p i t) (lt : get_or (minutes_of p) i 0 < t) (put : PutIn p q i t) where
  ins : Inserted (minutes_of p) (minutes_of q) (length p) (i + 1) t
  ins = put_minutes put

  -- what holds of the old beginnings, of t and of the later ones holds of each of the new
  by_place :
      (P : ℕ → ℕ → Type 0) → ((m : ℕ) → m ≤ i → P m (get_or (minutes_of p) m 0)) → P (i + 1) t → ((m : ℕ) → i < m → m < length p → P (suc m) (get_or (minutes_of p) m 0)) →
      (m : ℕ) → m < length q → P m (get_or (minutes_of q) m 0)
  by_place P a b c zero h = subst (λ (x : ℕ). P zero x) (sym (ins.before zero (omega arith))) (a zero (omega arith))
  by_place P a b c (suc m) h =
      ⊎_elim
      (λ l. subst (λ (x : ℕ). P (suc m) x) (sym (ins.before (suc m) l)) (a (suc m) (omega arith)))
      (λ g. ⊎_elim
      (λ e. subst (λ (x : ℕ). P x (get_or (minutes_of q) x 0)) (sym e) (subst (λ (y : ℕ). P (i + 1) y) (sym ins.here) b))
      (λ ne. subst (λ (x : ℕ). P (suc m) x) (sym (ins.after m (omega arith) (omega (arith, put.size)))) (c m (omega arith) (omega (arith, put.size))))
      (same_or_not (suc m) (i + 1)))
      (below_or_not (suc m) (i + 1))

  stay : (j u : ℕ) → In p j u → j ≤ i → u < t → In q j u
  stay j u h a b =
      record {
        below = omega (arith, h.below, put.size);
        begun = omega (arith, h.begun, ins.before j (omega arith));
        later = λ m x y. by_place (λ m x. j < m → u < x) (λ m a' b'. h.later m b' (omega (arith, inn.below))) (λ _. b) (λ m a' b' c'. h.later m (omega arith) b') m y x;
      }

  pub here' : (u : ℕ) → In p i u → t ≤ u → In q (i + 1) u
  here' u h b =
      record {
        below = omega (arith, h.below, put.size);
        begun = omega (arith, ins.here);
        later = λ m x y. by_place (λ m x. i + 1 < m → u < x) (λ m a' b'. absurd (omega arith)) (λ b'. absurd (omega arith)) (λ m a' b' c'. h.later m a' b') m y x;
      }

  pub after' : (j u : ℕ) → In p j u → i < j → In q (suc j) u
  after' j u h a =
      record {
        below = omega (arith, h.below, put.size);
        begun = omega (arith, h.begun, ins.after j (omega arith) h.below);
        later = λ m x y. by_place (λ m x. suc j < m → u < x) (λ m a' b'. absurd (omega arith)) (λ b'. absurd (omega arith)) (λ m a' b' c'. h.later m (omega arith) b') m y x;
      }

  -- the level of every minute stays
  pub split_level : (l u : ℕ) → first_minute p ≤ u → level_of q l u ≡ level_of p l u
  split_level l u h =
      let s = step_of p u (omega (arith, inn.below)) h in
      let j = s.step in
      let lines = put_lines put l in
      let old : level_of p l u ≡ line_of p l j = level_in p (line_of p l) s.inside in
      ⊎_elim
      (λ a. ⊎_elim
      (λ ut. level_in q (line_of q l) (stay j u s.inside (omega arith) ut) ∙ lines.before j (omega arith) ∙ sym old)
      (λ tu.
      let e : j ≡ i = ⊎_elim (λ b. absurd (omega (arith, s.inside.later i b inn.below, lt, tu))) (λ b. omega arith) (below_or_not j i) in
      level_in q (line_of q l) (here' u (subst (λ (x : ℕ). In p x u) e s.inside) tu)
      ∙ ap (line_of q l) (add-one i) ∙ lines.after i (omega arith) inn.below ∙ ap (line_of p l) (sym e) ∙ sym old)
      (below_or_not u t))
      (λ g. level_in q (line_of q l) (after' j u s.inside (omega arith)) ∙ lines.after j (omega arith) s.inside.below ∙ sym old)
      (below_or_not j (i + 1))

  pub split_rises : Rising p → Rising q
  split_rises r a b l h =
      by_place (λ m y. (k : ℕ) → k < m → get_or (minutes_of q) k 0 < y)
      (λ m x k y. by_place (λ k z. k < m → z < get_or (minutes_of p) m 0) (λ k a' b'. r k m b' (omega (arith, inn.below))) (λ b'. absurd (omega arith)) (λ k a' b' c'. absurd (omega arith)) k (omega (arith, inn.below, put.size)) y)
      (λ k y. by_place (λ k z. k < i + 1 → z < t) (λ k a' b'. omega (arith, lt, rising_le p r k i a' inn.below)) (λ b'. absurd (omega arith)) (λ k a' b' c'. absurd (omega arith)) k (omega (arith, inn.below, put.size)) y)
      (λ m x y k z. by_place (λ k w. k < suc m → w < get_or (minutes_of p) m 0) (λ k a' b'. r k m (omega arith) y) (λ b'. inn.later m x y) (λ k a' b' c'. r k m (omega arith) y) k (omega (arith, put.size)) z)
      b h a l

  pub split_ends : (b : ℕ) → ((k : ℕ) → k < length p → get_or (minutes_of p) k 0 ≤ b) → t ≤ b → (k : ℕ) → k < length q → get_or (minutes_of q) k 0 ≤ b
  split_ends b h g = by_place (λ m x. x ≤ b) (λ m a. h m (omega (arith, inn.below))) g (λ m a c. h m c)

-- x more in the steps from i up to j: in the minutes from the one's beginning up to the other's
module _ (p : Profile) {cs cs' : ℕ → ℕ} {i j x : ℕ} (r : Rising p) (hi : i < length p) (hj : j < length p) (ra : Raised cs cs' i j x) where
  abbrev within : ℕ → Bool
  within u = leb (get_or (minutes_of p) i 0) u && ltb u (get_or (minutes_of p) j 0)

  pub raise_level :
      (u : ℕ) → first_minute p ≤ u → level_at (minutes_of p) cs' (length p) u ≡ level_at (minutes_of p) cs (length p) u + cond (within u) x 0
  raise_level u h = go (step_of p u (omega arith) h)
    where
      put : (a b : Bool) → leb (get_or (minutes_of p) i 0) u ≡ a → ltb u (get_or (minutes_of p) j 0) ≡ b → cond (within u) x 0 ≡ cond (a && b) x 0
      put a b p q = rw (p, q) refl

      go : Place p u → level_at (minutes_of p) cs' (length p) u ≡ level_at (minutes_of p) cs (length p) u + cond (within u) x 0
      go s =
          let m = s.step in
          let old : level_at (minutes_of p) cs (length p) u ≡ cs m = level_in p cs s.inside in
          let new : level_at (minutes_of p) cs' (length p) u ≡ cs' m = level_in p cs' s.inside in
          ⊎_elim
          (λ l. omega (arith, old, new, ra.before m l, put_off_lem (lt-leb (get_or (minutes_of p) i 0) u (s.inside.later i l hi))))
          (λ g. ⊎_elim
          (λ l.
          omega (
            arith,
            old,
            new,
            ra.between m g l,
            put true true (le-leb (get_or (minutes_of p) i 0) u (omega (arith, rising_le p r i m g s.inside.below, s.inside.begun)))
                (lt-ltb u (get_or (minutes_of p) j 0) (s.inside.later j l hj)),
          ))
          (λ g'.
          omega (
            arith,
            old,
            new,
            ra.after m g',
            put true false (le-leb (get_or (minutes_of p) i 0) u (omega (arith, rising_le p r i m g s.inside.below, s.inside.begun)))
                (le-ltb u (get_or (minutes_of p) j 0) (omega (arith, rising_le p r j m g' s.inside.below, s.inside.begun))),
          ))
          (below_or_not m j))
          (below_or_not m i)
        where
          put_off_lem : leb (get_or (minutes_of p) i 0) u ≡ false → cond (within u) x 0 ≡ 0
          put_off_lem q = rw q refl
