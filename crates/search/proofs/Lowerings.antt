-- Caps as lists of minutes, and a cap lowered.
use Prim.Native.Nat.{ℕ, ◌+◌, ◌-◌, ◌≤◌, ◌<◌, min}
use mathlib.Core.Path.{◌≡◌, refl, sym, ◌∙◌, ap, subst}
use mathlib.Core.Bool.{Bool, true, false, cond, true≢false}
use mathlib.Core.List.{List, ◌++◌}
use mathlib.Core.Logic.{◌⊎◌, inl, inr, ⊎_elim}
use native.Mathlib.Omega.{arith}
use borrow.Author.Tests.{lt-ltb, le-ltb, lt-leb, le-leb, eq-eqb, ne_eqb}
use borrow.Rule.Slice.PartMut.{mid_of, put_mid}
use lib.Dec.{ltb, leb, eqb}
use lib.ListN.{length, get_or, take, drop, replicate, get_or-eq_default}
use Rattle.std.proofs.lemmas.List.{places, get_or_append_left, get_or-append_right, get_or-drop, get_or-replicate, length-replicate, length-take}
use Rattle.rules.specs.Load.{IsLine}
use Rattle.rules.specs.Search.{Caps}
use Rattle.rules.specs.Replan.{lowered}
use Rattle.rules.proofs.Ranges.{below_or_not}
use Rattle.profile.proofs.Levels.{same_or_not}
use Rattle.profile.proofs.Lines.{each_line}
use Rattle.search.specs.Rooms.{has_room}
use Rattle.search.specs.Caps.{list_of, caps_of, CapsShown, Unlowered, Lowered, CapLowered, LoweredAt, CanCap}
use Rattle.search.specs.declared.caps.LineCaps.{LineCaps}
use Rattle.search.proofs.Rooms.{room_before, room_after, room_cond}

-- A cap in every minute

-- n of the m places are filled, and the others have room for nothing
pub unlowered_filled :
    {n k v : ℕ} (m : ℕ) {front : List ℕ} → k ≤ m → k ≡ n → v ≡ 4294967295 → front ≡ replicate (length (take k (replicate {A = ℕ} m 0))) v
    → Unlowered n (front ++ drop k (replicate {A = ℕ} m 0))
unlowered_filled {n} {k} {v} m {front} few same top e =
    record {
      each = λ i.
          ⊎_elim
          (λ b.
          get_or_append_left front (drop k zeros) 0 i (omega (arith, size)) ∙ filled i (omega arith)
          ∙ sym (ap (λ (t : Bool). cond t 4294967295 0) (lt-ltb i n b)))
          (λ b.
          get_or-append_right front (drop k zeros) k i 0 size (omega arith) ∙ get_or-drop k zeros (i - k) 0 ∙ none (k + (i - k))
          ∙ sym (ap (λ (t : Bool). cond t 4294967295 0) (le-ltb i n b)))
          (below_or_not i n);
    }
  where
    zeros : List ℕ
    zeros = replicate m 0

    none : (i : ℕ) → get_or zeros i 0 ≡ 0
    none i = ⊎_elim (λ b. get_or-replicate m i 0 0 b) (λ b. get_or-eq_default zeros 0 (omega (arith, length-replicate {A = ℕ} m 0))) (below_or_not i m)

    taken : length (take k zeros) ≡ k
    taken = omega (arith, length-take k zeros, length-replicate {A = ℕ} m 0)

    size : length front ≡ k
    size = ap length e ∙ length-replicate (length (take k zeros)) v ∙ taken

    filled : (i : ℕ) → i < k → get_or front i 0 ≡ 4294967295
    filled i b = rw e (get_or-replicate (length (take k zeros)) i v 0 (omega (arith, taken)) ∙ top)

pub unlowered_shown :
    (a : List ℕ) (site n : ℕ) {m : ℕ} → Unlowered m a → m ≡ n + 1 → CapsShown (record { one = a; two = a; three = a; site = site }) site (λ l t. n)
unlowered_shown a site n {m} w e =
    record {
      within = refl;
      rooms = λ l h k t.
          ap (λ (x : ℕ). has_room x t) (same l k ∙ w.each k ∙ ap (λ (b : Bool). cond b 4294967295 0) (test k (below_or_not n k))) ∙ room_cond (leb k n) t;
    }
  where
    same : (l k : ℕ) → get_or (cond (eqb l 1) a (cond (eqb l 2) a a)) k 0 ≡ get_or a k 0
    same l k = either (eqb l 1) (eqb l 2)
      where
        either : (x y : Bool) → get_or (cond x a (cond y a a)) k 0 ≡ get_or a k 0
        either true y = refl
        either false true = refl
        either false false = refl

    test : (k : ℕ) → (n < k) ⊎ (k ≤ n) → ltb k m ≡ leb k n
    test k (inl b) = le-ltb k m (omega arith) ∙ sym (lt-leb k n b)
    test k (inr b) = lt-ltb k m (omega arith) ∙ sym (le-leb k n b)

-- A list lowered

-- b is a with the first k places at most t
pub record FirstLowered (a b : List ℕ) (t k : ℕ) : Type 0 where
  pub before : (m : ℕ) → m < k → get_or b m 0 ≡ min (get_or a m 0) t
  pub after : (m : ℕ) → k ≤ m → get_or b m 0 ≡ get_or a m 0

-- b is what the places from n on became
pub lowering_done :
    (n : ℕ) {a b : List ℕ} {t k m j : ℕ} → length a ≡ 61 → k ≡ min n 61 → m ≡ 61 - k → FirstLowered (mid_of k m a) b t j → length b ≡ m → m ≤ j
    → Lowered a (put_mid k m a b) t n
lowering_done n {k = k} full begins some w size all = record { before = λ i h. grind (arith, places); after = λ i h. grind (arith, places, w.before (i - k)) }

-- The cap of a line lowered

smaller_room : (p t u : ℕ) → u < t → has_room (min p t) u ≡ has_room p u
smaller_room p t u h =
    ⊎_elim
    (λ a. room_before (min p t) u (omega arith) ∙ sym (room_before p u a))
    (λ a. ap (λ (x : ℕ). has_room x u) (kept a))
    (below_or_not u p)
  where
    kept : p ≤ u → min p t ≡ p
    kept a = omega arith

-- line `line` is lowered from `above` on, the others stay
pub caps_lowered :
    {c d : LineCaps} {line t v above : ℕ} → t < 4294967295 → d.site ≡ c.site → Lowered (list_of c line) (list_of d line) t above
    → ((l : ℕ) → IsLine l → (l ≡ line → ⊥) → list_of d l ≡ list_of c l) → above ≡ v + 1 → CapLowered c d line t v
caps_lowered {c} {d} {line} {t} {v} small site done others next =
    record {
      same_site = site;
      gone = λ h k u a b. ap (λ (y : ℕ). has_room y u) (x.after k (omega arith)) ∙ room_after (min (caps_of c line k) t) u (omega arith) (omega arith);
      kept = λ l h k u n.
          ⊎_elim
          (λ e. rw e (own k u (λ a b. n e a b) (below_or_not v k) (below_or_not u t)))
          (λ ne. ap (λ (y : List ℕ). has_room (get_or y k 0) u) (others l h ne))
          (same_or_not l line);
    }
  where
    x : Lowered (list_of c line) (list_of d line) t (v + 1)
    x = rw (← next) done

    own : (k u : ℕ) → (v < k → t ≤ u → ⊥) → (v < k) ⊎ (k ≤ v) → (u < t) ⊎ (t ≤ u) → has_room (caps_of d line k) u ≡ has_room (caps_of c line k) u
    own k u n (inr a) b = ap (λ (y : ℕ). has_room y u) (x.before k (omega arith))
    own k u n (inl a) (inl b) = ap (λ (y : ℕ). has_room y u) (x.after k (omega arith)) ∙ smaller_room (caps_of c line k) t u b
    own k u n (inl a) (inr b) = absurd (n a b)

-- the line that is lowered is one of three
pub lowered_one :
    {c : LineCaps} {b : List ℕ} {line t v above : ℕ} → t < 4294967295 → Lowered c.one b t above → line ≡ 1 → above ≡ v + 1
    → CapLowered c (record { one = b; two = c.two; three = c.three; site = c.site }) line t v
lowered_one small done e next =
    rw e
    (caps_lowered small refl done
    (each_line _ (λ ne. absurd (ne refl)) (λ ne. refl) (λ ne. refl))
    next)

pub lowered_two :
    {c : LineCaps} {b : List ℕ} {line t v above : ℕ} → t < 4294967295 → Lowered c.two b t above → line ≡ 2 → above ≡ v + 1
    → CapLowered c (record { one = c.one; two = b; three = c.three; site = c.site }) line t v
lowered_two small done e next =
    rw e
    (caps_lowered small refl done
    (each_line _ (λ ne. refl) (λ ne. absurd (ne refl)) (λ ne. refl))
    next)

pub lowered_three :
    {c : LineCaps} {b : List ℕ} {line t v above : ℕ} → t < 4294967295 → Lowered c.three b t above → line ≡ 3 → above ≡ v + 1
    → CapLowered c (record { one = c.one; two = c.two; three = b; site = c.site }) line t v
lowered_three small done e next =
    rw e
    (caps_lowered small refl done
    (each_line _ (λ ne. refl) (λ ne. refl) (λ ne. absurd (ne refl)))
    next)

-- whatever caps c shows, d shows them lowered
pub lowered_shows : {c d : LineCaps} {line t v : ℕ} → CapLowered c d line t v → LoweredAt c d line t v
lowered_shows {c} {d} {line} {t} {v} x site cap s = record { within = x.same_site ∙ s.within; rooms = λ l h k u. room l h k u (same_or_not l line) }
  where
    smaller : (m k : ℕ) → k ≤ v → (m < k) ⊎ (k ≤ m) → leb k m ≡ leb k (min m v)
    smaller m k a (inl b) = lt-leb k m b ∙ sym (lt-leb k (min m v) (omega arith))
    smaller m k a (inr b) = le-leb k m b ∙ sym (le-leb k (min m v) (omega arith))

    own : (h : IsLine line) (k u : ℕ) → (u < t) ⊎ (t ≤ u) → (v < k) ⊎ (k ≤ v) → has_room (caps_of d line k) u ≡ leb k (lowered cap line t v line u)
    own h k u (inl a) b = x.kept line h k u (λ e f g. omega arith) ∙ s.rooms line h k u ∙ rw (eq-eqb line line refl, lt-leb t u a) refl
    own h k u (inr a) (inr b) =
        x.kept line h k u (λ e f g. omega arith) ∙ s.rooms line h k u ∙ smaller (cap line u) k b (below_or_not (cap line u) k)
        ∙ rw (eq-eqb line line refl, le-leb t u a) refl
    own h k u (inr a) (inl b) = x.gone h k u b a ∙ sym (lt-leb k (min (cap line u) v) (omega arith)) ∙ rw (eq-eqb line line refl, le-leb t u a) refl

    room : (l : ℕ) → IsLine l → (k u : ℕ) → (l ≡ line) ⊎ (l ≡ line → ⊥) → has_room (caps_of d l k) u ≡ leb k (lowered cap line t v l u)
    room l h k u (inl e) = rw e (own (subst IsLine e h) k u (below_or_not u t) (below_or_not v k))
    room l h k u (inr ne) = x.kept l h k u (λ e f g. ne e) ∙ s.rooms l h k u ∙ rw (ne_eqb l line ne) refl

-- caps that are never below the rate meet what a search for a start asks
pub can_cap : (c : LineCaps) (site : ℕ) (cap : Caps) (l rate : ℕ) → CapsShown c site cap → IsLine l → ((t : ℕ) → rate ≤ cap l t) → rate ≤ site → CanCap c l rate
can_cap c site cap l rate s h enough within =
    record {
      some =
          ⊎_elim
          (λ a.
          absurd
          (true≢false
          (sym (le-leb rate (cap l 4294967295) (enough 4294967295)) ∙ sym (s.rooms l h rate 4294967295)
          ∙ room_after (caps_of c l rate) 4294967295 a (omega arith))))
          (λ a. a)
          (below_or_not (caps_of c l rate) 4294967295);
      within_site_lem = omega (arith, s.within);
    }
