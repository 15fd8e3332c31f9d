-- The rounds of the replan by lines: what one comes to, and what all of them do.
use mathlib.Core.Logic.{◌⊎◌, inl, inr}
use mathlib.Core.Path.{◌≡◌, refl, sym, ap, subst, ◌∙◌}
use Prim.Native.Nat.{ℕ, zero, suc, ◌+◌, ◌-◌, ◌≤◌, ◌<◌}
use mathlib.Core.Bool.{Bool, true, false, cond, true≢false}
use mathlib.Core.List.{List, ◌++◌, append_assoc}
use native.Mathlib.Omega.{arith}
use borrow.Author.Tests.{leb-true, leb-false, not-false, not-true}
use Rattle.rules.specs.Basics.{Found, at, nothing}
use Rattle.rules.specs.Load.{Load, count, counts, IsLine, Limits, balance_at}
use Rattle.rules.specs.Charge.{Charge, load_of, loads_of, begun_charges, waiting_charges}
use Rattle.rules.specs.Search.{Caps, first_unbalanced}
use Rattle.rules.specs.Priority.{fits_at}
use Rattle.rules.specs.Replan.{Proposal, starts, none, all, standing, largest_line, smallest_line, lowered, starts_in, placed_active, Outcome, ends, lowers, after_round, round, Replanned, go_on, rounds_from, by_lines}
use Rattle.rules.specs.Site.{feeder_of, charges_on, others_of, limits_of}
use Rattle.rules.specs.Valid.{IsFeeder}
use Rattle.rules.proofs.Ranges.{below_or_not}
use Rattle.rules.proofs.Lists.{map-append}
use Rattle.rules.proofs.Counts.{balanced_at, balanced_all}
use Rattle.rules.proofs.Searches.{unbalanced_first, unbalanced_none}
use Rattle.rules.proofs.Rounds.{largest_line_lem, smallest_line_lem}
use Rattle.rules.proofs.Sites.{count_beside}
use Rattle.rules.proofs.Picking.{LinesPlaced}
use Rattle.rules.specs.laws.Rounds.{CapsOf}
use Rattle.rules.proofs.Standing.{round_complete}
use Rattle.station.specs.declared.Station.{Station}
use Rattle.station.specs.View.{view, Valid}
use Rattle.theorem.specs.Rounds.{IsRound, count_with, IsEvenAt, IsFirstUneven, IsFullest, IsEmptiest, Lowers, AreCapsAfter}

pub same_starts : (ss us : List ℕ) → starts ss ≡ starts us → ss ≡ us
same_starts ss us e = cc

pub none_apart : (own : ℕ) (ss : List ℕ) → none own ≡ starts ss → ⊥
none_apart own ss e = let z : ◌≡◌ {A = ℕ} 0 1 = cc in omega arith

abbrev pub replanned : Proposal → ℕ → Replanned
replanned proposal rounds = record { proposal = proposal; rounds = rounds }

module _ (s : Station) (v : Valid s) (f : ℕ) (h : IsFeeder (view s) f) where
  abbrev y : Limits
  y = limits_of (view s) f

  abbrev held : List Charge
  held = charges_on (view s) f

  abbrev base : List Load
  base = standing y s.clock held

  abbrev waiting : List Charge
  waiting = waiting_charges s.clock held

  abbrev play : Caps → Outcome
  play = round y s.clock held

  -- The counts of a round

  count_same : (placed : List Charge) (line t : ℕ) → IsLine line → count (base ++ loads_of placed) line t ≡ count_with s f placed line t
  count_same placed line t i =
      ap (λ (xs : List Load). count xs line t)
      (append_assoc y.others (loads_of (begun_charges s.clock held)) (loads_of placed)
      ∙ ap (λ (ys : List Load). y.others ++ ys) (sym (map-append load_of (begun_charges s.clock held) placed)))
      ∙ count_beside (loads_of (others_of (view s) f)) (loads_of (begun_charges s.clock held ++ placed)) line t i

  even_there : (placed : List Charge) (t : ℕ) → balance_at y (base ++ loads_of placed) t ≡ true → IsEvenAt s f placed t
  even_there placed t e line other i j =
      omega (
        arith,
        count_same placed line t i,
        count_same placed other t j,
        balanced_at y.bound (counts (base ++ loads_of placed) t) e line other i j,
      )

  there_even : (placed : List Charge) (t : ℕ) → IsEvenAt s f placed t → balance_at y (base ++ loads_of placed) t ≡ true
  there_even placed t e =
      balanced_all y.bound (counts (base ++ loads_of placed) t)
      (λ line other i j. omega (arith, count_same placed line t i, count_same placed other t j, e line other i j))

  first_there : (placed : List Charge) (t : ℕ) → first_unbalanced y s.clock (base ++ loads_of placed) ≡ at t → IsFirstUneven s f placed t
  first_there placed t e =
      let r = unbalanced_first y s.clock (base ++ loads_of placed) t e in (
        r.low,
        (λ ev. true≢false (sym (there_even placed t ev) ∙ not-true (balance_at y (base ++ loads_of placed) t) r.here)),
        (λ u i j. even_there placed u (not-false (balance_at y (base ++ loads_of placed) u) (r.least u i j))),
      )

  full_there : (placed : List Charge) (t : ℕ) → IsFullest s f placed t (largest_line (counts (base ++ loads_of placed) t))
  full_there placed t =
      let g : ℕ → ℕ = counts (base ++ loads_of placed) t in
      let top = largest_line_lem g in (
        top.line,
        (λ o i.
            omega (
              arith,
              count_same placed o t i,
              count_same placed (largest_line g) t top.line,
              leb-true (g o) (g (largest_line g)) (top.highest o i),
            )),
        (λ o low less.
            omega (
              arith,
              count_same placed o t (record { low = low; high = omega (arith, top.line.high) }),
              count_same placed (largest_line g) t top.line,
              leb-false (g (largest_line g)) (g o) (top.lowest o low less),
            )),
      )

  empty_there : (placed : List Charge) (t : ℕ) → IsEmptiest s f placed t (smallest_line (counts (base ++ loads_of placed) t))
  empty_there placed t =
      let g : ℕ → ℕ = counts (base ++ loads_of placed) t in
      let top = smallest_line_lem g in (
        top.line,
        (λ o i.
            omega (
              arith,
              count_same placed o t i,
              count_same placed (smallest_line g) t top.line,
              leb-true (g (smallest_line g)) (g o) (top.highest o i),
            )),
        (λ o low less.
            omega (
              arith,
              count_same placed o t (record { low = low; high = omega (arith, top.line.high) }),
              count_same placed (smallest_line g) t top.line,
              leb-false (g o) (g (smallest_line g)) (top.lowest o low less),
            )),
      )

  -- There is one of each

  one_round : (cap : Caps) (p q : List Charge) → IsRound s f cap p → IsRound s f cap q → p ≡ q
  one_round cap p q a b = let e : all p ≡ all q = sym a ∙ b in cc

  one_minute : (placed : List Charge) (t u : ℕ) → IsFirstUneven s f placed t → IsFirstUneven s f placed u → t ≡ u
  one_minute placed t u a b = go (below_or_not t u) (below_or_not u t)
    where
      go : (t < u) ⊎ (u ≤ t) → (u < t) ⊎ (t ≤ u) → t ≡ u
      go (inl i) j = absurd (a.1 (b.2 t a.0 i))
      go (inr i) (inl j) = absurd (b.1 (a.2 u b.0 j))
      go (inr i) (inr j) = omega arith

  one_full : (placed : List Charge) (t i j : ℕ) → IsFullest s f placed t i → IsFullest s f placed t j → i ≡ j
  one_full placed t i j a b = go (below_or_not i j) (below_or_not j i)
    where
      go : (i < j) ⊎ (j ≤ i) → (j < i) ⊎ (i ≤ j) → i ≡ j
      go (inl k) l = absurd (omega (arith, b.2 i a.0.low k, a.1 j b.0))
      go (inr k) (inl l) = absurd (omega (arith, a.2 j b.0.low l, b.1 i a.0))
      go (inr k) (inr l) = omega arith

  one_empty : (placed : List Charge) (t i j : ℕ) → IsEmptiest s f placed t i → IsEmptiest s f placed t j → i ≡ j
  one_empty placed t i j a b = go (below_or_not i j) (below_or_not j i)
    where
      go : (i < j) ⊎ (j ≤ i) → (j < i) ⊎ (i ≤ j) → i ≡ j
      go (inl k) l = absurd (omega (arith, b.2 i a.0.low k, a.1 j b.0))
      go (inr k) (inl l) = absurd (omega (arith, a.2 j b.0.low l, b.1 i a.0))
      go (inr k) (inr l) = omega arith

  -- What a round comes to

  abbrev pub EndsEven : Caps → List ℕ → Type 0
  EndsEven cap ss =
      (placed : List Charge) × IsRound s f cap placed × ((t : ℕ) → s.clock ≤ t → IsEvenAt s f placed t) × (starts_in placed waiting ≡ ss)

  abbrev pub EndsInactive : Caps → Type 0
  EndsInactive cap =
      (placed : List Charge)
      × (t : ℕ)
      × (full : ℕ)
      × IsRound s f cap placed
      × IsFirstUneven s f placed t
      × IsFullest s f placed t full
      × (placed_active placed full t ≡ false)

  abbrev pub ComesTo : Caps → Outcome → Type 0
  ComesTo cap (ends (starts ss)) = EndsEven cap ss
  ComesTo cap (ends (none own)) = (own ≡ 1) × EndsInactive cap
  ComesTo cap (lowers i t v) = Lowers s f cap (lowered cap i t v)

  comes_to : (cap : Caps) → CapsOf y cap → ComesTo cap (play cap)
  unfolding round
  comes_to cap c = rw done.gives (searched (first_unbalanced y s.clock (base ++ loads_of placed)) refl)
    where
      done : LinesPlaced (fits_at s.site cap) s.clock base waiting 3
      done = (round_complete (view s) v.state f h cap c).lines

      placed : List Charge
      placed = done.plan

      full : ℕ → ℕ
      full t = largest_line (counts (base ++ loads_of placed) t)

      empty : ℕ → ℕ
      empty t = smallest_line (counts (base ++ loads_of placed) t)

      turned :
          (t : ℕ)
          → IsFirstUneven s f placed t
          → (b : Bool)
          → placed_active placed (full t) t ≡ b
          → ComesTo cap (cond b (lowers (full t) t (counts (base ++ loads_of placed) t (empty t) + y.bound)) (ends (none 1)))
      turned t u true e = (
        placed,
        t,
        full t,
        empty t,
        done.gives,
        u,
        full_there placed t,
        empty_there placed t,
        e,
        ap (λ (n : ℕ). lowered cap (full t) t (n + y.bound)) (count_same placed (empty t) t (empty_there placed t).0),
      )
      turned t u false e = (refl, (placed, t, full t, done.gives, u, full_there placed t, e))

      searched :
          (o : Found)
          → first_unbalanced y s.clock (base ++ loads_of placed) ≡ o
          → ComesTo cap (after_round y s.clock held (all placed))
      searched nothing e =
          rw (e, after_round) (
            placed,
            done.gives,
            (λ t i line other j k.
                omega (
                  arith,
                  count_same placed line t j,
                  count_same placed other t k,
                  unbalanced_none y s.clock (base ++ loads_of placed) e t i line other j k,
                )),
            refl,
          )
      searched (at t) e =
          rw (e, after_round) (turned t (first_there placed t e) (placed_active placed (full t) t) refl)

  -- what is said of a round is what it comes to

  pub even_ends : (cap : Caps) (ss : List ℕ) → CapsOf y cap → EndsEven cap ss → play cap ≡ ends (starts ss)
  even_ends cap ss c (placed, r, even, e) = go (play cap) (comes_to cap c)
    where
      go : (o : Outcome) → ComesTo cap o → o ≡ ends (starts ss)
      go (ends (starts us)) (p, q, ev, g) =
          ap (λ l. ends (starts l)) (sym g ∙ ap (λ cs. starts_in cs waiting) (one_round cap p placed q r) ∙ e)
      go (ends (none own)) (o, (p, t, full, q, u, i, a)) =
          absurd (u.1 (subst (λ cs. IsEvenAt s f cs t) (one_round cap placed p r q) (even t u.0)))
      go (lowers i t w) (p, u, full, empty, q, n, m, l, b, g) =
          absurd (n.1 (subst (λ cs. IsEvenAt s f cs u) (one_round cap placed p r q) (even u n.0)))

  -- a round in which a minute is uneven, one with the fullest line active and one without
  pub inactive_ends : (cap : Caps) → CapsOf y cap → EndsInactive cap → play cap ≡ ends (none 1)
  inactive_ends cap c (placed, t, full, r, u, i, a) = go (play cap) (comes_to cap c)
    where
      go : (o : Outcome) → ComesTo cap o → o ≡ ends (none 1)
      go (ends (starts us)) (p, q, ev, g) =
          absurd (u.1 (subst (λ cs. IsEvenAt s f cs t) (one_round cap p placed q r) (ev t u.0)))
      go (ends (none own)) (o, more) = ap (λ (k : ℕ). ends (none k)) o
      go (lowers j w k) (p, x, line, empty, q, n, m, l, b, e) =
          absurd (true≢false (sym b ∙ same ∙ a))
        where
          same_placed : p ≡ placed
          same_placed = one_round cap p placed q r

          same_minute : x ≡ t
          same_minute = one_minute placed x t (subst (λ cs. IsFirstUneven s f cs x) same_placed n) u

          same_line : line ≡ full
          same_line =
              one_full placed t line full
              (subst (λ (z : ℕ). IsFullest s f placed z line) same_minute (subst (λ cs. IsFullest s f cs x line) same_placed m))
              i

          same : placed_active p line x ≡ placed_active placed full t
          same = rw (same_placed, same_minute, same_line)

  lowers_is :
      (cap next : Caps)
      → CapsOf y cap
      → Lowers s f cap next
      → (i : ℕ) × (t : ℕ) × (w : ℕ) × (play cap ≡ lowers i t w) × (next ≡ lowered cap i t w)
  lowers_is cap next c (placed, t, full, empty, r, u, i, l, a, e) = go (play cap) (comes_to cap c)
    where
      go : (o : Outcome) → ComesTo cap o → (j : ℕ) × (x : ℕ) × (w : ℕ) × (o ≡ lowers j x w) × (next ≡ lowered cap j x w)
      go (ends (starts us)) (p, q, ev, g) =
          absurd (u.1 (subst (λ cs. IsEvenAt s f cs t) (one_round cap p placed q r) (ev t u.0)))
      go (ends (none own)) (o, (p, x, line, q, n, m, b)) = absurd (true≢false (sym a ∙ sym same ∙ b))
        where
          same_placed : p ≡ placed
          same_placed = one_round cap p placed q r

          same_minute : x ≡ t
          same_minute = one_minute placed x t (subst (λ cs. IsFirstUneven s f cs x) same_placed n) u

          same_line : line ≡ full
          same_line =
              one_full placed t line full
              (subst (λ (z : ℕ). IsFullest s f placed z line) same_minute (subst (λ cs. IsFullest s f cs x line) same_placed m))
              i

          same : placed_active p line x ≡ placed_active placed full t
          same = rw (same_placed, same_minute, same_line)
      go (lowers j x w) (p, minute, line, low, q, n, m, k, b, g) = (j, x, w, refl, e ∙ sym (g ∙ same))
        where
          same_placed : p ≡ placed
          same_placed = one_round cap p placed q r

          same_minute : minute ≡ t
          same_minute = one_minute placed minute t (subst (λ cs. IsFirstUneven s f cs minute) same_placed n) u

          same_line : line ≡ full
          same_line =
              one_full placed t line full
              (subst (λ (z : ℕ). IsFullest s f placed z line) same_minute
              (subst (λ cs. IsFullest s f cs minute line) same_placed m))
              i

          same_low : low ≡ empty
          same_low =
              one_empty placed t low empty
              (subst (λ (z : ℕ). IsEmptiest s f placed z low) same_minute
              (subst (λ cs. IsEmptiest s f cs minute low) same_placed k))
              l

          same :
              lowered cap line minute (count_with s f p low minute + y.bound)
              ≡ lowered cap full t (count_with s f placed empty t + y.bound)
          same = rw (same_placed, same_minute, same_line, same_low)

  -- The rounds

  abbrev first_caps : Caps
  first_caps = λ line t. (feeder_of (view s) f).limit

  pub caps_of : (n : ℕ) (cap : Caps) → AreCapsAfter s f n cap → CapsOf y cap
  caps_of zero cap e = subst (λ (c : Caps). CapsOf y c) (sym e) CapsOf.whole
  caps_of (suc n) cap (before, made, (placed, t, full, empty, r, u, i, l, a, e)) =
      subst (λ (c : Caps). CapsOf y c) (sym e)
      (CapsOf.after (caps_of n before made) full t (count_with s f placed empty t))

  -- what the replan comes to
  abbrev pub Ends : ℕ → Replanned → Type 0
  Ends allowance r =
      ((ss : List ℕ) × (n : ℕ) × (cap : Caps) × (n < allowance) × AreCapsAfter s f n cap × EndsEven cap ss × (r ≡ replanned (starts ss) (n + 1)))
      ⊎ (((n : ℕ) × (cap : Caps) × (n < allowance) × AreCapsAfter s f n cap × EndsInactive cap × (r ≡ replanned (none 1) (n + 1)))
      ⊎ ((cap : Caps) × AreCapsAfter s f allowance cap × (r ≡ replanned (none 2) allowance)))

  rounds_end :
      (left made n allowance : ℕ) (cap : Caps)
      → AreCapsAfter s f n cap
      → made ≡ n + 1
      → n + left + 1 ≡ allowance
      → Ends allowance (rounds_from play left made cap)
  unfolding rounds_from
  rounds_end zero made n allowance cap after e g = go (play cap) refl (comes_to cap (caps_of n cap after))
    where
      go :
          (o : Outcome)
          → play cap ≡ o
          → ComesTo cap o
          → Ends allowance (go_on made (λ c. record { proposal = none 2; rounds = made }) cap o)
      go (ends (starts ss)) p q = inl (ss, n, cap, omega arith, after, q, ap (replanned (starts ss)) e)
      go (ends (none own)) p (one, q) =
          inr (inl (n, cap, omega arith, after, q, ap (λ (k : ℕ). replanned (none k) made) one ∙ ap (replanned (none 1)) e))
      go (lowers i t w) p q =
          let last : suc n ≡ allowance = omega arith in
          let same : made ≡ allowance = omega arith in
          inr (inr (
            lowered cap i t w,
            subst (λ (k : ℕ). AreCapsAfter s f k (lowered cap i t w)) last (cap, after, q),
            ap (replanned (none 2)) same,
          ))
  rounds_end (suc left) made n allowance cap after e g =
      go (play cap) refl (comes_to cap (caps_of n cap after))
      (λ next more. rounds_end left (suc made) (suc n) allowance next more (omega arith) (omega arith))
    where
      go :
          (o : Outcome)
          → play cap ≡ o
          → ComesTo cap o
          → ((next : Caps) → AreCapsAfter s f (suc n) next → Ends allowance (rounds_from play left (suc made) next))
          → Ends allowance (go_on made (rounds_from play left (suc made)) cap o)
      go (ends (starts ss)) p q again = inl (ss, n, cap, omega arith, after, q, ap (replanned (starts ss)) e)
      go (ends (none own)) p (one, q) again =
          inr (inl (n, cap, omega arith, after, q, ap (λ (k : ℕ). replanned (none k) made) one ∙ ap (replanned (none 1)) e))
      go (lowers i t w) p q again = again (lowered cap i t w) (cap, after, q)

  -- the rounds that have been made lead to those that are left
  reaches :
      (n left all_left made : ℕ) (cap : Caps)
      → AreCapsAfter s f n cap
      → all_left ≡ n + left
      → made ≡ n + 1
      → rounds_from play all_left 1 first_caps ≡ rounds_from play left made cap
  unfolding rounds_from
  reaches zero left all_left made cap after e g =
      let l : all_left ≡ left = omega arith in
      let m : made ≡ 1 = omega arith in
      rw (l, m, after)
  reaches (suc n) left all_left made cap (before, after, lowering) e g =
      reaches n (suc left) all_left (suc n) before after (omega arith) (omega arith)
      ∙ go (lowers_is before cap (caps_of n before after) lowering)
    where
      go :
          (i : ℕ) × (t : ℕ) × (w : ℕ) × (play before ≡ lowers i t w) × (cap ≡ lowered before i t w)
          → rounds_from play (suc left) (suc n) before ≡ rounds_from play left made cap
      go (i, t, w, p, q) =
          let m : made ≡ suc (suc n) = omega arith in
          rw (p, rounds_from) (rw (m, q))

  pub lines_end : (allowance : ℕ) → 1 ≤ allowance → Ends allowance (by_lines y s.clock allowance held)
  unfolding by_lines
  lines_end allowance low = rounds_end (allowance - 1) 1 0 allowance first_caps refl (omega arith) (omega arith)

  -- a round that ends the replan
  pub stops :
      (allowance n : ℕ) (cap : Caps) (p : Proposal)
      → n < allowance
      → AreCapsAfter s f n cap
      → play cap ≡ ends p
      → by_lines y s.clock allowance held ≡ replanned p (n + 1)
  unfolding by_lines rounds_from
  stops allowance n cap p less after e =
      reaches n (allowance - 1 - n) (allowance - 1) (n + 1) cap after (omega arith) refl ∙ go (allowance - 1 - n)
    where
      go : (left : ℕ) → rounds_from play left (n + 1) cap ≡ replanned p (n + 1)
      go zero = rw (e, rounds_from)
      go (suc left) = rw (e, rounds_from)

  pub spent :
      (allowance : ℕ) (cap : Caps)
      → AreCapsAfter s f allowance cap
      → 1 ≤ allowance
      → by_lines y s.clock allowance held ≡ replanned (none 2) allowance
  unfolding by_lines rounds_from
  spent zero cap after low = absurd (omega arith)
  spent (suc n) cap (before, after, lowering) low =
      reaches n 0 (suc n - 1) (n + 1) before after (omega arith) refl
      ∙ go (lowers_is before cap (caps_of n before after) lowering)
    where
      go :
          (i : ℕ) × (t : ℕ) × (w : ℕ) × (play before ≡ lowers i t w) × (cap ≡ lowered before i t w)
          → rounds_from play 0 (n + 1) before ≡ replanned (none 2) (suc n)
      go (i, t, w, p, q) =
          let m : n + 1 ≡ suc n = omega arith in
          rw (p, rounds_from) (ap (replanned (none 2)) m)
