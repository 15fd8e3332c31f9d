-- What charges draw, column by column, and with one load more.
use mathlib.Core.Path.{◌≡◌, refl, ap, sym, ◌∙◌}
use Prim.Native.Nat.{ℕ, zero, suc, ◌+◌, ◌-◌, ◌≤◌, ◌<◌}
use mathlib.Core.Bool.{Bool, true, false, cond}
use mathlib.Core.List.{List, ◌++◌, map}
use native.Mathlib.Omega.{arith}
use lib.Dec.{ltb}
use lib.ListN.{length, get_or, take, replicate, get_or-append, get_or-replicate, length-replicate}
use lib.Seq.{get_or-append-add, length-take-le}
use borrow.Rule.Slice.PartMut.{put_mid, post_of}
use Rattle.std.proofs.lemmas.List.{get_or-take}
use Rattle.rules.specs.Basics.{keep, tabulate}
use Rattle.rules.specs.Load.{Load, draw, load_from, elsewhere}
use Rattle.rules.specs.Charge.{Charge, load_of, loads_of, begun_charges}
use Rattle.rules.proofs.Ranges.{along}
use Rattle.rules.proofs.Lists.{length_tabulate, tabulate_same, map_tabulate}
use Rattle.charges.specs.declared.Charges.{Charges}
use Rattle.charges.specs.Arrays.{charge_at, charges_of}
use Rattle.charges.specs.Drawn.{load_in, loads_in, seen_from}
use Rattle.charges.proofs.Members.{map_keep, tabulate_parts}

-- One feeder

pub loads_in_lem : (c : Charges) → loads_of (charges_of c) ≡ loads_in c.held c.lines c.active_times c.starts c.rates
loads_in_lem c = map_tabulate load_of (charge_at c) c.held 0

-- the loads of the charges that start below a minute are those that draw from below it
pub loads_begun : (before : ℕ) (cs : List Charge) → loads_of (begun_charges before cs) ≡ keep (λ x. ltb x.from before) (loads_of cs)
loads_begun before cs = map_keep load_of (λ x. ltb x.from before) cs

-- Several feeders

-- what the charge at a place draws, on its own line or as another feeder's
abbrev seen_at : Bool → Charges → ℕ → Load
seen_at own c i =
    load_from (draw (cond own (get_or c.lines i 0) 4) (get_or c.active_times i 0) (get_or c.rates i 0)) (get_or c.starts i 0)

all_seen : (own : Bool) (c : Charges) → tabulate (seen_at own c) c.held 0 ≡ seen_from own (loads_of (charges_of c))
all_seen true c = sym (loads_in_lem c)
all_seen false c =
    sym (ap (map elsewhere) (loads_in_lem c) ∙ map_tabulate elsewhere (load_in c.lines c.active_times c.starts c.rates) c.held 0)

-- what the first n places of four columns lend
pub loads_cut :
    (n : ℕ) (lines active_times starts rates : List ℕ)
    → n ≤ length starts
    → loads_in (length (take n starts)) (take n lines) (take n active_times) (take n starts) (take n rates)
    ≡ loads_in n lines active_times starts rates
loads_cut n lines active_times starts rates h =
    rw (length-take-le n starts h)
    (tabulate_same (load_in (take n lines) (take n active_times) (take n starts) (take n rates)) (load_in lines active_times starts rates) n 0
    (λ i a b.
    let l : i < n = omega arith in
    rw (get_or-take n lines i 0 l, get_or-take n active_times i 0 l, get_or-take n starts i 0 l, get_or-take n rates i 0 l) refl))

pub loads_length : (n : ℕ) (lines active_times starts rates : List ℕ) → length (loads_in n lines active_times starts rates) ≡ n
loads_length n lines active_times starts rates = length_tabulate (load_in lines active_times starts rates) n 0

-- What one feeder more draws, behind the first k loads

-- a column has these n numbers behind its first k
pub record Behind (k n : ℕ) (xs next : List ℕ) (number : ℕ → ℕ) : Type 0 where
  pub before : (j : ℕ) → j < k → get_or next j 0 ≡ get_or xs j 0
  pub behind : (i : ℕ) → i < n → get_or next (k + i) 0 ≡ number i

module _ (k n : ℕ) (xs : List ℕ) (inside : k ≤ length xs) where
  long : length (take k xs) ≡ k
  long = length-take-le k xs inside

  written : (ys : List ℕ) {next : List ℕ} → n ≤ length ys → next ≡ put_mid k (k + n - k) xs ys → Behind k n xs next (λ i. get_or ys i 0)
  written ys l e =
      let rest = post_of k (k + n - k) xs in
      record {
        before = λ j h. rw e (get_or-append (take k xs) (ys ++ rest) 0 j (omega (arith, long)) ∙ get_or-take k xs j 0 h);
        behind = λ i h.
            rw e
            (ap (λ (q : ℕ). get_or (take k xs ++ (ys ++ rest)) (q + i) 0) (sym long)
            ∙ get_or-append-add (take k xs) (ys ++ rest) i 0
            ∙ get_or-append ys rest 0 i (omega (arith, l)));
      }

  pub copied : (zs : List ℕ) {next : List ℕ} → n ≤ length zs → next ≡ put_mid k (k + n - k) xs (take n zs) → Behind k n xs next (λ i. get_or zs i 0)
  copied zs l e =
      let w = written (take n zs) (omega (arith, length-take-le n zs l)) e in
      record { before = w.before; behind = λ i h. w.behind i h ∙ get_or-take n zs i 0 h }

  pub filled : (v : ℕ) {next : List ℕ} → next ≡ put_mid k (k + n - k) xs (replicate n v) → Behind k n xs next (λ i. v)
  filled v e =
      let w = written (replicate n v) (omega (arith, length-replicate {A = ℕ} n v)) e in
      record { before = w.before; behind = λ i h. w.behind i h ∙ get_or-replicate n i v 0 h }

-- the same list made from other places
tabulate_moved :
    {A : Type 0} (f g : ℕ → A) (n a b : ℕ) → ((i : ℕ) → i < n → f (a + i) ≡ g (b + i)) → tabulate f n a ≡ tabulate g n b
tabulate_moved f g zero a b h = refl
tabulate_moved f g (suc n) a b h =
    let x : a + 0 ≡ a = omega arith in
    let y : b + 0 ≡ b = omega arith in
    rw ((rw (x, y) at (h 0 (omega arith))), tabulate_moved f g n (suc a) (suc b) (λ i l. rw (← (along a i), ← (along b i)) (h (suc i) (omega arith))))

pub joined :
    (own : Bool) (c : Charges) (k : ℕ) (lines active_times starts rates : List ℕ) {lines' active_times' starts' rates' : List ℕ}
    → Behind k c.held lines lines' (λ i. cond own (get_or c.lines i 0) 4)
    → Behind k c.held active_times active_times' (λ i. get_or c.active_times i 0)
    → Behind k c.held starts starts' (λ i. get_or c.starts i 0)
    → Behind k c.held rates rates' (λ i. get_or c.rates i 0)
    → loads_in (k + c.held) lines' active_times' starts' rates'
    ≡ loads_in k lines active_times starts rates ++ seen_from own (loads_of (charges_of c))
joined own c k lines active_times starts rates {lines'} {active_times'} {starts'} {rates'} l a s r =
    tabulate_parts next k c.held
    ∙ rw (
      ← (all_seen own c),
      tabulate_same next (load_in lines active_times starts rates) k 0
          (λ j p q. let h : j < k = omega arith in rw (l.before j h, a.before j h, s.before j h, r.before j h) refl),
      tabulate_moved next (seen_at own c) c.held k 0
          (λ i h. let z : 0 + i ≡ i = omega arith in rw (z, l.behind i h, a.behind i h, s.behind i h, r.behind i h) refl),
    )
  where
    next : ℕ → Load
    next = load_in lines' active_times' starts' rates'
