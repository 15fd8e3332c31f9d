-- The walk of a board along the held charges and the tickets: the answers so far, and how many charges were passed.
use mathlib.Core.Path.{◌≡◌, refl, sym, ap, ◌∙◌}
use Prim.Native.Nat.{ℕ, ◌+◌, ◌-◌, ◌≤◌, ◌<◌}
use mathlib.Core.Bool.{Bool, true, false, cond, ◌&&◌}
use mathlib.Core.List.{List}
use mathlib.Core.Logic.{◌⊎◌, inl, inr}
use native.Mathlib.Omega.{arith}
use lib.Dec.{ltb, leb, eqb}
use lib.ListN.{length, get_or, set, length-set}
use borrow.Author.Tests.{lt-ltb, ltb-true, leb-true, leb-false, le-leb, lt-leb}
use Rattle.rules.specs.Basics.{tabulate}
use Rattle.rules.specs.Charge.{Charge}
use Rattle.rules.specs.Calls.{is_looked_at}
use Rattle.rules.proofs.Ranges.{below_or_not, and_left, and_right}
use Rattle.rules.proofs.Lists.{tabulate_next, each_tabulate}
use Rattle.charges.specs.declared.Charges.{Charges}
use Rattle.charges.specs.Arrays.{charge_at, charges_of}
use Rattle.charges.proofs.TicketOrder.{rising_all}
use Rattle.boards.specs.Board.{answered_by, CanBoard, Boarded}
use Rattle.boards.proofs.Ascending.{rises_apart}
use Rattle.boards.proofs.Showing.{answered_none, answered_before, answered_more}
use Rattle.boards.proofs.Looking.{some_at, some_not, keep_first}
use Rattle.charges.proofs.Members.{tabulate_parts}

-- i charges are passed, which have given their answers, and j tickets are done: no charge that is left has one of them
pub record Walked (c : Charges) (asked entry : List ℕ) (list : List ℕ) (i j : ℕ) : Type 0 where
  pub place : i ≤ c.held
  pub answered : j ≤ length asked
  pub same_length : length list ≡ length entry
  pub sum : list ≡ answered_by (tabulate (charge_at c) i 0) asked entry
  pub looked : (k : ℕ) → k < i → is_looked_at asked (charge_at c k) ≡ true
  pub above : (k : ℕ) → i ≤ k → k < c.held → (l : ℕ) → l < j → get_or asked l 0 < (charge_at c k).ticket

-- `looked` is what the test gave
pub looked_inside : (i n t u : ℕ) (looked : Bool) → looked ≡ ltb i n && leb t u → looked ≡ true → i < n
looked_inside i n t u looked e h = ltb-true i n (and_left (ltb i n) (leb t u) (rw e at h))

pub walked_none : (c : Charges) (asked entry : List ℕ) → Walked c asked entry entry 0 0
walked_none c asked entry =
    record {
      place = omega arith;
      answered = omega arith;
      same_length = refl;
      sum = sym (answered_none asked entry);
      looked = λ k l. absurd (omega arith);
      above = λ k a b l d. absurd (omega arith);
    }

module _ {c : Charges} {asked entry list : List ℕ} {i j : ℕ} (can : CanBoard c asked entry) (w : Walked c asked entry list i j) where
  abbrev g : ℕ → Charge
  g = charge_at c

  module _ (more : j < length asked) where
    abbrev ticket : ℕ
    ticket = get_or asked j 0

    -- the charge at the place is looked at: it has this ticket, or none that is asked for
    pub walked_on :
        {looked : Bool} {list' : List ℕ} {i' : ℕ}
        → looked ≡ ltb i c.held && leb (g i).ticket ticket
        → looked ≡ true
        → list' ≡ set list j (cond (eqb (g i).ticket ticket) (g i).start (get_or list j 0))
        → i' ≡ i + 1
        → Walked c asked entry list' i' j
    walked_on {looked} {list'} {i'} e y s n =
        rw n
        (record {
          place = omega (arith, inside);
          answered = w.answered;
          same_length = ap length s ∙ length-set list j (cond (eqb (g i).ticket ticket) (g i).start (get_or list j 0)) ∙ w.same_length;
          sum =
              s
              ∙ rw (w.sum, tabulate_next g i)
              (answered_more (tabulate g i 0) (g i) asked entry j
              (each_tabulate (λ x. x.ticket ≡ (g i).ticket → ⊥) g i 0
              (λ k a b q. omega (arith, q, rising_all c can.rising k i (omega arith) inside)))
              more
              can.room
              (λ l a ne q. elsewhere l a (below_or_not l j) ne q));
          looked = λ k l. looked_here k (below_or_not k i) l;
          above = λ k a b l d. w.above k (omega arith) b l d;
        })
      where
        inside : i < c.held
        inside = looked_inside i c.held (g i).ticket ticket looked e y

        not_above : (g i).ticket ≤ ticket
        not_above = leb-true (g i).ticket ticket (and_right (ltb i c.held) (leb (g i).ticket ticket) (rw e at y))

        elsewhere : (l : ℕ) → l < length asked → (l < j) ⊎ (j ≤ l) → (l ≡ j → ⊥) → (g i).ticket ≡ get_or asked l 0 → ⊥
        elsewhere l a (inl d) ne q = omega (arith, q, w.above i (omega arith) inside l d)
        elsewhere l a (inr d) ne q = omega (arith, q, not_above, rises_apart 0 asked can.rises j l (later (below_or_not j l)) a)
          where
            later : (j < l) ⊎ (l ≤ j) → j < l
            later (inl f) = f
            later (inr f) = absurd (ne (omega arith))

        looked_here : (k : ℕ) → (k < i) ⊎ (i ≤ k) → k < i + 1 → is_looked_at asked (g k) ≡ true
        looked_here k (inl d) l = w.looked k d
        looked_here k (inr d) l =
            let same : k ≡ i = omega arith in
            rw same (some_at (leb (g i).ticket) asked j more (le-leb (g i).ticket ticket not_above))

    -- no charge from the place on has the ticket
    pub walked_answered :
        {looked : Bool} {j' : ℕ}
        → looked ≡ ltb i c.held && leb (g i).ticket ticket
        → looked ≡ false
        → j' ≡ j + 1
        → Walked c asked entry list i j'
    walked_answered {looked} {j'} e y n =
        rw n
        (record {
          place = w.place;
          answered = omega arith;
          same_length = w.same_length;
          sum = w.sum;
          looked = w.looked;
          above = λ k a b l d. or_here k a b l (below_or_not l j) d;
        })
      where
        first_above : i < c.held → ticket < (g i).ticket
        first_above h = leb-false (g i).ticket ticket (rw (e, lt-ltb i c.held h) at y)

        each_above : (k : ℕ) → i ≤ k → k < c.held → ticket < (g k).ticket
        each_above k a b = go (below_or_not i k)
          where
            go : (i < k) ⊎ (k ≤ i) → ticket < (g k).ticket
            go (inl d) = omega (arith, first_above (omega arith), rising_all c can.rising i k d b)
            go (inr d) = let same : k ≡ i = omega arith in rw same (first_above (omega arith))

        or_here : (k : ℕ) → i ≤ k → k < c.held → (l : ℕ) → (l < j) ⊎ (j ≤ l) → l < j + 1 → get_or asked l 0 < (g k).ticket
        or_here k a b l (inl d) m = w.above k a b l d
        or_here k a b l (inr d) m = let same : l ≡ j = omega arith in rw same (each_above k a b)

  -- every ticket is done: the charges that are left have none of them
  pub walked_end : j ≡ length asked → Boarded (charges_of c) asked entry list i
  walked_end e =
      record {
        looked_at =
            sym
            (keep_first (is_looked_at asked) g i c.held w.place w.looked
            (λ k a b. some_not (leb (g k).ticket) asked (λ l d. lt-leb (g k).ticket (get_or asked l 0) (w.above k a b l (omega arith)))));
        list_is = w.sum ∙ sym all;
      }
    where
      all : answered_by (charges_of c) asked entry ≡ answered_by (tabulate g i 0) asked entry
      all =
          let whole : i + (c.held - i) ≡ c.held = omega (arith, w.place) in
          ap (λ (n : ℕ). answered_by (tabulate g n 0) asked entry) (sym whole)
          ∙ ap (λ l. answered_by l asked entry) (tabulate_parts g i (c.held - i))
          ∙ answered_before (tabulate g i 0) (tabulate g (c.held - i) i) asked entry
          (λ l d.
          each_tabulate (λ x. x.ticket ≡ get_or asked l 0 → ⊥) g (c.held - i) i (λ k a b q. omega (arith, q, w.above k a (omega arith) l (omega arith))))
