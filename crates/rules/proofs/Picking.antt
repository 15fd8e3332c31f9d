-- Replan by lines places every waiting charge once: in each line a start is found, a charge is taken, and the others are left.
use mathlib.Core.Logic.{◌⊎◌, inl, inr}
use mathlib.Core.Path.{◌≡◌, refl, sym, ◌∙◌, ap}
use Prim.Native.Nat.{ℕ, zero, suc, ◌-◌, max, ◌≤◌, ◌<◌}
use mathlib.Core.Bool.{Bool, true, false, cond, not, true≢false, false≢true}
use mathlib.Core.List.{List, [], ◌∷◌, ◌++◌, append_assoc, append-nil}
use native.Mathlib.Omega.{arith}
use lib.Dec.{eqb}
use lib.ListN.{length}
use borrow.Author.Tests.{eq-eqb, ne_eqb}
use Rattle.rules.specs.Basics.{Each, at, keep, some}
use Rattle.rules.specs.Load.{Load, last_until}
use Rattle.rules.specs.Charge.{Charge, starting, draw_of, loads_of, is_waiting, waiting_charges}
use Rattle.rules.specs.Search.{Caps}
use Rattle.rules.specs.Priority.{Crowd, crowd_of, taken_before, Pick, chosen, foremost, Fitting, fits_at, first_fit, picked, without_ticket}
use Rattle.rules.specs.Replan.{all, place_on, of_line}
use Rattle.rules.specs.Valid.{Rising}
pub use Rattle.rules.specs.laws.Placing.{tickets, up_to_line, LinesPlaced}
use Rattle.rules.specs.laws.Placing.{LinesHaveEveryCharge, ChargesUnderCapsArePlaced}
use Rattle.rules.proofs.Ranges.{below_or_not, first-none, found_or_not}
use Rattle.rules.proofs.Lists.{map-append, keep_each}
use Rattle.rules.proofs.Searches.{under_past}
use Rattle.rules.proofs.Sorting.{Inserted, here, later, Rearranged, none, more, inserted_length}
use Rattle.rules.proofs.Tickets.{rising_from, rising_keep}
use Rattle.rules.proofs.Rounds.{AtLeast}
use Rattle.rules.proofs.Fitting.{first_fit_first}

-- The charge that is taken

-- a member of a list
pub data Among (c : Charge) : List Charge → Type 0 where
  front : {l : List Charge} → Among c (c ∷ l)
  behind : {d : Charge} {l : List Charge} → Among c l → Among c (d ∷ l)

pub among_each : (P : Charge → Type 0) {c : Charge} {l : List Charge} → Among c l → Each P l → P c
among_each P front e = e.0
among_each P (behind m) e = among_each P m e.1

among_longer : {c d : Charge} {k l : List Charge} → (Among c k → Among c l) → Among c (d ∷ k) → Among c (d ∷ l)
among_longer f front = front
among_longer f (behind m) = behind (f m)

pub among_keep : (f : Charge → Bool) (c : Charge) (l : List Charge) → Among c (keep f l) → Among c l
among_keep f c [] m = m
among_keep f c (d ∷ l) m = go (f d) m (among_keep f c l)
  where
    go : (b : Bool) → Among c (cond b (d ∷ keep f l) (keep f l)) → (Among c (keep f l) → Among c l) → Among c (d ∷ l)
    go true q rest = among_longer rest q
    go false q rest = behind (rest q)

-- one of the charges is taken
pub record Taken (before : Charge → Charge → Bool) (l : List Charge) : Type 0 where
  pub who : Charge
  pub gives : foremost before l ≡ chosen who
  pub member : Among who l

pub taken_one : (before : Charge → Charge → Bool) (c : Charge) (l : List Charge) → Taken before (c ∷ l)
taken_one before c [] = record { who = c; gives = refl; member = front }
taken_one before c (d ∷ l) = go (taken_one before d l)
  where
    go : Taken before (d ∷ l) → Taken before (c ∷ d ∷ l)
    go t = pick (before t.who c) refl
      where
        pick : (b : Bool) → before t.who c ≡ b → Taken before (c ∷ d ∷ l)
        pick true p = record { who = t.who; gives = rw (t.gives, p); member = behind t.member }
        pick false p = record { who = c; gives = rw (t.gives, p); member = front }

-- where one passes, the list of those that pass is not empty
some_kept : (f : Charge → Bool) (l : List Charge) → some f l ≡ true → (c : Charge) × ((m : List Charge) × (keep f l ≡ c ∷ m))
some_kept f [] e = absurd (false≢true e)
some_kept f (d ∷ l) e = go (f d) refl (some_kept f l)
  where
    go :
        (b : Bool)
        → f d ≡ b
        → (some f l ≡ true → (c : Charge) × ((m : List Charge) × (keep f l ≡ c ∷ m)))
        → (c : Charge) × ((m : List Charge) × (keep f (d ∷ l) ≡ c ∷ m))
    go true p rest = (d, (keep f l, rw p))
    go false p rest = let r = rest (rw p at e) in (r.0, (r.1.0, rw p r.1.1))

-- where one fits, one is taken
pub taken_some :
    (before : Charge → Charge → Bool) (f : Charge → Bool) (l : List Charge) → some f l ≡ true → Taken before (keep f l)
taken_some before f l e = go (some_kept f l e)
  where
    go : (c : Charge) × ((m : List Charge) × (keep f l ≡ c ∷ m)) → Taken before (keep f l)
    go (c, (m, k)) = rw k (taken_one before c m)

-- what is taken is one of the charges that are left, at the smallest start at which one fits
pub record Picked (fits : Fitting) (clock : ℕ) (xs : List Load) (q : Crowd) (left : List Charge) : Type 0 where
  pub who : Charge
  pub start : ℕ
  pub smallest : first_fit fits clock xs left ≡ at start
  pub foremost_there : foremost (taken_before q start) (keep (fits xs start) left) ≡ chosen who
  pub gives : picked fits clock xs q left ≡ chosen (starting who start)
  pub member : Among who left

pub picked_at :
    (fits : Fitting) (clock : ℕ) (xs : List Load) (q : Crowd) (left : List Charge) (s : ℕ)
    → first_fit fits clock xs left ≡ at s
    → Picked fits clock xs q left
unfolding picked
picked_at fits clock xs q left s e =
    let t : Taken (taken_before q s) (keep (fits xs s) left)
    = taken_some (taken_before q s) (fits xs s) left (first_fit_first fits clock xs left s e).here in
    record {
      who = t.who;
      start = s;
      smallest = e;
      foremost_there = t.gives;
      gives = rw (e, picked) (rw t.gives);
      member = among_keep (fits xs s) t.who left t.member;
    }

-- The charges that are left

without_none : (t : ℕ) (l : List Charge) → Each (λ d. suc t ≤ d.ticket) l → without_ticket t l ≡ l
without_none t [] e = refl
without_none t (d ∷ l) e =
    rw (ne_eqb d.ticket t (λ q. absurd (omega (arith, e.0))), without_none t l e.1)

-- a ticket that is placed is left out, once
pub left_out :
    {c : Charge} (i : ℕ) {l : List Charge}
    → Among c l
    → Rising i l
    → Inserted c.ticket (tickets (without_ticket c.ticket l)) (tickets l)
left_out {c} i (front {l = l}) r =
    rw (eq-eqb c.ticket c.ticket refl, without_none c.ticket l (rising_from (suc c.ticket) l r.1)) here
left_out {c} i (behind {d = d} {l = l} m) r =
    let low : suc d.ticket ≤ c.ticket
    = among_each (λ x. suc d.ticket ≤ x.ticket) m (rising_from (suc d.ticket) l r.1) in
    rw (ne_eqb d.ticket c.ticket (λ q. absurd (omega arith))) (later (left_out (suc d.ticket) m r.1))

tickets_length : (l : List Charge) → length (tickets l) ≡ length l
tickets_length [] = refl
tickets_length (c ∷ l) = rw (tickets_length l)

-- A line

-- the charges of a line are placed, each once
pub record LinePlaced (pick : List Charge → List Charge → Pick) (k : ℕ) (placed left : List Charge) : Type 0 where
  pub new : List Charge
  pub gives : place_on pick k placed left ≡ all (placed ++ new)
  pub each : Rearranged (tickets new) (tickets left)

inserted_append : {A : Type 0} {a : A} {l m : List A} (n : List A) → Inserted a l m → Inserted a (l ++ n) (m ++ n)
inserted_append n here = here
inserted_append n (later r) = later (inserted_append n r)

rearranged_append :
    {A : Type 0} {a b c d : List A} → Rearranged a b → Rearranged c d → Rearranged (a ++ c) (b ++ d)
rearranged_append none s = s
rearranged_append {d = d} (more r i) s = more (rearranged_append r s) (inserted_append d i)

-- charges that fit wherever nothing else is drawn
module _
    (fits : Fitting) (P : Charge → Type 0)
    (alone : (xs : List Load) (s : ℕ) (c : Charge) → P c → last_until xs ≤ s → fits xs s c ≡ true) (clock : ℕ) where
  -- while a charge is left, there is a start at which one fits
  pub first_fit_found :
      (xs : List Load) (c : Charge) (cs : List Charge) → P c → (s : ℕ) × (first_fit fits clock xs (c ∷ cs) ≡ at s)
  unfolding first_fit
  first_fit_found xs c cs h =
      found_or_not (first_fit fits clock xs (c ∷ cs))
      (λ none.
      true≢false
      (sym (rw (alone xs (max clock (last_until xs)) c h (omega arith)))
      ∙ first-none (λ u. some (fits xs u) (c ∷ cs)) (suc (last_until xs - clock)) clock none (max clock (last_until xs))
      (omega arith) (omega arith)))

  pub picked_one :
      (xs : List Load) (q : Crowd) (c : Charge) (cs : List Charge) → P c → Picked fits clock xs q (c ∷ cs)
  picked_one xs q c cs h = go (first_fit_found xs c cs h)
    where
      go : (s : ℕ) × (first_fit fits clock xs (c ∷ cs) ≡ at s) → Picked fits clock xs q (c ∷ cs)
      go (s, e) = picked_at fits clock xs q (c ∷ cs) s e

  module _ (base : List Load) (q : Crowd) where
    abbrev pick_in : List Charge → List Charge → Pick
    pick_in placed left = picked fits clock (base ++ loads_of placed) q left

    pub line_placed :
        (k i : ℕ) (placed left : List Charge) → length left ≡ k → Rising i left → Each P left → LinePlaced pick_in k placed left
    unfolding place_on
    line_placed zero i placed [] e r h = record { new = []; gives = rw (append-nil placed); each = none }
    line_placed zero i placed (c ∷ cs) e r h = absurd (omega arith)
    line_placed (suc k) i placed [] e r h = absurd (omega arith)
    line_placed (suc k) i placed (c ∷ cs) e r h =
        go (picked_one (base ++ loads_of placed) q c cs h.0) (line_placed k i)
      where
        go :
            Picked fits clock (base ++ loads_of placed) q (c ∷ cs)
            → ((placed left : List Charge) → length left ≡ k → Rising i left → Each P left → LinePlaced pick_in k placed left)
            → LinePlaced pick_in (suc k) placed (c ∷ cs)
        go p next =
            let t : ℕ = p.who.ticket in
            let out = left_out i p.member r in
            let size : length (without_ticket t (c ∷ cs)) ≡ k
            = omega (
              arith,
              inserted_length out,
              tickets_length (c ∷ cs),
              tickets_length (without_ticket t (c ∷ cs)),
            ) in
            let rest
            = next (placed ++ (starting p.who p.start ∷ [])) (without_ticket t (c ∷ cs)) size
            (rising_keep i (λ d. not (eqb d.ticket t)) (c ∷ cs) r)
            (keep_each P (λ d. not (eqb d.ticket t)) (c ∷ cs) h) in
            record {
              new = starting p.who p.start ∷ rest.new;
              gives =
                  rw (p.gives, place_on)
                  (rest.gives ∙ ap all (append_assoc placed (starting p.who p.start ∷ []) rest.new));
              each = more rest.each out;
            }

  -- The lines of a round

  pub lines_placed_lem :
      (base : List Load) (waiting : List Charge) (l : ℕ) → Rising 1 waiting → Each P waiting → LinesPlaced fits clock base waiting l
  lines_placed_lem base waiting zero r h = record { plan = []; gives = refl; each = none }
  lines_placed_lem base waiting (suc l) r h = go (lines_placed_lem base waiting l r h)
    where
      go : LinesPlaced fits clock base waiting l → LinesPlaced fits clock base waiting (suc l)
      go p =
          let own : List Charge = of_line (suc l) waiting in
          let n = line_placed base (crowd_of own) (length own) 1 p.plan own refl
          (rising_keep 1 (λ c. eqb c.line (suc l)) waiting r) (keep_each P (λ c. eqb c.line (suc l)) waiting h) in
          record {
            plan = p.plan ++ n.new;
            gives = rw p.gives n.gives;
            each =
                rw (
                  map-append (λ (x : Charge). x.ticket) p.plan n.new,
                  map-append (λ (x : Charge). x.ticket) (up_to_line l waiting) own,
                )
                (rearranged_append p.each n.each);
          }

-- every charge is on one of the lines
pub lines_whole : LinesHaveEveryCharge
lines_whole [] e = none
lines_whole (c ∷ cs) e = more (lines_whole cs e.1) (go (below_or_not c.line 2) (below_or_not 2 c.line))
  where
    put : (xs ys : List Charge) → Inserted c.ticket (tickets (xs ++ ys)) (tickets (xs ++ (c ∷ ys)))
    put [] ys = here
    put (x ∷ xs) ys = later (put xs ys)

    go :
        (c.line < 2) ⊎ (2 ≤ c.line)
        → (2 < c.line) ⊎ (c.line ≤ 2)
        → Inserted c.ticket (tickets (up_to_line 3 cs)) (tickets (up_to_line 3 (c ∷ cs)))
    go (inl h) k =
        rw (
          eq-eqb c.line 1 (omega (arith, e.0.low)),
          ne_eqb c.line 2 (λ q. absurd (omega arith)),
          ne_eqb c.line 3 (λ q. absurd (omega arith)),
        )
        here
    go (inr h) (inl k) =
        rw (
          ne_eqb c.line 1 (λ q. absurd (omega arith)),
          ne_eqb c.line 2 (λ q. absurd (omega arith)),
          eq-eqb c.line 3 (omega (arith, e.0.high)),
        )
        (put (of_line 1 cs ++ of_line 2 cs) (of_line 3 cs))
    go (inr h) (inr k) =
        rw (
          ne_eqb c.line 1 (λ q. absurd (omega arith)),
          eq-eqb c.line 2 (omega arith),
          ne_eqb c.line 3 (λ q. absurd (omega arith)),
          append_assoc (of_line 1 cs) (of_line 2 cs) (of_line 3 cs),
          append_assoc (of_line 1 cs) (c ∷ of_line 2 cs) (of_line 3 cs),
        )
        (put (of_line 1 cs) (of_line 2 cs ++ of_line 3 cs))

-- A charge fits under the caps wherever nothing else is drawn, if its rate is not above them and W.
pub fits_alone :
    (k w : ℕ) (cap : Caps)
    → k ≤ w
    → AtLeast k cap
    → (xs : List Load) (s : ℕ) (c : Charge)
    → c.rate ≤ k
    → last_until xs ≤ s
    → fits_at w cap xs s c ≡ true
fits_alone k w cap n h xs s c r past =
    under_past w cap xs (draw_of c) s (λ t. omega (arith, h c.line t)) (omega arith) past

-- In a round every waiting charge gets a start: no cap is below D, for it is N or a count plus D, and no rate is above D or W.
pub round_places : ChargesUnderCapsArePlaced
round_places k w cap clock base held n h rates r =
    lines_placed_lem (fits_at w cap) (λ c. c.rate ≤ k) (fits_alone k w cap n h) clock base (waiting_charges clock held) 3
    (rising_keep 1 (is_waiting clock) held r)
    (keep_each (λ c. c.rate ≤ k) (is_waiting clock) held rates)
