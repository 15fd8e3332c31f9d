-- What a round of replan by lines places: each charge in turn under the caps, and not past the last end, whatever the priority.
use mathlib.Core.Path.{◌≡◌, refl}
use Prim.Native.Nat.{ℕ, zero, suc, ◌+◌, ◌-◌, max, ◌≤◌, ◌<◌}
use mathlib.Core.Bool.{true}
use mathlib.Core.List.{List, [], ◌∷◌, ◌++◌}
use native.Mathlib.Omega.{arith}
use lib.ListN.{length}
use Rattle.rules.specs.Basics.{Found, at, nothing}
use Rattle.rules.specs.Load.{Load, last_until}
use Rattle.rules.specs.Charge.{Charge, starting, draw_of, loads_of}
use Rattle.rules.specs.Search.{Caps}
use Rattle.rules.specs.Priority.{Crowd, crowd_of, Pick, chosen, nobody, taken_before, fits_at, first_fit, picked, without_ticket}
use Rattle.rules.specs.Replan.{Placed, all, stuck, place_on, of_line, place_lines}
use Rattle.rules.proofs.Lists.{kept_pass}
use Rattle.rules.proofs.Fitting.{first_fit_first}
use Rattle.rules.proofs.Picking.{Among, among_each, among_keep, taken_some}
use Rattle.allowance.specs.Allowance.{drawn_time}
use Rattle.allowance.proofs.Placings.{UnderCap, under_at, PlacedUnder, done, next, under_then}
use Rattle.allowance.proofs.Drawing.{drawn_append, drawn_without, drawn_lines_lem}

stuck_apart : {plan : List Charge} → stuck ≡ all plan → ⊥
stuck_apart {plan} q = let z : ◌≡◌ {A = ℕ} 0 1 = cc in omega arith

nobody_apart : {c : Charge} → nobody ≡ chosen c → ⊥
nobody_apart {c} q = let z : ◌≡◌ {A = ℕ} 0 1 = cc in omega arith

-- a charge that is taken: one of those left, at a start at which it fits, not past the last end
record Chosen (cap : Caps) (clock : ℕ) (xs : List Load) (left : List Charge) (c : Charge) : Type 0 where
  who : Charge
  start : ℕ
  is : starting who start ≡ c
  member : Among who left
  under : UnderCap cap xs (draw_of who) start
  high : start ≤ max clock (last_until xs)

picked_chosen :
    (w : ℕ) (cap : Caps) (clock : ℕ) (xs : List Load) (q : Crowd) (left : List Charge) (c : Charge)
    → picked (fits_at w cap) clock xs q left ≡ chosen c
    → Chosen cap clock xs left c
unfolding picked
picked_chosen w cap clock xs q left c e = go (first_fit (fits_at w cap) clock xs left) refl
  where
    go : (f : Found) → first_fit (fits_at w cap) clock xs left ≡ f → Chosen cap clock xs left c
    go nothing p = absurd (nobody_apart (rw (p, picked) at e))
    go (at s) p =
        let first = first_fit_first (fits_at w cap) clock xs left s p in
        let high : s < clock + suc (last_until xs - clock) = first.high in
        let t = taken_some (taken_before q s) (fits_at w cap xs s) left first.here in
        let same : chosen (starting t.who s) ≡ chosen c = rw t.gives at (rw (p, picked) at e) in
        record {
          who = t.who;
          start = s;
          is = cc;
          member = among_keep (fits_at w cap xs s) t.who left t.member;
          under =
              under_at w cap xs (draw_of t.who) s
              (among_each (λ d. fits_at w cap xs s d ≡ true) t.member (kept_pass (fits_at w cap xs s) left));
          high = omega arith;
        }

module _ (w : ℕ) (cap : Caps) (clock : ℕ) (base : List Load) where
  -- the placements from `placed` on, of charges that draw no more than `most` in all
  record Placing (placed : List Charge) (most : ℕ) (plan : List Charge) : Type 0 where
    under : PlacedUnder cap clock base placed plan
    drawn : drawn_time plan ≤ drawn_time placed + most

  abbrev pick : Crowd → List Charge → List Charge → Pick
  pick q placed left = picked (fits_at w cap) clock (base ++ loads_of placed) q left

  places_under :
      (q : Crowd) (k : ℕ) (placed left plan : List Charge)
      → place_on (pick q) k placed left ≡ all plan
      → Placing placed (drawn_time left) plan
  unfolding place_on
  places_under q zero placed left plan e =
      let same : placed ≡ plan = cc in rw (← same) (record { under = done; drawn = omega arith })
  places_under q (suc k) placed left plan e =
      go (pick q placed left) refl
      (λ c. places_under q k (placed ++ (c ∷ [])) (without_ticket c.ticket left) plan)
    where
      go :
          (p : Pick)
          → pick q placed left ≡ p
          → ((c : Charge)
          → place_on (pick q) k (placed ++ (c ∷ [])) (without_ticket c.ticket left) ≡ all plan
          → Placing (placed ++ (c ∷ [])) (drawn_time (without_ticket c.ticket left)) plan)
          → Placing placed (drawn_time left) plan
      go nobody p rest = absurd (stuck_apart (rw (p, place_on) at e))
      go (chosen c) p rest =
          let t : Chosen cap clock (base ++ loads_of placed) left c = picked_chosen w cap clock (base ++ loads_of placed) q left c p in
          let same : starting t.who t.start ≡ c = t.is in
          let ih : Placing (placed ++ (starting t.who t.start ∷ [])) (drawn_time (without_ticket t.who.ticket left)) plan
          = rw (← same) at (rest c (rw (p, place_on) at e)) in
          record {
            under = next t.who t.start t.under t.high ih.under;
            drawn =
                omega (
                  arith,
                  ih.drawn,
                  drawn_append placed (starting t.who t.start ∷ []),
                  drawn_without t.member,
                );
          }

  -- the first l lines
  abbrev drawn_lines : List Charge → ℕ → ℕ
  drawn_lines waiting zero = 0
  drawn_lines waiting (suc l) = drawn_lines waiting l + drawn_time (of_line (suc l) waiting)

  lines_under :
      (waiting : List Charge) (l : ℕ) (plan : List Charge)
      → place_lines (fits_at w cap) clock base waiting l ≡ all plan
      → Placing [] (drawn_lines waiting l) plan
  lines_under waiting zero plan e = let same : [] ≡ plan = cc in rw (← same) (record { under = done; drawn = omega arith })
  lines_under waiting (suc l) plan e = go (place_lines (fits_at w cap) clock base waiting l) refl (lines_under waiting l)
    where
      go :
          (p : Placed)
          → place_lines (fits_at w cap) clock base waiting l ≡ p
          → ((before : List Charge)
          → place_lines (fits_at w cap) clock base waiting l ≡ all before
          → Placing [] (drawn_lines waiting l) before)
          → Placing [] (drawn_lines waiting (suc l)) plan
      go stuck p rest = absurd (stuck_apart (rw p at e))
      go (all before) p rest =
          let a = rest before p in
          let b = places_under (crowd_of (of_line (suc l) waiting)) (length (of_line (suc l) waiting)) before (of_line (suc l) waiting) plan
          (rw p at e) in
          record { under = under_then a.under b.under; drawn = omega (arith, a.drawn, b.drawn) }

-- what a round places
pub record RoundPlaced (cap : Caps) (clock : ℕ) (base : List Load) (waiting plan : List Charge) : Type 0 where
  pub under : PlacedUnder cap clock base [] plan
  pub drawn : drawn_time plan ≤ drawn_time waiting

pub round_placed :
    (w : ℕ) (cap : Caps) (clock : ℕ) (base : List Load) (waiting plan : List Charge)
    → place_lines (fits_at w cap) clock base waiting 3 ≡ all plan
    → RoundPlaced cap clock base waiting plan
round_placed w cap clock base waiting plan e =
    let p = lines_under w cap clock base waiting 3 plan e in
    record { under = p.under; drawn = omega (arith, p.drawn, drawn_lines_lem waiting) }
