-- With every rate 1, both replans and the test of a plan are those before N4.
use mathlib.Core.Path.{◌≡◌, refl, ap, fun_ext, ◌∙◌}
use Prim.Native.Nat.{ℕ, suc, ◌+◌, ◌-◌}
use mathlib.Core.Bool.{cond, not, ◌&&◌}
use mathlib.Core.List.{List, [], ◌∷◌, ◌++◌}
use lib.Dec.{ltb, eqb}
use Rattle.rules.specs.Basics.{Each, Found, at, nothing, first_of, some}
use Rattle.rules.specs.Load.{Load, last_until, Limits, limited, within_site, balanced, from_on}
use Rattle.rules.specs.Charge.{Charge, starting, draw_of, loads_of, seen, is_begun, is_waiting, begun_charges, waiting_charges, latest_start_before, lateness}
use Rattle.rules.specs.Search.{Caps}
use Rattle.rules.specs.Priority.{fits_at, without_ticket}
use Rattle.rules.specs.Replan.{by_latest_start, starts, none, Placed, all, stuck, starts_in, proposed, standing, latest, sound_start, of_line, place_lines, largest_line, smallest_line, placed_active, Outcome, ends, lowers, unbalanced_in, after_round, round, rounds_from, by_lines}
use Rattle.rules.specs.Judgement.{restarted, judged}
use Rattle.earlier.specs.Unrated.{earliest_before, fits_before, unbalanced_before, latest_before, asked_before, after_before, round_before, by_lines_before, judged_before, AtRateOne}
use Rattle.rules.proofs.Lists.{each_map, each_append, keep_each}
use Rattle.rules.proofs.Sorting.{sorted_rearranged, each_rearranged}
use Rattle.rules.proofs.Restarts.{each_restarted}
use Rattle.earlier.proofs.Unrated.{One, count-is, loads_one, earliest_is, fits-is, unbalanced_is}
use Rattle.earlier.proofs.Alike.{Ends, all_alike}
use Rattle.earlier.proofs.AlikeLines.{lines_end, lines_alike}

-- those placed and those left are of rate 1
abbrev BothOne : List Charge → List Charge → Type 0
BothOne placed left = AtRateOne placed × AtRateOne left

-- one of those left is placed
placed_one :
    (placed left : List Charge)
    → BothOne placed left
    → Each (λ c. (s : ℕ) → BothOne (placed ++ (starting c s ∷ [])) (without_ticket c.ticket left)) left
placed_one placed left e =
    each_map (λ c. c.rate ≡ 1) (λ c. (s : ℕ) → BothOne (placed ++ (starting c s ∷ [])) (without_ticket c.ticket left))
    (λ c h s. (
      each_append (λ x. x.rate ≡ 1) placed (starting c s ∷ []) e.0 (h, tt),
      keep_each (λ x. x.rate ≡ 1) (λ x. not (eqb x.ticket c.ticket)) left e.1,
    ))
    left
    e.1

module _ (y : Limits) (clock : ℕ) (held : List Charge) (one : AtRateOne held) (others : Each One y.others) where
  waiting_one : AtRateOne (waiting_charges clock held)
  waiting_one = keep_each (λ c. c.rate ≡ 1) (is_waiting clock) held one

  with_placed : (placed : List Charge) → AtRateOne placed → Each One (standing y clock held ++ loads_of placed)
  with_placed placed e =
      each_append One (standing y clock held) (loads_of placed)
      (each_append One y.others (loads_of (begun_charges clock held)) others
      (loads_one (begun_charges clock held) (keep_each (λ c. c.rate ≡ 1) (is_begun clock) held one)))
      (loads_one placed e)

  -- Replan by latest start

  pub latest_is : latest y clock held ≡ latest_before y clock held
  unfolding latest
  latest_is =
      ap (proposed (waiting_charges clock held))
      (all_alike (sound_start y clock (standing y clock held))
      (λ placed c. earliest_before y clock (standing y clock held ++ loads_of placed) (draw_of c)) BothOne
      (λ placed c left e. earliest_is (standing y clock held ++ loads_of placed) (with_placed placed e.0) y clock (draw_of c) e.1.0)
      (λ placed c left s e. (each_append (λ x. x.rate ≡ 1) placed (starting c s ∷ []) e.0 (e.1.0, tt), e.1.1))
      []
      (by_latest_start (waiting_charges clock held)) (
        tt,
        each_rearranged (λ c. c.rate ≡ 1) (sorted_rearranged latest_start_before (waiting_charges clock held)) waiting_one,
      ))

  -- Replan by lines

  asked_is :
      (placed : List Charge) (t : ℕ)
      → AtRateOne placed
      → unbalanced_in y (standing y clock held) placed t ≡ asked_before y (standing y clock held) placed t
  asked_is placed t e =
      ap
      (λ (f : ℕ → ℕ → ℕ).
      cond (placed_active placed (largest_line (λ l. f l t)) t)
      (lowers (largest_line (λ l. f l t)) t (f (smallest_line (λ l. f l t)) t + y.bound)) (ends (none 1)))
      (count-is (standing y clock held ++ loads_of placed) (with_placed placed e))

  after_is : (p : Placed) → Ends BothOne p → after_round y clock held p ≡ after_before y clock held p
  after_is stuck e = refl
  after_is (all placed) (left, e) =
      ap
      (λ (f : Found).
      elim f as (λ x. Outcome) [
        | nothing ↦ ends (starts (starts_in placed (waiting_charges clock held)))
        | at t ↦ unbalanced_in y (standing y clock held) placed t
      ])
      (unbalanced_is (standing y clock held ++ loads_of placed) (with_placed placed e.0) y clock)
      ∙ go (unbalanced_before y clock (standing y clock held ++ loads_of placed))
    where
      go :
          (f : Found)
          → ◌≡◌ {A = Outcome}
          (elim f [
            | nothing ↦ ends (starts (starts_in placed (waiting_charges clock held)))
            | at t ↦ unbalanced_in y (standing y clock held) placed t
          ])
          (elim f [
            | nothing ↦ ends (starts (starts_in placed (waiting_charges clock held)))
            | at t ↦ asked_before y (standing y clock held) placed t
          ])
      go nothing = refl
      go (at t) = asked_is placed t e.0

  module _ (cap : Caps) where
    fits_alike :
        (l : ℕ) (placed left : List Charge)
        → BothOne placed left
        → Each
        (λ c.
        (s : ℕ)
        → fits_at y.site cap (standing y clock held ++ loads_of placed) s c
        ≡ fits_before y.site cap (standing y clock held ++ loads_of placed) s c)
        left
    fits_alike l placed left e =
        each_map (λ c. c.rate ≡ 1) _
        (λ c h s. fits-is (standing y clock held ++ loads_of placed) (with_placed placed e.0) y.site cap s c h) left e.1

    own-one : (l : ℕ) (placed left : List Charge) → BothOne placed left → BothOne placed (of_line (suc l) (waiting_charges clock held))
    own-one l placed left e = (
      e.0,
      keep_each (λ c. c.rate ≡ 1) (λ c. eqb c.line (suc l)) (waiting_charges clock held) waiting_one,
    )

    round_is : round y clock held cap ≡ round_before y clock held cap
    unfolding round
    round_is =
        ap (after_round y clock held)
        (lines_alike (fits_at y.site cap) (fits_before y.site cap) clock (standing y clock held) (waiting_charges clock held)
        (λ l. BothOne) fits_alike (λ l. placed_one) (tt, tt) own-one 3)
        ∙ after_is (place_lines (fits_before y.site cap) clock (standing y clock held) (waiting_charges clock held) 3)
        (lines_end (fits_at y.site cap) (fits_before y.site cap) clock (standing y clock held) (waiting_charges clock held)
        (λ l. BothOne) fits_alike (λ l. placed_one) (tt, tt) own-one 3)

  pub lines_is : (allowance : ℕ) → by_lines y clock allowance held ≡ by_lines_before y clock allowance held
  unfolding by_lines
  lines_is allowance = ap (λ (f : Caps → Outcome). rounds_from f (allowance - 1) 1 (λ l t. y.limit)) (fun_ext round_is)

  -- The test of a plan

  pub judged_is : (ss : List ℕ) → judged y clock held ss ≡ judged_before y clock held ss
  unfolding judged
  judged_is ss =
      let new : List Load = seen y (restarted clock held ss) in
      ap
      (λ (f : ℕ → ℕ → ℕ).
      first_of
      ((some (λ s. ltb s clock) ss, 3)
      ∷ (ltb (last_until (seen y held)) (last_until new), 4)
      ∷ (not (from_on clock new (λ t. limited y.limit (λ l. f l t) && within_site y.site (λ l. f l t))), 5)
      ∷ (not (from_on clock new (λ t. balanced y.bound (λ l. f l t))), 6)
      ∷ (not (ltb (lateness (restarted clock held ss)) (lateness held)), 7)
      ∷ []))
      (count-is new
      (each_append One y.others (loads_of (restarted clock held ss)) others
      (loads_one (restarted clock held ss) (each_restarted (λ c. c.rate ≡ 1) (λ c s h. h) clock held ss one))))
