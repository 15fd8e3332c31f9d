-- One feeder under W 720: W binds nowhere, since 180 charges of rate 2 draw 360. Searches and replans are those before N14.
use mathlib.Core.Path.{◌≡◌, refl, ap, fun_ext, ◌∙◌}
use Prim.Native.Nat.{ℕ, suc, ◌+◌, ◌-◌, ◌≤◌}
use mathlib.Core.Bool.{Bool, true, false, ◌&&◌}
use mathlib.Core.List.{List, [], ◌∷◌, ◌++◌}
use native.Mathlib.Omega.{arith}
use lib.Dec.{leb}
use borrow.Author.Tests.{le-leb}
use Rattle.rules.specs.Basics.{throughout, first}
use Rattle.rules.specs.Load.{Load, Draw, load_from, count, counts, last_until, limited, balanced, whole_of, within_site, from_on, sound}
use Rattle.rules.specs.Charge.{Charge, starting, draw_of, loads_of, begun_charges, waiting_charges, latest_start_before}
use Rattle.rules.specs.Search.{added, earliest, Caps, first_unbalanced}
use Rattle.rules.specs.Priority.{fits_at, without_ticket}
use Rattle.rules.specs.Replan.{by_latest_start, Placed, all, stuck, proposed, sound_start, latest, place_lines, Outcome, after_round, round, rounds_from, by_lines}
use Rattle.rules.specs.Site.{Feeder}
use Rattle.rules.proofs.Lists.{each_map}
use Rattle.rules.proofs.Counts.{within_all}
use Rattle.rules.proofs.Sorting.{sorted_rearranged}
use Rattle.earlier.specs.Single.{sound_before, earliest_before, fits_before, latest_before, after_before, round_before, by_lines_before}
use Rattle.earlier.specs.LawsOfBefore.{limits_alone, rates}
use Rattle.earlier.proofs.Alike.{all_alike}
use Rattle.earlier.proofs.AlikeLines.{lines_alike}
use Rattle.earlier.proofs.Rates.{rates_in, whole_most, rates_in_append, rates_in_loads, rates_append, rates_parts, rates_without, lines_to, lines_most, rates_rearranged}

and-true : (a : Bool) → a && true ≡ a
and-true true = refl
and-true false = refl

-- Where no more than 720 is drawn

within : (xs : List Load) → rates_in xs ≤ 720 → (t : ℕ) → within_site 720 (counts xs t) ≡ true
within xs h t = within_all 720 (counts xs t) (omega (arith, whole_most xs t))

pub limit_is : (n : ℕ) (xs : List Load) → rates_in xs ≤ 720 → (t : ℕ) → limited n (counts xs t) && within_site 720 (counts xs t) ≡ limited n (counts xs t)
limit_is n xs h t = rw (within xs h t) (and-true (limited n (counts xs t)))

module _ (g : Feeder) (k : ℕ) where
  pub sound_is : (xs : List Load) → rates_in xs ≤ 720 → sound (limits_alone g) k xs ≡ sound_before g k xs
  unfolding sound
  sound_is xs h =
      ap (λ (f : ℕ → Bool). from_on k xs (λ t. f t && balanced g.bound (counts xs t))) (fun_ext (limit_is g.limit xs h))

  pub earliest_is :
      (xs : List Load) (a : Draw) → rates_in xs + a.rate ≤ 720 → earliest (limits_alone g) k xs a ≡ earliest_before g k xs a
  unfolding earliest
  earliest_is xs a h =
      ap (λ (f : ℕ → Bool). first f (suc (last_until xs - k)) k)
      (fun_ext (λ s. sound_is (added xs a s) (omega (arith, rates_in_append xs (load_from a s ∷ [])))))

fits-is :
    (cap : Caps) (xs : List Load) (s : ℕ) (c : Charge) → rates_in xs + c.rate ≤ 720 → fits_at 720 cap xs s c ≡ fits_before cap xs s c
fits-is cap xs s c h =
    ap (λ (f : ℕ → Bool). throughout f c.active_time s)
    (fun_ext
    (λ t.
    rw (le-leb (whole_of (counts xs t) + c.rate) 720 (omega (arith, whole_most xs t)))
    (and-true (leb (count xs c.line t + c.rate) (cap c.line t)))))

-- The replans

module _ (g : Feeder) (k : ℕ) (few : rates g.charges ≤ 720) where
  abbrev begun : List Charge
  begun = begun_charges k g.charges

  abbrev waiting : List Charge
  waiting = waiting_charges k g.charges

  -- all that is drawn by those begun, those placed and one of those left
  room :
      (placed : List Charge) (c : ℕ)
      → rates placed + c ≤ rates waiting
      → rates_in (loads_of begun ++ loads_of placed) + c ≤ 720
  room placed c h =
      omega (
        arith,
        rates_in_append (loads_of begun) (loads_of placed),
        rates_in_loads begun,
        rates_in_loads placed,
        rates_parts k g.charges,
      )

  pub latest_is : latest (limits_alone g) k g.charges ≡ latest_before g k
  unfolding latest
  latest_is =
      ap (proposed waiting)
      (all_alike (sound_start (limits_alone g) k (loads_of begun))
      (λ placed c. earliest_before g k (loads_of begun ++ loads_of placed) (draw_of c))
      (λ placed left. rates placed + rates left ≤ rates waiting)
      (λ placed c left e. earliest_is g k (loads_of begun ++ loads_of placed) (draw_of c) (room placed c.rate (omega arith)))
      (λ placed c left s e. omega (arith, rates_append placed (starting c s ∷ [])))
      []
      (by_latest_start waiting)
      (omega (arith, rates_rearranged (sorted_rearranged latest_start_before waiting))))

  after_is : (p : Placed) → after_round (limits_alone g) k g.charges p ≡ after_before g k p
  unfolding first_unbalanced
  after_is (all placed) = refl
  after_is stuck = refl

  -- what is placed of the first l lines, and left of line l
  abbrev OfLines : ℕ → List Charge → List Charge → Type 0
  OfLines l placed left = rates placed + rates left ≤ lines_to l waiting

  round_is : (cap : Caps) → round (limits_alone g) k g.charges cap ≡ round_before g k cap
  unfolding round
  round_is cap =
      ap (after_round (limits_alone g) k g.charges)
      (lines_alike (fits_at 720 cap) (fits_before cap) k (loads_of begun) waiting OfLines
      (λ l placed left e.
      each_map (λ c. c.rate + rates (without_ticket c.ticket left) ≤ rates left) _
      (λ c h s. fits-is cap (loads_of begun ++ loads_of placed) s c (room placed c.rate (omega (arith, lines_most l waiting))))
      left (rates_without left))
      (λ l placed left e.
      each_map (λ c. c.rate + rates (without_ticket c.ticket left) ≤ rates left) _
      (λ c h s. omega (arith, rates_append placed (starting c s ∷ []))) left (rates_without left))
      (omega arith)
      (λ l placed left e. omega arith)
      3)
      ∙ after_is (place_lines (fits_before cap) k (loads_of begun) waiting 3)

  pub lines_is : (allowance : ℕ) → by_lines (limits_alone g) k allowance g.charges ≡ by_lines_before g k allowance
  unfolding by_lines
  lines_is allowance = ap (λ (f : Caps → Outcome). rounds_from f (allowance - 1) 1 (λ l t. g.limit)) (fun_ext round_is)
