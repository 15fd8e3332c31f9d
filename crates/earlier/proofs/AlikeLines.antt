-- Two tests that agree, as long as something holds of the charges placed and those left, place the lines alike.
use mathlib.Core.Path.{◌≡◌, refl, ap, fun_ext, ◌∙◌}
use Prim.Native.Nat.{ℕ, zero, suc, ◌-◌}
use mathlib.Core.Bool.{Bool}
use mathlib.Core.List.{List, [], ◌∷◌, ◌++◌}
use lib.ListN.{length}
use Rattle.rules.specs.Basics.{Each, Found, at, nothing, first, keep, some}
use Rattle.rules.specs.Load.{Load, last_until}
use Rattle.rules.specs.Charge.{Charge, starting, loads_of}
use Rattle.rules.specs.Priority.{Crowd, crowd_of, taken_before, Pick, nobody, foremost, taken_at, Fitting, first_fit, picked, without_ticket}
use Rattle.rules.specs.Replan.{Placed, all, stuck, of_line, place_line, place_lines}
use Rattle.earlier.proofs.Alike.{Holds, IsPick, picked_is, Ends, on_alike, on_ends}

module _ (fits other : Fitting) (xs : List Load) (left : List Charge) (same : Each (λ c. (s : ℕ) → fits xs s c ≡ other xs s c) left) where
  some_alike : (s : ℕ) (l : List Charge) → Each (λ c. (s : ℕ) → fits xs s c ≡ other xs s c) l → some (fits xs s) l ≡ some (other xs s) l
  some_alike s [] h = refl
  some_alike s (c ∷ l) h = rw (h.0 s, some_alike s l h.1)

  keep_alike : (s : ℕ) (l : List Charge) → Each (λ c. (s : ℕ) → fits xs s c ≡ other xs s c) l → keep (fits xs s) l ≡ keep (other xs s) l
  keep_alike s [] h = refl
  keep_alike s (c ∷ l) h = rw (h.0 s, keep_alike s l h.1)

  picked_alike : (clock : ℕ) (q : Crowd) → picked fits clock xs q left ≡ picked other clock xs q left
  unfolding first_fit picked
  picked_alike clock q =
      ap
      (λ (f : ℕ → Bool).
      elim (first f (suc (last_until xs - clock)) clock) as (λ x. Pick) [
        | at s ↦ taken_at s (foremost (taken_before q s) (keep (fits xs s) left))
        | nothing ↦ nobody
      ])
      (fun_ext (λ s. some_alike s left same))
      ∙ go (first_fit other clock xs left)
    where
      go :
          (r : Found)
          → ◌≡◌ {A = Pick}
          (elim r [ at s ↦ taken_at s (foremost (taken_before q s) (keep (fits xs s) left)) | nothing ↦ nobody ])
          (elim r [ at s ↦ taken_at s (foremost (taken_before q s) (keep (other xs s) left)) | nothing ↦ nobody ])
      go (at s) = ap (λ (l : List Charge). taken_at s (foremost (taken_before q s) l)) (keep_alike s left same)
      go nothing = refl

-- Ok l holds while line l is placed; the next line begins with its waiting charges
module _
    (fits other : Fitting) (clock : ℕ) (base : List Load) (waiting : List Charge) (Ok : ℕ → Holds)
    (same :
    (l : ℕ) (placed left : List Charge)
    → Ok l placed left
    → Each (λ c. (s : ℕ) → fits (base ++ loads_of placed) s c ≡ other (base ++ loads_of placed) s c) left)
    (next :
    (l : ℕ) (placed left : List Charge)
    → Ok l placed left
    → Each (λ c. (s : ℕ) → Ok l (placed ++ (starting c s ∷ [])) (without_ticket c.ticket left)) left)
    (begins : Ok 0 [] [])
    (goes_on : (l : ℕ) (placed left : List Charge) → Ok l placed left → Ok (suc l) placed (of_line (suc l) waiting))
  where
    chosen_next :
        (l : ℕ) (placed left : List Charge)
        → Ok l placed left
        → IsPick (λ c. Ok l (placed ++ (c ∷ [])) (without_ticket c.ticket left))
        (picked other clock (base ++ loads_of placed) (crowd_of (of_line l waiting)) left)
    chosen_next l placed left e =
        picked_is (λ c. Ok l (placed ++ (c ∷ [])) (without_ticket c.ticket left)) other clock (base ++ loads_of placed)
        (crowd_of (of_line l waiting)) left (next l placed left e)

    line_alike :
        (l : ℕ) (p : Placed)
        → Ends (Ok l) p
        → place_line fits clock base waiting (suc l) p ≡ place_line other clock base waiting (suc l) p
    line_alike l stuck e = refl
    line_alike l (all before) (left, e) =
        on_alike (λ placed left. picked fits clock (base ++ loads_of placed) (crowd_of (of_line (suc l) waiting)) left) _ (Ok (suc l))
        (λ placed left o. picked_alike fits other (base ++ loads_of placed) left (same (suc l) placed left o) clock (crowd_of (of_line (suc l) waiting)))
        (chosen_next (suc l))
        (length (of_line (suc l) waiting)) before (of_line (suc l) waiting) (goes_on l before left e)

    line_ends : (l : ℕ) (p : Placed) → Ends (Ok l) p → Ends (Ok (suc l)) (place_line other clock base waiting (suc l) p)
    line_ends l stuck e = tt
    line_ends l (all before) (left, e) =
        on_ends _ (λ placed left. picked other clock (base ++ loads_of placed) (crowd_of (of_line (suc l) waiting)) left) (Ok (suc l))
        (λ placed left o. refl)
        (chosen_next (suc l))
        (length (of_line (suc l) waiting)) before (of_line (suc l) waiting) (goes_on l before left e)

    pub lines_end : (l : ℕ) → Ends (Ok l) (place_lines other clock base waiting l)
    lines_end zero = ([], begins)
    lines_end (suc l) = line_ends l (place_lines other clock base waiting l) (lines_end l)

    pub lines_alike : (l : ℕ) → place_lines fits clock base waiting l ≡ place_lines other clock base waiting l
    lines_alike zero = refl
    lines_alike (suc l) =
        ap (place_line fits clock base waiting (suc l)) (lines_alike l)
        ∙ line_alike l (place_lines other clock base waiting l) (lines_end l)
