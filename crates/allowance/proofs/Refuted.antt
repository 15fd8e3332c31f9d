-- The statement is false of the wrong rules.
use mathlib.Core.Path.{◌≡◌, refl, ap}
use Prim.Native.Nat.{ℕ, ◌<◌}
use native.Mathlib.Omega.{arith}
use Rattle.rules.specs.Load.{limited, balanced, within_site, sound}
use Rattle.rules.specs.Search.{earliest, first_unbalanced}
use Rattle.rules.specs.Priority.{fading, weights, weight_of, first_fit, picked}
use Rattle.rules.specs.Replan.{place_on, round, rounds_from, by_lines}
use Rattle.rules.specs.Judgement.{judged}
use Rattle.rules.specs.Calls.{planned, Result, opening, committing, moving}
use Rattle.allowance.specs.Allowance.{Spent}
use Rattle.allowance.specs.Wrong.{charges_limited, first_caps, second_caps, station_h}
use Rattle.allowance.specs.Excluded.{TailHasToBeUnderTheCap, ChargesHaveToBePlacedAnew, CapsHaveToFall, AllowanceLimitsNoCharges, AllowanceTellsNoRounds}

-- `lower`: both charges of line 1 go to 1 again, and the cap is 1 in minute 12 already
pub tail_left_out_lem : TailHasToBeUnderTheCap
unfolding limited balanced within_site sound earliest first_unbalanced fading weights weight_of first_fit picked place_on opening committing moving
tail_left_out_lem d = let h : 1 < 1 = d.lower second_caps 1 12 1 refl in omega arith

pub not_placed_anew_lem : ChargesHaveToBePlacedAnew
unfolding limited balanced within_site sound earliest first_unbalanced fading weights weight_of first_fit picked place_on opening committing moving
not_placed_anew_lem d = let h : 1 < 1 = d.lower second_caps 1 12 1 refl in omega arith

-- `lower`: the count of 2 is the cap
pub lowered_to_the_count_lem : CapsHaveToFall
unfolding limited balanced within_site sound earliest first_unbalanced fading weights weight_of first_fit picked place_on opening committing moving
lowered_to_the_count_lem d = let h : 2 < 2 = d.lower first_caps 1 12 2 refl in omega arith

not_spent : Spent (planned 7 5 5 1) → ⊥
not_spent (b, a, n, e) = let z : ◌≡◌ {A = ℕ} 7 2 = cc in omega arith

-- `same`: with 1 only ticket 1 is placed, and it keeps its start
pub charges_limited_lem : AllowanceLimitsNoCharges
unfolding limited balanced within_site sound earliest first_unbalanced fading weights weight_of first_fit picked place_on round rounds_from by_lines judged opening committing
charges_limited_lem d =
    let told : (charges_limited station_h 1 1).answer ≡ planned 7 5 5 1 = refl in
    let h : planned 0 5 0 1 ≡ planned 7 5 5 1
    = ap (λ (r : Result). r.answer) (d.same 1 2 (refl, (refl, tt)) (omega arith) (omega arith) not_spent) in
    let z : ◌≡◌ {A = ℕ} 0 7 = cc in
    omega arith

-- `same`: one round with 1, two with 2
pub rounds_told_lem : AllowanceTellsNoRounds
unfolding limited balanced within_site sound earliest opening committing
rounds_told_lem d =
    let h : planned 7 5 5 2 ≡ planned 7 5 5 1
    = ap (λ (r : Result). r.answer) (d.same 1 2 (refl, (refl, tt)) (omega arith) (omega arith) not_spent) in
    let z : ◌≡◌ {A = ℕ} 2 1 = cc in
    omega arith
