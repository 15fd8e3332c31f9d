-- The test that an offer and both replans end with (docs/RULES.md, section 3).
use Rattle.std.specs.Prelude.{ℕ, Bool, cond, not, List, [], ◌∷◌, ltb}
use Rattle.rules.specs.Basics.{first_of, some}
use Rattle.rules.specs.Load.{Limits, last_until, limit_at, balance_at, from_on}
use Rattle.rules.specs.Charge.{Charge, starting, is_begun, seen, lateness}

-- "the waiting charges get these starts": the held charges with the listed starts, in ticket order
abbrev pub restarted : ℕ → List Charge → List ℕ → List Charge
restarted clock [] ss = []
restarted clock (c ∷ cs) [] = c ∷ cs
restarted clock (c ∷ cs) (s ∷ ss) =
    cond (is_begun clock c) (c ∷ restarted clock cs (s ∷ ss)) (starting c s ∷ restarted clock cs ss)

-- Causes 3 to 7 for keeping the held plan against the new one with the starts ss.
abbrev pub causes : Limits → ℕ → List Charge → List ℕ → List Charge → List (Bool × ℕ)
causes y clock held ss new =
    -- "a start is below the clock"
    (some (λ s. ltb s clock) ss, 3)
    -- "the last end of held charges (0 if none) is later than now held": "Cause 4 compares the largest s + p + r of the site"
    ∷ (ltb (last_until (seen y held)) (last_until (seen y new)), 4)
    -- "a count above N in some minute from the clock on", and "cause 5 includes W"
    ∷ (not (from_on clock (seen y new) (limit_at y (seen y new))), 5)
    -- "a difference above D in some minute from the clock on"
    ∷ (not (from_on clock (seen y new) (balance_at y (seen y new))), 6)
    -- "lateness is not smaller than now held": "lateness is the feeder's"
    ∷ (not (ltb (lateness new) (lateness held)), 7)
    ∷ []

-- "first that applies"; "Cause 0 means taken"
unfoldable pub judged : Limits → ℕ → List Charge → List ℕ → ℕ
judged y clock held ss = first_of (causes y clock held ss (restarted clock held ss))
