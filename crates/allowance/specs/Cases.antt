-- Allowances on three stations and a site of two feeders, with the answers worked out by hand.
use Rattle.std.specs.Prelude.{◌≡◌, [], ◌∷◌, map}
use Rattle.rules.specs.Replan.{lowers}
use Rattle.rules.specs.Site.{charges_on, limits_of}
use Rattle.rules.specs.Calls.{planned}
use Rattle.allowance.specs.Allowance.{minutes_ahead, most_lowerings, replans, plays}
use Rattle.allowance.specs.Wrong.{with_tails, first_caps, station_h, station_k, beside_another}

-- Case k: one round is not enough, and any allowance from 2 on gives the same. Case h: one round is, and the plan is taken. With
-- tails the first round lowers the cap of line 1 from 12 on to 1, and the second has the plan held.
abbrev pub AllowancesWorkedOut : Type 0
AllowancesWorkedOut =
    (map (λ a. (replans station_k 1 a).answer) (1 ∷ 2 ∷ 3 ∷ 1000 ∷ [])
    ≡ planned 2 0 0 1 ∷ planned 7 0 0 2 ∷ planned 7 0 0 2 ∷ planned 7 0 0 2 ∷ [])
    × (map (λ a. (replans station_h 1 a).answer) (1 ∷ 2 ∷ 1000 ∷ []) ≡ planned 0 5 0 1 ∷ planned 0 5 0 1 ∷ planned 0 5 0 1 ∷ [])
    × (map (λ a. (replans with_tails 1 a).answer) (1 ∷ 2 ∷ 3 ∷ 1000 ∷ [])
    ≡ planned 2 0 0 1 ∷ planned 7 0 0 2 ∷ planned 7 0 0 2 ∷ planned 7 0 0 2 ∷ [])
    × (plays with_tails 1 first_caps ≡ lowers 1 12 1)
    × (most_lowerings station_h 1 ≡ 0)
    × (most_lowerings station_k 1 ≡ 60)
    × (minutes_ahead (limits_of with_tails 1) with_tails.clock (charges_on with_tails 1) ≡ 35)

-- Under W 3 there is room for both of line 1 beside the other feeder's charge, as in case k; under W 2 there is not, so that the first
-- round has the plan held. Rounds can place behind the other feeder's last minute, in 10 and 20.
abbrev pub SitesWorkedOut : Type 0
SitesWorkedOut =
    (map (λ a. (replans (beside_another 3) 1 a).answer) (1 ∷ 2 ∷ 1000 ∷ []) ≡ planned 2 0 0 1 ∷ planned 7 0 0 2 ∷ planned 7 0 0 2 ∷ [])
    × (map (λ a. (replans (beside_another 2) 1 a).answer) (1 ∷ 2 ∷ 1000 ∷ []) ≡ planned 7 0 0 1 ∷ planned 7 0 0 1 ∷ planned 7 0 0 1 ∷ [])
    × (most_lowerings (beside_another 2) 1 ≡ 90)
    × (most_lowerings (beside_another 2) 2 ≡ 0)
