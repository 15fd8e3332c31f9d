-- Tests of limit, balance and W in every minute from a clock on. Each is true exactly where it holds: proofs/TestsMinutes.antt.
use Rattle.std.specs.Prelude.{ℕ, ◌+◌, Bool, ◌&&◌, List, ◌++◌, leb}
use Rattle.rules.specs.Load.{Load, counts, drawn, limited, balanced, from_on}
use Rattle.rules.specs.Charge.{loads_of}
use Rattle.rules.specs.Site.{State, feeder_of, others_of}

abbrev pub limit_from : ℕ → ℕ → List Load → Bool
limit_from n clock xs = from_on clock xs (λ t. limited n (counts xs t))

abbrev pub balance_from : ℕ → ℕ → List Load → Bool
balance_from d clock xs = from_on clock xs (λ t. balanced d (counts xs t))

-- with what the others draw
abbrev pub site_from : ℕ → ℕ → List Load → List Load → Bool
site_from w clock others xs = from_on clock (others ++ xs) (λ t. leb (drawn others t + drawn xs t) w)

-- of loads of feeder f: what `SoundPlan` says
abbrev pub plan_limit : State → ℕ → List Load → Bool
plan_limit s f xs = limit_from (feeder_of s f).limit s.clock xs

abbrev pub plan_balance : State → ℕ → List Load → Bool
plan_balance s f xs = balance_from (feeder_of s f).bound s.clock xs

abbrev pub plan_site : State → ℕ → List Load → Bool
plan_site s f xs = site_from s.site s.clock (loads_of (others_of s f)) xs

abbrev pub plan_sound : State → ℕ → List Load → Bool
plan_sound s f xs = plan_limit s f xs && (plan_balance s f xs && plan_site s f xs)
