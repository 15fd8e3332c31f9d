-- Limit, balance and W of a list of calls, in every minute of which it claims them, whatever it began with.
use Prim.Native.Nat.{ℕ, ◌+◌, ◌≤◌}
use mathlib.Core.List.{List}
use Rattle.rules.specs.Load.{IsLine}
use Rattle.rules.specs.Site.{feeder_of}
use Rattle.rules.specs.Calls.{Call, step}
use Rattle.rules.specs.Valid.{IsFeeder}
use Rattle.guarantee.specs.Past.{count_in, site_in, past}
use Rattle.restarts.specs.Events.{Beginning, an_opening, an_image, a_refused_restore, first}
use Rattle.restarts.specs.Restarts.{ClaimedFrom}
use Rattle.restarts.specs.Minutes.{first_minute}

pub limit_claimed :
    (b : Beginning) (calls : List Call)
    → ClaimedFrom b calls
    → (f l t : ℕ)
    → IsFeeder (first b) f
    → IsLine l
    → first_minute b ≤ t
    → count_in step (past step (first b) calls) f l t ≤ (feeder_of (first b) f).limit
limit_claimed (an_opening x) calls c f l t i j since = c.limit f l t i j
limit_claimed (an_image image) calls c f l t i j since = c.three.limit f l t i j since
limit_claimed a_refused_restore calls c f l t i j since = c.limit f l t i j

pub balance_claimed :
    (b : Beginning) (calls : List Call)
    → ClaimedFrom b calls
    → (f l m t : ℕ)
    → IsFeeder (first b) f
    → IsLine l
    → IsLine m
    → first_minute b ≤ t
    → count_in step (past step (first b) calls) f l t ≤ count_in step (past step (first b) calls) f m t + (feeder_of (first b) f).bound
balance_claimed (an_opening x) calls c f l m t i j k since = c.balance f l m t i j k
balance_claimed (an_image image) calls c f l m t i j k since = c.three.balance f l m t i j k since
balance_claimed a_refused_restore calls c f l m t i j k since = c.balance f l m t i j k

pub site_claimed :
    (b : Beginning) (calls : List Call)
    → ClaimedFrom b calls
    → (t : ℕ)
    → first_minute b ≤ t
    → site_in step (past step (first b) calls) t ≤ (first b).site
site_claimed (an_opening x) calls c t since = c.site t
site_claimed (an_image image) calls c t since = c.three.site t since
site_claimed a_refused_restore calls c t since = c.site t
