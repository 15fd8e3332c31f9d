-- What holds in every minute, gone or to come, after any calls: `s` is the station asked for, and `h` is what is known of the calls.
--
-- A count is that of all accepted orders that stay, those whose charges are finished too. Each counts with its rate, from its start for its
-- charging time and the r minutes of its feeder (`load_of`, `count_in`, `site_in` in crates/guarantee/specs/Past.antt). The start
-- of an order is the one that was reported, and until then the one that an enquiry would give.
use Rattle.std.specs.Prelude.{ℕ, ◌+◌, ◌≤◌}
use Rattle.rules.specs.Load.{IsLine}
use Rattle.rules.specs.Site.{State, feeder_of}
use Rattle.rules.specs.Valid.{IsFeeder}
use Rattle.rules.specs.Calls.{step}
use Rattle.guarantee.specs.Past.{Past, count_in, site_in}

-- No line of a feeder is above the feeder's limit N.
abbrev pub NoLineAboveItsLimit : State → Past → Type 0
NoLineAboveItsLimit s h =
    (f l t : ℕ) → IsFeeder s f → IsLine l → count_in step h f l t ≤ (feeder_of s f).limit

-- No two lines of a feeder are further apart than the feeder's bound D.
abbrev pub NoLinesFurtherApart : State → Past → Type 0
NoLinesFurtherApart s h =
    (f l m t : ℕ)
    → IsFeeder s f
    → IsLine l
    → IsLine m
    → count_in step h f l t ≤ count_in step h f m t + (feeder_of s f).bound

-- All feeders together draw no more than the site's limit W.
abbrev pub SiteWithinItsLimit : State → Past → Type 0
SiteWithinItsLimit s h = (t : ℕ) → site_in step h t ≤ s.site
