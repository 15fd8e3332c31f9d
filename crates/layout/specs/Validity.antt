-- The stations of one feeder whose images restore accepts, as one test in the request's words. Tests of plain numbers come first, so that code
-- may end at the first that fails, and only sums with a start, which is any number of 32 bits, need more bits than that.
-- proofs/Validity.antt shows that it tests exactly what the rules call a valid station.
use Rattle.std.specs.Prelude.{ℕ, ◌+◌, ◌-◌, ◌*◌, Bool, cond, ◌&&◌, eqb, leb, ltb, length}
use Rattle.rules.specs.Load.{sound}
use Rattle.rules.specs.Charge.{Charge, seen}
use Rattle.rules.specs.Site.{places, State, limits_of}
use Rattle.rules.specs.Calls.{bound_of}
use Rattle.layout.specs.Lists.{every}
use Rattle.layout.specs.Image.{only, held_at}

unfoldable pub between : ℕ → ℕ → ℕ → Bool
between low x high = leb low x && leb x high

-- "stations whose fields are in range": N, c, r, clock, next ticket and W, for "22 covers W out of range"
unfoldable pub settings_ranged : ℕ → ℕ → ℕ → ℕ → ℕ → ℕ → Bool
settings_ranged limit percent tail clock next site =
    between 1 limit 60
    && (leb percent 100 && (leb tail 5 && (leb clock 1000000 && (between 1 next 65536 && between 1 site 720))))

-- "and meet neither refusal 3": D, which an image does not hold, is that of N and c, and it is not 0
unfoldable pub bound_right : ℕ → ℕ → ℕ → Bool
bound_right limit percent bound = eqb bound (bound_of limit percent) && leb 1 bound

-- fields of a charge in range: line, p, d and rate
unfoldable pub fields_ranged : ℕ → ℕ → ℕ → ℕ → Bool
fields_ranged line time due rate = between 1 line 3 && (between 1 time 1440 && (leb due 2000000 && between 1 rate 2))

-- "nor 18", which "also covers a rate above W"
unfoldable pub rate_right : ℕ → ℕ → ℕ → ℕ → Bool
rate_right limit bound site rate = leb rate limit && (leb rate bound && leb rate site)

-- "whose charges are unfinished with starts not before order minutes, nor those after the clock, no end above the clock plus 1,445
-- for each ticket given"; the minutes in which a charge is active, which an image does not hold, are its p and r
unfoldable pub times_right : ℕ → ℕ → ℕ → ℕ → ℕ → ℕ → ℕ → Bool
times_right tail clock next order start time active_time =
    eqb active_time (time + tail)
    && (leb order clock
    && (leb order start && (ltb clock (start + active_time) && leb (start + time) (clock + 1445 * (next - 1)))))

unfoldable pub charge_right : State → Charge → Bool
charge_right s c =
    fields_ranged c.line c.time c.due c.rate
    && (rate_right (only s).limit (only s).bound s.site c.rate
    && times_right (only s).tail s.clock s.next c.order_minute c.start c.time c.active_time)

-- "tickets, the next one last"
abbrev pub ticket_at : State → ℕ → ℕ
ticket_at s q = cond (ltb q (length (only s).charges)) (held_at s q).ticket s.next

-- "are 1 or more and rise"
unfoldable pub ticket_right : State → ℕ → Bool
ticket_right s q = leb 1 (ticket_at s q) && ltb (ticket_at s q) (ticket_at s (q + 1))

unfoldable pub record_right : State → ℕ → Bool
record_right s q = ticket_right s q && charge_right s (held_at s q)

-- "and whose plan is sound", from the clock on, within W: "22 covers W .. exceeded"
unfoldable pub is_valid : State → Bool
is_valid s =
    leb (length (only s).charges) places
    && (settings_ranged (only s).limit (only s).percent (only s).tail s.clock s.next s.site
    && (bound_right (only s).limit (only s).percent (only s).bound
    && (every (record_right s) (length (only s).charges)
    && sound (limits_of s 1) s.clock (seen (limits_of s 1) (only s).charges))))
