-- A charge, a feeder and a station, each from its numbers.
use mathlib.Core.Path.{◌≡◌}
use Prim.Native.Nat.{ℕ}
use mathlib.Core.List.{List}
use Rattle.rules.specs.Charge.{Charge}
use Rattle.rules.specs.Site.{Feeder, State}

pub charge_whole :
    (c : Charge) (ticket line order_minute time active_time due start rate : ℕ)
    → ticket ≡ c.ticket
    → line ≡ c.line
    → order_minute ≡ c.order_minute
    → time ≡ c.time
    → active_time ≡ c.active_time
    → due ≡ c.due
    → start ≡ c.start
    → rate ≡ c.rate
    → ◌≡◌ {A = Charge}
    (
    record {
      ticket = ticket;
      line = line;
      order_minute = order_minute;
      time = time;
      active_time = active_time;
      due = due;
      start = start;
      rate = rate;
    }
    ) c
charge_whole c ticket line order_minute time active_time due start rate a b d e f g h i = rw (a, b, d, e, f, g, h, i)

pub feeder_whole :
    (g : Feeder) (limit percent bound tail : ℕ) (charges : List Charge)
    → limit ≡ g.limit
    → percent ≡ g.percent
    → bound ≡ g.bound
    → tail ≡ g.tail
    → charges ≡ g.charges
    → ◌≡◌ {A = Feeder} (record { limit = limit; percent = percent; bound = bound; tail = tail; charges = charges }) g
feeder_whole g limit percent bound tail charges a b c d e = rw (a, b, c, d, e)

pub state_whole :
    (s : State) (feeders : List Feeder) (site clock next : ℕ)
    → feeders ≡ s.feeders
    → site ≡ s.site
    → clock ≡ s.clock
    → next ≡ s.next
    → ◌≡◌ {A = State} (record { feeders = feeders; site = site; clock = clock; next = next }) s
state_whole s feeders site clock next a b c d = rw (a, b, c, d)
