-- Entries that begin with a station that is written down, because as many calls as lead to it would take too long to compute, each worked
-- out by hand: the last ticket, and the 180 places of a feeder.
use Rattle.std.specs.Prelude.{ℕ, List, [], ◌∷◌, ◌++◌, map}
use Rattle.rules.specs.Basics.{tabulate}
use Rattle.rules.specs.Charge.{Charge}
use Rattle.rules.specs.Site.{State}
use Rattle.rules.specs.Calls as calls
use Rattle.rules.specs.Calls.{Answer, refused, previewed, committed, withdrawn, Call, withdraw, run}
use Rattle.rules.specs.Entry.{preview, commit}

-- an entry: the station, the calls, and what they have to answer
pub record StationCase : Type 0 where
  pub station : State
  pub calls : List Call
  pub answers : List Answer

-- what the rules give for an entry
abbrev pub answered : StationCase → StationCase
answered e = record { station = e.station; calls = e.calls; answers = map (λ r. r.answer) (run e.station e.calls) }

-- one feeder of N 1 that holds nothing, and one ticket left
abbrev one_ticket_left : State
one_ticket_left =
    record {
      feeders = record { limit = 1; percent = 100; bound = 1; tail = 0; charges = [] } ∷ [];
      site = 720;
      clock = 0;
      next = 65535;
    }

-- two feeders of N 60, the first with 60 charges on each line, all in minute 0
abbrev first_is_full : ℕ → State
first_is_full next =
    let minute : ℕ → ℕ → Charge
    = λ line ticket.
    record {
      ticket = ticket;
      line = line;
      order_minute = 0;
      time = 1;
      active_time = 1;
      due = 60;
      start = 0;
      rate = 1;
    } in
    record {
      feeders =
          record {
            limit = 60;
            percent = 100;
            bound = 60;
            tail = 0;
            charges = tabulate (minute 1) 60 1 ++ (tabulate (minute 2) 60 61 ++ tabulate (minute 3) 60 121);
          }
          ∷ record { limit = 60; percent = 100; bound = 60; tail = 0; charges = [] }
          ∷ [];
      site = 720;
      clock = 0;
      next = next;
    }

abbrev pub cases_from_stations : List StationCase
cases_from_stations =
    -- The last ticket, 65,535, is given, and no other after it, also where it is withdrawn.
    record {
      station = one_ticket_left;
      calls = commit 1 1 60 1 0 ∷ preview 1 1 60 1 ∷ commit 1 1 60 1 9 ∷ withdraw 65535 ∷ preview 1 1 60 1 ∷ [];
      answers = committed 65535 0 ∷ refused 14 ∷ refused 14 ∷ withdrawn ∷ refused 14 ∷ [];
    }
    -- Each feeder has places of its own: the first is full, and the other takes an order.
    ∷ record {
      station = first_is_full 181;
      calls =
          calls.preview 1 1 1 60 1 ∷ calls.preview 2 1 1 60 1 ∷ calls.commit 2 1 1 60 1 0 ∷ calls.commit 1 1 1 60 1 0 ∷ [];
      answers = refused 13 ∷ previewed 0 ∷ committed 181 0 ∷ refused 13 ∷ [];
    }
    -- Both met, a feeder that is full and no ticket left: 13 goes before 14.
    ∷ record {
      station = first_is_full 65536;
      calls =
          calls.preview 1 1 1 60 1 ∷ calls.preview 2 1 1 60 1 ∷ calls.commit 1 1 1 60 1 0 ∷ calls.commit 2 1 1 60 1 0 ∷ [];
      answers = refused 13 ∷ refused 14 ∷ refused 13 ∷ refused 14 ∷ [];
    }
    ∷ []
