-- The claim for an image from elsewhere, tried on a station, with what is right worked out by hand.
use Rattle.std.specs.Prelude.{◌≡◌, ℕ, true, [], ◌∷◌, map, replicate}
use Rattle.rules.specs.Charge.{Charge}
use Rattle.rules.specs.Site.{State}
use Rattle.rules.specs.Calls.{refused, waiting, charging, commit, move, step}
use Rattle.guarantee.specs.Past.{Order, Past, past, times_reported, enquiry, start_of, count_in, site_in}
use Rattle.layout.specs.Validity.{is_valid}

-- a charge of rate 1, due in minute 60
abbrev pub held : ℕ → ℕ → ℕ → ℕ → ℕ → Charge
held ticket line order time start =
    record {
      ticket = ticket;
      line = line;
      order_minute = order;
      time = time;
      active_time = time;
      due = 60;
      start = start;
      rate = 1;
    }

-- N = 2, D = 1 and W = 6, at clock 5, next ticket 9. In minutes 0 to 2 line 1 had two charges and no other line one: calls never lead to
-- such a station, but its plan is sound from its clock on. Ticket 8 waits, later than it has to.
abbrev pub uneven : State
uneven =
    record {
      feeders =
          record {
            limit = 2;
            percent = 50;
            bound = 1;
            tail = 0;
            charges =
                held 2 1 0 10 0 ∷ held 3 1 0 10 0 ∷ held 5 2 1 10 3 ∷ held 6 2 1 7 3 ∷ held 7 3 2 9 4 ∷ held 8 1 5 10 20 ∷ [];
          }
          ∷ [];
      site = 6;
      clock = 5;
      next = 9;
    }

-- restore accepts its image
abbrev pub UnevenIsValid : Type 0
UnevenIsValid = is_valid uneven ≡ true

-- an order on line 3 gets ticket 9 and the start 5; the move reports it alone
abbrev pub continued : Past
continued = past step uneven (commit 1 3 4 60 1 5 ∷ move 6 (replicate 360 7) ∷ [])

-- what is known then, each start, how often each ticket was reported, and what enquiries say
abbrev pub UnevenGoesOn : Type 0
UnevenGoesOn =
    (continued.clock ≡ 6)
    × (map (λ (o : Order). o.ticket) continued.orders ≡ 2 ∷ 3 ∷ 5 ∷ 6 ∷ 7 ∷ 8 ∷ 9 ∷ [])
    × (map (start_of step continued) continued.orders ≡ 0 ∷ 0 ∷ 3 ∷ 3 ∷ 4 ∷ 20 ∷ 5 ∷ [])
    × (map (times_reported continued.reports) (1 ∷ 2 ∷ 3 ∷ 5 ∷ 6 ∷ 7 ∷ 8 ∷ 9 ∷ []) ≡ 0 ∷ 1 ∷ 1 ∷ 1 ∷ 1 ∷ 1 ∷ 0 ∷ 1 ∷ [])
    × (map (enquiry step continued) (1 ∷ 2 ∷ 8 ∷ 9 ∷ []) ≡ refused 15 ∷ charging 0 10 1 ∷ waiting 20 1 ∷ charging 5 9 1 ∷ [])

-- before its clock lines 1 and 2 differ by 2, which is above D; from its clock on by 1 at most, and all draw W at most
abbrev pub UnevenCounts : Type 0
UnevenCounts =
    (map (count_in step continued 1 1) (0 ∷ 2 ∷ 5 ∷ 9 ∷ 10 ∷ 20 ∷ []) ≡ 2 ∷ 2 ∷ 2 ∷ 2 ∷ 0 ∷ 1 ∷ [])
    × (map (count_in step continued 1 2) (0 ∷ 2 ∷ 5 ∷ 9 ∷ 10 ∷ 20 ∷ []) ≡ 0 ∷ 0 ∷ 2 ∷ 2 ∷ 1 ∷ 0 ∷ [])
    × (map (count_in step continued 1 3) (0 ∷ 2 ∷ 5 ∷ 9 ∷ 10 ∷ 20 ∷ []) ≡ 0 ∷ 0 ∷ 2 ∷ 1 ∷ 1 ∷ 0 ∷ [])
    × (map (site_in step continued) (0 ∷ 2 ∷ 5 ∷ 9 ∷ 10 ∷ 20 ∷ []) ≡ 2 ∷ 2 ∷ 6 ∷ 5 ∷ 2 ∷ 1 ∷ [])
