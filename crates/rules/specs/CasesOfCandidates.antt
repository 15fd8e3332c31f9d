-- Candidate starts of orders on stations with tails, each worked out by hand: the verdict, and the number of minutes looked at, which goes
-- up to p + r.
use Rattle.std.specs.Prelude.{ℕ, Bool, true, false, List, [], ◌∷◌}
use Rattle.rules.specs.Site.{State}
use Rattle.rules.specs.Candidate.{Tested, order_candidate}
use Rattle.rules.specs.Calls as calls
use Rattle.rules.specs.Calls.{settings, Asked, opening, Call, withdraw, run}
use Rattle.rules.specs.Entry.{state_after, one_feeder, commit}

-- an entry: what the opening asks for, the calls, an order of rate 1 (feeder, line, p), its candidate start, and what the test has to return
pub record OrderCase : Type 0 where
  pub asked : Asked
  pub calls : List Call
  pub feeder : ℕ
  pub line : ℕ
  pub time : ℕ
  pub start : ℕ
  pub tested : Tested

-- what the rules give for an entry
abbrev pub order_tested_in : OrderCase → OrderCase
order_tested_in e =
    let opened : State = (opening e.asked).state in
    record {
      asked = e.asked;
      calls = e.calls;
      feeder = e.feeder;
      line = e.line;
      time = e.time;
      start = e.start;
      tested = order_candidate (state_after opened (run opened e.calls)) e.feeder e.line e.time 1 e.start;
    }

-- Open 1, 100 with r 3: tickets 1 and 2, of 10 minutes each, draw in minutes 0 to 12 and 13 to 25. An order of p minutes on their line.
abbrev behind : List Call → ℕ → ℕ → Bool → ℕ → OrderCase
behind calls p s fits looked =
    record {
      asked = one_feeder 1 100 3;
      calls = commit 1 10 60 1 0 ∷ commit 1 10 60 1 13 ∷ calls;
      feeder = 1;
      line = 1;
      time = p;
      start = s;
      tested = record { fits = fits; looked = looked };
    }

-- Two feeders under W 1, the first with r 3, the second with r 0: ticket 2 of feeder 2 draws in minutes 13 to 19, and nothing else is left.
-- An order of 5 minutes on line 2 of a feeder.
abbrev under : ℕ → ℕ → Bool → ℕ → OrderCase
under f s fits looked =
    record {
      asked = record { count = 2; site = 1; settings = settings 1 100 3 ∷ settings 1 100 0 ∷ [] };
      calls = calls.commit 2 1 13 60 1 0 ∷ calls.commit 2 1 7 60 1 13 ∷ withdraw 1 ∷ [];
      feeder = f;
      line = 2;
      time = 5;
      start = s;
      tested = record { fits = fits; looked = looked };
    }

abbrev pub cases_of_candidates : List OrderCase
cases_of_candidates =
    -- In the tail of ticket 1 the first minute fails. Behind the tail of ticket 2 none does: 5 and 3 minutes are looked at.
    behind [] 5 12 false 1
    ∷ behind [] 5 26 true 8
    -- Without ticket 1, minutes 5 to 12 are free. From 6 on the last minute of its own tail fails, from 10 on the fourth of all.
    ∷ behind (withdraw 1 ∷ []) 5 5 true 8
    ∷ behind (withdraw 1 ∷ []) 5 6 false 8
    ∷ behind (withdraw 1 ∷ []) 5 10 false 4
    -- 10 minutes and their tail fit from 0 on, of 11 minutes the last one of the tail does not.
    ∷ behind (withdraw 1 ∷ []) 10 0 true 13
    ∷ behind (withdraw 1 ∷ []) 11 0 false 14
    -- The site: on feeder 1 the tail counts for W too, from 6 on in its last minute; feeder 2 has no tail.
    ∷ under 1 5 true 8
    ∷ under 1 6 false 8
    ∷ under 2 8 true 5
    ∷ under 2 9 false 5
    ∷ []
