-- Pages by computing: case e, and the states and ends of rows.
use Rattle.std.specs.Prelude.{ℕ, ◌+◌, List, [], ◌∷◌}
use Rattle.rules.specs.Charge.{Charge}
use Rattle.rules.specs.Site.{State}
use Rattle.page.specs.Lines.{row}

-- a charge by r, what its row shows (ticket, line, start, p), and d, which no row shows
abbrev pub charge : ℕ → ℕ → ℕ → ℕ → ℕ → ℕ → Charge
charge tail ticket line start time due =
    record {
      ticket = ticket;
      line = line;
      order_minute = 0;
      time = time;
      active_time = time + tail;
      due = due;
      start = start;
      rate = 1;
    }

-- case e: "Starts 0, 0, 0, 0, 5, 0." Its calls lead to this station (`e_reached`).
abbrev pub station_e : State
station_e =
    record {
      feeders =
          record {
            limit = 2;
            percent = 50;
            bound = 1;
            tail = 0;
            charges =
                charge 0 1 1 0 10 60
                ∷ charge 0 2 3 0 10 60
                ∷ charge 0 3 2 0 5 60
                ∷ charge 0 4 2 0 5 60
                ∷ charge 0 5 2 5 5 20
                ∷ charge 0 6 1 0 10 60
                ∷ [];
          }
          ∷ [];
      site = 720;
      clock = 0;
      next = 7;
    }

-- Rows: the row computed, and the row written down.
abbrev pub cases_of_rows : List (List ℕ × List ℕ)
cases_of_rows =
    -- ticket 5 of case e, as the request shows it: |     5 2         5        10 waiting |
    (row 0 (charge 0 5 2 5 5 20), 32 ∷ 32 ∷ 32 ∷ 32 ∷ 32 ∷ 53 ∷ 32 ∷ 50 ∷ 32 ∷ 32 ∷ 32 ∷ 32 ∷ 32 ∷ 32 ∷ 32 ∷ 32 ∷ 32 ∷ 53 ∷ 32 ∷ 32 ∷ 32 ∷ 32 ∷ 32 ∷ 32 ∷ 32 ∷ 32 ∷ 49 ∷ 48 ∷ 32 ∷ 119 ∷ 97 ∷ 105 ∷ 116 ∷ 105 ∷ 110 ∷ 103 ∷ 32 ∷ 10 ∷ [])
    -- the same after the move to 6: |     5 2         5        10 charging|
    ∷ (row 6 (charge 0 5 2 5 5 20), 32 ∷ 32 ∷ 32 ∷ 32 ∷ 32 ∷ 53 ∷ 32 ∷ 50 ∷ 32 ∷ 32 ∷ 32 ∷ 32 ∷ 32 ∷ 32 ∷ 32 ∷ 32 ∷ 32 ∷ 53 ∷ 32 ∷ 32 ∷ 32 ∷ 32 ∷ 32 ∷ 32 ∷ 32 ∷ 32 ∷ 49 ∷ 48 ∷ 32 ∷ 99 ∷ 104 ∷ 97 ∷ 114 ∷ 103 ∷ 105 ∷ 110 ∷ 103 ∷ 10 ∷ [])
    -- a start equal to the clock still waits: |     5 2         5        10 waiting |
    ∷ (row 5 (charge 0 5 2 5 5 20), 32 ∷ 32 ∷ 32 ∷ 32 ∷ 32 ∷ 53 ∷ 32 ∷ 50 ∷ 32 ∷ 32 ∷ 32 ∷ 32 ∷ 32 ∷ 32 ∷ 32 ∷ 32 ∷ 32 ∷ 53 ∷ 32 ∷ 32 ∷ 32 ∷ 32 ∷ 32 ∷ 32 ∷ 32 ∷ 32 ∷ 49 ∷ 48 ∷ 32 ∷ 119 ∷ 97 ∷ 105 ∷ 116 ∷ 105 ∷ 110 ∷ 103 ∷ 32 ∷ 10 ∷ [])
    -- in its tail of 3 minutes it charges, with an end below the clock: |     5 2         5        10 charging|
    ∷ (row 12 (charge 3 5 2 5 5 20), 32 ∷ 32 ∷ 32 ∷ 32 ∷ 32 ∷ 53 ∷ 32 ∷ 50 ∷ 32 ∷ 32 ∷ 32 ∷ 32 ∷ 32 ∷ 32 ∷ 32 ∷ 32 ∷ 32 ∷ 53 ∷ 32 ∷ 32 ∷ 32 ∷ 32 ∷ 32 ∷ 32 ∷ 32 ∷ 32 ∷ 49 ∷ 48 ∷ 32 ∷ 99 ∷ 104 ∷ 97 ∷ 114 ∷ 103 ∷ 105 ∷ 110 ∷ 103 ∷ 10 ∷ [])
    -- the largest ticket and the largest end: | 65535 3  95696635  95698075 waiting |
    ∷ (row 1000000 (charge 5 65535 3 95696635 1440 60), 32 ∷ 54 ∷ 53 ∷ 53 ∷ 51 ∷ 53 ∷ 32 ∷ 51 ∷ 32 ∷ 32 ∷ 57 ∷ 53 ∷ 54 ∷ 57 ∷ 54 ∷ 54 ∷ 51 ∷ 53 ∷ 32 ∷ 32 ∷ 57 ∷ 53 ∷ 54 ∷ 57 ∷ 56 ∷ 48 ∷ 55 ∷ 53 ∷ 32 ∷ 119 ∷ 97 ∷ 105 ∷ 116 ∷ 105 ∷ 110 ∷ 103 ∷ 32 ∷ 10 ∷ [])
    ∷ []

-- the first seven lines of case e's page
abbrev pub case_e_lines : List ℕ
case_e_lines =
    -- |ticket l     start       end state   |
    116 ∷ 105 ∷ 99 ∷ 107 ∷ 101 ∷ 116 ∷ 32 ∷ 108 ∷ 32 ∷ 32 ∷ 32 ∷ 32 ∷ 32 ∷ 115 ∷ 116 ∷ 97 ∷ 114 ∷ 116 ∷ 32 ∷ 32 ∷ 32 ∷ 32 ∷ 32 ∷ 32 ∷ 32 ∷ 101 ∷ 110 ∷ 100 ∷ 32 ∷ 115 ∷ 116 ∷ 97 ∷ 116 ∷ 101 ∷ 32 ∷ 32 ∷ 32 ∷ 10
    -- |     1 1         0        10 waiting |
    ∷ 32 ∷ 32 ∷ 32 ∷ 32 ∷ 32 ∷ 49 ∷ 32 ∷ 49 ∷ 32 ∷ 32 ∷ 32 ∷ 32 ∷ 32 ∷ 32 ∷ 32 ∷ 32 ∷ 32 ∷ 48 ∷ 32 ∷ 32 ∷ 32 ∷ 32 ∷ 32 ∷ 32 ∷ 32 ∷ 32 ∷ 49 ∷ 48 ∷ 32 ∷ 119 ∷ 97 ∷ 105 ∷ 116 ∷ 105 ∷ 110 ∷ 103 ∷ 32 ∷ 10
    -- |     2 3         0        10 waiting |
    ∷ 32 ∷ 32 ∷ 32 ∷ 32 ∷ 32 ∷ 50 ∷ 32 ∷ 51 ∷ 32 ∷ 32 ∷ 32 ∷ 32 ∷ 32 ∷ 32 ∷ 32 ∷ 32 ∷ 32 ∷ 48 ∷ 32 ∷ 32 ∷ 32 ∷ 32 ∷ 32 ∷ 32 ∷ 32 ∷ 32 ∷ 49 ∷ 48 ∷ 32 ∷ 119 ∷ 97 ∷ 105 ∷ 116 ∷ 105 ∷ 110 ∷ 103 ∷ 32 ∷ 10
    -- |     3 2         0         5 waiting |
    ∷ 32 ∷ 32 ∷ 32 ∷ 32 ∷ 32 ∷ 51 ∷ 32 ∷ 50 ∷ 32 ∷ 32 ∷ 32 ∷ 32 ∷ 32 ∷ 32 ∷ 32 ∷ 32 ∷ 32 ∷ 48 ∷ 32 ∷ 32 ∷ 32 ∷ 32 ∷ 32 ∷ 32 ∷ 32 ∷ 32 ∷ 32 ∷ 53 ∷ 32 ∷ 119 ∷ 97 ∷ 105 ∷ 116 ∷ 105 ∷ 110 ∷ 103 ∷ 32 ∷ 10
    -- |     4 2         0         5 waiting |
    ∷ 32 ∷ 32 ∷ 32 ∷ 32 ∷ 32 ∷ 52 ∷ 32 ∷ 50 ∷ 32 ∷ 32 ∷ 32 ∷ 32 ∷ 32 ∷ 32 ∷ 32 ∷ 32 ∷ 32 ∷ 48 ∷ 32 ∷ 32 ∷ 32 ∷ 32 ∷ 32 ∷ 32 ∷ 32 ∷ 32 ∷ 32 ∷ 53 ∷ 32 ∷ 119 ∷ 97 ∷ 105 ∷ 116 ∷ 105 ∷ 110 ∷ 103 ∷ 32 ∷ 10
    -- |     5 2         5        10 waiting |
    ∷ 32 ∷ 32 ∷ 32 ∷ 32 ∷ 32 ∷ 53 ∷ 32 ∷ 50 ∷ 32 ∷ 32 ∷ 32 ∷ 32 ∷ 32 ∷ 32 ∷ 32 ∷ 32 ∷ 32 ∷ 53 ∷ 32 ∷ 32 ∷ 32 ∷ 32 ∷ 32 ∷ 32 ∷ 32 ∷ 32 ∷ 49 ∷ 48 ∷ 32 ∷ 119 ∷ 97 ∷ 105 ∷ 116 ∷ 105 ∷ 110 ∷ 103 ∷ 32 ∷ 10
    -- |     6 1         0        10 waiting |
    ∷ 32 ∷ 32 ∷ 32 ∷ 32 ∷ 32 ∷ 54 ∷ 32 ∷ 49 ∷ 32 ∷ 32 ∷ 32 ∷ 32 ∷ 32 ∷ 32 ∷ 32 ∷ 32 ∷ 32 ∷ 48 ∷ 32 ∷ 32 ∷ 32 ∷ 32 ∷ 32 ∷ 32 ∷ 32 ∷ 32 ∷ 49 ∷ 48 ∷ 32 ∷ 119 ∷ 97 ∷ 105 ∷ 116 ∷ 105 ∷ 110 ∷ 103 ∷ 32 ∷ 10
    ∷ []
