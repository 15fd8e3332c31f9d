-- What is claimed of a page.
use Rattle.std.specs.Prelude.{ℕ, suc, ◌+◌, ◌*◌, ◌/◌, ◌%◌, ◌≤◌, ◌<◌, ◌≡◌, List, [], ◌∷◌, ◌++◌, length}
use Rattle.std.specs.Coded.{×_prop, Unit-prop, le_prop}
use Rattle.rules.specs.Basics.{Each}
use Rattle.rules.specs.Charge.{Charge}

-- the numbers of this charge do not exceed their columns: "No held time reaches 100,000,000."
pub record ChargeFits (c : Charge) : Type 0 where
  pub ticket_small : c.ticket < 1000000
  pub line_small : c.line < 10
  pub start_small : c.start < 100000000
  pub time_small : c.time ≤ 1440
  pub active_small : c.active_time ≤ 1445

-- which holds in one way at most, as it does of all charges of a list
charge_fits_prop : (c : Charge) → IsProp (ChargeFits c)
charge_fits_prop c p q =
    λ i.
    record {
      ticket_small = le_prop p.ticket_small q.ticket_small i;
      line_small = le_prop p.line_small q.line_small i;
      start_small = le_prop p.start_small q.start_small i;
      time_small = le_prop p.time_small q.time_small i;
      active_small = le_prop p.active_small q.active_small i;
    }

pub all_fit_prop : (cs : List Charge) → IsProp (Each ChargeFits cs)
all_fit_prop [] = Unit-prop
all_fit_prop (c ∷ cs) = ×_prop (charge_fits_prop c) (all_fit_prop cs)

-- a character that is printed: from the space to the small z, and so no line feed
abbrev pub Character : ℕ → Type 0
Character b = (32 ≤ b) × (b ≤ 122)

-- n lines, "exactly 37 characters and a line feed" each
pub data Lined : ℕ → List ℕ → Type 0 where
  no_line : Lined 0 []
  one_more : (n : ℕ) (line rest : List ℕ) → length line ≡ 37 → Each Character line → Lined n rest → Lined (suc n) (line ++ (10 ∷ rest))

-- A line stands in a text behind j lines: it is line j, from 0.
pub record StandsAt (j : ℕ) (line text : List ℕ) : Type 0 where
  pub front : List ℕ
  pub rest : List ℕ
  pub is : text ≡ front ++ (line ++ rest)
  pub behind : Lined j front

-- the line of row q, from 0: each page has its heading first
abbrev pub line_of_row : ℕ → ℕ
line_of_row q = 25 * (q / 24) + (1 + q % 24)
