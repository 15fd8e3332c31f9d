-- Charges: what they draw, begun and waiting, finished, last end, lateness (docs/RULES.md, section 1).
use Rattle.std.specs.Prelude.{ℕ, ◌+◌, ◌-◌, max, Bool, not, ◌&&◌, ◌||◌, List, [], ◌∷◌, ◌++◌, map, ltb, leb, eqb, ℤ}
use Rattle.std.proofs.Math.IntN.{sub_ℕ}
use Rattle.std.specs.Int.Signed.{lt_z, le_z}
use Rattle.rules.specs.Basics.{keep}
use Rattle.rules.specs.Load.{Load, Draw, draw, load_from, Limits}

-- "A charge has a ticket, a line, an order minute, a charging time p, a due minute d and a start s." "Each order states a
-- rate, 1 or 2." `active_time` is p + r, the minutes in which it is active: "The new edition counts a point as drawing for r
-- minutes after its end."
pub record Charge : Type 0 where
  pub ticket : ℕ
  pub line : ℕ
  pub order_minute : ℕ
  pub time : ℕ
  pub active_time : ℕ
  pub due : ℕ
  pub start : ℕ
  pub rate : ℕ

-- the same charge with another start
abbrev pub starting : Charge → ℕ → Charge
starting c s =
    record {
      ticket = c.ticket;
      line = c.line;
      order_minute = c.order_minute;
      time = c.time;
      active_time = c.active_time;
      due = c.due;
      start = s;
      rate = c.rate;
    }

-- "Its end is s + p."
abbrev pub end_of : Charge → ℕ
end_of c = c.start + c.time

-- what it draws wherever it starts
abbrev pub draw_of : Charge → Draw
draw_of c = draw c.line c.active_time c.rate

-- "A charge is active, for limit and balance, in minutes s to s + p + r − 1."
abbrev pub load_of : Charge → Load
load_of c = load_from (draw_of c) c.start

abbrev pub loads_of : List Charge → List Load
loads_of cs = map load_of cs

-- what the other feeders draw, and these charges
abbrev pub seen : Limits → List Charge → List Load
seen y cs = y.others ++ loads_of cs

-- "It is begun when s is below the clock, else waiting; so a start equal to the clock still waits."
abbrev pub is_begun : ℕ → Charge → Bool
is_begun clock c = ltb c.start clock

abbrev pub is_waiting : ℕ → Charge → Bool
is_waiting clock c = not (is_begun clock c)

abbrev pub begun_charges : ℕ → List Charge → List Charge
begun_charges clock cs = keep (is_begun clock) cs

abbrev pub waiting_charges : ℕ → List Charge → List Charge
waiting_charges clock cs = keep (is_waiting clock) cs

-- s + p + r: the minute from which on it draws nothing
abbrev pub active_until : Charge → ℕ
active_until c = c.start + c.active_time

-- "is finished when s + p + r is at or below the clock"
abbrev pub is_finished : ℕ → Charge → Bool
is_finished clock c = leb (active_until c) clock

abbrev pub unfinished_charges : ℕ → List Charge → List Charge
unfinished_charges clock cs = keep (λ c. not (is_finished clock c)) cs

abbrev pub has_ticket : ℕ → Charge → Bool
has_ticket ticket c = eqb c.ticket ticket

-- the charges but for that of a ticket
abbrev pub without_ticket : ℕ → List Charge → List Charge
without_ticket ticket cs = keep (λ c. not (has_ticket ticket c)) cs

-- An order of charges "by" a number of theirs, x and y, "then ticket".
abbrev pub then_ticket : ℕ → ℕ → Charge → Charge → Bool
then_ticket x y a b = ltb x y || (eqb x y && ltb a.ticket b.ticket)

-- d − p as a signed number: "A latest start may now be negative". `sub_ℕ` gives the integer.
abbrev pub latest_start : Charge → ℤ
latest_start c = sub_ℕ c.due c.time

-- "by d − p, then ticket", and "the order by latest start must place it before zero": the order of the integers
abbrev pub latest_start_before : Charge → Charge → Bool
latest_start_before a b =
    lt_z (latest_start a) (latest_start b) || (le_z (latest_start a) (latest_start b) && ltb a.ticket b.ticket)

-- "the last end of held charges (0 if none)", without r: "Cause 4 compares s + p"
abbrev pub last_end : List Charge → ℕ
last_end [] = 0
last_end (c ∷ cs) = max (end_of c) (last_end cs)

-- "max(0, end − d)": a difference of natural numbers is 0 where it would be below. "Its lateness counts from the due
-- minute given", also where this is below the clock; "its lateness still uses s + p".
abbrev pub late_of : Charge → ℕ
late_of c = end_of c - c.due

-- "Lateness is the sum of max(0, end − d) over the charges held."
abbrev pub lateness : List Charge → ℕ
lateness [] = 0
lateness (c ∷ cs) = late_of c + lateness cs
