-- "each line, heading included, exactly 37 characters and a line feed", of the heading, a row and an unused one.
use mathlib.Core.Path.{◌≡◌, refl, sym}
use mathlib.Core.Bool.{Bool, true, false}
use mathlib.Core.List.{List, [], ◌∷◌, ◌++◌, append_assoc}
use Prim.Native.Nat.{ℕ, ◌≤◌}
use native.Mathlib.Omega.{arith}
use lib.ListN.{length, length-append}
use Rattle.rules.specs.Basics.{Each}
use Rattle.rules.specs.Charge.{Charge, end_of, is_begun}
use Rattle.rules.proofs.Lists.{each_append}
use Rattle.text.specs.Numbers.{decimal}
use Rattle.page.specs.Lines.{at_left, column, columns, ticket_word, line_word, start_word, end_word, state_word, heading, state_of, row, blank, no_station_words, no_station}
use Rattle.page.specs.declared.row.TheConstants.{NO_STATION}
use Rattle.page.specs.Lined.{ChargeFits, Character, Lined, no_line, one_more}
use Rattle.page.specs.LawsOfPages.{NoStationIsALine}
use Rattle.page.proofs.Aligning.{length_column, length_left, ticket_digits, line_digits, start_digits, end_digits}
use Rattle.page.proofs.Characters.{decimal_shown, column_shown, left_shown, characters}

one_line : (line : List ℕ) → length line ≡ 37 → Each Character line → Lined 1 (line ++ (10 ∷ []))
one_line line l c = one_more 0 line [] l c no_line

-- the texts of the five columns fit, and are of characters
pub record FitsLine (ticket line start end state : List ℕ) : Type 0 where
  pub long : (length ticket ≤ 6) × (length line ≤ 1) × (length start ≤ 9) × (length end ≤ 9) × (length state ≤ 8)
  pub shown : Each Character ticket × Each Character line × Each Character start × Each Character end × Each Character state

module _ (ticket line start end state : List ℕ) (f : FitsLine ticket line start end state) where
  abbrev a : List ℕ
  a = column 6 ticket

  abbrev b : List ℕ
  b = column 1 line

  abbrev c : List ℕ
  c = column 9 start

  abbrev d : List ℕ
  d = column 9 end

  abbrev e : List ℕ
  e = at_left 8 state

  joined : (a ++ (b ++ (c ++ (d ++ e)))) ++ (10 ∷ []) ≡ columns ticket line start end state
  joined =
      rw (append_assoc a (b ++ (c ++ (d ++ e))) (10 ∷ []), append_assoc b (c ++ (d ++ e)) (10 ∷ []), append_assoc c (d ++ e) (10 ∷ []), append_assoc d e (10 ∷ []))

  counted : length (a ++ (b ++ (c ++ (d ++ e)))) ≡ 37
  counted =
      rw (length-append a (b ++ (c ++ (d ++ e))), length-append b (c ++ (d ++ e)), length-append c (d ++ e), length-append d e)
      (omega (arith, length_column 6 ticket f.long.0, length_column 1 line f.long.1, length_column 9 start f.long.2, length_column 9 end f.long.3, length_left 8 state f.long.4))

  all_shown : Each Character (a ++ (b ++ (c ++ (d ++ e))))
  all_shown =
      each_append Character a (b ++ (c ++ (d ++ e))) (column_shown 6 ticket f.shown.0)
      (each_append Character b (c ++ (d ++ e)) (column_shown 1 line f.shown.1)
      (each_append Character c (d ++ e) (column_shown 9 start f.shown.2)
      (each_append Character d e (column_shown 9 end f.shown.3) (left_shown 8 state f.shown.4))))

  pub line_lined : Lined 1 (columns ticket line start end state)
  line_lined = rw (sym joined) (one_line (a ++ (b ++ (c ++ (d ++ e)))) counted all_shown)

state_fits : (begun : Bool) → length (state_of begun) ≤ 8
state_fits true = omega arith
state_fits false = omega arith

state_shown : (begun : Bool) → Each Character (state_of begun)
state_shown true = characters (state_of true) refl
state_shown false = characters (state_of false) refl

pub heading_lined : Lined 1 heading
heading_lined =
    line_lined ticket_word line_word start_word end_word state_word
    (record {
      long = (omega arith, omega arith, omega arith, omega arith, omega arith);
      shown = (characters ticket_word refl, characters line_word refl, characters start_word refl, characters end_word refl, characters state_word refl);
    })

pub blank_lined : Lined 1 blank
blank_lined =
    line_lined [] [] [] [] []
    (record { long = (omega arith, omega arith, omega arith, omega arith, omega arith); shown = (tt, tt, tt, tt, tt) })

pub no_station_lined : NoStationIsALine
no_station_lined = one_line (at_left 37 no_station_words) refl (characters (at_left 37 no_station_words) refl)

-- as the code has it, for who prints it
pub no_station_is : NO_STATION.now ≡ no_station
no_station_is = refl

pub row_lined : (clock : ℕ) (c : Charge) → ChargeFits c → Lined 1 (row clock c)
unfolding row
row_lined clock c f =
    line_lined (decimal c.ticket) (decimal c.line) (decimal c.start) (decimal (end_of c)) (state_of (is_begun clock c))
    (record {
      long = (ticket_digits f, line_digits f, start_digits f, end_digits f c.time (omega (arith, f.time_small)), state_fits (is_begun clock c));
      shown = (decimal_shown c.ticket, decimal_shown c.line, decimal_shown c.start, decimal_shown (end_of c), state_shown (is_begun clock c));
    })
