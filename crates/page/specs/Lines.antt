-- The lines of a page: "each line, heading included, exactly 37 characters and a line feed". Bytes are numbers, 32 is a space.
use Rattle.std.specs.Prelude.{ℕ, zero, suc, ◌-◌, Bool, cond, List, [], ◌∷◌, ◌++◌, length}
use Rattle.rules.specs.Charge.{Charge, end_of, is_begun}
use Rattle.text.specs.Numbers.{decimal}

abbrev pub spaces : ℕ → List ℕ
spaces zero = []
spaces (suc n) = 32 ∷ spaces n

-- a text at the right and at the left of a column of so many characters
abbrev pub at_right : ℕ → List ℕ → List ℕ
at_right width text = spaces (width - length text) ++ text

abbrev pub at_left : ℕ → List ℕ → List ℕ
at_left width text = text ++ spaces (width - length text)

-- a column that another follows: "one space between"
abbrev pub column : ℕ → List ℕ → List ℕ
column width text = at_right width text ++ (32 ∷ [])

-- "Columns: ticket (6, right), line (1), start (9, right), end (9, right), state (8, left), one space between."
abbrev pub columns : List ℕ → List ℕ → List ℕ → List ℕ → List ℕ → List ℕ
columns ticket line start end state =
    column 6 ticket ++ (column 1 line ++ (column 9 start ++ (column 9 end ++ (at_left 8 state ++ (10 ∷ [])))))

-- "Heading words, aligned as their columns: ticket, l, start, end, state."
abbrev pub ticket_word : List ℕ
ticket_word = 116 ∷ 105 ∷ 99 ∷ 107 ∷ 101 ∷ 116 ∷ []

abbrev pub line_word : List ℕ
line_word = 108 ∷ []

abbrev pub start_word : List ℕ
start_word = 115 ∷ 116 ∷ 97 ∷ 114 ∷ 116 ∷ []

abbrev pub end_word : List ℕ
end_word = 101 ∷ 110 ∷ 100 ∷ []

abbrev pub state_word : List ℕ
state_word = 115 ∷ 116 ∷ 97 ∷ 116 ∷ 101 ∷ []

abbrev pub heading : List ℕ
heading = columns ticket_word line_word start_word end_word state_word

-- "States: waiting, charging." A charge in its tail has begun too.
abbrev pub state_of : Bool → List ℕ
state_of begun =
    cond begun (99 ∷ 104 ∷ 97 ∷ 114 ∷ 103 ∷ 105 ∷ 110 ∷ 103 ∷ []) (119 ∷ 97 ∷ 105 ∷ 116 ∷ 105 ∷ 110 ∷ 103 ∷ [])

-- the row of a charge: "The end is s + p."
unfoldable pub row : ℕ → Charge → List ℕ
row clock c =
    columns (decimal c.ticket) (decimal c.line) (decimal c.start) (decimal (end_of c)) (state_of (is_begun clock c))

-- "unused rows are spaces"
abbrev pub blank : List ℕ
blank = columns [] [] [] [] []

-- "the row \"no station\", padded on the right"
abbrev pub no_station_words : List ℕ
no_station_words = 110 ∷ 111 ∷ 32 ∷ 115 ∷ 116 ∷ 97 ∷ 116 ∷ 105 ∷ 111 ∷ 110 ∷ []

abbrev pub no_station : List ℕ
no_station = at_left 37 no_station_words ++ (10 ∷ [])
