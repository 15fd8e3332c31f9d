-- The calls that words name.
use Rattle.std.specs.Prelude.{ℕ, cond, List, [], ◌∷◌, Option, Some, None}
use Rattle.std.specs.Str.{bytes_eq}
use Rattle.requests.specs.declared.word.CallName.{CallName}
use Rattle.requests.specs.declared.word.CallName.TheVariants.{Open, Preview, Commit, Move, Offer, Latest, Lines, Enquire, Board, Withdraw}

-- the call that a word names, if any
abbrev pub named : List ℕ → Option CallName
named word =
    -- "open"
    cond (bytes_eq word (111 ∷ 112 ∷ 101 ∷ 110 ∷ [])) (Some Open)
    -- "preview"
    (cond (bytes_eq word (112 ∷ 114 ∷ 101 ∷ 118 ∷ 105 ∷ 101 ∷ 119 ∷ [])) (Some Preview)
    -- "commit"
    (cond (bytes_eq word (99 ∷ 111 ∷ 109 ∷ 109 ∷ 105 ∷ 116 ∷ [])) (Some Commit)
    -- "move"
    (cond (bytes_eq word (109 ∷ 111 ∷ 118 ∷ 101 ∷ [])) (Some Move)
    -- "offer"
    (cond (bytes_eq word (111 ∷ 102 ∷ 102 ∷ 101 ∷ 114 ∷ [])) (Some Offer)
    -- "latest"
    (cond (bytes_eq word (108 ∷ 97 ∷ 116 ∷ 101 ∷ 115 ∷ 116 ∷ [])) (Some Latest)
    -- "lines"
    (cond (bytes_eq word (108 ∷ 105 ∷ 110 ∷ 101 ∷ 115 ∷ [])) (Some Lines)
    -- "enquire"
    (cond (bytes_eq word (101 ∷ 110 ∷ 113 ∷ 117 ∷ 105 ∷ 114 ∷ 101 ∷ [])) (Some Enquire)
    -- "board"
    (cond (bytes_eq word (98 ∷ 111 ∷ 97 ∷ 114 ∷ 100 ∷ [])) (Some Board)
    -- "withdraw"
    (cond (bytes_eq word (119 ∷ 105 ∷ 116 ∷ 104 ∷ 100 ∷ 114 ∷ 97 ∷ 119 ∷ [])) (Some Withdraw)
    None)))))))))
