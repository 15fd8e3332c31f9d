-- Numbers as text.
use Rattle.std.specs.Prelude.{ℕ, ◌+◌, List, [], ◌∷◌, ◌++◌, length, map}
use denote.Ref.{Bor}
use Rattle.text.specs.Numbers.{decimal}

-- a text and a number after it
abbrev pub field : List ℕ → ℕ → List ℕ
field text n = text ++ decimal n

abbrev pub spaced : ℕ → List ℕ
spaced n = field (32 ∷ []) n

-- each number after a space
abbrev pub listed : List ℕ → List ℕ
listed [] = []
listed (n ∷ ns) = spaced n ++ listed ns

abbrev pub line_feed : List ℕ
line_feed = 10 ∷ []

-- numbers, each after a text, and the line feed
abbrev pub fields_text : List (List ℕ × ℕ) → List ℕ
fields_text [] = line_feed
fields_text (f ∷ fs) = field f.0 f.1 ++ fields_text fs

-- room for them, where a number has 20 digits
abbrev pub room_of : List (List ℕ × ℕ) → ℕ
room_of [] = 1
room_of (f ∷ fs) = length f.0 + (20 + room_of fs)

-- the texts and numbers that are lent
abbrev pub fields_of : List (Bor (List ℕ) × ℕ) → List (List ℕ × ℕ)
fields_of fs = map (λ f. (f.0.now, f.1)) fs
