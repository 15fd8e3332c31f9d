-- The answers as text.
use Rattle.std.specs.Prelude.{ℕ, ◌≡◌, ◌*◌, List, [], ◌∷◌, ◌++◌, take}
use Rattle.rules.specs.Calls.{Answer, refused, opened, previewed, committed, moved, planned, waiting, charging, looked, withdrawn}
use Rattle.text.specs.Printed.{field, listed, line_feed, fields_text}

-- an answer, with the number of tickets that were asked for and the list that was lent to the call: a move's pairs and a board's
-- answers stand at its front
unfoldable pub answer_text : Answer → ℕ → List ℕ → List ℕ
-- "refused "
answer_text (refused k) asked list = fields_text ((114 ∷ 101 ∷ 102 ∷ 117 ∷ 115 ∷ 101 ∷ 100 ∷ 32 ∷ [], k) ∷ [])
-- "open 0", and the bound of each feeder
answer_text (opened bounds) asked list = (111 ∷ 112 ∷ 101 ∷ 110 ∷ 32 ∷ 48 ∷ []) ++ (listed bounds ++ line_feed)
-- "start "
answer_text (previewed start) asked list = fields_text ((115 ∷ 116 ∷ 97 ∷ 114 ∷ 116 ∷ 32 ∷ [], start) ∷ [])
-- "ticket ", " start "
answer_text (committed ticket start) asked list =
    fields_text ((116 ∷ 105 ∷ 99 ∷ 107 ∷ 101 ∷ 116 ∷ 32 ∷ [], ticket) ∷ (32 ∷ 115 ∷ 116 ∷ 97 ∷ 114 ∷ 116 ∷ 32 ∷ [], start) ∷ [])
-- "moved ", " dropped "
answer_text (moved reported dropped) asked list =
    field (109 ∷ 111 ∷ 118 ∷ 101 ∷ 100 ∷ 32 ∷ []) reported
    ++ (field (32 ∷ 100 ∷ 114 ∷ 111 ∷ 112 ∷ 112 ∷ 101 ∷ 100 ∷ 32 ∷ []) dropped
    ++ (listed (take (2 * reported) list) ++ line_feed))
-- "plan "
answer_text (planned cause before after rounds) asked list =
    fields_text ((112 ∷ 108 ∷ 97 ∷ 110 ∷ 32 ∷ [], cause) ∷ (32 ∷ [], before) ∷ (32 ∷ [], after) ∷ (32 ∷ [], rounds) ∷ [])
-- "waiting "
answer_text (waiting start rate) asked list =
    fields_text ((119 ∷ 97 ∷ 105 ∷ 116 ∷ 105 ∷ 110 ∷ 103 ∷ 32 ∷ [], start) ∷ (32 ∷ [], rate) ∷ [])
-- "charging "
answer_text (charging start end rate) asked list =
    fields_text ((99 ∷ 104 ∷ 97 ∷ 114 ∷ 103 ∷ 105 ∷ 110 ∷ 103 ∷ 32 ∷ [], start) ∷ (32 ∷ [], end) ∷ (32 ∷ [], rate) ∷ [])
-- "board "
answer_text (looked n) asked list = field (98 ∷ 111 ∷ 97 ∷ 114 ∷ 100 ∷ 32 ∷ []) n ++ (listed (take asked list) ++ line_feed)
-- "withdrawn"
answer_text withdrawn asked list = (119 ∷ 105 ∷ 116 ∷ 104 ∷ 100 ∷ 114 ∷ 97 ∷ 119 ∷ 110 ∷ []) ++ line_feed

-- printed behind what was there, with nothing of the lent list: it reads the same whatever was lent
abbrev pub PrintedAlone : Answer → List ℕ → List ℕ → Type 0
PrintedAlone a before after = (asked : ℕ) (list : List ℕ) → after ≡ before ++ answer_text a asked list

-- how many numbers of the lent list are printed with an answer
abbrev pub listed_of : Answer → ℕ → ℕ
listed_of (refused k) asked = 0
listed_of (opened bounds) asked = 0
listed_of (previewed u) asked = 0
listed_of (committed t u) asked = 0
listed_of (moved k d) asked = 2 * k
listed_of (planned c b a k) asked = 0
listed_of (waiting u w) asked = 0
listed_of (charging u v w) asked = 0
listed_of (looked n) asked = asked
listed_of withdrawn asked = 0
