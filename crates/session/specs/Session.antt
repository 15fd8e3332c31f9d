-- The whole run: from the bytes that are read to the bytes that are written, and the station that is left.
use Rattle.std.specs.Prelude.{ℕ, List, [], ◌∷◌, ◌++◌, take}
use Rattle.rules.specs.Site.{State}
use Rattle.rules.specs.Calls.{fresh, least}
use Rattle.text.specs.Parts.{split}
use Rattle.reply.specs.Reply.{Told, answered}

-- a text in front of all that follows it
abbrev pub saying : List ℕ → Told → Told
saying text t = record { state = t.state; text = text ++ t.text }

-- the answers to the requests, in their order: each request gets the station that the one before it left
unfoldable pub session : State → List (List ℕ) → Told
session s [] = record { state = s; text = [] }
session s (request ∷ requests) = saying (answered s request).text (session (answered s request).state requests)

-- The whole input. Its requests stand between line feeds (10), so a last one without a line feed counts, and after a last
-- line feed comes an empty request. The station that stands at the beginning is the fresh one of 1, 100, with one feeder and W 720.
unfoldable pub console : List ℕ → Told
console input = session (fresh least) (split 10 input)

-- Input in parts

-- What there is after a part of the input: the station, what is kept of a request whose end is not yet there, and the text
-- of the requests that have ended.
pub record Fed : Type 0 where
  pub state : State
  pub kept : List ℕ
  pub text : List ℕ

abbrev pub first : List ℕ → Fed → Fed
first text o = record { state = o.state; kept = o.kept; text = text ++ o.text }

-- No more of a request is kept than shows that it is too long.
abbrev pub enough : List ℕ → List ℕ
enough request = take 4097 request

-- all requests but the last are answered, the last is kept
unfoldable pub served : State → List (List ℕ) → Fed
served s [] = record { state = s; kept = []; text = [] }
served s (request ∷ []) = record { state = s; kept = enough request; text = [] }
served s (request ∷ (next ∷ requests)) = first (answered s request).text (served (answered s request).state (next ∷ requests))

-- a part of the input, after what was kept
abbrev pub feed : State → List ℕ → List ℕ → Fed
feed s kept part = served s (split 10 (kept ++ part))
