-- What every chain of turns comes to, in two sentences, and a small run.
use Rattle.std.specs.Prelude.{◌≡◌, List, [], ◌∷◌, ℕ}
use Rattle.rules.specs.Calls.{fresh, least}
use Rattle.station.specs.View.{view}
use Rattle.session.specs.Session.{console, feed}
use Rattle.session.specs.declared.turn.Wants.TheVariants.{Bytes, Nothing}
use Rattle.session.specs.declared.turn.Session.{Session}
use Rattle.session.specs.Turns.{Chain}

-- Where bytes are wanted, the texts handed out, the station and what is held are the definition's for all that was read so far: every
-- request that has ended is answered.
abbrev pub EndedRequestsAreAnswered : Type 0
EndedRequestsAreAnswered =
    (read written : List ℕ) (s : Session) (held : List ℕ)
    → Chain read written s held
    → s.wants ≡ Bytes
    → feed (fresh least) [] read ≡ record { state = view s.station; kept = held; text = written }

-- Where nothing is wanted any more, the texts put together are the program's whole output, and the station is its station.
abbrev pub WholeInputIsAnswered : Type 0
WholeInputIsAnswered =
    (read written : List ℕ) (s : Session) (held : List ℕ)
    → Chain read written s held
    → s.wants ≡ Nothing
    → console read ≡ record { state = view s.station; text = written }

-- "enquire 1", "#", "", "q": an enquiry, a line to pass over, an empty one, and a last one without line feed are answered "refused 15",
-- "error unknown call".
abbrev pub SmallRunIsAnswered : Type 0
SmallRunIsAnswered =
    (console (101 ∷ 110 ∷ 113 ∷ 117 ∷ 105 ∷ 114 ∷ 101 ∷ 32 ∷ 49 ∷ 10 ∷ 35 ∷ 10 ∷ 10 ∷ 113 ∷ [])).text
    ≡ 114 ∷ 101 ∷ 102 ∷ 117 ∷ 115 ∷ 101 ∷ 100 ∷ 32 ∷ 49 ∷ 53 ∷ 10
    ∷ 101 ∷ 114 ∷ 114 ∷ 111 ∷ 114 ∷ 32 ∷ 117 ∷ 110 ∷ 107 ∷ 110 ∷ 111 ∷ 119 ∷ 110 ∷ 32 ∷ 99 ∷ 97 ∷ 108 ∷ 108 ∷ 10 ∷ []
