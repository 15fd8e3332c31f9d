-- A turn of the program, and what a chain of turns comes to.
use Rattle.std.specs.Prelude.{ℕ, ◌+◌, ◌≤◌, ◌<◌, ◌≡◌, Bool, true, false, List, [], ◌∷◌, ◌++◌, eqb, length}
use Rattle.std.proofs.Math.Seq.{slice}
use Rattle.rules.specs.Site.{State}
use Rattle.rules.specs.Calls.{fresh, least}
use Rattle.text.specs.Parts.{split}
use Rattle.station.specs.View.{view, Valid}
use Rattle.reply.specs.Reply.{answered}
use Rattle.session.specs.Session.{console, first, served, feed}
use Rattle.session.specs.declared.turn.Wants as declared
use Rattle.session.specs.declared.turn.Wants.TheVariants.{Bytes, Room as Space, Nothing}
use Rattle.session.specs.declared.turn.Session.{Session}
use Rattle.station.specs.declared.Station.{Station}

-- past this length of the text no further request is answered
abbrev pub full : ℕ
full = 6000

-- Requests of a block

-- a block from a place on, and its requests
abbrev pub after : List ℕ → ℕ → List ℕ
after block from = slice from (length block) block

abbrev pub requests_after : List ℕ → ℕ → List (List ℕ)
requests_after block from = split 10 (after block from)

-- Requests of a block were answered, up to a place: what all its requests give is the text, and then what the requests after that
-- place give.
pub record Answers (s : State) (block : List ℕ) (station : Station) (from : ℕ) (out : List ℕ) : Type 0 where
  pub replies_are : served s (split 10 block) ≡ first out (served (view station) (requests_after block from))
  pub valid : Valid station
  pub within : from ≤ length block
  pub some_answered : 0 < length out → 0 < from

-- Where there is room left, no request is left that has ended.
pub record Stops (block : List ℕ) (from : ℕ) (out : List ℕ) : Type 0 where
  pub none_left : length out ≤ full → requests_after block from ≡ after block from ∷ []

-- what is kept of a request that goes on: all of it, or 4,097 bytes
pub record KeptTo (from filled to : ℕ) : Type 0 where
  pub low : from ≤ to
  pub high : to ≤ filled
  pub few : to ≤ from + 4097
  pub whole : to < filled → to ≡ from + 4097

-- Turns

-- the input has ended: bytes were wanted, and none came
abbrev pub ends : declared.Wants → ℕ → Bool
ends Bytes count = eqb count 0
ends Space count = false
ends Nothing count = true

abbrev pub over : declared.Wants → Bool
over Bytes = false
over Space = false
over Nothing = true

-- Bytes are wanted only where no request that has ended waits for its answer, and there is room for them. Where room was
-- wanted, something was answered: fewer bytes are held than there were.
abbrev pub Standing : declared.Wants → List ℕ → ℕ → Type 0
Standing Bytes held there = (split 10 held ≡ held ∷ []) × (length held ≤ 4097)
Standing Space held there = length held < there
Standing Nothing held there = held ≡ []

-- The contract of a turn: `block` is what is held and the bytes just read after it, and `held` what is held then. While the input
-- goes on, the block gives the text that is handed out, and then what the next session holds. Where it has ended, what is held is
-- answered as the last request.
pub record Turned (s : Session) (count : ℕ) (block : List ℕ) (r : Session) (held out : List ℕ) : Type 0 where
  pub goes_on :
      ends s.wants count ≡ false
      → feed (view s.station) [] block ≡ first out (feed (view r.station) [] held)
  pub has_ended :
      ends s.wants count ≡ true
      → answered (view s.station) block ≡ record { state = view r.station; text = out }
  pub over_so : over r.wants ≡ ends s.wants count
  pub standing : Standing r.wants held (length block)
  pub valid : Valid r.station

-- Chains of turns

-- Turns one after another, from the fresh station of 1, 100 with nothing held: all that was read, all that was handed out
-- to be written, and the session and what is held after the last turn. Each turn meets `turn`'s contract on the session before
-- it, with whatever part of the input was read behind what was held.
pub data Chain : List ℕ → List ℕ → Session → List ℕ → Type 0 where
  opened : {s : Session} → view s.station ≡ fresh least → s.wants ≡ Bytes → Chain [] [] s []
  turned :
      {read written : List ℕ} {s : Session} {before : List ℕ} (part : List ℕ) {r : Session} {held out : List ℕ}
      → Chain read written s before
      → over s.wants ≡ false
      → Turned s (length part) (before ++ part) r held out
      → Chain (read ++ part) (written ++ out) r held

-- THE THEOREM, for every chain of turns. Where bytes are wanted, the texts handed out, the station and what is held are the
-- definition's for all that was read so far: every request that has ended is answered. Where nothing is wanted any more, the
-- texts put together are the program's whole output, and the station is its station.
pub record AnswersAll (read written : List ℕ) (s : Session) (held : List ℕ) : Type 0 where
  pub so_far :
      s.wants ≡ Bytes
      → feed (fresh least) [] read ≡ record { state = view s.station; kept = held; text = written }
  pub whole : s.wants ≡ Nothing → console read ≡ record { state = view s.station; text = written }

abbrev pub EveryChain : Type 0
EveryChain = (read written : List ℕ) (s : Session) (held : List ℕ) → Chain read written s held → AnswersAll read written s held

-- A chain leads here.
pub record Reached (s : Session) (held : List ℕ) : Type 0 where
  pub read : List ℕ
  pub written : List ℕ
  pub chain : Chain read written s held
