-- The numbers of an answer by their names, and what serving a call hands back.
use Rattle.std.specs.Prelude.{ℕ, ◌≡◌, List, [], ◌∷◌, Option, None, Some, Result, Ok, Err}
use Rattle.rules.specs.Calls.{Answer, refused, opened, previewed, committed, moved, planned, waiting, charging, looked, withdrawn, Call, preview, commit, move, offer, replan_latest, replan_lines, enquire, board, withdraw, written}
use Rattle.refusals.specs.declared.Refusal.{Refusal}
use Rattle.refusals.specs.Refusals.{number_of, refusal_in}
use Rattle.service.specs.Left.{Told, refusing, telling, told, counted, leaving, called}
use Rattle.service.specs.declared.numbers.Numbers.{Numbers}

-- what an enquiry tells, by the end: 1 where there is one, which stands last, and 0 where there is none
abbrev pub enquired : Option ℕ → ℕ → ℕ → List ℕ
enquired None start rate = 0 ∷ start ∷ rate ∷ []
enquired (Some end) start rate = 1 ∷ start ∷ rate ∷ end ∷ []

-- those that an answer has, in its own order; an opening is no call of a station that stands, and has none here
abbrev pub numbers_in : Answer → Numbers → List ℕ
numbers_in (refused number) n = []
numbers_in (opened bounds) n = bounds
numbers_in (previewed start) n = n.start ∷ []
numbers_in (committed ticket start) n = n.ticket ∷ n.start ∷ []
numbers_in (moved reported dropped) n = n.reported ∷ n.dropped ∷ []
numbers_in (planned cause before after rounds) n = n.cause ∷ n.before ∷ n.after ∷ n.rounds ∷ []
numbers_in (waiting start rate) n = enquired n.end n.start n.rate
numbers_in (charging start end rate) n = enquired n.end n.start n.rate
numbers_in (looked count) n = n.looked ∷ []
numbers_in withdrawn n = []

-- the numbers are those of the answer
abbrev pub Tells : Answer → Numbers → Type 0
Tells a n = numbers_in a n ≡ (told a).numbers

-- those that a call tells where it is not refused: of a waiting charge there is no end
abbrev pub numbers_of : Call → Numbers → List ℕ
numbers_of (preview f line p d rate) n = n.start ∷ []
numbers_of (commit f line p d rate shown) n = n.ticket ∷ n.start ∷ []
numbers_of (move target list) n = n.reported ∷ n.dropped ∷ []
numbers_of (offer f ss) n = n.cause ∷ n.before ∷ n.after ∷ n.rounds ∷ []
numbers_of (replan_latest f) n = n.cause ∷ n.before ∷ n.after ∷ n.rounds ∷ []
numbers_of (replan_lines f allowance) n = n.cause ∷ n.before ∷ n.after ∷ n.rounds ∷ []
numbers_of (enquire ticket) n = enquired n.end n.start n.rate
numbers_of (board asked list) n = n.looked ∷ []
numbers_of (withdraw ticket) n = []

-- a refusal tells its number alone
abbrev pub told_of : Call → Result Numbers Refusal → Told
told_of c (Ok n) = telling (numbers_of c n)
told_of c (Err refusal) = refusing (number_of refusal)

-- how many blocks of the image changed; a refusal has none
abbrev pub blocks_in : Result Numbers Refusal → ℕ
blocks_in (Ok n) = n.blocks
blocks_in (Err refusal) = 0

-- Whatever stands behind the references of a call: with these numbers written there, this is exactly what it leaves.
pub record Serves (image : List ℕ) (c : Call) (r : Result Numbers Refusal) (after list : List ℕ) : Type 0 where
  pub result : (numbers : List ℕ) → leaving (refusal_in r) (written (counted (blocks_in r) (told_of c r)) numbers) after list ≡ called numbers image c
