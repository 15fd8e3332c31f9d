-- Demand 1: what is refused, with which number, and that nothing else is.
use Rattle.std.specs.Prelude.{◌⊎◌, ◌↔◌, ◌≡◌, ℕ, Bool, true, false, List, [], ◌∷◌, map}
use Rattle.rules.specs.Basics.{Each}
use Rattle.rules.specs.Site.{State}
use Rattle.rules.specs.Calls.{Asked, Answer, refused, opened, previewed, committed, moved, planned, waiting, charging, looked, withdrawn, Result, fresh, least, open_refusals, Call, preview, commit, move, offer, replan_latest, replan_lines, enquire, board, withdraw, lent, refusals}
use Rattle.guarantee.specs.Past.{Gives, is_refused}

-- "Where several apply", the first in the call's table, for "its stated place goes before its number": k is the number of a
-- condition that applies, and none listed before it does.
abbrev pub FirstIs : List (Bool × ℕ) → ℕ → Type 0
FirstIs [] k = ⊥
FirstIs (row ∷ rows) k = ((row.0 ≡ true) × (row.1 ≡ k)) ⊎ ((row.0 ≡ false) × FirstIs rows k)

abbrev pub NoneApplies : List (Bool × ℕ) → Type 0
NoneApplies rows = Each (λ row. row.0 ≡ false) rows

-- What the listed conditions make of a call; `kept` and `list` are the station and the lent list before it.
pub record RefusedBy (rows : List (Bool × ℕ)) (kept : State) (list : List ℕ) (r : Result) : Type 0 where
  -- "Each gets its number": refused with a number exactly when it is that of the first condition that applies
  pub number : (k : ℕ) → (r.answer ≡ refused k) ↔ FirstIs rows k
  -- "and changes neither the station nor any lent list."
  pub same_station : is_refused r.answer ≡ true → r.state ≡ kept
  pub same_list_lem : is_refused r.answer ≡ true → r.list ≡ list

-- the answers of a call that is not refused
abbrev pub AnswerTo : Call → Answer → Type 0
AnswerTo (preview f line p d rate) a = (s : ℕ) × (a ≡ previewed s)
AnswerTo (commit f line p d rate shown) a = (t : ℕ) × (a ≡ committed t shown)
AnswerTo (move target list) a = (n : ℕ) × (m : ℕ) × (a ≡ moved n m)
AnswerTo (offer f ss) a = (i : ℕ) × (b : ℕ) × (c : ℕ) × (n : ℕ) × (a ≡ planned i b c n)
AnswerTo (replan_latest f) a = (i : ℕ) × (b : ℕ) × (c : ℕ) × (n : ℕ) × (a ≡ planned i b c n)
AnswerTo (replan_lines f allowance) a = (i : ℕ) × (b : ℕ) × (c : ℕ) × (n : ℕ) × (a ≡ planned i b c n)
AnswerTo (enquire ticket) a = ((s : ℕ) × (r : ℕ) × (a ≡ waiting s r)) ⊎ ((s : ℕ) × (e : ℕ) × (r : ℕ) × (a ≡ charging s e r))
AnswerTo (board asked list) a = (n : ℕ) × (a ≡ looked n)
AnswerTo (withdraw ticket) a = a ≡ withdrawn

-- a call to a station that stands: refusals 4 to 18, 23 to 26 and 29; `gives` is what a call to a station gives
pub record DemandOne (gives : Gives) (s : State) (call : Call) : Type 0 where
  pub refused_by : RefusedBy (refusals s call) s (lent call) (gives s call)
  -- "No other call is refused, and every call returns."
  pub answered : NoneApplies (refusals s call) → AnswerTo call (gives s call).answer

-- an opening: refusals 1 to 3, 19, 27 and 28, "beside a refused opening stands the fresh station of 1, 100", with r 0, "one feeder
-- and W 720"; `opens` is what an opening gives
pub record DemandOneOpening (opens : Asked → Result) (a : Asked) : Type 0 where
  pub refused_by : RefusedBy (open_refusals a) (fresh least) [] (opens a)
  pub answered :
      NoneApplies (open_refusals a)
      → ((opens a).answer ≡ opened (map (λ g. g.bound) (fresh a).feeders)) × ((opens a).state ≡ fresh a)
