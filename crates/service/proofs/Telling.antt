-- What a call of the rules tells is found in the numbers of its answer by the names that belong to the call.
use mathlib.Core.Logic.{inl, inr}
use mathlib.Core.Path.{◌≡◌, refl, ap, ◌∙◌}
use Prim.Native.Nat.{ℕ, zero, suc}
use Rattle.rules.specs.Basics.{first_of}
use Rattle.rules.specs.Site.{State}
use Rattle.rules.specs.Calls.{Answer, refused, answering, Call, preview, commit, move, offer, replan_latest, replan_lines, enquire, board, withdraw, lent, refusals, granted, step}
use Rattle.rules.specs.Valid.{ValidState}
use Rattle.rules.proofs.Granted.{refusals_none}
use Rattle.guarantee.specs.DemandOne.{AnswerTo}
use Rattle.guarantee.proofs.DemandOne.{valid_demand_one}
use Rattle.calls.specs.Applied as calls
use Rattle.calls.specs.declared.Answer.{Answer as Given}
use Rattle.calls.specs.declared.Answer.TheVariants.{Previewed, Committed, Moved, Planned, Waiting, Charging, Looked, Withdrawn}
use Rattle.service.specs.Left.{telling, told}
use Rattle.service.specs.Named.{numbers_of, Tells}
use Rattle.service.specs.declared.numbers.Numbers.{Numbers}

-- an answer of the call's own kind
answer_told : (c : Call) (a : Answer) (n : Numbers) → AnswerTo c a → Tells a n → told a ≡ telling (numbers_of c n)
answer_told (preview f line p d rate) a n (s, e) h = cc
answer_told (commit f line p d rate shown) a n (t, e) h = cc
answer_told (move target list) a n (i, j, e) h = cc
answer_told (offer f ss) a n (i, b, c, k, e) h = cc
answer_told (replan_latest f) a n (i, b, c, k, e) h = cc
answer_told (replan_lines f allowance) a n (i, b, c, k, e) h = cc
answer_told (enquire ticket) a n (inl (s, r, e)) h = cc
answer_told (enquire ticket) a n (inr (s, u, r, e)) h = cc
answer_told (board asked list) a n (i, e) h = cc
answer_told (withdraw ticket) a n e h = cc

-- what a call tells where it is not refused is no refusal
not_refused : (a : Given) (k : ℕ) → calls.told_of a ≡ refused k → ⊥
not_refused (Previewed start) k e = cc
not_refused (Committed c) k e = cc
not_refused (Moved m) k e = cc
not_refused (Planned p) k e = cc
not_refused (Waiting start rate) k e = cc
not_refused (Charging start end rate) k e = cc
not_refused (Looked n) k e = cc
not_refused Withdrawn k e = cc

-- a call of a valid station: what is not refused is answered in its own kind
pub told_by :
    (s : State) (c : Call) (a : Given) (n : Numbers)
    → ValidState s → calls.told_of a ≡ (step s c).answer → Tells (calls.told_of a) n → told (calls.told_of a) ≡ telling (numbers_of c n)
told_by s c a n v same h = go (first_of (refusals s c)) refl
  where
    go : (k : ℕ) → first_of (refusals s c) ≡ k → told (calls.told_of a) ≡ telling (numbers_of c n)
    go zero e = answer_told c (calls.told_of a) n (rw same ((valid_demand_one s v c).answered (refusals_none s c e))) h
    go (suc k) e = absurd (not_refused a (suc k) (same ∙ ap (λ (i : ℕ). (answering i s (lent c) (granted s c)).answer) e))

-- The number of the blocks is told beside them

abbrev pub with_blocks : ℕ → Numbers → Numbers
with_blocks blocks n =
    record {
      blocks = blocks;
      ticket = n.ticket;
      start = n.start;
      rate = n.rate;
      end = n.end;
      cause = n.cause;
      before = n.before;
      after = n.after;
      rounds = n.rounds;
      reported = n.reported;
      dropped = n.dropped;
      looked = n.looked;
    }

pub same_numbers : (c : Call) (blocks : ℕ) (n : Numbers) → numbers_of c (with_blocks blocks n) ≡ numbers_of c n
same_numbers (preview f line p d rate) blocks n = refl
same_numbers (commit f line p d rate shown) blocks n = refl
same_numbers (move target list) blocks n = refl
same_numbers (offer f ss) blocks n = refl
same_numbers (replan_latest f) blocks n = refl
same_numbers (replan_lines f allowance) blocks n = refl
same_numbers (enquire ticket) blocks n = refl
same_numbers (board asked list) blocks n = refl
same_numbers (withdraw ticket) blocks n = refl
