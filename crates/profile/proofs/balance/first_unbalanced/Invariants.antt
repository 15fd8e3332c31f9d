-- The steps so far are in balance; and in this one each line before `line` is near the next one.
use Rattle.std.proofs.Common.{◌≡◌, ℕ, ◌<◌, true, get_or}
use Rattle.rules.specs.Load.{balanced}
use Rattle.profile.specs.Steps.{counts_of, empty_step}
use Rattle.profile.proofs.Balances.{Compared}
use Rattle.profile.proofs.balance.first_unbalanced.Given as goal

abbrev pub invariant-loop-line : goal.invariant-loop-line
invariant-loop-line l = Compared l.step l.bound l.line

abbrev pub invariant-loop-step : goal.invariant-loop-step
invariant-loop-step l = (j : ℕ) → j < l.step-index → balanced l.bound (counts_of (get_or l.steps j (empty_step 0))) ≡ true
