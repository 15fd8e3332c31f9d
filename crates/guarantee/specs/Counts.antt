-- What is drawn of W in a minute is the sum of the counts of all lines of all feeders.
use Rattle.std.specs.Prelude.{◌≡◌, ℕ, zero, suc, ◌+◌, List, length}
use Rattle.rules.specs.Site.{State}
use Rattle.rules.specs.Valid.{ValidState}
use Rattle.rules.specs.Calls.{Call, step}
use Rattle.guarantee.specs.Past.{past, count_in, site_in}

-- the sum of what k numbers from a on have
abbrev pub sum_over : (ℕ → ℕ) → ℕ → ℕ → ℕ
sum_over g zero a = 0
sum_over g (suc k) a = g a + sum_over g k (suc a)

-- the sum over the lines of a feeder
abbrev pub over_lines : (ℕ → ℕ) → ℕ
over_lines g = sum_over g 3 1

-- "the weighted count of all lines in a minute", after every list of calls
abbrev pub SiteIsTheSum : Type 0
SiteIsTheSum =
    (s : State) (calls : List Call)
    → ValidState s
    → (t : ℕ)
    → site_in step (past step s calls) t
    ≡ sum_over (λ f. over_lines (λ l. count_in step (past step s calls) f l t)) (length s.feeders) 1
