-- The answer's hundreds are within 50 of the product, and it is even where they are 50 away: no other number is like that.
use native.Mathlib.Omega.{arith}
use Rattle.rules.proofs.Rounding.{nearest_only}
use Rattle.profile.proofs.balance.nearest_hundreds.Goals as goal

pub returns-then-rest-gt50 : goal.returns-then-rest-gt50
returns-then-rest-gt50 c =
    nearest_only c.args.product _
    (record { low = omega arith; high = omega arith; even_above = λ e. omega arith; even_below = λ e. omega arith })

pub returns-then-rest-eq50 : goal.returns-then-rest-eq50
returns-then-rest-eq50 c =
    nearest_only c.args.product _
    (record { low = omega arith; high = omega arith; even_above = λ e. omega arith; even_below = λ e. omega arith })

pub returns : goal.returns
returns c =
    nearest_only c.args.product _
    (record { low = omega arith; high = omega arith; even_above = λ e. omega arith; even_below = λ e. omega arith })
