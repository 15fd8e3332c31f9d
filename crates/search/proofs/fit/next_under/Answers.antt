-- `search::fit::next_under` meets its contract: every start is tested, since none ends behind the largest minute.
use Prim.Native.Nat.{◌-◌}
use native.Mathlib.Omega.{arith}
use lib.ListN.{length}
use Rattle.std.proofs.Common.{rules}
use Rattle.profile.proofs.Edited.{minute_at}
use Rattle.search.specs.Caps.{room_under}
use Rattle.search.proofs.Passings.{passing_least}
use Rattle.search.proofs.Unders.{under_rests, under_earliest}
use Rattle.search.proofs.fit.next_under.Goals as goal

pub first_passing-requires-clause-settled : goal.first_passing-requires-clause-settled
first_passing-requires-clause-settled c =
    record {
      passes = room_under c.args.steps.now c.args.caps.now c.args.draw.line c.args.draw.rate;
      tests = λ s i u r e. search rules;
      rests = under_rests c.requires.0 c.requires.1 c.requires.2;
    }

pub returns : goal.returns
returns c =
    let last = minute_at c.args.steps.now (length c.args.steps.now - 1) in
    under_earliest _ (omega (arith, c.min-start.ensures, last))
    (passing_least c.args.steps.now (omega (arith, c.min-start.ensures, last))
    (c.first_passing.ensures.passing (room_under c.args.steps.now c.args.caps.now c.args.draw.line c.args.draw.rate) (λ s i u r e. search rules))
    (omega (arith, c.first_passing.ensures.high)) (omega (arith, c.requires.0.ends_fit)))
