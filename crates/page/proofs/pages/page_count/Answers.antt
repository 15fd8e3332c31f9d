-- `page::page_count` meets its contract.
use native.Mathlib.Omega.{arith}
use Rattle.page.proofs.Counting.{counted}
use Rattle.page.proofs.pages.page_count.Goals as goal

pub returns : goal.returns
returns c = (cc (counted c.args.held), omega arith)
