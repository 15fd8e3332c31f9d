-- `requests::call_named` meets its contract: a word that has the length and the bytes of a call's is that word.
use native.Mathlib.Omega.{arith}
use borrow.Author.Rules.{rules}
use lib.Chars.{codes}
use Rattle.std.proofs.lemmas.Slice.Eq.{text_from_reads}
use Rattle.requests.proofs.word.call_named.Goals as goal

pub returns-in-open : goal.returns-in-open
returns-in-open c = rw (text_from_reads c.args.word.now (codes "open") (omega arith) (search rules))

pub returns-in-preview : goal.returns-in-preview
returns-in-preview c = rw (text_from_reads c.args.word.now (codes "preview") (omega arith) (search rules))

pub returns-in-commit : goal.returns-in-commit
returns-in-commit c = rw (text_from_reads c.args.word.now (codes "commit") (omega arith) (search rules))

pub returns-in-move : goal.returns-in-move
returns-in-move c = rw (text_from_reads c.args.word.now (codes "move") (omega arith) (search rules))

pub returns-in-offer : goal.returns-in-offer
returns-in-offer c = rw (text_from_reads c.args.word.now (codes "offer") (omega arith) (search rules))

pub returns-in-latest : goal.returns-in-latest
returns-in-latest c = rw (text_from_reads c.args.word.now (codes "latest") (omega arith) (search rules))

pub returns-in-lines : goal.returns-in-lines
returns-in-lines c = rw (text_from_reads c.args.word.now (codes "lines") (omega arith) (search rules))

pub returns-in-enquire : goal.returns-in-enquire
returns-in-enquire c = rw (text_from_reads c.args.word.now (codes "enquire") (omega arith) (search rules))

pub returns-in-board : goal.returns-in-board
returns-in-board c = rw (text_from_reads c.args.word.now (codes "board") (omega arith) (search rules))

pub returns-in-withdraw : goal.returns-in-withdraw
returns-in-withdraw c = rw (text_from_reads c.args.word.now (codes "withdraw") (omega arith) (search rules))
