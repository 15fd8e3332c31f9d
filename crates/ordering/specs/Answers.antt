-- What a preview and a commit answer.
use Rattle.std.specs.Prelude.{ℕ, Result}
use Rattle.rules.specs.Calls.{Answer, previewed, committed}
use Rattle.refusals.specs.declared.Refusal.{Refusal}
use Rattle.refusals.specs.Refusals.{answer_by}
use Rattle.ordering.specs.declared.commit.Committed.{Committed}

abbrev pub preview_answer : Result ℕ Refusal → Answer
preview_answer = answer_by previewed

abbrev pub committed_of : Committed → Answer
committed_of c = committed c.ticket c.start

abbrev pub commit_answer : Result Committed Refusal → Answer
commit_answer = answer_by committed_of
