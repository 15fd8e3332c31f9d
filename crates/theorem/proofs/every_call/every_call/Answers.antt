use Rattle.theorem.proofs.EveryCall.{call_refused, others_answered, starts_and_plans}
use Rattle.theorem.proofs.every_call.every_call.Goals as goal

pub returns : goal.returns
returns c =
    record {
      table = call_refused;
      answered = others_answered;
      starts = starts_and_plans;
    }
