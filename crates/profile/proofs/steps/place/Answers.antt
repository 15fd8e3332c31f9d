use Rattle.std.proofs.Common.{rules}
use borrow.Author.Tests.{tests}
use lib.Dec.{leb}
use Rattle.std.proofs.lemmas.List.Sorted.{IsPartitionPoint-from_clause}
use Rattle.profile.proofs.Placing.{begun_first, one_begun, last_begun}
use Rattle.profile.proofs.steps.place.Goals as goal

pub overflow_sub-result : goal.overflow_sub-result
overflow_sub-result c =
    one_begun c.args.steps.now c.args.t _ c.requires.0 c.requires.1
    (IsPartitionPoint-from_clause (λ x. leb x.minute c.args.t) c.args.steps.now _ c.partition_point.ensures.partitioned (begun_first c.args.steps.now c.args.t c.requires.0) (λ a r q k. search (rules, tests)))

pub returns : goal.returns
returns c =
    last_begun c.args.steps.now c.args.t _ c.requires.0 c.requires.1
    (IsPartitionPoint-from_clause (λ x. leb x.minute c.args.t) c.args.steps.now _ c.partition_point.ensures.partitioned (begun_first c.args.steps.now c.args.t c.requires.0) (λ a r q k. search (rules, tests)))
    c.partition_point.ensures.bound
