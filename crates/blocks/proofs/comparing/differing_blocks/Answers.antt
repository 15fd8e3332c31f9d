-- One run of calls stands behind each call of the chain.
use mathlib.Core.Path.{ap, ◌∙◌}
use Prim.Native.Nat.{◌+◌}
use mathlib.Core.Bool.{cond, not}
use lib.Dec.{eqb}
use Rattle.std.specs.Cmp.Lexicographic.{pointwise}
use Rattle.std.specs.Slice.Iter.{chunks_rest, chunks_size}
use Rattle.std.proofs.Common.{rules}
use Rattle.blocks.proofs.Chunks.{chunks_run, differing_told}
use Rattle.blocks.proofs.comparing.differing_blocks.Goals as goal

pub returns : goal.returns
returns c =
    let u = c.count.ensures.runs in
    let q = c.filter.ensures.runs u.0 u.0.seen u.1 in
    let z = c.zip.ensures.runs q.0 q.0.seen q.1 in
    let second = z.2.1 ∙ c.zip.ensures.second in
    u.3
    ∙ q.2.5 (λ n p. n + cond (not (pointwise eqb p.0.now p.1.now)) 1 0) (λ x b f n k. search rules)
    ∙ differing_told c.args.a.now c.args.b.now q.0 z.0 z.2.0 c.told-a c.told-b (q.2.0 ∙ u.2) z.2.2
    (chunks_run c.args.a.now z.0 (c.chunks.ensures.runs z.0 z.0.seen) (ap chunks_size z.1 ∙ c.chunks.ensures.size) (ap chunks_rest z.1 ∙ c.chunks.ensures.rest))
    (chunks_run c.args.b.now z.2.0 (c.chunks-2.ensures.runs z.2.0 z.2.0.seen) (ap chunks_size second ∙ c.chunks-2.ensures.size) (ap chunks_rest second ∙ c.chunks-2.ensures.rest))
