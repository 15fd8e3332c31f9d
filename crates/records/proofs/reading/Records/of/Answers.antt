-- The numbers of block 0 pass their test, or they do not.
use mathlib.Core.Path.{ap, sym, ◌∙◌}
use Rattle.records.specs.Contents.{in_range, header_right}
use Rattle.records.proofs.StationRead.{headed}
use Rattle.records.proofs.reading.Records.of.Goals as goal

pub invariant_of-result : goal.invariant_of-result
unfolding header_right
invariant_of-result c =
    record {
      headed = headed c.args.contents.now (ap in_range (sym c.read_header-header.ensures) ∙ sym c.is_in_range.ensures ∙ c.if-is_in_range.true) _ c.read_header-header.ensures;
    }

pub returns-else-is_in_range : goal.returns-else-is_in_range
unfolding header_right
returns-else-is_in_range c = ap in_range (sym c.read_header-header.ensures) ∙ sym c.is_in_range.ensures ∙ c.if-is_in_range.false
