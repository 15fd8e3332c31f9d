-- The closure is the test of one block, and the chunks are all blocks.
use Rattle.std.proofs.Common.{◌∙◌, rules, tests}
use Rattle.std.proofs.lemmas.Iterator.{YieldsList-from_slice}
use Rattle.std.proofs.lemmas.Iterator.Search.{all_from_yields_List}
use Rattle.layout.specs.Reading.{checked}
use Rattle.blocks.proofs.Chunks.{chunks_checked}
use Rattle.blocks.proofs.contents.is_undamaged.Goals as goal

pub returns : goal.returns
returns c =
    all_from_yields_List (λ block. checked block 0) _ _ _ c.all.ensures.ran (YieldsList-from_slice _ cc) (λ x b q k. search (rules, tests))
    ∙ chunks_checked c.args.image.now c.told-image
