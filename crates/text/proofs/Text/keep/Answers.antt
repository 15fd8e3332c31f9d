-- `text::Text::keep` meets its contract: bytes are copied as if to another place first.
use mathlib.Core.Path.{◌≡◌}
use Rattle.std.specs.List.{copy_within}
use Rattle.text.proofs.Blocks.{carried}
use Rattle.text.proofs.Text.keep.Goals as goal

pub returns : goal.returns
returns g c =
    let moved : c.copy_within.new.self ≡ copy_within c.self.inside.bytes c.args.from c.args.to 0 = search in
    rw (moved, ← c.self.view_is) (carried c.self.inside.bytes c.self.inside.length c.args.from c.args.to (rw c.self.view_is c.requires.1))
