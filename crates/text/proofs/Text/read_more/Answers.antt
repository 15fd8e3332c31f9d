-- `text::Text::read_more` meets its contract: what is read stands behind the bytes that are held.
use native.Mathlib.Omega.{arith}
use Prim.Native.Nat.{◌≤◌}
use lib.ListN.{length, take}
use lib.Seq.{length-take-le}
use Rattle.text.proofs.Blocks.{came, grown}
use Rattle.text.proofs.Text.read_more.Goals as goal

pub returns : goal.returns
returns g c =
    let count = c.unwrap_or-count.result in
    let fits : count ≤ length c.read.new.buf = omega (arith, came c.read.result c.read.new.buf c.read.ensures.bound) in (
      take count c.read.new.buf,
      length-take-le count c.read.new.buf fits,
      rw (← c.self.view_is) (grown c.self.inside.bytes c.read.new.buf _ c.self.inside.length count (omega arith) fits),
    )
