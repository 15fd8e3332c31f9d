-- `text::Text::print_number` meets its contract: the library prints the same digits.
use mathlib.Core.Path.{◌∙◌}
use native.Mathlib.Omega.{arith}
use Rattle.text.proofs.Values.{digits_printed}
use Rattle.text.proofs.Text.print_number.Goals as goal

-- before what is asked of the room, so that a wrong number is refused here
pub returns : goal.returns
returns g c =
    rw (c.print.ensures, digits_printed c.args.n (c.as_bytes-digits.ensures.value ∙ c.format.ensures.text) (omega (arith, c.ranges.n.fits)) (omega arith))

pub print-requires : goal.print-requires
print-requires g c =
    rw (digits_printed c.args.n (c.as_bytes-digits.ensures.value ∙ c.format.ensures.text) (omega (arith, c.ranges.n.fits)) (omega arith)) (search)
