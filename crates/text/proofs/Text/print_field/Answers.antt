-- `text::Text::print_field` meets its contract: a number has 20 digits at most.
use mathlib.Core.Path.{ap}
use native.Mathlib.Omega.{arith}
use lib.ListN.{length, length-append}
use Rattle.text.proofs.Values.{length_decimal}
use Rattle.text.proofs.Text.print_field.Goals as goal

pub print_number-requires : goal.print_number-requires
print_number-requires g c = rw c.print.ensures (omega (arith, length-append c.args.self.now c.args.text.now, length_decimal))

pub returns-clause-upper_bound : goal.returns-clause-upper_bound
returns-clause-upper_bound g c =
    omega (arith, ap length c.print_number.ensures, length-append c.print.new.self, ap length c.print.ensures, length-append c.args.self.now c.args.text.now, length_decimal)
