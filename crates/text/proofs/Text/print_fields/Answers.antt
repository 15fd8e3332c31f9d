use mathlib.Core.List.{List, [], ◌++◌}
use Prim.Native.Nat.{ℕ}
use denote.Ref.{Bor}
use native.Mathlib.Omega.{arith}
use Rattle.text.specs.Printed.{fields_of, fields_text}
use Rattle.text.proofs.Printing.{room_left, fields_more}
use Rattle.text.proofs.Text.print_fields.Goals as goal

-- how an element that is not there is written
abbrev none : Bor (List ℕ) × ℕ
none = (record { ref_ptr = (0, 0); now = [] }, 0)

pub print_field-requires : goal.print_field-requires
print_field-requires g c = omega (arith, room_left c.args.fields.now c.loop-text.text-index none c.loop-text-test.true)

pub loop-text-preserved : goal.loop-text-preserved
loop-text-preserved g c = (
  fields_more c.args.fields.now c.loop-text.text-index none c.loop-text-test.true c.loop-text.self (c.args.self.now ++ fields_text (fields_of c.args.fields.now)) c.loop-text.invariant.0 (search),
  omega (arith, room_left c.args.fields.now c.loop-text.text-index none c.loop-text-test.true),
)
