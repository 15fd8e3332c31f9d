-- `text::Text::print_fields` meets its contract: field by field, and those that are left need no more room than all leave.
use Rattle.std.proofs.Common.{◌≡◌, ◌++◌, ◌+◌, ◌≤◌, length, drop}
use Rattle.text.specs.Printed.{fields_text, fields_of, room_of}
use Rattle.text.proofs.Text.print_fields.Given as goal

abbrev pub invariant-loop-text : goal.invariant-loop-text
invariant-loop-text g l =
    (l.self ++ fields_text (fields_of (drop l.text-index l.fields)) ≡ l.initial.self ++ fields_text (fields_of l.fields))
    × (length l.self + room_of (fields_of (drop l.text-index l.fields)) ≤ length l.initial.self + room_of (fields_of l.fields))
