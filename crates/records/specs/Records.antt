-- Contents whose block 0 is in range, if it is.
use Rattle.std.specs.Prelude.{◌≡◌, ℕ, false, List, Option, Some, None}
use Rattle.records.specs.declared.reading.Records.{Records}
use Rattle.records.specs.Contents.{header_right}

abbrev pub RecordsOf : List ℕ → Option Records → Type 0
RecordsOf contents (Some r) = r.contents.now ≡ contents
RecordsOf contents None = header_right contents ≡ false
