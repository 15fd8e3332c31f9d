-- Contents written in their order: what is not written yet is 0.
use Rattle.std.specs.Prelude.{ℕ, ◌+◌, ◌≤◌, ◌<◌, ◌≡◌, List, length, get_or}
use Rattle.layout.specs.Bytes.{byte_of}
use Rattle.blocks.specs.Places.{Filling}
use Rattle.validity.specs.declared.header.Header.{Header}
use Rattle.records.specs.Contents.{record_place}

-- contents of which the first k bytes are those of f, and the others 0
pub record Begun (f : ℕ → ℕ) (k : ℕ) (xs : List ℕ) : Type 0 where
  pub filling : Filling f 4572 k xs
  pub rest : (m : ℕ) → k ≤ m → get_or xs m 0 ≡ 0

-- byte `byte` of the numbers of a column is what f has as byte j of the records, and behind them f has 0
pub record RowOf (f : ℕ → ℕ) (column : List ℕ) (j byte : ℕ) : Type 0 where
  pub each : (q : ℕ) → q < length column → byte_of byte (get_or column q 0) ≡ f (record_place q j)
  pub none : (q : ℕ) → length column ≤ q → q < 200 → f (record_place q j) ≡ 0

-- the bytes of a number are those that f has from place a on
abbrev pub NumberOf : (ℕ → ℕ) → ℕ → ℕ → Type 0
NumberOf f a x = (j : ℕ) → j < 4 → byte_of j x ≡ f (a + j)

-- and those of the numbers of block 0
pub record HeaderOf (f : ℕ → ℕ) (header : Header) : Type 0 where
  pub limit : NumberOf f 0 header.settings.limit
  pub percent : NumberOf f 4 header.settings.percent
  pub tail : NumberOf f 8 header.settings.tail
  pub clock : NumberOf f 12 header.clock
  pub next : NumberOf f 16 header.next
  pub held : NumberOf f 20 header.held
  pub site : NumberOf f 24 header.site

-- What is put behind what stands there already, whatever contents these are

pub record HeaderPut (header : Header) (before after : List ℕ) : Type 0 where
  pub put : (f : ℕ → ℕ) → HeaderOf f header → Begun f 0 before → Begun f 28 after

pub record RowPut (column : List ℕ) (j byte : ℕ) (before after : List ℕ) : Type 0 where
  pub put :
      (f : ℕ → ℕ) → RowOf f column j byte → Begun f (record_place 0 j) before → Begun f (record_place 0 (j + 1)) after

pub record ColumnPut (column : List ℕ) (from width : ℕ) (before after : List ℕ) : Type 0 where
  pub put :
      (f : ℕ → ℕ)
      → ((byte : ℕ) → byte < width → RowOf f column (from + byte) byte)
      → Begun f (record_place 0 from) before
      → Begun f (record_place 0 (from + width)) after
