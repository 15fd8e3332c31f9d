-- The contents of a station: block 0 from its numbers, and the rows of the records from their columns.
use mathlib.Core.Path.{◌≡◌, ap, sym, ◌∙◌}
use Prim.Native.Nat.{ℕ, zero, suc, ◌+◌, ◌-◌, ◌*◌, ◌/◌, ◌%◌, ◌≤◌, ◌<◌}
use mathlib.Core.List.{List, [], ◌∷◌}
use native.Mathlib.Omega.{arith}
use lib.ListN.{length, get_or, take}
use Rattle.std.proofs.lemmas.List.{length-take-le, get_or-take}
use borrow.Author.Tests.{lt-ltb, le-ltb}
use Rattle.rules.specs.Site.{State}
use Rattle.charges.specs.Arrays.{charge_at, Filled, Columns}
use Rattle.station.specs.declared.only.One.{One}
use Rattle.validity.specs.declared.header.Header.{Header}
use Rattle.validity.specs.Settled.{held_by, single}
use Rattle.layout.specs.Bytes.{byte_of, packed_from, packed}
use Rattle.layout.specs.Arrangement.{per_block, number_of}
use Rattle.layout.specs.Image.{header_of, fields_of, record_byte, numbered}
use Rattle.layout.proofs.Contents.{record_held, record_none, numbered_in, numbered_out, content_header, content_records}
use Rattle.layout.proofs.Laying.{record_back, byte_back}
use Rattle.validity.proofs.Settling.{held_count, held_at_lem}
use Rattle.records.specs.Contents.{content_byte, record_place}
use Rattle.records.specs.Rows.{RowOf, HeaderOf}

-- Where they come from

module _ (s : State) where
  first_content : (i : ℕ) → i < 508 → content_byte s i ≡ packed (header_of s) i
  first_content i h =
      let b : i / per_block ≡ 0 = omega arith in
      let p : i % per_block ≡ i = omega arith in
      rw (b, p) (content_header s i)

  -- the byte with number z
  numbered_content : (z : ℕ) → content_byte s (per_block + z) ≡ numbered s z
  numbered_content z =
      let b : (per_block + z) / per_block ≡ suc (z / per_block) = omega arith in
      let p : (per_block + z) % per_block ≡ z % per_block = omega arith in
      let e : per_block * (suc (z / per_block) - 1) + z % per_block ≡ z = omega arith in
      rw (b, p) (content_records s (suc (z / per_block)) (z % per_block) (λ n. omega arith) (omega arith) ∙ ap (numbered s) e)

  record_content : (q j : ℕ) → q < 200 → j < 20 → content_byte s (record_place q j) ≡ record_byte s q j
  record_content q j h l =
      numbered_content (number_of q j)
      ∙ numbered_in s (number_of q j) (omega arith)
      ∙ rw (record_back q j h l, byte_back q j h l)

  -- nothing behind the records
  pub last_content : (i : ℕ) → 4508 ≤ i → i < 4572 → ◌≡◌ {A = ℕ} (content_byte s i) 0
  last_content i h l =
      let e : per_block + (i - per_block) ≡ i = omega arith in
      rw e at (numbered_content (i - per_block) ∙ numbered_out s (i - per_block) (omega arith))

-- Fields

-- where field w begins, the first of them at place a
abbrev pub begins : ℕ → List (ℕ × ℕ) → ℕ → ℕ
begins a [] w = a
begins a (x ∷ xs) zero = a
begins a (x ∷ xs) (suc w) = begins (a + x.0) xs w

-- its width and its number
abbrev pub field : List (ℕ × ℕ) → ℕ → ℕ × ℕ
field xs w = get_or xs w (0, 0)

begins_past : (a : ℕ) (xs : List (ℕ × ℕ)) (w : ℕ) → a ≤ begins a xs w
begins_past a [] w = omega arith
begins_past a (x ∷ xs) zero = omega arith
begins_past a (x ∷ xs) (suc w) = omega (arith, begins_past (a + x.0) xs w)

field_bytes :
    (a : ℕ) (xs : List (ℕ × ℕ)) (w j : ℕ) → j < (field xs w).0 → packed_from a xs (begins a xs w + j) ≡ byte_of j (field xs w).1
field_bytes a [] w j h = absurd (omega arith)
field_bytes a (x ∷ xs) zero j h =
    let s : a + j - a ≡ j = omega arith in
    rw (lt-ltb (a + j) (a + x.0) (omega arith), s)
field_bytes a (x ∷ xs) (suc w) j h =
    rw (le-ltb (begins (a + x.0) xs w + j) (a + x.0) (omega (arith, begins_past (a + x.0) xs w))) (field_bytes (a + x.0) xs w j h)

-- Block 0

-- what a feeder and its station have there, with so many charges
abbrev pub header_with : One → ℕ → Header
header_with o n =
    record {
      settings = record { limit = o.feeder.limit; percent = o.feeder.percent; tail = o.feeder.tail };
      clock = o.clock;
      next = o.next;
      held = n;
      site = o.site;
    }

module _ (s : State) where
  header_content :
      (w j : ℕ) → j < (field (header_of s) w).0 → begins 0 (header_of s) w + j < 508 →
      byte_of j (field (header_of s) w).1 ≡ content_byte s (begins 0 (header_of s) w + j)
  header_content w j h l = sym (field_bytes 0 (header_of s) w j h) ∙ sym (first_content s (begins 0 (header_of s) w + j) l)

  pub behind_header : (i : ℕ) → 28 ≤ i → i < 508 → ◌≡◌ {A = ℕ} (content_byte s i) 0
  behind_header i l h =
      first_content s i h
      ∙ rw (le-ltb i 4 (omega arith), le-ltb i 8 (omega arith), le-ltb i 12 (omega arith), le-ltb i 16 (omega arith), le-ltb i 20 (omega arith), le-ltb i 24 (omega arith), le-ltb i 28 l)

module _ (o : One) where
  -- block 0 of a station has the numbers of its only feeder
  pub header_of_lem : HeaderOf (content_byte (single o)) (header_with o (held_by o).held)
  header_of_lem =
      record {
        limit = λ j h. header_content (single o) 0 j h (omega arith);
        percent = λ j h. header_content (single o) 1 j h (omega arith);
        tail = λ j h. header_content (single o) 2 j h (omega arith);
        clock = λ j h. header_content (single o) 3 j h (omega arith);
        next = λ j h. header_content (single o) 4 j h (omega arith);
        held = λ j h. ap (byte_of j) (sym (held_count o)) ∙ header_content (single o) 5 j h (omega arith);
        site = λ j h. header_content (single o) 6 j h (omega arith);
      }

-- Records

module _ (o : One) (k : Columns (held_by o)) where
  abbrev held : List ℕ → List ℕ
  held column = take (held_by o).held column

  -- byte `byte` of a column's numbers as byte j of the records
  abbrev SameByte : List ℕ → ℕ → ℕ → Type 0
  SameByte column j byte = (q : ℕ) → byte_of byte (get_or column q 0) ≡ packed (fields_of (charge_at (held_by o) q)) j

  pub held_long : (column : List ℕ) → Filled (held_by o).held column → length (held column) ≡ (held_by o).held
  held_long column f = length-take-le (held_by o).held column (omega (arith, (held_by o).few, f.full))

  row_of_lem :
      (column : List ℕ) (j byte : ℕ) → Filled (held_by o).held column → j < 20 → SameByte column j byte → RowOf (content_byte (single o)) (held column) j byte
  row_of_lem column j byte f h e =
      record {
        each = λ q l.
            let m : q < (held_by o).held = omega (arith, held_long column f) in
            ap (byte_of byte) (get_or-take (held_by o).held column q 0 m)
            ∙ e q
            ∙ ap (λ c. packed (fields_of c) j) (sym (held_at_lem o q m))
            ∙ sym (record_held (single o) q j (omega (arith, held_count o)))
            ∙ sym (record_content (single o) q j (omega (arith, (held_by o).few)) h);
        none = λ q l m. record_content (single o) q j m h ∙ record_none (single o) q j (omega (arith, held_count o, held_long column f));
      }

  -- field w of a record has the number of a column
  abbrev pub FieldOf : List ℕ → ℕ → ℕ → ℕ → Type 0
  FieldOf column w from width = (q : ℕ) → (begins 0 (fields_of (charge_at (held_by o) q)) w ≡ from)
      × (field (fields_of (charge_at (held_by o) q)) w ≡ (width, get_or column q 0))

  pub column_of_lem :
      (column : List ℕ) (w from width : ℕ)
      → FieldOf column w from width
      → Filled (held_by o).held column
      → from + width ≤ 20
      → (byte : ℕ)
      → byte < width
      → RowOf (content_byte (single o)) (held column) (from + byte) byte
  column_of_lem column w from width e f h byte l = row_of_lem column (from + byte) byte f (omega arith) same
    where
      same : SameByte column (from + byte) byte
      same q =
          let inside : byte < (field (fields_of (charge_at (held_by o) q)) w).0 = rw (e q).1 l in
          sym (rw ((e q).0, (e q).1) at (field_bytes 0 (fields_of (charge_at (held_by o) q)) w byte inside))
