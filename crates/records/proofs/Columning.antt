-- Columns read byte by byte.
use mathlib.Core.Path.{◌≡◌, refl, ap, ◌∙◌}
use Prim.Native.Nat.{ℕ, ◌+◌, ◌-◌, ◌≤◌, ◌<◌}
use mathlib.Core.List.{List, ◌++◌}
use native.Mathlib.Omega.{arith}
use lib.ListN.{length, get_or, take, drop, replicate, length-replicate}
use Rattle.std.proofs.lemmas.List.{length-append, length-drop, length-take-le, get_or-take, get_or-drop, get_or_append_left, get_or-append_right}
use Rattle.rules.specs.Site.{places}
use Rattle.charges.specs.Arrays.{Filled}
use Rattle.charges.proofs.Storing.{zeros}
use Rattle.records.specs.Contents.{record_in, field_in}
use Rattle.records.specs.Columns.{capacity, RowJoined, ColumnRead}
use Rattle.records.proofs.Joining.{Joined, joined-more, joined_fits, field_joined}

pub filled_by_none : (held : ℕ) → Filled held (replicate places 0)
filled_by_none held = record { full = length-replicate {A = ℕ} places 0; clear = λ i l. zeros places i }

-- One byte more of each number, of which `j` bytes are still to come

abbrev pub RowsJoined : List ℕ → ℕ → ℕ → ℕ → ℕ → List ℕ → Type 0
RowsJoined contents held from width j column = (q : ℕ) → q < held → Joined (record_in contents q) from width j (get_or column q 0)

module _ (contents : List ℕ) {column : List ℕ} {held from width j : ℕ} (few : held ≤ places) (filled : Filled held column)
    (joined : RowsJoined contents held from width j column) where
  pub held_long : length (take held column) ≡ held
  held_long = length-take-le held column (omega (arith, filled.full))

  pub row_fits : width ≤ 4 → 0 < j → (q : ℕ) → q < length (take held column) → get_or (take held column) q 0 < 16777216
  row_fits w p q h =
      let l : q < held = omega (arith, held_long) in
      omega (arith, get_or-take held column q 0 l, joined_fits (joined q l) w p)

  module _ (new : List ℕ) (row : RowJoined contents (from + (j - 1)) (take held column) new) where
    new_long : length new ≡ held
    new_long = row.long ∙ held_long

    pub row_filled : Filled held (new ++ drop held column)
    row_filled =
        record {
          full = omega (arith, length-append new (drop held column), length-drop held column, new_long, filled.full);
          clear = λ i l.
              let e : held + (i - held) ≡ i = omega arith in
              get_or-append_right new (drop held column) held i 0 new_long l
              ∙ get_or-drop held column (i - held) 0
              ∙ ap (λ k. get_or column k 0) e
              ∙ filled.clear i l;
        }

    pub rows_joined : 0 < j → RowsJoined contents held from width (j - 1) (new ++ drop held column)
    rows_joined p q l =
        let h : q < length (take held column) = omega (arith, held_long) in
        rw (get_or_append_left new (drop held column) 0 q (omega (arith, new_long)), row.each q h, get_or-take held column q 0 l)
        (joined-more (joined q l) (record_in contents q (from + (j - 1))) p (row.small q h) refl)

pub column_read :
    (contents : List ℕ) {column : List ℕ} {held from width j : ℕ}
    → Filled held column
    → RowsJoined contents held from width j column
    → j ≤ 0
    → ColumnRead contents from width held column
column_read contents {column} {held} {from} {width} {j} filled joined h =
    record {
      column_to = record { filled = filled; each = λ q l. (all q l).0 };
      small = λ q l. (all q l).1;
    }
  where
    all : (q : ℕ) → q < held → (get_or column q 0 ≡ field_in contents from width q) × (get_or column q 0 < capacity width)
    all q l = field_joined contents from width q (joined q l) h
