-- Contents written in their order.
use mathlib.Core.Path.{◌≡◌, ap, sym, ◌∙◌}
use Prim.Native.Nat.{ℕ, ◌+◌, ◌-◌, ◌≤◌, ◌<◌}
use mathlib.Core.Logic.{◌⊎◌, inl, inr}
use mathlib.Core.List.{List}
use native.Mathlib.Omega.{arith}
use lib.ListN.{length, get_or, set, replicate, length-replicate}
use lib.Seq.{get_or-set_other}
use Rattle.rules.specs.Site.{places}
use Rattle.rules.proofs.Ranges.{below_or_not}
use Rattle.charges.proofs.Storing.{zeros}
use Rattle.layout.specs.Lists.{listed}
use Rattle.layout.specs.Bytes.{byte_of}
use Rattle.blocks.specs.Places.{Put}
use Rattle.blocks.proofs.Filling.{filling_none, filling_all, filling_put}
use Rattle.records.specs.Contents.{record_place}
use Rattle.records.specs.Rows.{Begun, RowOf}

pub begun_none : (f : ℕ → ℕ) → Begun f 0 (replicate 4572 0)
begun_none f =
    record { filling = filling_none f 4572 (replicate 4572 0) (length-replicate {A = ℕ} 4572 0); rest = λ m h. zeros 4572 m }

-- the four bytes of a number
pub begun_put :
    {f : ℕ → ℕ} {k : ℕ} {xs ys : List ℕ} (x m : ℕ)
    → Begun f k xs
    → Put xs ys k x
    → k + 4 ≤ 4572
    → ((j : ℕ) → j < 4 → byte_of j x ≡ f (k + j))
    → m ≡ k + 4
    → Begun f m ys
begun_put {f} {k} {xs} {ys} x m r e h g i =
    record { filling = filling_put x m r.filling e h g i; rest = λ n l. ap (λ zs. get_or zs n 0) e.result ∙ others n (omega arith) }
  where
    one : List ℕ
    one = set xs k (byte_of 0 x)

    two : List ℕ
    two = set one (k + 1) (byte_of 1 x)

    three : List ℕ
    three = set two (k + 2) (byte_of 2 x)

    others : (n : ℕ) → k + 4 ≤ n → get_or (set three (k + 3) (byte_of 3 x)) n 0 ≡ 0
    others n l =
        get_or-set_other three (k + 3) n (byte_of 3 x) 0 (λ s. omega arith)
        ∙ get_or-set_other two (k + 2) n (byte_of 2 x) 0 (λ s. omega arith)
        ∙ get_or-set_other one (k + 1) n (byte_of 1 x) 0 (λ s. omega arith)
        ∙ get_or-set_other xs k n (byte_of 0 x) 0 (λ s. omega arith)
        ∙ r.rest n (omega arith)

-- where f has 0 there is nothing to write
pub begun_skip :
    {f : ℕ → ℕ} {k : ℕ} {xs : List ℕ} → Begun f k xs → (m : ℕ) → k ≤ m → ((i : ℕ) → k ≤ i → i < m → f i ≡ 0) → Begun f m xs
begun_skip {f} {k} {xs} r m h z =
    record {
      filling = record { long = r.filling.long; done = λ j l. go j (below_or_not j k) l };
      rest = λ n l. r.rest n (omega arith);
    }
  where
    go : (j : ℕ) → (j < k) ⊎ (k ≤ j) → j < m → get_or xs j 0 ≡ f j
    go j (inl p) l = r.filling.done j p
    go j (inr p) l = omega (arith, r.rest j p, z j p l)

pub begun_all :
    {f : ℕ → ℕ} {k : ℕ} {xs : List ℕ}
    → Begun f k xs
    → k ≤ 4572
    → ((i : ℕ) → k ≤ i → i < 4572 → f i ≡ 0)
    → xs ≡ listed f 4572
begun_all r h z = filling_all (begun_skip r 4572 h z).filling (omega arith)

-- Rows

module _ {f : ℕ → ℕ} {column : List ℕ} {j byte : ℕ} (w : RowOf f column j byte) (few : length column ≤ places) (inside : j < 20) where
  -- the row of the next byte begins behind the unused records
  pub row_ended :
      {q : ℕ} {xs : List ℕ} → q ≡ length column → Begun f (record_place q j) xs → Begun f (record_place 0 (j + 1)) xs
  row_ended {q} e r = begun_skip r (record_place 0 (j + 1)) (omega arith) unused
    where
      unused : (i : ℕ) → record_place q j ≤ i → i < record_place 0 (j + 1) → f i ≡ 0
      unused i l h =
          let p : record_place (i - record_place 0 j) j ≡ i = omega arith in
          ap f (sym p) ∙ w.none (i - record_place 0 j) (omega arith) (omega arith)

-- one of the rows of a column
pub row_among :
    {f : ℕ → ℕ} {column : List ℕ} {width j b : ℕ} (from byte : ℕ)
    → ((k : ℕ) → k < width → RowOf f column (from + k) k)
    → byte < width
    → j ≡ from + byte
    → b ≡ byte
    → RowOf f column j b
row_among from byte rows h e same = rw (e, same) (rows byte h)
