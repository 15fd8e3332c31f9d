-- Checks that code counted, and whether each is right.
use mathlib.Core.Path.{◌≡◌, refl, ap, ◌∙◌}
use Prim.Native.Nat.{ℕ, ◌+◌, ◌*◌, ◌≤◌, ◌<◌}
use mathlib.Core.List.{List}
use native.Mathlib.Omega.{arith}
use native.Mathlib.Nat.{mul-le-mul}
use lib.Dec.{eqb}
use lib.ListN.{length, get_or, take}
use Rattle.std.proofs.lemmas.List.{get_or-take, length-take-le}
use Rattle.layout.specs.Image.{weighed, check_of}
use Rattle.layout.specs.Reading.{in_block, header_at, checked}
use Rattle.layout.proofs.Checks.{weighed_same, check_is, check_same}
use Rattle.layout.proofs.Numbers.{number_same, number_shifted}

-- what a byte of a block counts for at most
pub weight_small : (factor v : ℕ) → factor ≤ 508 → v < 256 → factor * v ≤ 129540
weight_small factor v h l = mul-le-mul {n₁ = factor} {m₁ = v} {n₂ = 508} {m₂ = 255} h (omega arith)

-- the check of a list is that of what its 508 bytes are
pub check_counted :
    (f : ℕ → ℕ) (xs : List ℕ) (u : ℕ)
    → length xs ≡ 508
    → ((i : ℕ) → i < 508 → get_or xs i 0 ≡ f i)
    → u ≡ weighed (λ i. get_or xs i 0) (length xs)
    → u ≡ check_of f
check_counted f xs u l e c =
    c ∙ ap (weighed (λ i. get_or xs i 0)) l ∙ weighed_same (λ i. get_or xs i 0) f 508 e ∙ check_is f

-- the check that was counted of the first 508 bytes of a block, beside the one that stands in it
pub checked_told :
    (block : List ℕ) (u v : ℕ)
    → length block ≡ 512
    → u ≡ weighed (λ i. get_or (take 508 block) i 0) (length (take 508 block))
    → v ≡ header_at block 508
    → eqb u v ≡ checked block 0
unfolding checked header_at
checked_told block u v l p q =
    let counted : u ≡ check_of (in_block block 0) =
    check_counted (in_block block 0) (take 508 block) u (length-take-le 508 block (omega (arith, l)))
    (λ i h. let z : 512 * 0 + i ≡ i = omega arith in rw z (get_or-take 508 block i 0 h))
    p in
    rw (counted, q, number_shifted (λ i. get_or block i 0) (512 * 0) 508 4) refl

-- the checks of two blocks with the same bytes
pub checked_same : (xs ys : List ℕ) (b c : ℕ) → ((i : ℕ) → i < 512 → in_block xs b i ≡ in_block ys c i) → checked xs b ≡ checked ys c
unfolding checked
checked_same xs ys b c e =
    rw (
      check_same (in_block xs b) (in_block ys c) (λ i h. e i (omega arith)),
      number_same (in_block xs b) (in_block ys c) 508 4 (λ i p h. e i (omega arith)),
    )
