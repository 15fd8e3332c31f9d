-- Line j of a text: where a line stands it is read, and no other.
use mathlib.Core.Path.{◌≡◌, refl, sym, ap, ◌∙◌}
use mathlib.Core.List.{List, ◌∷◌, ◌++◌}
use Prim.Native.Nat.{ℕ, ◌*◌}
use native.Mathlib.Omega.{arith}
use lib.ListN.{length, take, drop, length-append}
use lib.Seq.{take-append_seam, drop-append_seam}
use Rattle.page.specs.Lined.{Lined, no_line, one_more, StandsAt}

-- n lines have 38 bytes each
pub lined_length : {n : ℕ} {xs : List ℕ} → Lined n xs → length xs ≡ 38 * n
lined_length no_line = refl
lined_length (one_more n line rest l c p) = length-append line (10 ∷ rest) ∙ omega (arith, l, lined_length p)

line_read : {line text : List ℕ} (j : ℕ) → Lined 1 line → StandsAt j line text → take 38 (drop (38 * j) text) ≡ line
line_read {line} {text} j l s =
    let f : 38 * j ≡ length s.front = sym (lined_length s.behind) in
    let n : 38 ≡ length line = sym (lined_length l) in
    rw (s.is, f, drop-append_seam s.front (line ++ s.rest)) (ap (λ (k : ℕ). take k (line ++ s.rest)) n ∙ take-append_seam line s.rest)

pub same_line : {a b text : List ℕ} (j : ℕ) → Lined 1 a → Lined 1 b → StandsAt j a text → StandsAt j b text → a ≡ b
same_line j la lb sa sb = sym (line_read j la sa) ∙ line_read j lb sb
