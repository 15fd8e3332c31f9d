-- A block of input: what is read behind the bytes that are held, and what is kept of them.
use mathlib.Core.Path.{◌≡◌, sym, ap, ◌∙◌}
use mathlib.Core.List.{List, ◌++◌}
use Prim.Native.Nat.{ℕ, ◌+◌, ◌-◌, ◌≤◌}
use native.Mathlib.Nat.{zero-add}
use native.Mathlib.Omega.{arith}
use lib.ListN.{length, take, drop, length-take}
use lib.Seq.{slice, take_at, take-take, take-append-le, take-append-add, length-take-le, length-slice}
use Rattle.std.specs.Prelude.{Result, Ok, Err, IfOk}
use Rattle.std.specs.List.{copy_within}
use Rattle.std.specs.Counts.{IsPrefixLen}
use Rattle.std.specs.Result.{result_unwrap_or}
use Rattle.std.proofs.lemmas.Slice.{between_is}

-- no more bytes come than there are places; none, where a read fails
pub came : {E : Type 0} (r : Result ℕ E) (put : List ℕ) → IfOk r (λ n. IsPrefixLen n put) → result_unwrap_or r 0 ≤ length put
came (Ok n) put h = h.0
came (Err e) put h = omega arith

-- of what is put behind the bytes that are held, the front counts
pub grown :
    (bytes put after : List ℕ) (held count : ℕ) → held ≤ length bytes → count ≤ length put
    → take (held + count) (take held bytes ++ (put ++ after)) ≡ take held bytes ++ take count put
grown bytes put after held count within fits =
    ap (λ (n : ℕ). take (n + count) (take held bytes ++ (put ++ after))) (sym (length-take-le held bytes within))
    ∙ take-append-add (take held bytes) (put ++ after) count
    ∙ ap (λ (x : List ℕ). take held bytes ++ x) (take-append-le count put after fits)

-- what stands between two places, copied to the front
pub carried :
    (bytes : List ℕ) (held from to : ℕ) → to ≤ length (take held bytes)
    → take (to - from) (copy_within bytes from to 0) ≡ slice from to (take held bytes)
carried bytes held from to h =
    let few : to ≤ length bytes = omega (arith, length-take held bytes) in
    rw (zero-add (to - from), between_is bytes from to)
    (take_at (slice from to bytes) (drop (to - from) bytes) (to - from) (length-slice from to bytes few)
    ∙ ap (drop from) (sym (take-take to held bytes (omega (arith, length-take held bytes)))))
