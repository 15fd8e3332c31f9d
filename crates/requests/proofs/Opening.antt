-- An opening as it is read.
use mathlib.Core.Path.{◌≡◌, sym, ap, ◌∙◌, refl}
use mathlib.Core.List.{List}
use Prim.Native.Nat.{ℕ, ◌-◌, ◌%◌, ◌≤◌}
use native.Mathlib.Omega.{arith}
use lib.ListN.{length, take, drop, get_or}
use Rattle.std.proofs.Math.Seq.{take-length}
use Rattle.std.proofs.lemmas.List.{length-drop}
use Rattle.rules.specs.Calls as rules
use Rattle.station.specs.Opened as opened
use Rattle.requests.specs.Requests.{Asked, opening, open_of}

-- what stands behind the count and W
all_behind : (ns : List ℕ) → take (length ns - 2) (drop 2 ns) ≡ drop 2 ns
all_behind ns = ap (λ (n : ℕ). take n (drop 2 ns)) (sym (length-drop 2 ns)) ∙ take-length (drop 2 ns)

-- where the last feeder that is given has all three of its numbers, an opening asks for these
pub opening_read :
    (ns : List ℕ) {x : rules.Asked}
    → 2 ≤ length ns
    → length (take (length ns - 2) (drop 2 ns)) % 3 ≡ 0
    → x ≡ opened.asked_from (get_or ns 0 0) (get_or ns 1 0) (take (length ns - 2) (drop 2 ns))
    → ◌≡◌ {A = Asked} (opening x) (open_of ns)
opening_read ns {x} two third same =
    let n : length (take (length ns - 2) (drop 2 ns)) ≡ length ns - 2 = ap length (all_behind ns) ∙ length-drop 2 ns in
    let e : length ns % 3 ≡ 2 = omega (arith, two, third, n) in
    rw (e, same, all_behind ns) refl
