-- Which refusal an opening meets first: that of the count, then those of its feeders, then that of W.
use mathlib.Core.Path.{◌≡◌, refl, sym, ap, ◌∙◌}
use Prim.Native.Nat.{ℕ, zero, suc, ◌≤◌, ◌<◌}
use mathlib.Core.Bool.{Bool, cond, ◌||◌}
use mathlib.Core.List.{List, [], ◌∷◌, ◌++◌, map}
use native.Mathlib.Omega.{arith}
use lib.Dec.{ltb}
use lib.ListN.{length, get_or, take, length-map}
use Rattle.std.proofs.lemmas.List.{take_more, take-map}
use native.Mathlib.Numerals.{add-one}
use borrow.Author.Tests.{le-ltb}
use Rattle.rules.specs.Basics.{tabulate, first_of}
use Rattle.rules.specs.Calls.{settings, settings_read, open_refusals}
use Rattle.rules.proofs.Lists.{tabulate_next}
use Rattle.rules.proofs.Tables.{first_of_none, first_of_more, first_of_front}
use Rattle.station.specs.declared.open.Asked.{Asked}
use Rattle.station.specs.Opened.{settings_of, asked_of, feeder_refusals}

-- the settings that are read are the first so many
taken_is : {A : Type 0} (d : A) (xs : List A) (n : ℕ) → n ≤ length xs → take n xs ≡ tabulate (λ i. get_or xs i d) n 0
taken_is d xs zero h = refl
taken_is d xs (suc n) h =
    ap (λ m. take m xs) (sym (add-one n))
    ∙ take_more xs n d (omega (arith, h))
    ∙ ap (λ l. l ++ get_or xs n d ∷ []) (taken_is d xs n (omega (arith, h)))
    ∙ sym (tabulate_next (λ i. get_or xs i d) n)
    ∙ ap (λ m. tabulate (λ i. get_or xs i d) m 0) (add-one n)

settings_taken : (a : Asked) → a.count ≤ length a.settings → map settings_of (take a.count a.settings) ≡ settings_read (asked_of a)
settings_taken a h =
    sym (take-map settings_of a.count a.settings)
    ∙ taken_is (settings 0 0 0) (map settings_of a.settings) a.count (omega (arith, h, length-map a.settings settings_of))

-- the row behind those of the feeders
abbrev site_row : Asked → List (Bool × ℕ)
site_row a = (ltb a.site 1 || ltb 720 a.site, 28) ∷ []

-- where the count is in range, and k is the number of the feeders
module _ (a : Asked) (k : ℕ) (l : 1 ≤ a.count) (h : a.count ≤ 4) (n : length a.settings ≡ 4) (e : k ≡ first_of (feeder_refusals (map settings_of (take a.count a.settings)))) where
  abbrev rows : List (Bool × ℕ)
  rows = feeder_refusals (settings_read (asked_of a))

  read : k ≡ first_of rows
  read = e ∙ ap (λ xs. first_of (feeder_refusals xs)) (settings_taken a (omega (arith, h, n)))

  pub feeder_refused : 0 < k → k ≡ first_of (open_refusals (asked_of a))
  feeder_refused p = rw (le-ltb a.count 1 l, le-ltb 4 a.count h) (go k read p)
    where
      go : (n : ℕ) → n ≡ first_of rows → 0 < n → n ≡ first_of (rows ++ (site_row a))
      go zero d q = absurd (omega arith)
      go (suc n) d q = sym (first_of_front rows (site_row a) n (sym d))

-- where no feeder is refused, the row of W is left
pub site_left :
    (a : Asked) → 1 ≤ a.count → a.count ≤ 4 → length a.settings ≡ 4 → 0 ≡ first_of (feeder_refusals (map settings_of (take a.count a.settings)))
    → first_of (open_refusals (asked_of a)) ≡ cond (ltb a.site 1 || ltb 720 a.site) 28 0
site_left a l h n e =
    rw (le-ltb a.count 1 l, le-ltb 4 a.count h)
    (first_of_more (rows a 0 l h n e) (site_row a) (first_of_none (rows a 0 l h n e) (omega arith) (sym (read a 0 l h n e))))
