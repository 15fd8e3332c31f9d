-- Arrays whose places behind those used are 0, so that what is used determines the array.
use Rattle.std.specs.Prelude.{ℕ, suc, ◌+◌, ◌-◌, ◌≤◌, ◌<◌, ◌≡◌, refl, List, [], ◌∷◌, ◌++◌, length, take, drop, replicate, get_or, map}
use Rattle.std.proofs.Common.{ap, sym, ◌∙◌, arith, length-drop, length-take-le, take-append-drop}
use lib.Seq.{ext_get_or, get_or-drop, get_or-take}
use Rattle.rules.specs.Basics.{tabulate}
use Rattle.rules.proofs.Lists.{get_d_tabulate, length_tabulate, map_tabulate, tabulate_same}
use Rattle.charges.specs.Drawn.{load_in, loads_in}

-- an array of `most` places of which those from n on are 0
pub record Cleared (most n : ℕ) (xs : List ℕ) : Type 0 where
  pub full : length xs ≡ most
  pub clear : (i : ℕ) → n ≤ i → get_or xs i 0 ≡ 0

-- the array of `most` places with these numbers, and zeros behind
abbrev pub before_zeros : ℕ → List ℕ → List ℕ
before_zeros most xs = xs ++ replicate (most - length xs) 0

all_zeros : (xs : List ℕ) → ((i : ℕ) → get_or xs i 0 ≡ 0) → replicate (length xs) 0 ≡ xs
all_zeros [] h = refl
all_zeros (x ∷ xs) h = rw (h 0, all_zeros xs (λ i. h (suc i)))

-- what is used determines the array
pub made_again : (most n : ℕ) (xs : List ℕ) → n ≤ most → Cleared most n xs → before_zeros most (take n xs) ≡ xs
made_again most n xs h c =
    rw (length-take-le n xs (omega (arith, c.full)))
    (ap (λ l. take n xs ++ l)
    (ap (λ (k : ℕ). replicate k 0) (omega (arith, c.full, length-drop n xs))
    ∙ all_zeros (drop n xs) (λ i. get_or-drop n xs i 0 ∙ c.clear (n + i) (omega arith)))
    ∙ take-append-drop n xs)

-- Four columns

by_place : (xs : List ℕ) (n : ℕ) → n ≤ length xs → tabulate (λ j. get_or xs j 0) n 0 ≡ take n xs
by_place xs n h =
    let many = length_tabulate (λ j. get_or xs j 0) n 0 in
    ext_get_or 0 (tabulate (λ j. get_or xs j 0) n 0) (take n xs) (omega (arith, many, length-take-le n xs h))
    (λ i l.
    let b : i < n = omega (arith, many, l) in
    let z : 0 + i ≡ i = omega arith in
    (rw z at (get_d_tabulate (λ j. get_or xs j 0) n 0 i 0 b)) ∙ sym (get_or-take n xs i 0 b))

module _ (n : ℕ) (lines active_times starts rates : List ℕ) where
  pub lines_again : n ≤ length lines → map (λ x. x.line) (loads_in n lines active_times starts rates) ≡ take n lines
  lines_again h = map_tabulate (λ x. x.line) (load_in lines active_times starts rates) n 0 ∙ by_place lines n h

  pub active_times_again :
      n ≤ length active_times → map (λ x. x.until - x.from) (loads_in n lines active_times starts rates) ≡ take n active_times
  active_times_again h =
      map_tabulate (λ x. x.until - x.from) (load_in lines active_times starts rates) n 0
      ∙ tabulate_same (λ i. get_or starts i 0 + get_or active_times i 0 - get_or starts i 0) (λ i. get_or active_times i 0) n 0 (λ i p q. omega arith)
      ∙ by_place active_times n h

  pub starts_again : n ≤ length starts → map (λ x. x.from) (loads_in n lines active_times starts rates) ≡ take n starts
  starts_again h = map_tabulate (λ x. x.from) (load_in lines active_times starts rates) n 0 ∙ by_place starts n h

  pub rates_again : n ≤ length rates → map (λ x. x.rate) (loads_in n lines active_times starts rates) ≡ take n rates
  rates_again h = map_tabulate (λ x. x.rate) (load_in lines active_times starts rates) n 0 ∙ by_place rates n h
