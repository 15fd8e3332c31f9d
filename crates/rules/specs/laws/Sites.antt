-- What one feeder of a site sees: limit and balance by its own charges, W by those of all.
use Rattle.std.specs.Prelude.{◌≡◌, ℕ, ◌≤◌, List, ◌++◌, map}
use Rattle.rules.specs.Basics.{Each}
use Rattle.rules.specs.Load.{counts, drawn, Limits, elsewhere, whole_of, IsLine}
use Rattle.rules.specs.Charge.{Charge, loads_of}
use Rattle.rules.specs.laws.Soundness.{Limited, Balanced, Sound}

-- limit and balance of the charges cs, and W of all
pub record Own (n d w : ℕ) (cs all : List Charge) (t : ℕ) : Type 0 where
  pub limit : Limited n (counts (loads_of cs) t)
  pub balance : Balanced d (counts (loads_of cs) t)
  pub site : drawn (loads_of all) t ≤ w

-- A minute that is sound as the feeder sees it is so by its own charges, and within W by all.
abbrev pub SeenIsOwn : Type 0
SeenIsOwn =
    (y : Limits) (os cs : List Charge) (t : ℕ)
    → Each (λ c. IsLine c.line) cs
    → Sound y (counts (map elsewhere (loads_of os) ++ loads_of cs) t)
    → Own y.limit y.bound y.site cs (os ++ cs) t

-- And the other way round.
abbrev pub OwnIsSeen : Type 0
OwnIsSeen =
    (y : Limits) (os cs : List Charge) (t : ℕ)
    → Each (λ c. IsLine c.line) cs
    → Own y.limit y.bound y.site cs (os ++ cs) t
    → Sound y (counts (map elsewhere (loads_of os) ++ loads_of cs) t)

-- All that a feeder sees is what the whole site draws, whichever feeder looks.
abbrev pub EveryFeederSeesTheSite : Type 0
EveryFeederSeesTheSite =
    (os cs : List Charge) (t : ℕ)
    → Each (λ c. IsLine c.line) cs
    → whole_of (counts (map elsewhere (loads_of os) ++ loads_of cs) t) ≡ drawn (loads_of (os ++ cs)) t
