-- A block of input.
use Rattle.std.specs.Prelude.{ℕ, ◌≡◌, List, ◌++◌, length}

-- so many bytes came behind those that were held
abbrev pub Grown : List ℕ → List ℕ → ℕ → Type 0
Grown before after count = (part : List ℕ) × (length part ≡ count) × (after ≡ before ++ part)
