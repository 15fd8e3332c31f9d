-- The parts of a text between separators. Two separators with nothing between them have an empty part there.
use Rattle.std.specs.Prelude.{ℕ, ◌≡◌, cond, List, [], ◌∷◌, ◌++◌, eqb}

-- a text put in front of the first part
abbrev pub joined : List ℕ → List (List ℕ) → List (List ℕ)
joined text [] = text ∷ []
joined text (part ∷ parts) = (text ++ part) ∷ parts

-- the parts between the separators: words at spaces, requests at line feeds
unfoldable pub split : ℕ → List ℕ → List (List ℕ)
split separator [] = [] ∷ []
split separator (b ∷ bs) = cond (eqb b separator) ([] ∷ split separator bs) (joined (b ∷ []) (split separator bs))

-- the first of the parts, and what stands behind its separator
pub record FirstPart (separator : ℕ) (bytes part rest : List ℕ) : Type 0 where
  pub whole : bytes ≡ part ++ (separator ∷ rest)
  pub parts : split separator bytes ≡ part ∷ split separator rest
