-- The contents of the nine blocks one after another, 508 bytes of each: an image without its checks.
use Rattle.std.specs.Prelude.{ℕ, ◌+◌, ◌*◌, ◌/◌, ◌%◌, Bool, List, get_or}
use Rattle.layout.specs.Lists.{listed, every}
use Rattle.layout.specs.Image.{block_byte}
use Rattle.layout.specs.Reading.{in_block, same_place}

-- byte m of the contents of an image
abbrev pub taken_at : List ℕ → ℕ → ℕ
taken_at image m = in_block image (m / 508) (m % 508)

unfoldable pub contents_in : List ℕ → List ℕ
contents_in image = listed (taken_at image) 4572

-- byte i of block b among the contents
abbrev pub in_contents : List ℕ → ℕ → ℕ → ℕ
in_contents contents b i = get_or contents (508 * b + i) 0

-- byte k of the image that has these contents, and their checks
abbrev pub laid_at : List ℕ → ℕ → ℕ
laid_at contents k = block_byte (in_contents contents (k / 512)) (k % 512)

unfoldable pub laid_out : List ℕ → List ℕ
laid_out contents = listed (laid_at contents) 4608

-- two lists have the same bytes at so many places from one on
unfoldable pub same_part : List ℕ → List ℕ → ℕ → ℕ → Bool
same_part xs ys from count = every (λ i. same_place xs ys (from + i)) count
