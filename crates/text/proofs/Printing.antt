-- Numbers that are printed one after another: what stands there, and those that are left, are the whole text.
use mathlib.Core.Path.{◌≡◌, sym, ap, ◌∙◌}
use mathlib.Core.List.{List, ◌∷◌, ◌++◌, append_assoc}
use Prim.Native.Nat.{ℕ, ◌+◌, ◌<◌}
use native.Mathlib.Numerals.{add-one}
use lib.ListN.{length, drop, get_or}
use lib.Seq.{drop-cons}
use Rattle.text.specs.Printed.{field, spaced, listed, fields_text, fields_of, room_of}
use denote.Ref.{Bor}

-- what is printed is the first part of what is left
moved : (self text rest whole : List ℕ) {new : List ℕ} → self ++ (text ++ rest) ≡ whole → new ≡ self ++ text → new ++ rest ≡ whole
moved self text rest whole e put = rw put (append_assoc self text rest ∙ e)

-- one number more of a list
module _ (list : List ℕ) (i : ℕ) (h : i < length list) where
  list_left : listed (drop i list) ≡ spaced (get_or list i 0) ++ listed (drop (i + 1) list)
  list_left = rw (drop-cons list i 0 h, add-one i)

  pub listed_more :
      (self whole : List ℕ) {new : List ℕ} → self ++ listed (drop i list) ≡ whole → new ≡ self ++ spaced (get_or list i 0)
      → new ++ listed (drop (i + 1) list) ≡ whole
  listed_more self whole e put =
      moved self (spaced (get_or list i 0)) (listed (drop (i + 1) list)) whole (ap (λ x. self ++ x) (sym list_left) ∙ e) put

-- one field more
module _ (fs : List (Bor (List ℕ) × ℕ)) (i : ℕ) (none : Bor (List ℕ) × ℕ) (h : i < length fs) where
  abbrev text : List ℕ
  text = (get_or fs i none).0.now

  abbrev number : ℕ
  number = (get_or fs i none).1

  fields_left : fields_of (drop i fs) ≡ (text, number) ∷ fields_of (drop (i + 1) fs)
  fields_left = rw (drop-cons fs i none h, add-one i)

  pub room_left : room_of (fields_of (drop i fs)) ≡ length text + (20 + room_of (fields_of (drop (i + 1) fs)))
  room_left = rw fields_left

  pub fields_more :
      (self whole : List ℕ) {new : List ℕ} → self ++ fields_text (fields_of (drop i fs)) ≡ whole → new ≡ self ++ field text number
      → new ++ fields_text (fields_of (drop (i + 1) fs)) ≡ whole
  fields_more self whole e put =
      moved self (field text number) (fields_text (fields_of (drop (i + 1) fs))) whole (ap (λ x. self ++ fields_text x) (sym fields_left) ∙ e) put
