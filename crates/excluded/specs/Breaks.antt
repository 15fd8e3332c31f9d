-- Entries that say which fields of a demand are false of a thing, and which hold; what they claim, and a test of it that computes.
use Rattle.std.specs.Prelude.{ℕ, Bool, not, ◌&&◌, List, [], ◌∷◌, map, eqb}
use Rattle.rules.specs.Basics.{Each, keep, some}
use Rattle.excluded.specs.Same.{every, same_list}

-- a thing that a demand is made of, the fields that are false of it, and those that hold
pub record Entry (Thing Field : Type 0) : Type 0 where
  pub thing : Thing
  pub broken : List Field
  pub kept : List Field

-- each field named as broken is false, each named as kept holds
pub record Exactly (Thing Field : Type 0) (Holds : Thing → Field → Type 0) (e : Entry Thing Field) : Type 0 where
  pub breaks : Each (λ f. Holds e.thing f → ⊥) e.broken
  pub keeps : Each (λ f. Holds e.thing f) e.kept

-- the same by a test of each field, which computes once
abbrev pub agrees_by : {Thing : Type 0} {Field : Type 0} → (Thing → Field → Bool) → Entry Thing Field → Bool
agrees_by test e = every (λ f. not (test e.thing f)) e.broken && every (test e.thing) e.kept

-- "and no other": the fields named are false, all others of the list hold; `place` is the place of a field in the list
abbrev pub only_of : {Thing : Type 0} {Field : Type 0} → (Field → ℕ) → List Field → Thing → List Field → Entry Thing Field
only_of place fields thing broken =
    record {
      thing = thing;
      broken = broken;
      kept = keep (λ f. not (some (λ b. eqb (place b) (place f)) broken)) fields;
    }

-- whether some entry breaks this field and no other
abbrev pub alone_in : {Thing : Type 0} {Field : Type 0} → (Field → ℕ) → List (Entry Thing Field) → Field → Bool
alone_in place es f = some (λ e. same_list (map place e.broken) (place f ∷ [])) es
