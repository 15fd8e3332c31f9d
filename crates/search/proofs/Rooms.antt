-- Room in a minute and in a step, and what an answer of `first_failing` says.
use Prim.Native.Nat.{ℕ, ◌+◌, ◌^◌, ◌≤◌, ◌<◌, max}
use mathlib.Core.Path.{◌≡◌, refl, ◌∙◌, ap, subst}
use mathlib.Core.Bool.{Bool, true, false, cond, ◌||◌, or-true}
use mathlib.Core.Logic.{⊎_elim}
use native.Mathlib.Omega.{arith}
use borrow.Author.Tests.{lt-ltb, le-ltb, le-leb, lt-leb}
use lib.Dec.{ltb}
use Rattle.std.specs.Prelude.{Option, Some, None}
use Rattle.std.specs.Bool.{then_some}
use Rattle.rules.proofs.Ranges.{below_or_not}
use Rattle.profile.specs.Steps.{In}
use Rattle.profile.specs.Shows.{Profile}
use Rattle.profile.specs.declared.steps.Step.{Step}
use Rattle.profile.proofs.Levels.{in_more}
use Rattle.search.specs.Rooms.{has_room, End, Visit, FailsAt, FailsIn, FirstFailing}
use Rattle.search.specs.declared.walk.Failing.{Failing}

-- Room

pub room_before : (room t : ℕ) → t < room → has_room room t ≡ true
unfolding has_room
room_before room t h = rw (lt-ltb t room h) refl

pub room_after : (room t : ℕ) → room < 4294967295 → room ≤ t → has_room room t ≡ false
unfolding has_room
room_after room t h j = rw (le-ltb t room j, lt-leb 4294967295 room h) refl

pub room_always : (room t : ℕ) → 4294967295 ≤ room → has_room room t ≡ true
unfolding has_room
room_always room t h = ap (λ (b : Bool). ltb t room || b) (le-leb 4294967295 room h) ∙ or-true (ltb t room)

-- all or none
pub room_cond : (b : Bool) (t : ℕ) → has_room (cond b 4294967295 0) t ≡ b
room_cond true t = room_always 4294967295 t (omega arith)
room_cond false t = room_after 0 t (omega arith) (omega arith)

-- One step

-- in step i there is room up to, and without, the minute `room`
pub room_told :
    {f : ℕ → Bool} {p : Profile} {until i end m t : ℕ} {held : Step} {r : Option ℕ} (room : ℕ) → Visit p until i held t
    → ((v : ℕ) → In p i v → f v ≡ has_room room v) → End p i until end → m ≡ max t room → until < 2 ^ 32
    → r ≡ then_some (ltb m end) m → FailsIn f p until i t r
room_told {f} {p} {until} {i} {end} {m} {t} room u same e top small is = rw is (⊎_elim ends goes (below_or_not m end))
  where
    inside : (v : ℕ) → t ≤ v → v < end → In p i v
    inside v a b = in_more v u.rises u.inside a (λ h. omega (arith, e.within h))

    ends : m < end → FailsIn f p until i t (then_some (ltb m end) m)
    ends h =
        rw (lt-ltb m end h)
        (record {
          low = omega arith;
          high = omega (arith, e.most);
          passed = λ v a b. same v (inside v a (omega arith)) ∙ room_before room v (omega arith);
          inside = inside m (omega arith) h;
          fails = λ v a b. same v b ∙ room_after room v (omega (arith, e.most)) (omega arith);
        })

    goes : end ≤ m → FailsIn f p until i t (then_some (ltb m end) m)
    goes h =
        rw (le-ltb m end h)
        (λ v a b c.
        same v c
        ∙ room_before room v
        (⊎_elim
        (λ d. let k = e.next d in omega (arith, c.later (i + 1) (omega arith) k.0, k.1))
        (λ d. omega arith)
        (below_or_not end until)))

-- there is room in all minutes below `until`
pub room_through :
    {f : ℕ → Bool} {p : Profile} {until i t : ℕ} {held : Step} (room : ℕ) → Visit p until i held t
    → ((v : ℕ) → In p i v → f v ≡ has_room room v) → until ≤ room → FailsIn f p until i t None
room_through room u same h = λ v a b c. same v c ∙ room_before room v (omega arith)

-- what an answer says
pub told_at :
    (f : ℕ → Bool) (p : Profile) (from until : ℕ) (r : Option Failing) (x : Failing) → FirstFailing f p from until r → r ≡ Some x
    → FailsAt f p from until x.minute x.step
told_at f p from until r x h e = subst (λ (r : Option Failing). FirstFailing f p from until r) e h

pub told_nothing :
    (f : ℕ → Bool) (p : Profile) (from until : ℕ) (r : Option Failing) → FirstFailing f p from until r → r ≡ None → (t : ℕ) → from ≤ t → t < until
    → f t ≡ true
told_nothing f p from until r h e = subst (λ (r : Option Failing). FirstFailing f p from until r) e h
