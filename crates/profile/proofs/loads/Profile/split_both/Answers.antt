-- `profile::loads::Profile::split_both` meets its contract: where both minutes are new they are put in at once, and otherwise the one that is.
use mathlib.Core.Path.{◌≡◌, refl, sym, ◌∙◌, ap, subst}
use native.Mathlib.Omega.{arith}
use Prim.Native.Nat.{ℕ}
use lib.ListN.{length, take, length-take}
use Rattle.profile.specs.Steps.{In}
use Rattle.profile.specs.Shows.{Profile, Formed}
use Rattle.profile.proofs.Edited.{minute_taken}
use Rattle.profile.proofs.Both.{none_new, later_new, earlier_new, in_order, split_twice, both_put}
use Rattle.profile.proofs.loads.Profile.split_both.Goals as goal

-- the step found in the list that is lent is that of the profile
found : {p q : Profile} {i t : ℕ} → p ≡ q → In p i t → In q i t
found {p} {q} {i} {t} e h = subst (λ (p : Profile). In p i t) e h

pub returns-then-self-i : goal.returns-then-self-i
returns-then-self-i g c =
    let from = found c.steps.ensures c.place-i.ensures in
    let until = found c.steps-2.ensures c.place-j.ensures in
    none_new c.requires.0.formed from until c.requires.2
    (minute_taken _ _ _ c.self.view_is from.below ∙ c.if-self-i.true)
    (minute_taken _ _ _ c.self.view_is until.below ∙ c.if-self-j.true)

pub returns-then-self-j : goal.returns-then-self-j
returns-then-self-j g c =
    let from = found c.steps.ensures c.place-i.ensures in
    let until = found c.steps-2.ensures c.place-j.ensures in
    earlier_new c.requires.0.formed from until c.requires.2
    (λ e. c.if-self-i.false (sym (minute_taken _ _ _ c.self.view_is from.below) ∙ e))
    (minute_taken _ _ _ c.self.view_is until.below ∙ c.if-self-j.true)
    c.put_in.ensures

pub returns-then-self-i-2 : goal.returns-then-self-i-2
returns-then-self-i-2 g c =
    let from = found c.steps.ensures c.place-i.ensures in
    let until = found c.steps-2.ensures c.place-j.ensures in
    later_new c.requires.0.formed from until c.requires.2
    (minute_taken _ _ _ c.self.view_is from.below ∙ c.if-self-i-2.true)
    (λ e. c.if-self-j.false (sym (minute_taken _ _ _ c.self.view_is until.below) ∙ e))
    c.put_in-then-self-i-2.ensures

pub returns : goal.returns
returns g c =
    let list = c.self.inside.list in
    let n = c.self.inside.count in
    let few : length (take n list) ≡ n = omega (arith, c.self.invariant, c.self.told, length-take n list) in
    let from = found (c.steps.ensures ∙ sym c.self.view_is) c.place-i.ensures in
    let until = found (c.steps-2.ensures ∙ sym c.self.view_is) c.place-j.ensures in
    rw (← c.self.view_is)
    (split_twice (subst (λ (p : Profile). Formed p) (sym c.self.view_is) c.requires.0.formed) from until
    (λ e. c.if-self-i-2.false (sym (minute_taken list n _ refl from.below) ∙ e))
    (λ e. c.if-self-j.false (sym (minute_taken list n _ refl until.below) ∙ e))
    c.requires.2
    (both_put list c.copy_within.new.self c.copy_within-2.new.self (in_order (take n list) from until c.requires.2) (omega (arith, until.below, few)) (omega (arith, c.requires.1, c.self.told, few, ap length c.self.view_is)) c.copy_within.ensures.len c.copy_within-2.ensures.len c.copy_within.ensures.by_index.0 c.copy_within.ensures.by_index.1 c.copy_within-2.ensures.by_index.0 c.copy_within-2.ensures.by_index.1 c.copy_within-2.ensures.by_index.2))
