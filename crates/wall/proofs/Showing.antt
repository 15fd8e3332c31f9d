-- What is printed of what restore gives, which is the only feeder of a station.
use mathlib.Core.Path.{◌≡◌, refl, sym, ap, ◌∙◌}
use mathlib.Core.Bool.{true, false}
use mathlib.Core.List.{List}
use Prim.Native.Nat.{ℕ}
use native.Mathlib.Omega.{arith}
use Rattle.rules.specs.Basics.{Each}
use Rattle.std.specs.Prelude.{Result, Ok, Err}
use Rattle.std.specs.Result.{is_err}
use Rattle.rules.specs.Site.{State}
use Rattle.refusals.specs.declared.Refusal.{Refusal}
use Rattle.refusals.specs.Refusals.{refusal_in}
use Rattle.charges.specs.declared.Charges.{Charges}
use Rattle.charges.specs.Arrays.{charges_of}
use Rattle.station.specs.declared.only.One.{One}
use Rattle.station.specs.View.{view, station_of}
use Rattle.station.proofs.Refusing.{number_some}
use Rattle.layout.specs.Reading.{RestoreResult, restore_refusal, restoring}
use Rattle.image.specs.Answers.{Restores}
use Rattle.page.specs.Lines.{no_station}
use Rattle.page.specs.Pages.{pages, pages_of, wall}
use Rattle.page.specs.Lined.{ChargeFits}
use Rattle.page.proofs.Walling.{valid_fits, wall_refused, wall_accepted}

-- only a refusal has a number
refused_number : (r : Result Unit Refusal) → true ≡ is_err r → refusal_in r ≡ 0 → ⊥
refused_number (Ok value) e = cc
refused_number (Err k) e = λ z. let some = number_some k in omega (arith, some, z)

granted_number : (r : Result Unit Refusal) → false ≡ is_err r → refusal_in r ≡ 0
granted_number (Ok value) e = refl
granted_number (Err k) e = cc

module _ {image : List ℕ} {r : Result Unit Refusal} {o : One} (h : Restores image r o) where
  refusal_is : refusal_in r ≡ restore_refusal image
  refusal_is = ap (λ (x : RestoreResult). x.refusal) h.result

  state_is : view (station_of o) ≡ (restoring image).state
  state_is = ap (λ (x : RestoreResult). x.state) h.result

  abbrev held : Charges
  held = o.feeder.charges

  pub refused_shown : true ≡ is_err r → no_station ≡ wall image
  refused_shown e = sym (wall_refused image (λ z. refused_number r e (refusal_is ∙ z)))

  pub accepted_shown : (text : List ℕ) → false ≡ is_err r → text ≡ pages o.clock (charges_of held) → text ≡ wall image
  accepted_shown text e t =
      t
      ∙ ap (λ (s : State). pages_of s) state_is
      ∙ sym (wall_accepted image (sym refusal_is ∙ granted_number r e))

  pub restored_fits : Each ChargeFits (charges_of held)
  restored_fits = valid_fits (view (station_of o)) refl h.alone.valid.state
