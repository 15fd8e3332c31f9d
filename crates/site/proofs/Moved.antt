-- A clock move: what is not refused, and that the result is that of the rules.
use mathlib.Core.Path.{◌≡◌, refl, ap, ◌∙◌}
use Prim.Native.Nat.{ℕ, ◌-◌}
use mathlib.Core.List.{List}
use lib.ListN.{length}
use Rattle.rules.specs.Basics.{first_of}
use Rattle.rules.specs.Site.{State, site_charges}
use Rattle.rules.specs.Calls.{refused, moved, refusals, moved_to, moving, move, step}
use Rattle.refusals.specs.declared.Refusal.{Refusal}
use Rattle.refusals.specs.Refusals.{number_of}
use Rattle.station.specs.declared.Station.{Station}
use Rattle.station.specs.View.{view, Formed, Valid}
use Rattle.station.specs.Given.{Gives}
use Rattle.station.proofs.Views.{view_length}
use Rattle.station.proofs.Refusing.{giving, call_granted, gives_by, gives_refused}
use Rattle.site.specs.Answers.{move_rows}
use Rattle.site.proofs.Reported.{AllReported}

module _ (s : Station) (target : ℕ) (list : List ℕ) where
  -- the rows by the number of feeders and the clock are those of the station
  rows_of : {k : ℕ} → k ≡ first_of (move_rows s.count s.clock target list) → k ≡ first_of (refusals (view s) (move target list))
  rows_of e = rw (view_length s) e

  pub move_refused :
      (refusal : Refusal) → Valid s → number_of refusal ≡ first_of (move_rows s.count s.clock target list) →
      Gives (step (view s) (move target list)) (refused (number_of refusal)) s list
  move_refused refusal v e = gives_refused s (move target list) refusal v (rows_of e) refl

  pub call_moved :
      {t : Station} {after : List ℕ} {n d : ℕ}
      → Valid s
      → 0 ≡ first_of (move_rows s.count s.clock target list)
      → AllReported s target list after n
      → d ≡ length (site_charges (view s)) - length (site_charges (moved_to (view s) target))
      → view t ≡ moved_to (view s) target
      → Formed t
      → Gives (step (view s) (move target list)) (moved n d) t after
  unfolding moving
  call_moved {t} {after} {n} {d} v e r q same w =
      gives_by (move target list) v w
      (ap (λ (x : State). giving (moved n d) x after) same ∙ rw (r.0, r.1, q) (call_granted (view s) (move target list) 0 (rows_of e) refl))
