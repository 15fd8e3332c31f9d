-- What an order is granted is what the rules show for it; a commit of one that is not granted, or with another start shown, is refused.
use mathlib.Core.Path.{◌≡◌, refl, ap, sym, ◌∙◌}
use Prim.Native.Nat.{ℕ, ◌-◌}
use mathlib.Core.Bool.{not}
use mathlib.Core.List.{[], ◌∷◌}
use native.Mathlib.Omega.{arith}
use Rattle.rules.specs.Basics.{first_of}
use Rattle.rules.specs.Calls.{refused, previewed, previewed_at, previewing, is_start, step}
use Rattle.rules.proofs.Tables.{first_of_front}
use Rattle.rules.proofs.Shown.{commit_other}
use Rattle.refusals.specs.declared.Refusal.{Refusal}
use Rattle.refusals.specs.Refusals.{number_of}
use Rattle.station.specs.declared.Station.{Station}
use Rattle.station.specs.View.{view, Valid}
use Rattle.station.specs.Given.{Keeps, Gives}
use Rattle.station.proofs.Refusing.{call_granted, gives_refused, number_some}
use Rattle.ordering.specs.declared.Order.{Order}
use Rattle.ordering.specs.declared.start.Grant.{Grant}
use Rattle.ordering.specs.Ordered.{preview_of, commit_of, start_of}
use Rattle.ordering.specs.Grants.{GrantedAt}
use Rattle.ordering.proofs.Rows.{refusals_of}
use Rattle.ordering.proofs.Seeking.{none_holds}

-- a preview shows the start
pub preview_found : {s : Station} {o : Order} {x : Grant} → GrantedAt s o x → Keeps (step (view s) (preview_of o)) s (previewed x.start) []
unfolding previewing
preview_found {s} {o} g =
    record { result = ap (previewed_at (view s)) (sym g.found) ∙ call_granted (view s) (preview_of o) 0 (sym g.unrefused.none) refl }

-- "Both meet the order's refusals": a commit is refused by the number that a preview is
pub refused_so :
    {s : Station} (o : Order) (v : Valid s) (shown : ℕ) (refusal : Refusal)
    → number_of refusal ≡ first_of (refusals_of s o)
    → Gives (step (view s) (commit_of o shown)) (refused (number_of refusal)) s []
refused_so {s} o v shown refusal e =
    let first = first_of_front (refusals_of s o) ((not (is_start (start_of s o) shown), 16) ∷ []) (number_of refusal - 1) (omega (arith, e, number_some refusal)) in
    gives_refused s (commit_of o shown) refusal v (omega (arith, first, number_some refusal)) refl

-- with 16 where another start was shown
pub refused_other :
    {s : Station} {o : Order} {x : Grant} → GrantedAt s o x → (shown : ℕ) → (x.start ≡ shown → ⊥)
    → Gives (step (view s) (commit_of o shown)) (refused 16) s []
refused_other {s} {o} {x} g shown other =
    record {
      result = sym (commit_other (view s) o.feeder o.line o.time o.due o.rate (none_holds g.unrefused) x.start shown g.found other);
      valid = g.unrefused.valid;
    }
