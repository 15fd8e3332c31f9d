-- One charge more on a plan, whatever start it is given.
use mathlib.Core.Path.{◌≡◌, refl, sym, ◌∙◌, ap, subst}
use Prim.Native.Nat.{ℕ, ◌+◌, ◌*◌, ◌^◌, max, ◌≤◌, ◌<◌}
use mathlib.Core.Bool.{Bool, true, false}
use mathlib.Core.List.{List, [], ◌∷◌, ◌++◌, append_assoc}
use native.Mathlib.Omega.{arith}
use lib.Dec.{eqb}
use lib.ListN.{length, get_or, set, length-set, length-append}
use lib.Seq.{get_or-set_same, get_or-set_other}
use borrow.Author.Tests.{eqb-true, eqb-false}
use Rattle.rules.specs.Load.{Draw, Limits, IsRate, last_until}
use Rattle.rules.specs.Charge.{Charge, starting, draw_of, load_of, loads_of}
use Rattle.rules.specs.Site.{places}
use Rattle.rules.specs.Search.{added}
use Rattle.rules.specs.Replan.{start_in, standing}
use Rattle.charges.specs.declared.Charges.{Charges}
use Rattle.charges.specs.Arrays.{charge_at, charges_of}
use Rattle.charges.specs.Held.{Listed}
use Rattle.profile.specs.declared.loads.Draw as code
use Rattle.profile.specs.Steps.{most_steps}
use Rattle.profile.specs.Shows as shown
use Rattle.profile.specs.Shows.{Profile, Shows, LoadAdded, CanAdd}
use Rattle.profile.proofs.Shown.{last_added, added_shows, can_add}
use Rattle.planner.specs.Ready.{begun_of}
use Rattle.planner.specs.Placed.{Missing, plan_of, PlanShown}
use Rattle.planner.proofs.Placing.{start_last, start_other}
use Rattle.planner.proofs.Queueing.{places_apart}
use Rattle.planner.proofs.Showing.{length_loads_of, loads_append}

module _ (y : Limits) (clock : ℕ) (c : Charges) (placed : List Charge) where
  pub plan_length : length (plan_of y clock c placed) ≡ length y.others + length (begun_of clock c) + length placed
  plan_length =
      omega (
        arith,
        length-append (standing y clock (charges_of c)) (loads_of placed),
        length-append y.others (loads_of (begun_of clock c)),
        length_loads_of (begun_of clock c),
        length_loads_of placed,
      )

  pub grown : (x : Charge) (s : ℕ) → plan_of y clock c (placed ++ (starting x s ∷ [])) ≡ added (plan_of y clock c placed) (draw_of x) s
  grown x s =
      rw (loads_append placed (starting x s ∷ []), ← append_assoc (standing y clock (charges_of c)) (loads_of placed) (load_of (starting x s) ∷ [])) refl

-- where one load may be added any other of a rate may, if it ends in time
pub add_other :
    {p : Profile} {size s t : ℕ} {a b : code.Draw} → CanAdd p size a s → 1 ≤ b.rate → b.rate ≤ 2 → t + b.time < 2 ^ 32 → CanAdd p size b t
add_other can low high ends =
    record {
      formed = can.formed;
      small = can.small;
      room = can.room;
      most = can.most;
      is_rate = record { low = low; high = high };
      ends_fit = ends;
    }

module _ {y : Limits} {clock : ℕ} {c : Charges} {placed : List Charge} {p : Profile} {starts : List ℕ} (h : Listed c)
    (v : PlanShown y clock c placed p starts) (i s : ℕ) (low : i < c.held)
    (near : s ≤ max clock (last_until (plan_of y clock c placed))) {a : code.Draw} (drawn : shown.draw_of a ≡ draw_of (charge_at c i)) where
  is_rate : IsRate a.rate
  is_rate = rw (ap (λ (x : Draw). x.rate) drawn) (h.small i low).is_rate

  pub plan_can_add :
      {size : ℕ} → 1 + 2 * (length y.others + places) ≤ size → size ≤ most_steps → length (begun_of clock c) + length placed < places → CanAdd p size a s
  plan_can_add {size} room most few =
      can_add p size clock (plan_of y clock c placed) a s v.shows
      (omega (arith, plan_length y clock c placed, room))
      most
      is_rate
      (omega (arith, near, v.ends, ap (λ (x : Draw). x.time) drawn, (h.small i low).active_most))

  module _ (fresh : Missing (charge_at c i).ticket placed) where
    stored_on :
        (k : ℕ)
        → k < c.held
        → start_in (placed ++ (starting (charge_at c i) s ∷ [])) (charge_at c k).ticket ≡ get_or (set starts i s) k 0
    stored_on k l = go (eqb k i) refl
      where
        go :
            (b : Bool)
            → eqb k i ≡ b
            → start_in (placed ++ (starting (charge_at c i) s ∷ [])) (charge_at c k).ticket ≡ get_or (set starts i s) k 0
        go true e =
            rw (eqb-true k i e)
            (start_last placed (charge_at c i) s fresh
            ∙ sym (get_or-set_same starts i s 0 (omega (arith, v.length_is, c.few))))
        go false e =
            let ne : k ≡ i → ⊥ = eqb-false k i e in
            start_other placed (charge_at c i) s (charge_at c k).ticket (places_apart h i k low l (λ j. ne (sym j)))
            ∙ v.stored k l
            ∙ sym (get_or-set_other starts i k s 0 ne)

    pub plan_on : {next : Profile} → LoadAdded p next a s → PlanShown y clock c (placed ++ (starting (charge_at c i) s ∷ [])) next (set starts i s)
    plan_on {next} more =
        let many : length (placed ++ (starting (charge_at c i) s ∷ [])) ≡ length placed + 1 =
        length-append placed (starting (charge_at c i) s ∷ []) in
        record {
          shows =
              rw (grown y clock c placed (charge_at c i) s)
              (subst (λ (x : Draw). Shows next clock (added (plan_of y clock c placed) x s)) drawn (added_shows is_rate more clock (plan_of y clock c placed) v.shows));
          stored = stored_on;
          length_is = length-set starts i s ∙ v.length_is;
          ends =
              rw (grown y clock c placed (charge_at c i) s, many)
              (omega (
                arith,
                last_added (plan_of y clock c placed) (draw_of (charge_at c i)) s,
                near,
                v.ends,
                (h.small i low).active_most,
              ));
        }
