-- The loop that places the waiting charges: what has been placed, and what one charge more does.
use mathlib.Core.Path.{◌≡◌, refl, sym, ◌∙◌, ap}
use Prim.Native.Nat.{ℕ, ◌+◌, max, ◌≤◌, ◌<◌}
use mathlib.Core.List.{List, [], ◌∷◌, ◌++◌, append-nil}
use native.Mathlib.Omega.{arith}
use lib.ListN.{length, get_or, set, replicate, length-append}
use Rattle.std.specs.Prelude.{Option, Some, None}
use Rattle.std.proofs.lemmas.List.{drop_more, drop_all}
use Rattle.rules.specs.Site.{places}
use Rattle.rules.specs.Basics.{Found}
use Rattle.rules.specs.Load.{Draw, Limits, last_until}
use Rattle.rules.specs.Charge.{Charge, starting, draw_of, loads_of}
use Rattle.rules.specs.Replan.{stuck, place_all, sound_start, standing}
use Rattle.rules.proofs.Lists.{each_append}
use Rattle.rules.proofs.Searches.{earliest_first}
use Rattle.rules.proofs.Sites.{last_until_append}
use Rattle.charges.specs.declared.Charges.{Charges}
use Rattle.charges.specs.Arrays.{charges_of}
use Rattle.charges.specs.Drawn.{loads_lent}
use Rattle.charges.proofs.Storing.{zeros}
use Rattle.profile.specs.declared.loads.Draw as code
use Rattle.profile.specs.Shows as shown
use Rattle.profile.specs.Shows.{Profile, Shows, LoadAdded, CanAdd, found_at}
use Rattle.search.specs.Numbers.{SoundAlone}
use Rattle.search.specs.Starts.{CanStart, EarliestStart}
use Rattle.search.proofs.Starts.{can_start, earliest_shows}
use Rattle.planner.specs.declared.Beside.{Beside}
use Rattle.planner.specs.Ready.{terms_of, begun_of, Spacious, Ready}
use Rattle.planner.specs.Placed.{Missing, plan_of, PlanShown, AllPlaced}
use Rattle.planner.proofs.Placing.{place_none, place_on_lem, place_stuck}
use Rattle.planner.proofs.Queueing.{charge_in, queue_from, Queue, places_apart}
use Rattle.planner.proofs.Showing.{begun_end_most}
use Rattle.planner.proofs.Growing.{plan_length, plan_can_add, plan_on}

-- the start that the rules look for
abbrev pub sound_in : Limits → ℕ → Charges → List Charge → Charge → Found
sound_in y clock c = sound_start y clock (standing y clock (charges_of c))

-- the first k charges of the queue are placed
pub record PlacedSoFar (y : Limits) (clock : ℕ) (c : Charges) (q : List ℕ) (k : ℕ) (p : Profile) (starts : List ℕ) : Type 0 where
  pub placed : List Charge
  pub whole : place_all (sound_in y clock c) [] (queue_from c q 0) ≡ place_all (sound_in y clock c) placed (queue_from c q k)
  pub many : length placed ≡ k
  pub plan : PlanShown y clock c placed p starts
  pub fresh : (j : ℕ) → k ≤ j → j < length q → Missing (charge_in c q j).ticket placed

pub placed_start :
    {b : Beside} {c : Charges} {q : List ℕ} {p : Profile} → Ready b c → Shows p b.clock (standing (terms_of b) b.clock (charges_of c)) →
    PlacedSoFar (terms_of b) b.clock c q 0 p (replicate places 0)
placed_start {b} {c} {q} {p} r s =
    record {
      placed = [];
      whole = refl;
      many = refl;
      plan =
          record {
            shows = rw (append-nil (standing (terms_of b) b.clock (charges_of c))) s;
            stored = λ i l. sym (zeros places i);
            length_is = refl;
            ends =
                rw (append-nil (standing (terms_of b) b.clock (charges_of c)))
                (omega (
                  arith,
                  r.clock_most,
                  b.others_fit.end_most,
                  begun_end_most r.listed b.clock,
                  last_until_append (loads_lent b.others) (loads_of (begun_of b.clock c)),
                ));
          };
      fresh = λ j l m. tt;
    }

module _ {b : Beside} {c : Charges} {q : List ℕ} {k : ℕ} {p : Profile} {starts : List ℕ}
    (r : Ready b c) (u : Queue b.clock c q) (v : PlacedSoFar (terms_of b) b.clock c q k p starts) where
  pub placed_end : k ≡ length q → AllPlaced (place_all (sound_in (terms_of b) b.clock c) [] (queue_from c q 0)) (terms_of b) b.clock c p starts
  placed_end e =
      record {
        placed = v.placed;
        gives = v.whole ∙ rw (drop_all k q (omega arith)) (place_none (sound_in (terms_of b) b.clock c) v.placed);
        few = omega (arith, v.many, u.room);
        plan = v.plan;
      }

  -- The next charge of the queue, and what it draws

  module _ {size : ℕ} (room : Spacious b size) (low : k < length q) {a : code.Draw} (drawn : shown.draw_of a ≡ draw_of (charge_in c q k)) where
    turn : queue_from c q k ≡ charge_in c q k ∷ queue_from c q (k + 1)
    turn = rw (drop_more q k 0 low) refl

    inside : get_or q k 0 < c.held
    inside = u.places.inside k low

    plan_few : length (plan_of (terms_of b) b.clock c v.placed) ≤ 720
    plan_few = omega (arith, plan_length (terms_of b) b.clock c v.placed, v.many, u.room, room.enough, room.most)

    pub next_can_start : CanStart p a.time
    next_can_start =
        can_start v.plan.shows a.time plan_few
        (omega (arith, v.many, v.plan.ends, u.room, ap (λ (x : Draw). x.time) drawn, (r.listed.small (get_or q k 0) inside).active_most))

    pub next_alone : SoundAlone b.limits a
    next_alone =
        let same : a.rate ≡ (charge_in c q k).rate = ap (λ (x : Draw). x.rate) drawn in
        record {
          is_rate = rw same (r.listed.small (get_or q k 0) inside).is_rate;
          within_limit = omega (arith, same, r.within_limit (get_or q k 0) inside);
          within_site_lem = omega (arith, same, r.within_site_lem (get_or q k 0) inside);
          within_bound = omega (arith, same, r.within_bound (get_or q k 0) inside);
        }

    module _ {w : Option ℕ} (e : EarliestStart p b.limits a w) where
      found : sound_in (terms_of b) b.clock c v.placed (charge_in c q k) ≡ found_at w
      found = rw (← drawn) (earliest_shows e b.clock (plan_of (terms_of b) b.clock c v.placed) (loads_lent b.others) v.plan.shows)

      pub next_stuck : w ≡ None → place_all (sound_in (terms_of b) b.clock c) [] (queue_from c q 0) ≡ stuck
      next_stuck g =
          v.whole
          ∙ rw turn (place_stuck (sound_in (terms_of b) b.clock c) v.placed (charge_in c q k) (queue_from c q (k + 1)) (found ∙ ap found_at g))

      module _ {s : ℕ} (g : w ≡ Some s) where
        -- no start found lies behind the last end
        near : s ≤ max b.clock (last_until (plan_of (terms_of b) b.clock c v.placed))
        near = omega (arith, (earliest_first (terms_of b) b.clock (plan_of (terms_of b) b.clock c v.placed) (draw_of (charge_in c q k)) s (found ∙ ap found_at g)).high)

        pub next_can_add : CanAdd p size a s
        next_can_add = plan_can_add r.listed v.plan (get_or q k 0) s inside near drawn room.enough room.most (omega (arith, v.many, u.room))

        pub next_placed : {p' : Profile} → LoadAdded p p' a s → PlacedSoFar (terms_of b) b.clock c q (k + 1) p' (set starts (get_or q k 0) s)
        next_placed more =
            record {
              placed = v.placed ++ (starting (charge_in c q k) s ∷ []);
              whole =
                  v.whole
                  ∙ rw turn (place_on_lem (sound_in (terms_of b) b.clock c) v.placed (charge_in c q k) (queue_from c q (k + 1)) s (found ∙ ap found_at g));
              many = length-append v.placed (starting (charge_in c q k) s ∷ []) ∙ ap (λ (m : ℕ). m + 1) v.many;
              plan = plan_on r.listed v.plan (get_or q k 0) s inside near drawn (v.fresh k (omega arith) low) more;
              fresh =
                  λ j l m.
                  each_append (λ y. y.ticket ≡ (charge_in c q j).ticket → ⊥) v.placed (starting (charge_in c q k) s ∷ [])
                  (v.fresh j (omega arith) m) (
                    places_apart r.listed (get_or q k 0) (get_or q j 0) inside (u.places.inside j m)
                        (u.places.apart k j (omega arith) m),
                    tt,
                  );
            }
