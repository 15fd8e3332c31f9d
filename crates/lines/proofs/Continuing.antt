-- One more charge of a line is placed.
use mathlib.Core.Path.{◌≡◌, sym, ◌∙◌, ap}
use Prim.Native.Nat.{ℕ, suc, max, ◌≤◌, ◌<◌}
use mathlib.Core.List.{List, [], ◌∷◌, ◌++◌}
use native.Mathlib.Omega.{arith}
use lib.ListN.{length, get_or, set, length-append}
use Rattle.std.specs.List.{remove}
use Rattle.std.proofs.lemmas.List.Edits.{length-remove}
use Rattle.rules.specs.Load.{Load, last_until}
use Rattle.rules.specs.Charge.{Charge, starting, draw_of}
use Rattle.rules.specs.Search.{Caps}
use Rattle.rules.specs.Priority.{without_ticket}
use Rattle.rules.specs.Replan.{place_on, standing}
use Rattle.rules.proofs.Lists.{each_append}
use Rattle.rules.proofs.Fitting.{none_below_stays}
use Rattle.charges.specs.declared.Charges.{Charges}
use Rattle.charges.specs.Held.{Listed}
use Rattle.charges.specs.Arrays.{charge_at, charges_of}
use Rattle.profile.specs.declared.loads.Draw.{Draw}
use Rattle.profile.specs.Shows as profile
use Rattle.profile.specs.Shows.{Profile, LoadAdded, CanAdd}
use Rattle.profile.proofs.Shown.{last_added}
use Rattle.search.specs.Caps.{CapsShown}
use Rattle.priority.specs.declared.choice.Left.{Left}
use Rattle.planner.specs.declared.Beside.{Beside}
use Rattle.planner.specs.Ready.{terms_of}
use Rattle.planner.specs.Placed.{plan_of}
use Rattle.planner.proofs.Queueing.{places_apart}
use Rattle.planner.proofs.Growing.{grown, plan_can_add, plan_on}
use Rattle.lines.specs.declared.place.Task.{Task}
use Rattle.lines.specs.declared.next.Room.{Room}
use Rattle.lines.specs.declared.next.Next.{Next}
use Rattle.lines.specs.Next.{Bounds, NextAt}
use Rattle.lines.specs.Lines.{CanPlace}
use Rattle.lines.proofs.Lefts.{left_at, crowd_in, left_tickets, stood, left_next}
use Rattle.lines.proofs.Takings.{start_near, none_below, next_picked}
use Rattle.lines.proofs.LinePlans.{own_crowd, pick_in, place_next, line_room, LineSoFar}

module _ {size : ℕ} {k : Task} {room : Room} {l : Left} {by_place : List ℕ} {from : ℕ} {t : Next} (r : NextAt room l from t)
    (h : CanPlace size k) (same : k.charges.now ≡ l.charges.now)
    {cap : Caps} (shown : CapsShown room.caps.now k.beside.limits.site cap)
    (v : LineSoFar cap k.beside l.charges.now room.line l.places.now room.steps.now by_place l.times from) where
  abbrev b : Beside
  b = k.beside

  abbrev c : Charges
  c = l.charges.now

  abbrev left : List ℕ
  left = l.places.now

  listed : Listed c
  listed = rw (← same) h.ready.listed

  abbrev loads_now : List Load
  loads_now = plan_of (terms_of b) b.clock c v.placed

  -- the place of the charge that is taken
  abbrev i : ℕ
  i = get_or left t.position 0

  abbrev who : Charge
  who = charge_at c i

  low_place : i < c.held
  low_place = v.are.inside t.position r.inside

  near_now : t.start ≤ max b.clock (last_until loads_now)
  near_now = start_near loads_now listed shown v.plan.shows v.are r v.below v.near

  -- what it draws is added
  module _ {a : Draw} (drawn : profile.draw_of a ≡ draw_of who) where
    pub next_can_add : CanAdd room.steps.now size a t.start
    next_can_add =
        plan_can_add listed v.plan i t.start low_place near_now drawn h.space.enough h.space.most
        (omega (arith, line_room listed room.on_line v, r.inside))

  bounds_next : Bounds c (remove left t.position) t.times
  bounds_next =
      let w = r.bounds in
      record {
        one_most = w.one_most;
        two_most = w.two_most;
        one = λ j low e.
            let s = stood listed v.are r.inside j low in rw s.same (w.one s.old s.inside (rw s.same at e));
        two = λ j low e.
            let s = stood listed v.are r.inside j low in rw s.same (w.two s.old s.inside (rw s.same at e));
        shortest_low = λ j low.
            let s = stood listed v.are r.inside j low in rw s.same (w.shortest_low s.old s.inside);
      }

  pub line_next :
      {a : Draw} → profile.draw_of a ≡ draw_of who → {after : Profile} → LoadAdded room.steps.now after a t.start
      → crowd_in l.crowd ≡ own_crowd b c room.line
      → LineSoFar cap b c room.line (remove left t.position) after (set by_place i t.start) t.times t.start
  line_next drawn {after} added crowd =
      let one_less : length left ≡ suc (length (remove left t.position)) = omega (arith, length-remove left t.position r.inside) in
      let below = none_below loads_now listed shown v.plan.shows v.are r v.below v.near in
      record {
        placed = v.placed ++ (starting who t.start ∷ []);
        rest = without_ticket who.ticket v.rest;
        gives =
            v.gives
            ∙ ap (λ (m : ℕ). place_on (pick_in cap b c room.line) m v.placed v.rest) one_less
            ∙ place_next (pick_in cap b c room.line) (length (remove left t.position)) v.placed v.rest (starting who t.start)
            (rw crowd at (next_picked loads_now listed shown v.plan.shows v.are r v.below v.near));
        are = left_next listed v.are r.inside;
        plan = plan_on listed v.plan i t.start low_place near_now drawn (v.fresh t.position r.inside) added;
        many = omega (arith, v.many, length-append v.placed (starting who t.start ∷ []));
        fresh = λ j low.
            let s = stood listed v.are r.inside j low in
            rw s.same
            (each_append (λ y. y.ticket ≡ (left_at c left s.old).ticket → ⊥) v.placed (starting who t.start ∷ []) (v.fresh s.old s.inside)
            (left_tickets listed v.are t.position s.old r.inside s.inside (λ e. s.other (sym e)), tt));
        later = λ m low g.
            each_append (λ y. y.ticket ≡ (charge_at c m).ticket → ⊥) v.placed (starting who t.start ∷ []) (v.later m low g) (
              places_apart listed i m low_place low
                  (λ e. omega (arith, v.are.on_line t.position r.inside, ap (λ (n : ℕ). (charge_at c n).line) e)),
              tt,
            );
        below =
            none_below_stays b.limits.site cap b.clock (standing (terms_of b) b.clock (charges_of c)) v.placed (starting who t.start) who.ticket v.rest t.start below;
        low = omega (arith, r.low, v.plan.shows.starts);
        near =
            rw (grown (terms_of b) b.clock c v.placed who t.start)
            (omega (arith, near_now, last_added loads_now (draw_of who) t.start));
        some = λ low. v.some (omega (arith, r.inside));
        bounds = bounds_next;
      }
