-- What the search for the next charge of a line asks.
use Prim.Native.Nat.{ℕ, ◌+◌, ◌≤◌, ◌<◌}
use mathlib.Core.Path.{◌≡◌, ap}
use mathlib.Core.List.{List}
use native.Mathlib.Omega.{arith}
use lib.Dec.{eqb}
use lib.ListN.{length, get_or}
use Rattle.rules.specs.Site.{places}
use Rattle.rules.specs.Charge.{Charge}
use Rattle.rules.specs.Search.{Caps}
use Rattle.rules.specs.Priority.{Crowd}
use Rattle.rules.specs.Replan.{of_line}
use Rattle.rules.proofs.Lists.{length_tabulate, length_keep}
use Rattle.rules.proofs.LatestStarts.{latest_start_sums}
use Rattle.rules.proofs.ThenTicket.{ticket_true}
use Rattle.charges.specs.declared.Charges.{Charges}
use Rattle.charges.specs.Arrays.{charge_at, charges_of}
use Rattle.search.proofs.Lowerings.{can_cap}
use Rattle.search.proofs.Starts.{can_start}
use Rattle.priority.specs.declared.choice.Left.{Left}
use Rattle.priority.specs.Chosen.{time_at, rate_at, due_at}
use Rattle.planner.specs.declared.Beside.{Beside}
use Rattle.planner.specs.Ready.{terms_of, begun_of, Ready}
use Rattle.planner.specs.Placed.{plan_of}
use Rattle.planner.proofs.Growing.{plan_length}
use Rattle.planner.proofs.Showing.{begun_and_waiting_lem}
use Rattle.lines.specs.declared.place.Task.{Task}
use Rattle.lines.specs.declared.next.Room.{Room}
use Rattle.lines.specs.Next.{CanNext}
use Rattle.lines.specs.Lines.{waiting_of, Capped, CanPlace}
use Rattle.lines.proofs.Lefts.{left_at, crowd_in}
use Rattle.lines.proofs.LinePlans.{own_crowd, line_room, LineSoFar}
use Rattle.lines.proofs.LineNumbers.{left_range}

module _ {size : ℕ} {k : Task} (room : Room) (l : Left) {by_place : List ℕ} {from : ℕ} (h : CanPlace size k)
    (same : k.charges.now ≡ l.charges.now) (under : k.caps.now ≡ room.caps.now) (crowd : crowd_in l.crowd ≡ own_crowd k.beside l.charges.now room.line)
    {cap : Caps} (v : LineSoFar cap k.beside l.charges.now room.line l.places.now room.steps.now by_place l.times from) where
  abbrev b : Beside
  b = k.beside

  abbrev c : Charges
  c = l.charges.now

  abbrev charge : ℕ → Charge
  charge = left_at c l.places.now

  ready : Ready b c
  ready = rw (← same) h.ready

  capped : Capped b.limits.site c room.caps.now
  capped = rw (← same, ← under) h.capped

  -- the sums by which two charges of the line are compared
  in_order :
      (i j : ℕ) → i < j → j < length l.places.now → due_at l i + time_at l j ≤ due_at l j + time_at l i
  in_order i j a low =
      omega (
        arith,
        ticket_true ((charge i).due + (charge j).time) ((charge j).due + (charge i).time) (charge i) (charge j)
            (rw (latest_start_sums (charge i) (charge j)) at (v.are.sorted i j a low)),
      )

  own_few : length (of_line room.line (waiting_of b.clock c)) ≤ places
  own_few =
      omega (
        arith,
        length_keep (λ x. eqb x.line room.line) (waiting_of b.clock c),
        begun_and_waiting_lem b.clock (charges_of c),
        length_tabulate (charge_at c) c.held 0,
        c.few,
      )

  room_left : length (begun_of b.clock c) + length v.placed + length l.places.now ≤ places
  room_left = line_room ready.listed room.on_line v

  few : length (plan_of (terms_of b) b.clock c v.placed) ≤ 720
  few = omega (arith, plan_length (terms_of b) b.clock c v.placed, room_left, h.space.enough, h.space.most)

  pub can_next : CanNext room l from
  can_next =
      record {
        can_start = can_start v.plan.shows 1445 few (omega (arith, v.plan.ends, room_left));
        capped = λ j low.
            can_cap room.caps.now b.limits.site capped.cap room.line (rate_at l j) capped.shown room.on_line
            (λ t. capped.enough (get_or l.places.now j 0) (v.are.inside j low) room.line t)
            (ready.within_site_lem (get_or l.places.now j 0) (v.are.inside j low));
        can_choose = λ more.
            record {
              range = left_range ready.listed v.are;
              number_most = omega (arith, ap (λ (q : Crowd). q.number) crowd, own_few);
              total_low = omega (arith, ap (λ (q : Crowd). q.total) crowd, v.some more);
              shortest_low = v.bounds.shortest_low;
              in_order = in_order;
            };
        bounds = v.bounds;
        low = omega (arith, v.low, v.plan.shows.starts);
        from_fits = omega (arith, v.near, v.plan.ends, room_left);
      }
