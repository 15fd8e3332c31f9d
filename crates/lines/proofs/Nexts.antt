-- The next charge of a line: found at the last start, or at the smallest one behind it.
use mathlib.Core.Logic.{◌⊎◌, inl, inr, ⊎_elim}
use mathlib.Core.Path.{◌≡◌, sym, ◌∙◌, subst}
use Prim.Native.Nat.{ℕ, ◌+◌, ◌^◌, min, ◌≤◌, ◌<◌}
use mathlib.Core.Bool.{true, true≢false}
use mathlib.Core.List.{List}
use native.Mathlib.Omega.{arith}
use lib.ListN.{length}
use borrow.Author.Tests.{le-leb}
use Rattle.std.specs.declared.option.Option.{Option}
use Rattle.std.specs.declared.option.Option.TheVariants.{Some, None}
use Rattle.rules.proofs.Ranges.{below_or_not}
use Rattle.charges.specs.declared.Charges.{Charges}
use Rattle.profile.specs.Shows.{Profile, first_minute, last_minute}
use Rattle.search.specs.Rooms.{Misses}
use Rattle.priority.specs.declared.crowd.Times.{Times}
use Rattle.priority.specs.declared.choice.Left.{Left}
use Rattle.priority.specs.declared.choice.Runs.{Runs}
use Rattle.priority.specs.Crowds.{shortest_of, Found, TimesOf}
use Rattle.priority.specs.Chosen.{active_time_at, rate_at, with_times, Narrowed, fits_run}
use Rattle.lines.specs.declared.next.Room.{Room}
use Rattle.lines.specs.Next.{room_for, runs_at, CanChooseAt, ChosenAt, StartFor, smaller_of, NextStart, Bounds, CanNext, NextAt}
use Rattle.lines.proofs.Seeking.{rate_of, rate_range, rate_found, rate_missing, rate_none, rate_long}

pub times_bound : {c : Charges} {left : List ℕ} {t : Times} → TimesOf c left t → Bounds c left t
times_bound w =
    record {
      one_most = w.one.most;
      two_most = w.two.most;
      one = λ j h e. (w.one.each j h e).2;
      two = λ j h e. (w.two.each j h e).2;
      shortest_low = w.shortest_low;
    }

module _ {room : Room} {l : Left} {from : ℕ} (can : CanNext room l from) (more : 1 ≤ length l.places.now) where
  abbrev p : Profile
  p = room.steps.now

  abbrev left : List ℕ
  left = l.places.now

  -- At the smallest start behind the last one

  module _ {d : Left} (w : Narrowed l d) where
    abbrev there : Left
    there = with_times l d.times

    can_choose_there : {s : ℕ} → first_minute p ≤ s → s + 1445 < 2 ^ 32 → CanChooseAt room there s
    can_choose_there low fit =
        let can_choose = can.can_choose more in
        record {
          one = record { formed = can.can_start.formed; low = low; ends_fit = omega (arith, w.times.one.most) };
          two = record { formed = can.can_start.formed; low = low; ends_fit = omega (arith, w.times.two.most) };
          can_choose =
              record {
                range = can_choose.range;
                number_most = can_choose.number_most;
                total_low = can_choose.total_low;
                shortest_low = w.times.shortest_low;
                in_order = can_choose.in_order;
              };
        }

    pub can_there : {s : ℕ} → first_minute p ≤ s → s + 1445 < 2 ^ 32 → CanChooseAt room d s
    can_there {s} low fit = subst (λ x. CanChooseAt room x s) (sym w.same) (can_choose_there low fit)

    abbrev one : ℕ
    one = shortest_of d.times.one

    abbrev two : ℕ
    two = shortest_of d.times.two

    -- the smallest start of a rate of which a charge is left, and no charge has an earlier one
    record Reached (start : ℕ) : Type 0 where
      low : first_minute p ≤ start
      high : start ≤ last_minute p
      none :
          (u : ℕ) → from ≤ u → u < start → (j : ℕ) → j < length left
          → Misses (room_for room (rate_at l j)) (active_time_at l j) u
      found : StartFor room 1 one from (Some start) ⊎ StartFor room 2 two from (Some start)

    reached : {start : ℕ} → NextStart room d.times from (Some start) → Reached start
    reached {start} m = go m.first m.second m.for_one m.for_two m.smaller
      where
        same : {x y : ℕ} → Some x ≡ Some y → x ≡ y
        same e = cc

        go : (a b : Option ℕ) → StartFor room 1 one from a → StartFor room 2 two from b → Some start ≡ smaller_of a b → Reached start
        go (Some a) (Some b) x y e =
            let s : start ≡ min a b = same e in
            record {
              low = omega (arith, (rate_range can x).0, (rate_range can y).0);
              high = omega (arith, (rate_range can x).1);
              none = λ u g l j h.
                  ⊎_elim (rate_none can w.times.one x u g (omega arith) j h) (rate_none can w.times.two y u g (omega arith) j h) (rate_of can j h);
              found =
                  ⊎_elim
                  (λ l. let f : b ≡ start = omega arith in inr (rw f at y))
                  (λ l. let f : a ≡ start = omega arith in inl (rw f at x))
                  (below_or_not b a);
            }
        go (Some a) None x y e =
            let s : a ≡ start = sym (same e) in
            let z = rw s at x in
            record {
              low = (rate_range can z).0;
              high = (rate_range can z).1;
              none = λ u g l j h. ⊎_elim (rate_none can w.times.one z u g l j h) (λ f. absurd (rate_missing can w.times.two y j h f)) (rate_of can j h);
              found = inl z;
            }
        go None (Some b) x y e =
            let s : b ≡ start = sym (same e) in
            let z = rw s at y in
            record {
              low = (rate_range can z).0;
              high = (rate_range can z).1;
              none = λ u g l j h. ⊎_elim (λ f. absurd (rate_missing can w.times.one x j h f)) (rate_none can w.times.two z u g l j h) (rate_of can j h);
              found = inr z;
            }
        go None None x y e = absurd (cc)

    pub there_range : {start : ℕ} → NextStart room d.times from (Some start) → (first_minute p ≤ start) × (start ≤ last_minute p)
    there_range m = let r = reached m in (r.low, r.high)

    module _ {start : ℕ} (m : NextStart room d.times from (Some start)) where
      -- a charge is taken at that start
      pub taken_there : ChosenAt room d start None → ⊥
      taken_there none = ⊎_elim one_fits two_fits (reached m).found
        where
          none_fits : ChosenAt room there start None
          none_fits = subst (λ x. ChosenAt room x start None) w.same none

          runs : Runs
          runs = runs_at room d.times start

          one_fits : StartFor room 1 one from (Some start) → ⊥
          one_fits t =
              let g : Found l.charges.now left (length left) 1 one = rate_found can w.times.one t.0 in
              let fits : fits_run l runs g.who ≡ true =
              rw (← g.rate_is) (le-leb (active_time_at l g.who) runs.one (rate_long can w.times.one t g)) in
              true≢false (sym fits ∙ none_fits g.who (omega arith) g.inside)

          two_fits : StartFor room 2 two from (Some start) → ⊥
          two_fits t =
              let g : Found l.charges.now left (length left) 2 two = rate_found can w.times.two t.0 in
              let fits : fits_run l runs g.who ≡ true =
              rw (← g.rate_is) (le-leb (active_time_at l g.who) runs.two (rate_long can w.times.two t g)) in
              true≢false (sym fits ∙ none_fits g.who (omega arith) g.inside)

      pub next_there :
          {position : ℕ} → ChosenAt room d start (Some position)
          → NextAt room l from (record { start = start; position = position; times = d.times })
      next_there {position} h =
          let r = reached m in
          let choice = subst (λ x. ChosenAt room x start (Some position)) w.same h in
          record {
            inside = choice.inside;
            choice = choice;
            bounds = times_bound w.times;
            low = r.low;
            high = omega (arith, r.high);
            none = r.none;
          }
