-- A round begins with no waiting charge placed, and a line with all of its own left.
use mathlib.Core.Path.{◌≡◌, refl, sym, ◌∙◌}
use Prim.Native.Nat.{ℕ, ◌+◌, ◌≤◌}
use mathlib.Core.List.{List, [], append-nil}
use native.Mathlib.Omega.{arith}
use lib.ListN.{length, get_or, replicate}
use Rattle.rules.specs.Site.{places}
use Rattle.rules.specs.Basics.{keep}
use Rattle.rules.specs.Charge.{loads_of}
use Rattle.rules.specs.Search.{Caps}
use Rattle.rules.specs.Replan.{of_line, standing}
use Rattle.rules.proofs.Sites.{last_until_append}
use Rattle.charges.specs.Arrays.{charges_of}
use Rattle.charges.specs.declared.Charges.{Charges}
use Rattle.charges.specs.Drawn.{loads_lent}
use Rattle.queues.specs.Queues.{is_on_line}
use Rattle.charges.proofs.Storing.{zeros}
use Rattle.profile.specs.Shows.{Profile}
use Rattle.priority.specs.declared.crowd.Crowd as code
use Rattle.priority.specs.declared.crowd.Times.{Times}
use Rattle.priority.specs.Crowds.{CrowdOf, TimesOf}
use Rattle.priority.specs.Numbers.{InRange}
use Rattle.planner.specs.declared.Beside.{Beside}
use Rattle.planner.specs.Ready.{terms_of, begun_of}
use Rattle.planner.proofs.Showing.{begun_end_most}
use Rattle.lines.specs.declared.place.Task.{Task}
use Rattle.lines.specs.Lines.{waiting_of, CanPlace, LinesDone, ShowsStanding}
use Rattle.lines.proofs.Rearranging.{each_among}
use Rattle.lines.proofs.Lefts.{crowd_in, own_length, own_total, left_start}
use Rattle.lines.proofs.Many.{many_next}
use Rattle.lines.proofs.Nexts.{times_bound}
use Rattle.lines.proofs.LinePlans.{own_crowd, line_begins, LineSoFar}
use Rattle.lines.proofs.LineNumbers.{left_range, total_some}

module _ {size : ℕ} {k : Task} (can : CanPlace size k) where
  abbrev b : Beside
  b = k.beside

  abbrev c : Charges
  c = k.charges.now

  pub lines_start :
      {cap : Caps} {p : Profile} {l first : ℕ} → ShowsStanding k p → l ≡ 0 → first ≡ 0
      → LinesDone cap b c l p (replicate places first)
  lines_start s none clear =
      rw (none, clear)
      record {
        placed = [];
        gives = refl;
        many = refl;
        plan =
            record {
              shows = rw (append-nil (standing (terms_of b) b.clock (charges_of c))) s;
              stored = λ i l. sym (zeros places i);
              length_is = refl;
              ends =
                  rw (append-nil (standing (terms_of b) b.clock (charges_of c)))
                  (omega (
                    arith,
                    can.ready.clock_most,
                    b.others_fit.end_most,
                    begun_end_most can.ready.listed b.clock,
                    last_until_append (loads_lent b.others) (loads_of (begun_of b.clock c)),
                  ));
            };
        later = λ i low g. tt;
      }

  -- the charges of a line when the round begins, by their places
  module _ (line : ℕ) {own : List ℕ} (is : own ≡ keep (is_on_line c.lines line) k.queue.now) where
    pub own_range : InRange c own
    own_range = left_range can.ready.listed (left_start line (waiting_of b.clock c) can.ready.listed can.in_order is)

    -- their crowd is that of the rules
    pub line_crowd : {q : code.Crowd} → CrowdOf c own q → crowd_in q ≡ own_crowd b c line
    line_crowd w =
        let many = w.number ∙ own_length line (waiting_of b.clock c) can.ready.listed can.in_order is in
        let sum = w.total ∙ own_total line (waiting_of b.clock c) can.ready.listed can.in_order is in
        λ i. record { number = many i; total = sum i }

    pub line_start :
        {cap : Caps} {before from : ℕ} {p : Profile} {by_place : List ℕ} {t : Times} → line ≡ before + 1 → LinesDone cap b c before p by_place
        → TimesOf c own t
        → from ≡ b.clock
        → LineSoFar cap b c line own p by_place t from
    line_start {cap} {before} next d w start =
        let whole : length own ≡ length (of_line line (waiting_of b.clock c)) = own_length line (waiting_of b.clock c) can.ready.listed can.in_order is in
        let v = left_start line (waiting_of b.clock c) can.ready.listed can.in_order is in
        record {
          placed = d.placed;
          rest = of_line line (waiting_of b.clock c);
          gives = rw whole (line_begins cap b c before line d.placed next d.gives);
          are = v;
          plan = d.plan;
          many = omega (arith, d.many, many_next before line (waiting_of b.clock c) next);
          fresh = λ j a. d.later (get_or own j 0) (v.inside j a) (omega (arith, v.on_line j a));
          later = λ i a g. d.later i a (omega arith);
          below = λ u a e. absurd (omega arith);
          low = omega arith;
          near = omega arith;
          some = λ a.
              total_some (of_line line (waiting_of b.clock c))
              (each_among (λ x. 1 ≤ x.time) (of_line line (waiting_of b.clock c))
              (λ x m.
              let z = v.from x m in
              rw z.is (can.ready.listed.small (get_or own z.place 0) (v.inside z.place z.inside)).time_low))
              (omega (arith, whole));
          bounds = times_bound w;
        }
