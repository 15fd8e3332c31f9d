-- The records of a feeder whose settings passed their test, and the whole test.
use mathlib.Core.Logic.{◌⊎◌, inl, inr}
use mathlib.Core.Path.{◌≡◌, refl, ap, sym, ◌∙◌}
use Prim.Native.Nat.{ℕ, zero, suc, ◌+◌, ◌≤◌, ◌<◌}
use mathlib.Core.Bool.{Bool, true, false, ◌&&◌}
use mathlib.Core.List.{List, []}
use native.Mathlib.Omega.{arith}
use native.Mathlib.Numerals.{add-one}
use Rattle.std.proofs.Common.{zero-add}
use Rattle.std.proofs.lemmas.List.Folds.{list_all_more}
use Rattle.std.proofs.lemmas.List.FromFn.{length-range_with_len, get_or-range_with_len}
use lib.ListN.{length, take}
use Rattle.std.specs.List.{list_all, range_with_len}
use Rattle.std.proofs.lemmas.List.{length-take-le, get_or-take, take_all}
use borrow.Author.Tests.{lt-ltb, le-ltb, le-leb, eq-eqb}
use Rattle.rules.specs.Basics.{Each}
use Rattle.rules.specs.Load.{Load, IsRate, Limits, limits, sound}
use Rattle.rules.specs.Charge.{Charge, active_until, seen}
use Rattle.rules.specs.Calls.{bound_of}
use Rattle.rules.proofs.Ranges.{below_or_not}
use Rattle.rules.proofs.Lists.{length_tabulate, get_d_tabulate, each_map}
use Rattle.charges.specs.declared.Charges.{Charges}
use Rattle.charges.specs.declared.Charge as declared
use Rattle.charges.specs.Arrays.{charge_of, charge_at, charges_of, tickets}
use Rattle.station.specs.declared.only.One.{One}
use Rattle.station.specs.View.{view, station_of}
use Rattle.layout.specs.Lists.{every}
use Rattle.layout.specs.Image.{no_charge, held_at}
use Rattle.layout.specs.Validity.{bound_right, charge_right, ticket_at, ticket_right, record_right, is_valid}
use Rattle.layout.proofs.Judging.{RightCharge}
use Rattle.layout.proofs.Testing.{each_right}
use Rattle.planner.specs.Ready.{Profiled}
use Rattle.planner.proofs.Showing.{plannable}
use Rattle.validity.specs.Settled.{ticket_or_next, ticket_rises, held_by, single, Settled}
use Rattle.validity.proofs.Ranging.{Ranged, ranged, valid_ranged, valid_bound}

-- a test at each number of a range
all_below : (f : ℕ → Bool) (n k : ℕ) → k ≤ n → list_all f (take k (range_with_len 0 n)) ≡ every f k
unfolding every
all_below f n zero h = refl
all_below f n (suc k) h =
    rw (
      ← add-one k,
      list_all_more f (range_with_len 0 n) k 0 (omega (arith, length-range_with_len 0 n)),
      all_below f n k (omega arith),
      get_or-range_with_len 0 n k 0 h,
      zero-add k,
    )

pub all_every : (f : ℕ → Bool) (n : ℕ) → list_all f (range_with_len 0 n) ≡ every f n
all_every f n =
    ap (list_all f) (sym (take_all n (range_with_len 0 n) (omega (arith, length-range_with_len 0 n)))) ∙ all_below f n n (omega arith)

module _ (o : One) where
  abbrev charges : Charges
  charges = held_by o

  abbrev held : ℕ
  held = charges.held

  pub held_count : length (charges_of charges) ≡ held
  held_count = length_tabulate (charge_at charges) held 0

  pub held_at_lem : (q : ℕ) → q < held → held_at (single o) q ≡ charge_at charges q
  held_at_lem q l =
      let e : 0 + q ≡ q = omega arith in
      get_d_tabulate (charge_at charges) held 0 q no_charge l ∙ ap (charge_at charges) e

  -- Records

  module _ (h : Settled o) where
    ticket_at_lem : (q : ℕ) → ticket_or_next (take held charges.tickets) o.next q ≡ ticket_at (single o) q
    ticket_at_lem q = go (below_or_not q held)
      where
        some : length (take held charges.tickets) ≡ held
        some = length-take-le held charges.tickets (omega (arith, charges.few, (h.columns.filled tickets).full))

        go : (q < held) ⊎ (held ≤ q) → ticket_or_next (take held charges.tickets) o.next q ≡ ticket_at (single o) q
        go (inl l) =
            rw (some, held_count, lt-ltb q held l)
            (get_or-take held charges.tickets q 0 l ∙ ap (λ (c : Charge). c.ticket) (sym (held_at_lem q l)))
        go (inr l) = rw (some, held_count, le-ltb q held l)

    rises_right : (q : ℕ) → ticket_rises (take held charges.tickets) o.next q ≡ ticket_right (single o) q
    unfolding ticket_right ticket_rises
    rises_right q = rw (ticket_at_lem q, ticket_at_lem (q + 1))

    -- a record is right by its ticket and by its charge
    pub record_told :
        (q : ℕ)
        → q < held
        → record_right (single o) q ≡ ticket_rises (take held charges.tickets) o.next q && charge_right (single o) (charge_at charges q)
    unfolding record_right
    record_told q l = rw (held_at_lem q l, rises_right q)

  -- what its plan has to keep to: nothing else is drawn
  abbrev own : List Load → Limits
  own others = limits o.feeder.limit o.feeder.bound o.site others

  module _ (h : Settled o) where
    -- the whole test, from what is found of the records and the plan
    valid-is :
        (r t : Bool)
        → r ≡ every (record_right (single o)) held
        → t ≡ sound (own []) o.clock (seen (own []) (charges_of charges))
        → is_valid (single o) ≡ r && t
    unfolding is_valid bound_right
    valid-is r t e f =
        rw (
          held_count,
          le-leb held 180 charges.few,
          valid_ranged o.feeder.limit o.feeder.percent o.feeder.tail o.clock o.next o.site h.settings,
          eq-eqb o.feeder.bound (bound_of o.feeder.limit o.feeder.percent) h.bound_is,
          le-leb 1 o.feeder.bound (omega (arith, h.bound_is, valid_bound o.feeder.limit o.feeder.percent o.feeder.tail o.clock o.next o.site h.settings)),
          ← e,
          ← f,
        )

    pub valid_fails : (r : Bool) → r ≡ every (record_right (single o)) held → r ≡ false → false ≡ is_valid (view (station_of o))
    valid_fails r e f = sym (valid-is r (sound (own []) o.clock (seen (own []) (charges_of charges))) e refl ∙ rw f)

    pub valid_told :
        (r t : Bool) (limit bound site clock : ℕ) (others : List Load)
        → r ≡ every (record_right (single o)) held
        → r ≡ true
        → t ≡ sound (limits limit bound site others) clock (seen (limits limit bound site others) (charges_of charges))
        → others ≡ []
        → limit ≡ o.feeder.limit
        → bound ≡ o.feeder.bound
        → site ≡ o.site
        → clock ≡ o.clock
        → t ≡ is_valid (view (station_of o))
    valid_told r t limit bound site clock others e f g none a b w k = sym (valid-is r t e (rw (none, a, b, w, k) at g) ∙ rw f)

    settled_ranged : Ranged o.feeder.limit o.feeder.percent o.feeder.tail o.clock o.next o.site
    settled_ranged =
        ranged o.feeder.limit o.feeder.percent o.feeder.tail o.clock o.next o.site
        (valid_ranged o.feeder.limit o.feeder.percent o.feeder.tail o.clock o.next o.site h.settings)

    -- what the test of its times needs
    pub times_testable :
        (q : ℕ) (r : declared.Charge) → q < held → charge_of r ≡ charge_at charges q → (1 ≤ o.next) × (r.active_time ≡ r.time + o.feeder.tail)
    times_testable q r l e =
        (settled_ranged.next_low, ap (λ (c : Charge). c.active_time) e ∙ h.active q l ∙ sym (ap (λ (c : Charge). c.time + o.feeder.tail) e))

    pub all_profiled : every (record_right (single o)) held ≡ true → Profiled charges
    all_profiled all =
        record {
          plannable =
              plannable (charges_of charges)
              (each_map (RightCharge (single o)) (λ c. IsRate c.rate) (λ c r. r.rate) (charges_of charges) right)
              (each_map (RightCharge (single o)) (λ c. active_until c ≤ 100001445)
              (λ c r. omega (arith, r.end_high, r.active, settled_ranged.tail_high, settled_ranged.clock_high, settled_ranged.next_high)) (charges_of charges) right);
        }
      where
        right : Each (RightCharge (single o)) (charges_of charges)
        right = each_right (single o) (rw held_count all)
