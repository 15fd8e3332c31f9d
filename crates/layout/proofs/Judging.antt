-- What the test of a charge (specs/Validity.antt) tests.
use mathlib.Core.Path.{◌≡◌}
use Prim.Native.Nat.{ℕ, ◌+◌, ◌-◌, ◌*◌, ◌≤◌, ◌<◌}
use mathlib.Core.Bool.{Bool, true, ◌&&◌}
use lib.Dec.{eqb, leb, ltb}
use borrow.Author.Tests.{eqb-true, eq-eqb, leb-true, le-leb, ltb-true, lt-ltb}
use Rattle.rules.specs.Load.{IsLine, IsRate}
use Rattle.rules.specs.Charge.{Charge, end_of}
use Rattle.rules.specs.Site.{State}
use Rattle.rules.proofs.Ranges.{and_left, and_right}
use Rattle.layout.specs.Image.{only}
use Rattle.layout.specs.Validity.{between, fields_ranged, rate_right, times_right, charge_right}

-- Two to six tests at once

pub two_hold : (a b : Bool) → a && b ≡ true → (a ≡ true) × (b ≡ true)
two_hold a b e = (and_left a b e, and_right a b e)

pub three_hold : (a b c : Bool) → a && (b && c) ≡ true → (a ≡ true) × (b ≡ true) × (c ≡ true)
three_hold a b c e =
    let x = two_hold a (b && c) e in
    let y = two_hold b c x.1 in
    (x.0, y.0, y.1)

pub four_hold : (a b c d : Bool) → a && (b && (c && d)) ≡ true → (a ≡ true) × (b ≡ true) × (c ≡ true) × (d ≡ true)
four_hold a b c d e =
    let x = two_hold a (b && (c && d)) e in
    let y = three_hold b c d x.1 in
    (x.0, y.0, y.1, y.2)

pub five_hold :
    (a b c d f : Bool)
    → a && (b && (c && (d && f))) ≡ true
    → (a ≡ true) × (b ≡ true) × (c ≡ true) × (d ≡ true) × (f ≡ true)
five_hold a b c d f e =
    let x = two_hold a (b && (c && (d && f))) e in
    let y = four_hold b c d f x.1 in
    (x.0, y.0, y.1, y.2, y.3)

pub six_hold :
    (a b c d f g : Bool)
    → a && (b && (c && (d && (f && g)))) ≡ true
    → (a ≡ true) × (b ≡ true) × (c ≡ true) × (d ≡ true) × (f ≡ true) × (g ≡ true)
six_hold a b c d f g e =
    let x = two_hold a (b && (c && (d && (f && g)))) e in
    let y = five_hold b c d f g x.1 in
    (x.0, y.0, y.1, y.2, y.3, y.4)

-- Tests of plain numbers

pub between_low : (low x high : ℕ) → between low x high ≡ true → low ≤ x
unfolding between
between_low low x high e = leb-true low x (and_left (leb low x) (leb x high) e)

pub between_high : (low x high : ℕ) → between low x high ≡ true → x ≤ high
unfolding between
between_high low x high e = leb-true x high (and_right (leb low x) (leb x high) e)

pub is_between : (low x high : ℕ) → low ≤ x → x ≤ high → between low x high ≡ true
unfolding between
is_between low x high h l = rw (le-leb low x h, le-leb x high l)

-- A charge

module _ (s : State) (c : Charge) where
  -- what the test of a charge tests, and what the rules ask beside tickets
  pub record RightCharge : Type 0 where
    pub line : IsLine c.line
    pub time_low : 1 ≤ c.time
    pub time_high : c.time ≤ 1440
    pub due_high : c.due ≤ 2000000
    pub rate : IsRate c.rate
    pub within_limit : c.rate ≤ (only s).limit
    pub within_bound : c.rate ≤ (only s).bound
    pub within_site_lem : c.rate ≤ s.site
    pub active : c.active_time ≡ c.time + (only s).tail
    pub ordered : c.order_minute ≤ s.clock
    pub not_early : c.order_minute ≤ c.start
    pub unfinished : s.clock < c.start + c.active_time
    pub end_high : end_of c ≤ s.clock + 1445 * (s.next - 1)

  abbrev fields : Bool
  fields = fields_ranged c.line c.time c.due c.rate

  abbrev rates : Bool
  rates = rate_right (only s).limit (only s).bound s.site c.rate

  abbrev times : Bool
  times = times_right (only s).tail s.clock s.next c.order_minute c.start c.time c.active_time

  pub charge_tested : charge_right s c ≡ true → RightCharge
  unfolding charge_right fields_ranged rate_right times_right
  charge_tested e =
      let a = two_hold fields (rates && times) e in
      let b = two_hold rates times a.1 in
      let f = four_hold (between 1 c.line 3) (between 1 c.time 1440) (leb c.due 2000000) (between 1 c.rate 2) a.0 in
      let r = three_hold (leb c.rate (only s).limit) (leb c.rate (only s).bound) (leb c.rate s.site) b.0 in
      let t = five_hold (eqb c.active_time (c.time + (only s).tail)) (leb c.order_minute s.clock) (leb c.order_minute c.start) (ltb s.clock (c.start + c.active_time)) (leb (end_of c) (s.clock + 1445 * (s.next - 1))) b.1 in
      record {
        line = record { low = between_low 1 c.line 3 f.0; high = between_high 1 c.line 3 f.0 };
        time_low = between_low 1 c.time 1440 f.1;
        time_high = between_high 1 c.time 1440 f.1;
        due_high = leb-true c.due 2000000 f.2;
        rate = record { low = between_low 1 c.rate 2 f.3; high = between_high 1 c.rate 2 f.3 };
        within_limit = leb-true c.rate (only s).limit r.0;
        within_bound = leb-true c.rate (only s).bound r.1;
        within_site_lem = leb-true c.rate s.site r.2;
        active = eqb-true c.active_time (c.time + (only s).tail) t.0;
        ordered = leb-true c.order_minute s.clock t.1;
        not_early = leb-true c.order_minute c.start t.2;
        unfinished = ltb-true s.clock (c.start + c.active_time) t.3;
        end_high = leb-true (end_of c) (s.clock + 1445 * (s.next - 1)) t.4;
      }

  pub charge_passes : RightCharge → charge_right s c ≡ true
  unfolding charge_right fields_ranged rate_right times_right
  charge_passes r =
      rw (
        is_between 1 c.line 3 r.line.low r.line.high,
        is_between 1 c.time 1440 r.time_low r.time_high,
        le-leb c.due 2000000 r.due_high,
        is_between 1 c.rate 2 r.rate.low r.rate.high,
        le-leb c.rate (only s).limit r.within_limit,
        le-leb c.rate (only s).bound r.within_bound,
        le-leb c.rate s.site r.within_site_lem,
        eq-eqb c.active_time (c.time + (only s).tail) r.active,
        le-leb c.order_minute s.clock r.ordered,
        le-leb c.order_minute c.start r.not_early,
        lt-ltb s.clock (c.start + c.active_time) r.unfinished,
        le-leb (end_of c) (s.clock + 1445 * (s.next - 1)) r.end_high,
      )
