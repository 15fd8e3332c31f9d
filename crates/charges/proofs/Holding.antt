-- The list of charges determines the arrays.
use mathlib.Core.Logic.{◌⊎◌, inl, inr}
use mathlib.Core.Path.{◌≡◌, ap, sym, ◌∙◌, subst}
use Prim.Native.Nat.{ℕ, ◌+◌, ◌≤◌, ◌<◌}
use native.Mathlib.Omega.{arith}
use lib.ListN.{length, get_or}
use Rattle.std.proofs.Math.Bridge.{le_prop}
use lib.Seq.{ext_get_or}
use Rattle.rules.specs.Site.{places}
use Rattle.rules.specs.Charge.{Charge}
use Rattle.rules.proofs.Ranges.{below_or_not}
use Rattle.rules.proofs.Lists.{length_tabulate, get_d_tabulate}
use Rattle.charges.specs.declared.Charges.{Charges}
use Rattle.charges.specs.Arrays.{Column, tickets, lines, order_minutes, times, active_times, dues, starts, rates, column_of, value_of, charge, charge_at, charges_of, Columns}
use Rattle.charges.proofs.Storing.{value_at}

pub charges_same : (c d : Charges) → Columns c → Columns d → charges_of c ≡ charges_of d → c ≡ d
charges_same c d v w e = whole
  where
    as_many : c.held ≡ d.held
    as_many = sym (length_tabulate (charge_at c) c.held 0) ∙ ap length e ∙ length_tabulate (charge_at d) d.held 0

    empty : Charge
    empty = charge 0 0 0 0 0 0 0 0

    from : (i : ℕ) → 0 + i ≡ i
    from i = omega arith

    at_place : (i : ℕ) → i < c.held → charge_at c i ≡ charge_at d i
    at_place i h =
        ap (charge_at c) (sym (from i))
        ∙ sym (get_d_tabulate (charge_at c) c.held 0 i empty h)
        ∙ ap (λ l. get_or l i empty) e
        ∙ get_d_tabulate (charge_at d) d.held 0 i empty (omega (arith, as_many))
        ∙ ap (charge_at d) (from i)

    column : (k : Column) → column_of c k ≡ column_of d k
    column k =
        ext_get_or 0 (column_of c k) (column_of d k) ((v.filled k).full ∙ sym (w.filled k).full) (λ i h. go i (below_or_not i c.held))
      where
        go : (i : ℕ) → (i < c.held) ⊎ (c.held ≤ i) → get_or (column_of c k) i 0 ≡ get_or (column_of d k) i 0
        go i (inl l) = sym (value_at c i k) ∙ ap (λ x. value_of x k) (at_place i l) ∙ value_at d i k
        go i (inr l) = (v.filled k).clear i l ∙ sym ((w.filled k).clear i (omega (arith, as_many)))

    counted : (n : ℕ) → n ≤ places → Charges
    counted n few =
        record {
          held = n;
          tickets = c.tickets;
          lines = c.lines;
          order_minutes = c.order_minutes;
          times = c.times;
          active_times = c.active_times;
          dues = c.dues;
          starts = c.starts;
          rates = c.rates;
          few = few;
        }

    -- that they are few has one proof at most
    counted_same : (n : ℕ) → c.held ≡ n → (few : n ≤ places) → c ≡ counted n few
    counted_same n e = subst (λ m. (few : m ≤ places) → c ≡ counted m few) e (λ few. ap (counted c.held) (le_prop c.few few))

    whole : c ≡ d
    whole =
        counted_same d.held as_many d.few
        ∙ rw (column tickets, column lines, column order_minutes, column times, column active_times, column dues, column starts, column rates)
