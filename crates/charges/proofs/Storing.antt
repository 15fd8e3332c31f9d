-- No charge, and one charge more: what the eight arrays hold then.
use mathlib.Core.Path.{◌≡◌, refl, sym, ◌∙◌}
use Prim.Native.Nat.{ℕ, zero, suc, ◌+◌, ◌≤◌, ◌<◌}
use mathlib.Core.List.{List, [], ◌∷◌, ◌++◌}
use native.Mathlib.Omega.{arith}
use lib.ListN.{length, get_or, set, replicate, length-set}
use lib.Seq.{get_or-set_same, get_or-set_other}
use Rattle.rules.specs.Site.{places}
use Rattle.rules.specs.Charge.{Charge}
use Rattle.rules.proofs.Lists.{tabulate_same, tabulate_next}
use Rattle.charges.specs.declared.Charges.{Charges}
use Rattle.charges.specs.Arrays.{Column, tickets, lines, order_minutes, times, active_times, dues, starts, rates, column_of, value_of, charge, charge_at, charges_of, Filled, Columns, Holds}

-- Charges by their values

charge_same : (x y : Charge) → ((k : Column) → value_of x k ≡ value_of y k) → x ≡ y
charge_same x y h = whole
  where
    whole :
        charge x.ticket x.line x.order_minute x.time x.active_time x.due x.start x.rate
        ≡ charge y.ticket y.line y.order_minute y.time y.active_time y.due y.start y.rate
    whole = cc (h tickets, h lines, h order_minutes, h times, h active_times, h dues, h starts, h rates)

pub value_at : (c : Charges) (i : ℕ) (k : Column) → value_of (charge_at c i) k ≡ get_or (column_of c k) i 0
value_at c i tickets = refl
value_at c i lines = refl
value_at c i order_minutes = refl
value_at c i times = refl
value_at c i active_times = refl
value_at c i dues = refl
value_at c i starts = refl
value_at c i rates = refl

-- No charge

pub zeros : (n i : ℕ) → ◌≡◌ {A = ℕ} (get_or (replicate n 0) i 0) 0
zeros zero i = refl
zeros (suc n) zero = refl
zeros (suc n) (suc i) = zeros n i

abbrev pub empty : 0 ≤ places → Charges
empty few =
    record {
      held = 0;
      tickets = replicate places 0;
      lines = replicate places 0;
      order_minutes = replicate places 0;
      times = replicate places 0;
      active_times = replicate places 0;
      dues = replicate places 0;
      starts = replicate places 0;
      rates = replicate places 0;
      few = few;
    }

column_empty : (few : 0 ≤ places) (k : Column) → column_of (empty few) k ≡ replicate places 0
column_empty few tickets = refl
column_empty few lines = refl
column_empty few order_minutes = refl
column_empty few times = refl
column_empty few active_times = refl
column_empty few dues = refl
column_empty few starts = refl
column_empty few rates = refl

-- no place is used
pub filled_none : Filled 0 (replicate places 0)
filled_none = record { full = refl; clear = λ i h. zeros places i }

pub holds_none : (few : 0 ≤ places) → Holds [] (empty few)
holds_none few = record { charges = refl; columns = record { filled = λ k. rw (column_empty few k) filled_none } }

-- One charge more

abbrev pub put : (c : Charges) → Charge → c.held + 1 ≤ places → Charges
put c x few =
    record {
      held = c.held + 1;
      tickets = set c.tickets c.held x.ticket;
      lines = set c.lines c.held x.line;
      order_minutes = set c.order_minutes c.held x.order_minute;
      times = set c.times c.held x.time;
      active_times = set c.active_times c.held x.active_time;
      dues = set c.dues c.held x.due;
      starts = set c.starts c.held x.start;
      rates = set c.rates c.held x.rate;
      few = few;
    }

column_put :
    (c : Charges) (x : Charge) (few : c.held + 1 ≤ places) (k : Column)
    → column_of (put c x few) k ≡ set (column_of c k) c.held (value_of x k)
column_put c x few tickets = refl
column_put c x few lines = refl
column_put c x few order_minutes = refl
column_put c x few times = refl
column_put c x few active_times = refl
column_put c x few dues = refl
column_put c x few starts = refl
column_put c x few rates = refl

pub filled_set : (n v : ℕ) (xs : List ℕ) → Filled n xs → Filled (n + 1) (set xs n v)
filled_set n v xs f =
    record {
      full = rw length-set f.full;
      clear = λ i h. get_or-set_other xs n i v 0 (λ e. omega arith) ∙ f.clear i (omega arith);
    }

module _ (c : Charges) (x : Charge) (full : (k : Column) → length (column_of c k) ≡ places) (few : c.held + 1 ≤ places) where
  abbrev next : Charges
  next = put c x few

  put-new : charge_at next c.held ≡ x
  put-new =
      charge_same (charge_at next c.held) x
      (λ k.
      value_at next c.held k
      ∙ rw (column_put c x few k) (get_or-set_same (column_of c k) c.held (value_of x k) 0 (omega (arith, full k))))

  put-old : (j : ℕ) → j < c.held → charge_at next j ≡ charge_at c j
  put-old j h =
      charge_same (charge_at next j) (charge_at c j)
      (λ k.
      value_at next j k
      ∙ (rw (column_put c x few k) (get_or-set_other (column_of c k) c.held j (value_of x k) 0 (λ e. omega arith)))
      ∙ sym (value_at c j k))

  pub charges_put : charges_of next ≡ charges_of c ++ (x ∷ [])
  charges_put =
      rw (
        tabulate_next (charge_at next) c.held,
        put-new,
        tabulate_same (charge_at next) (charge_at c) c.held 0 (λ j l m. put-old j (omega arith)),
      )

pub columns_put : (c : Charges) (x : Charge) (few : c.held + 1 ≤ places) → Columns c → Columns (put c x few)
columns_put c x few w =
    record { filled = λ k. rw (column_put c x few k) (filled_set c.held (value_of x k) (column_of c k) (w.filled k)) }
