-- The history: all accepted orders as charges with their present starts, the dropped ones too, each with the feeder that it names.
use mathlib.Core.Path.{◌≡◌}
use Prim.Native.Nat.{ℕ, ◌+◌, ◌≤◌}
use mathlib.Core.Bool.{Bool}
use mathlib.Core.List.{List, ◌++◌, map}
use native.Mathlib.Omega.{arith}
use lib.Dec.{eqb}
use Rattle.rules.specs.Basics.{Each, keep}
use Rattle.rules.specs.Load.{IsLine}
use Rattle.rules.specs.Charge.{Charge, is_begun}
use Rattle.rules.specs.Site.{State, feeder_of}
use Rattle.rules.specs.Valid.{IsFeeder}
use Rattle.rules.proofs.Lists.{map-append, keep_append, keep_each}
use Rattle.guarantee.specs.Past.{Order, order_of}
use Rattle.guarantee.proofs.Each.{each_in, each_image}

pub record Booked : Type 0 where
  pub feeder : ℕ
  pub charge : Charge

abbrev pub booked : ℕ → Charge → Booked
booked f c = record { feeder = f; charge = c }

abbrev pub order_in : Booked → Order
order_in b = order_of b.feeder b.charge

abbrev pub orders_in : List Booked → List Order
orders_in bs = map order_in bs

abbrev pub charges_in : List Booked → List Charge
charges_in bs = map (λ b. b.charge) bs

abbrev pub is_on : ℕ → Booked → Bool
is_on f b = eqb b.feeder f

-- the charges of feeder f
abbrev pub booked_on : ℕ → List Booked → List Charge
booked_on f bs = charges_in (keep (is_on f) bs)

abbrev pub begun_in : ℕ → List Booked → List Booked
begun_in k bs = keep (λ b. is_begun k b.charge) bs

-- what holds of each at clock k; s is the site that the list of calls began with
pub record Fit (s : State) (k : ℕ) (b : Booked) : Type 0 where
  pub is_feeder_lem : IsFeeder s b.feeder
  pub line : IsLine b.charge.line
  pub lasts : 1 ≤ b.charge.time
  pub active : b.charge.active_time ≡ b.charge.time + (feeder_of s b.feeder).tail
  pub known : b.charge.order_minute ≤ k
  pub not_early : b.charge.order_minute ≤ b.charge.start

-- it draws in some minute
abbrev pub Lasts : Charge → Type 0
Lasts c = 1 ≤ c.active_time

-- Charges of the history

pub charges_each :
    {P : Booked → Type 0} (Q : Charge → Type 0)
    → ((b : Booked) → P b → Q b.charge)
    → (bs : List Booked)
    → Each P bs
    → Each Q (charges_in bs)
charges_each Q g bs e = each_image Q (λ (b : Booked). b.charge) bs (each_in g bs e)

pub on_each_lem :
    {P : Booked → Type 0} (Q : Charge → Type 0)
    → ((b : Booked) → P b → Q b.charge)
    → (f : ℕ) (bs : List Booked)
    → Each P bs
    → Each Q (booked_on f bs)
on_each_lem {P = P} Q g f bs e = charges_each Q g (keep (is_on f) bs) (keep_each P (is_on f) bs e)

pub fit_lasts : (s : State) (k : ℕ) (b : Booked) → Fit s k b → Lasts b.charge
fit_lasts s k b f = omega (arith, f.lasts, f.active)

pub on_append : (f : ℕ) (bs ds : List Booked) → booked_on f (bs ++ ds) ≡ booked_on f bs ++ booked_on f ds
on_append f bs ds =
    rw (keep_append (is_on f) bs ds, map-append (λ (b : Booked). b.charge) (keep (is_on f) bs) (keep (is_on f) ds))
