-- The feeder that holds a ticket.
use Rattle.std.specs.Prelude.{◌≡◌, ℕ, ◌<◌, eqb, Option, Some, None}
use Rattle.rules.specs.Basics.{at, nothing, first}
use Rattle.charges.specs.Arrays.{charge_at}
use Rattle.station.specs.declared.Station.{Station}
use Rattle.station.specs.declared.holder.Holder.{Holder}
use Rattle.station.specs.View.{feeder_at}

-- the feeder at place i holds no charge with the ticket
abbrev pub Lacks : Station → ℕ → ℕ → Type 0
Lacks s ticket i = first (λ k. eqb (charge_at (feeder_at s i).charges k).ticket ticket) (feeder_at s i).charges.held 0 ≡ nothing

-- the feeder at place f is the first that holds it, at place k
pub record HeldAt (s : Station) (ticket f k : ℕ) : Type 0 where
  pub inside : f < s.count
  pub found : first (λ j. eqb (charge_at (feeder_at s f).charges j).ticket ticket) (feeder_at s f).charges.held 0 ≡ at k
  pub before : (i : ℕ) → i < f → Lacks s ticket i

-- that feeder, or none holds it
abbrev pub HolderOf : Station → ℕ → Option Holder → Type 0
HolderOf s ticket (Some h) = HeldAt s ticket h.feeder h.place
HolderOf s ticket None = (i : ℕ) → i < s.count → Lacks s ticket i
