-- What is known of the only feeder of a station before its charges are tested, and the tests of plain numbers.
use Rattle.std.specs.Prelude.{ℕ, ◌+◌, ◌<◌, ◌≡◌, Bool, true, cond, ◌&&◌, List, [], ◌∷◌, leb, ltb, length, get_or}
use Rattle.rules.specs.Site.{State}
use Rattle.rules.specs.Calls.{bound_of}
use Rattle.charges.specs.declared.Charges.{Charges}
use Rattle.charges.specs.Arrays.{charge_at, Columns}
use Rattle.station.specs.declared.only.One.{One}
use Rattle.station.specs.View.{feeder_view}
use Rattle.layout.specs.Validity.{settings_ranged}

-- "fields are in range and meet neither refusal 3"
unfoldable pub settings_valid : ℕ → ℕ → ℕ → ℕ → ℕ → ℕ → Bool
settings_valid limit percent tail clock next site =
    settings_ranged limit percent tail clock next site && leb 1 (bound_of limit percent)

-- the ticket of place q, or the next one behind the last
abbrev pub ticket_or_next : List ℕ → ℕ → ℕ → ℕ
ticket_or_next tickets next q = cond (ltb q (length tickets)) (get_or tickets q 0) next

unfoldable pub ticket_rises : List ℕ → ℕ → ℕ → Bool
ticket_rises tickets next q =
    leb 1 (ticket_or_next tickets next q) && ltb (ticket_or_next tickets next q) (ticket_or_next tickets next (q + 1))

-- One feeder, which is the only one of its station

abbrev pub held_by : One → Charges
held_by o = o.feeder.charges

-- the site of this feeder alone, which is the view of its station
abbrev pub single : One → State
single o = record { feeders = feeder_view o.feeder ∷ []; site = o.site; clock = o.clock; next = o.next }

-- a feeder whose settings passed their test; D and the minutes in which a charge is active, which no image holds, are worked out
pub record Settled (o : One) : Type 0 where
  pub columns : Columns (held_by o)
  pub settings : settings_valid o.feeder.limit o.feeder.percent o.feeder.tail o.clock o.next o.site ≡ true
  pub bound_is : o.feeder.bound ≡ bound_of o.feeder.limit o.feeder.percent
  pub active : (q : ℕ) → q < (held_by o).held → (charge_at (held_by o) q).active_time ≡ (charge_at (held_by o) q).time + o.feeder.tail
