-- A site: one to four feeders under one clock, one ticket row and the site's limit W (docs/RULES.md, section 2).
use Rattle.std.specs.Prelude.{ℕ, suc, ◌-◌, cond, List, [], ◌∷◌, ◌++◌, map, eqb, get_or, set}
use Rattle.rules.specs.Load.{elsewhere, Limits, limits}
use Rattle.rules.specs.Charge.{Charge, loads_of}

-- "has 180 places from the moment it is opened": "each with its own N, c, r and 180 places"
abbrev pub places : ℕ
places = 180

-- "1 to 4 feeders, each with its own N, c, r": a limit N, a percentage c, a bound D, r, the `tail`, which is how many minutes a
-- point draws after its end, and its charges, in ticket order
pub record Feeder : Type 0 where
  pub limit : ℕ
  pub percent : ℕ
  pub bound : ℕ
  pub tail : ℕ
  pub charges : List Charge

-- "under a site limit W on the weighted count of all lines in a minute. One clock and one ticket row serve the site"
pub record State : Type 0 where
  pub feeders : List Feeder
  pub site : ℕ
  pub clock : ℕ
  pub next : ℕ

abbrev pub no_feeder : Feeder
no_feeder = record { limit = 0; percent = 0; bound = 0; tail = 0; charges = [] }

-- a feeder by its number: "from 1"
abbrev pub feeder_of : State → ℕ → Feeder
feeder_of s f = get_or s.feeders (f - 1) no_feeder

abbrev pub charges_on : State → ℕ → List Charge
charges_on s f = (feeder_of s f).charges

-- the charges of some feeders, one feeder after another
abbrev pub joined : List Feeder → List Charge
joined [] = []
joined (g ∷ gs) = g.charges ++ joined gs

-- all charges that the site holds
abbrev pub site_charges : State → List Charge
site_charges s = joined s.feeders

-- the charges of the feeders but number f, the first of them being number i
abbrev pub others_from : ℕ → ℕ → List Feeder → List Charge
others_from f i [] = []
others_from f i (g ∷ gs) = cond (eqb i f) (others_from f (suc i) gs) (g.charges ++ others_from f (suc i) gs)

abbrev pub others_of : State → ℕ → List Charge
others_of s f = others_from f 1 s.feeders

-- what a plan of feeder f has to keep to
abbrev pub limits_of : State → ℕ → Limits
limits_of s f = limits (feeder_of s f).limit (feeder_of s f).bound s.site (map elsewhere (loads_of (others_of s f)))

-- a feeder with other charges
abbrev pub with_charges : Feeder → List Charge → Feeder
with_charges g cs =
    record { limit = g.limit; percent = g.percent; bound = g.bound; tail = g.tail; charges = cs }

-- the site with other charges on feeder f, and the next ticket
abbrev pub holding : State → ℕ → List Charge → ℕ → State
holding s f cs next =
    record {
      feeders = set s.feeders (f - 1) (with_charges (feeder_of s f) cs);
      site = s.site;
      clock = s.clock;
      next = next;
    }
