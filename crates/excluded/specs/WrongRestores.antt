-- Wrong stations: restores that read another station than the one that was saved. They are those of a bus program, which "holds an
-- image, and each of its calls restores, acts and saves": each call meets the station as it is read back.
use Rattle.std.specs.Prelude.{suc, length}
use Rattle.rules.specs.Charge.{waiting_charges}
use Rattle.rules.specs.Site.{State, site_charges, with_charges}
use Rattle.rules.specs.Calls.{step}
use Rattle.guarantee.specs.Past.{Gives}
use Rattle.excluded.specs.Parts.{ticketing, clocking, feeders_by}

-- `reads` is what a restore gives for the image of a station
abbrev restored_by : (State → State) → Gives
restored_by reads s c = step (reads s) c

-- the charges that have begun are forgotten
abbrev pub begun_forgotten : Gives
begun_forgotten = restored_by (λ s. feeders_by (λ g. with_charges g (waiting_charges s.clock g.charges)) s)

-- the next ticket is told by how many are held, so that tickets are given again
abbrev pub tickets_given_again : Gives
tickets_given_again = restored_by (λ s. ticketing (suc (length (site_charges s))) s)

-- the clock begins at 0 again
abbrev pub clock_lost : Gives
clock_lost = restored_by (λ s. clocking 0 s)
