-- What charges draw, as four columns: of one feeder, or of several, one feeder after another.
use Rattle.std.specs.Prelude.{ℕ, ◌*◌, Bool, cond, List, map, get_or, length}
use Rattle.rules.specs.Basics.{tabulate}
use Rattle.rules.specs.Load.{Load, draw, load_from, elsewhere}
use Rattle.rules.specs.Site.{places}
use Rattle.charges.specs.declared.loads.Loads.{Loads}

-- "1 to 4 feeders, each with its own .. 180 places"
abbrev pub site_places : ℕ
site_places = 4 * places

abbrev pub load_in : List ℕ → List ℕ → List ℕ → List ℕ → ℕ → Load
load_in lines active_times starts rates i =
    load_from (draw (get_or lines i 0) (get_or active_times i 0) (get_or rates i 0)) (get_or starts i 0)

abbrev pub loads_in : ℕ → List ℕ → List ℕ → List ℕ → List ℕ → List Load
loads_in held lines active_times starts rates = tabulate (load_in lines active_times starts rates) held 0

-- what is drawn by the charges whose columns are lent
abbrev pub loads_lent : Loads → List Load
loads_lent l = loads_in (length l.starts.now) l.lines.now l.active_times.now l.starts.now l.rates.now

-- what a feeder's charges draw as itself sees it, and as the others do
abbrev pub seen_from : Bool → List Load → List Load
seen_from own xs = cond own xs (map elsewhere xs)
