-- The four conditions of an opening's table that are about feeders.
use mathlib.Core.Path.{◌≡◌, refl, sym, ◌∙◌}
use mathlib.Core.Bool.{Bool, ◌||◌}
use mathlib.Core.List.{List, [], ◌∷◌, map}
use lib.Dec.{ltb, eqb}
use Rattle.std.specs.List.{list_any}
use Rattle.rules.specs.Basics.{some}
use Rattle.rules.specs.Calls as rules
use Rattle.rules.specs.Calls.{bound_of}
use Rattle.station.specs.declared.open.Settings.{Settings}
use Rattle.station.specs.Opened.{settings_of}

abbrev pub limit_out : rules.Settings → Bool
limit_out x = ltb x.limit 1 || ltb 60 x.limit

abbrev pub percent_out : rules.Settings → Bool
percent_out x = ltb 100 x.percent

abbrev pub bound_out : rules.Settings → Bool
bound_out x = eqb (bound_of x.limit x.percent) 0

abbrev pub tail_out : rules.Settings → Bool
tail_out x = ltb 5 x.tail

some_settings : (f : rules.Settings → Bool) (xs : List Settings) → some f (map settings_of xs) ≡ list_any (λ x. f (settings_of x)) xs
some_settings f [] = refl
some_settings f (x ∷ xs) = rw (some_settings f xs)

-- whether any feeder meets a condition
pub any_meets :
    (f : rules.Settings → Bool) (xs : List Settings) {r b : Bool} → r ≡ list_any (λ x. f (settings_of x)) xs → r ≡ b → some f (map settings_of xs) ≡ b
any_meets f xs e is = some_settings f xs ∙ sym e ∙ is
