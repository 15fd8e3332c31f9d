-- A record that is not right, or the plan by its own test.
use mathlib.Core.Path.{sym, ◌∙◌}
use Rattle.validity.proofs.Settling.{valid_fails, valid_told, all_profiled}
use Rattle.station.proofs.Held.{none_others}
use Rattle.validity.proofs.Alone.{alone_spacious}
use borrow.Author.Rules.{rules}
use Rattle.validity.proofs.is_valid.Goals as goal

pub returns-then-not-records_right : goal.returns-then-not-records_right
returns-then-not-records_right c = valid_fails _ c.requires _ c.records_right.ensures c.if-not-records_right.true

pub invariant_of-beside : goal.invariant_of-beside
invariant_of-beside c = record { others_fit = none_others _ c.none.ensures }

pub plan_sound-requires : goal.plan_sound-requires
plan_sound-requires c = (
  alone_spacious _ c.none.ensures,
  all_profiled _ c.requires (sym c.records_right.ensures ∙ c.if-not-records_right.false),
)

pub returns : goal.returns
returns c =
    valid_told _ c.requires _ _ _ _ _ _ _ c.records_right.ensures
    c.if-not-records_right.false c.plan_sound.ensures c.none.ensures (search rules) (search rules) (search rules) (search rules)
