-- The first condition that any feeder meets, and that none meets those before it.
use mathlib.Core.Path.{refl}
use Rattle.std.proofs.Common.{rules, tests}
use Rattle.std.proofs.lemmas.Iterator.{YieldsList-from_slice}
use Rattle.std.proofs.lemmas.Iterator.Search.{any_from_yields_List}
use Rattle.station.proofs.FeederRefusals.{limit_out, percent_out, bound_out, tail_out, any_meets}
use Rattle.station.proofs.open.feeders_refusal.Goals as goal

pub returns-then-any : goal.returns-then-any
returns-then-any c =
    rw (any_meets limit_out c.args.settings.now (any_from_yields_List _ _ _ _ c.any.ensures.ran (YieldsList-from_slice c.args.settings.now cc) (λ x b q k. search (rules, tests))) c.if-any.true) refl

pub returns-then-any-2 : goal.returns-then-any-2
returns-then-any-2 c =
    rw (
      any_meets limit_out c.args.settings.now (any_from_yields_List _ _ _ _ c.any.ensures.ran (YieldsList-from_slice c.args.settings.now cc) (λ x b q k. search (rules, tests))) c.if-any.false,
      any_meets percent_out c.args.settings.now (any_from_yields_List _ _ _ _ c.any-2.ensures.ran (YieldsList-from_slice c.args.settings.now cc) (λ x b q k. search (rules, tests))) c.if-any-2.true,
    ) refl

pub returns-then-any-3 : goal.returns-then-any-3
returns-then-any-3 c =
    rw (
      any_meets limit_out c.args.settings.now (any_from_yields_List _ _ _ _ c.any.ensures.ran (YieldsList-from_slice c.args.settings.now cc) (λ x b q k. search (rules, tests))) c.if-any.false,
      any_meets percent_out c.args.settings.now (any_from_yields_List _ _ _ _ c.any-2.ensures.ran (YieldsList-from_slice c.args.settings.now cc) (λ x b q k. search (rules, tests))) c.if-any-2.false,
      any_meets bound_out c.args.settings.now (any_from_yields_List _ _ _ _ c.any-3.ensures.ran (YieldsList-from_slice c.args.settings.now cc) (λ x b q k. search (rules, tests))) c.if-any-3.true,
    ) refl

pub returns-then-any-4 : goal.returns-then-any-4
returns-then-any-4 c =
    rw (
      any_meets limit_out c.args.settings.now (any_from_yields_List _ _ _ _ c.any.ensures.ran (YieldsList-from_slice c.args.settings.now cc) (λ x b q k. search (rules, tests))) c.if-any.false,
      any_meets percent_out c.args.settings.now (any_from_yields_List _ _ _ _ c.any-2.ensures.ran (YieldsList-from_slice c.args.settings.now cc) (λ x b q k. search (rules, tests))) c.if-any-2.false,
      any_meets bound_out c.args.settings.now (any_from_yields_List _ _ _ _ c.any-3.ensures.ran (YieldsList-from_slice c.args.settings.now cc) (λ x b q k. search (rules, tests))) c.if-any-3.false,
      any_meets tail_out c.args.settings.now (any_from_yields_List _ _ _ _ c.any-4.ensures.ran (YieldsList-from_slice c.args.settings.now cc) (λ x b q k. search (rules, tests))) c.if-any-4.true,
    ) refl

pub returns : goal.returns
returns c =
    rw (
      any_meets limit_out c.args.settings.now (any_from_yields_List _ _ _ _ c.any.ensures.ran (YieldsList-from_slice c.args.settings.now cc) (λ x b q k. search (rules, tests))) c.if-any.false,
      any_meets percent_out c.args.settings.now (any_from_yields_List _ _ _ _ c.any-2.ensures.ran (YieldsList-from_slice c.args.settings.now cc) (λ x b q k. search (rules, tests))) c.if-any-2.false,
      any_meets bound_out c.args.settings.now (any_from_yields_List _ _ _ _ c.any-3.ensures.ran (YieldsList-from_slice c.args.settings.now cc) (λ x b q k. search (rules, tests))) c.if-any-3.false,
      any_meets tail_out c.args.settings.now (any_from_yields_List _ _ _ _ c.any-4.ensures.ran (YieldsList-from_slice c.args.settings.now cc) (λ x b q k. search (rules, tests))) c.if-any-4.false,
    ) refl
