-- Where each field's test is true exactly where the field holds, entries whose tests agree claim what is so.
use mathlib.Core.Path.{◌≡◌}
use mathlib.Core.Bool.{Bool, true}
use mathlib.Core.List.{List}
use Rattle.rules.specs.Basics.{Each}
use Rattle.excluded.specs.Same.{every}
use Rattle.excluded.specs.Breaks.{Entry, Exactly, agrees_by}
use Rattle.excluded.specs.LawsOfTests.{Tests}
use Rattle.excluded.proofs.Tests.{both_tests, every_tests, not_tests}

module _
    (Thing : Type 0) (Field : Type 0) (Holds : Thing → Field → Type 0) (test : Thing → Field → Bool)
    (right : (r : Thing) (f : Field) → Tests (test r f) (Holds r f))
  where
    agrees_tests : (e : Entry Thing Field) → Tests (agrees_by test e) (Exactly Thing Field Holds e)
    agrees_tests e =
        let both = both_tests (every_tests (λ f. not_tests (right e.thing f)) e.broken) (every_tests (right e.thing) e.kept) in
        ((λ q. record { breaks = (both.0 q).0; keeps = (both.0 q).1 }), (λ x. both.1 (x.breaks, x.keeps)))

    pub each_exactly :
        (es : List (Entry Thing Field)) → every (agrees_by test) es ≡ true → Each (Exactly Thing Field Holds) es
    each_exactly es e = (every_tests agrees_tests es).0 e
