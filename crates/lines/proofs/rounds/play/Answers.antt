-- A round is that of the rules, whatever caps the lists of minutes stand for.
use Rattle.std.proofs.Common.{rules}
use Rattle.lines.proofs.Ending.{is_none}
use Rattle.lines.proofs.Playing.{round_formed, plays_balanced, round_comparable, ends_asked, lowers_asked}
use Rattle.lines.proofs.rounds.play.Goals as goal

pub first_unbalanced-requires : goal.first_unbalanced-requires
first_unbalanced-requires g c = rw c.steps.ensures (round_formed c.requires.0 c.place_lines-by_place.ensures)

pub returns-in_default : goal.returns-in_default
returns-in_default g c =
    plays_balanced c.requires.0 c.place_lines-by_place.ensures _ (rw c.steps.ensures at c.first_unbalanced.ensures.rule) (is_none _ c.in_default.not-Some) c.waiting_starts-starts.ensures (search rules)

pub unbalanced_in-requires : goal.unbalanced_in-requires
unbalanced_in-requires g c =
    rw (c.steps-2.ensures, c.steps-3.ensures)
    (round_comparable c.requires.0 c.place_lines-by_place.ensures _ (rw c.steps.ensures at c.first_unbalanced.ensures.rule) c.in-Some.is c.requires.1)

pub returns-in-Some-unbalanced_in : goal.returns-in-Some-unbalanced_in
returns-in-Some-unbalanced_in g c =
    lowers_asked c.requires.0 c.place_lines-by_place.ensures _ (rw c.steps.ensures at c.first_unbalanced.ensures.rule) c.in-Some.is c.requires.1
    (rw (c.in-Some-unbalanced_in.is, c.steps-2.ensures, c.steps-3.ensures) at c.unbalanced_in.ensures)

pub returns-in-None : goal.returns-in-None
returns-in-None g c =
    ends_asked c.requires.0 c.place_lines-by_place.ensures _ (rw c.steps.ensures at c.first_unbalanced.ensures.rule) c.in-Some.is c.requires.1
    (rw (c.in-None.is, c.steps-2.ensures, c.steps-3.ensures) at c.unbalanced_in.ensures)
