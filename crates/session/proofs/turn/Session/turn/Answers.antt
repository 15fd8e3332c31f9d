-- `session::turn` meets its contract, for each of the ways in which a turn ends: the input has ended, there is no more room, or bytes are wanted.
use mathlib.Core.Path.{◌≡◌, sym, ap, ◌∙◌}
use Prim.Native.Nat.{ℕ}
use native.Mathlib.Omega.{arith}
use borrow.Author.Rules.{rules}
use Rattle.session.specs.declared.turn.Wants.{Wants}
use lib.ListN.{length}
use Rattle.session.proofs.Turning.{all, part, turned_last, turned_on}
use Rattle.session.proofs.turn.Session.turn.Goals.{then-as_bytes-gt-FULL, else-as_bytes-gt-FULL}
use Rattle.session.proofs.turn.Session.turn.Goals as goal

pub returns-then-input_ends : goal.returns-then-input_ends
returns-then-input_ends g c =
    turned_last c.args.self.now c.args.count c.args.buffers.now.block (sym c.input_ends.ensures ∙ c.if-input_ends.true) c.answer_last.ensures.answer c.answer_last.ensures.none_held

pub keep-requires : goal.keep-requires
keep-requires g c =
    let answers = c.answer_requests-from.ensures in (
      search rules,
      elim c.if-as_bytes-gt-FULL.branch [
        | then-as_bytes-gt-FULL w ↦
            omega (arith, ap (λ (x : ℕ × Wants). x.0) w.to-is, ap length c.as_bytes-filled.ensures.bytes, ap length answers.block_stays, answers.answers.within)
        | else-as_bytes-gt-FULL w ↦
            omega (arith, ap (λ (x : ℕ × Wants). x.0) w.to-is, ap length c.as_bytes-filled.ensures.bytes, w.kept_to.ensures.low, w.kept_to.ensures.high)
      ],
    )

pub returns : goal.returns
returns g c =
    let answers = c.answer_requests-from.ensures in
    let filled : length c.as_bytes-filled.result.now ≡ length c.args.buffers.now.block = ap length (c.as_bytes-filled.ensures.bytes ∙ answers.block_stays) in
    turned_on c.args.self.now c.args.count c.args.buffers.now.block (sym c.input_ends.ensures ∙ c.if-input_ends.false) answers.answers answers.stops
    (elim c.if-as_bytes-gt-FULL.branch [
      | then-as_bytes-gt-FULL w ↦
          all (omega (arith, w.if-as_bytes-gt-FULL.true, ap length c.as_bytes.ensures.bytes)) (ap (λ (x : ℕ × Wants). x.0) w.to-is ∙ filled) (ap (λ (x : ℕ × Wants). x.1) w.to-is)
      | else-as_bytes-gt-FULL w ↦
          part (omega (arith, w.if-as_bytes-gt-FULL.false, ap length c.as_bytes.ensures.bytes)) (rw (ap (λ (x : ℕ × Wants). x.0) w.to-is, ← filled) w.kept_to.ensures) (ap (λ (x : ℕ × Wants). x.1) w.to-is)
    ])
    (rw answers.block_stays at c.keep.ensures)
