-- The requests of a block that are answered, and the text that answers them.
use mathlib.Core.Path.{◌≡◌, refl, sym, ap, ◌∙◌}
use mathlib.Core.List.{List, [], ◌∷◌, ◌++◌}
use Prim.Native.Nat.{ℕ, suc, ◌+◌, ◌-◌, ◌≤◌}
use native.Mathlib.Omega.{arith}
use lib.ListN.{length, take, drop, length-append}
use lib.Seq.{take-length, drop-drop}
use Rattle.rules.specs.Site.{State}
use Rattle.text.specs.Parts.{split, FirstPart}
use Rattle.station.specs.declared.Station.{Station}
use Rattle.station.specs.View.{view}
use Rattle.reply.specs.Reply.{Replied, answered}
use Rattle.session.specs.Session.{first, served}
use Rattle.session.specs.Turns.{after, requests_after, Answers}
use Rattle.session.proofs.Parting.{split_some}
use Rattle.session.proofs.Sessions.{served_request, first-first}

-- What is left of a block

pub record Left (block left : List ℕ) : Type 0 where
  pub short : length left ≤ length block
  pub rest : left ≡ after block (length block - length left)

pub left_whole : (block : List ℕ) → Left block block
left_whole block =
    let none : length block - length block ≡ 0 = omega arith in
    record { short = omega arith; rest = rw none (sym (take-length block)) }

drop_behind : (request rest : List ℕ) (b : ℕ) → drop (suc (length request)) (request ++ (b ∷ rest)) ≡ rest
drop_behind [] rest b = refl
drop_behind (x ∷ xs) rest b = drop_behind xs rest b

module _ {block left request rest : List ℕ} (l : Left block left) (p : FirstPart 10 left request rest) where
  longer : length left ≡ length request + suc (length rest)
  longer = ap length p.whole ∙ length-append request (10 ∷ rest)

  behind : rest ≡ drop (suc (length request)) left
  behind = rw p.whole (sym (drop_behind request rest 10))

  pub left_less : Left block rest
  left_less =
      let from : ℕ = length block - length left in
      let same : from + suc (length request) ≡ length block - length rest = omega (arith, longer, l.short) in
      record {
        short = omega (arith, longer, l.short);
        rest =
            behind
            ∙ ap (drop (suc (length request))) l.rest
            ∙ drop-drop (suc (length request)) from (take (length block) block)
            ∙ ap (λ (n : ℕ). after block n) same;
      }

  parts_left : requests_after block (length block - length left) ≡ request ∷ requests_after block (length block - length rest)
  parts_left = ap (split 10) (sym l.rest) ∙ p.parts ∙ ap (λ (x : List ℕ). request ∷ split 10 x) left_less.rest

-- Requests that are answered

pub answers_more :
    {s : State} {block left request rest : List ℕ} {station next : Station} {out out' : List ℕ}
    → Answers s block station (length block - length left) out → Left block left → FirstPart 10 left request rest
    → Replied (answered (view station) request) next out out'
    → Answers s block next (length block - length rest) out'
answers_more {block = block} {request = request} {rest} {station} {next} {out} {out'} a l p r =
    let behind : ℕ = length block - length rest in
    let t = answered (view station) request in
    record {
      replies_are =
          a.replies_are
          ∙ ap (λ (x : List (List ℕ)). first out (served (view station) x)) (parts_left l p)
          ∙ ap (first out) (served_request (view station) request (requests_after block behind) (split_some 10 (after block behind)))
          ∙ first-first out t.text (served t.state (requests_after block behind))
          ∙ ap (λ (x : List ℕ). first x (served t.state (requests_after block behind))) (sym r.printed)
          ∙ ap (λ (x : State). first out' (served x (requests_after block behind))) (sym r.state_is);
      valid = r.valid;
      within = omega arith;
      some_answered = λ _. omega (arith, longer l p, l.short);
    }
