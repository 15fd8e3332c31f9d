-- From the requests of a block to a turn: the input has ended, the buffer is full, or more input is wanted.
use mathlib.Core.Path.{◌≡◌, refl, sym, ap, ◌∙◌}
use mathlib.Core.Bool.{Bool, true, false}
use mathlib.Core.List.{List, [], ◌∷◌}
use mathlib.Core.Logic.{⊎_elim}
use Prim.Native.Nat.{ℕ, ◌+◌, ◌≤◌, ◌<◌}
use native.Mathlib.Omega.{arith}
use lib.ListN.{length, take, drop, length-take}
use lib.Seq.{slice, take_all, take-take, length-slice}
use Rattle.std.proofs.lemmas.List.{drop-take}
use Rattle.rules.proofs.Ranges.{below_or_not}
use Rattle.text.specs.Parts.{split}
use Rattle.station.specs.declared.Station.{Station}
use Rattle.station.specs.View.{view}
use Rattle.reply.specs.Reply.{answered, Replied}
use Rattle.session.specs.Session.{first, enough, served}
use Rattle.session.specs.declared.turn.Wants.{Wants}
use Rattle.session.specs.declared.turn.Wants.TheVariants.{Bytes, Room as Space, Nothing}
use Rattle.session.specs.declared.turn.Session.{Session}
use Rattle.session.specs.Turns.{full, after, Answers, Stops, KeptTo, ends, Turned}
use Rattle.session.proofs.Parting.{take_whole}

pub not_both : {A : Type 0} {b : Bool} → b ≡ true → b ≡ false → A
not_both p q = let z : true ≡ false = sym p ∙ q in let n : ◌≡◌ {A = ℕ} 0 1 = cc in absurd (omega arith)

-- a part of a part
take_slice : (from k to : ℕ) (l : List ℕ) → from + k ≤ to → take k (slice from to l) ≡ slice from (from + k) l
take_slice from k to l h = sym (drop-take from k (take to l)) ∙ ap (drop from) (take-take (from + k) to l h)

-- Up to where the bytes that are left stay, and what is wanted then: all of them stay where there is no more room, and else what
-- is kept of the last request.
pub data Stays (printed from filled to : ℕ) (wants : Wants) : Type 0 where
  all : full < printed → to ≡ filled → wants ≡ Space → Stays printed from filled to wants
  part : printed ≤ full → KeptTo from filled to → wants ≡ Bytes → Stays printed from filled to wants

pub kept_enough : (b : List ℕ) (from filled to : ℕ) → filled ≤ length b → KeptTo from filled to → slice from to b ≡ enough (slice from filled b)
kept_enough b from filled to h k =
    ⊎_elim
    (λ l. let e : to ≡ from + 4097 = k.whole l in ap (λ (n : ℕ). slice from n b) e ∙ sym (take_slice from 4097 filled b (omega (arith, k.high))))
    (λ g. let e : to ≡ filled = omega (arith, k.high) in
    ap (λ (n : ℕ). slice from n b) e ∙ sym (take_all 4097 (slice from filled b) (omega (arith, length-slice from filled b h, k.few))))
    (below_or_not to filled)

module _ (s : Session) (count : ℕ) (block : List ℕ) {station : Station} {from : ℕ} {out : List ℕ} (e : ends s.wants count ≡ false)
    (a : Answers (view s.station) block station from out) where
  -- the buffer is full
  pub turned_full :
      {held : List ℕ} → full < length out → held ≡ after block from
      → Turned s count block (record { station = station; wants = Space }) held out
  turned_full {held} f k =
      record {
        goes_on = λ _. a.replies_are ∙ ap (λ (x : List ℕ). first out (served (view station) (split 10 x))) (sym k);
        has_ended = λ g. not_both g e;
        over_so = sym e;
        standing = omega (arith, ap length k, length-slice from (length block) block (omega arith), a.some_answered (omega arith), a.within);
        valid = a.valid;
      }

  -- no request is left that has ended
  pub turned_waiting :
      {to : ℕ} {held : List ℕ} → length out ≤ full → Stops block from out → KeptTo from (length block) to → held ≡ slice from to block
      → Turned s count block (record { station = station; wants = Bytes }) held out
  unfolding served
  turned_waiting {to} {held} f st kt c =
      let request : List ℕ = after block from in
      let k : held ≡ enough request = c ∙ kept_enough block from (length block) to (omega arith) kt in
      let w : split 10 request ≡ request ∷ [] = st.none_left f in
      let kw : split 10 held ≡ held ∷ [] = rw k (take_whole 4097 request w) in
      let few : enough held ≡ held = take_all 4097 held (omega (arith, ap length k, length-take 4097 request)) in
      record {
        goes_on =
            λ _. a.replies_are
            ∙ ap (λ (x : List (List ℕ)). first out (served (view station) x)) w
            ∙ ap (λ (x : List ℕ). first out (record { state = view station; kept = x; text = [] })) (sym k ∙ sym few)
            ∙ sym (ap (λ (x : List (List ℕ)). first out (served (view station) x)) kw);
        has_ended = λ g. not_both g e;
        over_so = sym e;
        standing = (kw, omega (arith, ap length k, length-take 4097 request));
        valid = a.valid;
      }

  -- either
  pub turned_on :
      {to : ℕ} {wants : Wants} {held : List ℕ} → Stops block from out → Stays (length out) from (length block) to wants
      → held ≡ slice from to block
      → Turned s count block (record { station = station; wants = wants }) held out
  turned_on st (all f e w) c = rw w (turned_full f (rw e at c))
  turned_on st (part f k w) c = rw w (turned_waiting f st k c)

-- the input has ended
pub turned_last :
    (s : Session) (count : ℕ) (block : List ℕ) {station : Station} {held out : List ℕ}
    → ends s.wants count ≡ true → Replied (answered (view s.station) block) station [] out → held ≡ []
    → Turned s count block (record { station = station; wants = Nothing }) held out
turned_last s count block e p none =
    record {
      goes_on = λ g. not_both e g;
      has_ended = λ _. rw (p.state_is, p.printed) refl;
      over_so = sym e;
      standing = none;
      valid = p.valid;
    }
