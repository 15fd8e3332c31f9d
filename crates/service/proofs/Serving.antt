-- The ways that serving a call can go: refused by the restore or by the call's own table, or saved.
use mathlib.Core.Path.{◌≡◌, refl, sym, ap, ◌∙◌}
use Prim.Native.Nat.{ℕ, zero, suc, ◌<◌}
use native.Mathlib.Omega.{arith}
use mathlib.Core.List.{List, ◌∷◌}
use lib.ListN.{length}
use Rattle.std.specs.Prelude.{Result, Ok, Err}
use Rattle.rules.specs.Site.{State}
use Rattle.rules.specs.Calls.{Answer, Result as Given, answering, Call, lent, step, written}
use Rattle.refusals.specs.declared.Refusal.{Refusal}
use Rattle.refusals.specs.Refusals.{number_of, refusal_in}
use Rattle.layout.specs.Image.{image_of}
use Rattle.layout.specs.Reading.{RestoreResult, restoring}
use Rattle.layout.specs.Blocks.{differing}
use Rattle.layout.specs.Saving.{SaveResult}
use Rattle.layout.proofs.Calling.{feeders_stay}
use Rattle.layout.proofs.Refusing.{saving_written, accepted}
use Rattle.station.specs.declared.Station.{Station}
use Rattle.station.specs.declared.only.One.{One}
use Rattle.station.specs.View.{view, station_of}
use Rattle.station.specs.Given.{Gives}
use Rattle.station.proofs.Refusing.{number_some}
use Rattle.calls.specs.Applied as calls
use Rattle.calls.specs.Applied.{call_of, list_after}
use Rattle.calls.specs.declared.Answer.{Answer as Told}
use Rattle.calls.specs.declared.Call.{Call as Made}
use Rattle.calls.specs.declared.Call.TheVariants.{Preview, Commit, Move, Offer, ReplanLatest, ReplanLines, Enquire, Board, Withdraw}
use Rattle.image.specs.Answers.{blocks_in, saved, Restores, Saves}
use Rattle.service.specs.Left.{Left, telling, told, leaving, left, called, Whole}
use Rattle.service.specs.Named.{numbers_of, Tells, Serves}
use Rattle.service.specs.declared.numbers.Numbers.{Numbers}
use Rattle.service.proofs.Telling.{told_by, with_blocks, same_numbers}

-- the lists stay where the call is not made
pub list_kept : (call : Made) (numbers : List ℕ) {before after : List ℕ} → after ≡ before → list_after call numbers after ≡ lent (call_of call numbers before)
list_kept call numbers {before} e = rw e (go call)
  where
    go : (x : Made) → list_after x numbers before ≡ lent (call_of x numbers before)
    go (Preview order) = refl
    go (Commit order shown) = refl
    go (Move target) = refl
    go (Offer feeder) = refl
    go (ReplanLatest feeder) = refl
    go (ReplanLines feeder allowance) = refl
    go (Enquire ticket) = refl
    go Board = refl
    go (Withdraw ticket) = refl

-- A save

module _ {s : State} {image after : List ℕ} (one : length s.feeders ≡ 1) (w : Whole image) where
  module _ {r : Result ℕ Refusal} (h : Saves s image image after r) where
    saved_is : saved r after ≡ record { refusal = 0; blocks = differing image (image_of s); image = image_of s }
    saved_is = h.result ∙ saving_written s image image one w w

    pub saved_whole : after ≡ image_of s
    saved_whole = ap (λ (x : SaveResult). x.image) saved_is

    pub saved_blocks : blocks_in r ≡ differing image (image_of s)
    saved_blocks = ap (λ (x : SaveResult). x.blocks) saved_is

-- A call

-- a refusal that comes before leaves everything, whatever the call would give
pub refused_left :
    (k : ℕ) (numbers image list : List ℕ) (s : State) (r : Given) → 0 < k
    → leaving k numbers image list ≡ left numbers image (answering k s list r)
unfolding left
refused_left zero numbers image list s r h = absurd (omega arith)
refused_left (suc k) numbers image list s r h = refl

-- what is left where a call is not refused, by the numbers that it tells
told_left :
    (numbers image : List ℕ) (a : Answer) (s : State) (list ns : List ℕ) → told a ≡ telling ns
    → left numbers image (record { answer = a; state = s; list = list })
    ≡ leaving 0 (written (differing image (image_of s) ∷ ns) numbers) (image_of s) list
unfolding left
told_left numbers image a s list ns e = rw e

module _ {image : List ℕ} {answer : Result Unit Refusal} {o : One} (r : Restores image answer o) where
  pub refusal_is : refusal_in answer ≡ (restoring image).refusal
  refusal_is = ap (λ (x : RestoreResult). x.refusal) r.result

  pub state_is : view (station_of o) ≡ (restoring image).state
  state_is = ap (λ (x : RestoreResult). x.state) r.result

-- what is left where the restore answers k
abbrev restored_to : List ℕ → List ℕ → Call → ℕ → Left
restored_to image numbers c k = left numbers image (answering k (restoring image).state (lent c) (step (restoring image).state c))

pub restore_refused :
    {image after list : List ℕ} {answer : Result Unit Refusal} {o : One} (k : Refusal) {c : Call}
    → Restores image answer o
    → answer ≡ Err k
    → after ≡ image
    → list ≡ lent c
    → Serves image c (Err k) after list
unfolding called
restore_refused {image} {after} {list} k {c} r e i l =
    record {
      result =
          λ numbers.
          rw (i, l) (
          refused_left (number_of k) numbers image (lent c) (restoring image).state (step (restoring image).state c) (number_some k)
          ∙ ap (restored_to image numbers c) (sym (ap refusal_in e) ∙ refusal_is r)
          );
    }

module _ {image : List ℕ} {answer : Result Unit Refusal} {o : One} (r : Restores image answer o) (granted : answer ≡ Ok tt) where
  none_refused : 0 ≡ (restoring image).refusal
  none_refused = sym (ap refusal_in granted) ∙ refusal_is r

  pub whole : Whole image
  whole = (accepted image (sym none_refused)).size

  -- `s` is the station that the call is made to, and `made` what it answers
  module _ (c : Call) (made : Result Told Refusal) {s next : Station} {list : List ℕ} (same : s ≡ station_of o)
      (g : Gives (step (view s) c) (calls.answer_of made) next list) where
    step_is : record { answer = calls.answer_of made; state = view next; list = list } ≡ step (view (station_of o)) c
    step_is = g.result ∙ ap (λ (x : Station). step (view x) c) same

    -- the step, where the restore is not refused
    called_is : (numbers : List ℕ) → left numbers image (record { answer = calls.answer_of made; state = view next; list = list }) ≡ called numbers image c
    unfolding called
    called_is numbers =
        ap (left numbers image) (step_is ∙ ap (λ (x : State). step x c) (state_is r))
        ∙ ap (restored_to image numbers c) none_refused

    pub call_refused :
        {after list_now : List ℕ} (k : Refusal) → made ≡ Err k → after ≡ image → list_now ≡ list → Serves image c (Err k) after list_now
    unfolding left
    call_refused k e i l = record { result = λ numbers. rw (i, l) (rw e at (called_is numbers)) }

    -- the next station has one feeder too
    still_one : length (view next).feeders ≡ 1
    still_one = ap (λ (x : Given). length x.state.feeders) step_is ∙ feeders_stay (view (station_of o)) c

    -- the next station is saved over the image
    module _ {kept : Station} {after : List ℕ} {q : Result ℕ Refusal} (v : Saves (view kept) image image after q) (is_next : kept ≡ next) where
      next_saved : Saves (view next) image image after q
      next_saved = rw is_next at v

      -- which is not refused
      pub not_unsaved : (k : Refusal) → q ≡ Err k → ⊥
      not_unsaved k e =
          let some = number_some k in
          let none : refusal_in q ≡ 0 = ap (λ (x : SaveResult). x.refusal) (saved_is still_one whole next_saved) in
          let number : refusal_in q ≡ number_of k = ap refusal_in e in
          omega (arith, some, none, number)

      -- `a` is what the call told
      pub call_saved :
          {list_now : List ℕ} (a : Told) (n : Numbers) {blocks : ℕ}
          → made ≡ Ok a
          → Tells (calls.told_of a) n
          → q ≡ Ok blocks
          → list_now ≡ list
          → Serves image c (Ok (with_blocks blocks n)) after list_now
      call_saved {list_now} a n {blocks} e t b l =
          let told_is = told_by (view (station_of o)) c a n r.alone.valid.state (rw e at (ap (λ (x : Given). x.answer) step_is)) t in
          let blocks_are : blocks ≡ differing image (image_of (view next)) = sym (ap blocks_in b) ∙ saved_blocks still_one whole next_saved in
          record {
            result =
                λ numbers.
                ap (λ (ns : List ℕ). leaving 0 (written (blocks ∷ ns) numbers) after list_now) (same_numbers c blocks n)
                ∙ rw (blocks_are, saved_whole still_one whole next_saved, l)
                (sym (told_left numbers image (calls.told_of a) (view next) list (numbers_of c n) told_is) ∙ rw e at (called_is numbers));
          }
