-- The ways that an opening can go: refused by the size of the image or by its own table, of several feeders, and saved.
use mathlib.Core.Path.{◌≡◌, refl, sym, ap, subst, ◌∙◌}
use Prim.Native.Nat.{ℕ, zero, suc}
use native.Mathlib.Omega.{arith}
use mathlib.Core.Bool.{Bool, true, false}
use mathlib.Core.List.{List, [], ◌∷◌, map}
use lib.ListN.{length, take, get_or}
use borrow.Author.Tests.{eqb-true, eqb-false}
use Rattle.std.specs.Prelude.{Result, Ok, Err}
use Rattle.rules.specs.Basics.{first_of}
use Rattle.rules.specs.Site.{State, Feeder}
use Rattle.rules.specs.Calls.{Asked, Answer, refused, opened, previewed, committed, moved, planned, waiting, charging, looked, withdrawn, Result as Given, fresh, least, open_refusals, answering, opening, written}
use Rattle.rules.proofs.Sites.{map_length}
use Rattle.refusals.specs.declared.Refusal.{Refusal}
use Rattle.refusals.specs.declared.Refusal.TheVariants.{ImageLength}
use Rattle.refusals.specs.Refusals.{number_of}
use Rattle.layout.specs.Image.{image_of}
use Rattle.layout.specs.Blocks.{differing}
use Rattle.layout.specs.Saving.{SaveResult, has_one, saving}
use Rattle.layout.proofs.Refusing.{saving_written, saving_several, saving_refused}
use Rattle.station.specs.declared.Station.{Station}
use Rattle.station.specs.View.{view}
use Rattle.station.specs.declared.bounds.Opened.{Opened}
use Rattle.station.specs.Opened.{open_answer, Opens as OpensStation}
use Rattle.station.proofs.Refusing.{number_some}
use Rattle.image.specs.Answers.{Saves}
use Rattle.service.specs.Left.{leaving, left, Whole}
use Rattle.service.proofs.Serving.{saved_blocks, saved_whole, refused_left}
use Rattle.bus.specs.declared.open.Told.{Told}
use Rattle.bus.specs.Images.{opened_over, OpenedOver}
use Rattle.bus.proofs.Copying.{save_refused}

-- The answer and the station of an opening

-- the station beside a refused opening has one feeder, and of one that is not there are as many bounds as feeders
abbrev Fits : Answer → State → Type 0
Fits (refused k) s = length s.feeders ≡ 1
Fits (opened bounds) s = length bounds ≡ length s.feeders
Fits (previewed start) s = Unit {0}
Fits (committed ticket start) s = Unit {0}
Fits (moved reported dropped) s = Unit {0}
Fits (planned cause before after rounds) s = Unit {0}
Fits (waiting start rate) s = Unit {0}
Fits (charging start end rate) s = Unit {0}
Fits (looked count) s = Unit {0}
Fits withdrawn s = Unit {0}

abbrev given : Asked → Given
given x = record { answer = opened (map (λ (g : Feeder). g.bound) (fresh x).feeders); state = fresh x; list = [] }

opening_fits : (x : Asked) → Fits (opening x).answer (opening x).state
unfolding opening
opening_fits x = go (first_of (open_refusals x))
  where
    go : (k : ℕ) → Fits (answering k (fresh least) [] (given x)).answer (answering k (fresh least) [] (given x)).state
    go zero = map_length (λ (g : Feeder). g.bound) (fresh x).feeders
    go (suc k) = refl

-- what is saved has one feeder
pub saved_one : (s : State) (image : List ℕ) → Whole image → (saving s image image).refusal ≡ 0 → length s.feeders ≡ 1
saved_one s image w e = go (has_one s) refl
  where
    go : (b : Bool) → has_one s ≡ b → length s.feeders ≡ 1
    go true f = eqb-true (length s.feeders) 1 f
    go false f =
        let several : (saving s image image).refusal ≡ 22 = ap (λ (r : SaveResult). r.refusal) (saving_several s image image (eqb-false (length s.feeders) 1 f) w w) in
        absurd (omega (arith, several, e))

-- where the only bound is told, it is the first
only_bound : (count : ℕ) (bounds : List ℕ) → length (take count bounds) ≡ 1 → take count bounds ≡ get_or bounds 0 0 ∷ []
only_bound zero bounds e = absurd (omega (arith, e))
only_bound (suc count) [] e = absurd (omega (arith, e))
only_bound (suc count) (b ∷ bounds) e = ap (λ (bs : List ℕ). b ∷ bs) (none (take count bounds) (omega (arith, e)))
  where
    none : (bs : List ℕ) → length bs ≡ 0 → bs ≡ []
    none [] e = refl
    none (b ∷ bs) e = absurd (omega (arith, e))

-- Over an image

module _ {image after : List ℕ} {x : Asked} where
  -- refused by the save, for its size or for several feeders
  open_unsaved : (k : Refusal) → number_of k ≡ (saving (opening x).state image image).refusal → after ≡ image → OpenedOver image x (Err k) after
  unfolding opened_over
  open_unsaved k n i =
      record {
        result =
            λ numbers.
            rw i (
            refused_left (number_of k) numbers image [] (opening x).state (opening x) (number_some k)
            ∙ ap (λ (j : ℕ). left numbers image (answering j (opening x).state [] (opening x))) n
            );
      }

  pub open_unsized : (k : Refusal) → (Whole image → ⊥) → k ≡ ImageLength → after ≡ image → OpenedOver image x (Err k) after
  open_unsized k h e i =
      open_unsaved k
      (ap number_of e ∙ sym (ap (λ (r : SaveResult). r.refusal) (saving_refused (opening x).state image image (λ p q. h p)))) i

  pub open_several :
      {s : Station} {a : Result Opened Refusal} {q : Result ℕ Refusal} (k : Refusal)
      → OpensStation (opening x) a s
      → Saves (view s) image image after q
      → q ≡ Err k
      → OpenedOver image x (Err k) after
  open_several {s} k g v e =
      let unsaved : Saves (view s) image image after (Err k) = rw e at v in
      open_unsaved k
      (ap (λ (y : SaveResult). y.refusal) unsaved.result ∙ ap (λ (y : Given). (saving y.state image image).refusal) g.result)
      (save_refused k unsaved)

-- an opening whose station has one feeder
opened_is :
    (numbers image : List ℕ) (x : Asked)
    → Whole image
    → length (opening x).state.feeders ≡ 1
    → left numbers image (opening x) ≡ opened_over numbers image x
unfolding opened_over
opened_is numbers image x w one = rw (saving_written (opening x).state image image one w w) refl

-- what is left of an image by an answer with these numbers, and by a refusal
left_opened :
    (numbers image bounds : List ℕ) (s : State)
    → leaving 0 (written (differing image (image_of s) ∷ bounds) numbers) (image_of s) []
    ≡ left numbers image (record { answer = opened bounds; state = s; list = [] })
unfolding left
left_opened numbers image bounds s = refl

left_refused :
    (numbers image : List ℕ) (k : ℕ) (s : State)
    → leaving k numbers image [] ≡ left numbers image (record { answer = refused k; state = s; list = [] })
unfolding left
left_refused numbers image k s = refl

answer_fits : (x : Asked) {a : Result Opened Refusal} {s : Station} → OpensStation (opening x) a s → Fits (open_answer a) (view s)
answer_fits x g = subst (λ (r : Given). Fits r.answer r.state) (sym g.result) (opening_fits x)

given_left :
    (numbers image : List ℕ) (x : Asked) {s : Station} {a : Result Opened Refusal}
    → Whole image
    → OpensStation (opening x) a s
    → length (view s).feeders ≡ 1
    → left numbers image (record { answer = open_answer a; state = view s; list = [] }) ≡ opened_over numbers image x
given_left numbers image x w g one =
    ap (left numbers image) g.result
    ∙ opened_is numbers image x w (sym (ap (λ (r : Given). length r.state.feeders) g.result) ∙ one)

module _ {image after : List ℕ} {x : Asked} {s : Station} (w : Whole image) where
  pub open_refused : {a : Result Opened Refusal} (k : Refusal) → OpensStation (opening x) a s → a ≡ Err k → after ≡ image → OpenedOver image x (Err k) after
  open_refused k g e i =
      let gives : OpensStation (opening x) (Err k) s = rw e at g in
      record { result = λ numbers. rw i (left_refused numbers image (number_of k) (view s) ∙ given_left numbers image x w gives (answer_fits x gives)) }

  pub open_saved :
      {a : Result Opened Refusal} {q : Result ℕ Refusal} (o : Opened) (t : Told)
      → OpensStation (opening x) a s
      → Saves (view s) image image after q
      → a ≡ Ok o
      → q ≡ Ok t.blocks
      → t.bound ≡ get_or o.bounds 0 0
      → OpenedOver image x (Ok t) after
  open_saved o t g v e b f =
      let gives : OpensStation (opening x) (Ok o) s = rw e at g in
      let kept : Saves (view s) image image after (Ok t.blocks) = rw b at v in
      let one : length (view s).feeders ≡ 1 = saved_one (view s) image w (sym (ap (λ (r : SaveResult). r.refusal) kept.result)) in
      let bounds : take o.count o.bounds ≡ get_or o.bounds 0 0 ∷ [] = only_bound o.count o.bounds (answer_fits x gives ∙ one) in
      record {
        result =
            λ numbers.
            rw (saved_blocks one w kept, f, saved_whole one w kept)
            (ap (λ (bs : List ℕ). leaving 0 (written (differing image (image_of (view s)) ∷ bs) numbers) (image_of (view s)) []) (sym bounds)
            ∙ left_opened numbers image (take o.count o.bounds) (view s)
            ∙ given_left numbers image x w gives one);
      }
