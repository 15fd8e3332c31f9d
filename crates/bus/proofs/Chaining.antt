-- C calls and openings one after another: what they return, tell and report is what the rules answer, and the image that they
-- leave is that of its station.
use mathlib.Core.Path.{◌≡◌, refl, sym, ap, ◌∙◌}
use Prim.Native.Nat.{ℕ, zero, suc}
use mathlib.Core.Bool.{Bool, true, false, cond, true≢false}
use mathlib.Core.List.{List, [], ◌∷◌, map}
use lib.ListN.{length}
use borrow.Author.Tests.{eqb-true, eqb-false, eq-eqb}
use Rattle.rules.specs.Basics.{Found, at, nothing, first_of}
use Rattle.rules.specs.Replan.{Proposal, Replanned, starts, none, latest, by_lines}
use Rattle.rules.specs.Judgement.{judged}
use Rattle.rules.specs.Site.{State, charges_on, limits_of}
use Rattle.rules.specs.Calls.{Asked, refused, Result, answering, opening, Call, preview, commit, move, offer, replan_latest, replan_lines, enquire, board, withdraw, lent, refusals, granted, step, run, draw_for, start_for, previewed_at, decided, tested, previewing, committing, moving, offering, replanning_latest, replanning_lines, enquiring, boarding, withdrawing}
use Rattle.rules.specs.Valid.{ValidState}
use Rattle.rules.proofs.Validity.{opening_valid, step_valid}
use Rattle.layout.specs.Image.{image_of}
use Rattle.layout.specs.Reading.{RestoreResult}
use Rattle.layout.specs.Blocks.{differing}
use Rattle.layout.proofs.Imaging.{image_length}
use Rattle.layout.specs.Saving.{has_one}
use Rattle.layout.proofs.Calling.{feeders_stay}
use Rattle.layout.proofs.Refusing.{saving_written, saving_several}
use Rattle.layout.proofs.RoundTrip.{restored_saved}
use Rattle.layout.proofs.Comparing.{none_differs}
use Rattle.service.specs.Left.{told, counted, Left, left, called, Whole}
use Rattle.bus.specs.Images.{opened_over}
use Rattle.bus.specs.Chains.{Made, calls, opens, left_by, chained, opened_one, opening_over, result_of, results_of, behind, left_of, left_of_each, ChainsAfterAnOpening}
use Rattle.bus.specs.Returns.{NoBlockDiffers}

-- A refusal keeps the station

abbrev Stays : State → Result → Type 0
Stays s r = (told r.answer).is_refused ≡ true → r.state ≡ s

answering_stays : (k : ℕ) (s : State) (list : List ℕ) (r : Result) → Stays s r → Stays s (answering k s list r)
answering_stays zero s list r h = h
answering_stays (suc k) s list r h = λ e. refl

previewed_stays : (s : State) (f : Found) → Stays s (previewed_at s f)
previewed_stays s (at start) = λ e. refl
previewed_stays s nothing = λ e. refl

decided_stays : (s : State) (f rounds : ℕ) (ss list : List ℕ) (cause : ℕ) → Stays s (decided s f rounds ss list cause)
decided_stays s f rounds ss list zero = λ e. absurd (true≢false (sym e))
decided_stays s f rounds ss list (suc k) = λ e. refl

tested_stays : (s : State) (f rounds : ℕ) (p : Proposal) (list : List ℕ) → Stays s (tested s f rounds p list)
tested_stays s f rounds (starts ss) list = decided_stays s f rounds ss list (judged (limits_of s f) s.clock (charges_on s f) ss)
tested_stays s f rounds (none cause) list = λ e. refl

granted_stays : (s : State) (c : Call) → Stays s (granted s c)
unfolding previewing committing moving offering replanning_latest replanning_lines enquiring boarding withdrawing
granted_stays s (preview f line p d rate) = previewed_stays s (start_for s f (draw_for s f line p rate))
granted_stays s (commit f line p d rate shown) = λ e. absurd (true≢false (sym e))
granted_stays s (move target list) = λ e. absurd (true≢false (sym e))
granted_stays s (offer f ss) = tested_stays s f 0 (starts ss) ss
granted_stays s (replan_latest f) = tested_stays s f 0 (latest (limits_of s f) s.clock (charges_on s f)) []
granted_stays s (replan_lines f allowance) =
    let r : Replanned = by_lines (limits_of s f) s.clock allowance (charges_on s f) in tested_stays s f r.rounds r.proposal []
granted_stays s (enquire ticket) = λ e. refl
granted_stays s (board asked list) = λ e. refl
granted_stays s (withdraw ticket) = λ e. absurd (true≢false (sym e))

refused_stays : (s : State) (c : Call) → Stays s (step s c)
refused_stays s c = answering_stays (first_of (refusals s c)) s (lent c) (granted s c) (granted_stays s c)

-- One call or opening on a saved image, and many

left_of_lem : (s : State) (numbers : List ℕ) (r : Result) → Stays s r → left numbers (image_of s) r ≡ left_of s numbers r
unfolding left
left_of_lem s numbers r h = go (told r.answer).is_refused refl
  where
    go : (b : Bool) → (told r.answer).is_refused ≡ b → left numbers (image_of s) r ≡ left_of s numbers r
    go true e = rw (e, h e)
    go false e = rw e

-- a station that is held as an image
pub record Held (s : State) : Type 0 where
  pub one : length s.feeders ≡ 1
  pub valid : ValidState s

pub called_saved : (s : State) (numbers : List ℕ) (c : Call) → Held s → called numbers (image_of s) c ≡ left_of s numbers (step s c)
unfolding called
called_saved s numbers c v =
    ap
    (λ (x : RestoreResult). left numbers (image_of s) (answering x.refusal x.state (lent c) (step x.state c)))
    (restored_saved s v.one v.valid)
    ∙ left_of_lem s numbers (step s c) (refused_stays s c)

-- an opening over an image of the right size, whatever it holds
pub opened_left : (numbers image : List ℕ) (x : Asked) → Whole image → opened_over numbers image x ≡ left numbers image (opened_one x)
unfolding opened_over
opened_left numbers image x h = go (has_one (opening x).state) refl
  where
    go : (b : Bool) → has_one (opening x).state ≡ b → opened_over numbers image x ≡ left numbers image (opened_one x)
    go true e = rw (e, saving_written (opening x).state image image (eqb-true (length (opening x).state.feeders) 1 e) h h) refl
    go false e = rw (e, saving_several (opening x).state image image (eqb-false (length (opening x).state.feeders) 1 e) h h) refl

abbrev keeping : State → Result → Bool → Result
keeping s r b = cond b (record { answer = r.answer; state = s; list = r.list }) r

pub kept_left :
    (s : State) (numbers : List ℕ) (r : Result) (b : Bool)
    → (told r.answer).is_refused ≡ b
    → left numbers (image_of s) r ≡ left_of s numbers (keeping s r b)
unfolding left
kept_left s numbers r true e = rw e
kept_left s numbers r false e = rw e

pub opened_saved : (s : State) (numbers : List ℕ) (x : Asked) → opened_over numbers (image_of s) x ≡ left_of s numbers (opening_over s x)
opened_saved s numbers x =
    opened_left numbers (image_of s) x (image_length s)
    ∙ kept_left s numbers (opened_one x) (told (opened_one x).answer).is_refused refl

left_by_lem : (s : State) (m : Made) → Held s → left_by (image_of s) m ≡ left_of s (behind m) (result_of s m)
left_by_lem s (calls numbers c) v = called_saved s numbers c v
left_by_lem s (opens numbers x) v = opened_saved s numbers x

pub opening_held : (x : Asked) → length (opening x).state.feeders ≡ 1 → Held (opening x).state
opening_held x e = record { one = e; valid = opening_valid x }

-- an opening of the bus is refused, or of one feeder
abbrev opened_if : Asked → Bool → Result
opened_if x b = cond b (opening x) (record { answer = refused 22; state = (opening x).state; list = [] })

one_held : (x : Asked) (b : Bool) → has_one (opening x).state ≡ b → (told (opened_if x b).answer).is_refused ≡ false → Held (opened_if x b).state
one_held x true e f = opening_held x (eqb-true (length (opening x).state.feeders) 1 e)
one_held x false e f = absurd (true≢false f)

kept_held : (s : State) (r : Result) (b : Bool) → Held s → (b ≡ false → Held r.state) → Held (keeping s r b).state
kept_held s r true v h = v
kept_held s r false v h = h refl

over_held : (s : State) (x : Asked) → Held s → Held (opening_over s x).state
over_held s x v =
    kept_held s (opened_one x) (told (opened_one x).answer).is_refused v (one_held x (has_one (opening x).state) refl)

result_held : (s : State) (m : Made) → Held s → Held (result_of s m).state
result_held s (calls numbers c) v = record { one = feeders_stay s c ∙ v.one; valid = step_valid s c v.valid }
result_held s (opens numbers x) v = over_held s x v

pub chained_saved : (s : State) (ms : List Made) → Held s → chained (image_of s) ms ≡ left_of_each s ms (results_of s ms)
chained_saved s [] v = refl
chained_saved s (m ∷ ms) v =
    let next : State = (result_of s m).state in
    ap (λ (l : Left). l ∷ chained l.image ms) (left_by_lem s m v)
    ∙ ap (λ (ls : List Left). left_of s (behind m) (result_of s m) ∷ ls) (chained_saved next ms (result_held s m v))

-- without an opening among them, the results are those of the list of calls
pub results_run : (s : State) (cs : List (List ℕ × Call)) → results_of s (map (λ (x : List ℕ × Call). calls x.0 x.1) cs) ≡ run s (map (λ (x : List ℕ × Call). x.1) cs)
results_run s [] = refl
results_run s (x ∷ cs) = ap (λ (rs : List Result). step s x.1 ∷ rs) (results_run (step s x.1).state cs)

-- From an opening

-- of one feeder, and not refused
pub opened_image :
    (numbers image : List ℕ) (x : Asked)
    → Whole image
    → length (opening x).state.feeders ≡ 1
    → (told (opening x).answer).is_refused ≡ false
    → (opened_over numbers image x).image ≡ image_of (opening x).state
unfolding left
opened_image numbers image x w one granted =
    ap (λ (l : Left). l.image) (opened_left numbers image x w)
    ∙ rw (eq-eqb (length (opening x).state.feeders) 1 one, granted)

-- any list of C calls and further openings on the image of an opening, whatever the image was before
pub chained_opened : ChainsAfterAnOpening
chained_opened numbers image x w one granted ms =
    ap (λ (after : List ℕ). chained after ms) (opened_image numbers image x w one granted)
    ∙ chained_saved (opening x).state ms (opening_held x one)

-- A call that keeps the station

-- no block differs where the station stays, as after a preview or an enquiry
pub kept_none : NoBlockDiffers
kept_none s c e = ap (λ (blocks : ℕ). counted blocks (told (step s c).answer)) (ap (λ (x : State). differing (image_of s) (image_of x)) e ∙ none_differs (image_of s))
