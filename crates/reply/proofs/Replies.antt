-- From what a call gives, and what is printed, to what a request is answered.
use mathlib.Core.Path.{◌≡◌, refl, sym, ap, subst, ◌∙◌}
use mathlib.Core.List.{List, ◌++◌}
use Prim.Native.Nat.{ℕ, ◌+◌, ◌-◌, ◌≤◌, min}
use native.Mathlib.Omega.{arith}
use lib.ListN.{length, take, drop, replicate, length-append, length-replicate}
use lib.Seq.{slice, length-slice, sets, sets-eq, length-take-le, take_at}
use Rattle.std.specs.Prelude.{Result as Outcome, Ok, Err}
use Rattle.std.proofs.lemmas.Slice.{between_is}
use Rattle.rules.specs.Site.{State}
use Rattle.rules.specs.Calls.{Result, written, not_held}
use Rattle.refusals.specs.declared.Refusal.{Refusal}
use Rattle.answers.specs.Answers.{answer_text, listed_of}
use Rattle.requests.specs.Requests.{Asked, error, read_request, meaning, lent_list, Fits, Lent, Asks}
use Rattle.requests.specs.Errors.{error_text}
use Rattle.requests.specs.declared.request.Request.{Request}
use Rattle.requests.specs.declared.request.Reason.{Reason}
use Rattle.station.specs.declared.Station.{Station}
use Rattle.calls.specs.declared.Call.{Call}
use Rattle.calls.specs.declared.Call.TheVariants.{Preview, Commit, Move, Offer, ReplanLatest, ReplanLines, Enquire, Board, Withdraw}
use Rattle.calls.specs.declared.Answer.{Answer}
use Rattle.station.specs.View.{view, Valid}
use Rattle.calls.specs.Applied.{call_of, lends, answer_of, Applies}
use Rattle.reply.specs.Reply.{Told, numbers_in, called, reply, written_by, places_of, lent_by, lent_to, said_text, Says, Replied, answered}
use Rattle.reply.specs.declared.Said.{Said}
use Rattle.reply.specs.declared.Said.TheVariants as said
use Rattle.reply.proofs.Reports.{Reports, reports, few_reports, text_after}

-- a call reads the numbers that are lent to it, and where none are it is given none
numbers_read_lem : (c : Call) (ss list : List ℕ) (n places : ℕ) → Lent (lends c) n places → length ss ≤ n → numbers_in (call_of c ss list) ≡ length ss
numbers_read_lem (Preview o) ss list n places e h = omega (arith, e.0)
numbers_read_lem (Commit o shown) ss list n places e h = omega (arith, e.0)
numbers_read_lem (Move target) ss list n places e h = omega (arith, e)
numbers_read_lem (Offer feeder) ss list n places e h = refl
numbers_read_lem (ReplanLatest feeder) ss list n places e h = omega (arith, e.0)
numbers_read_lem (ReplanLines feeder allowance) ss list n places e h = omega (arith, e.0)
numbers_read_lem (Enquire ticket) ss list n places e h = omega (arith, e.0)
numbers_read_lem Board ss list n places e h = refl
numbers_read_lem (Withdraw ticket) ss list n places e h = omega (arith, e.0)

module _ {s : Station} (c : Call) {ss list after : List ℕ} {a : Outcome Answer Refusal} {next : Station} (v : Valid s)
    (p : Applies (view s) c ss list after a next) where
  reports_so : Reports (lends c) (listed_of (answer_of a) (length ss)) (length list)
  reports_so =
      subst (λ (x : Result). Reports (lends c) (listed_of x.answer (length ss)) (length list)) (sym p.gives.result)
      (reports (view s) c ss list v.state)

  few_told : (listed_of (answer_of a) (length ss) ≤ 1440) × (listed_of (answer_of a) (length ss) ≤ length list)
  few_told = few_reports (lends c) (listed_of (answer_of a) (length ss)) (length list) reports_so

  -- what is said to a call is what it gives, with the list that was lent to it at the front of a whole one
  call_says :
      (n places asked lent : ℕ) (whole : List ℕ) → Lent (lends c) n places → length ss ≤ n → asked ≡ length ss → take lent whole ≡ after
      → lent ≤ length whole → length list ≤ lent
      → Says (called (view s) (call_of c ss list)) next (said.Call a asked lent) whole
  call_says n places asked lent whole e h same front room fill =
      record {
        state_is = ap (λ (x : Result). x.state) p.gives.result;
        valid = p.gives.valid;
        text_is =
            rw (front, same, numbers_read_lem c ss list n places e h)
            (text_after (lends c) (answer_of a) (length ss) ss after (length list) reports_so
            ∙ ap (λ (x : Result). answer_text x.answer (length ss) x.list) p.gives.result);
        fits = (room, (rw same (omega (arith, few_told.1)), rw same few_told.0));
      }

-- The lists that are lent

after_call :
    (s : State) (c : Call) (ss after : List ℕ) (n places : ℕ) {a : Outcome Answer Refusal} {next : Station} → Lent (lends c) n places
    → Applies s c ss (lent_list places) after a next → after ≡ written_by s (call_of c ss (lent_list places))
after_call s (Preview o) ss after n places e p = p.stays ∙ ap lent_list e.1
after_call s (Commit o shown) ss after n places e p = p.stays ∙ ap lent_list e.1
after_call s (Move target) ss after n places e p = ap (λ (x : Result). x.list) p.gives.result
after_call s (Offer feeder) ss after n places e p = p.stays ∙ ap lent_list e
after_call s (ReplanLatest feeder) ss after n places e p = p.stays ∙ ap lent_list e.1
after_call s (ReplanLines feeder allowance) ss after n places e p = p.stays ∙ ap lent_list e.1
after_call s (Enquire ticket) ss after n places e p = p.stays ∙ ap lent_list e.1
after_call s Board ss after n places e p = ap (λ (x : Result). x.list) p.gives.result
after_call s (Withdraw ticket) ss after n places e p = p.stays ∙ ap lent_list e.1

-- the lent front of the list as the call leaves it, and the rest of it as it was
list_left :
    {s : State} (c : Call) {ss after : List ℕ} (n places lent : ℕ) (list : List ℕ) {a : Outcome Answer Refusal} {next : Station}
    → Lent (lends c) n places → length after ≡ lent → lent ≤ length list → Applies s c ss (lent_list places) after a next
    → after ++ drop lent list ≡ sets list 0 (written_by s (call_of c ss (lent_list places)))
list_left {s} c {ss} {after} n places lent list e l h p =
    let put : sets list 0 after ≡ after ++ drop (0 + length after) list = sets-eq after list 0 (omega arith) in
    let size : 0 + length after ≡ lent = omega arith in
    sym (put ∙ ap (λ (x : ℕ). after ++ drop x list) size) ∙ ap (sets list 0) (after_call s c ss after n places e p)

-- how many numbers stand between two places
pub length_between : (from until : ℕ) (numbers : List ℕ) → until ≤ length numbers → length (take (until - from) (drop from numbers)) ≡ until - from
length_between from until numbers h = rw (between_is numbers from until) (length-slice from until numbers h)

-- A call with the numbers between two places, and so many places at the front of a list: what is said, and what is left of the list.
pub call_replied :
    {s next : Station} (c : Call) {made : Call} (numbers list : List ℕ) {read after : List ℕ} (from until places : ℕ) {lent asked : ℕ} {a : Outcome Answer Refusal}
    → Valid s
    → 4096 ≤ length list
    → take (length (lent_list places)) list ≡ lent_list places
    → until ≤ length numbers
    → Lent (lends c) until places
    → lent ≡ min places 4096
    → lent ≤ 4096
    → length after ≡ length (take lent list)
    → asked ≡ until - from
    → Applies (view s) made read (take lent list) after a next
    → made ≡ c
    → read ≡ take (until - from) (drop from numbers)
    → Says (called (view s) (call_of c (slice from until numbers) (lent_list places))) next (said.Call a asked lent) (after ++ drop lent list)
    × (after ++ drop lent list ≡ sets list 0 (written_by (view s) (call_of c (slice from until numbers) (lent_list places))))
call_replied {s} {next} c {made} numbers list {read} {after} from until places {lent} {asked} {a} v room front inside e is few keeps same p its all = (
  call_says c v applies until places asked lent (after ++ drop lent list) e (omega (arith, many)) (omega (arith, same, many))
      (take_at after (drop lent list) lent long)
      (omega (arith, long, length-append after (drop lent list)))
      (omega (arith, size)),
  list_left c until places lent list e long (omega (arith, few, room)) applies,
)
  where
    size : length (lent_list places) ≡ lent
    size = length-replicate {A = ℕ} (min places 4096) 4294967295 ∙ sym is

    long : length after ≡ lent
    long = keeps ∙ length-take-le lent list (omega (arith, few, room))

    many : length (slice from until numbers) ≡ until - from
    many = length-slice from until numbers inside

    applies : Applies (view s) c (slice from until numbers) (lent_list places) after a next
    applies =
        subst (λ (l : List ℕ). Applies (view s) c (slice from until numbers) l after a next)
        (ap (λ (n : ℕ). take n list) (sym size) ∙ front)
        (rw (its, all, between_is numbers from until) at p)

-- what is said, under other names
pub says_as :
    {t : Told} {station left : Station} {said told : Said} {list : List ℕ} → Says t left told list → station ≡ left → said ≡ told
    → Says t station said list
says_as {t} {station} {left} {said} {told} {list} h e f = rw (e, f) h

-- The list as it is filled for a request, and what stands at its front

pub filled_lent :
    (lent places : ℕ) (list : List ℕ) {filled : List ℕ} → lent ≡ min places 4096 → lent ≤ length list
    → filled ≡ written (replicate lent not_held) list → filled ≡ sets list 0 (lent_list places)
filled_lent lent places list e h f =
    let size : 0 + length (lent_list places) ≡ length (lent_list places) = omega arith in
    f ∙ ap (λ (n : ℕ). written (replicate n not_held) list) e
    ∙ ap (λ (n : ℕ). lent_list places ++ drop n list) (sym size)
    ∙ sym (sets-eq (lent_list places) list 0 (omega (arith, length-replicate {A = ℕ} (min places 4096) not_held)))

front_lent : (r : Request) (list : List ℕ) → 4096 ≤ length list → take (length (lent_by r)) (sets list 0 (lent_by r)) ≡ lent_by r
front_lent r list h =
    let size : length (lent_by r) ≤ 4096 = omega (arith, length-replicate {A = ℕ} (min (places_of r) 4096) 4294967295) in
    ap (take (length (lent_by r))) (sets-eq (lent_by r) list 0 (omega arith))
    ∙ take_at (lent_by r) (drop (0 + length (lent_by r)) list) (length (lent_by r)) refl

-- what `reply` asks for, from what `read` left
pub can_reply :
    {asked : Asked} {values numbers after filled : List ℕ} {read : Outcome Request Reason} (r : Request) (list : List ℕ) → 4096 ≤ length list
    → read ≡ Ok r → Asks asked values numbers after read → filled ≡ sets list 0 (lent_to read)
    → Fits 2048 r × (take (length (lent_by r)) filled ≡ lent_by r)
can_reply {read = read} r list l e a f =
    let fits : Fits 2048 r = rw e at a.fits in
    let filled-so = f ∙ ap (λ x. sets list 0 (lent_to x)) e in
    (fits, ap (take (length (lent_by r))) filled-so ∙ front_lent r list l)

-- a request that was read so, and was replied to so, is answered so
pub replied :
    (s : State) (text : List ℕ) {values numbers after : List ℕ} {read : Outcome Request Reason} (r : Request) {station : Station} {said : Said} {list : List ℕ} (before : List ℕ) {out : List ℕ}
    → read ≡ Ok r → Asks (read_request text) values numbers after read → Says (reply s (meaning r after)) station said list → out ≡ before ++ said_text said list
    → Replied (answered s text) station before out
unfolding answered
replied s text {after = after} r before e a h p =
    let asked : meaning r after ≡ read_request text = rw e at a.request_is in
    record {
      state_is = h.state_is ∙ ap (λ (y : Asked). (reply s y).state) asked;
      valid = h.valid;
      printed = p ∙ ap (λ (x : List ℕ). before ++ x) (h.text_is ∙ ap (λ (y : Asked). (reply s y).text) asked);
    }

-- a line of text that is no request is answered so
pub refused :
    {station : Station} (text : List ℕ) {values numbers after : List ℕ} {read : Outcome Request Reason} (reason : Reason) (before : List ℕ) {out : List ℕ}
    → Valid station → read ≡ Err reason → Asks (read_request text) values numbers after read → out ≡ before ++ error_text reason
    → Replied (answered (view station) text) station before out
unfolding answered
refused {station} text reason before v e a p =
    let asked : error reason ≡ read_request text = rw e at a.request_is in
    record {
      state_is = ap (λ (y : Asked). (reply (view station) y).state) asked;
      valid = v;
      printed = p ∙ ap (λ (x : List ℕ). before ++ x) (ap (λ (y : Asked). (reply (view station) y).text) asked);
    }
