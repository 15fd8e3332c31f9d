-- Input that comes in parts is answered as if it came at once.
use mathlib.Core.Path.{◌≡◌, refl, sym, ap, ◌∙◌}
use mathlib.Core.List.{List, [], ◌∷◌, ◌++◌, append_assoc, append-nil}
use mathlib.Core.Logic.{⊎_elim}
use Prim.Native.Nat.{ℕ, ◌<◌}
use native.Mathlib.Omega.{arith}
use borrow.Author.Tests.{lt-ltb}
use lib.ListN.{length, length-append}
use lib.Seq.{take_all, take-append-le, take-take, length-take-le}
use Rattle.rules.specs.Site.{State}
use Rattle.rules.specs.Calls.{fresh, least}
use Rattle.rules.proofs.Ranges.{below_or_not}
use Rattle.text.specs.Parts.{joined, split}
use Rattle.requests.specs.Requests.{read_request, error}
use Rattle.requests.specs.declared.request.Reason.TheVariants.{LineTooLong}
use Rattle.reply.specs.Reply.{Told, answered}
use Rattle.session.specs.Session.{saying, session, console, Fed, first, enough, served, feed}
use Rattle.session.proofs.Parting.{Some, onto, split_some, split_onto, onto_some, Whole, Wholes, split_wholes, take_whole}

-- Requests that are too long

too_long : (request : List ℕ) → 4096 < length request → read_request request ≡ error LineTooLong
unfolding read_request
too_long request h = rw (lt-ltb 4096 (length request) h)

pub enough_answered :
    (s : State) (request more : List ℕ) → answered s (enough request ++ more) ≡ answered s (request ++ more)
unfolding answered
enough_answered s request more =
    ⊎_elim
    (λ h. rw (take_all 4097 request (omega arith)))
    (λ h. let e : length (enough request) ≡ 4097 = length-take-le 4097 request h in
    rw (too_long (enough request ++ more) (omega (arith, length-append (enough request) more)), too_long (request ++ more) (omega (arith, length-append request more))))
    (below_or_not (length request) 4097)

pub enough_kept : (request more : List ℕ) → enough (enough request ++ more) ≡ enough (request ++ more)
enough_kept request more =
    ⊎_elim
    (λ h. rw (take_all 4097 request (omega arith)))
    (λ h. let e : length (enough request) ≡ 4097 = length-take-le 4097 request h in
    rw (take-append-le 4097 (enough request) more (omega arith), take-append-le 4097 request more h, take-take 4097 4097 request (omega arith)))
    (below_or_not (length request) 4097)

enough_same : (s : State) (request : List ℕ) → answered s (enough request) ≡ answered s request
enough_same s request = rw (append-nil (enough request), append-nil request) at (enough_answered s request [])

-- Parts of the input

served_whole : (s : State) (requests : List (List ℕ)) → Wholes requests → Whole (served s requests).kept
unfolding served split
served_whole s [] h = refl
served_whole s (request ∷ []) h = take_whole 4097 request h.0
served_whole s (request ∷ (next ∷ requests)) h = served_whole (answered s request).state (next ∷ requests) h.1

pub served_request :
    (s : State) (request : List ℕ) (requests : List (List ℕ)) → Some requests
    → served s (request ∷ requests) ≡ first (answered s request).text (served (answered s request).state requests)
unfolding served
served_request s request [] h = absurd h
served_request s request (next ∷ requests) h = refl

pub first-first : (a b : List ℕ) (o : Fed) → first a (first b o) ≡ first (a ++ b) o
first-first a b o = rw (append_assoc a b o.text)

served_joined :
    (s : State) (request : List ℕ) (more : List (List ℕ)) → Some more
    → served s (joined request more) ≡ served s (joined (enough request) more)
unfolding served
served_joined s request [] h = absurd h
served_joined s request (m ∷ []) h = rw (enough_kept request m)
served_joined s request (m ∷ (n ∷ ms)) h = rw (enough_answered s request m)

served_onto :
    (s : State) (requests more : List (List ℕ)) → Some requests → Some more
    → served s (onto requests more)
    ≡ first (served s requests).text (served (served s requests).state (joined (served s requests).kept more))
unfolding served
served_onto s [] more h k = absurd h
served_onto s (request ∷ []) more h k = served_joined s request more k
served_onto s (request ∷ (next ∷ requests)) more h k =
    served_request s request (onto (next ∷ requests) more) (onto_some (next ∷ requests) more tt)
    ∙ ap (first (answered s request).text) (served_onto (answered s request).state (next ∷ requests) more tt k)
    ∙ first-first (answered s request).text (served (answered s request).state (next ∷ requests)).text
    (served (served (answered s request).state (next ∷ requests)).state (joined (served (answered s request).state (next ∷ requests)).kept more))

-- Two parts one after the other are as good as both at once.
pub feed_append :
    (s : State) (kept a b : List ℕ)
    → feed s kept (a ++ b)
    ≡ first (feed s kept a).text (feed (feed s kept a).state (feed s kept a).kept b)
feed_append s kept a b =
    let ls : List (List ℕ) = split 10 (kept ++ a) in
    let k : List ℕ = (served s ls).kept in
    let w : split 10 k ≡ k ∷ [] = served_whole s ls (split_wholes (kept ++ a)) in
    let e : split 10 (k ++ b) ≡ joined k (split 10 b) = split_onto 10 k b ∙ ap (λ (x : List (List ℕ)). onto x (split 10 b)) w in
    ap (λ (x : List ℕ). served s (split 10 x)) (sym (append_assoc kept a b))
    ∙ ap (served s) (split_onto 10 (kept ++ a) b)
    ∙ served_onto s ls (split 10 b) (split_some 10 (kept ++ a)) (split_some 10 b)
    ∙ ap (λ (x : List (List ℕ)). first (served s ls).text (served (served s ls).state x)) (sym e)

-- The end of the input

-- what was kept is the last request
abbrev pub finish : Fed → Told
finish o = saying o.text (answered o.state o.kept)

saying_saying : (a b : List ℕ) (t : Told) → saying a (saying b t) ≡ saying (a ++ b) t
saying_saying a b t = rw (append_assoc a b t.text)

pub finish_served : (s : State) (request : List ℕ) (requests : List (List ℕ)) → finish (served s (request ∷ requests)) ≡ session s (request ∷ requests)
unfolding served session
finish_served s request [] = rw (enough_same s request, append-nil (answered s request).text)
finish_served s request (next ∷ requests) =
    sym (saying_saying (answered s request).text (served (answered s request).state (next ∷ requests)).text (answered (served (answered s request).state (next ∷ requests)).state (served (answered s request).state (next ∷ requests)).kept))
    ∙ ap (saying (answered s request).text) (finish_served (answered s request).state next requests)

finish_requests : (s : State) (requests : List (List ℕ)) → Some requests → finish (served s requests) ≡ session s requests
finish_requests s [] h = absurd h
finish_requests s (request ∷ requests) h = finish_served s request requests

-- a whole input as one part
pub console_fed : (input : List ℕ) → finish (feed (fresh least) [] input) ≡ console input
unfolding console
console_fed input = finish_requests (fresh least) (split 10 input) (split_some 10 input)
