-- A request as it is read: its numbers, from the left, into the lent list; its call by name; the request as a whole.
use mathlib.Core.Path.{◌≡◌, refl, sym, ap, ◌∙◌}
use mathlib.Core.Bool.{Bool, true, false}
use mathlib.Core.List.{List, [], ◌∷◌, ◌++◌, append_assoc, append-nil}
use Prim.Native.Nat.{ℕ, suc, ◌+◌, ◌-◌, ◌≤◌, ◌<◌}
use native.Mathlib.Nat.{add-zero, add-suc, suc-add}
use native.Mathlib.Numerals.{add-one}
use native.Mathlib.Omega.{arith}
use borrow.Author.Tests.{lt-ltb, le-ltb}
use lib.Dec.{eqb}
use lib.ListN.{length, take, drop, get_or, set, length-set, drop_of_length-le}
use lib.Seq.{sets, take-take, length-take-le, take-suc-set, drop-cons}
use Rattle.std.specs.List.{slice_split, slice_get}
use Rattle.std.specs.Fn.{CalledAt}
use Rattle.std.specs.Slice.Iter.{split_rest, split_done, split_callee, split_steps}
use Rattle.std.specs.Iterator.Adapters.{skip_source, skip_count, skip_steps}
use Rattle.std.specs.declared.slice.Split.{Split}
use Rattle.std.specs.declared.iter.Skip.{Skip}
use Rattle.std.proofs.lemmas.Iterator.{YieldsList}
use Rattle.std.proofs.lemmas.Iterator.Splits.{YieldsList-from_slice_split}
use Rattle.std.proofs.lemmas.Iterator.Adapters.{YieldsList-from_skip}
use Rattle.std.proofs.lemmas.Iterator.Consumers.{YieldsList-at}
use denote.Param.Members.{Mut}
use denote.Ref.{Bor}
use Rattle.text.proofs.Splitting.{split_slices}
use Rattle.std.specs.Prelude.{Option, Some, None, Result, Ok, Err, IfOk, MatchOption}
use Rattle.std.specs.Option.{ok_or, option_copied}
use Rattle.std.specs.Result.{IsErrAnd, MatchResult}
use Rattle.text.specs.Numbers.{number_of}
use Rattle.text.specs.Parts.{split}
use Rattle.text.specs.declared.number.NumberError.{NumberError}
use Rattle.requests.specs.Words.{named}
use Rattle.requests.specs.Requests.{
  nothing,
  error,
  taken,
  read_word,
  followed,
  read_numbers,
  before,
  values_read,
  read_call,
  call_values,
  passed_over,
  by_name,
  by_kind,
  read_request,
  request_values,
  numbers_read,
  asked_by,
  Fits,
  Calls,
  TakesNumbers,
  Asks,
}
use Rattle.requests.specs.declared.request.Reason.{Reason}
use Rattle.requests.specs.declared.request.Reason.TheVariants.{UnknownCall, Number, MissingNumber, ExtraNumber, LineTooLong}
use Rattle.requests.specs.declared.word.CallName.{CallName}
use Rattle.std.specs.declared.ops.RangeInclusive.{RangeInclusive}
use Rattle.requests.specs.declared.request.Request as declared
use Rattle.requests.specs.declared.request.Request.TheVariants as asked

sets_join : (l : List ℕ) (i : ℕ) (xs ys : List ℕ) → sets l i (xs ++ ys) ≡ sets (sets l i xs) (i + length xs) ys
sets_join l i [] ys = rw (add-zero i)
sets_join l i (x ∷ xs) ys = rw (sets_join (set l i x) (suc i) xs ys, add-suc i (length xs), suc-add i (length xs))

set_last :
    (lent ns list : List ℕ) (count n : ℕ) → length ns ≡ count → list ≡ sets lent 0 ns
    → set list count n ≡ sets lent 0 (ns ++ (n ∷ []))
set_last lent ns list count n e w = let f : 0 + length ns ≡ count = omega arith in rw (sets_join lent 0 ns (n ∷ []), ← w, f)

-- numbers in front of those that follow them
abbrev pub after : List ℕ → Result (List ℕ) Reason → Result (List ℕ) Reason
after ns (Ok ms) = Ok (ns ++ ms)
after ns (Err reason) = Err reason

one_more : (ns : List ℕ) (n : ℕ) (rest : Result (List ℕ) Reason) → after ns (followed (Ok n) rest) ≡ after (ns ++ (n ∷ [])) rest
one_more ns n (Ok ms) = rw (append_assoc ns (n ∷ []) ms)
one_more ns n (Err reason) = refl

-- What is read of some words: the whole is the numbers in the list, and then those of the words that are left.
pub record Reads (words : List (List ℕ)) (takes : RangeInclusive ℕ) (lent list : List ℕ) (count : ℕ) : Type 0 where
  pub few : count ≤ takes.end
  pub long : length list ≡ length lent
  pub written : list ≡ sets lent 0 (take count list)
  pub values : values_read takes.end words ≡ take count list ++ values_read (takes.end - count) (drop count words)
  pub whole :
      read_numbers takes.start takes.end words
      ≡ after (take count list) (read_numbers (takes.start - count) (takes.end - count) (drop count words))

module _ {words : List (List ℕ)} {takes : RangeInclusive ℕ} {lent list : List ℕ} {count : ℕ} (r : Reads words takes lent list count) where
  -- no more numbers are read
  list_done : values_read (takes.end - count) (drop count words) ≡ [] → list ≡ sets lent 0 (values_read takes.end words)
  list_done e = r.written ∙ ap (sets lent 0) (sym (r.values ∙ ap (λ (x : List ℕ). take count list ++ x) e ∙ append-nil (take count list)))

  -- no word is left
  none_left : length words ≤ count → values_read (takes.end - count) (drop count words) ≡ []
  unfolding values_read
  none_left h = rw (drop_of_length-le words h)

  pub reads_missing : length words ≤ count → count < takes.start → TakesNumbers takes words lent list (Err MissingNumber)
  unfolding read_numbers
  reads_missing h k =
      record {
        numbers_are = sym (r.whole ∙ rw (drop_of_length-le words h, lt-ltb 0 (takes.start - count) (omega arith)));
        few = tt;
        list_is = list_done (none_left h);
      }

  pub reads_all : length words ≤ count → takes.start ≤ count → TakesNumbers takes words lent list (Ok count)
  unfolding read_numbers
  reads_all h k =
      record {
        numbers_are =
            sym (r.whole ∙ rw (drop_of_length-le words h, le-ltb 0 (takes.start - count) (omega arith), append-nil (take count list)));
        few = r.few;
        list_is = list_done (none_left h);
      }

  -- a word is left
  module _ {word : List ℕ} (left : drop count words ≡ word ∷ drop (count + 1) words) where
    module _ (k : count < takes.end) where
      reads_word :
          read_numbers takes.start takes.end words
          ≡ after (take count list) (followed (read_word word) (read_numbers (takes.start - count - 1) (takes.end - (count + 1)) (drop (count + 1) words)))
      unfolding read_numbers
      reads_word =
          let e : takes.end - count ≡ suc (takes.end - (count + 1)) = omega arith in
          r.whole ∙ rw (e, left)

      value_word :
          values_read (takes.end - count) (drop count words)
          ≡ before (read_word word) (values_read (takes.end - (count + 1)) (drop (count + 1) words))
      unfolding values_read
      value_word =
          let e : takes.end - count ≡ suc (takes.end - (count + 1)) = omega arith in
          rw (e, left)

      -- a word that is no number
      pub reads_wrong : (reason : Reason) → read_word word ≡ Err reason → TakesNumbers takes words lent list (Err reason)
      reads_wrong reason q =
          record {
            numbers_are = sym (reads_word ∙ rw q);
            few = tt;
            list_is = list_done (value_word ∙ rw q);
          }

      pub reads_more :
          (n : ℕ) → takes.end ≤ length list → read_word word ≡ Ok n
          → Reads words takes lent (set list count n) (count + 1)
      reads_more n l q =
          let e : takes.start - count - 1 ≡ takes.start - (count + 1) = omega arith in
          let room : count < length list = omega arith in
          let s : take (count + 1) (set list count n) ≡ take count list ++ (n ∷ []) =
          rw (add-one count) (take-suc-set list count n room) in
          record {
            few = omega arith;
            long = simp length-set r.long;
            written = rw s (set_last lent (take count list) list count n (length-take-le count list (omega arith)) r.written);
            values = r.values ∙ rw (value_word, q, s, append_assoc (take count list) (n ∷ []));
            whole = reads_word ∙ rw (q, e, one_more, s);
          }

    pub reads_extra : count ≡ takes.end → TakesNumbers takes words lent list (Err ExtraNumber)
    unfolding read_numbers values_read
    reads_extra e =
        let none : takes.end - count ≡ 0 = omega arith in
        record {
          numbers_are = sym (r.whole ∙ rw (none, left));
          few = tt;
          list_is = list_done (rw (none, left));
        }

-- what a `?` makes of an error
pub error_is : {A E : Type 0} (r : Result A E) (x : E) → IsErrAnd r (λ y. y ≡ x) → r ≡ Err x
error_is (Ok n) x h = absurd h
error_is (Err y) x h = ap Err h

-- a word is read by its number
pub word_read :
    (word : List ℕ) (number : Result ℕ NumberError) {read : Result ℕ Reason} → number ≡ number_of word
    → MatchResult number (λ n. read ≡ Ok n) (λ e. IsErrAnd read (λ reason. reason ≡ Number e)) → read ≡ read_word word
word_read word (Ok n) e h = rw (← e) h
word_read word (Err x) {read} e h = rw (← e) (error_is read (Number x) h)

-- The words behind the first, as the loop over them has them

pub words_of :
    {F : Type 0} {g : Mut F (Bor ℕ × Unit {0}) Bool} {f : F} {parts : Split ℕ F} {behind first : Skip (Split ℕ F)} (text : List ℕ)
    → split_rest parts ≡ text → split_done parts ≡ false → split_callee parts ≡ f
    → ((x : ℕ) (b : Bool) (q : F) → CalledAt g f x b q → (q ≡ f) × (b ≡ eqb x 32))
    → skip_source behind ≡ parts → skip_count behind ≡ 1 → first ≡ behind
    → YieldsList (skip_steps (split_steps g)) (λ x. x.now) first (drop 1 (slice_split (λ b. eqb b 32) text))
words_of {g = g} text rest done callee computes source count same =
    YieldsList-at same (YieldsList-from_skip 1 (YieldsList-at source (YieldsList-from_slice_split g (λ b. eqb b 32) text rest done callee computes)) count)

-- what is left where the loop is at a word
pub word_left :
    (text : List ℕ) {count at : ℕ} {word : List ℕ}
    → (at < length (drop 1 (slice_split (λ b. eqb b 32) text))) × (word ≡ get_or (drop 1 (slice_split (λ b. eqb b 32) text)) at word)
    → count ≡ at → drop count (drop 1 (split 32 text)) ≡ word ∷ drop (count + 1) (drop 1 (split 32 text))
word_left text {count} {at} {word} turn e =
    let words : List (List ℕ) = drop 1 (slice_split (λ b. eqb b 32) text) in
    rw (split_slices 32 text, e, drop-cons words at word turn.0, add-one at) (ap (λ x. x ∷ drop (suc at) words) (sym turn.1))

-- none is left at the end
pub words_end :
    (text : List ℕ) {count at : ℕ} → at ≡ length (drop 1 (slice_split (λ b. eqb b 32) text)) → count ≡ at
    → length (drop 1 (split 32 text)) ≤ count
words_end text e f = rw (split_slices 32 text) (omega arith)

-- A call by its name

-- a request means the same with the numbers that were read, and with the list at whose front they stand
front_means :
    (k : ℕ) (list : List ℕ) (r : Result declared.Request Reason) → k ≤ length list → IfOk r (Fits (length (take k list)))
    → asked_by r (take k list) ≡ asked_by r list
front_means k list (Ok asked.Nothing) h f = refl
front_means k list (Ok (asked.Open x)) h f = refl
front_means k list (Ok (asked.Call c read places)) h f =
    rw (take-take read.end k list (omega (arith, length-take-le k list h, f.1.0)))
front_means k list (Err reason) h f = refl

fits_more : (k : ℕ) (r : Result declared.Request Reason) → k ≤ 2048 → IfOk r (Fits k) → IfOk r (Fits 2048)
fits_more k (Ok asked.Nothing) h f = tt
fits_more k (Ok (asked.Open x)) h f = tt
fits_more k (Ok (asked.Call c read places)) h f = (f.0, (omega (arith, f.1.0), f.1.1))
fits_more k (Err reason) h f = tt

-- a name that is none
unknown : (name : Option CallName) (reason : Reason) → ok_or name UnknownCall ≡ Err reason → (name ≡ None) × (reason ≡ UnknownCall)
unknown None reason e = (refl, cc)
unknown (Some name) reason e = cc

pub call_unknown :
    (name : Option CallName) (words : List (List ℕ)) (list : List ℕ) (reason : Reason) → ok_or name UnknownCall ≡ Err reason
    → Asks (read_call name words) (call_values name words) list list (Err reason)
unfolding read_call
call_unknown name words list reason e =
    let u = unknown name reason e in record { request_is = rw (u.0, u.1); fits = tt; list_is = rw u.0 }

-- numbers that are wrong, a call
module _ {name : Option CallName} (words : List (List ℕ)) (list : List ℕ) where
  module _ {known : CallName} {takes : RangeInclusive ℕ} {read : Result ℕ Reason} {after : List ℕ} (e : name ≡ Some known) (t : takes ≡ taken known)
      (r : TakesNumbers takes words list after read) where
    values_so : after ≡ sets list 0 (call_values name words)
    values_so = rw e (rw t at r.list_is)

    numbers_so : numbers_read read after ≡ read_numbers (taken known).start (taken known).end words
    numbers_so = rw t at r.numbers_are

    pub call_wrong : (reason : Reason) → read ≡ Err reason → Asks (read_call name words) (call_values name words) list after (Err reason)
    unfolding read_call
    call_wrong reason q = record { request_is = rw (e, ← numbers_so, q); fits = tt; list_is = values_so }

    pub call_read :
        (k : ℕ) {asked : Result declared.Request Reason} → read ≡ Ok k → k ≤ 2048 → k ≤ length after → Calls known (take k after) asked
        → Asks (read_call name words) (call_values name words) list after asked
    unfolding read_call
    call_read k {asked} q m h c =
        record {
          request_is = sym (front_means k after asked h c.call_fits) ∙ c.call_is ∙ rw (e, ← numbers_so, q);
          fits = fits_more (length (take k after)) asked (omega (arith, length-take-le k after h)) c.call_fits;
          list_is = values_so;
        }

-- A request by its kind

pub passes :
    (text : List ℕ) (first : Option (Bor ℕ)) {passed : Bool} → option_copied first ≡ slice_get text 0
    → MatchOption first (passed ≡ true) (λ byte. passed ≡ eqb byte.now 35) → passed ≡ passed_over text
passes [] None e h = h
passes [] (Some byte) e h = cc
passes (b ∷ bs) None e h = cc
passes (b ∷ bs) (Some byte) e h = h ∙ ap (λ x. eqb x 35) (cc)

module _ {A : Type 0} (long none : A) (of : Option CallName → List (List ℕ) → A) where
  kind_long : (text : List ℕ) → 4096 < length text → by_kind long none of text ≡ long
  kind_long text h = rw (lt-ltb 4096 (length text) h)

  kind_passed : (text : List ℕ) → length text ≤ 4096 → passed_over text ≡ true → by_kind long none of text ≡ none
  kind_passed text h e = rw (le-ltb 4096 (length text) h, e)

  kind_call :
      (text word : List ℕ) (rest : List (List ℕ)) → length text ≤ 4096 → passed_over text ≡ false → split 32 text ≡ word ∷ rest
      → by_kind long none of text ≡ of (named word) rest
  kind_call text word rest h e p = rw (le-ltb 4096 (length text) h, e) (ap (by_name none of) p)

module _ (text list : List ℕ) where
  pub text_too_long : 4096 < length text → Asks (read_request text) (request_values text) list list (Err LineTooLong)
  unfolding read_request request_values
  text_too_long h =
      record {
        request_is = sym (kind_long (error LineTooLong) nothing read_call text h);
        fits = tt;
        list_is = rw (kind_long [] [] call_values text h);
      }

  module _ (h : length text ≤ 4096) where
    pub text_passed : passed_over text ≡ true → Asks (read_request text) (request_values text) list list (Ok asked.Nothing)
    unfolding read_request request_values
    text_passed e =
        record {
          request_is = sym (kind_passed (error LineTooLong) nothing read_call text h e);
          fits = tt;
          list_is = rw (kind_passed [] [] call_values text h e);
        }

    pub text_call :
        (word : List ℕ) (name : Option CallName) {rest : List (List ℕ)} {after : List ℕ} {r : Result declared.Request Reason}
        → passed_over text ≡ false → split 32 text ≡ word ∷ rest → name ≡ named word
        → Asks (read_call name rest) (call_values name rest) list after r
        → Asks (read_request text) (request_values text) list after r
    unfolding read_request request_values
    text_call word name {rest} ne p e a =
        record {
          request_is = a.request_is ∙ rw e (sym (kind_call (error LineTooLong) nothing read_call text word rest h ne p));
          fits = a.fits;
          list_is = a.list_is ∙ rw (e, kind_call [] [] call_values text word rest h ne p);
        }
