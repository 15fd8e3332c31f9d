-- A chain of openings, calls, saves and restores of the code goes with the events of the rules.
use mathlib.Core.Path.{◌≡◌, refl, sym, ap, subst, ◌∙◌}
use Prim.Native.Nat.{ℕ, zero, suc}
use mathlib.Core.Bool.{Bool, true, false, cond}
use mathlib.Core.List.{List, [], ◌∷◌, ◌++◌, map, append-nil}
use native.Mathlib.Omega.{arith}
use lib.Dec.{ltb, eqb}
use lib.ListN.{length, get_or}
use borrow.Author.Tests.{eqb-false, ne_eqb}
use Rattle.std.specs.Prelude.{Result, Ok, Err}
use Rattle.rules.specs.Basics.{Each}
use Rattle.rules.specs.Site.{State}
use Rattle.rules.specs.Calls as rules
use Rattle.rules.specs.Calls.{fresh, least, opening, step}
use Rattle.rules.proofs.Lists.{map-append, each_append}
use Rattle.rules.proofs.Sites.{map_length}
use Rattle.guarantee.specs.Past.{Past, beginning, extended, past}
use Rattle.guarantee.proofs.Unmoved.{after-append}
use Rattle.refusals.specs.declared.Refusal.{Refusal}
use Rattle.refusals.specs.Refusals.{number_of, refusal_in}
use Rattle.layout.specs.Image.{image_of}
use Rattle.layout.specs.Saving.{has_one, saving}
use Rattle.layout.specs.Reading.{RestoreResult, restoring}
use Rattle.station.specs.View.{view, Valid}
use Rattle.station.proofs.Refusing.{number_some}
use Rattle.image.specs.Answers.{Saves}
use Rattle.restarts.specs.Events as events
use Rattle.restarts.specs.Events.{Beginning, an_opening, an_image, a_refused_restore, first, CallList, beginning_with, left, is_saved, Lists, up_to, lists_from, brought}
use Rattle.restarts.specs.Restarts as controller
use Rattle.restarts.specs.Restarts.{Outcome, read, shows, due}
use Rattle.restarts.specs.Minutes.{known_of}
use Rattle.restarts.proofs.Feeders.{left_saved}
use Rattle.restarts.proofs.Together.{Together, together_next, shown_due}
use Rattle.theorem.specs.Theorem.{Made, call_made, given, known}
use Rattle.theorem.specs.Images.{Save, Restore, MeetsRestore}
use Rattle.theorem.specs.Keeper.{CodeEvent, by_opening, by_call, by_save, by_restore, by_image, Keeper, if_saved, keeper_with, keeper_after, MeetsEvent, EventChain, MadeList, none_made, MadeLists, brought_by, lists_with, lists_after, calls_in, events_of, all_events_of}
use Rattle.theorem.specs.AcrossRestarts.{IsAsTheRulesSay, AreAsTheRulesSay, known_in_force}
use Rattle.theorem.proofs.Chains.{one_step}
use Rattle.theorem.proofs.Saving.{written_one, written_image, several_kept}

-- In the words of the rules

abbrev pub seen_as : Keeper → controller.Controller
seen_as c = record { station = view c.station; images = c.images }

abbrev pub lists_in : MadeLists → Lists
lists_in l = record { now = calls_in l.now; saved = map calls_in l.saved }

-- what is known after a list is what was seen of it
abbrev pub Known : MadeList → Type 0
Known l = known_in_force l ≡ known_of (calls_in l)

pub record Goes (c : Keeper) (l : MadeLists) : Type 0 where
  pub valid : Valid c.station
  pub together : Together (seen_as c) (lists_in l)
  pub now : Known l.now
  pub saved : Each Known l.saved

-- Calls

known-append : (h : Past) (ms : List Made) (m : Made) → known h (ms ++ (m ∷ [])) ≡ extended (known h ms) (call_made m) (given m)
known-append h [] m = refl
known-append h (n ∷ ms) m = known-append (extended h (call_made n) (given n)) ms m

one_known :
    (l : MadeList) (m : Made)
    → Known l
    → given m ≡ step (left (calls_in l)) (call_made m)
    → Known (record { beginning = l.beginning; calls = l.calls ++ (m ∷ []) })
one_known l m k e =
    let h : Past = beginning (first l.beginning) in
    let before : Past = past step (first l.beginning) (map call_made l.calls) in
    known-append h l.calls m
    ∙ ap (λ (p : Past). extended p (call_made m) (given m)) k
    ∙ ap (λ (r : rules.Result). extended before (call_made m) r) e
    ∙ sym (after-append step (map call_made l.calls) (call_made m ∷ []) h)
    ∙ ap (λ (cs : List rules.Call). past step (first l.beginning) cs) (sym (map-append call_made l.calls (m ∷ [])))

-- Restores

pub get_map :
    {A B : Type 0} (f : A → B) (l : List A) (k : ℕ) (a : A) → f (get_or l k a) ≡ get_or (map f l) k (f a)
get_map f [] k a = refl
get_map f (x ∷ l) zero a = refl
get_map f (x ∷ l) (suc k) a = get_map f l k a

each_get : {A : Type 0} (P : A → Type 0) (l : List A) (k : ℕ) (a : A) → Each P l → P a → P (get_or l k a)
each_get P [] k a e p = p
each_get P (x ∷ l) zero a e p = e.0
each_get P (x ∷ l) (suc k) a e p = each_get P l k a e.1 p

pub brought_same : (r : Restore) → MeetsRestore r → calls_in (brought_by r.image r.answer) ≡ brought r.image
brought_same r m = go r.answer refl
  where
    told : refusal_in r.answer ≡ (restoring r.image).refusal
    told = ap (λ (x : RestoreResult). x.refusal) m.result

    go : (a : Result Unit Refusal) → r.answer ≡ a → calls_in (brought_by r.image a) ≡ brought r.image
    go (Ok done) e =
        let n : (restoring r.image).refusal ≡ 0 = sym told ∙ ap refusal_in e in
        ap (λ (k : ℕ). beginning_with (cond (eqb k 0) (an_image r.image) a_refused_restore)) (sym n)
    go (Err refusal) e =
        let n : (restoring r.image).refusal ≡ number_of refusal = sym told ∙ ap refusal_in e in
        let other : eqb (number_of refusal) 0 ≡ false = ne_eqb (number_of refusal) 0 (λ z. omega (arith, z, number_some refusal)) in
        ap (λ (b : Bool). beginning_with (cond b (an_image r.image) a_refused_restore)) (sym (ap (λ (k : ℕ). eqb k 0) n ∙ other))

pub brought_known : (image : List ℕ) (a : Result Unit Refusal) → Known (brought_by image a)
brought_known image (Ok done) = refl
brought_known image (Err refusal) = refl

abbrev number_read : Outcome → ℕ
number_read (controller.gave r) = 0
number_read (controller.wrote image) = 0
number_read (controller.wrote_none k) = 0
number_read (read k) = k

-- Each event is one of the rules, or none

abbrev Follows : Keeper → MadeLists → CodeEvent → Type 0
Follows c l e =
    Together (seen_as (keeper_with c e)) (lists_in (lists_with l e))

save_follows :
    (c : Keeper) (l : MadeLists) (v : Save)
    → Goes c l
    → Saves (view c.station) v.previous v.before v.after v.answer
    → Follows c l (by_save v)
save_follows c l v g s = go v.answer refl
  where
    t : Together (seen_as c) (lists_in l)
    t = g.together

    one_told : has_one (view c.station) ≡ is_saved (calls_in l.now)
    one_told = ap has_one t.station ∙ left_saved (calls_in l.now)

    go :
        (a : Result ℕ Refusal)
        → v.answer ≡ a
        → Together
        (seen_as (record { station = c.station; images = c.images ++ if_saved a v.after }))
        (lists_in (record { now = l.now; saved = l.saved ++ if_saved a l.now }))
    go (Ok blocks) e =
        let one : has_one (view c.station) ≡ true = written_one (view c.station) v.previous v.before s blocks e in
        let image : v.after ≡ image_of (view c.station) = written_image (view c.station) v.previous v.before s blocks e in
        let n : Together (controller.does (seen_as c) events.saves) (events.next (lists_in l) events.saves)
        = together_next (seen_as c) (lists_in l) events.saves t in
        rw (image, map-append calls_in l.saved (l.now ∷ []))
        (subst (λ (b : Bool). Together (record { station = view c.station; images = cond b (c.images ++ (image_of (view c.station) ∷ [])) c.images }) (record { now = calls_in l.now; saved = map calls_in l.saved ++ (calls_in l.now ∷ []) })) one
        (subst (λ (b : Bool). Together (controller.does (seen_as c) events.saves) (record { now = calls_in l.now; saved = cond b (map calls_in l.saved ++ (calls_in l.now ∷ [])) (map calls_in l.saved) })) (sym one_told ∙ one) n))
    go (Err refusal) e = rw (append-nil c.images, append-nil l.saved) t

pub goes_with : (c : Keeper) (l : MadeLists) (e : CodeEvent) → Goes c l → MeetsEvent c e → Goes (keeper_with c e) (lists_with l e)
goes_with c l (by_opening o) g m =
    record {
      valid = m.valid;
      together =
          subst (λ (s : State). Together (record { station = s; images = c.images }) (lists_in (lists_with l (by_opening o))))
          (sym (ap (λ (r : rules.Result). r.state) m.result))
          (together_next (seen_as c) (lists_in l) (events.opens o.asked) g.together);
      now = refl;
      saved = g.saved;
    }
goes_with c l (by_call made) g m =
    let same : given made ≡ step (view c.station) (call_made made) = one_step c.station made g.valid m in
    record {
      valid = (m g.valid).gives.valid;
      together =
          rw (map-append call_made l.now.calls (made ∷ []), ap (λ (r : rules.Result). r.state) same)
          (together_next (seen_as c) (lists_in l) (events.made (call_made made)) g.together);
      now = one_known l.now made g.now (same ∙ ap (λ (s : State). step s (call_made made)) g.together.station);
      saved = g.saved;
    }
goes_with c l (by_save v) g m =
    record {
      valid = g.valid;
      together = save_follows c l v g (m g.valid);
      now = g.now;
      saved = all_known v.answer;
    }
  where
    all_known : (a : Result ℕ Refusal) → Each Known (l.saved ++ if_saved a l.now)
    all_known (Ok blocks) = each_append Known l.saved (l.now ∷ []) g.saved (g.now, tt)
    all_known (Err refusal) = rw (append-nil l.saved) g.saved
goes_with c l (by_restore k r) g m =
    record {
      valid = m.1.valid;
      together =
          rw (ap (λ (x : RestoreResult). x.state) m.1.result, m.0, get_map calls_in l.saved k (none_made a_refused_restore))
          (together_next (seen_as c) (lists_in l) (events.restores k) g.together);
      now = each_get Known l.saved k (none_made a_refused_restore) g.saved refl;
      saved = g.saved;
    }
goes_with c l (by_image r) g m =
    record {
      valid = m.valid;
      together =
          rw (ap (λ (x : RestoreResult). x.state) m.result, brought_same r m)
          (together_next (seen_as c) (lists_in l) (events.brings r.image) g.together);
      now = brought_known r.image r.answer;
      saved = g.saved;
    }

pub all_go : (c : Keeper) (l : MadeLists) (es : List CodeEvent) → Goes c l → EventChain c es → Goes (keeper_after c es) (lists_after l es)
all_go c l [] g m = g
all_go c l (e ∷ es) g m = all_go (keeper_with c e) (lists_with l e) es (goes_with c l e g m.0) m.1

-- What was seen

pub one_seen : (c : Keeper) (l : MadeLists) (e : CodeEvent) → Goes c l → MeetsEvent c e → IsAsTheRulesSay l e
one_seen c l (by_opening o) g m = m.result
one_seen c l (by_call made) g m =
    one_step c.station made g.valid m ∙ ap (λ (s : State). step s (call_made made)) g.together.station
one_seen c l (by_save v) g m =
    (m g.valid).result ∙ ap (λ (s : State). saving s v.previous v.before) g.together.station
one_seen c l (by_restore k r) g m =
    let next : Together (controller.does (seen_as c) (events.restores k)) (events.next (lists_in l) (events.restores k))
    = together_next (seen_as c) (lists_in l) (events.restores k) g.together in
    let told : (restoring (get_or c.images k [])).refusal ≡ cond (ltb k (length (map calls_in l.saved))) 0 20
    = ap number_read (shown_due (seen_as c) (lists_in l) (events.restores k) g.together) in
    let refused : (restoring (get_or c.images k [])).refusal ≡ cond (ltb k (length l.saved)) 0 20
    = told ∙ ap (λ (n : ℕ). cond (ltb k n) 0 20) (map_length calls_in l.saved) in
    let both : restoring (get_or c.images k []) ≡ record { refusal = cond (ltb k (length l.saved)) 0 20; state = left (up_to (map calls_in l.saved) k) }
    = λ i. record { refusal = refused i; state = next.station i } in
    m.1.result ∙ ap restoring m.0 ∙ both
one_seen c l (by_image r) g m = m.result

pub all_seen : (c : Keeper) (l : MadeLists) (es : List CodeEvent) → Goes c l → EventChain c es → AreAsTheRulesSay l es
all_seen c l [] g m = tt
all_seen c l (e ∷ es) g m = (one_seen c l e g m.0, all_seen (keeper_with c e) (lists_with l e) es (goes_with c l e g m.0) m.1)

-- The list in force

lists-append : (l : Lists) (es fs : List events.Event) → lists_from l (es ++ fs) ≡ lists_from (lists_from l es) fs
lists-append l [] fs = refl
lists-append l (e ∷ es) fs = lists-append (events.next l e) es fs

save_lists :
    (c : Keeper) (l : MadeLists) (v : Save)
    → Goes c l
    → Saves (view c.station) v.previous v.before v.after v.answer
    → lists_in (lists_with l (by_save v)) ≡ lists_from (lists_in l) (events_of (by_save v))
save_lists c l v g s = go v.answer refl
  where
    one_told : has_one (view c.station) ≡ is_saved (calls_in l.now)
    one_told = ap has_one g.together.station ∙ left_saved (calls_in l.now)

    go :
        (a : Result ℕ Refusal)
        → v.answer ≡ a
        → lists_in (record { now = l.now; saved = l.saved ++ if_saved a l.now })
        ≡ lists_from (lists_in l) (cond (eqb (refusal_in a) 20) [] (events.saves ∷ []))
    go (Ok blocks) e =
        let one : is_saved (calls_in l.now) ≡ true = sym one_told ∙ written_one (view c.station) v.previous v.before s blocks e in
        rw (map-append calls_in l.saved (l.now ∷ []), one) refl
    go (Err refusal) e = refused (eqb (number_of refusal) 20) refl
      where
        refused :
            (b : Bool)
            → eqb (number_of refusal) 20 ≡ b
            → lists_in (record { now = l.now; saved = l.saved ++ [] }) ≡ lists_from (lists_in l) (cond b [] (events.saves ∷ []))
        refused true f = rw (append-nil l.saved) refl
        refused false f =
            let several : is_saved (calls_in l.now) ≡ false
            = sym one_told ∙ several_kept (view c.station) v.previous v.before s refusal e (eqb-false (number_of refusal) 20 f) in
            rw (append-nil l.saved, several) refl

one_list :
    (c : Keeper) (l : MadeLists) (e : CodeEvent) → Goes c l → MeetsEvent c e → lists_in (lists_with l e) ≡ lists_from (lists_in l) (events_of e)
one_list c l (by_opening o) g m = refl
one_list c l (by_call made) g m = rw (map-append call_made l.now.calls (made ∷ [])) refl
one_list c l (by_save v) g m = save_lists c l v g (m g.valid)
one_list c l (by_restore k r) g m = rw (get_map calls_in l.saved k (none_made a_refused_restore)) refl
one_list c l (by_image r) g m = rw (brought_same r m) refl

pub all_lists :
    (c : Keeper) (l : MadeLists) (es : List CodeEvent)
    → Goes c l
    → EventChain c es
    → lists_in (lists_after l es) ≡ lists_from (lists_in l) (all_events_of es)
all_lists c l [] g m = refl
all_lists c l (e ∷ es) g m =
    all_lists (keeper_with c e) (lists_with l e) es (goes_with c l e g m.0) m.1
    ∙ ap (λ (x : Lists). lists_from x (all_events_of es)) (one_list c l e g m.0)
    ∙ sym (lists-append (lists_in l) (events_of e) (all_events_of es))
