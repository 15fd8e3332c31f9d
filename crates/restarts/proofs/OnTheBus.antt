-- The bus program's list of calls.
use mathlib.Core.Path.{◌≡◌, refl, ap, subst, ◌∙◌}
use Prim.Native.Nat.{ℕ, zero, suc}
use mathlib.Core.Bool.{Bool, true, false, cond, not}
use mathlib.Core.List.{List, [], ◌∷◌, ◌++◌}
use native.Mathlib.Omega.{arith}
use lib.ListN.{length, length-append}
use Rattle.rules.specs.Calls.{Asked, opening}
use Rattle.rules.proofs.Ranges.{and_right}
use Rattle.guarantee.specs.Past.{is_refused}
use Rattle.layout.specs.Saving.{has_one}
use Rattle.restarts.specs.Events.{opens, saves, restores, an_opening, CallList, beginning_with, left, one_more, is_saved, Lists, up_to, lists_from}
use Rattle.restarts.specs.Restarts.{Claimed}
use Rattle.restarts.specs.Bus.{BusCall, calls, reopens, is_taken, bus_calls, bus_events, bus_list, OnTheBus, StationIsOfTheBusList, OrdersAreKeptOnTheBus}
use Rattle.restarts.proofs.Restarts.{across}

-- the last save
last_saved : (ls : List CallList) (k : ℕ) (l : CallList) → length ls ≡ k → up_to (ls ++ (l ∷ [])) k ≡ l
last_saved [] zero l e = refl
last_saved [] (suc k) l e = absurd (omega arith)
last_saved (m ∷ ls) zero l e = absurd (omega arith)
last_saved (m ∷ ls) (suc k) l e = last_saved ls k l (omega arith)

taken_saved : (x : Asked) → is_taken x ≡ true → is_saved (beginning_with (an_opening x)) ≡ true
taken_saved x e = and_right (not (is_refused (opening x).answer)) (has_one (opening x).state) e

-- a list is saved: it is the image that the next calls are made to
saved_now : (d : CallList) (saved : List CallList) (k : ℕ) (ms : List BusCall) → is_saved d ≡ true
    → (lists_from (record { now = d; saved = saved }) (saves ∷ bus_calls k ms)).now
    ≡ (lists_from (record { now = d; saved = saved ++ (d ∷ []) }) (bus_calls k ms)).now
saved_now d saved k ms o =
    ap (λ (s : Bool). (lists_from (record { now = d; saved = cond s (saved ++ (d ∷ [])) saved }) (bus_calls k ms)).now) o

-- d is the list that the image is of
continued :
    (ms : List BusCall) (d : CallList) (l : Lists) (k : ℕ)
    → is_saved d ≡ true
    → length l.saved ≡ suc k
    → up_to l.saved k ≡ d
    → l.now ≡ d
    → (lists_from l (bus_calls k ms)).now ≡ bus_list d ms
continued [] d l k o n e f = f
continued (calls c ∷ ms) d l k o n e f =
    let more : CallList = one_more (up_to l.saved k) c in
    let same : more ≡ one_more d c = ap (λ (m : CallList). one_more m c) e in
    saved_now more l.saved (suc k) ms (ap is_saved same ∙ o)
    ∙ continued ms (one_more d c) (record { now = more; saved = l.saved ++ (more ∷ []) }) (suc k) o
    (rw (length-append l.saved (more ∷ [])) (omega (arith, n)))
    (last_saved l.saved (suc k) more n ∙ same)
    same
continued (reopens x ∷ ms) d l k o n e f =
    go (is_taken x) refl
    (λ p.
    continued ms began (record { now = began; saved = l.saved ++ (began ∷ []) }) (suc k) (taken_saved x p)
    (rw (length-append l.saved (began ∷ [])) (omega (arith, n)))
    (last_saved l.saved (suc k) began n)
    refl)
    (continued ms d (record { now = up_to l.saved k; saved = l.saved }) k o n e e)
  where
    began : CallList
    began = beginning_with (an_opening x)

    go :
        (b : Bool)
        → is_taken x ≡ b
        → (is_taken x ≡ true
        → (lists_from (record { now = began; saved = l.saved ++ (began ∷ []) }) (bus_calls (suc k) ms)).now ≡ bus_list began ms)
        → (lists_from (record { now = up_to l.saved k; saved = l.saved }) (bus_calls k ms)).now ≡ bus_list d ms
        → (lists_from l (opens x ∷ cond b (saves ∷ bus_calls (suc k) ms) (restores k ∷ bus_calls k ms))).now
        ≡ bus_list (cond b began d) ms
    go true p new old = saved_now began l.saved (suc k) ms (taken_saved x p) ∙ new p
    go false p new old = old

pub on_the_bus : OnTheBus
on_the_bus x ms t =
    saved_now began [] 0 ms (taken_saved x t)
    ∙ continued ms began (record { now = began; saved = began ∷ [] }) 0 (taken_saved x t) refl refl refl
  where
    began : CallList
    began = beginning_with (an_opening x)

pub stands_on_the_bus : StationIsOfTheBusList
stands_on_the_bus x ms t = (across x (bus_events ms)).station ∙ ap left (on_the_bus x ms t)

pub kept_on_the_bus : OrdersAreKeptOnTheBus
kept_on_the_bus x ms t = subst (λ (l : CallList). Claimed l) (on_the_bus x ms t) (across x (bus_events ms)).three
