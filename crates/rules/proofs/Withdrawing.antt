-- A ticket stands once among the charges of a valid station: who waits with it has not begun, and without it one place is free.
use mathlib.Core.Path.{◌≡◌, refl, sym, ap, ◌∙◌}
use Prim.Native.Nat.{ℕ, suc}
use mathlib.Core.Bool.{Bool, true, false, cond, not, ◌&&◌, ◌||◌, true≢false}
use mathlib.Core.List.{List, [], ◌∷◌}
use native.Mathlib.Omega.{arith}
use lib.ListN.{length}
use borrow.Author.Tests.{eqb-true, ne_eqb}
use Rattle.rules.specs.Basics.{Each, some}
use Rattle.rules.specs.Charge.{Charge, is_begun, is_waiting, has_ticket, without_ticket}
use Rattle.rules.specs.Valid.{Rising}
use Rattle.rules.specs.laws.Withdrawals.{OnePlaceIsFree, WaitingHasNotBegun, NotBegunWaits}
use Rattle.rules.proofs.Ranges.{or-none}
use Rattle.rules.proofs.Lists.{each_map, keep_all}
use Rattle.rules.proofs.Queues.{Distinct, rising_other}

-- no charge of a list has this ticket
abbrev pub NoneHas : ℕ → List Charge → Type 0
NoneHas t cs = Each (λ c. has_ticket t c ≡ false) cs

pub none-some : {A : Type 0} (f : A → Bool) (l : List A) → Each (λ a. f a ≡ false) l → some f l ≡ false
none-some f [] e = refl
none-some f (a ∷ l) e = or-none (f a) (some f l) e.0 (none-some f l e.1)

-- where all tickets differ from that of a charge which has ticket t, none has it
pub none_other :
    (t : ℕ) (c : Charge) (cs : List Charge)
    → Each (λ d. c.ticket ≡ d.ticket → ⊥) cs
    → has_ticket t c ≡ true
    → NoneHas t cs
none_other t c cs r p =
    let e : c.ticket ≡ t = eqb-true c.ticket t p in
    each_map (λ d. c.ticket ≡ d.ticket → ⊥) (λ d. has_ticket t d ≡ false) (λ d j. ne_eqb d.ticket t (λ q. j (e ∙ sym q))) cs r

-- behind the charge of a ticket none has it again
pub none_behind : (t : ℕ) (c : Charge) (cs : List Charge) → Rising (suc c.ticket) cs → has_ticket t c ≡ true → NoneHas t cs
none_behind t c cs r p = none_other t c cs (rising_other c.ticket (c ∷ cs) (omega arith, r)).0 p

none_with : (t : ℕ) (g : Charge → Bool) (cs : List Charge) → NoneHas t cs → some (λ c. has_ticket t c && g c) cs ≡ false
none_with t g cs e =
    none-some (λ c. has_ticket t c && g c) cs
    (each_map (λ c. has_ticket t c ≡ false) (λ c. has_ticket t c && g c ≡ false) (λ c p. rw p) cs e)

-- held and not begun is waiting
pub held_waits : NotBegunWaits
held_waits k t [] h b = h
held_waits k t (c ∷ cs) h b = go (has_ticket t c) (is_begun k c) h b (held_waits k t cs)
  where
    go :
        (x y : Bool)
        → x || some (has_ticket t) cs ≡ true
        → (x && y) || some (λ c. has_ticket t c && is_begun k c) cs ≡ false
        → (some (has_ticket t) cs ≡ true
        → some (λ c. has_ticket t c && is_begun k c) cs ≡ false
        → some (λ c. has_ticket t c && is_waiting k c) cs ≡ true)
        → (x && not y) || some (λ c. has_ticket t c && is_waiting k c) cs ≡ true
    go true true u v ih = absurd (true≢false v)
    go true false u v ih = refl
    go false y u v ih = ih u v

-- and the other way round
pub waits_held :
    (k t : ℕ) (cs : List Charge) → some (λ c. has_ticket t c && is_waiting k c) cs ≡ true → some (has_ticket t) cs ≡ true
waits_held k t [] h = h
waits_held k t (c ∷ cs) h = go (has_ticket t c) h (waits_held k t cs)
  where
    go :
        (x : Bool)
        → (x && is_waiting k c) || some (λ c. has_ticket t c && is_waiting k c) cs ≡ true
        → (some (λ c. has_ticket t c && is_waiting k c) cs ≡ true → some (has_ticket t) cs ≡ true)
        → x || some (has_ticket t) cs ≡ true
    go true u ih = refl
    go false u ih = ih u

pub distinct_not_begun :
    (k t : ℕ) (cs : List Charge)
    → Distinct cs
    → some (λ c. has_ticket t c && is_waiting k c) cs ≡ true
    → some (λ c. has_ticket t c && is_begun k c) cs ≡ false
distinct_not_begun k t [] r h = refl
distinct_not_begun k t (c ∷ cs) r h =
    go (has_ticket t c) (is_begun k c) (none_other t c cs r.0) h (distinct_not_begun k t cs r.1)
  where
    go :
        (x y : Bool)
        → (x ≡ true → NoneHas t cs)
        → (x && not y) || some (λ c. has_ticket t c && is_waiting k c) cs ≡ true
        → (some (λ c. has_ticket t c && is_waiting k c) cs ≡ true → some (λ c. has_ticket t c && is_begun k c) cs ≡ false)
        → (x && y) || some (λ c. has_ticket t c && is_begun k c) cs ≡ false
    go true true none u ih = absurd (true≢false (sym u ∙ none_with t (is_waiting k) cs (none refl)))
    go true false none u ih = none_with t (is_begun k) cs (none refl)
    go false y none u ih = ih u

-- of one feeder
pub waits_not_begun : WaitingHasNotBegun
waits_not_begun k t i cs r h = distinct_not_begun k t cs (rising_other i cs r) h

-- "its place is free"
pub place_free : OnePlaceIsFree
place_free t i [] r h = absurd (true≢false (sym h))
place_free t i (c ∷ cs) r h = go (has_ticket t c) (none_behind t c cs r.1) h (place_free t (suc c.ticket) cs r.1)
  where
    go :
        (x : Bool)
        → (x ≡ true → NoneHas t cs)
        → x || some (has_ticket t) cs ≡ true
        → (some (has_ticket t) cs ≡ true → suc (length (without_ticket t cs)) ≡ length cs)
        → suc (length (cond (not x) (c ∷ without_ticket t cs) (without_ticket t cs))) ≡ suc (length cs)
    go true none u ih =
        rw (keep_all (λ d. not (has_ticket t d)) cs
        (each_map (λ d. has_ticket t d ≡ false) (λ d. not (has_ticket t d) ≡ true) (λ d q. rw q) cs (none refl)))
    go false none u ih = ap suc (ih u)
