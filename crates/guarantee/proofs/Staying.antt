-- The orders that stay and those withdrawn: one ticket more is withdrawn, one order more is accepted, and what a ticket is that no
-- charge has.
use mathlib.Core.Path.{◌≡◌, refl, sym, ap, ◌∙◌}
use Prim.Native.Nat.{ℕ, ◌+◌, ◌<◌}
use mathlib.Core.Bool.{Bool, true, false, cond, not, ◌&&◌, ◌||◌, true≢false}
use mathlib.Core.List.{List, [], ◌∷◌, ◌++◌}
use native.Mathlib.Omega.{arith}
use lib.Dec.{eqb}
use borrow.Author.Tests.{eqb-true, ne_eqb, not-true}
use Rattle.rules.specs.Basics.{Each, keep, some}
use Rattle.rules.specs.Charge.{Charge, is_begun, is_finished, unfinished_charges, has_ticket}
use Rattle.rules.specs.Calls.{told, refused}
use Rattle.rules.proofs.Ranges.{fails}
use Rattle.rules.proofs.Lists.{keep_append, some_append, each_map, kept_pass, keep_each}
use Rattle.rules.proofs.Withdrawing.{NoneHas, none-some}
use Rattle.guarantee.specs.Past.{Order, is_withdrawn, staying}
use Rattle.guarantee.proofs.Each.{keep_image}
use Rattle.guarantee.proofs.History.{Booked, order_in, orders_in, charges_in, charges_each}
use Rattle.guarantee.proofs.Tickets.{is_ticket}
use Rattle.guarantee.proofs.Enquiries.{told_not_held}
use Rattle.guarantee.proofs.Withdrawals.{without_in}
use Rattle.guarantee.proofs.Reports.{sum_begun}

-- Members of a list

-- what each member has, the one found has
pub found :
    {A : Type 0} (P : A → Type 0) (f : A → Bool) (l : List A)
    → some f l ≡ true
    → Each P l
    → (a : A) × (P a × (f a ≡ true))
found P f [] e p = absurd (true≢false (sym e))
found P f (a ∷ l) e p = go (f a) refl e (λ q. found P f l q p.1)
  where
    go :
        (b : Bool)
        → f a ≡ b
        → b || some f l ≡ true
        → (some f l ≡ true → (x : _) × (P x × (f x ≡ true)))
        → (x : _) × (P x × (f x ≡ true))
    go true q u rest = (a, (p.0, q))
    go false q u rest = rest u

-- one of those that pass a test passes both
pub some_both :
    {A : Type 0} (f g : A → Bool) (l : List A) → some f (keep g l) ≡ some (λ a. f a && g a) l
some_both f g [] = refl
some_both f g (a ∷ l) = go (g a) (some_both f g l)
  where
    go :
        (b : Bool)
        → some f (keep g l) ≡ some (λ a. f a && g a) l
        → some f (cond b (a ∷ keep g l) (keep g l)) ≡ (f a && b) || some (λ a. f a && g a) l
    go true ih = either (f a)
      where
        either : (x : Bool) → x || some f (keep g l) ≡ (x && true) || some (λ a. f a && g a) l
        either true = refl
        either false = ih
    go false ih = either (f a)
      where
        either : (x : Bool) → some f (keep g l) ≡ (x && false) || some (λ a. f a && g a) l
        either true = ih
        either false = ih

pub some_kept : {A : Type 0} (f g : A → Bool) (l : List A) → some f (keep g l) ≡ true → some f l ≡ true
some_kept f g [] e = e
some_kept f g (a ∷ l) e = go (f a) (g a) refl e (some_kept f g l)
  where
    go :
        (b d : Bool)
        → f a ≡ b
        → some f (cond d (a ∷ keep g l) (keep g l)) ≡ true
        → (some f (keep g l) ≡ true → some f l ≡ true)
        → b || some f l ≡ true
    go true d p u ih = refl
    go false true p u ih = let w : f a || some f (keep g l) ≡ true = u in ih (rw p at w)
    go false false p u ih = ih u

-- One ticket more

one_more :
    (t : ℕ) (ws : List ℕ) (os : List Order)
    → keep (λ o. not (eqb o.ticket t)) (staying ws os) ≡ staying (ws ++ (t ∷ [])) os
one_more t ws [] = refl
one_more t ws (o ∷ os) =
    go (is_withdrawn ws o) (eqb o.ticket t) refl refl (some_append (eqb o.ticket) ws (t ∷ [])) (one_more t ws os)
  where
    go :
        (x y : Bool)
        → is_withdrawn ws o ≡ x
        → eqb o.ticket t ≡ y
        → is_withdrawn (ws ++ (t ∷ [])) o ≡ is_withdrawn ws o || (eqb o.ticket t || false)
        → keep (λ o. not (eqb o.ticket t)) (staying ws os) ≡ staying (ws ++ (t ∷ [])) os
        → keep (λ o. not (eqb o.ticket t)) (staying ws (o ∷ os)) ≡ staying (ws ++ (t ∷ [])) (o ∷ os)
    go true y p q e ih = rw (e, p) ih
    go false true p q e ih = rw (e, p, q) ih
    go false false p q e ih = rw (e, p, q) (ap (λ (l : List Order). o ∷ l) ih)

pub left_staying :
    (t : ℕ) (ws : List ℕ) (os : List Order) (hs : List Booked)
    → orders_in hs ≡ staying ws os
    → orders_in (without_in t hs) ≡ staying (ws ++ (t ∷ [])) os
left_staying t ws os hs e =
    sym (keep_image order_in (λ o. not (eqb o.ticket t)) hs)
    ∙ ap (λ (l : List Order). keep (λ o. not (eqb o.ticket t)) l) e
    ∙ one_more t ws os

-- One order more: a new ticket is not among those withdrawn

pub staying_new :
    (ws : List ℕ) (os : List Order) (o : Order)
    → Each (λ t. t < o.ticket) ws
    → staying ws (os ++ (o ∷ [])) ≡ staying ws os ++ (o ∷ [])
staying_new ws os o e =
    keep_append (λ x. not (is_withdrawn ws x)) os (o ∷ [])
    ∙ rw (none-some (eqb o.ticket) ws
    (each_map (λ t. t < o.ticket) (λ t. eqb o.ticket t ≡ false) (λ t j. ne_eqb o.ticket t (λ q. omega arith)) ws e))

-- Withdrawn tickets

-- nobody has withdrawn at the beginning
pub all_stay : (os : List Order) → staying [] os ≡ os
all_stay [] = refl
all_stay (o ∷ os) = rw (all_stay os)

pub stays_not_withdrawn : (ws : List ℕ) (os : List Order) → Each (λ o. is_withdrawn ws o ≡ false) (staying ws os)
stays_not_withdrawn ws os =
    each_map (λ o. not (is_withdrawn ws o) ≡ true) (λ o. is_withdrawn ws o ≡ false) (λ o p. not-true (is_withdrawn ws o) p)
    (staying ws os)
    (kept_pass (λ o. not (is_withdrawn ws o)) os)

-- no charge of the history has one
pub withdrawn_none :
    (ws : List ℕ) (o : Order) (hs : List Booked)
    → Each (λ b. is_withdrawn ws (order_in b) ≡ false) hs
    → is_withdrawn ws o ≡ true
    → NoneHas o.ticket (charges_in hs)
withdrawn_none ws o hs e h =
    charges_each (λ c. has_ticket o.ticket c ≡ false)
    (λ b q.
    fails (has_ticket o.ticket b.charge)
    (λ p.
    let same : b.charge.ticket ≡ o.ticket = eqb-true b.charge.ticket o.ticket p in
    true≢false (sym h ∙ ap (λ (t : ℕ). some (eqb t) ws) (sym same) ∙ q)))
    hs e

-- it has not been reported
pub none_begun : (t k : ℕ) (hs : List Charge) → NoneHas t hs → sum_begun (is_ticket t) k hs ≡ 0
none_begun t k [] e = refl
none_begun t k (c ∷ hs) e = go (is_begun k c) e.0 (none_begun t k hs e.1)
  where
    go :
        (b : Bool)
        → has_ticket t c ≡ false
        → sum_begun (is_ticket t) k hs ≡ 0
        → cond b (cond (eqb c.ticket t) 1 0) 0 + sum_begun (is_ticket t) k hs ≡ 0
    go true p ih = rw (p, ih)
    go false p ih = rw ih

-- and an enquiry does not find it
pub none_told : (t k : ℕ) (hs : List Charge) → NoneHas t hs → told k (unfinished_charges k hs) t ≡ refused 15
none_told t k hs e =
    told_not_held k t (unfinished_charges k hs)
    (none-some (has_ticket t) (unfinished_charges k hs)
    (keep_each (λ c. has_ticket t c ≡ false) (λ c. not (is_finished k c)) hs e))
