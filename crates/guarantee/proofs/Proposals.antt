-- The lists of starts that replans propose have a start for each waiting charge, and new starts change nothing else.
use mathlib.Core.Path.{◌≡◌, refl}
use Prim.Native.Nat.{ℕ, zero, suc, ◌+◌, ◌-◌, ◌≤◌}
use mathlib.Core.Bool.{Bool, true, false, cond}
use mathlib.Core.List.{List, [], ◌∷◌, ◌++◌, map}
use native.Mathlib.Omega.{arith}
use lib.ListN.{length}
use borrow.Author.Tests.{le-ltb}
use Rattle.rules.specs.Basics.{Each, Found, at, nothing}
use Rattle.rules.specs.Load.{Load, Limits, counts}
use Rattle.rules.specs.Charge.{Charge, starting, loads_of, is_begun, begun_charges, waiting_charges}
use Rattle.rules.specs.Search.{Caps, first_unbalanced}
use Rattle.rules.specs.Priority.{fits_at}
use Rattle.rules.specs.Replan.{Proposal, starts, none, Placed, all, stuck, place_all, proposed, sound_start, standing, by_latest_start, latest, place_lines, largest_line, smallest_line, lowered, placed_active, Outcome, ends, lowers, unbalanced_in, after_round, round, go_on, rounds_from, by_lines}
use Rattle.rules.specs.Judgement.{restarted}
use Rattle.rules.proofs.Restarts.{Restarted, empty, same, other}

-- Proposals

-- a start for each of n charges, or a cause that is not 0
abbrev pub Proper : ℕ → Proposal → Type 0
Proper n (starts ss) = length ss ≡ n
Proper n (none cause) = 1 ≤ cause

length-map : {A : Type 0} {B : Type 0} (f : A → B) (l : List A) → length (map f l) ≡ length l
length-map f [] = refl
length-map f (a ∷ l) = rw (length-map f l)

proposed_proper : (waiting : List Charge) (p : Placed) → Proper (length waiting) (proposed waiting p)
proposed_proper waiting (all placed) = length-map _ waiting
proposed_proper waiting stuck = omega arith

pub latest_proper :
    (y : Limits) (k : ℕ) (held : List Charge) → Proper (length (waiting_charges k held)) (latest y k held)
unfolding latest
latest_proper y k held =
    proposed_proper (waiting_charges k held)
    (place_all (sound_start y k (standing y k held)) [] (by_latest_start (waiting_charges k held)))

abbrev ProperOutcome : ℕ → Outcome → Type 0
ProperOutcome n (ends p) = Proper n p
ProperOutcome n (lowers i t v) = Unit {0}

unbalanced_proper :
    (n : ℕ) (y : Limits) (base : List Load) (placed : List Charge) (t : ℕ) → ProperOutcome n (unbalanced_in y base placed t)
unbalanced_proper n y base placed t =
    go (placed_active placed (largest_line f) t) (largest_line f) (f (smallest_line f) + y.bound)
  where
    f : ℕ → ℕ
    f = counts (base ++ loads_of placed) t

    go : (b : Bool) (i v : ℕ) → ProperOutcome n (cond b (lowers i t v) (ends (none 1)))
    go true i v = tt
    go false i v = omega arith

after_round_proper :
    (y : Limits) (k : ℕ) (held : List Charge) (p : Placed)
    → ProperOutcome (length (waiting_charges k held)) (after_round y k held p)
after_round_proper y k held stuck = omega arith
after_round_proper y k held (all placed) = go (first_unbalanced y k (standing y k held ++ loads_of placed)) refl
  where
    go :
        (f : Found)
        → first_unbalanced y k (standing y k held ++ loads_of placed) ≡ f
        → ProperOutcome (length (waiting_charges k held)) (after_round y k held (all placed))
    go nothing e = rw (e, after_round) (length-map _ (waiting_charges k held))
    go (at t) e =
        rw (e, after_round) (unbalanced_proper (length (waiting_charges k held)) y (standing y k held) placed t)

rounds_from_proper :
    (n : ℕ) (play : Caps → Outcome)
    → ((cap : Caps) → ProperOutcome n (play cap))
    → (left made : ℕ) (cap : Caps)
    → Proper n (rounds_from play left made cap).proposal
unfolding rounds_from
rounds_from_proper n play h zero made cap = go (play cap) (h cap)
  where
    go :
        (o : Outcome)
        → ProperOutcome n o
        → Proper n (go_on made (λ c. record { proposal = none 2; rounds = made }) cap o).proposal
    go (ends p) q = q
    go (lowers i t v) q = omega arith
rounds_from_proper n play h (suc left) made cap =
    go (play cap) (h cap) (λ c. rounds_from_proper n play h left (suc made) c)
  where
    go :
        (o : Outcome)
        → ProperOutcome n o
        → ((c : Caps) → Proper n (rounds_from play left (suc made) c).proposal)
        → Proper n (go_on made (rounds_from play left (suc made)) cap o).proposal
    go (ends p) q again = q
    go (lowers i t v) q again = again (lowered cap i t v)

pub lines_proper :
    (y : Limits) (k allowance : ℕ) (held : List Charge)
    → Proper (length (waiting_charges k held)) (by_lines y k allowance held).proposal
unfolding by_lines round
lines_proper y k allowance held =
    rounds_from_proper (length (waiting_charges k held)) (round y k held)
    (λ cap.
    after_round_proper y k held
    (place_lines (fits_at y.site cap) k (standing y k held) (waiting_charges k held) 3))
    (allowance - 1)
    1
    (λ l t. y.limit)

-- New starts

none_left : {A : Type 0} {B : Type 0} (f : A → B) (l : List A) → length l ≡ 0 → map f l ≡ []
none_left f [] e = refl
none_left f (a ∷ l) e = absurd (omega arith)

-- the waiting charges have the listed starts
pub restarted_starts :
    (k : ℕ) (cs : List Charge) (ss : List ℕ)
    → Each (λ u. k ≤ u) ss
    → length ss ≡ length (waiting_charges k cs)
    → map (λ (c : Charge). c.start) (waiting_charges k (restarted k cs ss)) ≡ ss
restarted_starts k [] [] h e = refl
restarted_starts k [] (s ∷ ss) h e = absurd (omega arith)
restarted_starts k (c ∷ cs) [] h e =
    none_left (λ (c : Charge). c.start) (waiting_charges k (c ∷ cs)) (omega arith)
restarted_starts k (c ∷ cs) (s ∷ ss) h e =
    go (is_begun k c) refl (restarted_starts k cs (s ∷ ss) h) (restarted_starts k cs ss h.1)
  where
    go :
        (b : Bool)
        → is_begun k c ≡ b
        → (length (s ∷ ss) ≡ length (waiting_charges k cs)
        → map (λ (c : Charge). c.start) (waiting_charges k (restarted k cs (s ∷ ss))) ≡ s ∷ ss)
        → (length ss ≡ length (waiting_charges k cs)
        → map (λ (c : Charge). c.start) (waiting_charges k (restarted k cs ss)) ≡ ss)
        → map (λ (c : Charge). c.start) (waiting_charges k (restarted k (c ∷ cs) (s ∷ ss))) ≡ s ∷ ss
    go true p u v = rw (p, p) (u (rw p at e))
    go false p u v =
        let f : suc (length ss) ≡ suc (length (waiting_charges k cs)) = rw p at e in
        rw (p, le-ltb s k h.0, v (omega arith))

-- begun charges stay
pub restarted_begun : {k : ℕ} {cs ds : List Charge} → Restarted k cs ds → begun_charges k ds ≡ begun_charges k cs
restarted_begun empty = refl
restarted_begun {k} (same {c = c} r) = rw (restarted_begun r)
restarted_begun {k} (other {c = c} {s = s} h j r) = rw (le-ltb c.start k h, le-ltb s k j, restarted_begun r)

-- all but the starts stays
pub restarted_otherwise :
    {k : ℕ} {cs ds : List Charge} → Restarted k cs ds → map (λ c. starting c 0) ds ≡ map (λ c. starting c 0) cs
restarted_otherwise empty = refl
restarted_otherwise (same r) = rw (restarted_otherwise r)
restarted_otherwise (other h j r) = rw (restarted_otherwise r)
