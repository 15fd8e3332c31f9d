-- A site of several feeders: what one of them sees, what all draw together, and one feeder changed.
use mathlib.Core.Logic.{◌⊎◌, inl, inr}
use mathlib.Core.Path.{◌≡◌, refl, sym, ap, subst, ◌∙◌}
use Prim.Native.Nat.{ℕ, zero, suc, ◌+◌, ◌-◌, max, ◌≤◌, ◌<◌}
use mathlib.Core.Bool.{Bool, true, false, cond, not, and-false, true≢false}
use mathlib.Core.List.{List, [], ◌∷◌, ◌++◌, map, append_assoc}
use native.Mathlib.Omega.{arith}
use lib.Dec.{leb}
use lib.ListN.{length, get_or, set, length-set}
use lib.Seq.{get_or-set_same, get_or-set_other}
use borrow.Author.Tests.{leb-true, le-ltb, eq-eqb, ne_eqb}
use Rattle.rules.specs.Basics.{Each, some}
use Rattle.rules.specs.Load.{Load, active, share, draws, count, counts, last_until, drawn, elsewhere, whole_of, IsLine, IsColumn}
use Rattle.rules.specs.Charge.{Charge, active_until, load_of, loads_of, is_finished, unfinished_charges, has_ticket, last_end}
use Rattle.rules.specs.Site.{Feeder, with_charges, State, no_feeder, feeder_of, charges_on, joined, site_charges, others_from, others_of, holding}
use Rattle.rules.specs.Calls.{feeder_with}
use Rattle.rules.specs.Valid.{IsFeeder, longest_tail, ValidState}
pub use Rattle.rules.specs.laws.Sites.{Own}
use Rattle.rules.specs.laws.Sites.{SeenIsOwn, OwnIsSeen, EveryFeederSeesTheSite}
use Rattle.rules.proofs.Ranges.{or_left, or_right, below_or_not}
use Rattle.rules.proofs.Lists.{map-append, some_append, each_map, each_append}
use Rattle.rules.proofs.Counts.{count-append}
use Rattle.rules.proofs.Ends.{until_kept}

-- What all lines draw together

pub line_column : (l : ℕ) → IsLine l → IsColumn l
line_column l h = record { low = h.low; high = omega (arith, h.high) }

pub drawn_append : (xs ys : List Load) (t : ℕ) → drawn (xs ++ ys) t ≡ drawn xs t + drawn ys t
drawn_append [] ys t = omega arith
drawn_append (x ∷ xs) ys t = rw (drawn_append xs ys t) (omega arith)

pub drawn_elsewhere : (xs : List Load) (t : ℕ) → drawn (map elsewhere xs) t ≡ drawn xs t
drawn_elsewhere [] t = refl
drawn_elsewhere (x ∷ xs) t = rw (drawn_elsewhere xs t)

share_whole : (i w : ℕ) → IsColumn i → whole_of (share i w) ≡ w
share_whole i w h = go (below_or_not i 2) (below_or_not i 3) (below_or_not i 4)
  where
    go : (i < 2) ⊎ (2 ≤ i) → (i < 3) ⊎ (3 ≤ i) → (i < 4) ⊎ (4 ≤ i) → whole_of (share i w) ≡ w
    go (inl a) b c = let e : i ≡ 1 = omega (arith, h.low) in rw e (omega arith)
    go (inr a) (inl b) c = let e : i ≡ 2 = omega arith in rw e (omega arith)
    go (inr a) (inr b) (inl c) = let e : i ≡ 3 = omega arith in rw e (omega arith)
    go (inr a) (inr b) (inr c) = let e : i ≡ 4 = omega (arith, h.high) in rw e (omega arith)

draws_whole : (x : Load) (t : ℕ) → IsColumn x.line → whole_of (λ l. draws x l t) ≡ cond (active x t) x.rate 0
draws_whole x t h = go (active x t)
  where
    go : (b : Bool) → whole_of (λ l. cond b (share x.line x.rate l) 0) ≡ cond b x.rate 0
    go true = share_whole x.line x.rate h
    go false = omega arith

-- on the three lines and the rest
pub whole_drawn : (xs : List Load) (t : ℕ) → Each (λ x. IsColumn x.line) xs → whole_of (counts xs t) ≡ drawn xs t
whole_drawn [] t e = omega arith
whole_drawn (x ∷ xs) t e = omega (arith, draws_whole x t e.0, whole_drawn xs t e.1)

-- finished charges draw nothing from the clock on
pub drawn_unfinished :
    (clock : ℕ) (cs : List Charge) (t : ℕ)
    → clock ≤ t
    → drawn (loads_of (unfinished_charges clock cs)) t ≡ drawn (loads_of cs) t
drawn_unfinished clock [] t h = refl
drawn_unfinished clock (c ∷ cs) t h = go (is_finished clock c) refl (drawn_unfinished clock cs t h)
  where
    go :
        (b : Bool)
        → is_finished clock c ≡ b
        → drawn (loads_of (unfinished_charges clock cs)) t ≡ drawn (loads_of cs) t
        → drawn (loads_of (cond (not b) (c ∷ unfinished_charges clock cs) (unfinished_charges clock cs))) t
        ≡ cond (active (load_of c) t) c.rate 0 + drawn (loads_of cs) t
    go true p later =
        rw (
          later,
          le-ltb t (active_until c) (omega (arith, leb-true (active_until c) clock p)),
          and-false (leb c.start t),
        )
        (omega arith)
    go false p later = rw later

-- What a feeder sees

-- other feeders draw on none of its lines
pub count_elsewhere : (xs : List Load) (l t : ℕ) → IsLine l → count (map elsewhere xs) l t ≡ 0
count_elsewhere [] l t h = refl
count_elsewhere (x ∷ xs) l t h =
    rw (ne_eqb 4 l (λ e. omega (arith, h.high)), count_elsewhere xs l t h) (either (active x t))
  where
    either : (b : Bool) → cond {A = ℕ} b 0 0 + 0 ≡ 0
    either true = omega arith
    either false = omega arith

-- a feeder's own loads behind those of the others: its lines count them alone, W counts all
pub count_beside :
    (xs ys : List Load) (l t : ℕ) → IsLine l → count (map elsewhere xs ++ ys) l t ≡ count ys l t
count_beside xs ys l t h = rw (count-append (map elsewhere xs) ys l t, count_elsewhere xs l t h) (omega arith)

columns_elsewhere : (xs : List Load) → Each (λ x. IsColumn x.line) (map elsewhere xs)
columns_elsewhere [] = tt
columns_elsewhere (x ∷ xs) = (four, columns_elsewhere xs)
  where
    four : IsColumn 4
    four = omega arith

pub whole_beside :
    (xs ys : List Load) (t : ℕ)
    → Each (λ y. IsLine y.line) ys
    → whole_of (counts (map elsewhere xs ++ ys) t) ≡ drawn xs t + drawn ys t
whole_beside xs ys t e =
    whole_drawn (map elsewhere xs ++ ys) t
    (each_append (λ x. IsColumn x.line) (map elsewhere xs) ys
    (columns_elsewhere xs)
    (each_map (λ y. IsLine y.line) (λ y. IsColumn y.line) (λ y h. line_column y.line h) ys e))
    ∙ rw (drawn_append (map elsewhere xs) ys t, drawn_elsewhere xs t)

pub lines_own : (cs : List Charge) → Each (λ c. IsLine c.line) cs → Each (λ x. IsLine x.line) (loads_of cs)
lines_own [] e = tt
lines_own (c ∷ cs) e = (e.0, lines_own cs e.1)

pub count_seen :
    (os cs : List Charge) (l t : ℕ)
    → IsLine l
    → count (map elsewhere (loads_of os) ++ loads_of cs) l t ≡ count (loads_of cs) l t
count_seen os cs l t h = count_beside (loads_of os) (loads_of cs) l t h

-- what it sees is what the whole site draws
pub whole_seen : EveryFeederSeesTheSite
whole_seen os cs t e =
    whole_beside (loads_of os) (loads_of cs) t (lines_own cs e)
    ∙ rw (map-append load_of os cs, drawn_append (loads_of os) (loads_of cs) t)

pub seen_own : SeenIsOwn
seen_own y os cs t e s =
    record {
      limit = λ l j. rw (← (count_seen os cs l t j)) (s.limit l j);
      balance = λ l m j i. rw (← (count_seen os cs l t j), ← (count_seen os cs m t i)) (s.balance l m j i);
      site = rw (← (whole_seen os cs t e)) s.site;
    }

pub own_seen : OwnIsSeen
own_seen y os cs t e s =
    record {
      limit = λ l j. rw (count_seen os cs l t j) (s.limit l j);
      site = rw (whole_seen os cs t e) s.site;
      balance = λ l m j i. rw (count_seen os cs l t j, count_seen os cs m t i) (s.balance l m j i);
    }

-- Up to when is drawn, and the last end

pub last_until_append : (xs ys : List Load) → last_until (xs ++ ys) ≡ max (last_until xs) (last_until ys)
last_until_append [] ys = omega arith
last_until_append (x ∷ xs) ys = rw (last_until_append xs ys) (omega arith)

last_until_elsewhere : (xs : List Load) → last_until (map elsewhere xs) ≡ last_until xs
last_until_elsewhere [] = refl
last_until_elsewhere (x ∷ xs) = rw (last_until_elsewhere xs)

pub last_end_append : (cs ds : List Charge) → last_end (cs ++ ds) ≡ max (last_end cs) (last_end ds)
last_end_append [] ds = omega arith
last_end_append (c ∷ cs) ds = rw (last_end_append cs ds) (omega arith)

pub last_seen :
    (os cs : List Charge) → last_until (map elsewhere (loads_of os) ++ loads_of cs) ≡ last_until (loads_of (os ++ cs))
last_seen os cs =
    rw (
      last_until_append (map elsewhere (loads_of os)) (loads_of cs),
      last_until_elsewhere (loads_of os),
      map-append load_of os cs,
      last_until_append (loads_of os) (loads_of cs),
    )

-- One feeder and the others

-- a number made of a list of charges, in whatever order the parts stand
pub record Joins (g : List Charge → ℕ) : Type 0 where
  pub with : ℕ → ℕ → ℕ
  pub join : (cs ds : List Charge) → g (cs ++ ds) ≡ with (g cs) (g ds)
  pub turn : (a b : ℕ) → with a b ≡ with b a

pub drawn_joins : (t : ℕ) → Joins (λ cs. drawn (loads_of cs) t)
drawn_joins t =
    record {
      with = ◌+◌;
      join = λ cs ds. rw (map-append load_of cs ds, drawn_append (loads_of cs) (loads_of ds) t);
      turn = λ a b. omega arith;
    }

pub until_append :
    (cs ds : List Charge) → last_until (loads_of (cs ++ ds)) ≡ max (last_until (loads_of cs)) (last_until (loads_of ds))
until_append cs ds = rw (map-append load_of cs ds, last_until_append (loads_of cs) (loads_of ds))

pub until_joins : Joins (λ cs. last_until (loads_of cs))
until_joins = record { with = max; join = until_append; turn = λ a b. omega arith }

pub last_end_joins : Joins last_end
last_end_joins = record { with = max; join = last_end_append; turn = λ a b. omega arith }

others_all : (f i : ℕ) (xs : List Feeder) → f < i → others_from f i xs ≡ joined xs
others_all f i [] h = refl
others_all f i (x ∷ xs) h = rw (ne_eqb i f (λ e. omega arith), others_all f (suc i) xs (omega arith))

site_split :
    (g : List Charge → ℕ) → Joins g
    → (f i j : ℕ) (xs : List Feeder)
    → f ≡ i + j
    → j < length xs
    → g (others_from f i xs ++ (get_or xs j no_feeder).charges) ≡ g (joined xs)
site_split g a f i j [] e h = absurd (omega arith)
site_split g a f i zero (x ∷ xs) e h =
    rw (
      eq-eqb i f (omega arith),
      others_all f (suc i) xs (omega arith),
      a.join (joined xs) x.charges,
      a.join x.charges (joined xs),
      a.turn (g (joined xs)) (g x.charges),
    )
site_split g a f i (suc j) (x ∷ xs) e h =
    rw (
      ne_eqb i f (λ q. omega arith),
      append_assoc x.charges (others_from f (suc i) xs) (get_or xs j no_feeder).charges,
      a.join x.charges (others_from f (suc i) xs ++ (get_or xs j no_feeder).charges),
      a.join x.charges (joined xs),
      site_split g a f (suc i) j xs (omega arith) (omega arith),
    )

pub others_own :
    (g : List Charge → ℕ) → Joins g
    → (s : State) (f : ℕ)
    → IsFeeder s f
    → g (others_of s f ++ charges_on s f) ≡ g (site_charges s)
others_own g a s f h =
    site_split g a f 1 (f - 1) s.feeders (omega (arith, h.low)) (omega (arith, h.low, h.high))

-- One feeder changed

pub put_is : (s : State) (f n : ℕ) (cs : List Charge) (g : ℕ) → IsFeeder s g → IsFeeder (holding s f cs n) g
put_is s f n cs g h =
    record {
      low = h.low;
      high = rw (length-set s.feeders (f - 1) (with_charges (feeder_of s f) cs)) h.high;
    }

pub is_put : (s : State) (f n : ℕ) (cs : List Charge) (g : ℕ) → IsFeeder (holding s f cs n) g → IsFeeder s g
is_put s f n cs g h =
    record {
      low = h.low;
      high = rw (← (length-set s.feeders (f - 1) (with_charges (feeder_of s f) cs))) h.high;
    }

module _ (s : State) (f : ℕ) (h : IsFeeder s f) (n : ℕ) (cs : List Charge) where
  pub put_same : feeder_of (holding s f cs n) f ≡ with_charges (feeder_of s f) cs
  put_same =
      get_or-set_same s.feeders (f - 1) (with_charges (feeder_of s f) cs) no_feeder (omega (arith, h.low, h.high))

  pub put_other : (g : ℕ) → IsFeeder s g → (g ≡ f → ⊥) → feeder_of (holding s f cs n) g ≡ feeder_of s g
  put_other g j d =
      get_or-set_other s.feeders (f - 1) (g - 1) (with_charges (feeder_of s f) cs) no_feeder
      (λ e. d (omega (arith, h.low, j.low)))

others_set :
    (f i j : ℕ) (x : Feeder) (xs : List Feeder) → f ≡ i + j → others_from f i (set xs j x) ≡ others_from f i xs
others_set f i j x [] e = refl
others_set f i zero x (y ∷ xs) e = rw (eq-eqb i f (omega arith))
others_set f i (suc j) x (y ∷ xs) e = rw (others_set f (suc i) j x xs (omega arith))

pub put_others :
    (s : State) (f : ℕ) → IsFeeder s f → (n : ℕ) (cs : List Charge) → others_of (holding s f cs n) f ≡ others_of s f
put_others s f h n cs =
    others_set f 1 (f - 1) (with_charges (feeder_of s f) cs) s.feeders (omega (arith, h.low))

-- all that stands on the site afterwards
pub put_site :
    (g : List Charge → ℕ) → Joins g
    → (s : State) (f : ℕ)
    → IsFeeder s f
    → (n : ℕ) (cs : List Charge)
    → g (site_charges (holding s f cs n)) ≡ g (others_of s f ++ cs)
put_site g a s f h n cs =
    sym (others_own g a (holding s f cs n) f (put_is s f n cs f h))
    ∙ ap (λ (os : List Charge). g (os ++ charges_on (holding s f cs n) f)) (put_others s f h n cs)
    ∙ ap (λ (x : Feeder). g (others_of s f ++ x.charges)) (put_same s f h n cs)

-- Every feeder changed

pub map_length : {A : Type 0} {B : Type 0} (f : A → B) (l : List A) → length (map f l) ≡ length l
map_length f [] = refl
map_length f (a ∷ l) = rw (map_length f l)

pub moved_drawn :
    (m : ℕ) (xs : List Feeder) (t : ℕ)
    → m ≤ t
    → drawn (loads_of (joined (map (λ x. with_charges x (unfinished_charges m x.charges)) xs))) t
    ≡ drawn (loads_of (joined xs)) t
moved_drawn m [] t h = refl
moved_drawn m (x ∷ xs) t h =
    rw (
      (drawn_joins t).join (unfinished_charges m x.charges)
          (joined (map (λ x. with_charges x (unfinished_charges m x.charges)) xs)),
      (drawn_joins t).join x.charges (joined xs),
      drawn_unfinished m x.charges t h,
      moved_drawn m xs t h,
    )

pub moved_until :
    (m : ℕ) (xs : List Feeder)
    → last_until (loads_of (joined (map (λ x. with_charges x (unfinished_charges m x.charges)) xs)))
    ≤ last_until (loads_of (joined xs))
moved_until m [] = omega arith
moved_until m (x ∷ xs) =
    omega (
      arith,
      until_append (unfinished_charges m x.charges)
          (joined (map (λ x. with_charges x (unfinished_charges m x.charges)) xs)),
      until_append x.charges (joined xs),
      until_kept (λ c. not (is_finished m c)) x.charges,
      moved_until m xs,
    )

pub moved_tails :
    (m : ℕ) (xs : List Feeder)
    → longest_tail (map (λ x. with_charges x (unfinished_charges m x.charges)) xs) ≡ longest_tail xs
moved_tails m [] = refl
moved_tails m (x ∷ xs) = rw (moved_tails m xs)

-- The feeder that holds a ticket

with_from :
    (t i : ℕ) (gs : List Feeder)
    → some (has_ticket t) (joined gs) ≡ true
    → (i ≤ feeder_with t i gs)
    × ((feeder_with t i gs < i + length gs) × (some (has_ticket t) (get_or gs (feeder_with t i gs - i) no_feeder).charges ≡ true))
with_from t i [] e = absurd (true≢false (sym e))
with_from t i (g ∷ gs) e = go (some (has_ticket t) g.charges) refl (with_from t (suc i) gs)
  where
    go :
        (b : Bool)
        → some (has_ticket t) g.charges ≡ b
        → (some (has_ticket t) (joined gs) ≡ true
        → (suc i ≤ feeder_with t (suc i) gs)
        × ((feeder_with t (suc i) gs < suc i + length gs)
        × (some (has_ticket t) (get_or gs (feeder_with t (suc i) gs - suc i) no_feeder).charges ≡ true)))
        → (i ≤ cond b i (feeder_with t (suc i) gs))
        × ((cond b i (feeder_with t (suc i) gs) < i + suc (length gs))
        × (some (has_ticket t) (get_or (g ∷ gs) (cond b i (feeder_with t (suc i) gs) - i) no_feeder).charges ≡ true))
    go true p later = let z : i - i ≡ 0 = omega arith in (omega arith, (omega arith, rw z p))
    go false p later =
        let r = later (rw (some_append (has_ticket t) g.charges (joined gs), p) at e) in
        let z : feeder_with t (suc i) gs - i ≡ suc (feeder_with t (suc i) gs - suc i) = omega (arith, r.0) in
        (omega (arith, r.0), (omega (arith, r.1.0), rw z r.1.1))

-- it is a feeder of the site, and holds it
pub feeder_with_lem :
    (s : State) (t : ℕ)
    → some (has_ticket t) (site_charges s) ≡ true
    → IsFeeder s (feeder_with t 1 s.feeders) × (some (has_ticket t) (charges_on s (feeder_with t 1 s.feeders)) ≡ true)
feeder_with_lem s t e =
    let r = with_from t 1 s.feeders e in
    (record { low = r.0; high = omega (arith, r.1.0) }, r.1.1)

-- Lists of feeders by number

pub each_get_d : {A : Type 0} (P : A → Type 0) (xs : List A) (j : ℕ) (d : A) → Each P xs → j < length xs → P (get_or xs j d)
each_get_d P [] j d e h = absurd (omega arith)
each_get_d P (x ∷ xs) zero d e h = e.0
each_get_d P (x ∷ xs) (suc j) d e h = each_get_d P xs j d e.1 (omega arith)

pub some-none : {A : Type 0} (f : A → Bool) (xs : List A) → some f xs ≡ false → Each (λ x. f x ≡ false) xs
some-none f [] e = tt
some-none f (x ∷ xs) e = (or_left (f x) (some f xs) e, some-none f xs (or_right (f x) (some f xs) e))

-- A feeder by its place in the list, which is one less than its number

pub place_number : (s : State) (i : ℕ) → i < length s.feeders → IsFeeder s (suc i)
place_number s i h = record { low = omega arith; high = omega arith }

pub number_place : (s : State) (i : ℕ) → feeder_of s (suc i) ≡ get_or s.feeders i no_feeder
number_place s i = let z : suc i - 1 ≡ i = omega arith in rw z

-- what holds of each feeder by its number
pub by_place :
    (s : State) (P : Feeder → Type 0)
    → ((f : ℕ) → IsFeeder s f → P (feeder_of s f))
    → (i : ℕ)
    → i < length s.feeders
    → P (get_or s.feeders i no_feeder)
by_place s P h i j = subst (λ (g : Feeder). P g) (number_place s i) (h (suc i) (place_number s i j))

-- The largest r

longest_high : (b : ℕ) (gs : List Feeder) → ((i : ℕ) → i < length gs → (get_or gs i no_feeder).tail ≤ b) → longest_tail gs ≤ b
longest_high b [] h = omega arith
longest_high b (g ∷ gs) h =
    omega (arith, h 0 (omega arith), longest_high b gs (λ i j. h (suc i) (omega arith)))

pub tails_high : (s : State) → ValidState s → longest_tail s.feeders ≤ 5
tails_high s v = longest_high 5 s.feeders (by_place s (λ g. g.tail ≤ 5) (λ f h. (v.settings f h).tail_high))
