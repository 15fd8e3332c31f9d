-- The first feeder that holds a ticket: the charges of all feeders are those before it, its own and those behind.
use mathlib.Core.Logic.{◌⊎◌, inl, inr}
use mathlib.Core.Path.{◌≡◌, refl, sym, ◌∙◌}
use Prim.Native.Nat.{ℕ, zero, suc, ◌+◌, ◌≤◌, ◌<◌}
use mathlib.Core.Bool.{Bool, true, false, cond, ◌||◌, true≢false}
use mathlib.Core.List.{List, [], ◌∷◌, ◌++◌, append_assoc}
use native.Mathlib.Omega.{arith}
use native.Mathlib.Numerals.{add-one}
use lib.Dec.{eqb}
use Rattle.rules.specs.Basics.{tabulate, Found, at, nothing, first, some}
use Rattle.rules.specs.Charge.{Charge, has_ticket}
use Rattle.rules.specs.Site.{Feeder, joined}
use Rattle.rules.specs.Calls.{told, feeder_with}
use Rattle.rules.proofs.Ranges.{below_or_not}
use Rattle.rules.proofs.Lists.{some_append}
use Rattle.site.specs.Answers.{told_charge}

abbrev pub is_at : Found → Bool
is_at (at i) = true
is_at nothing = false

-- One feeder

pub some_first :
    (g : ℕ → Charge) (ticket k a : ℕ)
    → some (has_ticket ticket) (tabulate g k a) ≡ is_at (first (λ i. eqb (g i).ticket ticket) k a)
some_first g ticket zero a = refl
some_first g ticket (suc k) a =
    rw (some_first g ticket k (suc a)) (go (eqb (g a).ticket ticket) (first (λ i. eqb (g i).ticket ticket) k (suc a)))
  where
    go : (b : Bool) (o : Found) → b || is_at o ≡ is_at (elim b as (λ x. Found) [ true ↦ at a | false ↦ o ])
    go true o = refl
    go false o = refl

-- one charge passes a test
pub some_place :
    (f : Charge → Bool) (g : ℕ → Charge) (k a i : ℕ) → a ≤ i → i < a + k → f (g i) ≡ true → some f (tabulate g k a) ≡ true
some_place f g zero a i h l e = absurd (omega arith)
some_place f g (suc k) a i h l e = go (below_or_not a i) (λ n. some_place f g k (suc a) i n (omega arith) e)
  where
    either : (b : Bool) → b || true ≡ true
    either true = refl
    either false = refl

    go : (a < i) ⊎ (i ≤ a) → (a < i → some f (tabulate g k (suc a)) ≡ true) → f (g a) || some f (tabulate g k (suc a)) ≡ true
    go (inl n) later = rw (later n) (either (f (g a)))
    go (inr n) later = let same : i ≡ a = omega arith in rw (rw same at e)

-- All feeders

-- the charges of one feeder among all, where none before them has the ticket
pub record Among (t : ℕ) (own all : List Charge) : Type 0 where
  pub before : List Charge
  pub behind : List Charge
  pub lacking : some (has_ticket t) before ≡ false
  pub whole : all ≡ before ++ (own ++ behind)

module _ (t : ℕ) (g : ℕ → Feeder) where
  among_more :
      (cs : List Charge) {own all : List Charge} → some (has_ticket t) cs ≡ false → Among t own all → Among t own (cs ++ all)
  among_more cs {own} {all} e w =
      record {
        before = cs ++ w.before;
        behind = w.behind;
        lacking = rw (some_append (has_ticket t) cs w.before, e, w.lacking);
        whole = rw w.whole (sym (append_assoc cs w.before (own ++ w.behind)));
      }

  pub among :
      (n a f : ℕ)
      → a ≤ f
      → f < a + n
      → ((i : ℕ) → i < f → some (has_ticket t) (g i).charges ≡ false)
      → Among t (g f).charges (joined (tabulate g n a))
  among zero a f h l e = absurd (omega arith)
  among (suc n) a f h l e = go (below_or_not a f) (λ p. among n (suc a) f p (omega arith) e)
    where
      go : (a < f) ⊎ (f ≤ a) → (a < f → Among t (g f).charges (joined (tabulate g n (suc a)))) → Among t (g f).charges ((g a).charges ++ joined (tabulate g n (suc a)))
      go (inl p) later = among_more (g a).charges (e a p) (later p)
      go (inr p) later =
          let same : f ≡ a = omega arith in
          record { before = []; behind = joined (tabulate g n (suc a)); lacking = refl; whole = rw same refl }

  -- its number
  pub number_with :
      (n a f : ℕ)
      → a ≤ f
      → f < a + n
      → ((i : ℕ) → i < f → some (has_ticket t) (g i).charges ≡ false)
      → some (has_ticket t) (g f).charges ≡ true
      → feeder_with t (suc a) (tabulate g n a) ≡ f + 1
  number_with zero a f h l e own = absurd (omega arith)
  number_with (suc n) a f h l e own = go (below_or_not a f) (λ p. number_with n (suc a) f p (omega arith) e own)
    where
      go : (a < f) ⊎ (f ≤ a) → (a < f → feeder_with t (suc (suc a)) (tabulate g n (suc a)) ≡ f + 1) → cond (some (has_ticket t) (g a).charges) (suc a) (feeder_with t (suc (suc a)) (tabulate g n (suc a))) ≡ f + 1
      go (inl p) later = rw (e a p) (later p)
      go (inr p) later = let same : f ≡ a = omega arith in rw (← same, own) (sym (add-one f))

  -- no feeder holds it
  pub nowhere :
      (n a : ℕ) → ((i : ℕ) → i < a + n → some (has_ticket t) (g i).charges ≡ false) → some (has_ticket t) (joined (tabulate g n a)) ≡ false
  nowhere zero a e = refl
  nowhere (suc n) a e =
      rw (some_append (has_ticket t) (g a).charges (joined (tabulate g n (suc a))), e a (omega arith), nowhere n (suc a) (λ i h. e i (omega arith)))

-- What the rules ask of all charges

module _ {t : ℕ} {own all : List Charge} (w : Among t own all) where
  told_past : (clock : ℕ) (cs ds : List Charge) → some (has_ticket t) cs ≡ false → told clock (cs ++ ds) t ≡ told clock ds t
  told_past clock [] ds e = refl
  told_past clock (c ∷ cs) ds e = go (has_ticket t c) e (told_past clock cs ds)
    where
      go :
          (b : Bool)
          → b || some (has_ticket t) cs ≡ false
          → (some (has_ticket t) cs ≡ false → told clock (cs ++ ds) t ≡ told clock ds t)
          → cond b (told_charge clock c) (told clock (cs ++ ds) t) ≡ told clock ds t
      go true z later = absurd (true≢false z)
      go false z later = later z

  told_here : (clock : ℕ) (cs ds : List Charge) → some (has_ticket t) cs ≡ true → told clock (cs ++ ds) t ≡ told clock cs t
  told_here clock [] ds e = absurd (true≢false (sym e))
  told_here clock (c ∷ cs) ds e = go (has_ticket t c) e (told_here clock cs ds)
    where
      go :
          (b : Bool)
          → b || some (has_ticket t) cs ≡ true
          → (some (has_ticket t) cs ≡ true → told clock (cs ++ ds) t ≡ told clock cs t)
          → cond b (told_charge clock c) (told clock (cs ++ ds) t) ≡ cond b (told_charge clock c) (told clock cs t)
      go true z later = refl
      go false z later = later z

  pub among_told : (clock : ℕ) → some (has_ticket t) own ≡ true → told clock all t ≡ told clock own t
  among_told clock e =
      rw w.whole (told_past clock w.before (own ++ w.behind) w.lacking ∙ told_here clock own w.behind e)

  -- a test that one of its own passes
  pub among_some : (f : Charge → Bool) → some f own ≡ true → some f all ≡ true
  among_some f e = rw (w.whole, some_append f w.before (own ++ w.behind), some_append f own w.behind, e) (either (some f w.before))
    where
      either : (b : Bool) → b || true ≡ true
      either true = refl
      either false = refl
