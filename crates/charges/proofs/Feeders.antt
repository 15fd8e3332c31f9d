-- Feeder by feeder: the charges of those from one on, and what the others draw.
use mathlib.Core.Path.{◌≡◌, ap, sym, ◌∙◌}
use Prim.Native.Nat.{ℕ, zero, suc, ◌+◌, ◌*◌, ◌≤◌, ◌<◌}
use mathlib.Core.Bool.{Bool, true, false, cond}
use mathlib.Core.List.{List, [], ◌∷◌, ◌++◌, append_assoc, append-nil, map}
use native.Mathlib.Omega.{arith}
use native.Mathlib.Numerals.{add-one}
use lib.Dec.{eqb}
use lib.ListN.{length, get_or, take, drop, length-append, length-map}
use lib.Seq.{drop-cons, drop-length, take-length, take-nil}
use borrow.Author.Tests.{eq-eqb, ne_eqb}
use Rattle.rules.specs.Load.{Load, elsewhere}
use Rattle.rules.specs.Charge.{load_of, loads_of, seen}
use Rattle.rules.specs.Site.{places, Feeder, State, no_feeder, charges_on, joined, others_from, limits_of}
use Rattle.rules.proofs.Lists.{map-append, length_tabulate}
use Rattle.charges.specs.declared.Charges.{Charges}
use Rattle.charges.specs.Arrays.{charge_at, charges_of, Holds}
use Rattle.charges.specs.Drawn.{seen_from}

-- From the last one to the first

pub joined_from : (gs : List Feeder) (k : ℕ) → k < length gs → joined (drop k gs) ≡ (get_or gs k no_feeder).charges ++ joined (drop (k + 1) gs)
joined_from gs k h = rw (drop-cons gs k no_feeder h, add-one k)

pub joined-none : (gs : List Feeder) → joined (drop (length gs) gs) ≡ []
joined-none gs = rw (drop-length gs)

-- The others, from the first one on

others_own : (f i k : ℕ) (gs : List Feeder) → i + k ≡ f → others_from f i (take (suc k) gs) ≡ others_from f i (take k gs)
others_own f i k [] e = rw (take-nil {A = Feeder} k)
others_own f i zero (g ∷ gs) e = rw (eq-eqb i f (omega arith))
others_own f i (suc k) (g ∷ gs) e =
    rw (ne_eqb i f (λ z. omega arith)) (ap (λ l. g.charges ++ l) (others_own f (suc i) k gs (omega arith)))

others_more :
    (f i k : ℕ) (gs : List Feeder)
    → (i + k ≡ f → ⊥)
    → k < length gs
    → others_from f i (take (suc k) gs) ≡ others_from f i (take k gs) ++ (get_or gs k no_feeder).charges
others_more f i k [] ne h = absurd (omega arith)
others_more f i zero (g ∷ gs) ne h = rw (ne_eqb i f (λ z. ne (omega arith))) (append-nil g.charges)
others_more f i (suc k) (g ∷ gs) ne h = go (eqb i f) (others_more f (suc i) k gs (λ z. ne (omega arith)) (omega arith))
  where
    go :
        (b : Bool)
        → others_from f (suc i) (take (suc k) gs) ≡ others_from f (suc i) (take k gs) ++ (get_or gs k no_feeder).charges
        → cond b (others_from f (suc i) (take (suc k) gs)) (g.charges ++ others_from f (suc i) (take (suc k) gs))
        ≡ cond b (others_from f (suc i) (take k gs)) (g.charges ++ others_from f (suc i) (take k gs)) ++ (get_or gs k no_feeder).charges
    go true ih = ih
    go false ih =
        ap (λ l. g.charges ++ l) ih ∙ sym (append_assoc g.charges (others_from f (suc i) (take k gs)) (get_or gs k no_feeder).charges)

-- what the others of the first k feeders draw, with room for one feeder more
pub record OthersDrawn (f : ℕ) (gs : List Feeder) (k : ℕ) (drawn : List Load) : Type 0 where
  pub loads : drawn ≡ map elsewhere (loads_of (others_from f 1 (take k gs)))
  pub few : length drawn ≤ places * k

module _ {f : ℕ} {gs : List Feeder} {k : ℕ} {drawn : List Load} (v : OthersDrawn f gs k drawn) where
  -- the feeder itself is passed over
  pub others_pass : k + 1 ≡ f → OthersDrawn f gs (k + 1) drawn
  others_pass e =
      record { loads = rw (add-one k, others_own f 1 k gs (omega arith)) v.loads; few = omega (arith, v.few) }

  pub others_join :
      {c : Charges} {next : List Load}
      → (k + 1 ≡ f → ⊥)
      → k < length gs
      → Holds (get_or gs k no_feeder).charges c
      → next ≡ drawn ++ seen_from false (loads_of (charges_of c))
      → OthersDrawn f gs (k + 1) next
  others_join {c} {next} ne h e w =
      record {
        loads =
            w
            ∙ rw (
              v.loads,
              e.charges,
              add-one k,
              others_more f 1 k gs (λ z. ne (omega arith)) h,
              map-append load_of (others_from f 1 (take k gs)) (get_or gs k no_feeder).charges,
              map-append elsewhere (loads_of (others_from f 1 (take k gs))) (loads_of (get_or gs k no_feeder).charges),
            );
        few = omega (arith, v.few, c.few, length_seen);
      }
    where
      length_seen : length next ≡ length drawn + c.held
      length_seen =
          ap length w
          ∙ length-append drawn (seen_from false (loads_of (charges_of c)))
          ∙ ap (λ n. length drawn + n) (length-map (loads_of (charges_of c)) elsewhere ∙ length-map (charges_of c) load_of ∙ length_tabulate (charge_at c) c.held 0)

-- all of them, and then the feeder itself: what a plan of it has to do with
pub drawn_seen :
    (s : State) (f : ℕ) {c : Charges} {k : ℕ} {drawn next : List Load}
    → OthersDrawn f s.feeders k drawn
    → k ≡ length s.feeders
    → Holds (charges_on s f) c
    → next ≡ drawn ++ seen_from true (loads_of (charges_of c))
    → next ≡ seen (limits_of s f) (charges_on s f)
drawn_seen s f v n e w = w ∙ rw (v.loads, e.charges, n, take-length s.feeders)
