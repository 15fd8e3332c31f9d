-- The site that calls leave, as a function of the history: each feeder holds its charges that are not finished.
use mathlib.Core.Path.{◌≡◌, sym, ap, ◌∙◌}
use Prim.Native.Nat.{ℕ, zero, suc, ◌+◌, ◌-◌, ◌≤◌, ◌<◌}
use mathlib.Core.List.{List, map}
use native.Mathlib.Omega.{arith}
use lib.ListN.{length, set}
use Rattle.rules.specs.Basics.{tabulate}
use Rattle.rules.specs.Charge.{Charge, unfinished_charges}
use Rattle.rules.specs.Site.{Feeder, State, no_feeder, feeder_of, with_charges, holding}
use Rattle.rules.specs.Calls.{moved_to}
use Rattle.rules.specs.Valid.{IsFeeder}
use Rattle.rules.proofs.Lists.{length_tabulate, tabulate_same, map_tabulate, get_d_tabulate}
use Rattle.guarantee.proofs.History.{Booked, booked_on}
use Rattle.guarantee.proofs.Begun.{unfinished_later}

-- feeder f with the unfinished charges of the history
abbrev pub holds : (ℕ → Feeder) → ℕ → List Booked → ℕ → Feeder
holds x k bs f = with_charges (x f) (unfinished_charges k (booked_on f bs))

-- s is the site that the list of calls began with, k the clock, n the next ticket, hs the history
abbrev pub station_of : State → ℕ → ℕ → List Booked → State
station_of s k n hs =
    record {
      feeders = tabulate (holds (feeder_of s) k hs) (length s.feeders) 1;
      site = s.site;
      clock = k;
      next = n;
    }

-- Its feeders by number

module _ (s : State) (k n : ℕ) (hs : List Booked) (f : ℕ) where
  pub station_is : IsFeeder s f → IsFeeder (station_of s k n hs) f
  station_is h =
      record {
        low = h.low;
        high = rw (length_tabulate (holds (feeder_of s) k hs) (length s.feeders) 1) h.high;
      }

  pub is_station : IsFeeder (station_of s k n hs) f → IsFeeder s f
  is_station h =
      record {
        low = h.low;
        high = rw (← (length_tabulate (holds (feeder_of s) k hs) (length s.feeders) 1)) h.high;
      }

  pub station_feeder : IsFeeder s f → feeder_of (station_of s k n hs) f ≡ holds (feeder_of s) k hs f
  station_feeder h =
      get_d_tabulate (holds (feeder_of s) k hs) (length s.feeders) 1 (f - 1) no_feeder (omega (arith, h.low, h.high))
      ∙ ap (holds (feeder_of s) k hs) (from_one f h.low)
    where
      from_one : (f : ℕ) → 1 ≤ f → 1 + (f - 1) ≡ f
      from_one f h = omega arith

set_tabulate :
    {A : Type 0} (g h : ℕ → A) (n a j f : ℕ) (x : A)
    → j < n
    → f ≡ a + j
    → h f ≡ x
    → ((i : ℕ) → (i ≡ f → ⊥) → h i ≡ g i)
    → set (tabulate g n a) j x ≡ tabulate h n a
set_tabulate g h zero a j f x l e own rest = absurd (omega arith)
set_tabulate g h (suc n) a zero f x l e own rest =
    let same : f ≡ a = omega arith in
    rw (tabulate_same h g n (suc a) (λ i p q. rest i (λ z. omega arith)), ← same, own)
set_tabulate g h (suc n) a (suc j) f x l e own rest =
    rw (rest a (λ z. omega arith), set_tabulate g h n (suc a) j f x (omega arith) (omega arith) own rest)

-- other charges on one feeder
pub station_put :
    (s : State) (k n : ℕ) (hs : List Booked) (f : ℕ)
    → IsFeeder s f
    → (m : ℕ) (ds : List Booked) (cs : List Charge)
    → unfinished_charges k (booked_on f ds) ≡ cs
    → ((g : ℕ) → (g ≡ f → ⊥) → booked_on g ds ≡ booked_on g hs)
    → holding (station_of s k n hs) f cs m ≡ station_of s k m ds
station_put s k n hs f h m ds cs own rest =
    λ i. record { feeders = feeders i; site = s.site; clock = k; next = m }
  where
    feeders :
        set (tabulate (holds (feeder_of s) k hs) (length s.feeders) 1) (f - 1)
        (with_charges (feeder_of (station_of s k n hs) f) cs)
        ≡ tabulate (holds (feeder_of s) k ds) (length s.feeders) 1
    feeders =
        set_tabulate (holds (feeder_of s) k hs) (holds (feeder_of s) k ds) (length s.feeders) 1 (f - 1) f
        (with_charges (feeder_of (station_of s k n hs) f) cs)
        (omega (arith, h.low, h.high))
        (omega (arith, h.low))
        (ap (λ (c : List Charge). with_charges (feeder_of s f) c) own
        ∙ ap (λ (x : Feeder). with_charges x cs) (sym (station_feeder s k n hs f h)))
        (λ g d. ap (λ (c : List Charge). with_charges (feeder_of s g) (unfinished_charges k c)) (rest g d))

-- a later clock
pub station_moved :
    (s : State) (k n : ℕ) (hs : List Booked) (m : ℕ) → k ≤ m → moved_to (station_of s k n hs) m ≡ station_of s m n hs
station_moved s k n hs m h = λ i. record { feeders = feeders i; site = s.site; clock = m; next = n }
  where
    feeders :
        map (λ x. with_charges x (unfinished_charges m x.charges))
        (tabulate (holds (feeder_of s) k hs) (length s.feeders) 1)
        ≡ tabulate (holds (feeder_of s) m hs) (length s.feeders) 1
    feeders =
        map_tabulate (λ x. with_charges x (unfinished_charges m x.charges)) (holds (feeder_of s) k hs) (length s.feeders) 1
        ∙ tabulate_same (λ f. with_charges (feeder_of s f) (unfinished_charges m (unfinished_charges k (booked_on f hs))))
        (holds (feeder_of s) m hs) (length s.feeders) 1
        (λ f p q. ap (λ (c : List Charge). with_charges (feeder_of s f) c) (unfinished_later k m (booked_on f hs) h))
