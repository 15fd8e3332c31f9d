-- What holds of each charge of a site, and of each of its feeders, and what stays where one feeder gets other charges.
use Prim.Native.Nat.{ℕ, zero, suc, ◌-◌}
use mathlib.Core.Bool.{Bool, true, false, cond, not}
use mathlib.Core.List.{List, [], ◌∷◌, ◌++◌, map}
use lib.Dec.{eqb}
use lib.ListN.{get_or, set}
use Rattle.rules.specs.Basics.{Each}
use Rattle.rules.specs.Charge.{Charge, is_finished, unfinished_charges}
use Rattle.rules.specs.Site.{Feeder, State, no_feeder, feeder_of, charges_on, joined, site_charges, others_from, others_of, with_charges, holding}
use Rattle.rules.specs.Calls.{moved_to}
use Rattle.rules.proofs.Lists.{each_append, each_right, keep_each}

pub each_left : {A : Type 0} (P : A → Type 0) (l m : List A) → Each P (l ++ m) → Each P l
each_left P [] m e = tt
each_left P (a ∷ l) m e = (e.0, each_left P l m e.1)

-- Charges

module _ (P : Charge → Type 0) where
  on_from : (gs : List Feeder) (j : ℕ) → Each P (joined gs) → Each P (get_or gs j no_feeder).charges
  on_from [] j e = tt
  on_from (g ∷ gs) zero e = each_left P g.charges (joined gs) e
  on_from (g ∷ gs) (suc j) e = on_from gs j (each_right P g.charges (joined gs) e)

  others_from_lem : (f i : ℕ) (gs : List Feeder) → Each P (joined gs) → Each P (others_from f i gs)
  others_from_lem f i [] e = tt
  others_from_lem f i (g ∷ gs) e =
      go (eqb i f) (each_left P g.charges (joined gs) e) (others_from_lem f (suc i) gs (each_right P g.charges (joined gs) e))
    where
      go :
          (b : Bool)
          → Each P g.charges
          → Each P (others_from f (suc i) gs)
          → Each P (cond b (others_from f (suc i) gs) (g.charges ++ others_from f (suc i) gs))
      go true own rest = rest
      go false own rest = each_append P g.charges (others_from f (suc i) gs) own rest

  set_each : (gs : List Feeder) (j : ℕ) (g : Feeder) → Each P (joined gs) → Each P g.charges → Each P (joined (set gs j g))
  set_each [] j g e h = tt
  set_each (x ∷ gs) zero g e h = each_append P g.charges (joined gs) h (each_right P x.charges (joined gs) e)
  set_each (x ∷ gs) (suc j) g e h =
      each_append P x.charges (joined (set gs j g)) (each_left P x.charges (joined gs) e)
      (set_each gs j g (each_right P x.charges (joined gs) e) h)

  moved_each :
      (m : ℕ) (gs : List Feeder)
      → Each P (joined gs)
      → Each P (joined (map (λ g. with_charges g (unfinished_charges m g.charges)) gs))
  moved_each m [] e = tt
  moved_each m (g ∷ gs) e =
      each_append P (unfinished_charges m g.charges) (joined (map (λ g. with_charges g (unfinished_charges m g.charges)) gs))
      (keep_each P (λ c. not (is_finished m c)) g.charges (each_left P g.charges (joined gs) e))
      (moved_each m gs (each_right P g.charges (joined gs) e))

  module _ (s : State) (e : Each P (site_charges s)) where
    pub each_on : (f : ℕ) → Each P (charges_on s f)
    each_on f = on_from s.feeders (f - 1) e

    pub each_others : (f : ℕ) → Each P (others_of s f)
    each_others f = others_from_lem f 1 s.feeders e

    pub each_holding : (f : ℕ) (cs : List Charge) (n : ℕ) → Each P cs → Each P (site_charges (holding s f cs n))
    each_holding f cs n h = set_each s.feeders (f - 1) (with_charges (feeder_of s f) cs) e h

    pub each_moved : (m : ℕ) → Each P (site_charges (moved_to s m))
    each_moved m = moved_each m s.feeders e

-- Feeders

pub feeder_each : (P : Feeder → Type 0) (gs : List Feeder) (j : ℕ) → Each P gs → P no_feeder → P (get_or gs j no_feeder)
feeder_each P [] j e d = d
feeder_each P (g ∷ gs) zero e d = e.0
feeder_each P (g ∷ gs) (suc j) e d = feeder_each P gs j e.1 d

pub each_set : (P : Feeder → Type 0) (gs : List Feeder) (j : ℕ) (g : Feeder) → Each P gs → P g → Each P (set gs j g)
each_set P [] j g e h = tt
each_set P (x ∷ gs) zero g e h = (h, e.1)
each_set P (x ∷ gs) (suc j) g e h = (e.0, each_set P gs j g e.1 h)

pub each_feeders :
    (P : Feeder → Type 0) (h : Feeder → Feeder) → ((g : Feeder) → P g → P (h g)) → (gs : List Feeder) → Each P gs → Each P (map h gs)
each_feeders P h k [] e = tt
each_feeders P h k (g ∷ gs) e = (k g e.0, each_feeders P h k gs e.1)
