-- One feeder of a valid site gets other charges: the site is valid again.
use mathlib.Core.Path.{◌≡◌, refl, sym, subst, ◌∙◌}
use Prim.Native.Nat.{ℕ, zero, suc, ◌+◌, ◌-◌, ◌*◌, ◌≤◌, ◌<◌}
use mathlib.Core.Bool.{Bool, true, false}
use mathlib.Core.List.{List, [], ◌∷◌}
use native.Mathlib.Omega.{arith}
use lib.Dec.{eqb}
use lib.ListN.{get_or, set, length-set}
use borrow.Author.Tests.{eqb-true, eqb-false}
use Rattle.rules.specs.Basics.{Each}
use Rattle.rules.specs.Load.{drawn, last_until, IsLine, sound}
use Rattle.rules.specs.Charge.{Charge, active_until, loads_of, seen}
use Rattle.rules.specs.Site.{Feeder, State, no_feeder, feeder_of, charges_on, site_charges, others_of, limits_of, with_charges, holding}
use Rattle.rules.specs.Valid.{ValidCharge, Apart, ValidSettings, ValidPlan, IsFeeder, longest_tail, ValidState}
use Rattle.rules.proofs.Lists.{each_map}
use Rattle.rules.proofs.Counts.{sound_from_lem, sound_true}
use Rattle.rules.proofs.Sites.{Own, seen_own, own_seen, last_seen, drawn_joins, until_joins, others_own, is_put, put_same, put_other, put_site}
use Rattle.rules.proofs.Apart.{apart_turn}

-- Charges that are held later

-- at a later clock and with more tickets given, if it is not finished
pub charge_later :
    (g : Feeder) (site clock later next more : ℕ) (c : Charge)
    → clock ≤ later
    → next ≤ more
    → later < active_until c
    → ValidCharge g site clock next c
    → ValidCharge g site later more c
charge_later g site clock later next more c h j unfinished v =
    record {
      ticket_low = v.ticket_low;
      ticket_given = omega (arith, v.ticket_given);
      line = v.line;
      time_low = v.time_low;
      time_high = v.time_high;
      active = v.active;
      due_high = v.due_high;
      ordered = omega (arith, v.ordered);
      not_early = v.not_early;
      unfinished = unfinished;
      rate = v.rate;
      within_limit = v.within_limit;
      within_bound = v.within_bound;
      within_site_lem = v.within_site_lem;
    }

-- the same of a feeder that differs in its charges alone
pub charge_held :
    (g : Feeder) (cs : List Charge) (site clock next : ℕ) (c : Charge)
    → ValidCharge g site clock next c
    → ValidCharge (with_charges g cs) site clock next c
charge_held g cs site clock next c v =
    record {
      ticket_low = v.ticket_low;
      ticket_given = v.ticket_given;
      line = v.line;
      time_low = v.time_low;
      time_high = v.time_high;
      active = v.active;
      due_high = v.due_high;
      ordered = v.ordered;
      not_early = v.not_early;
      unfinished = v.unfinished;
      rate = v.rate;
      within_limit = v.within_limit;
      within_bound = v.within_bound;
      within_site_lem = v.within_site_lem;
    }

pub settings_held : (g : Feeder) (cs : List Charge) → ValidSettings g → ValidSettings (with_charges g cs)
settings_held g cs v =
    record {
      limit_low = v.limit_low;
      limit_high = v.limit_high;
      percent_high = v.percent_high;
      bound_is = v.bound_is;
      bound_low = v.bound_low;
      tail_high = v.tail_high;
    }

plan_later : (site clock next more : ℕ) → next ≤ more → (g : Feeder) → ValidPlan site clock next g → ValidPlan site clock more g
plan_later site clock next more h g v =
    record {
      few = v.few;
      each =
          each_map (ValidCharge g site clock next) (ValidCharge g site clock more)
          (λ c p. charge_later g site clock clock next more c (omega arith) h p.unfinished p) g.charges v.each;
      rising = v.rising;
    }

pub lines_valid :
    (g : Feeder) (site clock next : ℕ) (cs : List Charge)
    → Each (ValidCharge g site clock next) cs
    → Each (λ c. IsLine c.line) cs
lines_valid g site clock next cs e = each_map (ValidCharge g site clock next) (λ c. IsLine c.line) (λ c v. v.line) cs e

-- A feeder, by what is known of the site

-- limit and balance by its own charges, W by all
abbrev pub OwnIn : State → Feeder → ℕ → Type 0
OwnIn s g t = Own g.limit g.bound s.site g.charges (site_charges s) t

pub own_in :
    (s : State) → ValidState s → (f : ℕ) → IsFeeder s f → (t : ℕ) → s.clock ≤ t → OwnIn s (feeder_of s f) t
own_in s v f h t j =
    let o = seen_own (limits_of s f) (others_of s f) (charges_on s f) t
    (lines_valid (feeder_of s f) s.site s.clock s.next (charges_on s f) (v.plan f h).each)
    (sound_from_lem (limits_of s f) s.clock (seen (limits_of s f) (charges_on s f)) (v.sound_on f h) t j) in
    record {
      limit = o.limit;
      balance = o.balance;
      site = rw (← (others_own (λ cs. drawn (loads_of cs) t) (drawn_joins t) s f h)) o.site;
    }

pub in_own :
    (s : State) (f : ℕ)
    → IsFeeder s f
    → Each (λ c. IsLine c.line) (charges_on s f)
    → ((t : ℕ) → s.clock ≤ t → OwnIn s (feeder_of s f) t)
    → sound (limits_of s f) s.clock (seen (limits_of s f) (charges_on s f)) ≡ true
in_own s f h e o =
    sound_true (limits_of s f) s.clock (seen (limits_of s f) (charges_on s f))
    (λ t j.
    own_seen (limits_of s f) (others_of s f) (charges_on s f) t e
    (record {
      limit = (o t j).limit;
      balance = (o t j).balance;
      site = rw (others_own (λ cs. drawn (loads_of cs) t) (drawn_joins t) s f h) (o t j).site;
    }))

-- up to when the site draws, as each feeder sees it
pub last_site :
    (s : State) (f : ℕ) → IsFeeder s f → last_until (seen (limits_of s f) (charges_on s f)) ≡ last_until (loads_of (site_charges s))
last_site s f h =
    last_seen (others_of s f) (charges_on s f) ∙ others_own (λ cs. last_until (loads_of cs)) until_joins s f h

-- the largest r stays
longest_set :
    (gs : List Feeder) (i : ℕ) (g : Feeder) → g.tail ≡ (get_or gs i no_feeder).tail → longest_tail (set gs i g) ≡ longest_tail gs
longest_set [] i g e = refl
longest_set (x ∷ gs) zero g e = rw e
longest_set (x ∷ gs) (suc i) g e = rw (longest_set gs i g e)

longest_held :
    (s : State) (f : ℕ) (cs : List Charge)
    → longest_tail (set s.feeders (f - 1) (with_charges (feeder_of s f) cs)) ≡ longest_tail s.feeders
longest_held s f cs = longest_set s.feeders (f - 1) (with_charges (feeder_of s f) cs) refl

-- One feeder changed

module _
    (s : State) (v : ValidState s) (f : ℕ) (h : IsFeeder s f) (next : ℕ) (cs : List Charge)
    (up : s.next ≤ next)
    (high : next ≤ 65536)
    (plan : ValidPlan s.site s.clock next (with_charges (feeder_of s f) cs))
    (apart : (g : ℕ) → IsFeeder s g → (g ≡ f → ⊥) → Apart cs (charges_on s g))
    (good : sound (limits_of s f) s.clock (seen (limits_of s f) cs) ≡ true)
    (ends : last_until (seen (limits_of s f) cs) ≤ s.clock + 1445 * (next - 1) + longest_tail s.feeders)
  where
    -- the feeder itself, or another, which is as it was
    by_number :
        (P : ℕ → Feeder → Type 0)
        → P f (with_charges (feeder_of s f) cs)
        → ((g : ℕ) → IsFeeder s g → (g ≡ f → ⊥) → P g (feeder_of s g))
        → (g : ℕ)
        → IsFeeder (holding s f cs next) g
        → P g (feeder_of (holding s f cs next) g)
    by_number P own rest g j = go (eqb g f) refl
      where
        go : (b : Bool) → eqb g f ≡ b → P g (feeder_of (holding s f cs next) g)
        go true e =
            subst (λ (i : ℕ). P i (feeder_of (holding s f cs next) i)) (sym (eqb-true g f e))
            (subst (λ (x : Feeder). P f x) (sym (put_same s f h next cs)) own)
        go false e =
            subst (λ (x : Feeder). P g x)
            (sym (put_other s f h next cs g (is_put s f next cs g j) (eqb-false g f e)))
            (rest g (is_put s f next cs g j) (eqb-false g f e))

    new_own : (t : ℕ) → s.clock ≤ t → OwnIn (holding s f cs next) (with_charges (feeder_of s f) cs) t
    new_own t j =
        let o = seen_own (limits_of s f) (others_of s f) cs t
        (lines_valid (with_charges (feeder_of s f) cs) s.site s.clock next cs plan.each)
        (sound_from_lem (limits_of s f) s.clock (seen (limits_of s f) cs) good t j) in
        record {
          limit = o.limit;
          balance = o.balance;
          site = rw (put_site (λ ds. drawn (loads_of ds) t) (drawn_joins t) s f h next cs) o.site;
        }

    new_plan :
        (g : ℕ) → IsFeeder (holding s f cs next) g → ValidPlan s.site s.clock next (feeder_of (holding s f cs next) g)
    new_plan =
        by_number (λ g x. ValidPlan s.site s.clock next x) plan
        (λ g j d. plan_later s.site s.clock s.next next up (feeder_of s g) (v.plan g j))

    pub holding_valid : ValidState (holding s f cs next)
    holding_valid =
        record {
          feeders_low = rw (length-set s.feeders (f - 1) (with_charges (feeder_of s f) cs)) v.feeders_low;
          feeders_high = rw (length-set s.feeders (f - 1) (with_charges (feeder_of s f) cs)) v.feeders_high;
          site_low = v.site_low;
          site_high = v.site_high;
          clock_high = v.clock_high;
          next_low = omega (arith, v.next_low);
          next_high = high;
          settings =
              by_number (λ g x. ValidSettings x) (settings_held (feeder_of s f) cs (v.settings f h)) (λ g j d. v.settings g j);
          plan = new_plan;
          sound_on =
              λ g j.
              in_own (holding s f cs next) g j
              (lines_valid (feeder_of (holding s f cs next) g) s.site s.clock next (charges_on (holding s f cs next) g)
              (new_plan g j).each)
              (λ t i.
              by_number (λ g x. OwnIn (holding s f cs next) x t) (new_own t i)
              (λ k l d.
              record {
                limit = (own_in s v k l t i).limit;
                balance = (own_in s v k l t i).balance;
                site = (new_own t i).site;
              })
              g j);
          apart =
              λ a b i j.
              by_number (λ a x. (a ≡ b → ⊥) → Apart x.charges (charges_on (holding s f cs next) b))
              (by_number (λ b y. (f ≡ b → ⊥) → Apart cs y.charges) (λ d. absurd (d refl)) (λ b j m d. apart b j m) b j)
              (λ a i m.
              by_number (λ b y. (a ≡ b → ⊥) → Apart (charges_on s a) y.charges)
              (λ d. apart_turn cs (charges_on s a) (apart a i m))
              (λ b j k d. v.apart a b i j d)
              b j)
              a i;
          ends_high =
              rw (
                put_site (λ ds. last_until (loads_of ds)) until_joins s f h next cs,
                ← (last_seen (others_of s f) cs),
                longest_held s f cs,
              )
              ends;
        }
