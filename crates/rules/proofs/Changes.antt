-- What a commit, a clock move and a withdrawal leave is a valid site again.
use mathlib.Core.Path.{◌≡◌, refl, sym, subst}
use Prim.Native.Nat.{ℕ, suc, ◌+◌, ◌-◌, ◌*◌, max, ◌≤◌, ◌<◌}
use mathlib.Core.Bool.{Bool, true, not}
use mathlib.Core.List.{List, [], ◌∷◌, ◌++◌, append_assoc}
use native.Mathlib.Omega.{arith}
use lib.ListN.{length-append, get_or-map}
use borrow.Author.Tests.{leb-false, not-true}
use Rattle.rules.specs.Basics.{Each, at}
use Rattle.rules.specs.Load.{Limits, last_until, IsLine}
use Rattle.rules.specs.Charge.{Charge, active_until, draw_of, load_of, loads_of, seen, is_finished, unfinished_charges, has_ticket, without_ticket}
use Rattle.rules.specs.Search.{added}
use Rattle.rules.specs.Site.{Feeder, State, no_feeder, feeder_of, charges_on, limits_of, with_charges, holding}
use Rattle.rules.specs.Calls.{new_charge, draw_for, start_for, taking, feeder_with, moved_to}
use Rattle.rules.specs.Valid.{ValidCharge, Apart, ValidSettings, ValidPlan, IsFeeder, longest_tail, ValidState}
use Rattle.rules.proofs.Lists.{map-append, each_map, each_append, each_keep, keep_each, length_keep}
use Rattle.rules.proofs.Searches.{earliest_first}
use Rattle.rules.proofs.Granted.{OrderGranted, MoveGranted, WithdrawGranted}
use Rattle.rules.proofs.Tickets.{rising_keep, rising_append}
use Rattle.rules.proofs.Ends.{until_kept, count_unfinished}
use Rattle.rules.proofs.Apart.{apart_keep}
use Rattle.rules.proofs.Sites.{last_until_append, map_length, moved_drawn, moved_until, moved_tails, feeder_with_lem}
use Rattle.rules.proofs.Holding.{charge_later, charge_held, settings_held, lines_valid, OwnIn, own_in, in_own, last_site, holding_valid}

-- A commit

-- one charge more is one load more
pub seen_more :
    (y : Limits) (cs : List Charge) (c : Charge) → seen y (cs ++ (c ∷ [])) ≡ added (seen y cs) (draw_of c) c.start
seen_more y cs c = rw (map-append load_of cs (c ∷ []), append_assoc y.others (loads_of cs) (load_of c ∷ []))

-- no later than the last one before and its own p + r
new_end :
    (last clock next start time tail tails : ℕ)
    → last ≤ clock + 1445 * (next - 1) + tails
    → 1 ≤ next
    → time ≤ 1440
    → tail ≤ 5
    → start < clock + suc (last - clock)
    → max last (max (start + (time + tail)) 0) ≤ clock + 1445 * (suc next - 1) + tails
new_end last clock next start time tail tails a b c d e = omega arith

pub commit_valid :
    (s : State) (f line p d rate start : ℕ)
    → ValidState s
    → OrderGranted s f line p d rate
    → start_for s f (draw_for s f line p rate) ≡ at start
    → ValidState (taking s f (new_charge s f line p d rate start))
commit_valid s f line p d rate start v g e =
    let h : IsFeeder s f = g.is_feeder_lem in
    let y : Limits = limits_of s f in
    let own : Feeder = feeder_of s f in
    let cs : List Charge = charges_on s f in
    let new : Charge = new_charge s f line p d rate start in
    let more : List Charge = cs ++ (new ∷ []) in
    let r = earliest_first y s.clock (seen y cs) (draw_for s f line p rate) start e in
    let low : s.clock ≤ start = r.low in
    let high : start < s.clock + suc (last_until (seen y cs) - s.clock) = r.high in
    holding_valid s v f h (suc s.next) more (omega arith) (omega (arith, g.ticket_left))
    (record {
      few = rw (length-append cs (new ∷ [])) (omega (arith, g.room));
      each =
          each_append (ValidCharge (with_charges own more) s.site s.clock (suc s.next)) cs (new ∷ [])
          (each_map (ValidCharge own s.site s.clock s.next) (ValidCharge (with_charges own more) s.site s.clock (suc s.next))
          (λ c p.
          charge_held own more s.site s.clock (suc s.next) c
          (charge_later own s.site s.clock s.clock s.next (suc s.next) c (omega arith) (omega arith) p.unfinished p))
          cs (v.plan f h).each) (
            record {
              ticket_low = v.next_low;
              ticket_given = omega arith;
              line = g.is_line;
              time_low = g.time_low;
              time_high = g.time_high;
              active = refl;
              due_high = g.due_high;
              ordered = omega arith;
              not_early = low;
              unfinished = omega (arith, g.time_low);
              rate = g.is_rate;
              within_limit = g.within_limit;
              within_bound = g.within_bound;
              within_site_lem = g.within_site_lem;
            },
            tt,
          );
      rising =
          rising_append 1 cs new (v.plan f h).rising v.next_low
          (each_map (ValidCharge own s.site s.clock s.next) (λ x. x.ticket < s.next) (λ c p. p.ticket_given) cs
          (v.plan f h).each);
    })
    (λ k j n.
    each_append (λ c. Each (λ x. c.ticket ≡ x.ticket → ⊥) (charges_on s k)) cs (new ∷ [])
    (v.apart f k h j (λ q. n (sym q))) (
      each_map (ValidCharge (feeder_of s k) s.site s.clock s.next) (λ x. s.next ≡ x.ticket → ⊥)
          (λ c w q. omega (arith, w.ticket_given)) (charges_on s k) (v.plan k j).each,
      tt,
    ))
    (rw (seen_more y cs new) r.here)
    (rw (seen_more y cs new, last_until_append (seen y cs) (load_of new ∷ []))
    (new_end (last_until (seen y cs)) s.clock s.next start p own.tail (longest_tail s.feeders)
    (rw (last_site s f h) v.ends_high)
    v.next_low g.time_high (v.settings f h).tail_high high))

-- A withdrawal

pub withdraw_valid :
    (s : State) (ticket : ℕ)
    → ValidState s
    → WithdrawGranted s ticket
    → let f : ℕ = feeder_with ticket 1 s.feeders in
    ValidState (holding s f (without_ticket ticket (charges_on s f)) s.next)
withdraw_valid s ticket v g =
    let f : ℕ = feeder_with ticket 1 s.feeders in
    let h : IsFeeder s f = (feeder_with_lem s ticket g.held).0 in
    let stays : Charge → Bool = λ c. not (has_ticket ticket c) in
    let own : Feeder = feeder_of s f in
    let cs : List Charge = charges_on s f in
    let left : List Charge = without_ticket ticket cs in
    holding_valid s v f h s.next left (omega arith) v.next_high
    (record {
      few = omega (arith, (v.plan f h).few, length_keep stays cs);
      each =
          each_map (ValidCharge own s.site s.clock s.next) (ValidCharge (with_charges own left) s.site s.clock s.next)
          (λ c p. charge_held own left s.site s.clock s.next c p) left
          (keep_each (ValidCharge own s.site s.clock s.next) stays cs (v.plan f h).each);
      rising = rising_keep 1 stays cs (v.plan f h).rising;
    })
    (λ k j n.
    keep_each (λ c. Each (λ x. c.ticket ≡ x.ticket → ⊥) (charges_on s k)) stays cs (v.apart f k h j (λ q. n (sym q))))
    g.rest_sound_lem
    (omega (
      arith,
      v.ends_high,
      last_site s f h,
      last_until_append (limits_of s f).others (loads_of cs),
      last_until_append (limits_of s f).others (loads_of left),
      until_kept stays cs,
    ))

-- A clock move

module _ (s : State) (target : ℕ) (list : List ℕ) (v : ValidState s) (g : MoveGranted s target list) where
  abbrev dropped : Feeder → Feeder
  dropped x = with_charges x (unfinished_charges target x.charges)

  was : (f : ℕ) → IsFeeder (moved_to s target) f → IsFeeder s f
  was f i = record { low = i.low; high = rw (← (map_length dropped s.feeders)) i.high }

  moved_by : (P : Feeder → Type 0) (f : ℕ) → P (dropped (feeder_of s f)) → P (feeder_of (moved_to s target) f)
  moved_by P f p = subst (λ (x : Feeder). P x) (sym (get_or-map dropped s.feeders (f - 1) no_feeder)) p

  move_plan : (f : ℕ) → IsFeeder s f → ValidPlan s.site target s.next (dropped (feeder_of s f))
  move_plan f i =
      let own : Feeder = feeder_of s f in
      let cs : List Charge = charges_on s f in
      let left : List Charge = unfinished_charges target cs in
      record {
        few = omega (arith, (v.plan f i).few, length_keep (λ c. not (is_finished target c)) cs);
        each =
            each_map (λ c. ValidCharge own s.site s.clock s.next c × (not (is_finished target c) ≡ true))
            (ValidCharge (with_charges own left) s.site target s.next)
            (λ c p.
            charge_held own left s.site target s.next c
            (charge_later own s.site s.clock target s.next s.next c g.not_back (omega arith)
            (leb-false (active_until c) target (not-true (is_finished target c) p.1)) p.0))
            left
            (each_keep (ValidCharge own s.site s.clock s.next) (λ c. not (is_finished target c)) cs (v.plan f i).each);
        rising = rising_keep 1 (λ c. not (is_finished target c)) cs (v.plan f i).rising;
      }

  pub move_valid : ValidState (moved_to s target)
  move_valid =
      record {
        feeders_low = rw (map_length dropped s.feeders) v.feeders_low;
        feeders_high = rw (map_length dropped s.feeders) v.feeders_high;
        site_low = v.site_low;
        site_high = v.site_high;
        clock_high = g.target_high;
        next_low = v.next_low;
        next_high = v.next_high;
        settings =
            λ f i.
            moved_by ValidSettings f
            (settings_held (feeder_of s f) (unfinished_charges target (charges_on s f)) (v.settings f (was f i)));
        plan = λ f i. moved_by (ValidPlan s.site target s.next) f (move_plan f (was f i));
        sound_on =
            λ f i.
            in_own (moved_to s target) f i
            (moved_by (λ x. Each (λ c. IsLine c.line) x.charges) f
            (lines_valid (dropped (feeder_of s f)) s.site target s.next (unfinished_charges target (charges_on s f))
            (move_plan f (was f i)).each))
            (λ t k.
            moved_by (λ x. OwnIn (moved_to s target) x t) f
            (let o : OwnIn s (feeder_of s f) t = own_in s v f (was f i) t (omega (arith, g.not_back)) in
            record {
              limit = λ l a. rw (count_unfinished target (charges_on s f) l t k) (o.limit l a);
              balance =
                  λ l m a b.
                  rw (count_unfinished target (charges_on s f) l t k, count_unfinished target (charges_on s f) m t k)
                  (o.balance l m a b);
              site = rw (moved_drawn target s.feeders t k) o.site;
            }));
        apart =
            λ f k i j d.
            moved_by (λ x. Apart x.charges (charges_on (moved_to s target) k)) f
            (moved_by (λ y. Apart (unfinished_charges target (charges_on s f)) y.charges) k
            (apart_keep (λ c. not (is_finished target c)) (λ c. not (is_finished target c)) (charges_on s f) (charges_on s k)
            (v.apart f k (was f i) (was k j) d)));
        ends_high =
            omega (arith, v.ends_high, g.not_back, moved_until target s.feeders, moved_tails target s.feeders);
      }
