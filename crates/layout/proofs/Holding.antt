-- The charges of the one feeder: what the rules call valid is what the test (specs/Validity.antt) tests.
use mathlib.Core.Path.{◌≡◌}
use Prim.Native.Nat.{ℕ, suc, ◌+◌, ◌-◌, ◌*◌, ◌≤◌, ◌<◌}
use mathlib.Core.Bool.{true}
use mathlib.Core.List.{List, [], ◌∷◌}
use native.Mathlib.Omega.{arith}
use native.Mathlib.Numerals.{add-one}
use lib.ListN.{length}
use Rattle.rules.specs.Basics.{Each}
use Rattle.rules.specs.Charge.{Charge, end_of}
use Rattle.rules.specs.Site.{State}
use Rattle.rules.specs.Valid.{ValidCharge, Rising, ValidPlan}
use Rattle.rules.proofs.Tickets.{rising_from}
use Rattle.rules.proofs.Lists.{each_map}
use Rattle.layout.specs.Image.{only, held_at}
use Rattle.layout.specs.Validity.{ticket_at, record_right}
use Rattle.layout.proofs.Rising.{each_place, tickets_then, tickets_by_place, Rises, rising_list, below_next, ticket_from, rising_places}
use Rattle.layout.proofs.Judging.{RightCharge, charge_passes}
use Rattle.layout.proofs.Testing.{Tested, record_passes, each_right, tickets_rise, first_given}

module _ (s : State) where
  abbrev pub Valid : Charge → Type 0
  Valid c = ValidCharge (only s) s.site s.clock s.next c

  abbrev pub EndsBy : Charge → Type 0
  EndsBy c = end_of c ≤ s.clock + 1445 * (s.next - 1)

  -- a charge that is right, with a ticket that was given
  abbrev RightHeld : Charge → Type 0
  RightHeld c = RightCharge s c × (1 ≤ c.ticket) × (c.ticket < s.next)

  charge_valid_lem : (c : Charge) → RightHeld c → Valid c
  charge_valid_lem c p =
      let r = p.0 in
      record {
        ticket_low = p.1;
        ticket_given = p.2;
        line = r.line;
        time_low = r.time_low;
        time_high = r.time_high;
        active = r.active;
        due_high = r.due_high;
        ordered = r.ordered;
        not_early = r.not_early;
        unfinished = r.unfinished;
        rate = r.rate;
        within_limit = r.within_limit;
        within_bound = r.within_bound;
        within_site_lem = r.within_site_lem;
      }

  charge_right_lem : (c : Charge) → Valid c → EndsBy c → RightCharge s c
  charge_right_lem c v h =
      record {
        line = v.line;
        time_low = v.time_low;
        time_high = v.time_high;
        due_high = v.due_high;
        rate = v.rate;
        within_limit = v.within_limit;
        within_bound = v.within_bound;
        within_site_lem = v.within_site_lem;
        active = v.active;
        ordered = v.ordered;
        not_early = v.not_early;
        unfinished = v.unfinished;
        end_high = h;
      }

  each_held :
      (cs : List Charge)
      → Each (RightCharge s) cs
      → Each (λ c. 1 ≤ c.ticket) cs
      → Each (λ c. c.ticket < s.next) cs
      → Each RightHeld cs
  each_held [] a b d = tt
  each_held (c ∷ cs) a b d = ((a.0, b.0, d.0), each_held cs a.1 b.1 d.1)

  -- the one feeder of a station that passes the test
  pub plan_valid : Tested s → 1 ≤ s.next → ValidPlan s.site s.clock s.next (only s)
  plan_valid t next_low =
      let rises : Rises (only s).charges s.next = tickets_rise s t.records in
      let rising : Rising 1 (only s).charges
      = rising_list 1 (only s).charges s.next (first_given s t.records next_low) rises in
      record {
        few = t.few;
        each = each_map RightHeld Valid charge_valid_lem (only s).charges
            (each_held (only s).charges (each_right s t.records) (rising_from 1 (only s).charges rising) (below_next (only s).charges s.next rises));
        rising = rising;
      }

  -- each record of a valid one passes its test
  module _
      (plan : ValidPlan s.site s.clock s.next (only s)) (ends : Each EndsBy (only s).charges) (next_low : 1 ≤ s.next)
    where
      given : Each (λ c. c.ticket < s.next) (only s).charges
      given = each_map Valid (λ c. c.ticket < s.next) (λ c w. w.ticket_given) (only s).charges plan.each

      pub record_valid : (q : ℕ) → q < length (only s).charges → record_right s q ≡ true
      record_valid q h =
          let low : 1 ≤ tickets_then (only s).charges s.next q = ticket_from 1 (only s).charges s.next plan.rising given next_low q in
          let rise : tickets_then (only s).charges s.next q < tickets_then (only s).charges s.next (suc q) = rising_places 1 (only s).charges s.next plan.rising given q h in
          let here : ticket_at s q ≡ tickets_then (only s).charges s.next q = tickets_by_place (only s).charges s.next q in
          let there : ticket_at s (q + 1) ≡ tickets_then (only s).charges s.next (suc q) = rw (add-one q) (tickets_by_place (only s).charges s.next (suc q)) in
          record_passes s q (omega (arith, here, low)) (omega (arith, here, there, rise))
          (charge_passes s (held_at s q)
          (charge_right_lem (held_at s q)
          (each_place Valid (only s).charges plan.each q h)
          (each_place EndsBy (only s).charges ends q h)))
