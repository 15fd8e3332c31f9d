-- The test of a station part by part, and what its records have that pass it.
use mathlib.Core.Logic.{◌⊎◌, inl, inr}
use mathlib.Core.Path.{◌≡◌}
use Prim.Native.Nat.{ℕ, suc, ◌+◌, ◌≤◌, ◌<◌}
use mathlib.Core.Bool.{Bool, true}
use native.Mathlib.Omega.{arith}
use native.Mathlib.Numerals.{add-one}
use lib.Dec.{leb, ltb}
use lib.ListN.{length}
use borrow.Author.Tests.{leb-true, le-leb, ltb-true, lt-ltb, le-ltb}
use Rattle.rules.specs.Basics.{Each}
use Rattle.rules.specs.Load.{sound}
use Rattle.rules.specs.Charge.{seen}
use Rattle.rules.specs.Site.{places, State, limits_of}
use Rattle.rules.proofs.Ranges.{below_or_not}
use Rattle.layout.specs.Lists.{every}
use Rattle.layout.specs.Image.{only, held_at}
use Rattle.layout.specs.Validity.{settings_ranged, bound_right, charge_right, ticket_at, ticket_right, record_right, is_valid}
use Rattle.layout.proofs.Listing.{every_at}
use Rattle.layout.proofs.Rising.{place_each, tickets_then, tickets_by_place, Rises}
use Rattle.layout.proofs.Judging.{two_hold, five_hold, RightCharge, charge_tested}

module _ (s : State) where
  abbrev held : ℕ
  held = length (only s).charges

  abbrev ranged : Bool
  ranged = settings_ranged (only s).limit (only s).percent (only s).tail s.clock s.next s.site

  abbrev bounded : Bool
  bounded = bound_right (only s).limit (only s).percent (only s).bound

  abbrev planned : Bool
  planned = sound (limits_of s 1) s.clock (seen (limits_of s 1) (only s).charges)

  -- The test, part by part

  pub record Tested : Type 0 where
    pub few : held ≤ places
    pub settings_ranged_lem : ranged ≡ true
    pub bound_right_lem : bounded ≡ true
    pub records : every (record_right s) held ≡ true
    pub sound_on : planned ≡ true

  pub valid_tested : is_valid s ≡ true → Tested
  unfolding is_valid
  valid_tested e =
      let p = five_hold (leb held places) ranged bounded (every (record_right s) held) planned e in
      record {
        few = leb-true held places p.0;
        settings_ranged_lem = p.1;
        bound_right_lem = p.2;
        records = p.3;
        sound_on = p.4;
      }

  pub tested_valid : Tested → is_valid s ≡ true
  unfolding is_valid
  tested_valid t = rw (le-leb held places t.few, t.settings_ranged_lem, t.bound_right_lem, t.records, t.sound_on)

  -- Records

  record_parts : (q : ℕ) → record_right s q ≡ true → (ticket_right s q ≡ true) × (charge_right s (held_at s q) ≡ true)
  unfolding record_right
  record_parts q e = two_hold (ticket_right s q) (charge_right s (held_at s q)) e

  ticket_parts : (q : ℕ) → ticket_right s q ≡ true → (1 ≤ ticket_at s q) × (ticket_at s q < ticket_at s (q + 1))
  unfolding ticket_right
  ticket_parts q e =
      let p = two_hold (leb 1 (ticket_at s q)) (ltb (ticket_at s q) (ticket_at s (q + 1))) e in
      (leb-true 1 (ticket_at s q) p.0, ltb-true (ticket_at s q) (ticket_at s (q + 1)) p.1)

  pub record_passes :
      (q : ℕ) → 1 ≤ ticket_at s q → ticket_at s q < ticket_at s (q + 1) → charge_right s (held_at s q) ≡ true → record_right s q ≡ true
  unfolding record_right ticket_right
  record_passes q h l e = rw (le-leb 1 (ticket_at s q) h, lt-ltb (ticket_at s q) (ticket_at s (q + 1)) l) e

  module _ (all : every (record_right s) held ≡ true) where
    pub each_right : Each (RightCharge s) (only s).charges
    each_right =
        place_each (RightCharge s) (only s).charges
        (λ q h. charge_tested s (held_at s q) (record_parts q (every_at (record_right s) held all q h)).1)

    pub tickets_rise : Rises (only s).charges s.next
    tickets_rise q h =
        let t : ticket_at s q < ticket_at s (q + 1) = (ticket_parts q (record_parts q (every_at (record_right s) held all q h)).0).1 in
        omega (arith, rw (add-one q) at t, tickets_by_place (only s).charges s.next q, tickets_by_place (only s).charges s.next (suc q))

    pub first_given : 1 ≤ s.next → 1 ≤ tickets_then (only s).charges s.next 0
    first_given l = go (below_or_not 0 held)
      where
        go : (0 < held) ⊎ (held ≤ 0) → 1 ≤ tickets_then (only s).charges s.next 0
        go (inl h) =
            let t : 1 ≤ ticket_at s 0 = (ticket_parts 0 (record_parts 0 (every_at (record_right s) held all 0 h)).0).0 in
            omega (arith, t, tickets_by_place (only s).charges s.next 0)
        go (inr h) =
            let t : ticket_at s 0 ≡ s.next = rw (le-ltb 0 held h) in
            omega (arith, t, tickets_by_place (only s).charges s.next 0)
