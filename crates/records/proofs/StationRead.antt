-- The only feeder of the station that is read from contents.
use mathlib.Core.Path.{◌≡◌, refl, ap, sym, subst, ◌∙◌}
use Prim.Native.Nat.{ℕ, ◌+◌, ◌*◌, ◌≤◌}
use mathlib.Core.Bool.{Bool, true}
use mathlib.Core.List.{List, [], ◌∷◌}
use native.Mathlib.Omega.{arith}
use lib.Dec.{leb}
use borrow.Author.Tests.{leb-true}
use Rattle.rules.specs.Charge.{Charge}
use Rattle.rules.specs.Basics.{tabulate}
use Rattle.rules.specs.Site.{places, State}
use Rattle.rules.specs.Calls.{bound_of}
use Rattle.rules.proofs.Ranges.{and_left, and_right}
use Rattle.rules.proofs.Lists.{tabulate_same}
use Rattle.charges.specs.declared.Charges.{Charges}
use Rattle.charges.specs.Arrays.{charge_at, charges_of}
use Rattle.station.specs.declared.only.One.{One}
use Rattle.station.specs.Opened.{BoundOf}
use Rattle.layout.specs.Reading.{header_at}
use Rattle.layout.specs.Validity.{settings_ranged}
use Rattle.validity.specs.declared.header.Header.{Header}
use Rattle.validity.specs.Settled.{settings_valid}
use Rattle.validity.proofs.Ranging.{ranged, product_fits, valid_ranged}
use Rattle.records.specs.Contents.{charge_from, state_from, header_in, header_right, Headed}
use Rattle.records.specs.Columns.{HoldsFrom, ReadFrom}

-- the feeder alone that has these numbers
abbrev only_with : Header → ℕ → Charges → One
only_with h bound c =
    record {
      site = h.site;
      clock = h.clock;
      next = h.next;
      feeder =
          record {
            limit = h.settings.limit;
            percent = h.settings.percent;
            bound = bound;
            tail = h.settings.tail;
            charges = c;
          };
    }

-- what passes its test
module _ (xs : List ℕ) (right : header_right xs ≡ true) where
  abbrev settings_in : Bool
  settings_in =
      settings_valid (header_at xs 0) (header_at xs 4) (header_at xs 8) (header_at xs 12) (header_at xs 16) (header_at xs 24)

  held_few : header_at xs 20 ≤ places
  unfolding header_right
  held_few = leb-true (header_at xs 20) places (and_left (leb (header_at xs 20) places) settings_in right)

  settings_right : settings_in ≡ true
  unfolding header_right
  settings_right = and_right (leb (header_at xs 20) places) settings_in right

  settings_ranged_lem :
      settings_ranged (header_at xs 0) (header_at xs 4) (header_at xs 8) (header_at xs 12) (header_at xs 16) (header_at xs 24) ≡ true
  settings_ranged_lem =
      valid_ranged (header_at xs 0) (header_at xs 4) (header_at xs 8) (header_at xs 12) (header_at xs 16) (header_at xs 24) settings_right

  tail_few : header_at xs 8 ≤ 5
  tail_few =
      (ranged (header_at xs 0) (header_at xs 4) (header_at xs 8) (header_at xs 12) (header_at xs 16) (header_at xs 24) settings_ranged_lem).tail_high

  product_few : header_at xs 4 * header_at xs 0 ≤ 6000
  product_few =
      product_fits (header_at xs 0) (header_at xs 4) (header_at xs 8) (header_at xs 12) (header_at xs 16) (header_at xs 24) settings_ranged_lem

  headed_in : Headed xs (header_in xs)
  headed_in =
      record { is = refl; right = right; few = held_few; tail_few = tail_few; product_few = product_few }

  -- the same of the numbers that were read
  pub headed : (h : Header) → h ≡ header_in xs → Headed xs h
  headed h e = subst (Headed xs) (sym e) headed_in

  charges_in_lem :
      (c : Charges) → HoldsFrom xs (header_at xs 20) (header_at xs 8) c → charges_of c ≡ tabulate (charge_from xs (header_at xs 8)) (header_at xs 20) 0
  charges_in_lem c h =
      ap (λ n. tabulate (charge_at c) n 0) h.held_is
      ∙ (tabulate_same (charge_at c) (charge_from xs (header_at xs 8)) (header_at xs 20) 0 (λ q p l. h.each q (omega arith)))

  read_in :
      (bound : ℕ) (c : Charges)
      → bound ≡ bound_of (header_at xs 0) (header_at xs 4)
      → HoldsFrom xs (header_at xs 20) (header_at xs 8) c
      → ReadFrom xs (only_with (header_in xs) bound c)
  unfolding state_from
  read_in bound c b h =
      record {
        state = rw b (ap state_with (charges_in_lem c h));
        settled =
            record {
              columns = h.columns;
              settings = settings_right;
              bound_is = b;
              active = λ q l. active_in q (h.each q (omega (arith, h.held_is)));
            };
      }
    where
      state_with : List Charge → State
      state_with cs =
          record {
            feeders =
                record {
                  limit = header_at xs 0;
                  percent = header_at xs 4;
                  bound = bound_of (header_at xs 0) (header_at xs 4);
                  tail = header_at xs 8;
                  charges = cs;
                }
                ∷ [];
            site = header_at xs 24;
            clock = header_at xs 12;
            next = header_at xs 16;
          }

      active_in : (q : ℕ) → charge_at c q ≡ charge_from xs (header_at xs 8) q → (charge_at c q).active_time ≡ (charge_at c q).time + header_at xs 8
      active_in q z = ap (λ (x : Charge). x.active_time) z ∙ sym (ap (λ (x : Charge). x.time + header_at xs 8) z)

-- of block 0 whose numbers were read, D with what the test of the settings asked it for
pub read_from :
    (xs : List ℕ) (h : Header) (bound : ℕ) (c : Charges)
    → Headed xs h
    → BoundOf h.settings bound
    → HoldsFrom xs h.held h.settings.tail c
    → ReadFrom xs (only_with h bound c)
read_from xs h bound c p b =
    let P : Header → Type 0 =
    λ g. bound ≡ bound_of g.settings.limit g.settings.percent → HoldsFrom xs g.held g.settings.tail c → ReadFrom xs (only_with g bound c) in
    subst P (sym p.is) (read_in xs p.right bound c) (b.is (omega (arith, p.product_few)))
