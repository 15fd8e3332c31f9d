-- Each charge held stands in exactly one row: its ticket can be read off its line, and off no other.
use mathlib.Core.Path.{◌≡◌, sym, ap, ◌∙◌}
use mathlib.Core.Logic.{◌⊎◌, inl, inr, ⊎_elim}
use mathlib.Core.List.{List, [], ◌∷◌}
use Prim.Native.Nat.{ℕ, zero, suc, ◌+◌, ◌-◌, ◌*◌, ◌/◌, ◌%◌, ◌≤◌, ◌<◌}
use native.Mathlib.Omega.{arith}
use lib.ListN.{length, get_or}
use Rattle.rules.specs.Basics.{Each}
use Rattle.rules.specs.Charge.{Charge}
use Rattle.rules.specs.Site.{State}
use Rattle.rules.specs.Valid.{Rising, ValidState}
use Rattle.rules.proofs.Ranges.{below_or_not}
use Rattle.layout.specs.Image.{no_charge, only, held_at}
use Rattle.layout.proofs.Rising.{each_place}
use Rattle.layout.proofs.Single.{first-is}
use Rattle.text.specs.declared.number.NumberError.{NumberError}
use Rattle.std.specs.Prelude.{Result, Ok}
use Rattle.page.specs.Lines.{heading, row, blank}
use Rattle.page.specs.Pages.{row_at, page_count, pages_of}
use Rattle.page.specs.Lined.{ChargeFits, Lined, StandsAt, line_of_row}
use Rattle.page.specs.LawsOfPages.{EachChargeHasItsRow, ticket_in, TicketStandsOnce}
use Rattle.page.proofs.Counting.{pages_enough}
use Rattle.page.proofs.Paging.{row_held, row_unused}
use Rattle.page.proofs.Walling.{valid_fits}
use Rattle.page.proofs.Lining.{heading_lined}
use Rattle.page.proofs.LinedPages.{row_at_lined}
use Rattle.page.proofs.Rowing.{heading_stands, row_stands}
use Rattle.page.proofs.Standing.{same_line}
use Rattle.page.proofs.TicketsShown.{row_ticket, heading_none, blank_none, not_a_ticket}

-- Tickets rise with the places

ticket_from : (i : ℕ) (cs : List Charge) → Rising i cs → (q : ℕ) → q < length cs → i ≤ (get_or cs q no_charge).ticket
ticket_from i [] r q h = absurd (omega arith)
ticket_from i (c ∷ cs) r zero h = r.0
ticket_from i (c ∷ cs) r (suc q) h = let l = ticket_from (suc c.ticket) cs r.1 q (omega arith) in omega (arith, l, r.0)

tickets_rise : (i : ℕ) (cs : List Charge) → Rising i cs → (q r : ℕ) → q < r → r < length cs → (get_or cs q no_charge).ticket < (get_or cs r no_charge).ticket
tickets_rise i [] e q r h k = absurd (omega arith)
tickets_rise i (c ∷ cs) e zero zero h k = absurd (omega arith)
tickets_rise i (c ∷ cs) e zero (suc r) h k = ticket_from (suc c.ticket) cs e.1 r (omega arith)
tickets_rise i (c ∷ cs) e (suc q) zero h k = absurd (omega arith)
tickets_rise i (c ∷ cs) e (suc q) (suc r) h k = tickets_rise (suc c.ticket) cs e.1 q r (omega arith) (omega arith)

pub charge_stands : EachChargeHasItsRow
charge_stands s one v q h =
    rw (row_held s.clock (only s).charges q h) at (row_stands s.clock (only s).charges (valid_fits s one v) q (omega (arith, pages_enough (length (only s).charges))))

-- Of the lines of a station's pages

module _ (s : State) (one : length s.feeders ≡ 1) (v : ValidState s) where
  fits : Each ChargeFits (only s).charges
  fits = valid_fits s one v

  fits_place : (q : ℕ) → q < length (only s).charges → ChargeFits (held_at s q)
  fits_place q h = each_place ChargeFits (only s).charges fits q h

  same_place : (q r : ℕ) → q < length (only s).charges → r < length (only s).charges → (held_at s q).ticket ≡ (held_at s r).ticket → q ≡ r
  same_place q r h k e =
      ⊎_elim
      (λ l. absurd (omega (arith, tickets_rise 1 (only s).charges (v.plan 1 (first-is s one)).rising q r l k)))
      (λ l. ⊎_elim (λ m. absurd (omega (arith, tickets_rise 1 (only s).charges (v.plan 1 (first-is s one)).rising r q m h))) (λ m. omega arith) (below_or_not r q))
      (below_or_not q r)

  module _ (q : ℕ) (h : q < length (only s).charges) (j : ℕ) (inside : j < 25 * page_count (length (only s).charges)) where
    abbrev Shown : List ℕ → Type 0
    Shown line = ticket_in line ≡ Ok (held_at s q).ticket

    at_heading : j % 25 ≡ 0 → (line : List ℕ) → Lined 1 line → StandsAt j line (pages_of s) → Shown line → ⊥
    at_heading z line l t w =
        let e : 25 * (j / 25) ≡ j = omega arith in
        let k : j / 25 < page_count (length (only s).charges) = omega arith in
        let o : StandsAt j heading (pages_of s) = rw e at (heading_stands s.clock (only s).charges fits (j / 25) k) in
        not_a_ticket (held_at s q).ticket (sym w ∙ ap ticket_in (same_line j l heading_lined t o) ∙ heading_none)

    abbrev place : ℕ
    place = 24 * (j / 25) + (j % 25 - 1)

    at_row : 1 ≤ j % 25 → StandsAt j (row_at s.clock (only s).charges place) (pages_of s)
    at_row p =
        let e : line_of_row place ≡ j = omega arith in
        rw e at (row_stands s.clock (only s).charges fits place (omega arith))

    line_of : 1 ≤ j % 25 → (line : List ℕ) → Lined 1 line → StandsAt j line (pages_of s) → Shown line → (place < length (only s).charges) ⊎ (length (only s).charges ≤ place) → j ≡ line_of_row q
    line_of p line l t w (inl b) =
        let o : line ≡ row s.clock (held_at s place) =
        same_line j l (row_at_lined s.clock (only s).charges fits place) t (at_row p) ∙ row_held s.clock (only s).charges place b in
        let same : (held_at s q).ticket ≡ (held_at s place).ticket =
        value_same (sym w ∙ ap ticket_in o ∙ row_ticket s.clock (held_at s place) (fits_place place b)) in
        let e : q ≡ place = same_place q place h b same in
        omega arith
      where
        value_same : {a b : ℕ} → ◌≡◌ {A = Result ℕ NumberError} (Ok a) (Ok b) → a ≡ b
        value_same e = cc
    line_of p line l t w (inr b) =
        let o : line ≡ blank =
        same_line j l (row_at_lined s.clock (only s).charges fits place) t (at_row p) ∙ row_unused s.clock (only s).charges place b in
        absurd (not_a_ticket (held_at s q).ticket (sym w ∙ ap ticket_in o ∙ blank_none))

pub shown_once : TicketStandsOnce
shown_once s one v q h j inside line l t w =
    ⊎_elim
    (λ p. line_of s one v q h j inside p line l t w (below_or_not (place s one v q h j inside) (length (only s).charges)))
    (λ p. absurd (at_heading s one v q h j inside (omega arith) line l t w))
    (below_or_not 0 (j % 25))
