-- What reports and enquiries say of each charge of the history.
use mathlib.Core.Path.{◌≡◌, refl, ap, ◌∙◌}
use Prim.Native.Nat.{ℕ}
use mathlib.Core.Bool.{Bool, true, false, cond, not}
use mathlib.Core.List.{List}
use native.Mathlib.Omega.{arith}
use borrow.Author.Tests.{ltb-false, eq-eqb, ne_eqb}
use Rattle.rules.specs.Basics.{Each}
use Rattle.rules.specs.Charge.{Charge, is_begun, is_finished, unfinished_charges}
use Rattle.rules.specs.Site.{State, site_charges}
use Rattle.rules.specs.Calls.{told, step}
use Rattle.rules.proofs.Lists.{each_both}
use Rattle.rules.proofs.Queues.{Distinct}
use Rattle.rules.proofs.Distinct.{in_order_keep}
use Rattle.guarantee.specs.Past.{Past, times_reported, reported_start, enquiry, start_in}
use Rattle.guarantee.proofs.Each.{each_two, each_in, image_each}
use Rattle.guarantee.proofs.History.{Booked, charges_in, Lasts, charges_each, fit_lasts}
use Rattle.guarantee.proofs.Holdings.{station_site_lem}
use Rattle.guarantee.proofs.Tickets.{is_ticket, is_pair, times_sum, not_reported_start, once_reported_start, sum_of_own}
use Rattle.guarantee.proofs.Enquiries.{enquiry_told, Told, told_each, told_rearranged}
use Rattle.guarantee.proofs.Reports.{Worth, sum_reports, sum_begun}
use Rattle.guarantee.proofs.Invariant.{history_distinct}
use Rattle.guarantee.proofs.Steps.{Known}

-- the start of the order with ticket t
abbrev start_at : Past → ℕ → ℕ
start_at h t = reported_start h.reports t (start_in (enquiry step h t))

pub record Said (h : Past) (held : List Charge) (c : Charge) : Type 0 where
  pub start : start_at h c.ticket ≡ c.start
  pub times : times_reported h.reports c.ticket ≡ cond (is_begun h.clock c) 1 0
  pub answers : Told h.clock held c

module _ (s : State) (h : Past) (hs : List Booked) (known : Known s h hs) where
  -- the charges that are not finished
  abbrev pub held : List Charge
  held = unfinished_charges h.clock (charges_in hs)

  distinct : Distinct (charges_in hs)
  distinct =
      history_distinct s h.clock known.next h.orders h.withdrawn hs h.reports known.invariant

  pub enquiry_held : (t : ℕ) → enquiry step h t ≡ told h.clock held t
  enquiry_held t =
      enquiry_told h.station t
      ∙ ap (λ (x : State). told x.clock (site_charges x) t) known.station
      ∙ told_rearranged h.clock t (station_site_lem s h.clock known.next hs known.invariant.fit)
      (in_order_keep (λ c d. c.ticket ≡ d.ticket → ⊥) (λ c. not (is_finished h.clock c)) (charges_in hs) distinct)

  -- the sum over the reports of what counts a charge's own ticket
  own_reports :
      (g : Charge → Worth)
      → ((c : Charge) (t u : ℕ) → (t ≡ c.ticket → ⊥) → g c t u ≡ 0)
      → ((c : Charge) → g c c.ticket c.start ≡ 1)
      → Each (λ c. sum_reports (g c) h.reports ≡ cond (is_begun h.clock c) 1 0) (charges_in hs)
  own_reports g z own =
      each_in {P = λ c. sum_begun (g c) h.clock (charges_in hs) ≡ cond (is_begun h.clock c) (g c c.ticket c.start) 0}
      (λ c e. known.invariant.reports (g c) ∙ e ∙ rw (own c))
      (charges_in hs)
      (sum_of_own g z h.clock (charges_in hs) distinct)

  says :
      (c : Charge)
      → sum_reports (is_ticket c.ticket) h.reports ≡ cond (is_begun h.clock c) 1 0
      → sum_reports (is_pair c.ticket c.start) h.reports ≡ cond (is_begun h.clock c) 1 0
      → Told h.clock held c
      → Said h held c
  says c e f a = record { start = go (is_begun h.clock c) refl; times = times; answers = a }
    where
      times : times_reported h.reports c.ticket ≡ cond (is_begun h.clock c) 1 0
      times = times_sum h.reports c.ticket ∙ e

      go : (b : Bool) → is_begun h.clock c ≡ b → start_at h c.ticket ≡ c.start
      go true p =
          once_reported_start c.ticket c.start (start_in (enquiry step h c.ticket)) h.reports (rw p at times)
          (let g = rw p at f in omega arith)
      go false p =
          not_reported_start c.ticket (start_in (enquiry step h c.ticket)) h.reports (rw p at times)
          ∙ ap start_in (enquiry_held c.ticket ∙ a.waits (ltb-false c.start h.clock p))

  pub said : Each (λ x. Said h held x.charge) hs
  said =
      image_each (Said h held) (λ (x : Booked). x.charge) hs
      (each_two
      (λ c. sum_reports (is_ticket c.ticket) h.reports ≡ cond (is_begun h.clock c) 1 0)
      (λ c.
      (sum_reports (is_pair c.ticket c.start) h.reports ≡ cond (is_begun h.clock c) 1 0)
      × Told h.clock held c)
      (Said h held)
      (λ c e p. says c e p.0 p.1)
      (charges_in hs)
      (own_reports (λ c. is_ticket c.ticket) (λ c t u q. rw (ne_eqb t c.ticket q))
      (λ c. rw (eq-eqb c.ticket c.ticket refl)))
      (each_both
      (λ c. sum_reports (is_pair c.ticket c.start) h.reports ≡ cond (is_begun h.clock c) 1 0)
      (Told h.clock held)
      (charges_in hs)
      (own_reports (λ c. is_pair c.ticket c.start) (λ c t u q. rw (ne_eqb t c.ticket q))
      (λ c. rw (eq-eqb c.ticket c.ticket refl, eq-eqb c.start c.start refl)))
      (told_each h.clock (charges_in hs) distinct (charges_each Lasts (fit_lasts s h.clock) hs known.invariant.fit))))
