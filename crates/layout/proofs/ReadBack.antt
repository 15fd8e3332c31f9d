-- The station that the image of a valid station would be of is that station.
use mathlib.Core.Path.{◌≡◌, ap, sym, ◌∙◌}
use Prim.Native.Nat.{ℕ, ◌+◌, ◌-◌, ◌*◌, ◌≤◌, ◌<◌}
use mathlib.Core.List.{[], ◌∷◌}
use native.Mathlib.Omega.{arith}
use lib.ListN.{length, get_or}
use lib.Seq.{ext_get_or}
use Rattle.rules.specs.Basics.{tabulate}
use Rattle.rules.specs.Charge.{Charge, end_of}
use Rattle.rules.specs.Site.{State}
use Rattle.rules.specs.Calls.{bound_of}
use Rattle.rules.specs.Valid.{ValidCharge, ValidSettings, ValidPlan, ValidState}
use Rattle.rules.proofs.Lists.{length_tabulate, get_d_tabulate}
use Rattle.layout.specs.Bytes.{number_at, packed}
use Rattle.layout.specs.Image.{no_charge, only, held_at, header_of, fields_of, image_of}
use Rattle.layout.specs.Reading.{header_at, field_at, charge_in, feeder_in, state_in}
use Rattle.layout.proofs.Numbers.{four, two, one}
use Rattle.layout.proofs.Imaging.{header_number, record_number}
use Rattle.layout.proofs.Wholes.{charge_whole, feeder_whole, state_whole}
use Rattle.layout.proofs.Single.{feeders_only, first-is, ends_only}
use Rattle.layout.proofs.Rising.{each_place}

module _ (s : State) (single : length s.feeders ≡ 1) (v : ValidState s) where
  set : ValidSettings (only s)
  set = v.settings 1 (first-is s single)

  plan : ValidPlan s.site s.clock s.next (only s)
  plan = v.plan 1 (first-is s single)

  -- Its numbers, read back

  header_back : (a x : ℕ) → a + 4 ≤ 28 → number_at (packed (header_of s)) a 4 ≡ x → header_at (image_of s) a ≡ x
  header_back a x h e = header_number s a h ∙ e

  limit_back : header_at (image_of s) 0 ≡ (only s).limit
  limit_back = header_back 0 (only s).limit (omega arith) (four (only s).limit (omega (arith, set.limit_high)))

  percent_back : header_at (image_of s) 4 ≡ (only s).percent
  percent_back = header_back 4 (only s).percent (omega arith) (four (only s).percent (omega (arith, set.percent_high)))

  tail_back : header_at (image_of s) 8 ≡ (only s).tail
  tail_back = header_back 8 (only s).tail (omega arith) (four (only s).tail (omega (arith, set.tail_high)))

  clock_back : header_at (image_of s) 12 ≡ s.clock
  clock_back = header_back 12 s.clock (omega arith) (four s.clock (omega (arith, v.clock_high)))

  next_back : header_at (image_of s) 16 ≡ s.next
  next_back = header_back 16 s.next (omega arith) (four s.next (omega (arith, v.next_high)))

  held_back : header_at (image_of s) 20 ≡ length (only s).charges
  held_back = header_back 20 (length (only s).charges) (omega arith) (four (length (only s).charges) (omega (arith, plan.few)))

  site_back : header_at (image_of s) 24 ≡ s.site
  site_back = header_back 24 s.site (omega arith) (four s.site (omega (arith, v.site_high)))

  -- Its charges, read back

  module _ (q : ℕ) (here : q < length (only s).charges) where
    abbrev c : Charge
    c = held_at s q

    valid : ValidCharge (only s) s.site s.clock s.next c
    valid = each_place (ValidCharge (only s) s.site s.clock s.next) (only s).charges plan.each q here

    ends : end_of c ≤ s.clock + 1445 * (s.next - 1)
    ends =
        each_place (λ x. end_of x ≤ s.clock + 1445 * (s.next - 1)) (only s).charges (ends_only s single v) q here

    field_back :
        (from width x : ℕ)
        → from + width ≤ 20
        → number_at (packed (fields_of c)) from width ≡ x
        → field_at (image_of s) from width q ≡ x
    field_back from width x h e = record_number s q from width here plan.few h ∙ e

    time_back : field_at (image_of s) 16 2 q ≡ c.time
    time_back = field_back 16 2 c.time (omega arith) (two c.time (omega (arith, valid.time_high)))

    charge_back : charge_in (image_of s) q ≡ c
    charge_back =
        charge_whole c (field_at (image_of s) 0 4 q) (field_at (image_of s) 18 1 q) (field_at (image_of s) 12 4 q) (field_at (image_of s) 16 2 q)
        (field_at (image_of s) 16 2 q + header_at (image_of s) 8) (field_at (image_of s) 8 4 q) (field_at (image_of s) 4 4 q) (field_at (image_of s) 19 1 q)
        (field_back 0 4 c.ticket (omega arith) (four c.ticket (omega (arith, valid.ticket_given, v.next_high))))
        (field_back 18 1 c.line (omega arith) (one c.line (omega (arith, valid.line.high))))
        (field_back 12 4 c.order_minute (omega arith) (four c.order_minute (omega (arith, valid.ordered, v.clock_high))))
        time_back
        (omega (arith, time_back, tail_back, valid.active))
        (field_back 8 4 c.due (omega arith) (four c.due (omega (arith, valid.due_high))))
        (field_back 4 4 c.start (omega arith) (four c.start (omega (arith, ends, v.clock_high, v.next_high))))
        (field_back 19 1 c.rate (omega arith) (one c.rate (omega (arith, valid.rate.high))))

  charges_back : tabulate (charge_in (image_of s)) (header_at (image_of s) 20) 0 ≡ (only s).charges
  charges_back =
      ext_get_or no_charge (tabulate (charge_in (image_of s)) held 0) (only s).charges (length_tabulate (charge_in (image_of s)) held 0 ∙ held_back)
      (λ q h. place q (omega (arith, h, held_back, length_tabulate (charge_in (image_of s)) held 0)))
    where
      held : ℕ
      held = header_at (image_of s) 20

      place : (q : ℕ) → q < length (only s).charges → get_or (tabulate (charge_in (image_of s)) held 0) q no_charge ≡ held_at s q
      place q h =
          let z : 0 + q ≡ q = omega arith in
          (rw z at (get_d_tabulate (charge_in (image_of s)) held 0 q no_charge (omega (arith, held_back)))) ∙ charge_back q h

  feeder_back : feeder_in (image_of s) ≡ only s
  feeder_back =
      feeder_whole (only s) (header_at (image_of s) 0) (header_at (image_of s) 4) (bound_of (header_at (image_of s) 0) (header_at (image_of s) 4))
      (header_at (image_of s) 8) (tabulate (charge_in (image_of s)) (header_at (image_of s) 20) 0)
      limit_back percent_back (rw (limit_back, percent_back) (sym set.bound_is)) tail_back charges_back

  pub state_back : state_in (image_of s) ≡ s
  unfolding state_in
  state_back =
      state_whole s (feeder_in (image_of s) ∷ []) (header_at (image_of s) 24) (header_at (image_of s) 12) (header_at (image_of s) 16)
      (ap (λ g. g ∷ []) feeder_back ∙ sym (feeders_only s single)) site_back clock_back next_back
