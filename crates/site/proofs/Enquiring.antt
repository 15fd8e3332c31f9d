-- An enquiry: what the rules tell of the whole site is told by the feeder that holds the ticket.
use mathlib.Core.Path.{◌≡◌, refl, sym, ap, ◌∙◌}
use Prim.Native.Nat.{ℕ, ◌<◌}
use mathlib.Core.Bool.{Bool, true, false}
use mathlib.Core.List.{[]}
use native.Mathlib.Omega.{arith}
use lib.Dec.{eqb}
use Rattle.rules.specs.Basics.{some}
use Rattle.rules.specs.Charge.{Charge, has_ticket}
use Rattle.rules.specs.Site.{site_charges}
use Rattle.rules.specs.Calls.{Answer, refused, told, enquiring, enquire, step}
use Rattle.rules.proofs.Ranges.{first_found}
use Rattle.charges.specs.Arrays.{charge_at, charges_of}
use Rattle.charges.specs.Held.{Listed}
use Rattle.station.specs.declared.Station.{Station}
use Rattle.station.specs.View.{feeder_view, feeder_at, view, Valid}
use Rattle.station.specs.Holders.{Lacks, HeldAt}
use Rattle.station.specs.Given.{Keeps}
use Rattle.station.proofs.Held.{valid_listed}
use Rattle.station.proofs.Refusing.{giving, call_refused, call_granted}
use Rattle.site.specs.Answers.{told_charge}
use Rattle.site.proofs.Telling.{told_nobody, told_found}
use Rattle.site.proofs.Among.{some_first, Among, among, among_told, among_some, nowhere}

module _ (s : Station) (ticket : ℕ) where
  -- a refusal tells no more than the charges do
  call_enquired : {a : Answer} → a ≡ told s.clock (site_charges (view s)) ticket → Keeps (step (view s) (enquire ticket)) s a []
  unfolding enquiring
  call_enquired {a} e =
      record { result = ap (λ (x : Answer). giving x (view s) []) e ∙ go (some (has_ticket ticket) (site_charges (view s))) refl }
    where
      go :
          (b : Bool) → some (has_ticket ticket) (site_charges (view s)) ≡ b →
          giving (told s.clock (site_charges (view s)) ticket) (view s) [] ≡ step (view s) (enquire ticket)
      go true h = call_granted (view s) (enquire ticket) 0 (rw h) refl
      go false h =
          ap (λ (x : Answer). giving x (view s) []) (told_nobody s.clock ticket (site_charges (view s)) h)
          ∙ call_refused (view s) (enquire ticket) 15 (rw h) (omega arith)

  pub lacks_some : (i : ℕ) → Lacks s ticket i → some (has_ticket ticket) (charges_of (feeder_at s i).charges) ≡ false
  lacks_some i e = rw (some_first (charge_at (feeder_at s i).charges) ticket (feeder_at s i).charges.held 0, e)

  -- no feeder holds it
  pub nobody_some : ((i : ℕ) → i < s.count → Lacks s ticket i) → some (has_ticket ticket) (site_charges (view s)) ≡ false
  nobody_some e = nowhere ticket (λ i. feeder_view (feeder_at s i)) s.count 0 (λ i h. lacks_some i (e i (omega (arith, h))))

  pub enquired_nobody : ((i : ℕ) → i < s.count → Lacks s ticket i) → Keeps (step (view s) (enquire ticket)) s (refused 15) []
  enquired_nobody e = call_enquired (sym (told_nobody s.clock ticket (site_charges (view s)) (nobody_some e)))

  module _ {f k : ℕ} (o : HeldAt s ticket f k) where
    pub own_some : some (has_ticket ticket) (charges_of (feeder_at s f).charges) ≡ true
    own_some = rw (some_first (charge_at (feeder_at s f).charges) ticket (feeder_at s f).charges.held 0, o.found)

    pub holder_among : Among ticket (charges_of (feeder_at s f).charges) (site_charges (view s))
    holder_among =
        among ticket (λ i. feeder_view (feeder_at s i)) s.count 0 f (omega arith) (omega (arith, o.inside)) (λ i h. lacks_some i (o.before i h))

    pub site_some : some (has_ticket ticket) (site_charges (view s)) ≡ true
    site_some = among_some holder_among (has_ticket ticket) own_some

    -- the charge is held
    pub place_held : k < (feeder_at s f).charges.held
    place_held =
        omega (arith, (first_found (λ j. eqb (charge_at (feeder_at s f).charges j).ticket ticket) (feeder_at s f).charges.held 0 k o.found).high)

    pub holder_listed : Valid s → Listed (feeder_at s f).charges
    holder_listed v = valid_listed s v f o.inside

    -- and the feeder tells of it
    pub enquired_holder :
        {a : Answer} {x : Charge} → x ≡ charge_at (feeder_at s f).charges k → a ≡ told_charge s.clock x → Keeps (step (view s) (enquire ticket)) s a []
    enquired_holder g e =
        call_enquired
        (e
        ∙ ap (told_charge s.clock) g
        ∙ sym (told_found (charge_at (feeder_at s f).charges) s.clock ticket (feeder_at s f).charges.held o.found)
        ∙ sym (among_told holder_among s.clock own_some))
