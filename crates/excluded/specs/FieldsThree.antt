-- The fields of demand 3 one by one.
use Rattle.std.specs.Prelude.{◌≡◌, ℕ, ◌+◌, ◌≤◌, ◌<◌, true, false, List, [], ◌∷◌, ◌++◌, eqb}
use Rattle.rules.specs.Basics.{Each, some}
use Rattle.rules.specs.Load.{IsLine}
use Rattle.rules.specs.Site.{State, feeder_of}
use Rattle.rules.specs.Valid.{IsFeeder}
use Rattle.rules.specs.Calls.{refused, waiting, charging, Call}
use Rattle.guarantee.specs.Past.{Gives, Order, Past, past, times_reported, enquiry, start_of, end_of, active_until, staying_orders, withdrawn_orders, count_in, site_in, Numbered, total_time, last_minute}
use Rattle.guarantee.specs.DemandThree.{Unmoved}

-- in the order of `DemandThree`, with those of `Kept` in the place of `orders` and those of `Gone` in the place of `gone`
pub data Field : Type 0 where
  limit : Field
  balance : Field
  site : Field
  feeders : Field
  tickets : Field
  not_early : Field
  reported : Field
  not_reported : Field
  waits : Field
  charges : Field
  finished : Field
  gone_not_reported : Field
  gone_not_held : Field
  in_time : Field
  no_other : Field
  no_other_found : Field
  unmoved : Field

abbrev pub fields : List Field
fields =
    limit
    ∷ balance
    ∷ site
    ∷ feeders
    ∷ tickets
    ∷ not_early
    ∷ reported
    ∷ not_reported
    ∷ waits
    ∷ charges
    ∷ finished
    ∷ gone_not_reported
    ∷ gone_not_held
    ∷ in_time
    ∷ no_other
    ∷ no_other_found
    ∷ unmoved
    ∷ []

-- the place of a field in that list
abbrev pub place : Field → ℕ
place limit = 0
place balance = 1
place site = 2
place feeders = 3
place tickets = 4
place not_early = 5
place reported = 6
place not_reported = 7
place waits = 8
place charges = 9
place finished = 10
place gone_not_reported = 11
place gone_not_held = 12
place in_time = 13
place no_other = 14
place no_other_found = 15
place unmoved = 16

-- what a field says; all together they are demand 3 (`three_fields` in proofs/FieldsThree.antt)
abbrev pub Holds : Gives → State → List Call → Field → Type 0
Holds gives s calls limit =
    (f l t : ℕ) → IsFeeder s f → IsLine l → count_in gives (past gives s calls) f l t ≤ (feeder_of s f).limit
Holds gives s calls balance =
    (f l m t : ℕ)
    → IsFeeder s f
    → IsLine l
    → IsLine m
    → count_in gives (past gives s calls) f l t ≤ count_in gives (past gives s calls) f m t + (feeder_of s f).bound
Holds gives s calls site = (t : ℕ) → site_in gives (past gives s calls) t ≤ s.site
Holds gives s calls feeders = Each (λ o. IsFeeder s o.feeder) (past gives s calls).orders
Holds gives s calls tickets = Numbered 1 (past gives s calls).orders
Holds gives s calls not_early =
    let h : Past = past gives s calls in
    Each (λ o. o.minute ≤ start_of gives h o) (staying_orders h)
Holds gives s calls in_time =
    let h : Past = past gives s calls in
    Each (λ o. end_of gives h o ≤ last_minute 0 h.orders + total_time h.tails h.orders) (staying_orders h)
Holds gives s calls reported =
    let h : Past = past gives s calls in
    Each (λ o. start_of gives h o < h.clock → times_reported h.reports o.ticket ≡ 1) (staying_orders h)
Holds gives s calls not_reported =
    let h : Past = past gives s calls in
    Each (λ o. h.clock ≤ start_of gives h o → times_reported h.reports o.ticket ≡ 0) (staying_orders h)
Holds gives s calls waits =
    let h : Past = past gives s calls in
    Each (λ o. h.clock ≤ start_of gives h o → enquiry gives h o.ticket ≡ waiting (start_of gives h o) o.rate) (staying_orders h)
Holds gives s calls charges =
    let h : Past = past gives s calls in
    Each
    (λ o.
    start_of gives h o < h.clock
    → h.clock < active_until gives h o
    → enquiry gives h o.ticket ≡ charging (start_of gives h o) (end_of gives h o) o.rate)
    (staying_orders h)
Holds gives s calls finished =
    let h : Past = past gives s calls in
    Each (λ o. active_until gives h o ≤ h.clock → enquiry gives h o.ticket ≡ refused 15) (staying_orders h)
Holds gives s calls gone_not_reported =
    let h : Past = past gives s calls in
    Each (λ o. times_reported h.reports o.ticket ≡ 0) (withdrawn_orders h)
Holds gives s calls gone_not_held =
    let h : Past = past gives s calls in
    Each (λ o. enquiry gives h o.ticket ≡ refused 15) (withdrawn_orders h)
Holds gives s calls no_other =
    (t : ℕ)
    → 1 ≤ times_reported (past gives s calls).reports t
    → some (λ (o : Order). eqb o.ticket t) (past gives s calls).orders ≡ true
Holds gives s calls no_other_found =
    (t : ℕ)
    → some (λ (o : Order). eqb o.ticket t) (past gives s calls).orders ≡ false
    → enquiry gives (past gives s calls) t ≡ refused 15
Holds gives s calls unmoved =
    (part rest : List Call)
    → calls ≡ part ++ rest
    → Each (Unmoved gives (past gives s part) (past gives s calls)) (staying_orders (past gives s part))
