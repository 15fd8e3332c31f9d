-- The test of each field of what is said of a list of calls is true exactly where the field holds, but for one, whose test tells it of
-- most stations.
use mathlib.Core.Path.{◌≡◌, refl, sym, ap, ◌∙◌}
use Prim.Native.Nat.{ℕ, suc, ◌+◌, ◌≤◌}
use mathlib.Core.Bool.{Bool, true, false, cond, ◌||◌, false≢true}
use mathlib.Core.List.{List, [], ◌∷◌, ◌++◌, map}
use native.Mathlib.Omega.{arith}
use lib.Dec.{eqb}
use lib.ListN.{length}
use borrow.Author.Tests.{eqb-true, eq-eqb}
use Rattle.rules.specs.Basics.{Each, some}
use Rattle.rules.specs.Load.{IsLine}
use Rattle.rules.specs.Charge.{Charge, has_ticket}
use Rattle.rules.specs.Site.{State, feeder_of, site_charges}
use Rattle.rules.specs.Valid.{IsFeeder}
use Rattle.rules.specs.Calls.{refused, waiting, charging, Call}
use Rattle.rules.proofs.Ranges.{and_left, and_right, and_both, throughout_at, throughout_all}
use Rattle.guarantee.specs.Past.{Gives, Order, Report, Past, beginning, extended, after, past, staying_orders, withdrawn_orders, times_reported, enquiry, start_of, end_of, active_until, load_of, count_in, Numbered, total_time, last_minute}
use Rattle.guarantee.specs.DemandThree.{Unmoved}
use Rattle.excluded.specs.Same.{every}
use Rattle.excluded.specs.Minutes.{limit_from, balance_from}
use Rattle.excluded.specs.FieldsThree.{Field, limit, balance, site, feeders, tickets, not_early, in_time, reported, not_reported, waits, charges, finished, gone_not_reported, gone_not_held, no_other, no_other_found, unmoved}
use Rattle.excluded.specs.TestsThree.{numbered, after_each, unmoved_from, on_each, is_feeder, loads_on, charge_ordered, by_charges}
use Rattle.excluded.specs.LawsOfTests.{Tests}
use Rattle.excluded.specs.LawsOfTests.{ListsAreTested, FoundIsTested}
use Rattle.excluded.proofs.Tests.{leb_tests, ltb_tests, eqb_tests, every_tests, both_tests, where_so_tests}
use Rattle.excluded.proofs.TestsMinutes.{limit_tests, balance_tests, site_tests}
use Rattle.excluded.proofs.Same.{same_answer_lem}

-- Tickets and reports

tickets_tests : (i : ℕ) (os : List Order) → Tests (numbered i os) (Numbered i os)
tickets_tests i [] = ((λ e. tt), (λ e. refl))
tickets_tests i (o ∷ os) = (
  (λ e. (
    eqb-true o.ticket i (and_left (eqb o.ticket i) (numbered (suc i) os) e),
    (tickets_tests (suc i) os).0 (and_right (eqb o.ticket i) (numbered (suc i) os) e),
  )),
  (λ p.
      and_both (eqb o.ticket i) (numbered (suc i) os) (eq-eqb o.ticket i p.0) ((tickets_tests (suc i) os).1 p.1)),
)

-- a test that holds of each reported ticket, and the other way round
every_reported :
    (f : ℕ → Bool) (rs : List Report) → Tests (every (λ r. f r.ticket) rs) ((t : ℕ) → 1 ≤ times_reported rs t → f t ≡ true)
every_reported f [] = ((λ e t h. absurd (omega arith)), (λ p. refl))
every_reported f (r ∷ rs) = (
  (λ e t h. go t (eqb r.ticket t) refl h (and_left (f r.ticket) (every (λ r. f r.ticket) rs) e)
      ((every_reported f rs).0 (and_right (f r.ticket) (every (λ r. f r.ticket) rs) e) t)),
  (λ p.
      and_both (f r.ticket) (every (λ r. f r.ticket) rs)
      (p r.ticket (rw (eq-eqb r.ticket r.ticket refl) (omega arith)))
      ((every_reported f rs).1 (λ t h. p t (omega arith)))),
)
  where
    go :
        (t : ℕ) (b : Bool)
        → eqb r.ticket t ≡ b
        → 1 ≤ cond b 1 0 + times_reported rs t
        → f r.ticket ≡ true
        → (1 ≤ times_reported rs t → f t ≡ true)
        → f t ≡ true
    go t true q h here later = let same : r.ticket ≡ t = eqb-true r.ticket t q in rw (← same) here
    go t false q h here later = later (omega arith)

-- First parts

after_each_lem :
    (f : Past → Bool) (gives : Gives) (h : Past) (calls : List Call)
    → Tests (after_each f gives h calls) ((part rest : List Call) → calls ≡ part ++ rest → f (after gives h part) ≡ true)
after_each_lem f gives h [] = (
  (λ e. none e),
  (λ p. p [] [] refl),
)
  where
    none : f h ≡ true → (part rest : List Call) → [] ≡ part ++ rest → f (after gives h part) ≡ true
    none e [] rest q = e
    none e (c ∷ part) rest q = let z : ◌≡◌ {A = ℕ} 0 1 = cc in absurd (omega arith)
after_each_lem f gives h (c ∷ calls) = (
  (λ e.
      some_part (and_left (f h) (after_each f gives (extended h c (gives h.station c)) calls) e)
      ((after_each_lem f gives (extended h c (gives h.station c)) calls).0
      (and_right (f h) (after_each f gives (extended h c (gives h.station c)) calls) e))),
  (λ p.
      and_both (f h) (after_each f gives (extended h c (gives h.station c)) calls) (p [] (c ∷ calls) refl)
      ((after_each_lem f gives (extended h c (gives h.station c)) calls).1
      (λ part rest q. p (c ∷ part) rest (ap (λ l. c ∷ l) q)))),
)
  where
    some_part :
        f h ≡ true
        → ((part rest : List Call) → calls ≡ part ++ rest → f (after gives (extended h c (gives h.station c)) part) ≡ true)
        → (part rest : List Call)
        → c ∷ calls ≡ part ++ rest
        → f (after gives h part) ≡ true
    some_part e later [] rest q = e
    some_part e later (d ∷ part) rest q =
        let same : c ≡ d = cc in
        let r : calls ≡ part ++ rest = cc in
        rw (← same) (later part rest r)

-- Feeders

each_feeder :
    (s : State) (test : ℕ → Bool) (P : ℕ → Type 0)
    → ((f : ℕ) → Tests (test f) (P f))
    → Tests (on_each s test) ((f : ℕ) → IsFeeder s f → P f)
each_feeder s test P right = (
  (λ e f h. (right f).0 (throughout_at test (length s.feeders) 1 e f h.low (omega (arith, h.high)))),
  (λ p.
      throughout_all test (length s.feeders) 1
      (λ f a b. (right f).1 (p f (record { low = a; high = omega arith })))),
)

feeder_tests : (s : State) (f : ℕ) → Tests (is_feeder s f) (IsFeeder s f)
feeder_tests s f =
    let law = both_tests (leb_tests 1 f) (leb_tests f (length s.feeders)) in (
      (λ e. let p = law.0 e in record { low = p.0; high = p.1 }),
      (λ h. law.1 (h.low, h.high)),
    )

-- Each field

pub three_tested : ListsAreTested
three_tested gives s calls limit other =
    let h : Past = past gives s calls in
    let law = each_feeder s
    (λ f. limit_from (feeder_of s f).limit 0 (loads_on gives h f))
    (λ f. (l t : ℕ) → IsLine l → 0 ≤ t → count_in gives h f l t ≤ (feeder_of s f).limit)
    (λ f. limit_tests (feeder_of s f).limit 0 (loads_on gives h f)) in
    ((λ e f l t i j. law.0 e f i l t j (omega arith)), (λ p. law.1 (λ f i l t j k. p f l t i j)))
three_tested gives s calls balance other =
    let h : Past = past gives s calls in
    let law = each_feeder s
    (λ f. balance_from (feeder_of s f).bound 0 (loads_on gives h f))
    (λ f. (l m t : ℕ) → IsLine l → IsLine m → 0 ≤ t → count_in gives h f l t ≤ count_in gives h f m t + (feeder_of s f).bound)
    (λ f. balance_tests (feeder_of s f).bound 0 (loads_on gives h f)) in
    ((λ e f l m t i j k. law.0 e f i l m t j k (omega arith)), (λ p. law.1 (λ f i l m t j k z. p f l m t i j k)))
three_tested gives s calls site other =
    let h : Past = past gives s calls in
    let law = site_tests s.site 0 [] (map (load_of gives h) (staying_orders h)) in
    ((λ e t. let p = law.0 e t (omega arith) in omega arith), (λ p. law.1 (λ t k. let q = p t in omega arith)))
three_tested gives s calls feeders other = every_tests (λ o. feeder_tests s o.feeder) (past gives s calls).orders
three_tested gives s calls tickets other = tickets_tests 1 (past gives s calls).orders
three_tested gives s calls not_early other =
    let h : Past = past gives s calls in
    every_tests (λ o. leb_tests o.minute (start_of gives h o)) (staying_orders h)
three_tested gives s calls in_time other =
    let h : Past = past gives s calls in
    every_tests (λ o. leb_tests (end_of gives h o) (last_minute 0 h.orders + total_time h.tails h.orders)) (staying_orders h)
three_tested gives s calls reported other =
    let h : Past = past gives s calls in
    every_tests
    (λ o. where_so_tests (ltb_tests (start_of gives h o) h.clock) (eqb_tests (times_reported h.reports o.ticket) 1))
    (staying_orders h)
three_tested gives s calls not_reported other =
    let h : Past = past gives s calls in
    every_tests
    (λ o. where_so_tests (leb_tests h.clock (start_of gives h o)) (eqb_tests (times_reported h.reports o.ticket) 0))
    (staying_orders h)
three_tested gives s calls waits other =
    let h : Past = past gives s calls in
    every_tests
    (λ o.
    where_so_tests (leb_tests h.clock (start_of gives h o))
    (same_answer_lem (enquiry gives h o.ticket) (waiting (start_of gives h o) o.rate)))
    (staying_orders h)
three_tested gives s calls charges other =
    let h : Past = past gives s calls in
    every_tests
    (λ o.
    where_so_tests (ltb_tests (start_of gives h o) h.clock)
    (where_so_tests (ltb_tests h.clock (active_until gives h o))
    (same_answer_lem (enquiry gives h o.ticket) (charging (start_of gives h o) (end_of gives h o) o.rate))))
    (staying_orders h)
three_tested gives s calls finished other =
    let h : Past = past gives s calls in
    every_tests
    (λ o. where_so_tests (leb_tests (active_until gives h o) h.clock) (same_answer_lem (enquiry gives h o.ticket) (refused 15)))
    (staying_orders h)
three_tested gives s calls gone_not_reported other =
    let h : Past = past gives s calls in
    every_tests (λ o. eqb_tests (times_reported h.reports o.ticket) 0) (withdrawn_orders h)
three_tested gives s calls gone_not_held other =
    let h : Past = past gives s calls in
    every_tests (λ o. same_answer_lem (enquiry gives h o.ticket) (refused 15)) (withdrawn_orders h)
three_tested gives s calls no_other other =
    every_reported (λ t. some (λ (o : Order). eqb o.ticket t) (past gives s calls).orders) (past gives s calls).reports
three_tested gives s calls no_other_found other = absurd (false≢true (sym other))
three_tested gives s calls unmoved other =
    let there : Past = past gives s calls in
    let each = after_each_lem (unmoved_from gives there) gives (beginning s) calls in
    let at : (here : Past) → Tests (unmoved_from gives there here) (Each (Unmoved gives here there) (staying_orders here))
    = λ here.
    every_tests
    (λ o.
    where_so_tests (ltb_tests (start_of gives here o) here.clock) (eqb_tests (start_of gives there o) (start_of gives here o)))
    (staying_orders here) in (
      (λ e part rest q. (at (past gives s part)).0 (each.0 e part rest q)),
      (λ p. each.1 (λ part rest q. (at (past gives s part)).1 (p part rest q))),
    )

-- The charges held

-- a ticket that no order has is not that of a charge, where each charge is of an order
none_has :
    (h : Past) (t : ℕ) (cs : List Charge)
    → every (charge_ordered h) cs ≡ true
    → some (λ (o : Order). eqb o.ticket t) h.orders ≡ false
    → some (has_ticket t) cs ≡ false
none_has h t [] e n = refl
none_has h t (c ∷ cs) e n =
    go (eqb c.ticket t) refl (none_has h t cs (and_right (charge_ordered h c) (every (charge_ordered h) cs) e) n)
  where
    go : (b : Bool) → eqb c.ticket t ≡ b → some (has_ticket t) cs ≡ false → b || some (has_ticket t) cs ≡ false
    go true q rest =
        let same : c.ticket ≡ t = eqb-true c.ticket t q in
        absurd (false≢true (sym n ∙ rw same at (and_left (charge_ordered h c) (every (charge_ordered h) cs) e)))
    go false q rest = rest

pub found_tested : FoundIsTested
found_tested gives s calls refuses e t n =
    let h : Past = past gives s calls in
    refuses h.station t (none_has h t (site_charges h.station) e n)

pub charges_only : (f : Field) → by_charges f ≡ true → f ≡ no_other_found
charges_only limit e = absurd (false≢true e)
charges_only balance e = absurd (false≢true e)
charges_only site e = absurd (false≢true e)
charges_only feeders e = absurd (false≢true e)
charges_only tickets e = absurd (false≢true e)
charges_only not_early e = absurd (false≢true e)
charges_only in_time e = absurd (false≢true e)
charges_only reported e = absurd (false≢true e)
charges_only not_reported e = absurd (false≢true e)
charges_only waits e = absurd (false≢true e)
charges_only charges e = absurd (false≢true e)
charges_only finished e = absurd (false≢true e)
charges_only gone_not_reported e = absurd (false≢true e)
charges_only gone_not_held e = absurd (false≢true e)
charges_only no_other e = absurd (false≢true e)
charges_only unmoved e = absurd (false≢true e)
charges_only no_other_found e = refl
