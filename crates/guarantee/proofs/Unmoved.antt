-- Reports are only added, whatever calls give: a start that was reported stays.
use mathlib.Core.Path.{◌≡◌, refl, sym, ap, subst, ◌∙◌}
use Prim.Native.Nat.{ℕ, ◌+◌, ◌≤◌, ◌<◌}
use mathlib.Core.Bool.{Bool, true, false, cond}
use mathlib.Core.List.{List, [], ◌∷◌, ◌++◌, append_assoc, append-nil}
use native.Mathlib.Omega.{arith}
use lib.Dec.{eqb}
use Rattle.rules.specs.Basics.{Each}
use Rattle.rules.specs.Calls.{Result, Call}
use Rattle.guarantee.specs.Past.{Gives, Order, Report, Past, learnt, beginning, extended, after, past, staying_orders, times_reported, reported_start, start_in, enquiry, start_of}
use Rattle.guarantee.specs.DemandThree.{Unmoved}
use Rattle.guarantee.specs.Follows.{ReportedStartsStay}
use Rattle.guarantee.proofs.Each.{each_in}

-- a first part, then the rest
pub after-append :
    (gives : Gives) (part rest : List Call) (h : Past) → after gives h (part ++ rest) ≡ after gives (after gives h part) rest
after-append gives [] rest h = refl
after-append gives (c ∷ part) rest h = after-append gives part rest (extended h c (gives h.station c))

pub reports_added :
    (gives : Gives) (calls : List Call) (h : Past) → (new : List Report) × ((after gives h calls).reports ≡ h.reports ++ new)
reports_added gives [] h = ([], sym (append-nil h.reports))
reports_added gives (c ∷ calls) h =
    let r : Result = gives h.station c in
    let later = reports_added gives calls (extended h c r) in
    let added : List Report = (learnt h.clock c r.answer r.list).reports in
    (added ++ later.0, later.1 ∙ append_assoc h.reports added later.0)

-- the first report of a ticket tells its start
first_report :
    (rs new : List Report) (t x y : ℕ) → 1 ≤ times_reported rs t → reported_start (rs ++ new) t y ≡ reported_start rs t x
first_report [] new t x y h = absurd (omega arith)
first_report (r ∷ rs) new t x y h = go (eqb r.ticket t) h (first_report rs new t x y)
  where
    go :
        (b : Bool)
        → 1 ≤ cond b 1 0 + times_reported rs t
        → (1 ≤ times_reported rs t → reported_start (rs ++ new) t y ≡ reported_start rs t x)
        → cond b r.start (reported_start (rs ++ new) t y) ≡ cond b r.start (reported_start rs t x)
    go true u ih = refl
    go false u ih = ih (omega arith)

-- `unmoved` follows from `reported` after each first part, of every station, right or wrong
unmoved_order :
    (gives : Gives) (here : Past) (rest : List Call) (o : Order)
    → (start_of gives here o < here.clock → times_reported here.reports o.ticket ≡ 1)
    → Unmoved gives here (after gives here rest) o
unmoved_order gives here rest o once j =
    let new = reports_added gives rest here in
    ap (λ (rs : List Report). reported_start rs o.ticket (start_in (enquiry gives (after gives here rest) o.ticket))) new.1
    ∙ first_report here.reports new.0 o.ticket _ _ (omega (arith, once (omega (arith, j))))

pub reported_unmoved : ReportedStartsStay
reported_unmoved gives s calls once part rest e =
    subst (λ (z : List Call). Each (Unmoved gives (past gives s part) (past gives s z)) (staying_orders (past gives s part))) (sym e)
    (subst (λ (g : Past). Each (Unmoved gives (past gives s part) g) (staying_orders (past gives s part)))
    (sym (after-append gives part rest (beginning s)))
    (each_in (unmoved_order gives (past gives s part) rest) (staying_orders (past gives s part)) (once part rest e)))
