-- What is claimed of a list of calls that began with an image from elsewhere.
use mathlib.Core.Logic.{◌⊎◌, inl, inr}
use mathlib.Core.Path.{◌≡◌, refl, subst, ◌∙◌}
use Prim.Native.Nat.{ℕ, ◌+◌, ◌≤◌, ◌<◌}
use mathlib.Core.Bool.{Bool, true, false, cond, not}
use mathlib.Core.List.{List, [], ◌∷◌, ◌++◌, map}
use native.Mathlib.Omega.{arith}
use Rattle.rules.specs.Basics.{Each, keep}
use Rattle.rules.specs.Charge.{begun_charges}
use Rattle.rules.specs.Site.{State, charges_on, site_charges}
use Rattle.rules.specs.Calls.{Call, step}
use Rattle.rules.specs.Valid.{IsFeeder, ValidState}
use Rattle.rules.proofs.Ranges.{below_or_not}
use Rattle.guarantee.specs.Past.{Order, Report, order_of, orders_of, report_of, beginning, past, is_withdrawn, staying_orders, withdrawn_orders, times_reported, start_of}
use Rattle.guarantee.specs.DemandThree.{Kept, Unmoved, DemandThreeFrom}
use Rattle.guarantee.proofs.Each.{each_two, each_in, image_each}
use Rattle.guarantee.proofs.Unmoved.{reports_added}
use Rattle.guarantee.proofs.Staying.{all_stay}
use Rattle.guarantee.proofs.DemandThree.{demand_three_from, beginning_starts}
use Rattle.restarts.specs.Restarts.{FromElsewhere}
use Rattle.restarts.proofs.Feeders.{each_left, orders_on}

-- what holds of those that pass a test, and of the others
each_split :
    {A : Type 0} (R : A → Type 0) (f : A → Bool) (l : List A) → Each R (keep (λ a. not (f a)) l) → Each R (keep f l) → Each R l
each_split R f [] d e = tt
each_split R f (a ∷ l) d e = go (f a) d e (each_split R f l)
  where
    go :
        (b : Bool)
        → Each R (cond (not b) (a ∷ keep (λ x. not (f x)) l) (keep (λ x. not (f x)) l))
        → Each R (cond b (a ∷ keep f l) (keep f l))
        → (Each R (keep (λ x. not (f x)) l) → Each R (keep f l) → Each R l)
        → R a × Each R l
    go true p q rest = (q.0, rest p q.1)
    go false p q rest = (p.0, rest p.1 q)

times-append : (xs ys : List Report) (t : ℕ) → times_reported (xs ++ ys) t ≡ times_reported xs t + times_reported ys t
times-append [] ys t = omega arith
times-append (x ∷ xs) ys t = rw (times-append xs ys t) (omega arith)

module _ (s : State) (calls : List Call) (v : ValidState s) where
  from : DemandThreeFrom step s calls
  from = demand_three_from s calls v

  -- an order that stays is reported once or not at all, one that is withdrawn never
  abbrev AtMostOnce : Order → Type 0
  AtMostOnce o = times_reported (past step s calls).reports o.ticket ≤ 1

  kept_once : (o : Order) → Kept step (past step s calls) o → AtMostOnce o
  kept_once o k = go (below_or_not (start_of step (past step s calls) o) (past step s calls).clock)
    where
      go :
          (start_of step (past step s calls) o < (past step s calls).clock) ⊎ ((past step s calls).clock ≤ start_of step (past step s calls) o)
          → AtMostOnce o
      go (inl h) = omega (arith, k.reported h)
      go (inr h) = omega (arith, k.not_reported h)

  -- the charges of one feeder
  module _ (f : ℕ) (h : IsFeeder s f) where
    on : (P : Order → Type 0) → Each P (orders_of s) → Each (λ c. P (order_of f c)) (charges_on s f)
    on P e = image_each P (order_of f) (charges_on s f) (orders_on P s f h e)

    -- their orders stay at the beginning
    on_staying : (P : Order → Type 0) → Each P (staying_orders (beginning s)) → Each (λ c. P (order_of f c)) (charges_on s f)
    on_staying P e = on P (subst (λ (os : List Order). Each P os) (all_stay (orders_of s)) e)

    -- the start as it was at the beginning
    begun_starts :
        Each (λ c. c.start < s.clock → start_of step (past step s calls) (order_of f c) ≡ c.start) (charges_on s f)
    begun_starts =
        each_two
        (λ c. start_of step (beginning s) (order_of f c) ≡ c.start)
        (λ c. Unmoved step (beginning s) (past step s calls) (order_of f c))
        (λ c. c.start < s.clock → start_of step (past step s calls) (order_of f c) ≡ c.start)
        (λ c e u j. u (rw e j) ∙ e)
        (charges_on s f)
        (beginning_starts s v f h)
        (on_staying (Unmoved step (beginning s) (past step s calls)) (from.unmoved [] calls refl))

    held_once : Each (λ c. times_reported (past step s calls).reports c.ticket ≤ 1) (charges_on s f)
    held_once =
        on AtMostOnce
        (each_left AtMostOnce (orders_of s) from.tickets.0
        (subst (λ (os : List Order). Each AtMostOnce os) from.tickets.1
        (each_split AtMostOnce (is_withdrawn (past step s calls).withdrawn) (past step s calls).orders
        (each_in kept_once (staying_orders (past step s calls)) from.orders)
        (each_in (λ o g. omega (arith, g.not_reported)) (withdrawn_orders (past step s calls)) from.gone))))

    -- those begun had been reported at the beginning
    begun_once : Each (λ c. c.start < s.clock → times_reported (beginning s).reports c.ticket ≡ 1) (charges_on s f)
    begun_once =
        each_two
        (λ c. start_of step (beginning s) (order_of f c) ≡ c.start)
        (λ c. Kept step (beginning s) (order_of f c))
        (λ c. c.start < s.clock → times_reported (beginning s).reports c.ticket ≡ 1)
        (λ c e k j. k.reported (omega (arith, e)))
        (charges_on s f)
        (beginning_starts s v f h)
        (on_staying (Kept step (beginning s)) (demand_three_from s [] v).orders)

    not_again :
        (new : List Report)
        → (past step s calls).reports ≡ map report_of (begun_charges s.clock (site_charges s)) ++ new
        → Each (λ c. c.start < s.clock → times_reported new c.ticket ≡ 0) (charges_on s f)
    not_again new e =
        each_two
        (λ c. times_reported (past step s calls).reports c.ticket ≤ 1)
        (λ c. c.start < s.clock → times_reported (beginning s).reports c.ticket ≡ 1)
        (λ c. c.start < s.clock → times_reported new c.ticket ≡ 0)
        (λ c whole here j. once c.ticket whole (here j))
        (charges_on s f)
        held_once
        begun_once
      where
        once :
            (t : ℕ)
            → times_reported (past step s calls).reports t ≤ 1
            → times_reported (beginning s).reports t ≡ 1
            → times_reported new t ≡ 0
        once t whole here =
            let sum : times_reported ((beginning s).reports ++ new) t ≤ 1
            = subst (λ (rs : List Report). times_reported rs t ≤ 1) e whole in
            omega (arith, here, sum, times-append (beginning s).reports new t)

  pub from_elsewhere : FromElsewhere s calls
  from_elsewhere =
      let new = reports_added step calls (beginning s) in
      record {
        three = from;
        begun = λ f h. each_in (λ c b j. b (omega (arith, j))) (charges_on s f) (begun_starts f h);
        not_again = (new.0, new.1, λ f h. not_again f h new.0 new.1);
      }
