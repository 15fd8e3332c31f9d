-- The charge that the code takes is the one that the rules take: at the smallest start, and foremost there.
use mathlib.Core.Logic.{inl, inr, ⊎_elim}
use mathlib.Core.Path.{◌≡◌, refl, sym, ◌∙◌, ap, subst}
use Prim.Native.Nat.{ℕ, ◌-◌, ◌*◌, max, ◌≤◌, ◌<◌}
use mathlib.Core.Bool.{Bool, true, false, ◌||◌, true≢false}
use mathlib.Core.List.{List, [], ◌∷◌}
use native.Mathlib.Omega.{arith}
use lib.ListN.{length, get_or}
use borrow.Author.Tests.{lt-ltb, le-ltb, eq-eqb}
use Rattle.rules.specs.Basics.{at, Each, keep, some}
use Rattle.rules.specs.Load.{Load, last_until}
use Rattle.rules.specs.Charge.{Charge, starting}
use Rattle.rules.specs.Search.{Caps}
use Rattle.rules.specs.Priority.{Crowd, urgency, taken_before, chosen, foremost, Fitting, fits_at, first_fit, picked}
use Rattle.rules.proofs.Ranges.{below_or_not}
use Rattle.rules.proofs.Fitting.{NoneBelow, first_fit_is}
use Rattle.rules.proofs.Picking.{Among, front, behind, among_each, among_keep, Taken, taken_some}
use Rattle.rules.proofs.Foremost.{foremost_first}
use Rattle.charges.specs.Held.{Listed}
use Rattle.profile.specs.Shows.{Shows}
use Rattle.profile.proofs.Levels.{same_or_not}
use Rattle.search.specs.Caps.{CapsShown}
use Rattle.search.proofs.Unders.{run_shows, misses_fails}
use Rattle.priority.specs.declared.choice.Left.{Left}
use Rattle.priority.specs.declared.choice.Runs.{Runs}
use Rattle.priority.specs.Crowds.{longest_of}
use Rattle.priority.specs.Chosen.{time_at, active_time_at, rate_at, fits_run, Ahead}
use Rattle.lines.specs.declared.next.Room.{Room}
use Rattle.lines.specs.declared.next.Next.{Next}
use Rattle.lines.specs.Next.{runs_at, NextAt}
use Rattle.lines.proofs.Rearranging.{each_among, among_kept, among_passes, PlaceOf}
use Rattle.lines.proofs.Lefts.{left_at, crowd_in, AreLeft}

-- Tests of members

some-none : (f : Charge → Bool) (l : List Charge) → Each (λ x. f x ≡ false) l → some f l ≡ false
some-none f [] e = refl
some-none f (x ∷ l) e = rw (e.0, some-none f l e.1)

among_some : (f : Charge → Bool) {x : Charge} {l : List Charge} → Among x l → f x ≡ true → some f l ≡ true
among_some f front e = rw e refl
among_some f (behind {d = d} {l = l} m) e = rw (among_some f m e) (go (f d))
  where
    go : (b : Bool) → b || true ≡ true
    go true = refl
    go false = refl

-- the rules' pick, from its start and its charge
picked_is :
    (fits : Fitting) (clock : ℕ) (xs : List Load) (q : Crowd) (left : List Charge) (s : ℕ) (z : Charge)
    → first_fit fits clock xs left ≡ at s
    → foremost (taken_before q s) (keep (fits xs s) left) ≡ chosen z
    → picked fits clock xs q left ≡ chosen (starting z s)
unfolding picked
picked_is fits clock xs q left s z e f = rw (e, picked) (rw f)

module _ {cap : Caps} {site clock : ℕ} {room : Room} {l : Left} {rest : List Charge} {from : ℕ} {next : Next} (loads : List Load)
    (h : Listed l.charges.now) (shown : CapsShown room.caps.now site cap) (shows : Shows room.steps.now clock loads)
    (are : AreLeft l.charges.now room.line l.places.now rest) (r : NextAt room l from next)
    (below : NoneBelow (fits_at site cap) clock loads rest from) (near : from ≤ max clock (last_until loads)) where
  abbrev charge : ℕ → Charge
  charge = left_at l.charges.now l.places.now

  abbrev own : Crowd
  own = crowd_in l.crowd

  abbrev s : ℕ
  s = next.start

  abbrev fits : ℕ → Charge → Bool
  fits = fits_at site cap loads

  pub start_low : clock ≤ s
  start_low = omega (arith, r.low, shows.starts)

  pub start_near : s ≤ max clock (last_until loads)
  start_near = omega (arith, r.high, near, shows.ends (length room.steps.now - 1) (omega (arith, shows.formed.some)))

  abbrev runs : Runs
  runs = runs_at room next.times s

  -- a charge fits exactly when it is no longer than the run
  fits_same : (j : ℕ) → j < length l.places.now → fits s (charge j) ≡ fits_run l runs j
  fits_same j b =
      rw (are.on_line j b)
      (⊎_elim
      (λ x.
      let e : 1 ≡ rate_at l j = omega (arith, (h.small (get_or l.places.now j 0) (are.inside j b)).is_rate.low) in
      rw (← e) (run_shows room.on_line shows shown 1 (active_time_at l j) (longest_of next.times.one) s start_low (r.bounds.one j b e)))
      (λ x.
      let e : 2 ≡ rate_at l j = omega (arith, (h.small (get_or l.places.now j 0) (are.inside j b)).is_rate.high) in
      rw (← e) (run_shows room.on_line shows shown 2 (active_time_at l j) (longest_of next.times.two) s start_low (r.bounds.two j b e)))
      (below_or_not (rate_at l j) 2))

  taken_fits : fits s (charge next.position) ≡ true
  taken_fits = fits_same next.position r.inside ∙ r.choice.fits

  some_fits : some (fits s) rest ≡ true
  some_fits = among_some (fits s) (are.to next.position r.inside) taken_fits

  pub none_below : NoneBelow (fits_at site cap) clock loads rest s
  none_below u a b =
      ⊎_elim
      (λ k. below u a k)
      (λ k.
      some-none (fits u) rest
      (each_among (λ x. fits u x ≡ false) rest
      (λ x m.
      let w = are.from x m in
      rw (w.is, are.on_line w.place w.inside)
      (misses_fails room.on_line shows shown (rate_at l w.place) (active_time_at l w.place) u a
      (r.none u k b w.place w.inside)))))
      (below_or_not u from)

  first-is : first_fit (fits_at site cap) clock loads rest ≡ at s
  first-is = first_fit_is (fits_at site cap) clock loads rest s start_low start_near some_fits none_below

  abbrev W : ℕ → ℕ
  W j = urgency own s (charge j)

  abbrev T : ℕ → ℕ
  T = time_at l

  -- what is ahead is taken before
  taken_ahead :
      (j : ℕ) → j < length l.places.now → fits s (charge j) ≡ true → (j ≡ next.position → ⊥)
      → taken_before own s (charge next.position) (charge j) ≡ true
  taken_ahead j b fit ne = go (r.choice.ahead j b (sym (fits_same j b) ∙ fit) ne)
    where
      go :
          Ahead W T next.position j
          → taken_before own s (charge next.position) (charge j) ≡ true
      go (inl l) = rw (lt-ltb (W j * T next.position) (W next.position * T j) l) refl
      go (inr l) =
          rw (
            le-ltb (W j * T next.position) (W next.position * T j) (omega (arith, l.0)),
            eq-eqb (W next.position * T j) (W j * T next.position) (sym l.0),
            are.sorted next.position j l.1 b,
          )
          refl

  foremost_is : foremost (taken_before own s) (keep (fits s) rest) ≡ chosen (charge next.position)
  foremost_is = go (taken_some (taken_before own s) (fits s) rest some_fits)
    where
      go : Taken (taken_before own s) (keep (fits s) rest) → foremost (taken_before own s) (keep (fits s) rest) ≡ chosen (charge next.position)
      go t = t.gives ∙ ap chosen (⊎_elim (λ e. w.is ∙ ap charge e) other (same_or_not w.place next.position))
        where
          w : PlaceOf charge (length l.places.now) t.who
          w = are.from t.who (among_keep (fits s) t.who rest t.member)

          first : (1 ≤ t.who.time) × Each (λ d. taken_before own s d t.who ≡ false) (keep (fits s) rest)
          first =
              foremost_first own s (keep (fits s) rest) t.who
              (each_among (λ x. 1 ≤ x.time) (keep (fits s) rest)
              (λ x m.
              let k = are.from x (among_keep (fits s) x rest m) in
              rw k.is (h.small (get_or l.places.now k.place 0) (are.inside k.place k.inside)).time_low))
              t.gives

          other : (w.place ≡ next.position → ⊥) → t.who ≡ charge next.position
          other ne =
              absurd
              (true≢false
              (sym (taken_ahead w.place w.inside (subst (λ (y : Charge). fits s y ≡ true) w.is (among_passes (fits s) rest t.member)) ne)
              ∙ subst (λ (y : Charge). taken_before own s (charge next.position) y ≡ false) w.is
              (among_each (λ x. taken_before own s x t.who ≡ false)
              (among_kept (fits s) (are.to next.position r.inside) taken_fits) first.1)))

  pub next_picked : picked (fits_at site cap) clock loads own rest ≡ chosen (starting (charge next.position) s)
  next_picked = picked_is (fits_at site cap) clock loads own rest s (charge next.position) first-is foremost_is
