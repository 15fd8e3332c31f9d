-- The replan by latest start, spelled out.
use mathlib.Core.Logic.{◌⊎◌, inl, inr, ◌↔◌}
use mathlib.Core.Path.{◌≡◌, refl, sym, ap, subst, ◌∙◌}
use Prim.Native.Nat.{ℕ, ◌≤◌, ◌<◌}
use mathlib.Core.Bool.{true, false, true≢false}
use mathlib.Core.List.{List, [], ◌∷◌, ◌++◌, append_assoc}
use native.Mathlib.Omega.{arith}
use Rattle.rules.specs.Basics.{Each, Found, at, nothing}
use Rattle.rules.specs.Load.{Load, load_from, IsLine, Limits, sound}
use Rattle.rules.specs.Charge.{Charge, starting, draw_of, load_of, loads_of, is_begun, is_waiting, begun_charges, waiting_charges}
use Rattle.rules.specs.Search.{added}
use Rattle.rules.specs.Replan.{Proposal, starts, none, Placed, all, stuck, place_all, proposed, starts_in, sound_start, standing, latest}
use Rattle.rules.specs.Site.{feeder_of, charges_on, limits_of}
use Rattle.rules.specs.Valid.{ValidCharge, IsFeeder}
use Rattle.rules.proofs.Ranges.{below_or_not}
use Rattle.rules.proofs.Lists.{each_map, each_append, keep_each, map-append}
use Rattle.rules.proofs.Searches.{earliest_first, earliest_none}
use Rattle.rules.proofs.Sites.{lines_own}
use Rattle.rules.proofs.Sorting.{InOrder, each_rearranged, sorted_rearranged}
use Rattle.rules.proofs.Tickets.{rising_keep}
use Rattle.rules.proofs.Queues.{latest_start_order}
use Rattle.rules.proofs.LatestStarts.{LatestStartBefore}
use Rattle.guarantee.specs.DemandTwo.{cause_of}
use Rattle.guarantee.proofs.Orders.{plan_sound_lem, sound_plan}
use Rattle.station.specs.declared.Station.{Station}
use Rattle.station.specs.View.{view, Valid}
use Rattle.calls.specs.declared.Call.TheVariants.{ReplanLatest}
use Rattle.theorem.specs.Theorem.{Made, MeetsApply}
use Rattle.theorem.specs.Single.{IsGranted, FirstToHold}
use Rattle.theorem.specs.Soundness.{IsSound}
use Rattle.theorem.specs.Proposed.{plan, plan_in, Proposes}
use Rattle.theorem.specs.Causes.{causes_against}
use Rattle.theorem.specs.ByLatestStart.{in_line, drawn_with, IsSmallestStart, HasNoStart, ArePlaced, OneIsStuck, ByLatestStart, TurnsAreByLatestStart, StartsAreTheSmallest, CauseOneIsNoStart}
use Rattle.theorem.proofs.Soundness.{spelled_sound, sound_spelled}
use Rattle.theorem.proofs.Planned.{cause_tested, there_tested}
use Rattle.theorem.proofs.Causes.{judged_first}
use Rattle.theorem.proofs.Moved.{rearranged_count}

-- a charge that fits where nothing else is drawn
record Fits (s : Station) (f : ℕ) (c : Charge) : Type 0 where
  line : IsLine c.line
  limit : c.rate ≤ (feeder_of (view s) f).limit
  bound : c.rate ≤ (feeder_of (view s) f).bound
  site : c.rate ≤ s.site

module _ (s : Station) (v : Valid s) (f : ℕ) (h : IsFeeder (view s) f) where
  abbrev y : Limits
  y = limits_of (view s) f

  abbrev begun : List Charge
  begun = begun_charges s.clock (charges_on (view s) f)

  abbrev base : List Load
  base = standing y s.clock (charges_on (view s) f)

  abbrev find : List Charge → Charge → Found
  find = sound_start y s.clock base

  each_fits : Each (Fits s f) (in_line s f)
  each_fits =
      each_rearranged (Fits s f) (sorted_rearranged _ (waiting_charges s.clock (charges_on (view s) f)))
      (keep_each (Fits s f) (is_waiting s.clock) (charges_on (view s) f)
      (each_map (ValidCharge (feeder_of (view s) f) s.site s.clock s.next) (Fits s f)
      (λ c p.
      record { line = p.line; limit = p.within_limit; bound = p.within_bound; site = p.within_site_lem })
      (charges_on (view s) f) (v.state.plan f h).each))

  begun_lines : Each (λ c. IsLine c.line) begun
  begun_lines =
      keep_each (λ c. IsLine c.line) (is_begun s.clock) (charges_on (view s) f)
      (each_map (ValidCharge (feeder_of (view s) f) s.site s.clock s.next) (λ c. IsLine c.line) (λ c p. p.line)
      (charges_on (view s) f) (v.state.plan f h).each)

  module _ (placed : List Charge) (on : Each (λ c. IsLine c.line) placed) (c : Charge) (fits : Fits s f c) where
    -- what the search looks at
    abbrev looked : ℕ → List Load
    looked u = added (base ++ loads_of placed) (draw_of c) u

    same_loads : (u : ℕ) → looked u ≡ y.others ++ drawn_with s f placed c u
    same_loads u =
        ap (λ (xs : List Load). xs ++ (load_from (draw_of c) u ∷ []))
        (append_assoc y.others (loads_of begun) (loads_of placed)
        ∙ ap (λ (ys : List Load). y.others ++ ys) (sym (map-append load_of begun placed)))
        ∙ append_assoc y.others (loads_of (begun ++ placed)) (load_from (draw_of c) u ∷ [])

    with_lines : (u : ℕ) → Each (λ x. IsLine x.line) (drawn_with s f placed c u)
    with_lines u =
        each_append (λ x. IsLine x.line) (loads_of (begun ++ placed)) (load_from (draw_of c) u ∷ [])
        (lines_own (begun ++ placed) (each_append (λ c. IsLine c.line) begun placed begun_lines on))
        (fits.line, tt)

    sound_there : (u : ℕ) → sound y s.clock (looked u) ≡ true → IsSound s f (drawn_with s f placed c u)
    sound_there u e =
        spelled_sound s f (drawn_with s f placed c u)
        (plan_sound_lem (view s) f (drawn_with s f placed c u) (with_lines u)
        (sym (ap (λ (xs : List Load). sound y s.clock xs) (same_loads u)) ∙ e))

    there_sound : (u : ℕ) → IsSound s f (drawn_with s f placed c u) → sound y s.clock (looked u) ≡ true
    there_sound u p =
        ap (λ (xs : List Load). sound y s.clock xs) (same_loads u)
        ∙ sound_plan (view s) f (drawn_with s f placed c u) (with_lines u) (sound_spelled s f (drawn_with s f placed c u) p)

    found_smallest : (u : ℕ) → find placed c ≡ at u → IsSmallestStart s f placed c u
    found_smallest u e =
        let r = earliest_first y s.clock (base ++ loads_of placed) (draw_of c) u e in
        (r.low, sound_there u r.here, (λ w i p. least w (below_or_not w u) r.least i p))
      where
        least :
            (w : ℕ)
            → (w < u) ⊎ (u ≤ w)
            → ((i : ℕ) → s.clock ≤ i → i < u → sound y s.clock (looked i) ≡ false)
            → s.clock ≤ w
            → IsSound s f (drawn_with s f placed c w)
            → u ≤ w
        least w (inl j) r i p = absurd (true≢false (sym (there_sound w p) ∙ r w i j))
        least w (inr j) r i p = j

    none_found : find placed c ≡ nothing → HasNoStart s f placed c
    none_found e u i p =
        true≢false
        (sym (there_sound u p)
        ∙ earliest_none y s.clock (base ++ loads_of placed) (draw_of c) fits.limit fits.site fits.bound e u i)

  -- What the replan makes of some charges

  abbrev MadeOf : List Charge → List Charge → Placed → Type 0
  MadeOf placed cs (all made) = ArePlaced s f placed cs made
  MadeOf placed cs stuck = OneIsStuck s f placed cs

  made_of :
      (placed cs : List Charge)
      → Each (λ c. IsLine c.line) placed
      → Each (Fits s f) cs
      → MadeOf placed cs (place_all find placed cs)
  unfolding place_all
  made_of placed [] on fits = refl
  made_of placed (c ∷ cs) on fits =
      go (find placed c) refl
      (λ u.
      made_of (placed ++ (starting c u ∷ [])) cs
      (each_append (λ c. IsLine c.line) placed (starting c u ∷ []) on (fits.0.line, tt)) fits.1)
    where
      go :
          (r : Found)
          → find placed c ≡ r
          → ((u : ℕ) → MadeOf (placed ++ (starting c u ∷ [])) cs (place_all find (placed ++ (starting c u ∷ [])) cs))
          → MadeOf placed (c ∷ cs) (place_all find placed (c ∷ cs))
      go nothing e rest = rw (e, place_all) (inl (none_found placed on c fits.0 e))
      go (at u) e rest =
          rw (e, place_all) (behind (place_all find (placed ++ (starting c u ∷ [])) cs) (rest u))
        where
          behind : (r : Placed) → MadeOf (placed ++ (starting c u ∷ [])) cs r → MadeOf placed (c ∷ cs) r
          behind (all made) q = (u, found_smallest placed on c fits.0 u e, q)
          behind stuck q = inr (u, found_smallest placed on c fits.0 u e, q)

  -- the smallest start is one
  one_start :
      (placed : List Charge) (c : Charge) (a b : ℕ)
      → IsSmallestStart s f placed c a
      → IsSmallestStart s f placed c b
      → a ≡ b
  one_start placed c a b p q = omega (arith, p.2 b q.0 q.1, q.2 a p.0 p.1)

  not_both : (placed cs made : List Charge) → ArePlaced s f placed cs made → OneIsStuck s f placed cs → ⊥
  not_both placed [] made p q = q
  not_both placed (c ∷ cs) made (a, p, rest) (inl q) = q a p.0 p.1
  not_both placed (c ∷ cs) made (a, p, rest) (inr (b, q, more)) =
      not_both (placed ++ (starting c a ∷ [])) cs made rest
      (subst (λ (u : ℕ). OneIsStuck s f (placed ++ (starting c u ∷ [])) cs) (sym (one_start placed c a b p q)) more)

  one_plan :
      (placed cs made other : List Charge) → ArePlaced s f placed cs made → ArePlaced s f placed cs other → made ≡ other
  one_plan placed [] made other p q = sym p ∙ q
  one_plan placed (c ∷ cs) made other (a, p, rest) (b, q, more) =
      one_plan (placed ++ (starting c a ∷ [])) cs made other rest
      (subst (λ (u : ℕ). ArePlaced s f (placed ++ (starting c u ∷ [])) cs other) (sym (one_start placed c a b p q)) more)

  abbrev waiting : List Charge
  waiting = waiting_charges s.clock (charges_on (view s) f)

  abbrev outcome : Placed
  outcome = place_all find [] (in_line s f)

  outcome_made : MadeOf [] (in_line s f) outcome
  outcome_made = made_of [] (in_line s f) tt each_fits

  latest_outcome : latest y s.clock (charges_on (view s) f) ≡ proposed waiting outcome
  unfolding latest
  latest_outcome = refl

  pub latest_starts :
      (ss : List ℕ)
      → (latest y s.clock (charges_on (view s) f) ≡ starts ss)
      ↔ ((made : List Charge) × ArePlaced s f [] (in_line s f) made × (starts_in made waiting ≡ ss))
  latest_starts ss = ((λ e. there outcome outcome_made (sym latest_outcome ∙ e)), back)
    where
      there :
          (r : Placed)
          → MadeOf [] (in_line s f) r
          → proposed waiting r ≡ starts ss
          → (made : List Charge) × ArePlaced s f [] (in_line s f) made × (starts_in made waiting ≡ ss)
      there (all made) p e = (made, p, cc)
      there stuck p e = let z : ◌≡◌ {A = ℕ} 0 1 = cc in absurd (omega arith)

      back :
          (made : List Charge) × ArePlaced s f [] (in_line s f) made × (starts_in made waiting ≡ ss)
          → latest y s.clock (charges_on (view s) f) ≡ starts ss
      back (made, p, e) = latest_outcome ∙ is outcome outcome_made
        where
          is : (r : Placed) → MadeOf [] (in_line s f) r → proposed waiting r ≡ starts ss
          is (all other) q =
              ap (λ (cs : List Charge). starts (starts_in cs waiting)) (one_plan [] (in_line s f) other made q p)
              ∙ ap starts e
          is stuck q = absurd (not_both [] (in_line s f) made p q)

  pub latest_stuck : (latest y s.clock (charges_on (view s) f) ≡ none 1) ↔ OneIsStuck s f [] (in_line s f)
  latest_stuck = ((λ e. there outcome outcome_made (sym latest_outcome ∙ e)), (λ q. latest_outcome ∙ back outcome outcome_made q))
    where
      there : (r : Placed) → MadeOf [] (in_line s f) r → proposed waiting r ≡ none 1 → OneIsStuck s f [] (in_line s f)
      there (all made) p e = let z : ◌≡◌ {A = ℕ} 0 1 = cc in absurd (omega arith)
      there stuck p e = p

      back : (r : Placed) → MadeOf [] (in_line s f) r → OneIsStuck s f [] (in_line s f) → proposed waiting r ≡ none 1
      back (all made) p q = absurd (not_both [] (in_line s f) made p q)
      back stuck p q = refl

  -- causes 1 and 2 are those of a replan that comes without starts
  pub own_cause :
      (own : ℕ) → 1 ≤ own → own ≤ 2 → (p : Proposal) → (cause_of (view s) f p ≡ own) ↔ (p ≡ none own)
  own_cause own low high (starts ss) = (
    (λ e. absurd (never ((judged_first s v f h ss own low).0 e))),
    (λ e. let z : ◌≡◌ {A = ℕ} 0 1 = cc in absurd (omega arith)),
  )
    where
      never : FirstToHold (causes_against s f ss) own → ⊥
      never (inl (p, e)) = omega arith
      never (inr (n, inl (p, e))) = omega arith
      never (inr (n, inr (i, inl (p, e)))) = omega arith
      never (inr (n, inr (i, inr (j, inl (p, e))))) = omega arith
      never (inr (n, inr (i, inr (j, inr (k, inl (p, e)))))) = omega arith
      never (inr (n, inr (i, inr (j, inr (k, inr (l, p)))))) = p
  own_cause own low high (none other) = ((λ e. ap none e), (λ e. cc))

module _ (s : Station) (m : Made) (v : Valid s) (meets : MeetsApply s m) (f : ℕ) (named : m.call ≡ ReplanLatest f) (free : IsGranted m) where
  proposes : Proposes s m f (latest (limits_of (view s) f) s.clock (charges_on (view s) f)) 0
  proposes = ap (λ c. plan_in (view s) c m.numbers) named

  there : IsFeeder (view s) f
  there = there_tested s m v meets f (latest (limits_of (view s) f) s.clock (charges_on (view s) f)) 0 proposes free

by_turn : (cs : List Charge) → InOrder LatestStartBefore cs → ByLatestStart cs
by_turn [] o = tt
by_turn (c ∷ cs) o = (o.0, by_turn cs o.1)

pub turns_are_by_latest_start : TurnsAreByLatestStart
turns_are_by_latest_start s m v meets f named free =
    let waiting : List Charge = waiting_charges s.clock (charges_on (view s) f) in
    let order =
    latest_start_order 1 waiting
    (rising_keep 1 (is_waiting s.clock) (charges_on (view s) f) (v.state.plan f (there s m v meets f named free)).rising) in
    ((λ test. rearranged_count test order.rearranged), by_turn (in_line s f) order.sorted)

pub starts_are_the_smallest : StartsAreTheSmallest
starts_are_the_smallest s m v meets f named free ss =
    let e = latest_starts s v f (there s m v meets f named free) ss in
    let p = proposes s m v meets f named free in (
      (λ q. e.0 (same (sym p ∙ q))),
      (λ q. p ∙ ap (λ x. plan f x 0) (e.1 q)),
    )
  where
    same : {p q : Proposal} → plan f p 0 ≡ plan f q 0 → p ≡ q
    same e = cc

pub cause_one_is_no_start : CauseOneIsNoStart
cause_one_is_no_start s m v meets f named free =
    let proposal = latest (limits_of (view s) f) s.clock (charges_on (view s) f) in
    let here = there s m v meets f named free in
    let told = cause_tested s m v meets f proposal 0 (proposes s m v meets f named free) free 1 in
    let one = own_cause s v f here 1 (omega arith) (omega arith) proposal in
    let held = latest_stuck s v f here in
    ((λ e. held.0 (one.0 (told.0 e))), (λ q. told.1 (one.1 (held.1 q))))
