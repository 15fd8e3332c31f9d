-- The causes for keeping the old starts, in words.
use mathlib.Core.Logic.{◌⊎◌, inl, inr, ◌↔◌}
use mathlib.Core.Path.{◌≡◌, refl, sym, ◌∙◌}
use Prim.Native.Nat.{ℕ, zero, suc, ◌+◌, ◌-◌, ◌≤◌, ◌<◌}
use mathlib.Core.Bool.{Bool, true, false, not, ◌&&◌, true≢false}
use mathlib.Core.List.{List, ◌++◌}
use native.Mathlib.Omega.{arith}
use lib.Dec.{ltb, leb}
use borrow.Author.Tests.{ltb-true, ltb-false, leb-false}
use Rattle.rules.specs.Basics.{throughout, Each}
use Rattle.rules.specs.Load.{Load, count, counts, drawn, last_until, IsLine, on_lines, Limits, limited, balanced, whole_of, within_site, limit_at, balance_at, from_on}
use Rattle.rules.specs.Charge.{Charge, loads_of, seen, lateness}
use Rattle.rules.specs.Replan.{starts, none}
use Rattle.rules.specs.Judgement.{causes, judged}
use Rattle.rules.specs.Site.{feeder_of, charges_on, others_of, limits_of}
use Rattle.rules.specs.Valid.{IsFeeder}
use Rattle.rules.proofs.Ranges.{and_left, and_right}
use Rattle.rules.proofs.Counts.{limited_at, within_at, balanced_at, from_on_at, limit_past, balance_past}
use Rattle.rules.proofs.Restarts.{each_restarted}
use Rattle.rules.proofs.Sites.{count_beside, whole_beside, lines_own, last_seen, until_append}
use Rattle.rules.proofs.Holding.{last_site, lines_valid}
use Rattle.guarantee.proofs.Tables.{first_of_is, is_first_of}
use Rattle.station.specs.declared.Station.{Station}
use Rattle.station.specs.View.{view, Valid}
use Rattle.theorem.specs.Single.{FirstToHold}
use Rattle.theorem.specs.Proposed.{with_starts, end_now, end_with}
use Rattle.theorem.specs.Causes.{IsOverfull, IsUneven, causes_against, CauseIsTheFirst, CauseOfNoStarts}
use Rattle.theorem.proofs.Conditions.{Matches, first_holds, below_is, some_is}
use Rattle.theorem.proofs.Planned.{cause_tested, there_tested}

-- A test that fails somewhere

fails_somewhere :
    (f : ℕ → Bool) (k a : ℕ) → throughout f k a ≡ false → (t : ℕ) × (a ≤ t) × (t < a + k) × (f t ≡ false)
fails_somewhere f zero a e = absurd (true≢false e)
fails_somewhere f (suc k) a e = go (f a) refl e (fails_somewhere f k (suc a))
  where
    go :
        (b : Bool)
        → f a ≡ b
        → b && throughout f k (suc a) ≡ false
        → (throughout f k (suc a) ≡ false → (t : ℕ) × (suc a ≤ t) × (t < suc a + k) × (f t ≡ false))
        → (t : ℕ) × (a ≤ t) × (t < a + suc k) × (f t ≡ false)
    go true p q later = let r = later q in (r.0, omega (arith, r.1), omega (arith, r.2), r.3)
    go false p q later = (a, omega arith, omega arith, p)

fails_on : (f : ℕ → Bool) → on_lines f ≡ false → (l : ℕ) × IsLine l × (f l ≡ false)
fails_on f e =
    let r = fails_somewhere f 3 1 e in (r.0, record { low = r.1; high = omega (arith, r.2) }, r.3)

fails_both : (a b : Bool) → a && b ≡ false → (a ≡ false) ⊎ (b ≡ false)
fails_both true b e = inr e
fails_both false b e = inl refl

not_true : (b : Bool) → not b ≡ true → b ≡ false
not_true true e = sym e
not_true false e = refl

true_not : (b : Bool) → (b ≡ true → ⊥) → not b ≡ true
true_not true n = absurd (n refl)
true_not false n = refl

-- In one minute

fails_limited : (n : ℕ) (f : ℕ → ℕ) → limited n f ≡ false → (l : ℕ) × IsLine l × (n < f l)
unfolding limited
fails_limited n f e = let r = fails_on (λ l. leb (f l) n) e in (r.0, r.1, omega (arith, leb-false (f r.0) n r.2))

fails_within : (w : ℕ) (f : ℕ → ℕ) → within_site w f ≡ false → w < whole_of f
unfolding within_site
fails_within w f e = omega (arith, leb-false (whole_of f) w e)

fails_balanced :
    (d : ℕ) (f : ℕ → ℕ) → balanced d f ≡ false → (l : ℕ) × (o : ℕ) × IsLine l × IsLine o × (f o + d < f l)
unfolding balanced
fails_balanced d f e =
    let r = fails_on (λ l. on_lines (λ o. leb (f l) (f o + d))) e in
    let q = fails_on (λ o. leb (f r.0) (f o + d)) r.2 in
    (r.0, q.0, r.1, q.1, omega (arith, leb-false (f r.0) (f q.0 + d) q.2))

-- The loads of a feeder, as it sees them and as they are

module _ (s : Station) (f : ℕ) (xs : List Load) (lines : Each (λ x. IsLine x.line) xs) where
  abbrev y : Limits
  y = limits_of (view s) f

  abbrev all : List Load
  all = y.others ++ xs

  abbrev beside : List Load
  beside = loads_of (others_of (view s) f)

  pub overfull : (not (from_on s.clock all (limit_at y all)) ≡ true) ↔ IsOverfull s f xs
  overfull = ((λ e. there (fails_somewhere (limit_at y all) (last_until all - s.clock) s.clock (not_true _ e))), back)
    where
      minute :
          (t : ℕ)
          → (limited y.limit (counts all t) ≡ false) ⊎ (within_site y.site (counts all t) ≡ false)
          → ((line : ℕ) × IsLine line × ((feeder_of (view s) f).limit < count xs line t))
          ⊎ (s.site < drawn beside t + drawn xs t)
      minute t (inl e) =
          let r = fails_limited y.limit (counts all t) e in
          inl (r.0, r.1, omega (arith, r.2, count_beside beside xs r.0 t r.1))
      minute t (inr e) =
          inr (omega (arith, fails_within y.site (counts all t) e, whole_beside beside xs t lines))

      there :
          (t : ℕ) × (s.clock ≤ t) × (t < s.clock + (last_until all - s.clock)) × (limit_at y all t ≡ false)
          → IsOverfull s f xs
      there (t, h, j, e) =
          (t, h, minute t (fails_both (limited y.limit (counts all t)) (within_site y.site (counts all t)) e))

      against :
          (t : ℕ)
          → limit_at y all t ≡ true
          → ((line : ℕ) × IsLine line × ((feeder_of (view s) f).limit < count xs line t))
          ⊎ (s.site < drawn beside t + drawn xs t)
          → ⊥
      against t e (inl (line, i, above)) =
          omega (
            arith,
            count_beside beside xs line t i,
            limited_at y.limit (counts all t)
                (and_left (limited y.limit (counts all t)) (within_site y.site (counts all t)) e) line i,
          )
      against t e (inr above) =
          omega (
            arith,
            whole_beside beside xs t lines,
            within_at y.site (counts all t)
                (and_right (limited y.limit (counts all t)) (within_site y.site (counts all t)) e),
          )

      back : IsOverfull s f xs → not (from_on s.clock all (limit_at y all)) ≡ true
      back (t, h, above) =
          true_not (from_on s.clock all (limit_at y all))
          (λ e. against t (from_on_at s.clock all (limit_at y all) (limit_past y all) e t h) above)

  pub uneven : (not (from_on s.clock all (balance_at y all)) ≡ true) ↔ IsUneven s f xs
  uneven = ((λ e. there (fails_somewhere (balance_at y all) (last_until all - s.clock) s.clock (not_true _ e))), back)
    where
      there :
          (t : ℕ) × (s.clock ≤ t) × (t < s.clock + (last_until all - s.clock)) × (balance_at y all t ≡ false)
          → IsUneven s f xs
      there (t, h, j, e) =
          let r = fails_balanced y.bound (counts all t) e in
          (t, h, r.0, r.1, r.2, r.3, omega (arith, r.4, count_beside beside xs r.0 t r.2, count_beside beside xs r.1 t r.3))

      back : IsUneven s f xs → not (from_on s.clock all (balance_at y all)) ≡ true
      back (t, h, line, other, i, j, apart) =
          true_not (from_on s.clock all (balance_at y all))
          (λ e.
          omega (
            arith,
            count_beside beside xs line t i,
            count_beside beside xs other t j,
            balanced_at y.bound (counts all t) (from_on_at s.clock all (balance_at y all) (balance_past y all) e t h) line other i j,
          ))

-- All causes

module _ (s : Station) (v : Valid s) (f : ℕ) (h : IsFeeder (view s) f) (ss : List ℕ) where
  abbrev held : List Charge
  held = charges_on (view s) f

  abbrev new : List Charge
  new = with_starts s f ss

  new_lines : Each (λ x. IsLine x.line) (loads_of new)
  new_lines =
      lines_own new
      (each_restarted (λ c. IsLine c.line) (λ c u p. p) s.clock held ss
      (lines_valid (feeder_of (view s) f) s.site s.clock s.next held (v.state.plan f h).each))

  -- up to when the site draws, as the feeder sees it
  new_end : last_until (seen (limits_of (view s) f) new) ≡ end_with s f ss
  new_end = last_seen (others_of (view s) f) new ∙ until_append (others_of (view s) f) new

  later_is :
      (ltb (last_until (seen (limits_of (view s) f) held)) (last_until (seen (limits_of (view s) f) new)) ≡ true)
      ↔ (end_now s < end_with s f ss)
  later_is =
      let r = below_is (last_until (seen (limits_of (view s) f) held)) (last_until (seen (limits_of (view s) f) new)) in (
        (λ e. omega (arith, r.0 e, last_site (view s) f h, new_end)),
        (λ j. r.1 (omega (arith, last_site (view s) f h, new_end))),
      )

  late_is : (not (ltb (lateness new) (lateness held)) ≡ true) ↔ (lateness held ≤ lateness new)
  late_is = (
    (λ e. ltb-false (lateness new) (lateness held) (not_true _ e)),
    (λ j. true_not (ltb (lateness new) (lateness held)) (λ e. omega (arith, ltb-true (lateness new) (lateness held) e))),
  )

  causes_match : Matches (causes (limits_of (view s) f) s.clock held ss new) (causes_against s f ss)
  causes_match = (
    some_is (λ u. ltb u s.clock) (λ u. u < s.clock) (λ u. below_is u s.clock) ss,
    refl,
    (λ p. (
      later_is,
      refl,
      (λ p. (
        overfull s f (loads_of new) new_lines,
        refl,
        (λ p. (uneven s f (loads_of new) new_lines, refl, (λ p. (late_is, refl, (λ p. tt))))),
      )),
    )),
  )

  -- the judgement of the rules gives the first of the causes in words
  pub judged_first :
      (cause : ℕ)
      → 1 ≤ cause
      → (judged (limits_of (view s) f) s.clock held ss ≡ cause) ↔ FirstToHold (causes_against s f ss) cause
  unfolding judged
  judged_first (zero) low = absurd (omega arith)
  judged_first (suc k) low =
      let rows = causes (limits_of (view s) f) s.clock held ss new in
      let r = first_holds rows (causes_against s f ss) (suc k) causes_match in
      ((λ e. r.0 (first_of_is k rows e)), (λ j. is_first_of (suc k) rows (r.1 j)))

pub cause_is_the_first : CauseIsTheFirst
cause_is_the_first s m v meets f rounds ss proposes free cause low =
    let told = cause_tested s m v meets f (starts ss) rounds proposes free cause in
    let words = judged_first s v f (there_tested s m v meets f (starts ss) rounds proposes free) ss cause low in
    ((λ h. words.0 (told.0 h)), (λ h. told.1 (words.1 h)))

pub cause_of_no_starts : CauseOfNoStarts
cause_of_no_starts s m v meets f rounds own proposes free cause =
    cause_tested s m v meets f (none own) rounds proposes free cause
