-- The start that a preview shows and an order gets.
use mathlib.Core.Logic.{◌⊎◌, inl, inr}
use mathlib.Core.Path.{◌≡◌, refl, sym, ap, subst, ◌∙◌}
use Prim.Native.Nat.{ℕ, zero, suc, ◌≤◌, ◌<◌}
use mathlib.Core.Bool.{Bool, true, false, true≢false}
use mathlib.Core.List.{List, [], ◌∷◌, ◌++◌, append_assoc}
use native.Mathlib.Omega.{arith}
use lib.Dec.{eqb}
use borrow.Author.Tests.{eqb-true, eqb-false}
use Rattle.rules.specs.Basics.{Each, at, first_of}
use Rattle.rules.specs.Load.{Load, Draw, load_from, IsLine, sound}
use Rattle.rules.specs.Charge.{loads_of, seen}
use Rattle.rules.specs.Search.{added}
use Rattle.rules.specs.Site.{State, feeder_of, charges_on, others_of, limits_of}
use Rattle.rules.specs.Calls.{refused, committed, answering, preview, commit, draw_for, start_for, refusals, previewing, committing, step}
use Rattle.rules.specs.Valid.{IsFeeder, ValidState}
use Rattle.rules.proofs.Ranges.{below_or_not}
use Rattle.rules.proofs.Lists.{each_append}
use Rattle.rules.proofs.Counts.{sound_from_lem, sound_true}
use Rattle.rules.proofs.Tables.{none_first_of}
use Rattle.rules.proofs.Granted.{refusals_none, order_granted}
use Rattle.rules.proofs.Searches.{earliest_first}
use Rattle.rules.proofs.Sites.{count_beside, whole_beside, lines_own}
use Rattle.rules.proofs.Holding.{lines_valid}
use Rattle.rules.proofs.Validity.{order_found}
use Rattle.rules.proofs.Shown.{commit_other, commit_taken}
use Rattle.guarantee.specs.DemandOne.{NoneApplies}
use Rattle.guarantee.specs.DemandTwo.{SoundPlan, EarliestStart, PreviewStart, CommitStart}

-- Every minute from the clock on

-- a plan is sound as the feeder sees it exactly when it is in the words of demand 2: its loads are on its lines
module _ (s : State) (f : ℕ) (xs : List Load) (lines : Each (λ x. IsLine x.line) xs) where
  abbrev seen_in : List Load
  seen_in = (limits_of s f).others ++ xs

  pub plan_sound_lem : sound (limits_of s f) s.clock seen_in ≡ true → SoundPlan s f xs
  plan_sound_lem e =
      let here = sound_from_lem (limits_of s f) s.clock seen_in e in
      let beside = loads_of (others_of s f) in
      record {
        limit = λ l t j h. rw (← (count_beside beside xs l t j)) ((here t h).limit l j);
        balance =
            λ l m t j i h.
            rw (← (count_beside beside xs l t j), ← (count_beside beside xs m t i)) ((here t h).balance l m j i);
        site = λ t h. omega (arith, whole_beside beside xs t lines, (here t h).site);
      }

  pub sound_plan : SoundPlan s f xs → sound (limits_of s f) s.clock seen_in ≡ true
  sound_plan p =
      let beside = loads_of (others_of s f) in
      sound_true (limits_of s f) s.clock seen_in
      (λ t h.
      record {
        limit = λ l j. rw (count_beside beside xs l t j) (p.limit l t j h);
        site = omega (arith, whole_beside beside xs t lines, p.site t h);
        balance = λ l m j i. rw (count_beside beside xs l t j, count_beside beside xs m t i) (p.balance l m t j i h);
      })

-- what a feeder of a valid site holds is on its lines
pub own_lines : (s : State) → ValidState s → (f : ℕ) → IsFeeder s f → Each (λ c. IsLine c.line) (charges_on s f)
own_lines s v f h =
    lines_valid (feeder_of s f) s.site s.clock s.next (charges_on s f) (v.plan f h).each

-- A preview and a commit

module _ (s : State) (v : ValidState s) (f : ℕ) (h : IsFeeder s f) (a : Draw) (line : IsLine a.line) where
  -- the feeder's loads and one more
  abbrev more : ℕ → List Load
  more u = added (loads_of (charges_on s f)) a u

  abbrev seen_more : ℕ → List Load
  seen_more u = added (seen (limits_of s f) (charges_on s f)) a u

  lines : (u : ℕ) → Each (λ x. IsLine x.line) (more u)
  lines u =
      each_append (λ x. IsLine x.line) (loads_of (charges_on s f)) (load_from a u ∷ [])
      (lines_own (charges_on s f) (own_lines s v f h))
      (line, tt)

  same_loads : (u : ℕ) → seen_more u ≡ (limits_of s f).others ++ more u
  same_loads u = append_assoc (limits_of s f).others (loads_of (charges_on s f)) (load_from a u ∷ [])

  found_earliest : (start : ℕ) → start_for s f a ≡ at start → EarliestStart s f a start
  found_earliest start e =
      let r = earliest_first (limits_of s f) s.clock (seen (limits_of s f) (charges_on s f)) a start e in
      record {
        not_early = r.low;
        sound = plan_sound_lem s f (more start) (lines start) (rw (← (same_loads start)) r.here);
        earliest = λ u i w. least u (r.least u i) (rw (same_loads u) (sound_plan s f (more u) (lines u) w));
      }
    where
      least :
          (u : ℕ)
          → (u < start → sound (limits_of s f) s.clock (seen_more u) ≡ false)
          → sound (limits_of s f) s.clock (seen_more u) ≡ true
          → start ≤ u
      least u before here = go (below_or_not u start)
        where
          go : (u < start) ⊎ (start ≤ u) → start ≤ u
          go (inl h) = absurd (true≢false (sym here ∙ before h))
          go (inr h) = h

pub preview_start :
    (s : State) (f line p d rate : ℕ) → ValidState s → PreviewStart s f line p d rate (step s (preview f line p d rate))
unfolding previewing
preview_start s f line p d rate v = go (first_of (refusals s (preview f line p d rate))) refl
  where
    go :
        (i : ℕ)
        → first_of (refusals s (preview f line p d rate)) ≡ i
        → PreviewStart s f line p d rate (answering i s [] (previewing s f line p d rate))
    go zero q =
        let g = order_granted s f line p d rate (refusals_none s (preview f line p d rate) q) in
        let found = order_found s f line p d rate v g in
        rw found.1
        (record {
          answer =
              λ free. (
                found.0,
                refl,
                found_earliest s v f g.is_feeder_lem (draw_for s f line p rate) g.is_line found.0 found.1,
              );
          same_station = refl;
          same_list_lem = refl;
        })
    go (suc i) q =
        record {
          answer = λ free. absurd (apart q (none_first_of (refusals s (preview f line p d rate)) free));
          same_station = refl;
          same_list_lem = refl;
        }
      where
        apart : {j : ℕ} → j ≡ suc i → j ≡ 0 → ⊥
        apart x y = omega arith

pub commit_start :
    (s : State) (f line p d rate shown : ℕ)
    → ValidState s
    → NoneApplies (refusals s (preview f line p d rate))
    → CommitStart s f line p d rate shown (step s (commit f line p d rate shown))
unfolding committing
commit_start s f line p d rate shown v q =
    let g = order_granted s f line p d rate q in
    let found = order_found s f line p d rate v g in
    go found.0 found.1
    (found_earliest s v f g.is_feeder_lem (draw_for s f line p rate) g.is_line found.0 found.1)
    (eqb found.0 shown) refl
  where
    go :
        (start : ℕ)
        → start_for s f (draw_for s f line p rate) ≡ at start
        → EarliestStart s f (draw_for s f line p rate) start
        → (b : Bool)
        → eqb start shown ≡ b
        → CommitStart s f line p d rate shown (step s (commit f line p d rate shown))
    go start at-start e true h =
        let same : start ≡ shown = eqb-true start shown h in
        let now : EarliestStart s f (draw_for s f line p rate) shown = subst (EarliestStart s f (draw_for s f line p rate)) same e in
        rw (commit_taken s f line p d rate q shown (at-start ∙ ap at same))
        (record { answer = ((λ x. now), (λ w. refl)); refusal = λ n. absurd (n now); others_same = λ w. refl })
    go start at-start e false h =
        rw (commit_other s f line p d rate q start shown at-start (eqb-false start shown h))
        (record {
          answer = ((λ x. absurd (apart x)), (λ w. absurd (other w)));
          refusal = λ n. refl;
          others_same = λ w. absurd (other w);
        })
      where
        apart : refused 16 ≡ committed s.next shown → ⊥
        apart x = let z : ◌≡◌ {A = ℕ} 0 1 = cc in omega arith

        other : EarliestStart s f (draw_for s f line p rate) shown → ⊥
        other w = eqb-false start shown h (omega (arith, e.earliest shown w.not_early w.sound, w.earliest start e.not_early e.sound))
