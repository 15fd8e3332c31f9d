-- One round: every charge is placed, and what the first unbalanced minute asks for.
use mathlib.Core.Path.{◌≡◌, refl, sym, ◌∙◌, ap}
use Prim.Native.Nat.{ℕ, ◌+◌, ◌-◌, ◌≤◌, ◌<◌}
use mathlib.Core.Bool.{Bool, true, false, cond}
use mathlib.Core.List.{List}
use native.Mathlib.Omega.{arith}
use lib.Dec.{eqb}
use borrow.Author.Tests.{eqb-true, eqb-false}
use lib.ListN.{length}
use Rattle.std.specs.declared.ops.ControlFlow.TheVariants.{Break, Continue}
use Rattle.std.specs.declared.option.Option.{Option}
use Rattle.std.specs.declared.option.Option.TheVariants.{Some, None}
use Rattle.std.specs.declared.result.Result.TheVariants.{Ok, Err}
use Rattle.rules.specs.Load.{Load, IsLine, count, counts, last_until}
use Rattle.rules.specs.Search.{Caps, first_unbalanced}
use Rattle.rules.specs.Replan.{largest_line, smallest_line, standing}
use Rattle.rules.proofs.Searches.{unbalanced_first}
use Rattle.rules.proofs.Rounds.{largest_line_lem, smallest_line_lem}
use Rattle.charges.specs.declared.Charges.{Charges}
use Rattle.charges.specs.Arrays.{charges_of}
use Rattle.charges.specs.Drawn.{loads_lent}
use Rattle.charges.specs.Starts.{Starts}
use Rattle.search.specs.declared.caps.Lowering.{Lowering}
use Rattle.search.specs.Caps.{CapsShown}
use Rattle.profile.specs.Shows.{Profile, level_of, levels, Formed, found_at}
use Rattle.profile.specs.Balance.{Unbalanced}
use Rattle.profile.proofs.Lines.{line_column}
use Rattle.profile.proofs.Shown.{shows_small}
use Rattle.planner.specs.declared.cause.Cause.TheVariants.{NoStart}
use Rattle.planner.specs.Starts.{WaitingStarts}
use Rattle.planner.specs.declared.Beside.{Beside}
use Rattle.planner.specs.Ready.{terms_of}
use Rattle.planner.specs.Placed.{plan_of, AllPlaced}
use Rattle.planner.proofs.Growing.{plan_length}
use Rattle.lines.specs.declared.place.Task.{Task}
use Rattle.lines.specs.Lines.{lines_placed, CanPlace, LinesUnder, ShowsStanding}
use Rattle.lines.specs.Rounds.{Round, asked_in, Comparable, Plays}
use Rattle.lines.proofs.Extremes.{largest_alike, smallest_alike}
use Rattle.lines.proofs.Asking.{round_balanced, round_ends, round_lowers}
use Rattle.lines.proofs.Ending.{lines_end}

module _ {size : ℕ} {k : Task} {p : Profile} {by_place : List ℕ}
    (can : CanPlace size k) (under : LinesUnder k 3 p by_place) where
  abbrev b : Beside
  b = k.beside

  abbrev c : Charges
  c = k.charges.now

  plan : (cap : Caps) → CapsShown k.caps.now b.limits.site cap → AllPlaced (lines_placed cap b c 3) (terms_of b) b.clock c p by_place
  plan cap shown = lines_end can.ready.listed (under cap shown)

  abbrev some_plan : AllPlaced (lines_placed can.capped.cap b c 3) (terms_of b) b.clock c p by_place
  some_plan = plan can.capped.cap can.capped.shown

  -- what the profile shows
  abbrev loads : (cap : Caps) → CapsShown k.caps.now b.limits.site cap → List Load
  loads cap shown = plan_of (terms_of b) b.clock c (plan cap shown).placed

  abbrev some_loads : List Load
  some_loads = plan_of (terms_of b) b.clock c some_plan.placed

  pub round_formed : Formed p
  round_formed = some_plan.plan.shows.formed

  module _ (u : Option ℕ) (first : Unbalanced p b.limits.bound u) where
    found : (cap : Caps) (shown : CapsShown k.caps.now b.limits.site cap) → first_unbalanced (terms_of b) b.clock (loads cap shown) ≡ found_at u
    found cap shown = first b.clock (loads cap shown) b.limits.limit b.limits.site (loads_lent b.others) (plan cap shown).plan.shows

    pub plays_balanced :
        {listed : Starts} {r : Round} → u ≡ None → WaitingStarts b.clock c by_place listed → r ≡ Break (Ok listed) → Plays k r
    plays_balanced e s told =
        rw told
        (record {
          same = λ cap shown. round_balanced cap b (plan cap shown) (found cap shown ∙ ap found_at e) s;
          fits = s.many;
        })

    module _ {t : ℕ} (e : u ≡ Some t) where
      range : (b.clock ≤ t) × (t < b.clock + (last_until some_loads - b.clock))
      range =
          let i =
          unbalanced_first (terms_of b) b.clock some_loads t
          (found can.capped.cap can.capped.shown ∙ ap found_at e) in
          (i.low, i.high)

      minute_fits : t < 4294967295
      minute_fits = omega (arith, range, some_plan.plan.ends, some_plan.few)

      -- the levels in the minute are the counts of the loads
      level_counted : (cap : Caps) (shown : CapsShown k.caps.now b.limits.site cap) (l : ℕ) → IsLine l → levels p t l ≡ count (loads cap shown) l t
      level_counted cap shown l i = (plan cap shown).plan.shows.counted l (line_column l i) t range.0

      few : length some_loads ≤ 720
      few = omega (arith, plan_length (terms_of b) b.clock c some_plan.placed, some_plan.few, can.space.enough, can.space.most)

      module _ {base : Profile} (s : ShowsStanding k base) where
        pub round_comparable : Comparable p base t b.limits.bound
        round_comparable =
            record {
              planned = round_formed;
              formed = s.formed;
              begun = omega (arith, some_plan.plan.shows.starts, range);
              low = omega (arith, s.starts, range);
              small = λ l i.
                  omega (
                    arith,
                    shows_small p b.clock some_loads some_plan.plan.shows few l (line_column l i) t
                        (omega (arith, some_plan.plan.shows.starts, range)),
                  );
              bound_most = can.ready.bound_most;
            }

        -- the line with the largest count and that with the smallest
        abbrev large : ℕ
        large = largest_line (levels p t)

        abbrev small : ℕ
        small = smallest_line (levels p t)

        large_same : (cap : Caps) (shown : CapsShown k.caps.now b.limits.site cap) → large ≡ largest_line (counts (loads cap shown) t)
        large_same cap shown = largest_alike (levels p t) (counts (loads cap shown) t) (level_counted cap shown)

        large_counted : (cap : Caps) (shown : CapsShown k.caps.now b.limits.site cap) → level_of p large t ≡ count (loads cap shown) large t
        large_counted cap shown = level_counted cap shown large (largest_line_lem (levels p t)).line

        base_counted : level_of base large t ≡ count (standing (terms_of b) b.clock (charges_of c)) large t
        base_counted = s.counted large (line_column large (largest_line_lem (levels p t)).line) t range.0

        plays_none : level_of p large t ≡ level_of base large t → Plays k (Break (Err NoStart))
        plays_none same =
            record {
              same =
                  λ cap shown.
                  round_ends cap b (plan cap shown) (found cap shown ∙ ap found_at e) (large_same cap shown)
                  (sym (large_counted cap shown) ∙ same ∙ base_counted);
              fits = tt;
            }

        abbrev lowering : Lowering
        lowering = record { line = large; minute = t; cap = level_of p small t + b.limits.bound }

        plays_lowers : (level_of p large t ≡ level_of base large t → ⊥) → Plays k (Continue lowering)
        plays_lowers ne =
            record {
              same =
                  λ cap shown.
                  round_lowers cap b (plan cap shown) (found cap shown ∙ ap found_at e) (large_same cap shown) small
                  (level_of p small t + b.limits.bound)
                  (λ same. ne (large_counted cap shown ∙ same ∙ sym base_counted))
                  (smallest_alike (levels p t) (counts (loads cap shown) t) (level_counted cap shown))
                  (ap (λ (m : ℕ). m + b.limits.bound) (level_counted cap shown small (smallest_line_lem (levels p t)).line));
              fits = (minute_fits, omega arith);
            }

        -- what the round ends with, or lowers, is what the minute asks for
        pub ends_asked : None ≡ asked_in p base t b.limits.bound → Plays k (Break (Err NoStart))
        ends_asked asked = go (eqb (level_of p large t) (level_of base large t)) refl asked
          where
            go :
                (same : Bool) → eqb (level_of p large t) (level_of base large t) ≡ same → None ≡ cond same None (Some lowering)
                → Plays k (Break (Err NoStart))
            go true h' a = plays_none (eqb-true _ _ h')
            go false h' a = absurd (cc)

        pub lowers_asked : {y : Lowering} → Some y ≡ asked_in p base t b.limits.bound → Plays k (Continue y)
        lowers_asked {y} asked = go (eqb (level_of p large t) (level_of base large t)) refl asked
          where
            go :
                (same : Bool) → eqb (level_of p large t) (level_of base large t) ≡ same → Some y ≡ cond same None (Some lowering)
                → Plays k (Continue y)
            go true h' a = absurd (cc)
            go false h' a = let e : y ≡ lowering = cc in rw e (plays_lowers (eqb-false _ _ h'))
