-- A profile split, and one more load added: what becomes of the levels.
use Prim.Native.Nat.{ℕ, ◌+◌, ◌≤◌, ◌<◌, max}
use mathlib.Core.Path.{◌≡◌, refl, sym, ◌∙◌, ap, subst}
use mathlib.Core.Bool.{Bool, cond, ◌&&◌}
use mathlib.Core.List.{List}
use mathlib.Core.Logic.{⊎_elim}
use native.Mathlib.Omega.{arith}
use borrow.Author.Tests.{le-leb, lt-leb}
use lib.Dec.{leb, ltb}
use lib.ListN.{length, get_or}
use Rattle.std.specs.declared.ops.Range.{Range}
use Rattle.rules.specs.Load.{load_from, IsColumn, share, draws}
use Rattle.rules.proofs.Ranges.{below_or_not}
use Rattle.profile.specs.Steps.{minutes_of, level_at, In}
use Rattle.profile.specs.Shows.{Profile, draw_of, line_of, level_of, first_minute, Formed, most_drawn, Small, Split, CanAdd, LoadAdded}
use Rattle.profile.specs.Loads.{PutIn, CanRaise, Raised}
use Rattle.profile.specs.declared.loads.Draw.{Draw}
use Rattle.profile.proofs.Levels.{level_in, at_step, step_from}
use Rattle.profile.proofs.Edited.{put_minutes}
use Rattle.profile.proofs.Splits.{split_level, split_rises, split_ends, raise_level}

-- Split

module _ {p q : Profile} {i t : ℕ} (f : Formed p) (h : In p i t) (ne : get_or (minutes_of p) i 0 ≡ t → ⊥) (ins : PutIn p q i t) where
  lt : get_or (minutes_of p) i 0 < t
  lt = ⊎_elim (λ a. a) (λ a. absurd (ne (omega (arith, h.begun)))) (below_or_not (get_or (minutes_of p) i 0) t)

  pub split_some : Split p q t (i + 1)
  split_some =
      let ia = put_minutes ins in
      record {
        formed = record { some = omega (arith, ins.size); rises = split_rises h lt ins f.rises };
        few = omega (arith, ins.size);
        more = omega (arith, ins.size);
        starts = ia.before 0 (omega arith);
        ends = split_ends h lt ins;
        same = λ l _ u a. split_level h lt ins l u a;
        below = omega (arith, h.below, ins.size);
        begins = ia.here;
        earlier = λ m a b.
            ⊎_elim (λ c. ia.before m c) (λ c. absurd (omega (arith, h.later m (omega arith) a))) (below_or_not m (i + 1));
      }

-- a minute in which a step begins
pub split_here : {p : Profile} {i t : ℕ} → Formed p → i < length p → get_or (minutes_of p) i 0 ≡ t → Split p p t i
split_here f below begins =
    record {
      formed = f;
      few = omega arith;
      more = omega arith;
      starts = refl;
      ends = λ b h _. h;
      same = λ l hl u a. refl;
      below = below;
      begins = begins;
      earlier = λ m a b. refl;
    }

-- Add

-- the level of a step is that of its first minute, so it is small
pub small_step : (p : Profile) → Formed p → Small p → (l : ℕ) → IsColumn l → (m : ℕ) → m < length p → line_of p l m ≤ most_drawn
small_step p f s l hl m h =
    omega (
      arith,
      level_in p (line_of p l) (at_step p m f.rises h),
      s l hl (get_or (minutes_of p) m 0) (step_from f h),
    )

-- two splits: step i of q begins where the load does, or at the clock, and step j where it ends
module _ {p p₁ q : Profile} {places start from until : ℕ} {steps : Range ℕ} {a : Draw} (can : CanAdd p places a start) (e : from ≡ max (first_minute p) start)
    (begun : from < until) (s₁ : Split p p₁ from steps.start) (s₂ : Split p₁ q until steps.end) where
  i_begins : get_or (minutes_of q) steps.start 0 ≡ from
  i_begins = s₂.earlier steps.start s₁.below (omega (arith, s₁.begins)) ∙ s₁.begins

  i_below : steps.start < length q
  i_below = omega (arith, s₁.below, s₂.more)

  order : steps.start ≤ steps.end
  order =
      ⊎_elim (λ a. absurd (omega (arith, s₂.formed.rises steps.end steps.start a i_below, i_begins, s₂.begins))) (λ a. a) (below_or_not steps.end steps.start)

  same_level : (l : ℕ) → IsColumn l → (u : ℕ) → first_minute p ≤ u → level_of q l u ≡ level_of p l u
  same_level l hl u a = s₂.same l hl u (omega (arith, s₁.starts)) ∙ s₁.same l hl u a

  small : (l : ℕ) → IsColumn l → (m : ℕ) → m < length q → line_of q l m ≤ most_drawn
  small =
      small_step q s₂.formed
      (λ l hl t a. omega (arith, same_level l hl t (omega (arith, s₁.starts, s₂.starts)), can.small l hl t (omega (arith, s₁.starts, s₂.starts))))

  -- the line of q may be raised
  pub raise_can : {line more : ℕ} → IsColumn line → more ≤ 2 → CanRaise q steps line more
  raise_can {line} hl few =
      record {
        on_column = hl;
        order = order;
        below = omega (arith, s₂.below);
        fits = λ m b. omega (arith, small line hl m (omega (arith, s₂.below)));
      }

  -- it ends with the load, and what is raised is the load's rate on its line
  module _ {line rate : ℕ} {r : Profile} (ends_with : until ≡ start + a.time) (own_line : line ≡ a.line) (own_rate : rate ≡ a.rate)
      (raised_by : Raised q steps line rate r) where
    raised : Raised q steps a.line a.rate r
    raised = rw (← own_line, ← own_rate) raised_by

    -- clipped to the clock, the load is the same in every minute from there on
    clipped : (u : ℕ) → first_minute p ≤ u → leb from u ≡ leb start u
    clipped u a =
        ⊎_elim
        (λ b. lt-leb from u (omega arith) ∙ sym (lt-leb start u b))
        (λ b. le-leb from u (omega arith) ∙ sym (le-leb start u b))
        (below_or_not u start)

    new_level : (l : ℕ) → IsColumn l → (u : ℕ) → first_minute p ≤ u → level_of r l u ≡ level_of p l u + draws (load_from (draw_of a) start) l u
    new_level l hl u c =
        ap (λ (n : ℕ). level_at (minutes_of r) (line_of r l) n u) raised.size ∙ ap (λ (x : List ℕ). level_at x (line_of r l) (length q) u) raised.minutes
        ∙ raise_level q s₂.formed.rises i_below s₂.below (raised.each l hl) u (omega (arith, s₁.starts, s₂.starts))
        ∙ ap (λ (x : ℕ). level_of q l u + cond (leb x u && ltb u (get_or (minutes_of q) steps.end 0)) (share a.line a.rate l) 0) i_begins
        ∙ ap (λ (x : ℕ). level_of q l u + cond (leb from u && ltb u x) (share a.line a.rate l) 0) (s₂.begins ∙ ends_with)
        ∙ ap (λ (b : Bool). level_of q l u + cond (b && ltb u (start + a.time)) (share a.line a.rate l) 0) (clipped u c)
        ∙ ap (λ (x : ℕ). x + draws (load_from (draw_of a) start) l u) (same_level l hl u c)

    pub add_done : LoadAdded p r a start
    add_done =
        record {
          formed =
              record {
                some = omega (arith, raised.size, s₂.formed.some);
                rises = λ i j b c. rw raised.minutes (s₂.formed.rises i j b (omega (arith, raised.size)));
              };
          few = omega (arith, raised.size, s₁.few, s₂.few);
          starts = ap (λ (x : List ℕ). get_or x 0 0) raised.minutes ∙ s₂.starts ∙ s₁.starts;
          ends = λ b h c k lt.
              subst (λ (x : List ℕ). get_or x k 0 ≤ b) (sym raised.minutes)
              (s₂.ends b (s₁.ends b h (omega (arith, h 0 can.formed.some))) (omega (arith, c)) k (omega (arith, raised.size)));
          level = new_level;
        }
