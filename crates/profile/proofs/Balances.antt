-- The walks over the steps for limit and balance, and what their answers say of the loads that a profile shows.
use Prim.Native.Nat.{ℕ, ◌+◌, ◌-◌, ◌%◌, ◌≤◌, ◌<◌, max, min}
use mathlib.Core.Path.{◌≡◌, sym, ◌∙◌, ap}
use mathlib.Core.Bool.{Bool, true, false, not, ◌&&◌, true≢false}
use mathlib.Core.List.{List, []}
use mathlib.Core.Logic.{⊎_elim}
use native.Mathlib.Omega.{arith}
use borrow.Author.Tests.{leb-true, le-leb}
use lib.Dec.{leb}
use lib.ListN.{length, get_or}
use Rattle.std.specs.Prelude.{Option, Some, None, IfSome, IfNone, MatchBool}
use Rattle.std.specs.Int.{abs_diff}
use Rattle.std.specs.List.{AllWithin, HoldsAt}
use Rattle.rules.specs.Load.{Load, limits, IsLine, whole_of, limited, within_site, balanced, last_until, limit_at, balance_at, from_on}
use Rattle.rules.specs.Search.{first_unbalanced}
use Rattle.rules.proofs.Ranges.{same_test, and_left, and_right, and_both, fails, below_or_not, first-is, first_nothing}
use Rattle.rules.proofs.Counts.{limited_at, limited_all, within_at, within_all, balanced_at, balanced_all, from_on_at, from_on_all, limit_past, balance_past}
use Rattle.profile.specs.declared.steps.Step.{Step}
use Rattle.profile.specs.Steps.{In, minutes_of, counts_of, empty_step}
use Rattle.profile.specs.Minutes.{Passes, Fails, FirstFails}
use Rattle.profile.specs.Shows.{Profile, levels, first_minute, Formed, Shows}
use Rattle.profile.specs.Balance.{limited_in, balanced_in, PassesIf, LimitKept, Unbalanced, WithinLimit}
use Rattle.profile.proofs.Levels.{at_step, rising_le, step_of, step_from, level_test}
use Rattle.profile.proofs.Lines.{Respects, limits_tests, balanced_tests, each_line, line_one, line_two, line_three}
use Rattle.profile.proofs.Shown.{shown_test}

-- A test of the steps, for any test of the counts of the lines

module _ {test : (ℕ → ℕ) → Bool} {p : Profile} (same : Respects test) (f : Formed p) where
  -- a minute is tested by its step
  step_test : (i t : ℕ) → In p i t → test (levels p t) ≡ test (counts_of (get_or p i (empty_step 0)))
  step_test i t h = level_test same p h

  -- the steps before step i pass, and so do the minutes before it
  passed_before :
      (i : ℕ) → ((j : ℕ) → j < i → j < length p → test (counts_of (get_or p j (empty_step 0))) ≡ true) →
      (t : ℕ) → first_minute p ≤ t → (i < length p → t < get_or (minutes_of p) i 0) → test (levels p t) ≡ true
  passed_before i h t a b =
      let s = step_of p t f.some a in
      step_test s.step t s.inside
      ∙ h s.step
      (⊎_elim (λ c. c) (λ c. ⊎_elim (λ d. absurd (omega (arith, b d, s.inside.begun, rising_le p f.rises i s.step c s.inside.below))) (λ d. omega (arith, s.inside.below)) (below_or_not i (length p))) (below_or_not s.step i))
      s.inside.below

  -- every step passes
  pub steps_pass : ((j : ℕ) → j < length p → test (counts_of (get_or p j (empty_step 0))) ≡ true) → Passes (λ t. test (levels p t)) (first_minute p)
  steps_pass h t a = passed_before (length p) (λ j b c. h j c) t a (λ d. absurd (omega (arith, d)))

  module _ {i : ℕ} (below : i < length p) (off : test (counts_of (get_or p i (empty_step 0))) ≡ false) where
    -- a step fails
    pub step_fails : Fails (λ t. test (levels p t)) (first_minute p)
    step_fails =
        record {
          minute = get_or (minutes_of p) i 0;
          low = step_from f below;
          fails = step_test i (get_or (minutes_of p) i 0) (at_step p i f.rises below) ∙ off;
        }

    -- it is the first one
    pub first_step_fails :
        ((j : ℕ) → j < i → test (counts_of (get_or p j (empty_step 0))) ≡ true) → FirstFails (λ t. test (levels p t)) (first_minute p) (get_or (minutes_of p) i 0)
    first_step_fails h =
        record {
          low = step_from f below;
          passed = λ u a b. passed_before i (λ j c d. h j c) u a (λ d. b);
          fails = step_test i (get_or (minutes_of p) i 0) (at_step p i f.rises below) ∙ off;
        }

-- whether all steps pass tells whether all minutes do
pub minutes_pass :
    {test : (ℕ → ℕ) → Bool} {p : Profile} (r : Bool) → Respects test → Formed p →
    MatchBool r (AllWithin (λ x. test (counts_of x) ≡ true) p 0 (length p)) ((k : ℕ) × (k < length p) × HoldsAt (λ x. test (counts_of x) ≡ false) p k) →
    PassesIf (λ t. test (levels p t)) (first_minute p) r
minutes_pass {test} {p} r same f h = go r h
  where
    go : (r : Bool) → MatchBool r (AllWithin (λ x. test (counts_of x) ≡ true) p 0 (length p)) ((k : ℕ) × (k < length p) × HoldsAt (λ x. test (counts_of x) ≡ false) p k) → PassesIf (λ t. test (levels p t)) (first_minute p) r
    go true h = steps_pass same f (λ j b. h j (empty_step 0) (omega arith) b)
    go false h = step_fails same f h.1 (h.2 (empty_step 0))

-- the minute of the first step out of balance is the first minute that is
pub first_off :
    {p : Profile} (bound : ℕ) {i minute : ℕ} → Formed p → i < length p → balanced bound (counts_of (get_or p i (empty_step 0))) ≡ false →
    ((j : ℕ) → j < i → balanced bound (counts_of (get_or p j (empty_step 0))) ≡ true) → minute ≡ get_or (minutes_of p) i 0 →
    FirstFails (balanced_in p bound) (first_minute p) minute
first_off {p} bound {i} f below off before e =
    rw e (first_step_fails (balanced_tests bound) f below off before)

-- What a step tells of itself

-- both limits
pub limits_told : (x : Step) (limit site : ℕ) → (leb (max x.one (max x.two x.three)) limit && leb (whole_of (counts_of x)) site) ≡ limited limit (counts_of x) && within_site site (counts_of x)
limits_told x limit site =
    same_test (leb (max x.one (max x.two x.three)) limit && leb (whole_of (counts_of x)) site) (limited limit (counts_of x) && within_site site (counts_of x))
    (λ e.
    and_both (limited limit (counts_of x)) (within_site site (counts_of x))
    (limited_all limit (counts_of x) (most (leb-true (max x.one (max x.two x.three)) limit (and_left (leb (max x.one (max x.two x.three)) limit) (leb (whole_of (counts_of x)) site) e))))
    (within_all site (counts_of x) (leb-true (whole_of (counts_of x)) site (and_right (leb (max x.one (max x.two x.three)) limit) (leb (whole_of (counts_of x)) site) e))))
    (λ e.
    and_both (leb (max x.one (max x.two x.three)) limit) (leb (whole_of (counts_of x)) site)
    (le-leb (max x.one (max x.two x.three)) limit (top (limited_at limit (counts_of x) (and_left (limited limit (counts_of x)) (within_site site (counts_of x)) e))))
    (le-leb (whole_of (counts_of x)) site (within_at site (counts_of x) (and_right (limited limit (counts_of x)) (within_site site (counts_of x)) e))))
  where
    most : max x.one (max x.two x.three) ≤ limit → (l : ℕ) → IsLine l → counts_of x l ≤ limit
    most h = each_line _ (omega arith) (omega arith) (omega arith)

    top : ((l : ℕ) → IsLine l → counts_of x l ≤ limit) → max x.one (max x.two x.three) ≤ limit
    top h = omega (arith, h 1 line_one, h 2 line_two, h 3 line_three)

-- the balance
pub balance_told : (x : Step) (bound : ℕ) → leb (max x.one (max x.two x.three) - min x.one (min x.two x.three)) bound ≡ balanced bound (counts_of x)
balance_told x bound =
    same_test (leb (max x.one (max x.two x.three) - min x.one (min x.two x.three)) bound) (balanced bound (counts_of x))
    (λ e. balanced_all bound (counts_of x) (near (leb-true (max x.one (max x.two x.three) - min x.one (min x.two x.three)) bound e)))
    (λ e. le-leb (max x.one (max x.two x.three) - min x.one (min x.two x.three)) bound (apart (balanced_at bound (counts_of x) e)))
  where
    near : max x.one (max x.two x.three) - min x.one (min x.two x.three) ≤ bound → (l m : ℕ) → IsLine l → IsLine m → counts_of x l ≤ counts_of x m + bound
    near h l m j k =
        each_line (λ (l : ℕ). (m : ℕ) → IsLine m → counts_of x l ≤ counts_of x m + bound)
        (each_line _ (omega arith) (omega arith) (omega arith))
        (each_line _ (omega arith) (omega arith) (omega arith))
        (each_line _ (omega arith) (omega arith) (omega arith)) l j m k

    apart : ((l m : ℕ) → IsLine l → IsLine m → counts_of x l ≤ counts_of x m + bound) → max x.one (max x.two x.three) - min x.one (min x.two x.three) ≤ bound
    apart h = omega (arith, h 1 2 line_one line_two, h 1 3 line_one line_three, h 2 1 line_two line_one, h 2 3 line_two line_three, h 3 1 line_three line_one, h 3 2 line_three line_two)

-- Line against line

near_by : (x y d : ℕ) → abs_diff x y ≤ d → (x ≤ y + d) × (y ≤ x + d)
near_by x y d h = (omega arith, omega arith)

-- line l and the next one, 1 after 3, differ by at most d
abbrev pub Near : Step → ℕ → ℕ → Type 0
Near x d l = (counts_of x l ≤ counts_of x (l % 3 + 1) + d) × (counts_of x (l % 3 + 1) ≤ counts_of x l + d)

-- each line before `line` has been compared with the next one
pub record Compared (x : Step) (d line : ℕ) : Type 0 where
  pub near : (l : ℕ) → l < line → 1 ≤ l → Near x d l

module _ {x : Step} {d line a b r : ℕ} (w : Compared x d line) (low : 1 ≤ line) (high : line ≤ 3) (ea : a ≡ counts_of x line)
    (eb : b ≡ counts_of x (line % 3 + 1)) (er : r ≡ abs_diff a b) where
  pub compared_off : d < r → balanced d (counts_of x) ≡ false
  compared_off lt =
      fails (balanced d (counts_of x))
      (λ e.
      let h = balanced_at d (counts_of x) e in
      let p : a ≤ b + d = omega (arith, h line (line % 3 + 1) here next) in
      let q : b ≤ a + d = omega (arith, h (line % 3 + 1) line next here) in
      omega arith)
    where
      here : IsLine line
      here = record { low = low; high = high }

      next : IsLine (line % 3 + 1)
      next = record { low = omega arith; high = omega arith }

-- each line against the next is each against each
pub compared_all : {x : Step} {d line : ℕ} → Compared x d line → 3 < line → balanced d (counts_of x) ≡ true
compared_all {x} {d} {line} w h =
    balanced_all d (counts_of x)
    (λ l m j k.
    each_line (λ (l : ℕ). (m : ℕ) → IsLine m → counts_of x l ≤ counts_of x m + d)
    (each_line _ (omega arith) first.0 third.1)
    (each_line _ first.1 (omega arith) second.0)
    (each_line _ third.0 second.1 (omega arith)) l j m k)
  where
    first : Near x d 1
    first = w.near 1 (omega arith) (omega arith)

    second : Near x d 2
    second = w.near 2 (omega arith) (omega arith)

    third : Near x d 3
    third = w.near 3 (omega arith) (omega arith)

-- What the answers say of the loads

module _ {p : Profile} {clock : ℕ} {loads : List Load} (s : Shows p clock loads) where
  limit_at_lem : (limit site t : ℕ) → clock ≤ t → limited limit (levels p t) && within_site site (levels p t) ≡ limit_at (limits limit 0 site []) loads t
  limit_at_lem limit site = shown_test (limits_tests limit site) s

  balance_at_lem : (bound t : ℕ) → clock ≤ t → balanced bound (levels p t) ≡ balance_at (limits 0 bound 0 []) loads t
  balance_at_lem bound = shown_test (balanced_tests bound) s

pub limit_shows : {p : Profile} {limit site : ℕ} {r : Bool} → LimitKept p limit site r → WithinLimit p limit site r
limit_shows {p} {limit} {site} {r} k clock loads bound others s = go r k.answer
  where
    go : (r : Bool) → PassesIf (limited_in p limit site) (first_minute p) r → r ≡ from_on clock loads (limit_at (limits limit bound site others) loads)
    go true h = sym (from_on_all clock loads (limit_at (limits limit bound site others) loads) (λ t a. sym (limit_at_lem s limit site t a) ∙ h t (omega (arith, s.starts))))
    go false h =
        let from : clock ≤ h.minute = omega (arith, s.starts, h.low) in
        sym
        (fails (from_on clock loads (limit_at (limits limit bound site others) loads))
        (λ e.
        true≢false
        (sym (from_on_at clock loads (limit_at (limits limit bound site others) loads) (limit_past (limits limit bound site others) loads) e h.minute from)
        ∙ sym (limit_at_lem s limit site h.minute from)
        ∙ h.fails)))

pub unbalanced_shows :
    {p : Profile} (bound : ℕ) (r : Option ℕ) → IfSome r (λ t. FirstFails (balanced_in p bound) (first_minute p) t) →
    IfNone r (Passes (balanced_in p bound) (first_minute p)) → Unbalanced p bound r
unfolding first_unbalanced
unbalanced_shows {p} bound (Some t) h n clock loads limit site others s =
    let from : clock ≤ t = omega (arith, s.starts, h.low) in
    let bad : balance_at (limits limit bound site others) loads t ≡ false = sym (balance_at_lem s bound t from) ∙ h.fails in
    first-is (λ t. not (balance_at (limits limit bound site others) loads t)) (last_until loads - clock) clock t
    (record {
      low = from;
      high =
          ⊎_elim
          (λ lt. omega (arith, from))
          (λ ge. absurd (true≢false (sym (balance_past (limits limit bound site others) loads t ge) ∙ bad)))
          (below_or_not t (last_until loads));
      here = ap not bad;
      least = λ u a b. ap not (sym (balance_at_lem s bound u a) ∙ h.passed u (omega (arith, s.starts)) b);
    })
unbalanced_shows {p} bound None h n clock loads limit site others s =
    first_nothing (λ t. not (balance_at (limits limit bound site others) loads t)) (last_until loads - clock) clock
    (λ t a b. ap not (sym (balance_at_lem s bound t a) ∙ n t (omega (arith, s.starts))))
