-- The rounds of replan by lines: what one more does, and the loop over them.
use mathlib.Core.Path.{◌≡◌, refl, ◌∙◌}
use Prim.Native.Nat.{ℕ, zero, suc, ◌+◌, ◌-◌, max, ◌≤◌, ◌<◌}
use native.Mathlib.Omega.{arith}
use native.Mathlib.Numerals.{add-one}
use Rattle.std.specs.declared.ops.ControlFlow.TheVariants.{Break, Continue}
use Rattle.std.specs.declared.result.Result.{Result}
use Rattle.std.specs.declared.result.Result.TheVariants.{Err}
use Rattle.rules.specs.Search.{Caps}
use Rattle.rules.specs.Replan.{none, Outcome, lowered, go_on, round, Replanned, rounds_from, by_lines}
use Rattle.rules.proofs.Rounds.{lowered_at_least}
use Rattle.charges.specs.declared.Charges.{Charges}
use Rattle.charges.specs.Arrays.{charge_at, charges_of}
use Rattle.charges.specs.Starts.{Starts}
use Rattle.search.specs.declared.caps.LineCaps.{LineCaps}
use Rattle.search.specs.Caps.{CapsShown, CapLowered}
use Rattle.search.proofs.Lowerings.{lowered_shows}
use Rattle.planner.specs.declared.cause.Cause.{Cause}
use Rattle.planner.specs.declared.cause.Cause.TheVariants.{AllowanceSpent}
use Rattle.planner.specs.declared.Beside.{Beside}
use Rattle.planner.specs.Ready.{terms_of, Ready}
use Rattle.search.specs.declared.caps.Lowering.{Lowering}
use Rattle.lines.specs.declared.place.Task.{Task}
use Rattle.lines.specs.Rounds.{Round, outcome, Plays, Replans}

-- What comes after so many rounds, with so many more allowed

module _ (play : Caps → Outcome) where
  abbrev pub after : ℕ → ℕ → Caps → Replanned
  after zero made cap = record { proposal = none 2; rounds = made }
  after (suc more) made cap = rounds_from play more (suc made) cap

  -- one more round
  after_one : (more made : ℕ) (cap : Caps) → rounds_from play more made cap ≡ go_on made (after more made) cap (play cap)
  unfolding rounds_from
  after_one zero made cap = refl
  after_one (suc more) made cap = refl

-- What is left of the rounds, from the caps as they stand, is the whole

abbrev whole_of : Beside → Charges → ℕ → Replanned
whole_of b c allowance = by_lines (terms_of b) b.clock allowance (charges_of c)

abbrev round_of : Beside → Charges → Caps → Outcome
round_of b c = round (terms_of b) b.clock (charges_of c)

pub record Rounds (b : Beside) (c : Charges) (allowance : ℕ) (caps : LineCaps) (made : ℕ) : Type 0 where
  pub cap : Caps
  pub shown : CapsShown caps b.limits.site cap
  pub enough : (i : ℕ) → i < c.held → (l t : ℕ) → (charge_at c i).rate ≤ cap l t
  pub whole : whole_of b c allowance ≡ after (round_of b c) (max allowance 1 - made) made cap

pub rounds_start :
    {b : Beside} {c : Charges} {caps : LineCaps} (allowance : ℕ)
    → Ready b c
    → CapsShown caps b.limits.site (λ l t. b.limits.limit)
    → Rounds b c allowance caps 0
unfolding by_lines
rounds_start allowance r s =
    let one : max allowance 1 - 0 ≡ suc (allowance - 1) = omega arith in
    record { cap = _; shown = s; enough = λ i h l t. r.within_limit i h; whole = rw one refl }

module _ {k : Task} {allowance made : ℕ} (v : Rounds k.beside k.charges.now allowance k.caps.now made) where
  -- one more round
  module _ (more : made < max allowance 1) {r : Round} (h : Plays k r) where
    played :
        whole_of k.beside k.charges.now allowance ≡ go_on (suc made) (after (round_of k.beside k.charges.now) (max allowance 1 - suc made) (suc made)) v.cap (outcome r)
    played =
        let one_more : max allowance 1 - made ≡ suc (max allowance 1 - suc made) = omega arith in
        v.whole ∙ rw one_more (after_one (round_of k.beside k.charges.now) (max allowance 1 - suc made) (suc made) v.cap ∙ rw (h.same v.cap v.shown) refl)

    pub rounds_done :
        {p : Result Starts Cause} {rounds : ℕ} → r ≡ Break p → rounds ≡ made + 1
        → Replans k.beside.clock k.charges.now (whole_of k.beside k.charges.now allowance) (record { proposed = p; rounds = rounds })
    rounds_done e total = rw (total, add-one made) record { same = rw e at played; many = rw e at h.fits }

    module _ {x : Lowering} (e : r ≡ Continue x) where
      -- it was the last that is allowed
      pub rounds_spent :
          {rounds : ℕ} → rounds ≡ made + 1 → rounds ≡ max allowance 1
          → Replans k.beside.clock k.charges.now (whole_of k.beside k.charges.now allowance) (record { proposed = Err AllowanceSpent; rounds = rounds })
      rounds_spent total all =
          let none_left : max allowance 1 - suc made ≡ 0 = omega arith in
          rw (total, add-one made) record { same = (rw e at played) ∙ rw none_left refl; many = tt }

      lowers_fit : (x.minute < 4294967295) × (k.beside.limits.bound ≤ x.cap)
      lowers_fit = rw e at h.fits

      pub rounds_next :
          {next : LineCaps} {rounds : ℕ} → Ready k.beside k.charges.now → CapLowered k.caps.now next x.line x.minute x.cap → rounds ≡ made + 1
          → Rounds k.beside k.charges.now allowance next rounds
      rounds_next {next} ready low total =
          rw (total, add-one made)
          record {
            cap = lowered v.cap x.line x.minute x.cap;
            shown = lowered_shows low k.beside.limits.site v.cap v.shown;
            enough =
                λ j h.
                lowered_at_least (charge_at k.charges.now j).rate v.cap x.line x.minute x.cap (omega (arith, lowers_fit.1, ready.within_bound j h)) (v.enough j h);
            whole = rw e at played;
          }
