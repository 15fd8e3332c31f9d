-- The test that all three end with: what it makes of the charges of a feeder, it makes of the station.
use mathlib.Core.Path.{◌≡◌, refl, ap, sym, subst, ◌∙◌}
use Prim.Native.Nat.{ℕ, zero, suc, ◌+◌, ◌<◌}
use mathlib.Core.List.{List}
use Rattle.std.specs.Prelude.{Result, Ok, Err}
use native.Mathlib.Omega.{arith}
use Rattle.std.proofs.lemmas.List.{set-get_or}
use Rattle.rules.specs.Charge.{lateness}
use Rattle.rules.specs.Site as rules
use Rattle.rules.specs.Site.{charges_on, limits_of, holding}
use Rattle.rules.specs.Replan.{Proposal, starts, none}
use Rattle.rules.specs.Judgement.{restarted, judged}
use Rattle.rules.specs.Calls.{planned, kept, decided, tested}
use Rattle.charges.specs.declared.Charges.{Charges}
use Rattle.charges.specs.Arrays.{charges_of, Columns}
use Rattle.planner.specs.declared.Beside.{Beside}
use Rattle.planner.specs.declared.cause.Cause.{Cause}
use Rattle.planner.specs.declared.cause.Cause.TheVariants.{NoStart, AllowanceSpent, StartBelowClock, EndsLater, AboveLimit, AboveBound, LatenessNotSmaller}
use Rattle.planner.specs.declared.judge.Judgement.{Judgement}
use Rattle.planner.specs.Causes.{number_of, cause_in}
use Rattle.planner.specs.Judged.{TakenAs, held_after, Judges}
use Rattle.station.specs.declared.Feeder.{Feeder}
use Rattle.station.specs.declared.Station.{Station}
use Rattle.station.specs.View.{feeder_at, view, Formed}
use Rattle.station.proofs.Refusing.{giving}
use Rattle.station.proofs.Views.{view_number, read_at}
use Rattle.station.proofs.Changed.{changed_at, changed_view, changed_formed}
use Rattle.planning.specs.declared.Planned.{Planned}
use Rattle.planning.specs.Answers.{planned_of, cause_by, LeftBy, Tests}
use Rattle.planning.proofs.Ready.{CanTest, own_read}

-- a cause has a number, which keeps the held plan
number_low : (k : Cause) → 0 < number_of k
number_low NoStart = omega arith
number_low AllowanceSpent = omega arith
number_low StartBelowClock = omega arith
number_low EndsLater = omega arith
number_low AboveLimit = omega arith
number_low AboveBound = omega arith
number_low LatenessNotSmaller = omega arith

kept_decided :
    (s : rules.State) (f rounds : ℕ) (ss list : List ℕ) (cause : ℕ) → 0 < cause → decided s f rounds ss list cause ≡ kept s f cause rounds list
kept_decided s f rounds ss list zero h = absurd (omega arith)
kept_decided s f rounds ss list (suc k) h = refl

-- Of the charges that are judged

module _ {b beside : Beside} {held : Charges} {ss : List ℕ} {j : Judgement} (same : beside ≡ b) (e : Judges beside held ss j) where
  -- they are those of the judgement where it has no cause
  pub judged_taken :
      {c next : Charges} {rounds before after : ℕ} → j.taken ≡ Ok c → next ≡ c → before ≡ j.before → after ≡ j.after →
      Tests b held rounds (starts ss) (record { taken = Ok tt; before = before; after = after; rounds = rounds }) next
  judged_taken is put x y =
      record {
        cause = rw (← same) (e.cause ∙ ap cause_in is);
        before = e.before ∙ sym x;
        after = ap (λ c. lateness (charges_of c)) put ∙ sym (ap (λ (t : Result Charges Cause). lateness (charges_of (held_after held t))) is) ∙ e.after ∙ sym y;
        made = refl;
        left = rw (put, ← same) (subst (TakenAs beside.clock held ss) is e.held);
      }

  -- and stay with its cause
  pub judged_kept :
      {k : Cause} {rounds before after : ℕ} → j.taken ≡ Err k → before ≡ j.before → after ≡ j.after →
      Tests b held rounds (starts ss) (record { taken = Err k; before = before; after = after; rounds = rounds }) held
  judged_kept is x y =
      record {
        cause = rw (← same) (e.cause ∙ ap cause_in is);
        before = e.before ∙ sym x;
        after = sym (ap (λ (t : Result Charges Cause). lateness (charges_of (held_after held t))) is) ∙ e.after ∙ sym y;
        made = refl;
        left = refl;
      }

module _ {s : Station} {p : ℕ} {b : Beside} (w : CanTest s p b) where
  pub own : charges_on (view s) (p + 1) ≡ charges_of (feeder_at s p).charges
  own = ap (λ (g : rules.Feeder). g.charges) (view_number s p w.inside)

  -- the rules' cause is that of the plan beside what stands in the station
  cause_is : (ss : List ℕ) → judged (limits_of (view s) (p + 1)) s.clock (charges_on (view s) (p + 1)) ss ≡ cause_by b (feeder_at s p).charges (starts ss)
  cause_is ss = rw (own, ← w.beside.terms, ← w.beside.clock) refl

  -- The test of the charges is the rules' test of the station

  module _ (other : Feeder) {q : Proposal} {rounds : ℕ} {answer : Planned} {next : Charges} (t : Tests b (read_at s p other).charges rounds q answer next) where
    abbrev left : Station
    left = changed_at s p other next s.next

    t_own : Tests b (feeder_at s p).charges rounds q answer next
    t_own = rw (own_read w other) at t

    -- the charges that are left have their form
    pub left_formed : Formed left
    left_formed = changed_formed s w.valid.formed p other next s.next w.inside (columns q answer.taken t_own.left)
      where
        columns : (q : Proposal) (r : Result (Unit {0}) Cause) → LeftBy b.clock (feeder_at s p).charges q r next → Columns next
        columns (starts ss) (Ok done) h = h.columns
        columns (none cause) (Ok done) h = absurd h
        columns q (Err k) h = rw h (w.valid.formed.columns p w.inside)

    pub tests_give : (list : List ℕ) → giving (planned_of answer) (view left) list ≡ tested (view s) (p + 1) rounds q list
    tests_give list = rw (sym t_own.made, sym t_own.before, sym t_own.after) (go q answer.taken t_own.cause (rw w.beside.clock at t_own.left))
      where
        -- with the same charges the station is what it was
        kept_gives :
            (k : ℕ) → next ≡ (feeder_at s p).charges
            → giving (planned k (lateness (charges_of (feeder_at s p).charges)) (lateness (charges_of next)) rounds) (view left) list ≡ kept (view s) (p + 1) k rounds list
        kept_gives k e =
            let same : left ≡ s =
            rw (e, ← own_read w other) (ap (λ fs. record { count = s.count; site = s.site; clock = s.clock; next = s.next; feeders = fs }) (set-get_or s.feeders p other)) in
            ap (λ t. giving (planned k (lateness (charges_of (feeder_at s p).charges)) (lateness (charges_of next)) rounds) (view t) list) same ∙ rw (e, own) refl

        go :
            (q : Proposal) (r : Result (Unit {0}) Cause)
            → cause_by b (feeder_at s p).charges q ≡ cause_in r
            → LeftBy s.clock (feeder_at s p).charges q r next
            → giving (planned (cause_in r) (lateness (charges_of (feeder_at s p).charges)) (lateness (charges_of next)) rounds) (view left) list
            ≡ tested (view s) (p + 1) rounds q list
        go (starts ss) (Ok done) e h =
            let next_is : charges_of next ≡ restarted s.clock (charges_on (view s) (p + 1)) ss = rw own h.charges in
            rw (cause_is ss ∙ e) (rw (changed_view s w.valid.formed p other next s.next w.inside, next_is, ap lateness (sym own)) refl)
        go (starts ss) (Err k) e h =
            rw (cause_is ss ∙ e, kept_decided (view s) (p + 1) rounds ss list (number_of k) (number_low k)) (kept_gives (number_of k) h)
        go (none cause) (Ok done) e h = absurd h
        go (none cause) (Err k) e h = rw e (kept_gives (number_of k) h)
