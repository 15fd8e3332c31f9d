-- The three calls where none is refused: what is proposed is what the rules test.
use mathlib.Core.Path.{◌≡◌, refl, ap, sym, ◌∙◌}
use Prim.Native.Nat.{ℕ, ◌+◌, ◌≤◌}
use mathlib.Core.List.{List, []}
use Rattle.std.specs.Prelude.{Result, Ok, Err}
use lib.ListN.{length}
use native.Mathlib.Omega.{arith}
use Rattle.std.proofs.lemmas.List.{take_all}
use Rattle.rules.specs.Replan.{Proposal, starts, latest, Replanned, by_lines}
use Rattle.rules.specs.Site.{charges_on, limits_of}
use Rattle.rules.specs.Calls.{tested, offering, replanning_latest, replanning_lines, offer, replan_latest, replan_lines, step}
use Rattle.charges.specs.declared.Charges.{Charges}
use Rattle.charges.specs.Arrays.{charges_of}
use Rattle.charges.specs.Starts.{Starts}
use Rattle.planner.specs.declared.Beside.{Beside}
use Rattle.planner.specs.declared.cause.Cause.{Cause}
use Rattle.planner.specs.Ready.{terms_of}
use Rattle.planner.specs.Starts.{waiting_count}
use Rattle.planner.specs.Answers.{proposal_of, ForEach, Proposes}
use Rattle.lines.specs.declared.rounds.Replanned.{Replanned as Lined}
use Rattle.lines.specs.Rounds.{Replans}
use Rattle.station.specs.declared.Feeder.{Feeder}
use Rattle.station.specs.declared.Station.{Station}
use Rattle.station.specs.View.{view, feeder_at}
use Rattle.station.specs.Given.{Gives}
use Rattle.station.proofs.Views.{read_at}
use Rattle.station.proofs.Changed.{changed_at}
use Rattle.station.proofs.Refusing.{call_granted, gives_by}
use Rattle.planning.specs.declared.Planned.{Planned}
use Rattle.planning.specs.Answers.{planned_of, Enough, first_starts, Tests}
use Rattle.planning.proofs.Ready.{CanTest, own_read}
use Rattle.planning.proofs.Testing.{own, left_formed, tests_give}
use Rattle.planning.proofs.Refusals.{offer_granted, latest_granted, lines_granted}

-- a list with just one start for each waiting charge has enough of them
pub enough : (n : ℕ) (r : Result Starts Cause) → ForEach n r → Enough n r
enough n (Ok list) h = omega (arith, h)
enough n (Err cause) h = tt

-- and those are all of them
first_all : (n : ℕ) (r : Result Starts Cause) → ForEach n r → first_starts n r ≡ proposal_of r
first_all n (Ok list) h = ap starts (take_all n list (omega (arith, h)))
first_all n (Err cause) h = refl

module _ {s : Station} {n p : ℕ} (names : n ≡ p + 1) where
  pub offer_tested :
      {b : Beside} (w : CanTest s p b) (other : Feeder) {ss : List ℕ} {count rounds : ℕ} {answer : Planned} {next : Charges}
      → count ≡ waiting_count s.clock (feeder_at s p).charges
      → length ss ≡ count
      → rounds ≡ 0
      → Tests b (read_at s p other).charges rounds (starts ss) answer next
      → Gives (step (view s) (offer n ss)) (planned_of answer) (changed_at s p other next s.next) ss
  unfolding offering
  offer_tested w other {ss} c l z t =
      gives_by (offer n ss) w.valid (left_formed w other t)
      (tests_give w other t ss ∙ rw (z, ← names) (call_granted (view s) (offer n ss) 0 (offer_granted s names w.inside ss c l) refl))

  -- Both replans

  module _
      {b : Beside} (w : CanTest s p b) (other : Feeder) {r : Result Starts Cause} {rounds : ℕ} {answer : Planned} {next : Charges}
      (t : Tests b (read_at s p other).charges rounds (first_starts (waiting_count b.clock (read_at s p other).charges) r) answer next)
    where
      pub latest_tested :
          {q : Proposal} {made : Result Starts Cause}
          → Proposes b.clock (read_at s p other).charges q made
          → q ≡ latest (terms_of b) b.clock (charges_of (read_at s p other).charges)
          → r ≡ made
          → rounds ≡ 0
          → Gives (step (view s) (replan_latest n)) (planned_of answer) (changed_at s p other next s.next) []
      unfolding replanning_latest
      latest_tested e h m z =
          let same : first_starts (waiting_count b.clock (read_at s p other).charges) r ≡ latest (limits_of (view s) n) s.clock (charges_on (view s) n) =
          first_all _ r (rw m e.many)
          ∙ rw (m, ← w.beside.clock) (rw (own_read w other) at (sym e.same ∙ h) ∙ rw (w.beside.terms, names, own w) refl) in
          gives_by (replan_latest n) w.valid (left_formed w other t)
          (tests_give w other t []
          ∙ ap (λ (q : Proposal). tested (view s) (p + 1) rounds q []) same
          ∙ rw (z, ← names) (call_granted (view s) (replan_latest n) 0 (latest_granted s names w.inside) refl))

      pub lines_tested :
          {q : Replanned} {made : Lined} (allowance : ℕ)
          → Replans b.clock (read_at s p other).charges q made
          → q ≡ by_lines (terms_of b) b.clock allowance (charges_of (read_at s p other).charges)
          → r ≡ made.proposed
          → rounds ≡ made.rounds
          → 1 ≤ allowance
          → allowance ≤ 1000
          → Gives (step (view s) (replan_lines n allowance)) (planned_of answer) (changed_at s p other next s.next) []
      unfolding replanning_lines
      lines_tested allowance e h m z low high =
          let same : record { proposal = first_starts (waiting_count b.clock (read_at s p other).charges) r; rounds = rounds } ≡ by_lines (limits_of (view s) n) s.clock allowance (charges_on (view s) n) =
          ap (λ (q : Proposal). record { proposal = q; rounds = rounds }) (first_all _ r (rw m e.many))
          ∙ rw (m, z, ← w.beside.clock) (rw (own_read w other) at (sym e.same ∙ h) ∙ rw (w.beside.terms, names, own w) refl) in
          gives_by (replan_lines n allowance) w.valid (left_formed w other t)
          (tests_give w other t []
          ∙ ap (λ (x : Replanned). tested (view s) (p + 1) x.rounds x.proposal []) same
          ∙ rw (← names) (call_granted (view s) (replan_lines n allowance) 0 (lines_granted s names w.inside allowance low high) refl))
