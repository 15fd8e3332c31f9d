-- What replan by latest start proposes once the waiting charges are placed, and when one has no start.
use mathlib.Core.Path.{◌≡◌}
use Prim.Native.Nat.{ℕ}
use mathlib.Core.List.{List, []}
use Rattle.std.specs.Prelude.{Ok, Err}
use Rattle.rules.specs.Load.{Limits}
use Rattle.rules.specs.Replan.{stuck, place_all, latest}
use Rattle.charges.specs.declared.Charges.{Charges}
use Rattle.charges.specs.Arrays.{charges_of}
use Rattle.charges.specs.Starts.{Starts}
use Rattle.profile.specs.Shows.{Profile}
use Rattle.planner.specs.declared.cause.Cause.TheVariants.{NoStart}
use Rattle.planner.specs.Starts.{WaitingStarts}
use Rattle.planner.specs.Answers.{Proposes}
use Rattle.planner.specs.Placed.{AllPlaced}
use Rattle.planner.proofs.Queueing.{queue_from, Queue}
use Rattle.planner.proofs.Plans.{sound_in}

module _ (y : Limits) {clock : ℕ} {c : Charges} {q : List ℕ} (u : Queue clock c q) where
  pub latest_none : place_all (sound_in y clock c) [] (queue_from c q 0) ≡ stuck → Proposes clock c (latest y clock (charges_of c)) (Err NoStart)
  unfolding latest
  latest_none e = record { same = rw (← u.charges, e); many = tt }

  pub latest_starts :
      {p : Profile} {by_place : List ℕ} {listed : Starts}
      → AllPlaced (place_all (sound_in y clock c) [] (queue_from c q 0)) y clock c p by_place
      → WaitingStarts clock c by_place listed
      → Proposes clock c (latest y clock (charges_of c)) (Ok listed)
  unfolding latest
  latest_starts a w = record { same = rw (← u.charges, a.gives, w.gives a.placed a.plan.stored); many = w.many }
