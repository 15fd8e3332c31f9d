-- What an offer and both replans leave and answer.
use mathlib.Core.Logic.{◌↔◌}
use mathlib.Core.Path.{◌≡◌, refl, sym, ap, subst, ◌∙◌}
use Prim.Native.Nat.{ℕ}
use mathlib.Core.List.{List}
use Rattle.rules.specs.Replan.{Proposal, starts}
use Rattle.rules.specs.Site.{State, charges_on}
use Rattle.rules.specs.Charge.{loads_of, lateness}
use Rattle.rules.specs.Calls.{planned, refusals, step}
use Rattle.rules.specs.Valid.{IsFeeder, ValidState}
use Rattle.rules.proofs.Granted.{feeder_granted}
use Rattle.guarantee.specs.DemandOne.{NoneApplies}
use Rattle.guarantee.specs.DemandTwo.{Better, Tested, cause_of}
use Rattle.guarantee.proofs.DemandTwo.{valid_demand_two}
use Rattle.guarantee.proofs.Taking.{each_unbroken, none_before_order}
use Rattle.station.specs.declared.Station.{Station}
use Rattle.station.specs.View.{view, Valid}
use Rattle.calls.specs.declared.Call.{Call}
use Rattle.calls.specs.declared.Call.TheVariants.{Preview, Commit, Move, Offer, ReplanLatest, ReplanLines, Enquire, Board, Withdraw}
use Rattle.calls.specs.Applied.{call_of}
use Rattle.theorem.specs.Theorem.{Made, MeetsApply, call_made, given}
use Rattle.theorem.specs.Single.{answer_told, IsGranted, HasCause, HasCauseAfter, tests}
use Rattle.theorem.specs.Planned.{BetterStartsAreTaken, BetterOfferIsTaken, TakenStartsAreInOrder, TakenStartsAreGiven, OtherwiseTheStationStays, PlanIsAnswered, PlanWritesNothing}
use Rattle.theorem.specs.Proposed.{Plan, plan, no_plan, plan_in, Proposes, with_starts, AreBetter}
use Rattle.theorem.proofs.Single.{of_step, very_station, none_of, list_of}
use Rattle.theorem.proofs.Soundness.{spelled_sound, sound_spelled}

-- a call that puts a proposal to the test ends with it
TestedBy : State → Call → List ℕ → List ℕ → Plan → Type 0
TestedBy s c numbers list (plan f proposal rounds) =
    Tested s f (call_of c numbers list) proposal rounds (step s (call_of c numbers list))
TestedBy s c numbers list no_plan = Unit {0}

tested_by : (s : State) → ValidState s → (c : Call) (numbers list : List ℕ) → TestedBy s c numbers list (plan_in s c numbers)
unfolding TestedBy
tested_by s v (Preview o) numbers list = tt
tested_by s v (Commit o shown) numbers list = tt
tested_by s v (Move target) numbers list = tt
tested_by s v (Offer f) numbers list = (valid_demand_two s v).offers f numbers
tested_by s v (ReplanLatest f) numbers list = (valid_demand_two s v).replans_latest f
tested_by s v (ReplanLines f allowance) numbers list = (valid_demand_two s v).replans_lines f allowance
tested_by s v (Enquire ticket) numbers list = tt
tested_by s v Board numbers list = tt
tested_by s v (Withdraw ticket) numbers list = tt

-- and names a feeder that is there, unless it is refused
NamesFeeder : State → Call → List ℕ → List ℕ → Plan → Type 0
NamesFeeder s c numbers list (plan f proposal rounds) =
    NoneApplies (refusals s (call_of c numbers list)) → IsFeeder s f
NamesFeeder s c numbers list no_plan = Unit {0}

names_feeder : (s : State) (c : Call) (numbers list : List ℕ) → NamesFeeder s c numbers list (plan_in s c numbers)
unfolding NamesFeeder
names_feeder s (Preview o) numbers list = tt
names_feeder s (Commit o shown) numbers list = tt
names_feeder s (Move target) numbers list = tt
names_feeder s (Offer f) numbers list = λ none. feeder_granted s f none.0
names_feeder s (ReplanLatest f) numbers list = λ none. feeder_granted s f none.0
names_feeder s (ReplanLines f allowance) numbers list = λ none. feeder_granted s f none.0
names_feeder s (Enquire ticket) numbers list = tt
names_feeder s Board numbers list = tt
names_feeder s (Withdraw ticket) numbers list = tt

module _
    (s : Station) (m : Made) (v : Valid s) (meets : MeetsApply s m) (f : ℕ) (proposal : Proposal) (rounds : ℕ)
    (proposes : Proposes s m f proposal rounds) where
  pub tested : Tested (view s) f (call_made m) proposal rounds (given m)
  unfolding TestedBy
  tested =
      of_step s m v meets (λ r. Tested (view s) f (call_made m) proposal rounds r)
      (subst (TestedBy (view s) m.call m.numbers m.list) proposes (tested_by (view s) v.state m.call m.numbers m.list))

  pub none_tested : IsGranted m → NoneApplies (tests s m)
  none_tested free = none_of s m v meets m.call refl free

  pub there_tested : IsGranted m → IsFeeder (view s) f
  unfolding NamesFeeder
  there_tested free =
      subst (NamesFeeder (view s) m.call m.numbers m.list) proposes (names_feeder (view s) m.call m.numbers m.list)
      (none_tested free)

  pub answer_tested :
      IsGranted m
      → answer_told m
      ≡ planned (cause_of (view s) f proposal) (lateness (charges_on (view s) f)) (lateness (charges_on (view m.station) f)) rounds
  answer_tested free = tested.answer (none_tested free)

  -- the cause that is answered is that of the rules
  pub cause_tested : IsGranted m → (cause : ℕ) → HasCause m cause ↔ (cause_of (view s) f proposal ≡ cause)
  cause_tested free cause = (
    (λ h. same h.0 h.1 h.2 h.3),
    (λ e. (
      lateness (charges_on (view s) f),
      lateness (charges_on (view m.station) f),
      rounds,
      answer_tested free
          ∙ ap
          (λ (k : ℕ). planned k (lateness (charges_on (view s) f)) (lateness (charges_on (view m.station) f)) rounds)
          e,
    )),
  )
    where
      same : (b a r : ℕ) → answer_told m ≡ planned cause b a r → cause_of (view s) f proposal ≡ cause
      same b a r e =
          let q
          : planned (cause_of (view s) f proposal) (lateness (charges_on (view s) f)) (lateness (charges_on (view m.station) f)) rounds
          ≡ planned cause b a r
          = sym (answer_tested free) ∙ e in
          cc

  -- and so are the rounds
  pub cause_after_tested :
      IsGranted m → (cause times : ℕ) → HasCauseAfter m cause times ↔ ((cause_of (view s) f proposal ≡ cause) × (rounds ≡ times))
  cause_after_tested free cause times = (
    (λ h. same h.0 h.1 h.2),
    (λ e. (
      lateness (charges_on (view s) f),
      lateness (charges_on (view m.station) f),
      answer_tested free
          ∙ ap
          (λ (k : ℕ). planned k (lateness (charges_on (view s) f)) (lateness (charges_on (view m.station) f)) rounds)
          e.0
          ∙ ap
          (λ (r : ℕ). planned cause (lateness (charges_on (view s) f)) (lateness (charges_on (view m.station) f)) r)
          e.1,
    )),
  )
    where
      same : (b a : ℕ) → answer_told m ≡ planned cause b a times → (cause_of (view s) f proposal ≡ cause) × (rounds ≡ times)
      same b a e = (of_cause, of_rounds)
        where
          q :
              planned (cause_of (view s) f proposal) (lateness (charges_on (view s) f)) (lateness (charges_on (view m.station) f)) rounds
              ≡ planned cause b a times
          q = sym (answer_tested free) ∙ e

          of_cause : cause_of (view s) f proposal ≡ cause
          of_cause = let p = q in cc

          of_rounds : rounds ≡ times
          of_rounds = let p = q in cc

module _
    (s : Station) (m : Made) (v : Valid s) (meets : MeetsApply s m) (f rounds : ℕ) (ss : List ℕ)
    (proposes : Proposes s m f (starts ss) rounds) where
  spelled_better : Better (view s) f ss (with_starts s f ss) → AreBetter s f ss
  spelled_better b =
      (b.not_before_clock, spelled_sound s f (loads_of (with_starts s f ss)) b.sound, b.no_later, b.less_late)

  -- starts that are taken are better
  taken_better : HasCause m 0 → Better (view s) f ss (with_starts s f ss)
  taken_better h =
      let t = ((tested s m v meets f (starts ss) rounds proposes).taken.0 h).1 in
      subst (λ (us : List ℕ). Better (view s) f us (with_starts s f us)) (sym (same ss t.0 t.1)) t.2
    where
      same : (ss us : List ℕ) → starts ss ≡ starts us → ss ≡ us
      same ss us e = cc

  better_starts : IsGranted m → HasCause m 0 ↔ AreBetter s f ss
  better_starts free = (
    (λ h. spelled_better (taken_better h)),
    (λ b. back b),
  )
    where
      back : AreBetter s f ss → HasCause m 0
      back b =
          (tested s m v meets f (starts ss) rounds proposes).taken.1 (
            none_tested s m v meets f (starts ss) rounds proposes free,
            (
              ss,
              refl,
              record {
                not_before_clock = b.0;
                not_before_order =
                    none_before_order (view s) v.state f (there_tested s m v meets f (starts ss) rounds proposes free) ss b.0;
                unbroken = each_unbroken (with_starts s f ss);
                sound = sound_spelled s f (loads_of (with_starts s f ss)) b.1;
                no_later = b.2;
                less_late = b.3;
              },
            ),
          )

pub better_starts_are_taken : BetterStartsAreTaken
better_starts_are_taken s m v meets f rounds ss proposes free = better_starts s m v meets f rounds ss proposes free

pub better_offer_is_taken : BetterOfferIsTaken
better_offer_is_taken s m v meets f named free =
    better_starts s m v meets f 0 m.numbers (ap (λ c. plan_in (view s) c m.numbers) named) free

pub taken_starts_are_in_order : TakenStartsAreInOrder
taken_starts_are_in_order s m v meets f rounds ss proposes h =
    let b = taken_better s m v meets f rounds ss proposes h in (b.not_before_order, b.unbroken)

pub taken_starts_are_given : TakenStartsAreGiven
taken_starts_are_given s m v meets f rounds ss proposes h =
    let g = (tested s m v meets f (starts ss) rounds proposes).given ss refl h in
    (g.waiting_starts, g.begun_same, g.charges_same, g.station_same)

pub otherwise_the_station_stays : OtherwiseTheStationStays
otherwise_the_station_stays s m v meets f rounds proposal proposes n =
    very_station s m v meets ((tested s m v meets f proposal rounds proposes).unchanged n)

pub plan_is_answered : PlanIsAnswered
plan_is_answered s m v meets f rounds proposal proposes free =
    (cause_of (view s) f proposal, answer_tested s m v meets f proposal rounds proposes free)

pub plan_writes_nothing : PlanWritesNothing
plan_writes_nothing s m v meets f rounds proposal proposes =
    list_of s m v meets m.call refl (tested s m v meets f proposal rounds proposes).same_list_lem
