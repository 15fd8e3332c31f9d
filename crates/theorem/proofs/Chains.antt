-- A chain of calls gives what the rules give, so that the demands hold of it.
use mathlib.Core.Path.{◌≡◌, refl, sym, ap, subst, ◌∙◌}
use mathlib.Core.Bool.{true}
use mathlib.Core.List.{List, [], ◌∷◌, map}
use Rattle.rules.specs.Basics.{Each}
use Rattle.rules.specs.Site.{State}
use Rattle.rules.specs.Calls.{Result, opening, run, step}
use Rattle.guarantee.specs.Past.{Past, beginning, extended, after, past, is_refused}
use Rattle.guarantee.specs.DemandOne.{DemandOne}
use Rattle.guarantee.specs.DemandTwo.{DemandTwo}
use Rattle.guarantee.specs.DemandThree.{DemandThree}
use Rattle.guarantee.specs.Demands.{reached}
use Rattle.guarantee.proofs.DemandOne.{valid_demand_one}
use Rattle.guarantee.proofs.Demands.{demands}
use Rattle.station.specs.declared.Station.{Station}
use Rattle.station.specs.View.{view, Valid}
use Rattle.calls.specs.Applied.{answer_of, lends, ListStays}
use Rattle.theorem.specs.Theorem.{Made, MeetsApply, Chain, call_made, given, left, known, Theorem}
use Rattle.theorem.proofs.Determined.{view_determines}

-- one call: what it gave is one step of the rules
pub one_step : (s : Station) (m : Made) → Valid s → MeetsApply s m → given m ≡ step (view s) (call_made m)
one_step s m v meets = search (meets v).gives.result

-- and where that is a refusal, the station is the very one that the call got
pub refused_same :
    (s : Station) (m : Made) → Valid s → MeetsApply s m → is_refused (answer_of m.answer) ≡ true → m.station ≡ s
refused_same s m v meets refuses =
    let e : given m ≡ step (view s) (call_made m) = one_step s m v meets in
    let still : is_refused (step (view s) (call_made m)).answer ≡ true
    = sym (ap (λ (r : Result). is_refused r.answer) e) ∙ refuses in
    view_determines m.station s (meets v).gives.valid.formed v.formed
    (ap (λ (r : Result). r.state) e
    ∙ (valid_demand_one (view s) v.state (call_made m)).refused_by.same_station still)

pub chain_valid : (s : Station) (calls : List Made) → Valid s → Chain s calls → Each (λ m. Valid m.station) calls
chain_valid s [] v chain = tt
chain_valid s (m ∷ ms) v (meets, chain) =
    let next : Valid m.station = (meets v).gives.valid in
    (next, chain_valid m.station ms next chain)

chain_stays :
    (s : Station) (calls : List Made)
    → Valid s
    → Chain s calls
    → Each (λ m. ListStays (lends m.call) m.list m.written) calls
chain_stays s [] v chain = tt
chain_stays s (m ∷ ms) v (meets, chain) =
    ((meets v).stays, chain_stays m.station ms (meets v).gives.valid chain)

pub chain_answers :
    (s : Station) (calls : List Made) → Valid s → Chain s calls → map given calls ≡ run (view s) (map call_made calls)
chain_answers s [] v chain = refl
chain_answers s (m ∷ ms) v (meets, chain) =
    subst (λ (r : Result). given m ∷ map given ms ≡ r ∷ run r.state (map call_made ms)) (one_step s m v meets)
    (ap (λ (rs : List Result). given m ∷ rs) (chain_answers m.station ms (meets v).gives.valid chain))

-- what is seen of the calls, whatever was known before
pub chain_known :
    (h : Past) (s : Station) (calls : List Made)
    → h.station ≡ view s
    → Valid s
    → Chain s calls
    → known h calls ≡ after step h (map call_made calls)
chain_known h s [] e v chain = refl
chain_known h s (m ∷ ms) e v (meets, chain) =
    let same : given m ≡ step h.station (call_made m)
    = subst (λ (z : State). given m ≡ step z (call_made m)) (sym e) (one_step s m v meets) in
    chain_known (extended h (call_made m) (given m)) m.station ms refl (meets v).gives.valid chain
    ∙ ap (λ (r : Result). after step (extended h (call_made m) r) (map call_made ms)) same

pub left_valid : (s : Station) (calls : List Made) → Valid s → Chain s calls → Valid (left s calls)
left_valid s [] v chain = v
left_valid s (m ∷ ms) v (meets, chain) = left_valid m.station ms (meets v).gives.valid chain

pub chain_left : (h : Past) (s : Station) (calls : List Made) → h.station ≡ view s → (known h calls).station ≡ view (left s calls)
chain_left h s [] e = e
chain_left h s (m ∷ ms) e = chain_left (extended h (call_made m) (given m)) m.station ms refl

pub theorem : Theorem
theorem x answer first opens calls chain =
    let v : Valid first = opens.valid in
    let start : view first ≡ (opening x).state = ap (λ (r : Result). r.state) opens.result in
    let seen : known (beginning (view first)) calls ≡ past step (view first) (map call_made calls)
    = chain_known (beginning (view first)) first calls refl v chain in
    let end : reached x (map call_made calls) ≡ view (left first calls)
    = ap (λ (s : State). (past step s (map call_made calls)).station) (sym start)
    ∙ (ap (λ (h : Past). h.station) (sym seen) ∙ chain_left (beginning (view first)) first calls refl) in
    record {
      began = start;
      first_valid = v;
      valid = chain_valid first calls v chain;
      opened = ap (λ (r : Result). r.answer) opens.result;
      answers = subst (λ (s : State). map given calls ≡ run s (map call_made calls)) start (chain_answers first calls v chain);
      stays = chain_stays first calls v chain;
      next = λ m. one_step (left first calls) m (left_valid first calls v chain);
      unchanged = λ m. refused_same (left first calls) m (left_valid first calls v chain);
      seen = seen;
      one_opening = demands.one_opening x;
      one = λ call. subst (λ (s : State). DemandOne step s call) end (demands.one x (map call_made calls) call);
      two = subst (λ (s : State). DemandTwo step s) end (demands.two x (map call_made calls));
      three =
          subst (λ (s : State). DemandThree step s (map call_made calls)) (sym start)
          (demands.three x (map call_made calls));
    }
