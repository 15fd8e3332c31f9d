-- What the theorem says of the rules' list of calls, said of what was seen of the calls that were made.
use mathlib.Core.Path.{◌≡◌, refl, sym, ap, subst, ◌∙◌}
use Prim.Native.Nat.{ℕ}
use mathlib.Core.List.{List, [], ◌∷◌, ◌++◌, map}
use Rattle.rules.specs.Basics.{Each}
use Rattle.rules.specs.Site.{State}
use Rattle.rules.specs.Calls.{Answer, Result, opening, Call, enquire, step}
use Rattle.guarantee.specs.Past.{Past, beginning, past, enquiry, staying_orders, withdrawn_orders}
use Rattle.guarantee.specs.DemandThree.{Kept, Gone, DemandThree}
use Rattle.station.specs.declared.Station.{Station}
use Rattle.station.specs.View.{view}
use Rattle.calls.specs.Applied.{call_of}
use Rattle.theorem.specs.Theorem.{Made, Chain, call_made, left}
use Rattle.theorem.specs.AfterCalls.{ForAnyCalls, known_after, AfterAnyCalls}
use Rattle.theorem.specs.EveryEnquiry.{EnquiryAnswers}
use Rattle.theorem.proofs.Chains.{chain_left, theorem}

-- What follows from `DemandThree`, of a list of calls of the rules, holds of the station asked for and of what is known of the calls made.
pub carried :
    (P : State → Past → Type 0)
    → ((s : State) (calls : List Call) → DemandThree step s calls → P s (past step s calls))
    → AfterAnyCalls P
carried P from x answer first opens calls chain =
    let g = theorem x answer first opens calls chain in
    subst (λ (h : Past). P (opening x).state h) (sym g.seen)
    (subst (λ (s : State). P s (past step (view first) (map call_made calls))) g.began
    (from (view first) (map call_made calls) g.three))

-- what is claimed of each order that stays, and of each that was withdrawn
pub kept : AfterAnyCalls (λ s h. Each (Kept step h) (staying_orders h))
kept = carried (λ s h. Each (Kept step h) (staying_orders h)) (λ s calls three. three.orders)

pub gone : AfterAnyCalls (λ s h. Each (Gone step h) (withdrawn_orders h))
gone = carried (λ s h. Each (Gone step h) (withdrawn_orders h)) (λ s calls three. three.gone)

-- What an enquiry would give by the rules is what the code answers to it.
pub enquiry_answers :
    ForAnyCalls
    (λ x first calls.
    (ticket : ℕ) (a : Answer) → enquiry step (known_after first calls) ticket ≡ a → EnquiryAnswers (left first calls) ticket a)
enquiry_answers x answer first opens calls chain ticket a e m named meets =
    let g = theorem x answer first opens calls chain in
    ap (λ (r : Result). r.answer) (g.next m meets)
    ∙ (ap (λ c. (step (view (left first calls)) (call_of c m.numbers m.list)).answer) named
    ∙ (sym (ap (λ (s : State). (step s (enquire ticket)).answer) (chain_left (beginning (view first)) first calls refl)) ∙ e))

-- a first part of a chain is a chain
pub chain_part : (s : Station) (part rest : List Made) → Chain s (part ++ rest) → Chain s part
chain_part s [] rest chain = tt
chain_part s (m ∷ part) rest chain = (chain.0, chain_part m.station part rest chain.1)
