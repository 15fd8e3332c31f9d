-- What an enquiry tells and a board shows.
use mathlib.Core.Logic.{◌⊎◌, inl, inr}
use mathlib.Core.Path.{◌≡◌, refl, sym, ap, subst, ◌∙◌}
use Prim.Native.Nat.{ℕ, zero, suc, ◌+◌, ◌≤◌, ◌<◌}
use mathlib.Core.Bool.{Bool, true, false, cond}
use mathlib.Core.List.{List, [], ◌∷◌, map}
use native.Mathlib.Omega.{arith}
use lib.Dec.{leb, eqb}
use lib.ListN.{length, get_or, drop}
use borrow.Author.Tests.{eqb-true, eqb-false, ltb-true, ltb-false, lt-leb}
use Rattle.rules.specs.Basics.{Each, first_of, keep}
use Rattle.rules.proofs.Sites.{map_length, by_place}
use Rattle.rules.proofs.Distinct.{each_joined}
use Rattle.rules.specs.Charge.{Charge, is_begun}
use Rattle.rules.specs.Site.{State, charges_on, site_charges}
use Rattle.rules.specs.Calls as rules
use Rattle.rules.specs.Calls.{Answer, refused, waiting, charging, looked, Result, answering, enquire, board, refusals, lent, written, not_held, enquiring, step}
use Rattle.rules.specs.Valid.{ValidState}
use Rattle.guarantee.specs.DemandTwo.{shown_by, highest, BoardShown}
use Rattle.guarantee.proofs.DemandTwo.{valid_demand_two}
use Rattle.guarantee.proofs.Each.{each_in}
use Rattle.guarantee.proofs.Enquiries.{enquiry_told}
use Rattle.station.specs.declared.Station.{Station}
use Rattle.station.specs.View.{view, Valid}
use Rattle.calls.specs.declared.Call.TheVariants.{Enquire, Board}
use Rattle.calls.specs.Applied.{list_after}
use Rattle.theorem.specs.Theorem.{Made, MeetsApply, given}
use Rattle.theorem.specs.Single.{answer_told, IsGranted, OfSome}
use Rattle.theorem.specs.Looked.{EnquiryTellsTheCharge, EnquiryChangesNothing, BoardCounts, BoardOfNoneLooksAtNone, BoardWritesStarts, BoardKeepsLaterPlaces, BoardChangesNothing}
use Rattle.theorem.proofs.Conditions.{some_map}
use Rattle.theorem.proofs.Places.{front_at, behind_at, written_length}
use Rattle.theorem.proofs.Single.{step_of, none_of, list_of, very_station}

-- What is told of a ticket

module _ (k t : ℕ) where
  abbrev Waits : Answer → Charge → Type 0
  Waits a c = (c.ticket ≡ t) × (k ≤ c.start) × (a ≡ waiting c.start c.rate)

  abbrev Charges : Answer → Charge → Type 0
  Charges a c = (c.ticket ≡ t) × (c.start < k) × (a ≡ charging c.start (c.start + c.time) c.rate)

  abbrev Tells : List Charge → Answer → Type 0
  Tells cs a =
      OfSome (Waits a) cs ⊎ (OfSome (Charges a) cs ⊎ (Each (λ c. c.ticket ≡ t → ⊥) cs × (a ≡ refused 15)))

  tells : (cs : List Charge) (a : Answer) → a ≡ rules.told k cs t → Tells cs a
  tells [] a e = inr (inr (tt, e))
  tells (c ∷ cs) a e = go (eqb c.ticket t) refl (is_begun k c) refl e (λ q. tells cs a q)
    where
      after : (c.ticket ≡ t → ⊥) → Tells cs a → Tells (c ∷ cs) a
      after n (inl w) = inl (inr w)
      after n (inr (inl w)) = inr (inl (inr w))
      after n (inr (inr w)) = inr (inr ((n, w.0), w.1))

      go :
          (x : Bool)
          → eqb c.ticket t ≡ x
          → (y : Bool)
          → is_begun k c ≡ y
          → a ≡ cond x (cond y (charging c.start (c.start + c.time) c.rate) (waiting c.start c.rate)) (rules.told k cs t)
          → (a ≡ rules.told k cs t → Tells cs a)
          → Tells (c ∷ cs) a
      go true p true q e later = inr (inl (inl (eqb-true c.ticket t p, ltb-true c.start k q, e)))
      go true p false q e later = inl (inl (eqb-true c.ticket t p, ltb-false c.start k q, e))
      go false p y q e later = after (eqb-false c.ticket t p) (later e)

-- an enquiry changes nothing
enquire_keeps : (s : State) (t : ℕ) → ((step s (enquire t)).state ≡ s) × ((step s (enquire t)).list ≡ [])
unfolding enquiring
enquire_keeps s t = go (first_of (refusals s (enquire t)))
  where
    go : (i : ℕ) → ((answering i s [] (enquiring s t)).state ≡ s) × ((answering i s [] (enquiring s t)).list ≡ [])
    go zero = (refl, refl)
    go (suc i) = (refl, refl)

pub enquiry_tells_the_charge : EnquiryTellsTheCharge
enquiry_tells_the_charge s m v meets ticket named =
    tells s.clock ticket (site_charges (view s)) (answer_told m)
    (ap (λ (r : Result). r.answer) (step_of s m v meets (Enquire ticket) named) ∙ enquiry_told (view s) ticket)

pub enquiry_changes_nothing : EnquiryChangesNothing
enquiry_changes_nothing s m v meets ticket named =
    let e = step_of s m v meets (Enquire ticket) named in
    let k = enquire_keeps (view s) ticket in (
      very_station s m v meets (ap (λ (r : Result). r.state) e ∙ k.0),
      list_of s m v meets (Enquire ticket) named (ap (λ (r : Result). r.list) e ∙ k.1),
    )

-- What is shown at the place of a ticket

shown_told :
    (k t w : ℕ) (cs : List Charge)
    → w ≡ shown_by (rules.told k cs t)
    → OfSome (λ c. (c.ticket ≡ t) × (w ≡ c.start)) cs ⊎ (Each (λ c. c.ticket ≡ t → ⊥) cs × (w ≡ 4294967295))
shown_told k t w cs e = go (tells k t cs (rules.told k cs t) refl)
  where
    go :
        Tells k t cs (rules.told k cs t)
        → OfSome (λ c. (c.ticket ≡ t) × (w ≡ c.start)) cs ⊎ (Each (λ c. c.ticket ≡ t → ⊥) cs × (w ≡ 4294967295))
    go (inl h) =
        inl (some_map (Waits k t (rules.told k cs t)) (λ c. (c.ticket ≡ t) × (w ≡ c.start))
        (λ c p. (p.0, e ∙ ap (λ (a : Answer). shown_by a) p.2)) cs h)
    go (inr (inl h)) =
        inl (some_map (Charges k t (rules.told k cs t)) (λ c. (c.ticket ≡ t) × (w ≡ c.start))
        (λ c p. (p.0, e ∙ ap (λ (a : Answer). shown_by a) p.2)) cs h)
    go (inr (inr h)) = inr (h.0, e ∙ ap (λ (a : Answer). shown_by a) h.1)

module _ (s : Station) (m : Made) (v : Valid s) (meets : MeetsApply s m) (named : m.call ≡ Board) where
  shows : BoardShown step (view s) m.numbers m.list (given m)
  shows =
      subst (λ r. BoardShown step (view s) m.numbers m.list r) (sym (step_of s m v meets Board named))
      ((valid_demand_two (view s) v.state).boards m.numbers m.list)

  -- what a board shows of a ticket
  abbrev shown : ℕ → ℕ
  shown t = shown_by (step (view s) (enquire t)).answer

  is_written : IsGranted m → m.written ≡ written (map shown m.numbers) m.list
  is_written free =
      sym (ap (λ c. list_after c m.numbers m.written) named) ∙ shows.shown (none_of s m v meets Board named free)

pub board_counts : BoardCounts
board_counts s m v meets named free =
    (shows s m v meets named).answer (none_of s m v meets Board named free)

-- no ticket is 0
tickets_low : (s : State) → ValidState s → Each (λ c. 1 ≤ c.ticket) (site_charges s)
tickets_low s v =
    each_joined (λ c. 1 ≤ c.ticket) s.feeders
    (by_place s (λ g. Each (λ c. 1 ≤ c.ticket) g.charges)
    (λ f h. each_in (λ c w. w.ticket_low) (charges_on s f) (v.plan f h).each))

none_up_to_zero : (cs : List Charge) → Each (λ c. 1 ≤ c.ticket) cs → keep (λ c. leb c.ticket 0) cs ≡ []
none_up_to_zero [] e = refl
none_up_to_zero (c ∷ cs) e = rw (lt-leb c.ticket 0 e.0, none_up_to_zero cs e.1)

pub board_of_none_looks_at_none : BoardOfNoneLooksAtNone
board_of_none_looks_at_none s m v meets named free empty =
    board_counts s m v meets named free
    ∙ ap (λ (asked : List ℕ). looked (length (keep (λ c. leb c.ticket (highest asked)) (site_charges (view s))))) empty
    ∙ ap (λ (cs : List Charge). looked (length cs)) (none_up_to_zero (site_charges (view s)) (tickets_low (view s) v.state))

pub board_writes_starts : BoardWritesStarts
board_writes_starts s m v meets named free place h =
    shown_told s.clock (get_or m.numbers place 0) (get_or m.written place 0) (site_charges (view s))
    (ap (λ (l : List ℕ). get_or l place 0) (is_written s m v meets named free)
    ∙ front_at (shown s m v meets named) m.numbers (drop (length (map (shown s m v meets named) m.numbers)) m.list) place h
    ∙ ap (λ (a : Answer). shown_by a) (enquiry_told (view s) (get_or m.numbers place 0)))

pub board_keeps_later_places : BoardKeepsLaterPlaces
board_keeps_later_places s m v meets named free =
    let e = is_written s m v meets named free in
    let long = map_length (shown s m v meets named) m.numbers in
    let none = none_of s m v meets Board named free in (
      ap (λ (l : List ℕ). length l) e
          ∙ written_length (map (shown s m v meets named) m.numbers) m.list
          (omega (arith, long, ltb-false (length m.list) (length m.numbers) none.1.0)),
      (λ place h.
          ap (λ (l : List ℕ). get_or l place 0) e
          ∙ behind_at (map (shown s m v meets named) m.numbers) m.list place (omega (arith, long))),
    )

pub board_changes_nothing : BoardChangesNothing
board_changes_nothing s m v meets named = very_station s m v meets (shows s m v meets named).same_station
