-- What the board shows is what enquiries say.
use mathlib.Core.Path.{◌≡◌, refl, sym, ap, ◌∙◌}
use Prim.Native.Nat.{ℕ, zero, suc, max, ◌≤◌}
use mathlib.Core.Bool.{Bool, true, false, ◌||◌}
use mathlib.Core.List.{List, [], ◌∷◌, map}
use native.Mathlib.Omega.{arith}
use lib.Dec.{leb, eqb}
use lib.ListN.{get_or}
use borrow.Author.Tests.{leb-true, leb-false, le-leb, lt-leb}
use Rattle.rules.specs.Basics.{keep, some, Each, first_of}
use Rattle.rules.specs.Charge.{Charge, is_begun}
use Rattle.rules.specs.Site.{State, charges_on, site_charges}
use Rattle.rules.specs.Calls.{answering, board, enquire, refusals, told, written, start_or_not_held, is_looked_at, boarding, step}
use Rattle.rules.specs.Valid.{ValidState}
use Rattle.rules.proofs.Ranges.{same_test}
use Rattle.rules.proofs.Tables.{none_first_of}
use Rattle.rules.proofs.OnTheBoard.{place_shown}
use Rattle.rules.proofs.Sites.{by_place}
use Rattle.rules.proofs.Distinct.{each_joined}
use Rattle.guarantee.specs.DemandTwo.{shown_by, highest, BoardShown}
use Rattle.guarantee.specs.Follows.{BoardsShowEnquiries}
use Rattle.guarantee.proofs.Each.{each_in}
use Rattle.guarantee.proofs.Enquiries.{enquiry_told}

-- The places

told_shows : (k t : ℕ) (cs : List Charge) → start_or_not_held cs t ≡ shown_by (told k cs t)
told_shows k t [] = refl
told_shows k t (c ∷ cs) = go (eqb c.ticket t) (is_begun k c) refl refl (told_shows k t cs)
  where
    go :
        (a b : Bool)
        → eqb c.ticket t ≡ a
        → is_begun k c ≡ b
        → start_or_not_held cs t ≡ shown_by (told k cs t)
        → start_or_not_held (c ∷ cs) t ≡ shown_by (told k (c ∷ cs) t)
    go true true p q later = rw (p, q)
    go true false p q later = rw (p, q)
    go false b p q later = rw p later

map_same : (f g : ℕ → ℕ) → ((t : ℕ) → f t ≡ g t) → (l : List ℕ) → map f l ≡ map g l
map_same f g h [] = refl
map_same f g h (t ∷ l) = rw (h t, map_same f g h l)

-- The number looked at

-- a ticket is not above one of those asked exactly when it is not above the highest of them
some_highest : (t : ℕ) (asked : List ℕ) → 1 ≤ t → some (leb t) asked ≡ leb t (highest asked)
some_highest t [] h = sym (lt-leb t 0 h)
some_highest t (a ∷ asked) h = go (leb t a) refl (some_highest t asked h)
  where
    go :
        (b : Bool)
        → leb t a ≡ b
        → some (leb t) asked ≡ leb t (highest asked)
        → b || some (leb t) asked ≡ leb t (max a (highest asked))
    go true p later = sym (le-leb t (max a (highest asked)) (omega (arith, leb-true t a p)))
    go false p later =
        later
        ∙ same_test (leb t (highest asked)) (leb t (max a (highest asked)))
        (λ e. le-leb t (max a (highest asked)) (omega (arith, leb-true t (highest asked) e)))
        (λ e. le-leb t (highest asked) (omega (arith, leb-true t (max a (highest asked)) e, leb-false t a p)))

looked_highest :
    (asked : List ℕ) (cs : List Charge)
    → Each (λ c. 1 ≤ c.ticket) cs
    → keep (is_looked_at asked) cs ≡ keep (λ c. leb c.ticket (highest asked)) cs
looked_highest asked [] e = refl
looked_highest asked (c ∷ cs) e = rw (some_highest c.ticket asked e.0, looked_highest asked cs e.1)

-- A board

-- what stands at the place of a ticket is what an enquiry of it says
pub place_enquired : BoardsShowEnquiries
place_enquired s asked list i q h =
    rw (none_first_of (refusals s (board asked list)) q)
    (place_shown s asked list i h
    ∙ told_shows s.clock (get_or asked i 0) (site_charges s)
    ∙ sym (ap shown_by (enquiry_told s (get_or asked i 0))))

pub board_shown : (s : State) (asked list : List ℕ) → ValidState s → BoardShown step s asked list (step s (board asked list))
unfolding boarding
board_shown s asked list v =
    record {
      answer = λ q. rw (none_first_of (refusals s (board asked list)) q, looked_highest asked (site_charges s) tickets);
      shown =
          λ q.
          rw (none_first_of (refusals s (board asked list)) q)
          (ap (λ xs. written xs list)
          (map_same (start_or_not_held (site_charges s)) (λ t. shown_by (step s (enquire t)).answer)
          (λ t. told_shows s.clock t (site_charges s) ∙ sym (ap shown_by (enquiry_told s t))) asked));
      same_station = stays (first_of (refusals s (board asked list)));
    }
  where
    tickets : Each (λ c. 1 ≤ c.ticket) (site_charges s)
    tickets =
        each_joined (λ c. 1 ≤ c.ticket) s.feeders
        (by_place s (λ g. Each (λ c. 1 ≤ c.ticket) g.charges)
        (λ f h. each_in (λ c w. w.ticket_low) (charges_on s f) (v.plan f h).each))

    stays : (i : ℕ) → (answering i s list (boarding s asked list)).state ≡ s
    stays zero = refl
    stays (suc i) = refl
