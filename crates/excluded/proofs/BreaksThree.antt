-- For each field of demand 3 there is a station that breaks it on a list of calls, and no other field.
use mathlib.Core.Path.{◌≡◌, refl, sym, subst, ◌∙◌}
use mathlib.Core.Bool.{Bool, true, false, not, cond, ◌||◌}
use mathlib.Core.List.{List, [], ◌∷◌, map}
use Prim.Native.Nat.{ℕ}
use native.Mathlib.Omega.{arith}
use borrow.Author.Tests.{not-true}
use Rattle.rules.specs.Basics.{Each, keep, some}
use Rattle.rules.specs.Load.{limited, within_site, balanced, sound}
use Rattle.rules.specs.Search.{earliest}
use Rattle.rules.specs.Replan.{place_all, latest}
use Rattle.rules.specs.Judgement.{judged}
use Rattle.rules.specs.Charge.{Charge, is_waiting, waiting_charges, has_ticket}
use Rattle.rules.specs.Site.{Feeder, with_charges, joined}
use Rattle.rules.specs.Calls.{refused, waiting, opening, previewing, committing, moving, offering, replanning_latest, enquiring, boarding, withdrawing, step}
use Rattle.rules.proofs.Ranges.{and_left, and_right, or_left, or_right}
use Rattle.rules.proofs.Lists.{each_append, each_map, some_append}
use Rattle.guarantee.specs.DemandThree.{DemandThree}
use Rattle.guarantee.proofs.DemandThree.{demand_three}
use Rattle.guarantee.proofs.Each.{each_image}
use Rattle.excluded.specs.Same.{every}
use Rattle.excluded.specs.Breaks.{Exactly}
use Rattle.excluded.specs.FieldsThree.{Field, no_other_found, fields}
use Rattle.excluded.specs.TestsThree.{by_charges, RefusesOthers}
use Rattle.excluded.specs.BreaksThree.{Trial, HoldsOf, test_of, agrees, Breach, one, to, stranger, wrong_entries, asked_for, is_opened, by_rules, all_wrong}
use Rattle.excluded.specs.WrongMoves.{stranger_held}
use Rattle.excluded.specs.LawsOfEntries.{EntriesOfListsAgree, RulesBreakNone, ExactlyTheseOfLists, EachAloneOfLists}
use Rattle.excluded.proofs.Tests.{is_true, every_tests, not_tests}
use Rattle.excluded.proofs.Same.{same_state_lem}
use Rattle.excluded.proofs.FieldsThree.{three_fields}
use Rattle.excluded.proofs.TestsThree.{three_tested, charges_only, found_tested}

-- the checker computes every test on every list
pub entries_hold : EntriesOfListsAgree
unfolding limited within_site balanced sound earliest place_all latest judged opening previewing committing moving offering replanning_latest enquiring boarding withdrawing
entries_hold = refl

first_opened : every (λ (e : Breach). is_opened e.thing.first) all_wrong ≡ true
unfolding opening
first_opened = refl

-- Enquiries: each of these stations refuses one where no charge has the ticket

refuses_so : RefusesOthers step
refuses_so s t e = rw e

kept_none : (f : Charge → Bool) (t : ℕ) (cs : List Charge) → some (has_ticket t) cs ≡ false → some (has_ticket t) (keep f cs) ≡ false
kept_none f t [] e = refl
kept_none f t (c ∷ cs) e =
    go (f c) (or_left (has_ticket t c) (some (has_ticket t) cs) e) (kept_none f t cs (or_right (has_ticket t c) (some (has_ticket t) cs) e))
  where
    go :
        (b : Bool)
        → has_ticket t c ≡ false
        → some (has_ticket t) (keep f cs) ≡ false
        → some (has_ticket t) (cond b (c ∷ keep f cs) (keep f cs)) ≡ false
    go true q rest = rw (q, rest)
    go false q rest = rest

joined_none :
    (k t : ℕ) (gs : List Feeder)
    → some (has_ticket t) (joined gs) ≡ false
    → some (has_ticket t) (joined (map (λ g. with_charges g (waiting_charges k g.charges)) gs)) ≡ false
joined_none k t [] e = refl
joined_none k t (g ∷ gs) e =
    let whole : some (has_ticket t) g.charges || some (has_ticket t) (joined gs) ≡ false =
    sym (some_append (has_ticket t) g.charges (joined gs)) ∙ e in
    let left : List Charge = joined (map (λ g. with_charges g (waiting_charges k g.charges)) gs) in
    some_append (has_ticket t) (waiting_charges k g.charges) left
    ∙ rw (
      kept_none (is_waiting k) t g.charges (or_left (some (has_ticket t) g.charges) (some (has_ticket t) (joined gs)) whole),
      joined_none k t gs (or_right (some (has_ticket t) g.charges) (some (has_ticket t) (joined gs)) whole),
    )

refuses_all : Each (λ (e : Breach). RefusesOthers e.thing.gives) all_wrong
refuses_all = (
  refuses_so,
  (
    refuses_so,
    (
      refuses_so,
      (
        refuses_so,
        (
          refuses_so,
          (
            refuses_so,
            (
              refuses_so,
              (
                refuses_so,
                (
                  refuses_so,
                  (
                    refuses_so,
                    (
                      refuses_so,
                      (
                        refuses_so,
                        (
                          refuses_so,
                          (
                            refuses_so,
                            (
                              refuses_so,
                              (
                                refuses_so,
                                (
                                  refuses_so,
                                  (
                                    refuses_so,
                                    (
                                      refuses_so,
                                      (
                                        (λ s t e. rw e),
                                        (
                                          refuses_so,
                                          (
                                            (λ s t e. rw e),
                                            (
                                              refuses_so,
                                              (
                                                refuses_so,
                                                (
                                                  refuses_so,
                                                  (
                                                    (λ s t e. rw e),
                                                    (
                                                      refuses_so,
                                                      (
                                                        refuses_so,
                                                        (
                                                          refuses_so,
                                                          (
                                                            refuses_so,
                                                            (
                                                              refuses_so,
                                                              (
                                                                refuses_so,
                                                                (
                                                                  refuses_so,
                                                                  (
                                                                    (λ s t e. rw e),
                                                                    (
                                                                      (λ s t e. rw (joined_none s.clock t s.feeders e)),
                                                                      (
                                                                        (λ s t e. rw e),
                                                                        (
                                                                          (λ s t e. rw e),
                                                                          (
                                                                            refuses_so,
                                                                            (
                                                                              refuses_so,
                                                                              (
                                                                                refuses_so,
                                                                                (
                                                                                  refuses_so,
                                                                                  (
                                                                                    refuses_so,
                                                                                    (
                                                                                      refuses_so,
                                                                                      tt,
                                                                                    ),
                                                                                  ),
                                                                                ),
                                                                              ),
                                                                            ),
                                                                          ),
                                                                        ),
                                                                      ),
                                                                    ),
                                                                  ),
                                                                ),
                                                              ),
                                                            ),
                                                          ),
                                                        ),
                                                      ),
                                                    ),
                                                  ),
                                                ),
                                              ),
                                            ),
                                          ),
                                        ),
                                      ),
                                    ),
                                  ),
                                ),
                              ),
                            ),
                          ),
                        ),
                      ),
                    ),
                  ),
                ),
              ),
            ),
          ),
        ),
      ),
    ),
  ),
)

-- What the tests tell of an entry

module _ (r : Trial) where
  holds_so : (f : Field) → RefusesOthers r.gives → test_of r f ≡ true → HoldsOf r f
  holds_so f refuses e = go (by_charges f) refl
    where
      go : (b : Bool) → by_charges f ≡ b → HoldsOf r f
      go true q =
          let same : f ≡ no_other_found = charges_only f q in
          subst (λ g. HoldsOf r g) (sym same)
          (found_tested r.gives r.first r.calls refuses (subst (λ g. test_of r g ≡ true) same e))
      go false q = (three_tested r.gives r.first r.calls f q).0 e

  kept_so : (l : List Field) → RefusesOthers r.gives → every (test_of r) l ≡ true → Each (HoldsOf r) l
  kept_so [] refuses e = tt
  kept_so (f ∷ l) refuses e = (
    holds_so f refuses (and_left (test_of r f) (every (test_of r) l) e),
    kept_so l refuses (and_right (test_of r f) (every (test_of r) l) e),
  )

  broken_so :
      (l : List Field)
      → every (λ f. not (by_charges f)) l ≡ true
      → every (λ f. not (test_of r f)) l ≡ true
      → Each (λ f. HoldsOf r f → ⊥) l
  broken_so [] p e = tt
  broken_so (f ∷ l) p e =
      let other : by_charges f ≡ false = not-true (by_charges f) (and_left (not (by_charges f)) (every (λ f. not (by_charges f)) l) p) in (
        (not_tests (three_tested r.gives r.first r.calls f other)).0 (and_left (not (test_of r f)) (every (λ f. not (test_of r f)) l) e),
        broken_so l (and_right (not (by_charges f)) (every (λ f. not (by_charges f)) l) p)
            (and_right (not (test_of r f)) (every (λ f. not (test_of r f)) l) e),
      )

abbrev names_others : Breach → Bool
names_others e = every (λ f. not (by_charges f)) e.broken

entry_exactly :
    (e : Breach) → RefusesOthers e.thing.gives → names_others e ≡ true → agrees e ≡ true → Exactly Trial Field HoldsOf e
entry_exactly e refuses p q =
    let broken : Bool = every (λ f. not (test_of e.thing f)) e.broken in
    let kept : Bool = every (test_of e.thing) e.kept in
    record {
      breaks = broken_so e.thing e.broken p (and_left broken kept q);
      keeps = kept_so e.thing e.kept refuses (and_right broken kept q);
    }

each_entry :
    (es : List Breach)
    → Each (λ (e : Breach). RefusesOthers e.thing.gives) es
    → every names_others es ≡ true
    → every agrees es ≡ true
    → Each (Exactly Trial Field HoldsOf) es
each_entry [] r p q = tt
each_entry (e ∷ es) r p q = (
  entry_exactly e r.0 (and_left (names_others e) (every names_others es) p) (and_left (agrees e) (every agrees es) q),
  each_entry es r.1 (and_right (names_others e) (every names_others es) p) (and_right (agrees e) (every agrees es) q),
)

none_named : every names_others wrong_entries ≡ true
none_named = refl

-- a charge is found that no order has
stranger_found : HoldsOf (record { gives = stranger_held; first = one; calls = to 1 ∷ [] }) no_other_found → ⊥
unfolding opening enquiring
stranger_found d =
    let h : waiting 1 1 ≡ refused 15 = d 65536 refl in
    let z : ◌≡◌ {A = ℕ} 0 1 = cc in
    omega arith

stranger_exactly : agrees stranger ≡ true → Exactly Trial Field HoldsOf stranger
stranger_exactly q =
    record {
      breaks = (stranger_found, tt);
      keeps = kept_so stranger.thing stranger.kept refuses_so
          (and_right (every (λ f. not (test_of stranger.thing f)) stranger.broken) (every (test_of stranger.thing) stranger.kept) q);
    }

each_of : {A : Type 0} (P : A → Type 0) → ((a : A) → P a) → (l : List A) → Each P l
each_of P h [] = tt
each_of P h (a ∷ l) = (h a, each_of P h l)

-- the rules break no field, on any list of calls: that is demand 3 of them
pub rules_exactly : RulesBreakNone
rules_exactly s calls e =
    let d : DemandThree step s calls =
    subst (λ t. DemandThree step t calls) ((same_state_lem (opening (asked_for s)).state s).0 e) (demand_three (asked_for s) calls) in
    let holds = (three_fields step s calls).0 d in
    record { breaks = tt; keeps = each_of (HoldsOf (record { gives = step; first = s; calls = calls })) holds fields }

-- so each wrong station breaks the fields that its entry names, and no other, and the rules break none
pub exactly_three : ExactlyTheseOfLists
exactly_three =
    each_append (Exactly Trial Field HoldsOf) all_wrong (map by_rules all_wrong) (
      stranger_exactly (and_left (agrees stranger) (every agrees wrong_entries) entries_hold),
      each_entry wrong_entries refuses_all.1 none_named (and_right (agrees stranger) (every agrees wrong_entries) entries_hold),
    )
    (each_image (Exactly Trial Field HoldsOf) by_rules all_wrong
    (each_map (λ (e : Breach). is_opened e.thing.first ≡ true) (λ e. Exactly Trial Field HoldsOf (by_rules e))
    (λ e q. rules_exactly e.thing.first e.thing.calls q) all_wrong
    ((every_tests (λ (e : Breach). is_true (is_opened e.thing.first)) all_wrong).0 first_opened)))

-- `begun_moved` breaks several fields; each field is broken alone by another station
pub alone_three : EachAloneOfLists
alone_three = refl
