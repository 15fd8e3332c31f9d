-- The charges left on a line: where they stand in the list of places, when the round begins and after one is taken out.
use mathlib.Core.Logic.{◌⊎◌, inl, inr, ⊎_elim}
use mathlib.Core.Path.{◌≡◌, refl, sym, ◌∙◌, ap, subst}
use Prim.Native.Nat.{ℕ, ◌+◌, ◌-◌, ◌≤◌, ◌<◌}
use mathlib.Core.Bool.{true, false, not, true≢false}
use mathlib.Core.List.{List, map}
use native.Mathlib.Omega.{arith}
use lib.Dec.{eqb}
use lib.ListN.{length, get_or}
use lib.Seq.{take-length}
use borrow.Author.Tests.{eqb-true, eqb-false, ne_eqb, not-true}
use Rattle.std.specs.List.{remove, sum_by}
use Rattle.std.proofs.lemmas.List.Edits.{length-remove, get_or-remove_below, get_or-remove_above}
use Rattle.rules.specs.Site.{places}
use Rattle.rules.specs.Basics.{Each, tabulate, keep}
use Rattle.rules.specs.Charge.{Charge, latest_start_before}
use Rattle.rules.specs.Priority.{Crowd, total_time, without_ticket}
use Rattle.rules.specs.Replan.{by_latest_start, of_line}
use Rattle.rules.proofs.Ranges.{below_or_not}
use Rattle.rules.proofs.Lists.{map_tabulate, length_tabulate, length_keep, each_keep, each_tabulate}
use Rattle.rules.proofs.ThenTicket.{ThenTicket, ticket_decides, ticket_by_number, ticket_by_ticket}
use Rattle.rules.proofs.LatestStarts.{latest_start_sums, latest_start_ordering}
use Rattle.rules.proofs.Sorting.{Rearranged, rearranged_length, sorted_rearranged, sorted_sorted}
use Rattle.rules.proofs.Picking.{Among, among_keep}
use Rattle.charges.specs.declared.Charges.{Charges}
use Rattle.charges.specs.Arrays.{charge_at}
use Rattle.charges.specs.Held.{Listed}
use Rattle.queues.specs.Queues.{is_on_line, Ordered}
use Rattle.charges.proofs.Members.{each_place, map_keep}
use Rattle.charges.proofs.Words.{take_is}
use Rattle.queues.proofs.EveryTwo.{two_tabulate, two_keep, two_places}
use Rattle.priority.specs.declared.crowd.Crowd as code
use Rattle.planner.proofs.Queueing.{places_apart}
use Rattle.lines.proofs.Rearranging.{among_kept, among_passes, among_to, among_back, keep_rearranged, rearranged_total, total_listed, among_place, PlaceOf, place_among}

-- the j-th charge left
abbrev pub left_at : Charges → List ℕ → ℕ → Charge
left_at c left j = charge_at c (get_or left j 0)

-- a crowd of the code, as the rules have it
abbrev pub crowd_in : code.Crowd → Crowd
crowd_in q = record { number = q.number; total = q.total }

-- the places are those of the charges left, by latest start, then ticket
pub record AreLeft (c : Charges) (line : ℕ) (left : List ℕ) (rest : List Charge) : Type 0 where
  pub few : length left ≤ places
  pub inside : (j : ℕ) → j < length left → get_or left j 0 < c.held
  pub on_line : (j : ℕ) → j < length left → (left_at c left j).line ≡ line
  pub sorted : (i j : ℕ) → i < j → j < length left → latest_start_before (left_at c left i) (left_at c left j) ≡ true
  pub to : (j : ℕ) → j < length left → Among (left_at c left j) rest
  pub from : (x : Charge) → Among x rest → PlaceOf (left_at c left) (length left) x

-- of two different charges the one that is not after comes before
before_other : (a b : Charge) → latest_start_before b a ≡ false → (a.ticket ≡ b.ticket → ⊥) → latest_start_before a b ≡ true
before_other a b e other =
    go (ticket_decides (a.due + b.time) (b.due + a.time) a b (rw (latest_start_sums b a) at e) other)
  where
    go : ThenTicket (a.due + b.time) (b.due + a.time) a b → latest_start_before a b ≡ true
    go (inl h) = rw (latest_start_sums a b) (ticket_by_number (a.due + b.time) (b.due + a.time) a b h)
    go (inr h) = rw (latest_start_sums a b) (ticket_by_ticket (a.due + b.time) (b.due + a.time) a b h.0 h.1)

-- a list of places, place by place
by_place : (xs : List ℕ) → tabulate (λ j. get_or xs j 0) (length xs) 0 ≡ xs
by_place xs = sym (take_is xs (length xs) (omega arith)) ∙ take-length xs

-- When the round begins

module _ {c : Charges} (line : ℕ) (ws : List Charge) {queue own : List ℕ} (h : Listed c) (o : Ordered c (by_latest_start ws) queue)
    (is : own ≡ keep (is_on_line c.lines line) queue) where
  own_charges_listed : map (charge_at c) own ≡ of_line line (by_latest_start ws)
  own_charges_listed =
      ap (map (charge_at c)) is
      ∙ map_keep (charge_at c) (λ x. eqb x.line line) queue
      ∙ ap (keep (λ x. eqb x.line line)) o.charges

  own_charges : tabulate (left_at c own) (length own) 0 ≡ of_line line (by_latest_start ws)
  own_charges =
      sym (map_tabulate (charge_at c) (λ j. get_or own j 0) (length own) 0)
      ∙ ap (map (charge_at c)) (by_place own)
      ∙ own_charges_listed

  own_order : Rearranged (of_line line ws) (of_line line (by_latest_start ws))
  own_order = keep_rearranged (λ x. eqb x.line line) (sorted_rearranged latest_start_before ws)

  pub own_length : length own ≡ length (of_line line ws)
  own_length =
      sym (length_tabulate (left_at c own) (length own) 0) ∙ ap length own_charges ∙ rearranged_length own_order

  pub own_total : sum_by (λ i. (charge_at c i).time) own ≡ total_time (of_line line ws)
  own_total = total_listed (charge_at c) own ∙ ap total_time own_charges_listed ∙ rearranged_total own_order

  own_places : Each (λ i. (i < c.held) × (is_on_line c.lines line i ≡ true)) own
  own_places =
      rw is
      (each_keep (λ i. i < c.held) (is_on_line c.lines line) queue
      (rw (← by_place queue)
      (each_tabulate (λ i. i < c.held) (λ j. get_or queue j 0) (length queue) 0 (λ i a b. o.places.inside i (omega arith)))))

  own_place : (j : ℕ) → j < length own → (get_or own j 0 < c.held) × (is_on_line c.lines line (get_or own j 0) ≡ true)
  own_place = each_place (λ i. (i < c.held) × (is_on_line c.lines line i ≡ true)) (λ j. get_or own j 0) (length own) (rw (by_place own) own_places)

  own_apart : (i j : ℕ) → i < j → j < length own → get_or own i 0 ≡ get_or own j 0 → ⊥
  own_apart =
      two_places (λ i j. i ≡ j → ⊥) (λ j. get_or own j 0) (length own)
      (rw (by_place own, is)
      (two_keep (λ i j. i ≡ j → ⊥) (is_on_line c.lines line) queue
      (rw (← by_place queue)
      (two_tabulate (λ i j. i ≡ j → ⊥) (λ j. get_or queue j 0) (length queue) 0 (λ i j a b d. o.places.apart i j b (omega arith))))))

  own_sorted : (i j : ℕ) → i < j → j < length own → latest_start_before (left_at c own j) (left_at c own i) ≡ false
  own_sorted =
      two_places (λ a b. latest_start_before b a ≡ false) (left_at c own) (length own)
      (rw own_charges
      (two_keep (λ a b. latest_start_before b a ≡ false) (λ x. eqb x.line line) (by_latest_start ws)
      (sorted_sorted latest_start_before latest_start_ordering ws)))

  pub left_start : AreLeft c line own (of_line line ws)
  left_start =
      record {
        few = own_few;
        inside = λ j b. (own_place j b).0;
        on_line = λ j b. eqb-true (left_at c own j).line line (own_place j b).1;
        sorted = λ i j a b.
            before_other (left_at c own i) (left_at c own j) (own_sorted i j a b)
            (places_apart h (get_or own i 0) (get_or own j 0) (own_place i (omega arith)).0 (own_place j b).0 (own_apart i j a b));
        to = λ j b.
            among_back own_order (subst (Among (left_at c own j)) own_charges (among_place (left_at c own) (length own) j b));
        from = λ x m. place_among (left_at c own) (length own) (subst (Among x) (sym own_charges) (among_to own_order m));
      }
    where
      own_few : length own ≤ places
      own_few = omega (arith, ap length is, length_keep (is_on_line c.lines line) queue, o.places.few, c.few)

-- After one is taken out

module _ {c : Charges} {line : ℕ} {left : List ℕ} {rest : List Charge} (h : Listed c) (v : AreLeft c line left rest) where
  pub left_apart : (i j : ℕ) → i < length left → j < length left → (i ≡ j → ⊥) → get_or left i 0 ≡ get_or left j 0 → ⊥
  left_apart i j a b ne e = go (below_or_not i j) (below_or_not j i)
    where
      itself : (x y : Charge) → x ≡ y → latest_start_before x y ≡ true → ⊥
      itself x y s t = true≢false (sym t ∙ rw (← s) (latest_start_ordering.one_way x x (rw (← s) at t)))

      go : (i < j) ⊎ (j ≤ i) → (j < i) ⊎ (i ≤ j) → ⊥
      go (inl l) m = itself (left_at c left i) (left_at c left j) (ap (charge_at c) e) (v.sorted i j l b)
      go (inr l) (inl m) = itself (left_at c left j) (left_at c left i) (ap (charge_at c) (sym e)) (v.sorted j i m a)
      go (inr l) (inr m) = ne (omega arith)

  pub left_tickets : (i j : ℕ) → i < length left → j < length left → (i ≡ j → ⊥) → (left_at c left i).ticket ≡ (left_at c left j).ticket → ⊥
  left_tickets i j a b ne =
      places_apart h (get_or left i 0) (get_or left j 0) (v.inside i a) (v.inside j b) (left_apart i j a b ne)

  module _ {r : ℕ} (low : r < length left) where
    -- where the k-th stood before
    pub record Stood (k : ℕ) : Type 0 where
      pub old : ℕ
      pub inside : old < length left
      pub other : old ≡ r → ⊥
      pub same : get_or (remove left r) k 0 ≡ get_or left old 0
      pub where_it_was : ((k < r) × (old ≡ k)) ⊎ ((r ≤ k) × (old ≡ k + 1))

    pub stood : (k : ℕ) → k < length (remove left r) → Stood k
    stood k b =
        ⊎_elim
        (λ l.
        record {
          old = k;
          inside = omega (arith, length-remove left r low);
          other = λ e. omega arith;
          same = get_or-remove_below left r 0 k l low;
          where_it_was = inl (l, refl);
        })
        (λ l.
        record {
          old = k + 1;
          inside = omega (arith, length-remove left r low);
          other = λ e. omega arith;
          same = get_or-remove_above left r 0 k l low;
          where_it_was = inr (l, refl);
        })
        (below_or_not k r)

    stood_order : (i j : ℕ) → i < j → (a : Stood i) (b : Stood j) → a.old < b.old
    stood_order i j l a b = omega (arith, a.where_it_was, b.where_it_was)

    stays :
        (x : Charge) → PlaceOf (left_at c left) (length left) x → (x.ticket ≡ (left_at c left r).ticket → ⊥)
        → PlaceOf (left_at c (remove left r)) (length (remove left r)) x
    stays x p ne = go (below_or_not p.place r) (below_or_not r p.place)
      where
        go :
            (p.place < r) ⊎ (r ≤ p.place) → (r < p.place) ⊎ (p.place ≤ r)
            → PlaceOf (left_at c (remove left r)) (length (remove left r)) x
        go (inl l) k =
            record {
              place = p.place;
              inside = omega (arith, length-remove left r low);
              is = p.is ∙ ap (charge_at c) (sym (get_or-remove_below left r 0 p.place l low));
            }
        go (inr l) (inl k) =
            let e : p.place - 1 + 1 ≡ p.place = omega arith in
            record {
              place = p.place - 1;
              inside = omega (arith, p.inside, length-remove left r low);
              is =
                  p.is
                  ∙ ap (charge_at c)
                  (sym (get_or-remove_above left r 0 (p.place - 1) (omega arith) low ∙ ap (λ (y : ℕ). get_or left y 0) e));
            }
        go (inr l) (inr k) =
            let e : p.place ≡ r = omega arith in
            absurd (ne (ap (λ (y : Charge). y.ticket) p.is ∙ ap (λ (y : ℕ). (left_at c left y).ticket) e))

    pub left_next : AreLeft c line (remove left r) (without_ticket (left_at c left r).ticket rest)
    left_next =
        record {
          few = omega (arith, v.few, length-remove left r low);
          inside = λ j b. let s = stood j b in rw s.same (v.inside s.old s.inside);
          on_line = λ j b. let s = stood j b in rw s.same (v.on_line s.old s.inside);
          sorted = λ i j a b.
              let s = stood i (omega arith) in
              let t = stood j b in
              rw (s.same, t.same) (v.sorted s.old t.old (stood_order i j a s t) t.inside);
          to = λ j b.
              let s = stood j b in
              rw s.same
              (among_kept (λ x. not (eqb x.ticket (left_at c left r).ticket)) (v.to s.old s.inside)
              (rw (ne_eqb (left_at c left s.old).ticket (left_at c left r).ticket (left_tickets s.old r s.inside low s.other)) refl));
          from = λ x k.
              stays x (v.from x (among_keep (λ y. not (eqb y.ticket (left_at c left r).ticket)) x rest k))
              (eqb-false x.ticket (left_at c left r).ticket (not-true (eqb x.ticket (left_at c left r).ticket) (kept x k)));
        }
      where
        kept : (x : Charge) → Among x (without_ticket (left_at c left r).ticket rest) → not (eqb x.ticket (left_at c left r).ticket) ≡ true
        kept x k = among_passes (λ y. not (eqb y.ticket (left_at c left r).ticket)) rest k
