-- The charge that is taken comes before all others: no other has a larger weight/p, nor an equal one and a smaller d − p,
-- nor equal ones and a smaller ticket.
use mathlib.Core.Path.{◌≡◌, refl, sym, subst}
use Prim.Native.Nat.{ℕ, ◌+◌, ◌*◌, ◌≤◌}
use mathlib.Core.Bool.{Bool, true, false, ◌&&◌, true≢false}
use mathlib.Core.List.{List, [], ◌∷◌}
use native.Mathlib.Omega.{arith}
use native.Mathlib.Nat.{mul-le-mul_right, le_of_mul-le-mul_right, mul_right_comm}
use lib.Dec.{ltb, eqb}
use borrow.Author.Tests.{ltb-true, ltb-false, le-ltb, eqb-true, eq-eqb}
use Rattle.rules.specs.Basics.{Each}
use Rattle.rules.specs.Charge.{Charge, then_ticket, latest_start_before}
use Rattle.rules.specs.Priority.{Crowd, urgency, heavier, taken_before, chosen, foremost}
use Rattle.rules.proofs.Ranges.{or_left, or_right}
use Rattle.rules.proofs.Picking.{Taken, taken_one}
use Rattle.rules.proofs.ThenTicket.{ticket_false}
use Rattle.rules.proofs.LatestStarts.{latest_start_sums, latest_start_ordering}

-- weights over times, compared by products

pub ratio_onwards :
    (ux tx ud td uc tc : ℕ) → 1 ≤ td → ux * td ≤ ud * tx → ud * tc ≤ uc * td → ux * tc ≤ uc * tx
ratio_onwards ux tx ud td uc tc h p q =
    let first : ux * td * tc ≤ ud * tx * tc = mul-le-mul_right tc p in
    let second : ud * tc * tx ≤ uc * td * tx = mul-le-mul_right tx q in
    let whole : ux * tc * td ≤ uc * tx * td
    = omega (
      arith,
      first,
      second,
      mul_right_comm ux tc td,
      mul_right_comm ud tx tc,
      mul_right_comm uc td tx,
    ) in
    le_of_mul-le-mul_right {m = ux * tc} {n = uc * tx} {k = td} whole h

-- One charge is not before another

record NotBefore (u v : ℕ) (a b : Charge) : Type 0 where
  ratio : u * b.time ≤ v * a.time
  then : u * b.time ≡ v * a.time → latest_start_before a b ≡ false

not-before : (u v : ℕ) (a b : Charge) → heavier u v a b ≡ false → NotBefore u v a b
not-before u v a b e =
    record {
      ratio = ltb-false (v * a.time) (u * b.time) (or_left (ltb (v * a.time) (u * b.time)) rest e);
      then = λ q. rw (eq-eqb (u * b.time) (v * a.time) q) at (or_right (ltb (v * a.time) (u * b.time)) rest e);
    }
  where
    rest : Bool
    rest = eqb (u * b.time) (v * a.time) && latest_start_before a b

before_not : (u v : ℕ) (a b : Charge) → NotBefore u v a b → heavier u v a b ≡ false
before_not u v a b n =
    rw (le-ltb (v * a.time) (u * b.time) n.ratio) (go (eqb (u * b.time) (v * a.time)) refl)
  where
    go : (t : Bool) → eqb (u * b.time) (v * a.time) ≡ t → t && latest_start_before a b ≡ false
    go true e = n.then (eqb-true (u * b.time) (v * a.time) e)
    go false e = refl

-- d − p, then ticket: what is not before the middle one is not before the last

record NotEarlier (a b : Charge) : Type 0 where
  number : b.due + a.time ≤ a.due + b.time
  ticket : a.due + b.time ≡ b.due + a.time → b.ticket ≤ a.ticket

not_earlier : (a b : Charge) → latest_start_before a b ≡ false → NotEarlier a b
not_earlier a b e =
    let x : ℕ = a.due + b.time in
    let y : ℕ = b.due + a.time in
    let f : then_ticket x y a b ≡ false = rw (latest_start_sums a b) at e in
    record {
      number = ltb-false x y (or_left (ltb x y) (eqb x y && ltb a.ticket b.ticket) f);
      ticket =
          λ q.
          ltb-false a.ticket b.ticket
          (rw (eq-eqb x y q) at (or_right (ltb x y) (eqb x y && ltb a.ticket b.ticket) f));
    }

earlier_not : (a b : Charge) → NotEarlier a b → latest_start_before a b ≡ false
earlier_not a b n =
    rw (latest_start_sums a b) (ticket_false (a.due + b.time) (b.due + a.time) a b n.number n.ticket)

earlier_onwards :
    (x d c : Charge) → latest_start_before x d ≡ false → latest_start_before d c ≡ false → latest_start_before x c ≡ false
earlier_onwards x d c p q = go (not_earlier x d p) (not_earlier d c q)
  where
    go : NotEarlier x d → NotEarlier d c → latest_start_before x c ≡ false
    go m n =
        earlier_not x c
        (record {
          number = omega (arith, m.number, n.number);
          ticket =
              λ e.
              omega (
                arith,
                m.ticket (omega (arith, m.number, n.number)),
                n.ticket (omega (arith, m.number, n.number)),
              );
        })

-- The order of priority

both :
    (P Q R : Charge → Type 0)
    → ((x : Charge) → P x → Q x → R x)
    → (l : List Charge)
    → Each P l
    → Each Q l
    → Each R l
both P Q R f [] p q = tt
both P Q R f (x ∷ l) p q = (f x p.0 q.0, both P Q R f l p.1 q.1)

module _ (q : Crowd) (s : ℕ) where
  not_onwards :
      (x d c : Charge)
      → 1 ≤ x.time
      → 1 ≤ d.time
      → 1 ≤ c.time
      → taken_before q s x d ≡ false
      → taken_before q s d c ≡ false
      → taken_before q s x c ≡ false
  not_onwards x d c hx hd hc p r =
      go (urgency q s x) (urgency q s d) (urgency q s c)
      (not-before (urgency q s x) (urgency q s d) x d p)
      (not-before (urgency q s d) (urgency q s c) d c r)
    where
      go : (ux ud uc : ℕ) → NotBefore ux ud x d → NotBefore ud uc d c → heavier ux uc x c ≡ false
      go ux ud uc m n =
          before_not ux uc x c
          (record {
            ratio = ratio_onwards ux x.time ud d.time uc c.time hd m.ratio n.ratio;
            then =
                λ e.
                let back : uc * x.time ≤ ux * c.time = omega arith in
                let one : ud * x.time ≤ ux * d.time
                = ratio_onwards ud d.time uc c.time ux x.time hc n.ratio back in
                let two : uc * d.time ≤ ud * c.time
                = ratio_onwards uc c.time ux x.time ud d.time hx back m.ratio in
                earlier_onwards x d c (m.then (omega (arith, m.ratio, one))) (n.then (omega (arith, n.ratio, two)));
          })

  not_itself : (c : Charge) → taken_before q s c c ≡ false
  not_itself c =
      before_not (urgency q s c) (urgency q s c) c c
      (record {
        ratio = omega arith;
        then = λ e. earlier_not c c (record { number = omega arith; ticket = λ h. omega arith });
      })

  one_way : (d c : Charge) → taken_before q s d c ≡ true → taken_before q s c d ≡ false
  one_way d c e = go (urgency q s d) (urgency q s c) e
    where
      go : (ud uc : ℕ) → heavier ud uc d c ≡ true → heavier uc ud c d ≡ false
      go ud uc h = split (ltb (uc * d.time) (ud * c.time)) refl
        where
          split : (t : Bool) → ltb (uc * d.time) (ud * c.time) ≡ t → heavier uc ud c d ≡ false
          split true l =
              before_not uc ud c d
              (record {
                ratio = omega (arith, ltb-true (uc * d.time) (ud * c.time) l);
                then = λ w. absurd (omega (arith, ltb-true (uc * d.time) (ud * c.time) l));
              })
          split false l = equal (eqb (ud * c.time) (uc * d.time)) refl (rw l at h)
            where
              equal :
                  (t : Bool)
                  → eqb (ud * c.time) (uc * d.time) ≡ t
                  → eqb (ud * c.time) (uc * d.time) && latest_start_before d c ≡ true
                  → heavier uc ud c d ≡ false
              equal true w g =
                  before_not uc ud c d
                  (record {
                    ratio = omega (arith, eqb-true (ud * c.time) (uc * d.time) w);
                    then = λ z. latest_start_ordering.one_way d c (rw w at g);
                  })
              equal false w g = absurd (true≢false (sym (rw w at g)))

  -- the charge that is taken comes before all others
  pub foremost_first :
      (l : List Charge) (c : Charge)
      → Each (λ d. 1 ≤ d.time) l
      → foremost (taken_before q s) l ≡ chosen c
      → (1 ≤ c.time) × Each (λ d. taken_before q s d c ≡ false) l
  foremost_first [] c h e = let z : ◌≡◌ {A = ℕ} 0 1 = cc in absurd (omega arith)
  foremost_first (a ∷ []) c h e =
      let same : a ≡ c = cc in
      subst (λ (z : Charge). (1 ≤ z.time) × Each (λ x. taken_before q s x z ≡ false) (a ∷ [])) same
      (h.0, (not_itself a, tt))
  foremost_first (a ∷ b ∷ l) c h e =
      go (taken_one (taken_before q s) b l) (λ d. foremost_first (b ∷ l) d h.1)
    where
      go :
          Taken (taken_before q s) (b ∷ l)
          → ((d : Charge)
          → foremost (taken_before q s) (b ∷ l) ≡ chosen d
          → (1 ≤ d.time) × Each (λ x. taken_before q s x d ≡ false) (b ∷ l))
          → (1 ≤ c.time) × Each (λ x. taken_before q s x c ≡ false) (a ∷ b ∷ l)
      go t rest = pick (taken_before q s t.who a) refl (rest t.who t.gives)
        where
          pick :
              (u : Bool)
              → taken_before q s t.who a ≡ u
              → (1 ≤ t.who.time) × Each (λ x. taken_before q s x t.who ≡ false) (b ∷ l)
              → (1 ≤ c.time) × Each (λ x. taken_before q s x c ≡ false) (a ∷ b ∷ l)
          pick true w r =
              let f : chosen t.who ≡ chosen c = rw (t.gives, w) at e in
              let same : t.who ≡ c = cc in
              subst (λ (z : Charge). (1 ≤ z.time) × Each (λ x. taken_before q s x z ≡ false) (a ∷ b ∷ l)) same
              (r.0, (one_way t.who a w, r.1))
          pick false w r =
              let f : chosen a ≡ chosen c = rw (t.gives, w) at e in
              let same : a ≡ c = cc in
              subst (λ (z : Charge). (1 ≤ z.time) × Each (λ x. taken_before q s x z ≡ false) (a ∷ b ∷ l)) same (
                h.0,
                (
                  not_itself a,
                  both (λ x. 1 ≤ x.time) (λ x. taken_before q s x t.who ≡ false) (λ x. taken_before q s x a ≡ false)
                      (λ x i j. not_onwards x t.who a i r.0 h.0 j w) (b ∷ l) h.1 r.1,
                ),
              )
