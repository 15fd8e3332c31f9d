-- What restoring gives, way by way.
use mathlib.Core.Path.{◌≡◌, refl, ap, sym, ◌∙◌}
use Prim.Native.Nat.{ℕ, ◌≤◌, ◌<◌}
use mathlib.Core.Bool.{Bool, true, false, true≢false}
use mathlib.Core.List.{List}
use native.Mathlib.Omega.{arith}
use lib.Dec.{eqb, leb}
use lib.ListN.{length, get_or}
use borrow.Author.Tests.{leb-true, le-leb}
use Rattle.rules.specs.Site.{State}
use Rattle.rules.specs.Calls.{bound_of, fresh, least}
use Rattle.rules.proofs.Ranges.{and_right, fails}
use Rattle.rules.proofs.Lists.{length_tabulate}
use Rattle.refusals.specs.declared.Refusal.{Refusal}
use Rattle.refusals.specs.Refusals.{number_of}
use Rattle.station.specs.declared.only.One.{One}
use Rattle.station.specs.View.{view, station_of, Alone}
use Rattle.station.proofs.Ones.{only_formed}
use Rattle.layout.specs.Image.{only}
use Rattle.layout.specs.Validity.{settings_ranged, bound_right, is_valid}
use Rattle.layout.specs.Lists.{every}
use Rattle.layout.specs.Reading.{header_at, state_in, checked, is_of, restore_refusal, restoring}
use Rattle.layout.proofs.Testing.{Tested, valid_tested}
use Rattle.layout.proofs.Refusing.{refused_contents, not_refused}
use Rattle.layout.proofs.RoundTrip.{restoring_valid}
use Rattle.validity.specs.Settled.{settings_valid}
use Rattle.std.specs.Cmp.Lexicographic.{pointwise}
use Rattle.blocks.specs.Contents.{contents_in}
use Rattle.blocks.proofs.Chunks.{same_part_told}
use Rattle.records.specs.Contents.{contents_of, charge_from, state_from, header_right}
use Rattle.records.specs.Columns.{ReadFrom}
use Rattle.std.specs.Prelude.{Result, Ok, Err}
use Rattle.image.specs.Answers.{is_from, restored, Restores}
use Rattle.image.proofs.Imaging.{contents_long, state_taken, right_taken}

-- Contents

module _ (xs : List ℕ) (s : State) (b : Bool) where
  pub not_of : b ≡ is_valid s → b ≡ false → b ≡ is_from xs s
  unfolding is_from
  not_of p q = q ∙ rw (← p, q)

  pub of_told :
      (ys : List ℕ) (r : Bool)
      → b ≡ is_valid s
      → b ≡ true
      → ys ≡ contents_of s
      → length xs ≡ 4572
      → r ≡ pointwise eqb xs ys
      → r ≡ is_from xs s
  unfolding is_from
  of_told ys r p q e l h = rw (← p, q, ← e) (h ∙ same_part_told xs ys 4572 l (ap length e ∙ contents_long s))

-- where block 0 is not right, the station that the contents would be of is not valid
module _ (xs : List ℕ) where
  held_in : length (only (state_from xs)).charges ≡ header_at xs 20
  unfolding state_from
  held_in = length_tabulate (charge_from xs (header_at xs 8)) (header_at xs 20) 0

  ranged_in :
      Tested (state_from xs)
      → settings_ranged (header_at xs 0) (header_at xs 4) (header_at xs 8) (header_at xs 12) (header_at xs 16) (header_at xs 24) ≡ true
  unfolding state_from
  ranged_in t = t.settings_ranged_lem

  bound_in : Tested (state_from xs) → 1 ≤ bound_of (header_at xs 0) (header_at xs 4)
  unfolding state_from bound_right
  bound_in t =
      leb-true 1 (bound_of (header_at xs 0) (header_at xs 4))
      (and_right (eqb (bound_of (header_at xs 0) (header_at xs 4)) (bound_of (header_at xs 0) (header_at xs 4)))
      (leb 1 (bound_of (header_at xs 0) (header_at xs 4)))
      t.bound_right_lem)

  header_passes : is_valid (state_from xs) ≡ true → header_right xs ≡ true
  unfolding header_right settings_valid
  header_passes e =
      let t = valid_tested (state_from xs) e in
      rw (
        le-leb (header_at xs 20) 180 (omega (arith, held_in, t.few)),
        ranged_in t,
        le-leb 1 (bound_of (header_at xs 0) (header_at xs 4)) (bound_in t),
      )

  pub header_wrong : header_right xs ≡ false → is_from xs (state_from xs) ≡ false
  header_wrong e =
      let f = fails (is_valid (state_from xs)) (λ t. true≢false (sym (header_passes t) ∙ e)) in
      sym (not_of xs (state_from xs) (is_valid (state_from xs)) refl f) ∙ f

-- Restoring

-- an image whose checks are right, by the contents that were taken from it
module _ (xs cs : List ℕ) (long : length xs ≡ 4608) (small : (k : ℕ) → get_or xs k 0 < 256) (checks : every (checked xs) 9 ≡ true)
    (taken : cs ≡ contents_in xs) where
  of_taken : is_of xs (state_in xs) ≡ is_from cs (state_from cs)
  of_taken = right_taken xs long small checks ∙ ap (λ zs. is_from zs (state_from zs)) (sym taken)

  pub contents_wrong : is_from cs (state_from cs) ≡ false → restore_refusal xs ≡ 22
  contents_wrong e = refused_contents xs long checks (of_taken ∙ e)

  pub contents_right : is_from cs (state_from cs) ≡ true → restore_refusal xs ≡ 0
  contents_right e = not_refused xs long checks (of_taken ∙ e)

module _ (xs : List ℕ) where
  pub restores_refused :
      (n : ℕ) (k : Refusal) (r : Result Unit Refusal) (o : One)
      → eqb n 0 ≡ false
      → (r ≡ Err k) × (view (station_of o) ≡ fresh least) × Alone o
      → number_of k ≡ n
      → restore_refusal xs ≡ n
      → Restores xs r o
  restores_refused n k r o z p d e = record { result = rw (p.0, d, p.1, e, z); alone = p.2 }

  pub restores_accepted :
      (o : One) (cs : List ℕ)
      → length xs ≡ 4608
      → cs ≡ contents_in xs
      → ReadFrom cs o
      → restore_refusal xs ≡ 0
      → Restores xs (Ok tt) o
  restores_accepted o cs l c p e =
      record {
        result = whole;
        alone =
            record {
              valid =
                  record {
                    formed = only_formed o p.settled.columns;
                    state = rw (ap (λ z. z.state) whole) (restoring_valid xs);
                  };
            };
      }
    where
      state_is : view (station_of o) ≡ state_in xs
      state_is = p.state ∙ ap state_from c ∙ state_taken xs l

      whole : restored (Ok tt) o ≡ restoring xs
      whole = rw (e, state_is)
