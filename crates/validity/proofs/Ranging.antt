-- What the test of a station's settings tells.
use mathlib.Core.Path.{◌≡◌}
use Prim.Native.Nat.{ℕ, ◌*◌, ◌≤◌}
use mathlib.Core.Bool.{true}
use native.Mathlib.Omega.{arith}
use native.Mathlib.Nat.{mul-le-mul}
use lib.Dec.{leb}
use borrow.Author.Tests.{leb-true}
use Rattle.rules.specs.Calls.{bound_of}
use Rattle.rules.proofs.Ranges.{and_left, and_right}
use Rattle.layout.specs.Validity.{between, settings_ranged}
use Rattle.layout.proofs.Judging.{six_hold, between_low, between_high}
use Rattle.validity.specs.Settled.{settings_valid}

module _ (limit percent tail clock next site : ℕ) where
  pub record Ranged : Type 0 where
    pub limit_high : limit ≤ 60
    pub percent_high : percent ≤ 100
    pub tail_high : tail ≤ 5
    pub clock_high : clock ≤ 1000000
    pub next_low : 1 ≤ next
    pub next_high : next ≤ 65536
    pub site_low : 1 ≤ site
    pub site_high : site ≤ 720

  pub ranged : settings_ranged limit percent tail clock next site ≡ true → Ranged
  unfolding settings_ranged
  ranged e =
      let p = six_hold (between 1 limit 60) (leb percent 100) (leb tail 5) (leb clock 1000000) (between 1 next 65536) (between 1 site 720) e in
      record {
        limit_high = between_high 1 limit 60 p.0;
        percent_high = leb-true percent 100 p.1;
        tail_high = leb-true tail 5 p.2;
        clock_high = leb-true clock 1000000 p.3;
        next_low = between_low 1 next 65536 p.4;
        next_high = between_high 1 next 65536 p.4;
        site_low = between_low 1 site 720 p.5;
        site_high = between_high 1 site 720 p.5;
      }

  pub product_fits : settings_ranged limit percent tail clock next site ≡ true → percent * limit ≤ 6000
  product_fits e = omega (arith, mul-le-mul (ranged e).percent_high (ranged e).limit_high)

  pub valid_ranged : settings_valid limit percent tail clock next site ≡ true → settings_ranged limit percent tail clock next site ≡ true
  unfolding settings_valid
  valid_ranged e = and_left (settings_ranged limit percent tail clock next site) (leb 1 (bound_of limit percent)) e

  pub valid_bound : settings_valid limit percent tail clock next site ≡ true → 1 ≤ bound_of limit percent
  unfolding settings_valid
  valid_bound e =
      leb-true 1 (bound_of limit percent)
      (and_right (settings_ranged limit percent tail clock next site) (leb 1 (bound_of limit percent)) e)
