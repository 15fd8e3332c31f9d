-- The fresh station: its feeders, what it is in the words of the rules, and the bounds that are answered.
use mathlib.Core.Path.{◌≡◌, refl, sym, ap, subst, ◌∙◌}
use Prim.Native.Nat.{ℕ, zero, suc, ◌*◌, ◌≤◌, ◌<◌}
use mathlib.Core.List.{List, [], ◌∷◌, map}
use native.Mathlib.Omega.{arith}
use native.Mathlib.Nat.{mul-le-mul}
use lib.ListN.{length, get_or, take, get_or-map}
use borrow.Author.Tests.{lt-ltb, le-ltb}
use Rattle.rules.specs.Basics.{tabulate, first_of}
use Rattle.rules.specs.Calls as rules
use Rattle.rules.specs.Calls.{bound_of, fresh, open_refusals}
use Rattle.rules.proofs.Tables.{first_of_none}
use Rattle.rules.proofs.Lists.{tabulate_same, map_tabulate, tabulate_each}
use Rattle.rules.proofs.Granted.{SettingsGranted, OpenGranted, open_granted, open_refusals_numbered}
use Rattle.charges.specs.declared.Charges.{Charges}
use Rattle.charges.specs.Arrays.{Holds, Columns}
use Rattle.charges.proofs.Storing.{holds_none}
use Rattle.charges.proofs.Holding.{charges_same}
use Rattle.station.specs.declared.open.Settings.{Settings}
use Rattle.station.specs.declared.open.Asked.{Asked}
use Rattle.station.specs.View.{no_charges, unused, feeder_view, feeder_at, view, Formed}
use Rattle.station.specs.Opened.{settings_of, asked_of, settings_from, asked_from, settings_at, fresh_feeder, fresh_at, fresh_of, bounds_of}

-- what is read past the last settings
abbrev pub no_settings : Settings
no_settings = record { limit = 0; percent = 0; tail = 0 }

settings_is : (a : Asked) (i : ℕ) → settings_at a i ≡ settings_of (get_or a.settings i no_settings)
settings_is a i = get_or-map settings_of a.settings i no_settings

-- the settings that are read, one after another
pub settings_read :
    {count site : ℕ} (xs : List Settings) (given : List ℕ)
    → length xs ≡ 4
    → settings_of (get_or xs 0 no_settings) ≡ settings_from given 0
    → settings_of (get_or xs 1 no_settings) ≡ settings_from given 3
    → settings_of (get_or xs 2 no_settings) ≡ settings_from given 6
    → settings_of (get_or xs 3 no_settings) ≡ settings_from given 9
    → asked_of (record { count = count; site = site; settings = xs }) ≡ asked_from count site given
settings_read [] given l p q r s = absurd (omega (arith, l))
settings_read (a ∷ []) given l p q r s = absurd (omega (arith, l))
settings_read (a ∷ b ∷ []) given l p q r s = absurd (omega (arith, l))
settings_read (a ∷ b ∷ c ∷ []) given l p q r s = absurd (omega (arith, l))
settings_read (a ∷ b ∷ c ∷ d ∷ []) given l p q r s = cc
settings_read (a ∷ b ∷ c ∷ d ∷ e ∷ xs) given l p q r s = absurd (omega (arith, l))

-- what no refusal turns away
pub opens : (a : Asked) → first_of (open_refusals (asked_of a)) ≡ 0 → OpenGranted (asked_of a)
opens a e = open_granted (asked_of a) (first_of_none (open_refusals (asked_of a)) (open_refusals_numbered (asked_of a)) e)

-- the product of a feeder up to the count is a small one
pub product_granted :
    (a : Asked) (i : ℕ)
    → first_of (open_refusals (asked_of a)) ≡ 0
    → i < a.count
    → (get_or a.settings i no_settings).percent * (get_or a.settings i no_settings).limit ≤ 20000
product_granted a i h l =
    let x = get_or a.settings i no_settings in
    let percent : x.percent ≤ 100 = omega (arith, granted.percent_high) in
    let limit : x.limit ≤ 60 = omega (arith, granted.limit_high) in
    omega (arith, mul-le-mul percent limit)
  where
    granted : SettingsGranted (settings_of (get_or a.settings i no_settings))
    granted =
        subst SettingsGranted (settings_is a i)
        (tabulate_each SettingsGranted (settings_at a) a.count 0 (opens a h).each i (omega arith) (omega arith))

-- charges of which none is held
pub none_held : (c : Charges) → Holds [] c → c ≡ no_charges
none_held c h = charges_same c no_charges h.columns (holds_none _).columns h.charges

-- The feeders of a fresh station

pub feeder_fresh :
    (x : Settings) {d : ℕ} {h : Charges} → d ≡ bound_of x.limit x.percent → Holds [] h
    → record { limit = x.limit; percent = x.percent; bound = d; tail = x.tail; charges = h } ≡ fresh_feeder (settings_of x)
feeder_fresh x e none = rw (e, none_held _ none) refl

fresh_used : (a : Asked) (i : ℕ) → i < a.count → fresh_at a i ≡ fresh_feeder (settings_at a i)
fresh_used a i h = rw (lt-ltb i a.count h)

fresh_unused : (a : Asked) (i : ℕ) → a.count ≤ i → fresh_at a i ≡ unused
fresh_unused a i h = rw (le-ltb i a.count h)

fresh_place : (a : Asked) (i : ℕ) → i < 4 → feeder_at (fresh_of a) i ≡ fresh_at a i
fresh_place a zero h = refl
fresh_place a (suc zero) h = refl
fresh_place a (suc (suc zero)) h = refl
fresh_place a (suc (suc (suc zero))) h = refl
fresh_place a (suc (suc (suc (suc i)))) h = absurd (omega arith)

pub view_fresh : (a : Asked) → a.count ≤ 4 → view (fresh_of a) ≡ fresh (asked_of a)
view_fresh a h =
    ap (λ gs. record { feeders = gs; site = a.site; clock = 0; next = 1 })
    (tabulate_same (λ i. feeder_view (feeder_at (fresh_of a) i)) (λ i. rules.fresh_feeder (settings_at a i)) a.count 0
    (λ i l m. ap feeder_view (fresh_place a i (omega arith) ∙ fresh_used a i (omega arith)))
    ∙ sym (map_tabulate rules.fresh_feeder (settings_at a) a.count 0))

pub formed_fresh : (a : Asked) → 1 ≤ a.count → a.count ≤ 4 → Formed (fresh_of a)
formed_fresh a l h =
    record {
      four = refl;
      some = l;
      few = h;
      columns =
          λ i m.
          subst (λ g. Columns g.charges) (sym (fresh_place a i (omega arith) ∙ fresh_used a i m)) (holds_none _).columns;
      rest = λ i m k. fresh_place a i k ∙ fresh_unused a i m;
    }

-- The bounds answered

pub take_tabulate : {A : Type 0} (f : ℕ → A) (k n a : ℕ) → k ≤ n → take k (tabulate f n a) ≡ tabulate f k a
take_tabulate f zero n a h = refl
take_tabulate f (suc k) zero a h = absurd (omega arith)
take_tabulate f (suc k) (suc n) a h = ap (λ l. f a ∷ l) (take_tabulate f k n (suc a) (omega arith))

pub bounds_fresh :
    (a : Asked) → a.count ≤ 4 → take a.count (bounds_of (fresh_of a)) ≡ map (λ g. g.bound) (fresh (asked_of a)).feeders
bounds_fresh a h =
    take_tabulate (λ i. (feeder_at (fresh_of a) i).bound) a.count 4 0 h
    ∙ sym (map_tabulate (λ g. g.bound) (λ i. feeder_view (feeder_at (fresh_of a) i)) a.count 0)
    ∙ ap (λ s. map (λ g. g.bound) s.feeders) (view_fresh a h)
