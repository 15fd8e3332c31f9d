use mathlib.Core.Path.{◌≡◌, refl, ap}
use Prim.Native.Nat.{ℕ, ◌+◌}
use native.Mathlib.Omega.{arith}
use borrow.Author.Rules.{rules}
use Rattle.std.specs.List.{zip}
use Rattle.std.specs.Option.{unwrap_or}
use Rattle.std.specs.Ordering.{nat_cmp, max_by_ordering}
use Rattle.std.proofs.lemmas.List.Folds.{max_of_map}
use Rattle.std.proofs.lemmas.Iterator.{YieldsList-from_slice, YieldsList-from_zip, YieldsList-from_map}
use Rattle.std.proofs.lemmas.Iterator.Consumers.{reduce_from_yields_List}
use Rattle.charges.specs.Drawn.{load_in}
use Rattle.charges.proofs.Totals.{until_is}
use Rattle.charges.proofs.loads.Loads.last_until.Goals as goal

pub returns : goal.returns
returns c =
    let l = c.args.self.now in
    let starts = l.starts.now in
    let times = l.active_times.now in
    let end = λ (p : ℕ × ℕ). p.0 + p.1 in
    omega (
      arith,
      c.unwrap_or.ensures,
      ap (λ o. unwrap_or o 0)
          (reduce_from_yields_List (λ p z. max_by_ordering (nat_cmp p z) p z) c.map-ends.result c.max.result c.max.ensures.ran
          (YieldsList-from_map _ end (YieldsList-from_zip (YieldsList-from_slice starts cc) (YieldsList-from_slice times cc)) c.map-ends.ensures.closure (λ x r q k. search rules))),
      max_of_map end (zip starts times),
      until_is (load_in l.lines.now times starts l.rates.now) starts times 0 0 l.reaches.1 (λ i j e. let here : j ≡ i = omega (arith, e) in rw here refl),
    )
