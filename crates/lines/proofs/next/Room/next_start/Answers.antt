-- The smallest of those that are there: both, one or none.
use mathlib.Core.Path.{◌≡◌, refl, sym, ◌∙◌, ap}
use mathlib.Core.List.{◌++◌}
use Prim.Native.Nat.{ℕ, min}
use Rattle.std.specs.Prelude.{Option, Some, None}
use Rattle.std.specs.List.{reduce}
use Rattle.std.specs.Option.{option_to_list}
use Rattle.std.specs.Iterator.Adapters.{once_item}
use Rattle.std.proofs.lemmas.Iterator.Adapters.{YieldsList-from_once, option_map_id}
use Rattle.std.proofs.lemmas.Iterator.Consumers.{YieldsList-from_chain, min_from_yields_List}
use Rattle.lines.specs.Next.{smaller_of}
use Rattle.lines.proofs.next.Room.next_start.Goals as goal

smallest : (a b : Option ℕ) → reduce min (option_to_list a ++ option_to_list b) ≡ smaller_of a b
smallest (Some a) (Some b) = refl
smallest (Some a) None = refl
smallest None (Some b) = refl
smallest None None = refl

pub returns : goal.returns
returns c =
    let one = c.start_for-one in
    let two = c.start_for-two in
    let both = YieldsList-from_chain (YieldsList-from_once one.result (ap once_item c.chain.ensures.first ∙ c.into_iter.ensures.into_iter_gives.0)) (YieldsList-from_once two.result c.chain.ensures.second.0) c.chain.ensures.first_done c.chain.ensures.second_done in
    record {
      first = one.result;
      second = two.result;
      for_one = one.ensures;
      for_two = two.ensures;
      smaller = sym (option_map_id c.min.result) ∙ min_from_yields_List _ _ c.min.ensures.ran both ∙ smallest one.result two.result;
    }
