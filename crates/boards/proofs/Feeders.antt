-- A board over several feeders, from the last one to the first: the answers are those of the rules.
use mathlib.Core.Path.{◌≡◌, refl, sym, ◌∙◌}
use Prim.Native.Nat.{ℕ, ◌+◌}
use mathlib.Core.List.{List, [], ◌++◌}
use lib.ListN.{length, drop, replicate, length-append, length-map, length-replicate}
use Rattle.rules.specs.Basics.{keep}
use Rattle.rules.specs.Charge.{Charge}
use Rattle.rules.specs.Site.{State, site_charges}
use Rattle.rules.specs.Calls.{looked, is_looked_at, not_held, start_or_not_held, written, boarding}
use Rattle.rules.proofs.Lists.{keep_append}
use Rattle.boards.specs.Board.{Boarded}
use Rattle.boards.proofs.Showing.{answered_append, answered_none, answered_all}

-- Feeder by feeder

pub boarded_none : (asked list : List ℕ) → Boarded [] asked list list 0
boarded_none asked list = record { looked_at = refl; list_is = sym (answered_none asked list) }

-- first the feeders behind, then those before them
pub boarded_join :
    {cs ds : List Charge} {asked list middle after : List ℕ} {n m : ℕ}
    → Boarded ds asked list middle m
    → Boarded cs asked middle after n
    → Boarded (cs ++ ds) asked list after (n + m)
boarded_join {cs} {ds} {asked} {list} {middle} {after} {n} {m} d c =
    record {
      looked_at =
          rw (keep_append (is_looked_at asked) cs ds, length-append (keep (is_looked_at asked) cs) (keep (is_looked_at asked) ds), ← c.looked_at, ← d.looked_at);
      list_is = c.list_is ∙ rw d.list_is (sym (answered_append cs ds asked list));
    }

-- all feeders, where the answers were "4,294,967,295 for one not held" before
pub boarded_site :
    (s : State) (asked list : List ℕ) {after : List ℕ} {n : ℕ}
    → Boarded (site_charges s) asked (written (replicate (length asked) not_held) list) after n
    → boarding s asked list ≡ record { answer = looked n; state = s; list = after }
unfolding boarding
boarded_site s asked list {after} {n} b =
    rw (← b.looked_at, b.list_is, length-replicate {A = ℕ} (length asked) not_held, answered_all (site_charges s) asked (drop (length asked) list), length-map asked (start_or_not_held (site_charges s)))
