-- A commit that is taken: the charge behind the others of its feeder.
use mathlib.Core.Path.{◌≡◌, refl, ap, sym, ◌∙◌}
use Prim.Native.Nat.{ℕ, ◌+◌, ◌≤◌, ◌<◌}
use mathlib.Core.List.{[], ◌∷◌, ◌++◌}
use native.Mathlib.Numerals.{add-one}
use Rattle.rules.specs.Basics.{at}
use Rattle.rules.specs.Charge.{Charge}
use Rattle.rules.specs.Calls.{Answer, committed, committing, step}
use Rattle.rules.proofs.Shown.{commit_taken}
use Rattle.charges.specs.declared.Charges.{Charges}
use Rattle.charges.specs.Arrays.{charge, charges_of, Columns, Holds}
use Rattle.station.specs.declared.Feeder.{Feeder}
use Rattle.station.specs.declared.Station.{Station}
use Rattle.station.specs.View.{feeder_at, view}
use Rattle.station.specs.Given.{Gives}
use Rattle.station.proofs.Views.{read_at, feeder_read}
use Rattle.station.proofs.Changed.{changed_at, changed_view, changed_formed}
use Rattle.station.proofs.Refusing.{gives_by}
use Rattle.ordering.specs.declared.Order.{Order}
use Rattle.ordering.specs.declared.start.Grant.{Grant}
use Rattle.ordering.specs.Ordered.{commit_of}
use Rattle.ordering.specs.Grants.{GrantedAt}
use Rattle.ordering.proofs.Seeking.{granted, none_holds, inside, here, charges_here, room, active_most}

-- the charge of an order
abbrev pub ordered : Station → Feeder → Order → ℕ → Charge
ordered s g o start = charge s.next o.line s.clock o.time (o.time + g.tail) o.due start o.rate

-- the feeder has a place for the charge, and the station a ticket
pub record Room (s : Station) (o : Order) (g : Feeder) : Type 0 where
  pub columns : Columns g.charges
  pub room : g.charges.held < 180
  pub active_most : o.time + g.tail ≤ 1445
  pub ticket_left : s.next ≤ 65535

module _ {s : Station} {o : Order} {x : Grant} (g : GrantedAt s o x) (other : Feeder) where
  abbrev own : Feeder
  own = read_at s x.place other

  there : x.place < s.count
  there = inside g.unrefused x.place g.names

  own_is : own ≡ feeder_at s x.place
  own_is = feeder_read s g.unrefused.valid.formed there other

  pub has_room : Room s o own
  has_room =
      rw own_is
      (record {
        columns = g.unrefused.valid.formed.columns x.place there;
        room = room g.unrefused x.place g.names;
        active_most = active_most g.unrefused x.place g.names;
        ticket_left = (granted g.unrefused).ticket_left;
      })

  pub taken :
      (shown : ℕ) {c : Charges} {t : Station} {answer : Answer}
      → x.start ≡ shown
      → Holds (charges_of own.charges ++ (ordered s own o x.start ∷ [])) c
      → t ≡ changed_at s x.place other c (s.next + 1)
      → answer ≡ committed s.next x.start
      → Gives (step (view s) (commit_of o shown)) answer t []
  unfolding committing
  taken shown {c} equal h left answer =
      let u = g.unrefused in
      let w = u.valid.formed in
      rw (left, answer)
      (gives_by (commit_of o shown) u.valid (changed_formed s w x.place other c (s.next + 1) there h.columns)
      (rw (changed_view s w x.place other c (s.next + 1) there, ← g.names, h.charges, own_is, equal, add-one s.next, charges_here u x.place g.names, here u x.place g.names) refl
      ∙ sym (commit_taken (view s) o.feeder o.line o.time o.due o.rate (none_holds u) shown (g.found ∙ ap at equal))))
