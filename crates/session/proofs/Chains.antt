-- Every chain of turns answers all that was read.
use mathlib.Core.Path.{◌≡◌, refl, sym, ap, ◌∙◌}
use mathlib.Core.Bool.{true, false}
use mathlib.Core.List.{List, [], ◌∷◌, ◌++◌, append-nil}
use Prim.Native.Nat.{ℕ, ◌≤◌}
use native.Mathlib.Omega.{arith}
use borrow.Author.Tests.{eqb-true}
use lib.ListN.{length}
use lib.Seq.{take_all}
use Rattle.rules.specs.Site.{State}
use Rattle.rules.specs.Calls.{fresh, least}
use Rattle.text.specs.Parts.{split}
use Rattle.text.specs.Blocks.{Grown}
use Rattle.station.specs.declared.Station.{Station}
use Rattle.station.specs.Opened.{FreshLeast}
use Rattle.station.specs.View.{view}
use Rattle.reply.specs.Reply.{Told, answered}
use Rattle.session.specs.Session.{console, Fed, first, served, feed}
use Rattle.session.specs.declared.turn.Wants.{Wants}
use Rattle.session.specs.declared.turn.Wants.TheVariants.{Bytes, Room as Space, Nothing}
use Rattle.session.specs.declared.turn.Session.{Session}
use Rattle.session.specs.Turns.{ends, over, Standing, Turned, Chain, opened, turned, EveryChain, Reached}
use Rattle.session.specs.LawsOfChains.{EndedRequestsAreAnswered, WholeInputIsAnswered}
use Rattle.session.proofs.Turning.{not_both}
use Rattle.session.proofs.Sessions.{finish, first-first, feed_append, console_fed}

-- what is known after each turn
record Known (read written : List ℕ) (s : Session) (held : List ℕ) : Type 0 where
  pub fed : over s.wants ≡ false → feed (fresh least) [] read ≡ first written (feed (view s.station) [] held)
  pub whole : over s.wants ≡ true → console read ≡ record { state = view s.station; text = written }
  pub request : s.wants ≡ Bytes → (split 10 held ≡ held ∷ []) × (length held ≤ 4097)

-- a request that goes on, with nothing after it
waits : (s : State) (held : List ℕ) → split 10 held ≡ held ∷ [] → length held ≤ 4097 → feed s [] held ≡ record { state = s; kept = held; text = [] }
unfolding served
waits s held w h = rw (w, take_all 4097 held h)

-- one part more of the input
fed_more :
    (read part written : List ℕ) (s : State) (held text : List ℕ) (t : Fed)
    → feed (fresh least) [] read ≡ first written (feed s [] held)
    → feed s [] (held ++ part) ≡ first text t
    → feed (fresh least) [] (read ++ part) ≡ first (written ++ text) t
fed_more read part written s held text t p q =
    let g : Fed = feed s [] held in
    feed_append (fresh least) [] read part
    ∙ ap (λ (o : Fed). first o.text (feed o.state o.kept part)) p
    ∙ sym (first-first written g.text (feed g.state g.kept part))
    ∙ ap (first written) (sym (feed_append s [] held part) ∙ q)
    ∙ first-first written text t

-- the end of the input
fed_last :
    (read written : List ℕ) (s : State) (held : List ℕ) (t : Told)
    → feed (fresh least) [] read ≡ first written (feed s [] held)
    → split 10 held ≡ held ∷ []
    → length held ≤ 4097
    → answered s held ≡ t
    → console read ≡ record { state = t.state; text = written ++ t.text }
fed_last read written s held t p w h q =
    sym (console_fed read)
    ∙ ap finish (p ∙ ap (first written) (waits s held w h))
    ∙ ap (λ (x : List ℕ). record { state = (answered s held).state; text = x ++ (answered s held).text }) (append-nil written)
    ∙ ap (λ (x : Told). record { state = x.state; text = written ++ x.text }) q

none_whole : split 10 [] ≡ [] ∷ []
unfolding split
none_whole = refl

-- nothing was read, where bytes were wanted
ended_so : (w : Wants) (part : List ℕ) → over w ≡ false → ends w (length part) ≡ true → (w ≡ Bytes) × (part ≡ [])
ended_so Bytes [] p q = (refl, refl)
ended_so Bytes (b ∷ bs) p q = let none : length (b ∷ bs) ≡ 0 = eqb-true (length (b ∷ bs)) 0 q in absurd (omega arith)
ended_so Space part p q = not_both q refl
ended_so Nothing part p q = not_both refl p

standing_request :
    (w : Wants) (held : List ℕ) (there : ℕ) → Standing w held there → w ≡ Bytes → (split 10 held ≡ held ∷ []) × (length held ≤ 4097)
standing_request w held there h e = rw e at h

module _ {read written : List ℕ} {s : Session} {before : List ℕ} (part : List ℕ) {r : Session} {held out : List ℕ}
    (k : Known read written s before) (g : over s.wants ≡ false) (t : Turned s (length part) (before ++ part) r held out) where
  known_next : Known (read ++ part) (written ++ out) r held
  known_next =
      record {
        fed =
            λ e. fed_more read part written (view s.station) before out (feed (view r.station) [] held) (k.fed g) (t.goes_on (sym t.over_so ∙ e));
        whole =
            λ e. let z = ended_so s.wants part g (sym t.over_so ∙ e) in
            let l = k.request z.0 in
            let same : before ++ part ≡ before = ap (λ (x : List ℕ). before ++ x) z.1 ∙ append-nil before in
            ap console (ap (λ (x : List ℕ). read ++ x) z.1 ∙ append-nil read)
            ∙ fed_last read written (view s.station) before (record { state = view r.station; text = out }) (k.fed g) l.0 l.1 (rw same at (t.has_ended (sym t.over_so ∙ e)));
        request = standing_request r.wants held (length (before ++ part)) t.standing;
      }

known : {read written : List ℕ} {s : Session} {held : List ℕ} → Chain read written s held → Known read written s held
known (opened {s} v w) = record { fed = λ _. rw v; whole = λ e. not_both e (ap over w); request = λ _. (none_whole, omega arith) }
known (turned part c g t) = known_next part (known c) g t

pub every_chain : EveryChain
every_chain read written s held c =
    let k = known c in
    record {
      so_far =
          λ e. let l = k.request e in
          k.fed (ap over e)
          ∙ ap (first written) (waits (view s.station) held l.0 l.1)
          ∙ ap (λ (x : List ℕ). record { state = view s.station; kept = held; text = x }) (append-nil written);
      whole = λ e. k.whole (ap over e);
    }

pub ended_answered : EndedRequestsAreAnswered
ended_answered read written s held c = (every_chain read written s held c).so_far

pub whole_answered : WholeInputIsAnswered
whole_answered read written s held c = (every_chain read written s held c).whole

-- no turn yet: the session begins with the least station, and nothing is held
pub reached_first : {s : Session} {held : List ℕ} {q : Station} → FreshLeast q → s.station ≡ q → s.wants ≡ Bytes → held ≡ [] → Reached s held
reached_first {s} f same w none = rw none (record { read = []; written = []; chain = opened (ap view same ∙ f.state_is) w })

-- one turn more
pub reached_on :
    {s : Session} {before block : List ℕ} {count : ℕ} {r : Session} {held out : List ℕ}
    → Reached s before → over s.wants ≡ false → Grown before block count → Turned s count block r held out → Reached r held
reached_on {s} {before} {r = r} {held} {out} c g (part, same, all) t =
    record {
      read = c.read ++ part;
      written = c.written ++ out;
      chain = turned part c.chain g (rw (← same, all) at t);
    }
