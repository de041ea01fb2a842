-- Everything said of runs of calls goes on through moves: the records of a run are those of its calls alone, so each theorem of `claims` is applied to these. Assumes nothing.
use Prim.Native.Nat.{ℕ, ◌-◌, ◌<◌}
use mathlib.Core.Path.{◌≡◌, sym, ap, ◌∙◌, subst}
use mathlib.Core.Bool.{true}
use mathlib.Core.List.{List, [], ◌∷◌}
use lib.ListN.{length}
use borrow.Author.Tests.{eq-eqb}
use Rattle.table.specs.Layout.{place}
use Rattle.table.specs.Table.{count_in, port_at}
use Rattle.machine.specs.Time.{aggregate_wait_time}
use Rattle.machine.specs.Mux.{waits}
use Rattle.churn.specs.Whole.{whole_size}
use Rattle.control.specs.Accepted.{accepted}
use Rattle.control.specs.Call.{Call, receive, fetch, line}
use Rattle.control.specs.After.{answer, after}
use Rattle.whole.specs.Moves.{goes_forward, goes_back}
use Rattle.whole.proofs.MoveLaws.{forward-goes, back-goes, there_and_back, back-and-there}
use Rattle.claims.specs.Run.{Takes, run}
use Rattle.claims.specs.LivePartner.{Live}
use Rattle.claims.specs.ThreeSends.{Remembers, NoneStarts, ticks_in}
use Rattle.claims.specs.LineCall.{Silent}
use Rattle.claims.specs.Moves.{Unmoved}
use Rattle.claims.proofs.LivePartner.{live-partner}
use Rattle.claims.proofs.ThreeSends.{three-sends, four-sends-apart}
use Rattle.claims.proofs.LineCall.{stays-silent}
use Rattle.claims.proofs.Unseen.{no_move_unseen}
use Rattle.promises.specs.Run.{Held, old, new, Step, call, records_of, stepped, through, AllStepsTake, calls_of, HeldMade, OldMade, WholeMade}
use Rattle.promises.specs.Through.{records_after, Through}
use Rattle.promises.proofs.Run.{held-never_stuck, base-made, base-calls, base-runs, made-by-step, calls-take, sends-alike}

-- the records after a call and then steps are those after that call and the calls of these steps
call-then : (h : Held) → HeldMade h → (c : Call) → Takes c → (ss : List Step) → AllStepsTake ss → records_after (stepped (call c) h) ss ≡ run (after c (records_of h)) (calls_of ss)
call-then h m c k ss a =
    base-runs (stepped (call c) h) (made-by-step h m (call c) k) ss a ∙ ap (λ (t : List ℕ). run t (calls_of ss)) (base-calls h m c k).leaves

made_after : (h : Held) → HeldMade h → (ss : List Step) → AllStepsTake ss → HeldMade (through h ss)
unfolding through
made_after h m [] a = m
made_after h m (s ∷ ss) a = made_after (stepped s h) (made-by-step h m s a.0) ss a.1

unmoved : (h : Held) → HeldMade h → (ss : List Step) → AllStepsTake ss → NoneStarts (records_of h) (calls_of ss) → ticks_in (calls_of ss) < aggregate_wait_time
    → (i : ℕ) → i < count_in (records_of h) → Unmoved (records_of h) (calls_of ss) i
unmoved h m ss a none few i below = no_move_unseen (records_of h) (base-made h m) (calls_of ss) (calls-take ss a) none few i below

taken-forward : (t : List ℕ) → OldMade t → (u : List ℕ) → length u ≡ whole_size (count_in t) → goes_forward t u ≡ true
taken-forward t m u e = rw (held-never_stuck (old t) m).ranged (eq-eqb (length u) (whole_size (count_in t)) e)

taken_back : (w : List ℕ) → WholeMade w → (u : List ℕ) → length u ≡ place (count_in w) → goes_back w u ≡ true
taken_back w m u e =
    let s = held-never_stuck (new w) m in
    rw (s.ranged, s.base.ranged) (eq-eqb (length u) (place (count_in w)) e)

pub goes_through : Through
goes_through = record {
  there_and_back = there_and_back;
  back-and-there = back-and-there;
  forward-taken = λ t m u e. (forward-goes t u (taken-forward t m u e)).0;
  back-taken = λ w m u e. (back-goes w u (taken_back w m u e)).0;
  never_stuck = held-never_stuck;
  calls = base-calls;
  runs = base-runs;
  records = base-made;
  live-partner = λ h m n frame out k e ss a none.
      subst (λ (t : List ℕ). Live frame (port_at t (n - 1))) (sym (call-then h m (receive n frame out) k ss a))
      (live-partner (records_of h) (base-made h m) n frame out k (sym (base-calls h m (receive n frame out) k).answers ∙ e) (calls_of ss) (calls-take ss a) none);
  three-sends = λ h m n some most.
      subst (λ (l : List ℕ). Remembers l n (records_of h)) (sends-alike h m n) (three-sends (records_of h) (base-made h m) n some most);
  four-sends-apart = λ h m n first last k e ss a none two j f.
      let then = through (stepped (call (fetch n first)) h) ss in
      let made = made_after (stepped (call (fetch n first)) h) (made-by-step h m (call (fetch n first)) k) ss a in
      four-sends-apart (records_of h) (base-made h m) n first last k (sym (base-calls h m (fetch n first) k).answers ∙ e) (calls_of ss) (calls-take ss a) none two
      (ap (λ (t : List ℕ). answer (fetch n last) t) (sym (call-then h m (fetch n first) k ss a)) ∙ sym (base-calls then made (fetch n last) j).answers ∙ f);
  stays-silent = λ h m n l e half ss a none.
      subst (λ (t : List ℕ). Silent t n) (sym (call-then h m (line n l) tt ss a))
      (stays-silent (records_of h) (base-made h m) n l (ap accepted (sym (base-calls h m (line n l) tt).answers) ∙ e) half (calls_of ss) (calls-take ss a) none);
  waits-on = λ h m ss a none few i below begins.
      ap (λ (t : List ℕ). waits (port_at t i).phase.mux) (base-runs h m ss a) ∙ (unmoved h m ss a none few i below).waits-on begins;
  held = λ h m ss a none few i below not.
      let is = base-runs h m ss a in
      ap (λ (t : List ℕ). (port_at t i).aggregator) is ∙ (unmoved h m ss a none few i below).held (ap (λ (t : List ℕ). waits (port_at t i).phase.mux) (sym is) ∙ not);
}
