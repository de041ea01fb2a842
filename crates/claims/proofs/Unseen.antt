-- Between two looks at the table, with fewer ticks between them than aggregate_wait_time has, no port gets from one aggregator to another: one that
-- gets another begins to wait (`one-aggregator`), and whoever waits goes on until its timer has run out, which each tick makes smaller by one and
-- nothing else does. Assumes nothing.
use Prim.Native.Nat.{ℕ, suc, ◌+◌, ◌<◌, ◌≤◌}
use mathlib.Core.Path.{◌≡◌, refl, sym, ap, ◌∙◌, subst}
use mathlib.Core.Bool.{Bool, true, false, cond, ◌&&◌, true≢false}
use mathlib.Core.List.{List, [], ◌∷◌, map}
use native.Mathlib.Omega.{arith}
use lib.ListN.{get_or}
use lib.Dec.{eqb}
use borrow.Author.Tests.{eqb-true, eqb-false, ne_eqb}
use Rattle.std.specs.Prelude.{Ok, Err}
use Rattle.frame.specs.Block.{block_of}
use Rattle.frame.specs.Wire.{actor_part, partner_part}
use Rattle.machine.specs.declared.states.Ticks.{Ticks}
use Rattle.machine.specs.Mux.{waits}
use Rattle.machine.specs.Time.{aggregate_wait_time, ran_out}
use Rattle.port.specs.declared.record.Port.{Port}
use Rattle.port.specs.Compared.{compared}
use Rattle.port.specs.Periodic.{periodic_run}
use Rattle.port.specs.Receive.{moved, lined}
use Rattle.port.specs.Transmit.{sent, ntt_cleared}
use Rattle.port.proofs.PeriodicLaws.{periodic-keeps}
use Rattle.port.proofs.RestKept.{Seat, aside-wait, advanced-wait, received-aside, moved-aside, lined-aside}
use Rattle.port.proofs.TransmitLaws.{cleared_keeps}
use Rattle.settings.specs.Settings.{configured}
use Rattle.settings.proofs.StandingLaws.{settings-aside}
use Rattle.table.specs.Record.{decoded}
use Rattle.table.specs.Table.{count_in, port_at, ours, again, state_of}
use Rattle.trunk.specs.Selection.{rule_of}
use Rattle.trunk.specs.Settled.{must_move}
use Rattle.trunk.proofs.MoveLaws.{settled-waits}
use Rattle.work.specs.Work.{worked, received_at}
use Rattle.control.specs.Answer.{Answer}
use Rattle.control.specs.Call.{Call, is_start}
use Rattle.control.specs.After.{answer, after}
use Rattle.control.specs.Accepted.{accepted}
use Rattle.control.proofs.CallLaws.{refused-table}
use Rattle.claims.specs.Run.{Takes, AllTake, run, Made}
use Rattle.claims.specs.AtRest.{Sound}
use Rattle.claims.specs.Moves.{Begins, NoMoveUnseen}
use Rattle.claims.specs.ThreeSends.{is_tick, ticks_in, NoneStarts}
use Rattle.claims.proofs.Sound.{Before}
use Rattle.claims.proofs.Calls.{never_stuck, call-sound, made-call}
use Rattle.claims.proofs.Counts.{call-count}
use Rattle.claims.proofs.Course.{Own, as_was, hears, moves, ages, turns, gets, Course, stays, sends, works, course, paced-inside, paced-at, work_at}
use Rattle.claims.proofs.Moves.{own-seat, moves-begins, one-aggregator}

-- a port waits, and does so for n ticks more at least
record Waits (n : ℕ) (p : Port) : Type 0 where
  waiting : waits p.phase.mux ≡ true
  left : n ≤ p.timers.wait.0

-- the ticks that a call is: one or none
abbrev one : Bool → ℕ
one true = 1
one false = 0

abbrev cost : Call → ℕ
cost c = one (is_tick c)

-- ---- before steps 3 to 6

own-left : (c : Call) (t : List ℕ) (i : ℕ) (p : Port) (n : ℕ) → Own c t i p → n + cost c ≤ (port_at t i).timers.wait.0 → n ≤ p.timers.wait.0
own-left c t i p n (as_was e) h = rw e (omega (arith, h))
own-left c t i p n (hears m frame out c-is is e) h = unfold received_at in
    let q = port_at t i in
    let same : (received_at i frame (state_of t)).timers.wait ≡ q.timers.wait =
    aside-wait q (received_at i frame (state_of t)) (received-aside (ours t).system _ (block_of (actor_part frame)) (block_of (partner_part frame)) q) in
    rw (e, same) (omega (arith, h))
own-left c t i p n (moves m frame out c-is d e) h = rw (e, aside-wait (port_at t i) (moved (port_at t i)) (moved-aside (port_at t i))) (omega (arith, h))
own-left c t i p n (ages c-is e) h =
    let ticked : cost c ≡ 1 = ap cost c-is in
    rw (e, advanced-wait (port_at t i)) (omega (arith, h, ticked))
own-left c t i p n (turns m l c-is is d e) h = rw (e, aside-wait (port_at t i) (lined l (port_at t i)) (lined-aside l (port_at t i))) (omega (arith, h))
own-left c t i p n (gets m x c-is is e) h = rw (e, aside-wait (port_at t i) (configured x (port_at t i)) (settings-aside x (port_at t i))) (omega (arith, h))

-- ---- steps 3 to 6

paced-waits : (n : ℕ) (p : Port) → Waits n p → Waits n (periodic_run p)
paced-waits n p w = record {
  waiting = ap (λ (x : Port). waits x.phase.mux) (periodic-keeps p) ∙ w.waiting;
  left = let same : (periodic_run p).timers.wait ≡ p.timers.wait = ap (λ (x : Port). x.timers.wait) (periodic-keeps p) in rw same w.left;
}

cleared_waits : (n : ℕ) (p : Port) → Waits n p → Waits n (ntt_cleared p)
cleared_waits n p w = record {
  waiting = ap (λ (x : Port). waits x.phase.mux) (cleared_keeps p) ∙ w.waiting;
  left = let same : (ntt_cleared p).timers.wait ≡ p.timers.wait = ap (λ (x : Port). x.timers.wait) (cleared_keeps p) in rw same w.left;
}

begun-waits : (n : ℕ) (p : Port) → n ≤ aggregate_wait_time → Begins p → Waits n p
begun-waits n p few b = record { waiting = b.waiting; left = let whole = b.whole in omega (arith, few, whole) }

runs_on : (t : Ticks) → 1 ≤ t.0 → ran_out t ≡ false
runs_on t h = ne_eqb t.0 0 (λ e. omega (arith, h, e))

module _ (t : List ℕ) (s : Sound t) (ps : List Port) (b : Before t ps) (i : ℕ) (h : i < count_in t) (n : ℕ) (some : 1 ≤ n) (few : n ≤ aggregate_wait_time) where
  qs : List Port
  qs = map periodic_run ps

  q : Port
  q = get_or qs i (decoded [])

  work_waits : Waits n (get_or ps i (decoded [])) → Waits n (port_at (again t (worked (ours t) ps)) i)
  unfolding qs q
  work_waits w = by (must_move (rule_of (ours t) (map compared qs) i) q) refl
    where
      paced : Waits n q
      paced = subst (Waits n) (sym (paced-at t s ps b i h)) (paced-waits n (get_or ps i (decoded [])) w)

      by : (x : Bool) → must_move (rule_of (ours t) (map compared qs) i) q ≡ x → Waits n (port_at (again t (worked (ours t) ps)) i)
      by true x = begun-waits n _ few (moves-begins t s ps b i h x)
      by false x =
          let left = paced.left in
          subst (Waits n)
          (sym (work_at t s ps b i h ∙ settled-waits (ours t) qs i (decoded []) (paced-inside t s ps b i h) x paced.waiting (runs_on q.timers.wait (omega (arith, left, some)))))
          (cleared_waits n q paced)

-- ---- a call, and calls

module _ (t : List ℕ) (s : Sound t) (i : ℕ) (h : i < count_in t) (n : ℕ) (some : 1 ≤ n) (few : n ≤ aggregate_wait_time) where
  course-waits : (c : Call) (u : List ℕ) → Course c t u i → Waits (n + cost c) (port_at t i) → Waits n (port_at u i)
  course-waits c u (stays e) w = record { waiting = rw e w.waiting; left = let left = w.left in rw e (omega (arith, left)) }
  course-waits c u (sends e) w = unfold sent in record { waiting = rw e w.waiting; left = let left = w.left in rw e (omega (arith, left)) }
  course-waits c u (works ps b is own) w =
      subst (λ (v : List ℕ). Waits n (port_at v i)) (sym is)
      (work_waits t s ps b i h n some few (record {
        waiting = ap (λ (x : Seat). waits x.mux) (own-seat c t i (get_or ps i (decoded [])) own) ∙ w.waiting;
        left = own-left c t i (get_or ps i (decoded [])) n own w.left;
      }))

  call-waits : (c : Call) → Takes c → is_start c && accepted (answer c t) ≡ false → Waits (n + cost c) (port_at t i) → Waits n (port_at (after c t) i)
  call-waits c k none w = by (answer c t) refl
    where
      no_start : (b : Bool) → b && true ≡ false → b ≡ false
      no_start true e = e
      no_start false e = refl

      accepts : accepted (answer c t) ≡ true → Waits n (port_at (after c t) i)
      accepts e = course-waits c (after c t) (course t s i h c k e (no_start (is_start c) (ap (λ (x : Bool). is_start c && x) (sym e) ∙ none))) w

      by : (a : Answer) → answer c t ≡ a → Waits n (port_at (after c t) i)
      by (Ok x) e = accepts (ap accepted e)
      by (Err r) e = course-waits c (after c t) (stays (ap (λ (u : List ℕ). port_at u i) (refused-table c t e))) w

ticks-next : (c : Call) (cs : List Call) → ticks_in (c ∷ cs) ≡ ticks_in cs + cost c
unfolding ticks_in
ticks-next c cs = by (is_tick c)
  where
    by : (b : Bool) → cond b (suc (ticks_in cs)) (ticks_in cs) ≡ ticks_in cs + one b
    by true = omega arith
    by false = omega arith

run-waits : (i : ℕ) (t : List ℕ) → Sound t → i < count_in t → (cs : List Call) → AllTake cs → NoneStarts t cs → ticks_in cs < aggregate_wait_time
    → Waits (1 + ticks_in cs) (port_at t i) → Waits 1 (port_at (run t cs) i)
unfolding run
run-waits i t s h [] k none few w = unfold ticks_in in w
run-waits i t s h (c ∷ cs) k none few w =
    let next = ticks-next c cs in
    let left : 1 + ticks_in cs ≤ aggregate_wait_time = omega (arith, few, next) in
    let same : 1 + ticks_in (c ∷ cs) ≡ 1 + ticks_in cs + cost c = omega (arith, next) in
    run-waits i (after c t) (call-sound t s c k.0) (rw (call-count t s c) h) cs k.1 none.1 (omega (arith, left))
    (call-waits t s i h (1 + ticks_in cs) (omega arith) left c k.0 none.0 (subst (λ (n : ℕ). Waits n (port_at t i)) same w))

module _ (i : ℕ) where
  waits-on : (t : List ℕ) → Made t → i < count_in t → (cs : List Call) → AllTake cs → NoneStarts t cs → ticks_in cs < aggregate_wait_time → Begins (port_at t i)
      → waits (port_at (run t cs) i).phase.mux ≡ true
  waits-on t m h cs k none few b =
      (run-waits i t (never_stuck t m) h cs k none few (begun-waits (1 + ticks_in cs) (port_at t i) (omega (arith, few)) b)).waiting

  held : (t : List ℕ) → Made t → i < count_in t → (cs : List Call) → AllTake cs → NoneStarts t cs → ticks_in cs < aggregate_wait_time
      → waits (port_at (run t cs) i).phase.mux ≡ false → (port_at (run t cs) i).aggregator ≡ (port_at t i).aggregator
  unfolding run
  held t m h [] k none few free = refl
  held t m h (c ∷ cs) k none few free = by (eqb (port_at u i).aggregator (port_at t i).aggregator) refl (held u made here cs k.1 none.1 rest free)
    where
      u : List ℕ
      u = after c t

      made : Made u
      made = made-call t m c k.0

      rest : ticks_in cs < aggregate_wait_time
      rest = let next = ticks-next c cs in omega (arith, few, next)

      here : i < count_in u
      here = rw (call-count t (never_stuck t m) c) h

      by : (b : Bool) → eqb (port_at u i).aggregator (port_at t i).aggregator ≡ b → (port_at (run u cs) i).aggregator ≡ (port_at u i).aggregator
          → (port_at (run u cs) i).aggregator ≡ (port_at t i).aggregator
      by true e so = so ∙ eqb-true (port_at u i).aggregator (port_at t i).aggregator e
      by false e so =
          let begins = (one-aggregator t m c k.0 i h (eqb-false (port_at u i).aggregator (port_at t i).aggregator e)).begins in
          absurd (true≢false (sym (waits-on u made here cs k.1 none.1 rest begins) ∙ free))

pub no_move_unseen : NoMoveUnseen
no_move_unseen t m cs k none few i h = record { waits-on = waits-on i t m h cs k none few; held = held i t m h cs k none few }
