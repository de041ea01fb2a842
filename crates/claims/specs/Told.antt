-- What the two reports beyond R15 say of a table that calls made: why a port does not carry (why/specs/Cause.antt), and why two are apart (why/specs/Apart.antt).
use Rattle.std.specs.Prelude.{ℕ, ◌+◌, ◌≤◌, ◌<◌, ◌≡◌, ◌≢◌, Bool, true, false, cond, List, Option, Some, None}
use Rattle.machine.specs.declared.states.Line.{Line}
use Rattle.machine.specs.declared.states.Mux.TheVariants as mux
use Rattle.machine.specs.declared.states.Receive.TheVariants as receive
use Rattle.machine.specs.Mux.{waits, distributes}
use Rattle.machine.specs.Time.{aggregate_wait_time}
use Rattle.port.specs.declared.record.Port.{Port}
use Rattle.table.specs.Table.{count_in, ports, port_at}
use Rattle.trunk.specs.Ready.{held_back}
use Rattle.why.specs.declared.cause.Cause.{Cause}
use Rattle.why.specs.declared.cause.Cause.TheVariants.{Carries, CarriesByDefault, LinkDown, HalfDuplex, Defaulted, Expired, Waits, HeldBack, OutOfSync, NotCollecting}
use Rattle.why.specs.declared.cause.Why.{Why}
use Rattle.why.specs.Cause.{is_defaulted, why_of}
use Rattle.control.specs.Call.{Call}
use Rattle.control.specs.After.{after}
use Rattle.claims.specs.Run.{Takes, Made}
use Rattle.claims.specs.Thinner.{Why as Event, restarted, other-line, regrouped, told, unheard, joined, left}

-- of port i, from 0
abbrev pub why_in : List ℕ → ℕ → Why
why_in t i = why_of (ports t) (port_at t i)

-- whether somebody waits for its aggregator with a timer still running
abbrev pub held_in : List ℕ → ℕ → Bool
held_in t i = held_back (port_at t i).aggregator (ports t)

-- ---- some cause is always given

-- in which states a port is that has it
abbrev pub Stands : Option Cause → Port → Type 0
Stands None p = ⊥
Stands (Some Carries) p = (p.phase.mux ≡ mux.Distributing) × (p.phase.receive ≡ receive.Current)
Stands (Some CarriesByDefault) p = p.phase.mux ≡ mux.Distributing
Stands (Some LinkDown) p = p.phase.receive ≡ receive.PortDisabled
Stands (Some HalfDuplex) p = p.phase.receive ≡ receive.LacpDisabled
Stands (Some Defaulted) p = p.phase.receive ≡ receive.Defaulted
Stands (Some Expired) p = p.phase.receive ≡ receive.Expired
Stands (Some Waits) p = (p.phase.mux ≡ mux.Waiting) × (p.phase.receive ≡ receive.Current)
Stands (Some HeldBack) p = (p.phase.mux ≡ mux.Waiting) × (p.phase.receive ≡ receive.Current)
Stands (Some OutOfSync) p = (p.phase.mux ≡ mux.Attached) × (p.phase.receive ≡ receive.Current)
Stands (Some NotCollecting) p = (p.phase.mux ≡ mux.Collecting) × (p.phase.receive ≡ receive.Current)

-- 18: a port of a table that calls made is never without a cause, and stands as its cause says
abbrev pub AlwaysTold : Type 0
AlwaysTold = (t : List ℕ) → Made t → (i : ℕ) → i < count_in t → Stands (why_in t i).cause (port_at t i)

-- beside it: the port's own ticks, of which some are left
pub record Waiting (t : List ℕ) (i : ℕ) : Type 0 where
  pub nobody : (why_in t i).holder ≡ None
  pub ticks : (why_in t i).ticks ≡ (port_at t i).timers.wait.0
  pub some : 1 ≤ (why_in t i).ticks
  pub most : (why_in t i).ticks ≤ aggregate_wait_time

-- or another port that waits for the same aggregator, and how long: nobody that waits for it has more ticks left, and who of them has a lower number has fewer
pub record Behind (t : List ℕ) (i : ℕ) : Type 0 where
  pub holder : ℕ
  pub there : holder < count_in t
  pub is : (why_in t i).holder ≡ Some (holder + 1)
  pub other : holder ≢ i
  pub same : (port_at t holder).aggregator ≡ (port_at t i).aggregator
  pub waiting : waits (port_at t holder).phase.mux ≡ true
  pub ticks : (why_in t i).ticks ≡ (port_at t holder).timers.wait.0
  pub some : 1 ≤ (why_in t i).ticks
  pub longest : (j : ℕ) → j < count_in t → (port_at t j).aggregator ≡ (port_at t i).aggregator → waits (port_at t j).phase.mux ≡ true
      → (port_at t j).timers.wait.0 ≤ (why_in t i).ticks
  pub lowest : (j : ℕ) → j < holder → (port_at t j).aggregator ≡ (port_at t i).aggregator → waits (port_at t j).phase.mux ≡ true
      → (port_at t j).timers.wait.0 < (why_in t i).ticks

pub record Beside (t : List ℕ) (i : ℕ) : Type 0 where
  pub waits : (why_in t i).cause ≡ Some Waits → Waiting t i
  pub held : (why_in t i).cause ≡ Some HeldBack → Behind t i

abbrev pub BesideTrue : Type 0
BesideTrue = (t : List ℕ) → Made t → (i : ℕ) → i < count_in t → Beside t i

-- ---- after a call that took a port out of its trunk

-- what a port waits with that was led down: its own timer, unless LACP is off or its partner is a default
abbrev pub led_down : Port → Cause
led_down p = cond p.line.full (cond (is_defaulted p.phase.receive) Defaulted Waits) HalfDuplex

abbrev pub by_line : Line → Cause
by_line l = cond l.up (cond l.full Expired HalfDuplex) LinkDown

-- of an LACPDU that shows the partner to be another, out of sync or not collecting
abbrev pub by_frame : Option Cause → Bool
by_frame (Some Waits) = true
by_frame (Some OutOfSync) = true
by_frame (Some NotCollecting) = true
by_frame cause = false

-- the cause x that goes with an event; p is the port after the call
abbrev pub GoesWith : {c : Call} {t : List ℕ} {i : ℕ} → Event c t i → Port → Option Cause → Type 0
GoesWith (restarted s) p x = x ≡ Some LinkDown
GoesWith (other-line n l c-is is differs) p x = x ≡ Some (by_line l)
GoesWith (regrouped n s c-is is differs) p x = x ≡ Some (led_down p)
GoesWith (told n frame out c-is is not_so) p x = by_frame x ≡ true
GoesWith (unheard c-is last) p x = x ≡ Some Expired
GoesWith (joined k less before then) p x = x ≡ Some (led_down p)
GoesWith (left k lowest before then) p x = x ≡ Some (led_down p)

pub record Thinned (c : Call) (t : List ℕ) (i : ℕ) : Type 0 where
  pub event : Event c t i
  pub names : GoesWith event (port_at (after c t) i) (why_in (after c t) i).cause

-- 19: after a call that took a port out of its trunk, the cause that is given goes with the event
abbrev pub ThinnerTold : Type 0
ThinnerTold = (t : List ℕ) → Made t → (c : Call) → Takes c → (i : ℕ) → i < count_in t
    → distributes (port_at t i).phase.mux ≡ true → distributes (port_at (after c t) i).phase.mux ≡ false → Thinned c t i
