-- Why a port does not carry: the first cause that applies, in an order in which the one that is named is one that a person can act on. Each says one thing of the
-- records as they stand. A later request adds a cause with a number of its own.
use Rattle.std.specs.Prelude.{ℕ, ◌+◌, Bool, true, false, cond, not, ◌&&◌, List, [], ◌∷◌, leb, Option, Some, None}
use Rattle.machine.specs.declared.states.Receive.{Receive}
use Rattle.machine.specs.declared.states.Receive.TheVariants as receive
use Rattle.machine.specs.Mux.{waits, distributes}
use Rattle.machine.specs.Time.{ran_out}
use Rattle.port.specs.declared.record.Port.{Port}
use Rattle.trunk.specs.Ready.{holds_back, held_back}
use Rattle.why.specs.declared.cause.Cause.{Cause}
use Rattle.why.specs.declared.cause.Cause.TheVariants.{Carries, CarriesByDefault, LinkDown, HalfDuplex, Defaulted, Expired, Waits, HeldBack, OutOfSync, NotCollecting}
use Rattle.why.specs.declared.cause.Hold.{Hold}
use Rattle.why.specs.declared.cause.Why.{Why}

-- ---- what the causes say

-- the partner was not heard since the start, or was given up (43.4.12)
abbrev pub is_defaulted : Receive → Bool
is_defaulted receive.Initialize = false
is_defaulted receive.PortDisabled = false
is_defaulted receive.Expired = false
is_defaulted receive.LacpDisabled = false
is_defaulted receive.Defaulted = true
is_defaulted receive.Current = false

-- the partner is silent
abbrev pub is_expired : Receive → Bool
is_expired receive.Initialize = false
is_expired receive.PortDisabled = false
is_expired receive.Expired = true
is_expired receive.LacpDisabled = false
is_expired receive.Defaulted = false
is_expired receive.Current = false

-- the partner's block is the administrative default: LACP is off, or the partner is not heard
abbrev pub is_by_default : Receive → Bool
is_by_default receive.Initialize = false
is_by_default receive.PortDisabled = false
is_by_default receive.Expired = false
is_by_default receive.LacpDisabled = true
is_by_default receive.Defaulted = true
is_by_default receive.Current = false

-- of port p, for whose aggregator somebody waits with a timer still running, or not
abbrev pub says : Bool → Port → Cause → Bool
says held p Carries = distributes p.phase.mux && not (is_by_default p.phase.receive)
says held p CarriesByDefault = distributes p.phase.mux && is_by_default p.phase.receive
says held p LinkDown = not p.line.up
says held p HalfDuplex = p.line.up && not p.line.full
says held p Defaulted = is_defaulted p.phase.receive
says held p Expired = is_expired p.phase.receive
says held p Waits = waits p.phase.mux && not (ran_out p.timers.wait)
says held p HeldBack = waits p.phase.mux && held
says held p OutOfSync = not p.partner.state.synchronization
says held p NotCollecting = p.partner.state.synchronization && not p.partner.state.collecting

-- ---- the first that applies

abbrev pub order : List Cause
order = Carries ∷ CarriesByDefault ∷ LinkDown ∷ HalfDuplex ∷ Defaulted ∷ Expired ∷ Waits ∷ HeldBack ∷ OutOfSync ∷ NotCollecting ∷ []

-- none in memory that no run made
unfoldable pub first_of : (Cause → Bool) → List Cause → Option Cause
first_of f [] = None
first_of f (c ∷ cs) = cond (f c) (Some c) (first_of f cs)

unfoldable pub cause_of : Bool → Port → Option Cause
cause_of held p = first_of (says held p) order

-- ---- who holds others back

-- the ticks that a port still waits for aggregator k, if it waits for it and some are left
unfoldable pub wait_for : ℕ → Port → Option ℕ
wait_for k p = cond (holds_back k p) (Some p.timers.wait.0) None

abbrev pub ticks_left : Option Hold → ℕ
ticks_left None = 0
ticks_left (Some h) = h.ticks

-- port n with this wait, unless another waits longer
abbrev pub longer : Option ℕ → ℕ → Option Hold → Option Hold
longer None n others = others
longer (Some wait) n others = cond (leb (ticks_left others) wait) (Some (record { port = n; ticks = wait })) others

-- of ports with the numbers n, n + 1, .., the one that waits longest for aggregator k, the lowest of several
unfoldable pub longest : ℕ → ℕ → List Port → Option Hold
longest k n [] = None
longest k n (p ∷ ps) = longer (wait_for k p) n (longest k (n + 1) ps)

-- ---- what is reported

-- beside a cause: who holds the port's aggregator back
abbrev pub holder : Option Cause → Option Hold → Option ℕ
holder (Some HeldBack) (Some h) = Some h.port
holder cause hold = None

-- and the ticks that are left, `wait` of the port's own timer
abbrev pub ticks : Option Cause → ℕ → Option Hold → ℕ
ticks (Some Waits) wait hold = wait
ticks (Some HeldBack) wait (Some h) = h.ticks
ticks cause wait hold = 0

-- of port p among these
unfoldable pub why_of : List Port → Port → Why
why_of ps p = record {
  cause = cause_of (held_back p.aggregator ps) p;
  holder = holder (cause_of (held_back p.aggregator ps) p) (longest p.aggregator 1 ps);
  ticks = ticks (cause_of (held_back p.aggregator ps) p) p.timers.wait.0 (longest p.aggregator 1 ps);
}

-- beside a refusal
abbrev pub no_why : Why
no_why = record { cause = None; holder = None; ticks = 0 }

-- the numbers in the C interface
abbrev pub number_of : Cause → ℕ
number_of Carries = 1
number_of CarriesByDefault = 2
number_of LinkDown = 3
number_of HalfDuplex = 4
number_of Defaulted = 5
number_of Expired = 6
number_of Waits = 7
number_of HeldBack = 8
number_of OutOfSync = 9
number_of NotCollecting = 10

-- 0 where none is known
abbrev pub cause_number : Option Cause → ℕ
cause_number None = 0
cause_number (Some c) = number_of c
