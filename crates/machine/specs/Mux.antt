-- The transitions of the Mux machine, independent control (43.4.15, figure 43-13). A second kind of control is a second `mux_next`.
use Rattle.std.specs.Prelude.{Bool, true, false, Option, Some, None}
use Rattle.machine.specs.declared.states.Mux.{Mux}
use Rattle.machine.specs.declared.states.Mux.TheVariants.{Detached, Waiting, Attached, Collecting, Distributing}
use Rattle.machine.specs.declared.states.Selection.{Selection}
use Rattle.machine.specs.declared.states.Selection.TheVariants.{Unselected, Selected}
use Rattle.frame.specs.declared.state.PortState.{PortState}
use Rattle.machine.specs.Bits.{with_synchronization, with_collecting, with_distributing}
use Rattle.machine.specs.declared.states.Ticks.{Ticks}
use Rattle.machine.specs.States.{ticks}
use Rattle.machine.specs.Time.{aggregate_wait_time}

-- what a state means to others; nothing compares state numbers
abbrev pub waits : Mux → Bool
waits Detached = false
waits Waiting = true
waits Attached = false
waits Collecting = false
waits Distributing = false

abbrev pub is_attached : Mux → Bool
is_attached Detached = false
is_attached Waiting = false
is_attached Attached = true
is_attached Collecting = true
is_attached Distributing = true

abbrev pub collects : Mux → Bool
collects Detached = false
collects Waiting = false
collects Attached = false
collects Collecting = true
collects Distributing = true

abbrev pub distributes : Mux → Bool
distributes Detached = false
distributes Waiting = false
distributes Attached = false
distributes Collecting = false
distributes Distributing = true

abbrev pub is_unselected : Selection → Bool
is_unselected Unselected = true
is_unselected Selected = false

-- the transition that applies, if any, by Selected, Ready, and the partner's Synchronization and Collecting
abbrev pub mux_next : Mux → Selection → Bool → Bool → Bool → Option Mux
mux_next Detached Unselected ready sync coll = None
mux_next Detached Selected ready sync coll = Some Waiting
mux_next Waiting Unselected ready sync coll = Some Detached
mux_next Waiting Selected true sync coll = Some Attached
mux_next Waiting Selected false sync coll = None
mux_next Attached Unselected ready sync coll = Some Detached
mux_next Attached Selected ready true coll = Some Collecting
mux_next Attached Selected ready false coll = None
mux_next Collecting Unselected ready sync coll = Some Attached
mux_next Collecting Selected ready true true = Some Distributing
mux_next Collecting Selected ready true false = None
mux_next Collecting Selected ready false coll = Some Attached
mux_next Distributing Unselected ready sync coll = Some Collecting
mux_next Distributing Selected ready true true = None
mux_next Distributing Selected ready true false = Some Collecting
mux_next Distributing Selected ready false coll = Some Collecting

-- the actions on entry: the actor's bits, whether NTT is set (DISTRIBUTING sets none), and the wait timer, which belongs to WAITING
-- alone (0 stops it)
abbrev pub mux_bits : Mux → PortState → PortState
mux_bits Detached s = with_collecting (with_distributing (with_synchronization s false) false) false
mux_bits Waiting s = s
mux_bits Attached s = with_collecting (with_synchronization s true) false
mux_bits Collecting s = with_distributing (with_collecting s true) false
mux_bits Distributing s = with_distributing s true

abbrev pub sets_ntt : Mux → Bool
sets_ntt Detached = true
sets_ntt Waiting = false
sets_ntt Attached = true
sets_ntt Collecting = true
sets_ntt Distributing = false

abbrev pub wait_time : Mux → Ticks
wait_time Detached = ticks 0
wait_time Waiting = ticks aggregate_wait_time
wait_time Attached = ticks 0
wait_time Collecting = ticks 0
wait_time Distributing = ticks 0
