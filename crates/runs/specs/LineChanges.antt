-- Request M-103: the sixteen pairs of old and new link and duplex, each from a port that was distributing or whose link fell while it did,
-- with the whole record that one line call leaves.
use Rattle.std.specs.Prelude.{ℕ, ◌≡◌, Bool, true, false, List, [], ◌∷◌, map}
use Rattle.frame.specs.declared.block.Block.{Block}
use Rattle.frame.specs.State.{port_state_of}
use Rattle.frame.specs.Wire.{zeros}
use Rattle.machine.specs.declared.states.Line.{Line}
use Rattle.machine.specs.declared.states.Receive.{Receive}
use Rattle.machine.specs.declared.states.Receive.TheVariants.{PortDisabled, Expired, LacpDisabled, Current}
use Rattle.machine.specs.declared.states.Periodic.{Periodic}
use Rattle.machine.specs.declared.states.Periodic.TheVariants.{NoPeriodic, FastPeriodic, SlowPeriodic}
use Rattle.machine.specs.declared.states.Mux.{Mux}
use Rattle.machine.specs.declared.states.Mux.TheVariants.{Waiting, Attached, Distributing}
use Rattle.machine.specs.declared.states.Selection.TheVariants.{Selected}
use Rattle.machine.specs.Ages.{no_send, ages}
use Rattle.machine.specs.States.{phase, ticks as machine_ticks, timers}
use Rattle.port.specs.declared.record.Port.{Port}
use Rattle.port.specs.Receive.{with_state}
use Rattle.port.specs.Record.{port}
use Rattle.settings.specs.declared.Settings.{Settings}
use Rattle.settings.specs.Settings.{own_of}
use Rattle.table.specs.Layout.{table_size}
use Rattle.table.specs.Table.{port_at}
use Rattle.control.specs.Call.{start, receive, line, fetch}
use Rattle.control.specs.After.{after}
use Rattle.claims.specs.Run.{run}
use Rattle.claims.specs.Speakers.{system, no_delay, block, settings, up_full, up_half, down_full, down_half, frame}
use Rattle.runs.specs.Cases.{ticks}

-- ---- one port, active, long timeout, aggregatable; its default partner is in sync, collecting and distributing

abbrev pub alone : Settings
alone = settings false 0x3C

unfoldable pub begun : List ℕ
begun = after (start 1 (system 9) no_delay alone) (zeros (table_size 1))

-- up at full duplex, and distributing by an LACPDU; what became due by that was fetched long ago
unfoldable pub at_up_full : List ℕ
at_up_full =
    ticks 20 (run (ticks 20 (run begun (line 1 up_full ∷ receive 1 (frame 5 1 0x3D 1 0x05) (zeros 124) ∷ []))) (fetch 1 (zeros 124) ∷ []))

-- up at half duplex, and waiting to attach
unfoldable pub waiting : List ℕ
waiting = run begun (line 1 up_half ∷ [])

-- and distributing by the default block
unfoldable pub at_up_half : List ℕ
at_up_half = ticks 20 waiting

-- down, from where it distributed by an LACPDU
unfoldable pub at_down_full : List ℕ
at_down_full = after (line 1 down_full) at_up_full

unfoldable pub at_down_half : List ℕ
at_down_half = after (line 1 down_half) at_up_full

-- ---- what is seen

-- the port's record after a change to each of the four lines, in this order
abbrev pub changed : List ℕ → List Port
changed t = map (λ l. port_at (after (line 1 l) t) 0) (up_full ∷ up_half ∷ down_full ∷ down_half ∷ [])

-- the record with this receive state and current-while, periodic state and timer, mux state and wait; NTT, line, Actor_Oper_Port_State and
-- partner block in force. It is SELECTED and holds aggregator 1, and no send is remembered
abbrev pub is : Receive → ℕ → Periodic → ℕ → Mux → ℕ → Bool → Line → ℕ → Block → Port
is r c q g m w n l a b =
    port (phase r q m Selected) 1 n l (port_state_of a) (timers (machine_ticks c) (machine_ticks g) (machine_ticks w)) (ages no_send no_send no_send) (own_of alone) b

-- the partner that was heard, and the default one, with the state octet o
abbrev pub heard : ℕ → Block
heard o = block 5 1 o

abbrev pub default : ℕ → Block
default o = with_state alone.default (port_state_of o)

-- from each line to all four. Both values as they are leave the record; a fall keeps the partner that was heard, and half duplex does not
pub record LineChanges : Type 0 where
  pub from-up_full : changed at_up_full
      ≡ is Current 860 SlowPeriodic 260 Distributing 0 false up_full 0x3D (heard 0x3D)
      ∷ is LacpDisabled 0 NoPeriodic 0 Waiting 20 false up_half 0x45 (default 0x38)
      ∷ is PortDisabled 0 NoPeriodic 0 Attached 0 true down_full 0x0D (heard 0x35)
      ∷ is PortDisabled 0 NoPeriodic 0 Attached 0 false down_half 0x0D (heard 0x35)
      ∷ []
  pub from-up_half : changed at_up_half
      ≡ is Expired 30 FastPeriodic 10 Attached 0 true up_full 0xCD (default 0x32)
      ∷ is LacpDisabled 0 NoPeriodic 0 Distributing 0 false up_half 0x7D (default 0x38)
      ∷ is PortDisabled 0 NoPeriodic 0 Attached 0 true down_full 0x4D (default 0x30)
      ∷ is PortDisabled 0 NoPeriodic 0 Attached 0 false down_half 0x4D (default 0x30)
      ∷ []
  -- the same from one that carries nothing yet: no mux falls, so nothing sets NTT
  pub from-waiting : changed waiting
      ≡ is Expired 30 FastPeriodic 10 Waiting 20 false up_full 0xC5 (default 0x32)
      ∷ is LacpDisabled 0 NoPeriodic 0 Waiting 20 false up_half 0x45 (default 0x38)
      ∷ is PortDisabled 0 NoPeriodic 0 Waiting 20 false down_full 0x45 (default 0x30)
      ∷ is PortDisabled 0 NoPeriodic 0 Waiting 20 false down_half 0x45 (default 0x30)
      ∷ []
  pub from-down_full : changed at_down_full
      ≡ is Expired 30 FastPeriodic 10 Attached 0 true up_full 0x8D (heard 0x37)
      ∷ is LacpDisabled 0 NoPeriodic 0 Waiting 20 false up_half 0x45 (default 0x38)
      ∷ is PortDisabled 0 NoPeriodic 0 Attached 0 true down_full 0x0D (heard 0x35)
      ∷ is PortDisabled 0 NoPeriodic 0 Attached 0 false down_half 0x0D (heard 0x35)
      ∷ []
  pub from-down_half : changed at_down_half
      ≡ is Expired 30 FastPeriodic 10 Attached 0 false up_full 0x8D (heard 0x37)
      ∷ is LacpDisabled 0 NoPeriodic 0 Waiting 20 false up_half 0x45 (default 0x38)
      ∷ is PortDisabled 0 NoPeriodic 0 Attached 0 false down_full 0x0D (heard 0x35)
      ∷ is PortDisabled 0 NoPeriodic 0 Attached 0 false down_half 0x0D (heard 0x35)
      ∷ []
