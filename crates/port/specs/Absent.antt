-- The record of no port: what zero octets tell of. Reports give it beside a refusal (R2.20), and a state has it where it has no port.
use Rattle.std.specs.Prelude.{false, Some}
use Rattle.frame.specs.declared.state.PortState.{PortState}
use Rattle.frame.specs.declared.block.Address.{Address}
use Rattle.frame.specs.declared.block.Block.{Block}
use Rattle.machine.specs.declared.states.Receive.TheVariants.{Initialize}
use Rattle.machine.specs.declared.states.Periodic.TheVariants.{NoPeriodic}
use Rattle.machine.specs.declared.states.Mux.TheVariants.{Detached}
use Rattle.machine.specs.declared.states.Selection.TheVariants.{Unselected}
use Rattle.machine.specs.Bits.{state}
use Rattle.machine.specs.States.{phase, ticks, timers}
use Rattle.machine.specs.Ages.{ages}
use Rattle.port.specs.declared.record.Own.{Own}
use Rattle.port.specs.declared.record.Port.{Port}
use Rattle.port.specs.Record.{port}

abbrev no_address : Address
no_address = record { high = 0; middle = 0; low = 0 }

abbrev no_state : PortState
no_state = state false false false false false false false false

abbrev pub no_block : Block
no_block = record {
  system = record { priority = 0; address = no_address };
  key = 0;
  port = record { priority = 0; number = 0 };
  state = no_state;
}

abbrev no_own : Own
no_own = record { address = no_address; key = 0; priority = 0; default = no_block }

abbrev pub no_port : Port
no_port =
    port (phase Initialize NoPeriodic Detached Unselected) 0 false (record { up = false; full = false }) no_state
    (timers (ticks 0) (ticks 0) (ticks 0)) (ages (Some 0) (Some 0) (Some 0)) no_own no_block
