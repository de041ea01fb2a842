-- The sixteen changes of link and duplex, by computation. Assumes nothing.
use mathlib.Core.Path.{refl}
use Rattle.octets.specs.Lists.{map_from}
use Rattle.machine.specs.Compare.{same_address, same_system, same_numbers, same_party, same_view, maintained, in_sync}
use Rattle.port.specs.Receive.{record_default, record_pdu, update_selected, update_default_selected, update_ntt, initialized, port_disabled, expired, lacp_disabled, defaulted, pdu_recorded, current, moved, received, receive_choice, receive_step, receive_run, lined}
use Rattle.port.specs.Periodic.{periodic_choice, periodic_step, periodic_run}
use Rattle.port.specs.Transmit.{due, sent, silent, ntt_cleared, ticked, advanced}
use Rattle.port.specs.Mux.{mux_choice, mux_step, detached, placed, attached_if, mux_run}
use Rattle.port.specs.Range.{timers_in_range, ages_in_range, values_in_range}
use Rattle.settings.specs.Settings.{lawful, blank, started as settings_started}
use Rattle.trunk.specs.Selection.{individual, same_keys, same_group, joins, first_from, lowest, rule_of}
use Rattle.trunk.specs.Ready.{waits_for, has_waiting, holds_back, held_back, ready}
use Rattle.trunk.specs.Settled.{must_move, reselected, selected_all, attached_all, muxed, settled}
use Rattle.trunk.specs.Displaced.{is_displaced, displaced_if, displaced}
use Rattle.octets.specs.Octets.{same_octets}
use Rattle.frame.specs.Class.{foreign, unknown, wrong_length, wrong_marker_type, illegal, class_of}
use Rattle.table.specs.Range.{codes_in_range, record_in_range}
use Rattle.table.specs.Record.{encoded, decoded}
use Rattle.table.specs.State.{port_in}
use Rattle.table.specs.Table.{record_at, ports_from, ports, records_octets, table_octets, first_in_range, table_in_range, decoded_at}
use Rattle.work.specs.Work.{worked, after_one, after_start, received_at, after_received, after_tick, after_line, after_send}
use Rattle.control.specs.After.{answer, after, effect}
use Rattle.claims.specs.Run.{run}
use Rattle.runs.specs.Cases.{ticks}
use Rattle.runs.specs.LineChanges.{LineChanges, begun, at_up_full, waiting, at_up_half, at_down_full, at_down_half}

pub line-changes : LineChanges
unfolding same_address same_system same_numbers same_party same_view maintained in_sync record_default record_pdu update_selected update_default_selected update_ntt initialized port_disabled expired lacp_disabled defaulted pdu_recorded current moved received receive_choice receive_step receive_run lined periodic_choice periodic_step periodic_run due sent silent ntt_cleared ticked mux_choice mux_step detached placed attached_if mux_run lawful blank settings_started advanced individual same_keys same_group joins first_from lowest rule_of waits_for has_waiting holds_back held_back ready map_from must_move reselected selected_all attached_all muxed settled is_displaced displaced_if displaced same_octets foreign unknown wrong_length wrong_marker_type illegal class_of codes_in_range timers_in_range ages_in_range values_in_range record_in_range encoded decoded record_at decoded_at port_in ports_from ports records_octets table_octets first_in_range table_in_range worked after_one after_start received_at after_received after_tick after_line after_send answer effect after run ticks begun at_up_full waiting at_up_half at_down_full at_down_half
line-changes = record {
  from-up_full = refl;
  from-up_half = refl;
  from-waiting = refl;
  from-down_full = refl;
  from-down_half = refl;
}
