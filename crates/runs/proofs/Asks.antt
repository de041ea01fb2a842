-- A Marker between two systems, by computation. Assumes nothing.
use mathlib.Core.Path.{refl}
use Rattle.octets.specs.Lists.{map_from}
use Rattle.octets.specs.Octets.{same_octets, put_at}
use Rattle.octets.specs.Rows.{row_at, rows_to}
use Rattle.machine.specs.Compare.{same_address, same_system, same_numbers, same_party, same_view, maintained, in_sync, same_state, same_block}
use Rattle.port.specs.Receive.{record_default, record_pdu, update_selected, update_default_selected, update_ntt, initialized, port_disabled, expired, lacp_disabled, defaulted, pdu_recorded, current, moved, received, receive_choice, receive_step, receive_run, lined}
use Rattle.port.specs.Periodic.{periodic_choice, periodic_step, periodic_run}
use Rattle.port.specs.Transmit.{due, sent, silent as transmit_silent, ntt_cleared, ticked, advanced}
use Rattle.port.specs.Mux.{mux_choice, mux_step, detached, placed, attached_if, mux_run}
use Rattle.port.specs.Range.{timers_in_range, ages_in_range, values_in_range}
use Rattle.settings.specs.Settings.{lawful, blank, started as settings_started, configured, same_settings, same_grouping, regrouped}
use Rattle.trunk.specs.Selection.{individual, same_keys, same_group, joins, first_from, lowest, rule_of}
use Rattle.trunk.specs.Ready.{waits_for, has_waiting, holds_back, held_back, ready}
use Rattle.trunk.specs.Settled.{must_move, reselected, selected_all, attached_all, muxed, settled as settled_settled}
use Rattle.trunk.specs.Displaced.{is_displaced, displaced_if, displaced}
use Rattle.frame.specs.Class.{foreign, unknown, wrong_length, wrong_marker_type, illegal, class_of}
use Rattle.table.specs.Range.{codes_in_range, record_in_range}
use Rattle.table.specs.Record.{encoded, decoded}
use Rattle.table.specs.State.{port_in}
use Rattle.table.specs.Table.{record_at, ports_from, ports, records_octets, table_octets, first_in_range, table_in_range, decoded_at}
use Rattle.work.specs.Work.{lacpdu_of, response_of, worked, after_one, after_start, received_at, after_received, after_tick, after_line, after_settings, after_send}
use Rattle.control.specs.After.{answer, after, effect, written_by, outgoing}
use Rattle.churn.specs.Churn.{churn_choice, watched, watching, monitors_fallen}
use Rattle.churn.specs.Group.{group_octets, group_of, group_in_range}
use Rattle.asks.specs.Ask.{ended, ask_fallen}
use Rattle.asks.specs.Group.{group_octets as asks_group_octets, group_of as asks_group_of, group_in_range as asks_group_in_range}
use Rattle.asks.specs.Groups.{ask_at, groups_in_range as asks_groups_in_range, all_fallen, all_begun}
use Rattle.churn.specs.Whole.{base_of, group_at, monitors_at, groups_to, with_monitors, groups_in_range, has_monitors, watched_at, watched_all}
use Rattle.whole.specs.Calls.{whole_answer, whole_after, whole_outgoing}
use Rattle.asked.specs.Asked.{has_asks}
use Rattle.asked.specs.Calls.{asked_answer, asked_after, asked_outgoing}
use Rattle.asked.specs.Ask.{ask_answer, ask_after, ask_outgoing}
use Rattle.runs.specs.Asks.{Asks, speaks, moment, moments, begun, carrying, ticking}

pub marker_between : Asks carrying
unfolding same_address same_system same_numbers same_party same_view maintained in_sync same_state same_block record_default record_pdu update_selected update_default_selected update_ntt initialized port_disabled expired lacp_disabled defaulted pdu_recorded current moved received receive_choice receive_step receive_run lined periodic_choice periodic_step periodic_run due sent transmit_silent ntt_cleared ticked mux_choice mux_step detached placed attached_if mux_run lawful blank settings_started configured same_settings same_grouping regrouped advanced individual same_keys same_group joins first_from lowest rule_of waits_for has_waiting holds_back held_back ready map_from must_move reselected selected_all attached_all muxed settled_settled is_displaced displaced_if displaced same_octets foreign unknown wrong_length wrong_marker_type illegal class_of codes_in_range timers_in_range ages_in_range values_in_range record_in_range encoded decoded record_at decoded_at port_in ports_from ports records_octets table_octets first_in_range table_in_range worked after_one after_start received_at after_received after_tick after_line after_settings after_send answer effect after churn_choice watched watching monitors_fallen group_octets group_of group_in_range base_of group_at monitors_at groups_to with_monitors groups_in_range has_monitors watched_at watched_all whole_answer whole_after lacpdu_of response_of written_by outgoing whole_outgoing put_at row_at rows_to ended ask_fallen asks_group_octets asks_group_of asks_group_in_range ask_at asks_groups_in_range all_fallen all_begun has_asks asked_answer asked_after asked_outgoing ask_answer ask_after ask_outgoing speaks moment moments begun carrying ticking
marker_between = record {
  accepted = refl;
  awaited = refl;
  again = refl;
  heard = refl;
  brought = refl;
  answered = refl;
  twice = refl;
  in_time = refl;
  just = refl;
  timed-out = refl;
  late = refl;
  repeated = refl;
  cancelled = refl;
  down = refl;
}
