-- The causes and reasons of the witness, by computing them. Assumes nothing.
use mathlib.Core.Path.{refl}
use lib.Count.{ones, ones_in, count_trailing_zeros}
use Rattle.octets.specs.Lists.{map_from}
use Rattle.frame.specs.Block.{block_fits}
use Rattle.machine.specs.Compare.{same_address, same_system, same_numbers, same_party, same_view, maintained, in_sync, same_state, same_block}
use Rattle.port.specs.Receive.{record_default, record_pdu, update_selected, update_default_selected, update_ntt, initialized, port_disabled, expired, lacp_disabled, defaulted, pdu_recorded, current, moved, received, receive_choice, receive_step, receive_run, lined}
use Rattle.port.specs.Periodic.{periodic_choice, periodic_step, periodic_run}
use Rattle.port.specs.Transmit.{due, is_due, sent, silent as port_silent, ntt_cleared, ticked, advanced}
use Rattle.port.specs.Mux.{mux_choice, mux_step, detached, placed, attached_if, mux_run}
use Rattle.settings.specs.Settings.{same_grouping, same_settings, regrouped, configured, lawful, blank, started}
use Rattle.port.specs.Range.{timers_in_range, ages_in_range, values_in_range, own_fits}
use Rattle.trunk.specs.Selection.{individual, same_keys, same_group, joins, shares_group, first_from, lowest, rule_of}
use Rattle.trunk.specs.Ready.{waits_for, has_waiting, holds_back, held_back, ready}
use Rattle.trunk.specs.Settled.{must_move, reselected, selected_all, attached_all, muxed, settled}
use Rattle.trunk.specs.Displaced.{is_displaced, displaced_if, displaced}
use Rattle.octets.specs.Octets.{same_octets}
use Rattle.frame.specs.Class.{foreign, unknown, wrong_length, wrong_marker_type, illegal, class_of}
use Rattle.octets.specs.Sets.{member}
use Rattle.report.specs.Sets.{set_of, sets_of, due_of}
use Rattle.table.specs.Range.{codes_in_range, record_in_range, header_fits}
use Rattle.table.specs.Record.{encoded, decoded}
use Rattle.table.specs.State.{port_in}
use Rattle.table.specs.Table.{record_at, ports_from, ports, records_octets, table_octets, first_in_range, table_in_range, decoded_at}
use Rattle.work.specs.Work.{worked, after_one, after_start, received_at, after_received, after_tick, after_line, after_settings, after_send, lacpdu_of}
use Rattle.control.specs.Answer.{found}
use Rattle.control.specs.After.{answer, after, written_by, outgoing, effect}
use Rattle.control.specs.Report.{port_report, aggregator_report, due_report}
use Rattle.claims.specs.Run.{run}
use Rattle.claims.specs.ThreeSends.{sends}
use Rattle.claims.specs.Witness.{ticks, tables, begun, trunk, parted, narrowed, fallen, halved, dropped, rekeyed, silent, restarted, three_groups, plugged_over, two_lags, every, none_ends, fourth}
use Rattle.why.specs.Cause.{first_of, cause_of, wait_for, longest, why_of}
use Rattle.why.specs.Apart.{apart_of, bits_of, apart_number}
use Rattle.claims.specs.Causes.{Causes, held_up, by_word, unanswered}

pub causes : Causes
unfolding same_address same_system same_numbers same_party same_view maintained in_sync same_state same_block record_default record_pdu update_selected update_default_selected update_ntt initialized port_disabled expired lacp_disabled defaulted pdu_recorded current moved received receive_choice receive_step receive_run lined periodic_choice periodic_step periodic_run due is_due sent port_silent ntt_cleared ticked mux_choice mux_step detached placed attached_if mux_run same_grouping same_settings regrouped configured lawful blank started advanced individual same_keys same_group joins shares_group first_from lowest rule_of waits_for has_waiting holds_back held_back ready map_from must_move reselected selected_all attached_all muxed settled is_displaced displaced_if displaced same_octets foreign unknown wrong_length wrong_marker_type illegal class_of set_of sets_of due_of member codes_in_range timers_in_range ages_in_range values_in_range record_in_range block_fits own_fits header_fits encoded decoded record_at decoded_at port_in ports_from ports records_octets table_octets first_in_range table_in_range worked after_one after_start received_at after_received after_tick after_line after_settings after_send lacpdu_of found answer effect after written_by outgoing port_report aggregator_report due_report ones ones_in count_trailing_zeros run ticks tables begun trunk parted narrowed fallen halved dropped rekeyed silent restarted three_groups plugged_over two_lags every none_ends fourth sends first_of cause_of wait_for longest why_of apart_of bits_of apart_number held_up by_word unanswered
causes = record {
  at-start = refl;
  in_trunk = refl;
  in_narrowed = refl;
  in_unsynced = refl;
  in_parted = refl;
  in_fallen = refl;
  in_halved = refl;
  in_rekeyed = refl;
  in_silent = refl;
  in_unanswered = refl;
  held_up_lem = refl;
  by_word_lem = refl;
  own-ticks = (refl, refl);
  held_cause = refl;
  held-ticks = (refl, refl);
  apart = refl;
  itself = refl;
}
