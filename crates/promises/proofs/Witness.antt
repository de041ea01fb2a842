-- The witness, by computation, and the theorems applied to it. Assumes nothing.
use Prim.Native.Nat.{ℕ, zero, suc}
use mathlib.Core.Path.{◌≡◌, refl, sym, ap, ◌∙◌}
use mathlib.Core.Bool.{true}
use mathlib.Core.List.{[], ◌∷◌}
use Rattle.std.specs.Prelude.{Option}
use native.Mathlib.Omega.{arith}
use Rattle.octets.specs.Lists.{map_from}
use Rattle.octets.specs.Octets.{Octets, same_octets}
use Rattle.frame.specs.Block.{block_fits}
use Rattle.frame.specs.Class.{foreign, unknown, wrong_length, wrong_marker_type, illegal, class_of}
use Rattle.frame.specs.Wire.{zeros}
use Rattle.machine.specs.Compare.{same_address, same_system, same_numbers, same_party, same_view, maintained, in_sync, same_state, same_block}
use Rattle.port.specs.Receive.{record_default, record_pdu, update_selected, update_default_selected, update_ntt, initialized, port_disabled, expired, lacp_disabled, defaulted, pdu_recorded, current, moved, received, receive_choice, receive_step, receive_run, lined}
use Rattle.port.specs.Periodic.{periodic_choice, periodic_step, periodic_run}
use Rattle.port.specs.Transmit.{due, sent, silent, ntt_cleared, ticked, advanced}
use Rattle.port.specs.Mux.{mux_choice, mux_step, detached, placed, attached_if, mux_run}
use Rattle.port.specs.Range.{timers_in_range, ages_in_range, values_in_range, own_fits}
use Rattle.settings.specs.Settings.{lawful, blank, started, configured, same_settings, same_grouping, regrouped}
use Rattle.trunk.specs.Selection.{individual, same_keys, same_group, joins, first_from, lowest, rule_of}
use Rattle.trunk.specs.Ready.{waits_for, has_waiting, holds_back, held_back, ready}
use Rattle.trunk.specs.Settled.{must_move, reselected, selected_all, attached_all, muxed, settled}
use Rattle.trunk.specs.Displaced.{is_displaced, displaced_if, displaced}
use Rattle.table.specs.Range.{codes_in_range, record_in_range, header_fits}
use Rattle.table.specs.Record.{encoded, decoded}
use Rattle.table.specs.State.{port_in}
use Rattle.table.specs.Table.{record_at, ports_from, ports, records_octets, table_octets, first_in_range, table_in_range, decoded_at}
use Rattle.work.specs.Work.{worked, after_one, after_start, received_at, after_received, after_tick, after_line, after_settings, after_send}
use Rattle.control.specs.After.{answer, after, effect}
use Rattle.churn.specs.Churn.{churn_choice, watched, watching, monitors_fallen}
use Rattle.churn.specs.Group.{group_octets, group_of, group_in_range}
use Rattle.churn.specs.Whole.{whole_size, base_of, group_at, monitors_at, groups_to, with_monitors, groups_in_range, has_monitors, watched_at, watched_all}
use Rattle.whole.specs.Calls.{whole_answer, whole_after}
use Rattle.whole.specs.Moves.{moved_forward, forward_answer, forward_to, back_answer, back_to}
use Rattle.control.specs.Call.{line, tick}
use Rattle.claims.specs.Speakers.{up_full, frame}
use Rattle.claims.specs.Witness.{every}
use Rattle.claims.proofs.Witness.{is_octet, octets}
use Rattle.octets.specs.Rows.{row_at, rows_to}
use Rattle.asks.specs.Ask.{ended}
use Rattle.asks.specs.Group.{group_octets as asks_group_octets, group_of as asks_group_of, group_in_range as asks_group_in_range}
use Rattle.asks.specs.Groups.{ask_at, groups_in_range as asks_groups_in_range, all_fallen, all_begun}
use Rattle.asked.specs.Asked.{has_asks}
use Rattle.asked.specs.Calls.{asked_answer, asked_after}
use Rattle.promises.specs.Asked.{done}
use Rattle.promises.specs.Run.{call, stepped, through, AllStepsTake, FromStart, HeldMade}
use Rattle.counters.specs.Counters.{received as receivedCounts, fetched}
use Rattle.promises.specs.Counts.{counters_after, all_of}
use Rattle.promises.specs.Churn.{Seen, history, churns, HasPort, shortened}
use Rattle.promises.specs.Witness.{Witness, Applied, memory, begin, there_and_back, steps, memory2, begin2, steps2, steps3, linked}
use Rattle.promises.proofs.Churn.{two_runs, two_runs-shortened}
use Rattle.promises.proofs.Through.{goes_through}

pub witness : Witness
unfolding same_address same_system same_numbers same_party same_view maintained in_sync same_state same_block record_default record_pdu update_selected update_default_selected update_ntt initialized port_disabled expired lacp_disabled defaulted pdu_recorded current moved received receive_choice receive_step receive_run lined periodic_choice periodic_step periodic_run due sent silent ntt_cleared ticked mux_choice mux_step detached placed attached_if mux_run lawful blank started configured same_settings same_grouping regrouped advanced individual same_keys same_group joins first_from lowest rule_of waits_for has_waiting holds_back held_back ready map_from must_move reselected selected_all attached_all muxed settled is_displaced displaced_if displaced same_octets foreign unknown wrong_length wrong_marker_type illegal class_of codes_in_range timers_in_range ages_in_range values_in_range record_in_range encoded decoded record_at decoded_at port_in ports_from ports records_octets table_octets first_in_range table_in_range worked after_one after_start received_at after_received after_tick after_line after_settings after_send answer effect after churn_choice watched watching monitors_fallen group_octets group_of group_in_range base_of group_at monitors_at groups_to with_monitors groups_in_range has_monitors watched_at watched_all whole_answer whole_after moved_forward forward_answer forward_to back_answer back_to stepped through history churns shortened receivedCounts fetched counters_after all_of done asked_answer asked_after has_asks ended asks_group_octets asks_group_of asks_group_in_range ask_at asks_groups_in_range all_fallen all_begun row_at rows_to
witness = record {
  accepted-one = refl;
  accepted-two = refl;
  count-one = refl;
  count-two = refl;
  history-one = refl;
  history-two = refl;
  runs = refl;
  seen_one = refl;
  seen-two = refl;
  shorter_one = refl;
  shorter_two = refl;
  counts = refl;
  to-count = refl;
  taken = refl;
  none-ends = (refl, (refl, (refl, tt)));
}

-- ---- the theorems' premises

all-zero : (n : ℕ) → every is_octet (zeros n) ≡ true
unfolding every
all-zero zero = refl
all-zero (suc n) = all-zero n

memory-octets : (n : ℕ) → Octets (zeros n)
memory-octets n = octets (zeros n) (all-zero n)

frame-octets : Octets (frame 5 1 0x05 1 0x05)
unfolding every
frame-octets = octets (frame 5 1 0x05 1 0x05) refl

no_octets : Octets []
unfolding every
no_octets = octets [] refl

takes : AllStepsTake (call begin ∷ steps)
unfolding header_fits own_fits block_fits
takes =
    ((refl, refl), (tt, (tt, ((frame-octets, memory-octets 124), (tt, (memory-octets 68, (tt, (memory-octets 82, (tt, ((refl, refl), (tt, (tt, (tt, (tt, tt))))))))))))))

takes2 : AllStepsTake (call begin2 ∷ steps2)
unfolding header_fits own_fits block_fits
takes2 =
    ((refl, refl), (tt, (tt, (no_octets, (tt, (memory-octets 125, (memory-octets 82, (memory-octets 153, (tt, ((refl, refl), (tt, ((refl, refl), (tt, (tt, tt))))))))))))))

takes3 : AllStepsTake (call begin2 ∷ steps3)
unfolding header_fits own_fits block_fits
takes3 = ((refl, refl), (tt, (tt, (tt, (memory-octets 125, (memory-octets 153, (tt, ((refl, refl), (tt, (tt, (tt, tt)))))))))))

first : FromStart memory begin steps
first = record { octets = memory-octets (whole_size 1); is_start = refl; accepted = witness.accepted-one; takes = takes }

second : FromStart memory2 begin2 steps2
second = record { octets = memory-octets (whole_size 2); is_start = refl; accepted = witness.accepted-two; takes = takes2 }

third : FromStart memory2 begin2 steps3
third = record { octets = memory-octets (whole_size 2); is_start = refl; accepted = witness.accepted-two; takes = takes3 }

port-one : HasPort memory begin 0
port-one = let n = witness.count-one in omega (arith, n)

port-two : HasPort memory2 begin2 1
port-two = let n = witness.count-two in omega (arith, n)

linked-made : HeldMade linked
linked-made = record {
  memory = memory;
  start = begin;
  steps = call (line 1 up_full) ∷ call tick ∷ [];
  run = record { octets = memory-octets (whole_size 1); is_start = refl; accepted = witness.accepted-one; takes = (takes.0, (tt, (tt, tt))) };
  gives = refl;
}

pub applied : Applied
applied = record {
  two_runs = two_runs memory2 memory begin2 begin steps2 steps second first 1 0 port-two port-one (witness.history-two ∙ sym witness.history-one);
  two_runs-shortened =
      two_runs-shortened memory2 memory begin2 begin steps3 steps third first 1 0 port-two port-one (witness.seen-two ∙ sym witness.seen_one)
      (ap (λ (x : Option Seen). shortened x (history 1 (stepped (call begin2) memory2) steps3)) witness.seen-two ∙ witness.shorter_two
      ∙ sym (ap (λ (x : Option Seen). shortened x (history 0 (stepped (call begin) memory) steps)) witness.seen_one ∙ witness.shorter_one));
  live =
      goes_through.live-partner linked linked-made 1 (frame 5 1 0x05 1 0x05) (zeros 124) (frame-octets, memory-octets 124) witness.taken there_and_back
      (tt, (memory-octets 68, (tt, (memory-octets 82, (tt, tt))))) witness.none-ends;
}
