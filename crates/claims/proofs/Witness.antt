-- The witness, by computation; and that lists of octets are octets, by a test of each. Assumes nothing.
use Prim.Native.Nat.{ℕ, zero, suc}
use mathlib.Core.Path.{◌≡◌, refl}
use mathlib.Core.Bool.{Bool, true, and-eq-true_iff}
use mathlib.Core.List.{List, [], ◌∷◌}
use native.Mathlib.Omega.{arith}
use lib.Dec.{ltb}
use lib.Count.{ones, ones_in, count_trailing_zeros}
use borrow.Author.Tests.{ltb-true}
use Rattle.octets.specs.Lists.{map_from}
use Rattle.frame.specs.Block.{block_fits}
use Rattle.machine.specs.Compare.{same_address, same_system, same_numbers, same_party, same_view, maintained, in_sync, same_state, same_block}
use Rattle.port.specs.Receive.{record_default, record_pdu, update_selected, update_default_selected, update_ntt, initialized, port_disabled, expired, lacp_disabled, defaulted, pdu_recorded, current, moved, received, receive_choice, receive_step, receive_run, lined}
use Rattle.port.specs.Periodic.{periodic_choice, periodic_step, periodic_run}
use Rattle.port.specs.Transmit.{due, is_due, sent, silent as port_silent, ntt_cleared, ticked, advanced}
use Rattle.port.specs.Mux.{mux_choice, mux_step, detached, placed, attached_if, mux_run}
use Rattle.settings.specs.Settings.{same_grouping, same_settings, regrouped, configured, lawful, blank, started}
use Rattle.port.specs.Range.{timers_in_range, ages_in_range, values_in_range, own_fits}
use Rattle.trunk.specs.Selection.{individual, same_keys, same_group, joins, shares_group, first_from, lowest, rule_of}
use Rattle.trunk.specs.Ready.{waits_for, has_waiting, holds_back, held_back, ready}
use Rattle.trunk.specs.Settled.{must_move, reselected, selected_all, attached_all, muxed, settled}
use Rattle.trunk.specs.Displaced.{is_displaced, displaced_if, displaced}
use Rattle.octets.specs.Octets.{Octets, same_octets}
use Rattle.frame.specs.Class.{foreign, unknown, wrong_length, wrong_marker_type, illegal, class_of, frame_size}
use Rattle.frame.specs.Wire.{zeros}
use Rattle.octets.specs.Sets.{member}
use Rattle.report.specs.Sets.{set_of, sets_of, due_of}
use Rattle.table.specs.Range.{codes_in_range, record_in_range, header_fits}
use Rattle.table.specs.Record.{encoded, decoded}
use Rattle.table.specs.State.{port_in}
use Rattle.table.specs.Table.{record_at, ports_from, ports, records_octets, table_octets, first_in_range, table_in_range, decoded_at}
use Rattle.work.specs.Work.{worked, after_one, after_start, received_at, after_received, after_tick, after_line, after_settings, after_send, lacpdu_of}
use Rattle.control.specs.Answer.{found}
use Rattle.control.specs.After.{answer, after, written_by, outgoing, effect}
use Rattle.control.specs.Report.{port_report, aggregator_report, due_report}
use Rattle.control.specs.Call.{Call}
use Rattle.claims.specs.Run.{Takes, AllTake, run}
use Rattle.claims.specs.ThreeSends.{sends}
use Rattle.claims.specs.Speakers.{system, no_delay, settings}
use Rattle.claims.specs.Witness.{Witness, said, hears, memory, ticks, later, calls, tables, begun, trunk, parted, narrowed, fallen, halved, dropped, rekeyed, silent, restarted, three_groups, plugged_over, two_lags, every, none_ends, fourth}

abbrev pub is_octet : ℕ → Bool
is_octet o = ltb o 256

pub octets : (l : List ℕ) → every is_octet l ≡ true → Octets l
unfolding every
octets [] h i = omega arith
octets (x ∷ xs) h zero = ltb-true x 256 ((and-eq-true_iff (is_octet x) (every is_octet xs)).0 h).0
octets (x ∷ xs) h (suc i) = octets xs ((and-eq-true_iff (is_octet x) (every is_octet xs)).0 h).1 i

pub received-takes : (k n o : ℕ) → every is_octet (said k n o) ≡ true → Takes (hears k n o)
unfolding every
received-takes k n o h = (octets (said k n o) h, octets (zeros frame_size) refl)

pub ticks-take : (n : ℕ) (cs : List Call) → AllTake cs → AllTake (ticks n cs)
unfolding ticks
ticks-take zero cs a = a
ticks-take (suc n) cs a = (tt, ticks-take n cs a)

takes : AllTake calls
unfolding every own_fits block_fits
takes =
    let then : AllTake later = (received-takes 2 3 0x05 refl, ticks-take 10 [] tt) in
    (tt, (tt, (tt, (refl, (received-takes 1 1 0x3F refl, (received-takes 1 2 0x3F refl, ticks-take 10 later then))))))

pub witness : Witness
unfolding same_address same_system same_numbers same_party same_view maintained in_sync same_state same_block record_default record_pdu update_selected update_default_selected update_ntt initialized port_disabled expired lacp_disabled defaulted pdu_recorded current moved received receive_choice receive_step receive_run lined periodic_choice periodic_step periodic_run due is_due sent port_silent ntt_cleared ticked mux_choice mux_step detached placed attached_if mux_run same_grouping same_settings regrouped configured lawful blank started advanced individual same_keys same_group joins shares_group first_from lowest rule_of waits_for has_waiting holds_back held_back ready map_from must_move reselected selected_all attached_all muxed settled is_displaced displaced_if displaced same_octets foreign unknown wrong_length wrong_marker_type illegal class_of set_of sets_of due_of member codes_in_range timers_in_range ages_in_range values_in_range record_in_range block_fits own_fits header_fits encoded decoded record_at decoded_at port_in ports_from ports records_octets table_octets first_in_range table_in_range worked after_one after_start received_at after_received after_tick after_line after_settings after_send lacpdu_of found answer effect after written_by outgoing port_report aggregator_report due_report ones ones_in count_trailing_zeros run ticks tables begun trunk parted narrowed fallen halved dropped rekeyed silent restarted three_groups plugged_over two_lags every none_ends fourth sends
witness = record {
  started = refl;
  made = record {
    memory = memory;
    octets = octets memory refl;
    count = 3;
    system = system 9;
    delay = no_delay;
    settings = settings true 0;
    takes = (refl, refl);
    starts = refl;
    calls = calls;
    all_take = takes;
    gives = refl;
  };
  never_stuck = refl;
  refused-line = refl;
  refused-fetch = refl;
  rule-afresh = refl;
  distributing = refl;
  distributing-earned = refl;
  bits_true = refl;
  one-group = refl;
  two-groups = refl;
  locality-received = refl;
  locality-fallen = refl;
  apart-received = refl;
  apart-fallen = refl;
  apart-rekeyed = refl;
  apart-displaced = refl;
  not-apart = refl;
  at_rest = refl;
  read_back = refl;
  live_in_trunk = refl;
  live_though_fallen = refl;
  live_though_dropped = refl;
  live_though_set = refl;
  live_though_silent = refl;
  heard = refl;
  none-ends = refl;
  all_end = refl;
  displaced-ends = refl;
  expiry_ends = refl;
  marker-answered = refl;
  port-true = refl;
  trunk-true = refl;
  narrowed-true = refl;
  due-down = refl;
  due-up = refl;
  due-sent = refl;
  due-barred = refl;
  due-later = refl;
  due_as_fetched = refl;
  fourth-at_once = refl;
  fourth_too_soon = refl;
  fourth_in_time = refl;
  sends-spread = refl;
  ages-spread = refl;
  line_taken = refl;
  line-repeated = refl;
  half_silent = refl;
  carrying-trunk = refl;
  carrying-twice = refl;
  two_lags_lem = refl;
  waiting = refl;
  held = refl;
  moved-over = refl;
  thinner = refl;
  thinner-by-one = refl;
  still-carries = refl;
  heard-elsewhere = refl;
  displaced = refl;
  forgotten = refl;
  unspoken = refl;
  spoken = refl;
}
