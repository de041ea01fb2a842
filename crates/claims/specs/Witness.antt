-- One run, computed: a table that calls made, and what each theorem says of it and of what a call makes of it. So no theorem is empty, and a
-- definition that breaks one shows here, whatever the laws below say of it.
use Rattle.std.specs.Prelude.{ℕ, zero, suc, ◌+◌, ◌-◌, ◌≡◌, Bool, true, false, not, ◌&&◌, ◌||◌, List, [], ◌∷◌, map, replicate, eqb, Result, Ok, Err, Some}
use Rattle.octets.specs.Octets.{same_octets}
use Rattle.octets.specs.Sets.{member}
use Rattle.frame.specs.declared.block.Block.{Block}
use Rattle.frame.specs.declared.class.Kind.TheVariants as kind
use Rattle.frame.specs.Block.{block_of, block_octets}
use Rattle.frame.specs.Class.{Class, class_of, frame_size}
use Rattle.frame.specs.declared.wire.MarkerType.TheVariants.{Marker}
use Rattle.frame.specs.Wire.{zeros, actor_part, partner_part, marker}
use Rattle.machine.specs.Ages.{ages}
use Rattle.machine.specs.Bits.{alike}
use Rattle.machine.specs.Mux.{waits, is_attached, collects, distributes, is_unselected}
use Rattle.port.specs.declared.record.Port.{Port}
use Rattle.port.specs.Compared.{compared}
use Rattle.port.specs.Receive.{receive_run}
use Rattle.port.specs.Record.{actor_block}
use Rattle.report.specs.declared.Sets.{Sets}
use Rattle.table.specs.Layout.{table_size}
use Rattle.table.specs.Record.{encoded}
use Rattle.table.specs.Table.{count_in, ports, port_at, table_in_range, ours, again}
use Rattle.trunk.specs.Selection.{same_keys, shares_group, rule_of}
use Rattle.trunk.specs.Displaced.{is_displaced}
use Rattle.work.specs.Work.{worked}
use Rattle.control.specs.declared.answer.Reason.{Reason}
use Rattle.control.specs.Answer.{answer_number, length_sent}
use Rattle.control.specs.Call.{Call, start, receive, tick, line, configure, fetch, report, aggregator, due}
use Rattle.control.specs.After.{answer, after, buffer_of, outgoing}
use Rattle.control.specs.Report.{port_report, aggregator_report, due_report, ports_told}
use Rattle.control.specs.Accepted.{accepted, is_lacpdu as is_lacpdu_answer}
use Rattle.claims.specs.Run.{run, Made}
use Rattle.claims.specs.Locality.{touches}
use Rattle.claims.specs.LivePartner.{lasting, ends}
use Rattle.claims.specs.ThreeSends.{sends}
use Rattle.claims.specs.Speakers.{address, system, no_delay, keyed_block, keyed_settings, settings, up_full, up_half, down_full, down_half, frame_of}

-- ---- the run: three ports, short timeout. Ports 1 and 2 hear key 1 of system 5, in sync, collecting and distributing; ten ticks later port 3,
-- which has a long timeout, hears key 2 of it. After ten more, ports 1 and 2 are a trunk, and port 3 waits.

-- an LACPDU of port n of system 5, with key k and the state octet o, that came to our port n
abbrev pub said : ℕ → ℕ → ℕ → List ℕ
said k n o = frame_of (keyed_block 5 k n o) n 0x07

abbrev pub hears : ℕ → ℕ → ℕ → Call
hears k n o = receive n (said k n o) (zeros frame_size)

abbrev pub memory : List ℕ
memory = zeros (table_size 3)

abbrev pub begin : Call
begin = start 3 (system 9) no_delay (settings true 0)

-- n ticks, and then some calls
unfoldable pub ticks : ℕ → List Call → List Call
ticks zero cs = cs
ticks (suc n) cs = tick ∷ ticks n cs

-- what port 3 hears, and ten ticks more
abbrev pub later : List Call
later = hears 2 3 0x05 ∷ ticks 10 []

abbrev pub calls : List Call
calls = line 1 up_full ∷ line 2 up_full ∷ line 3 up_full ∷ configure 3 (settings false 0) ∷ hears 1 1 0x3F ∷ hears 1 2 0x3F ∷ ticks 10 later

abbrev pub lent : List ℕ
lent = replicate frame_size 7

-- every table on the way
unfoldable pub tables : List ℕ → List Call → List (List ℕ)
tables t [] = t ∷ []
tables t (c ∷ cs) = t ∷ tables (after c t) cs

unfoldable pub begun : List ℕ
begun = after begin memory

unfoldable pub trunk : List ℕ
trunk = run begun calls

-- ---- and what becomes of it

-- port 1 hears system 6
abbrev pub other : List ℕ
other = frame_of (keyed_block 6 1 1 0x3F) 1 0x07

abbrev pub parts : Call
parts = receive 1 other (zeros frame_size)

unfoldable pub parted : List ℕ
parted = after parts trunk

-- the partner of port 2 collects no longer
unfoldable pub narrowed : List ℕ
narrowed = after (hears 1 2 0x0F) trunk

-- link 1 falls
unfoldable pub fallen : List ℕ
fallen = after (line 1 down_full) trunk

-- port 1 goes to half duplex
unfoldable pub halved : List ℕ
halved = after (line 1 up_half) trunk

-- link 1 falls, and port 1 goes to half duplex by the same call
unfoldable pub dropped : List ℕ
dropped = after (line 1 down_half) trunk

-- port 2 gets another key, and another default block
unfoldable pub rekeyed : List ℕ
rekeyed = after (configure 2 (keyed_settings 2 true 0x3C)) trunk

-- ten ticks of silence: ports 1 and 2 are EXPIRED, and port 3 has waited long enough
unfoldable pub silent : List ℕ
silent = run trunk (ticks 10 [])

-- a second start
unfoldable pub restarted : List ℕ
restarted = after begin trunk

-- ports 1, 2 and 3 are in three groups, and link 1 falls
unfoldable pub three_groups : List ℕ
three_groups = after (line 1 down_full) rekeyed

-- then the partner of port 1, port 1 of system 5, is heard on port 3: port 1 is displaced
abbrev pub elsewhere : List ℕ
elsewhere = frame_of (keyed_block 5 2 1 0x3F) 3 0x07

abbrev pub plugs_over : Call
plugs_over = receive 3 elsewhere (zeros frame_size)

unfoldable pub plugged_over : List ℕ
plugged_over = after plugs_over three_groups

-- port 3 gets in sync, and ten ticks later there are two Link Aggregation Groups that carry
unfoldable pub two_lags : List ℕ
two_lags = run trunk (hears 1 1 0x3F ∷ hears 1 2 0x3F ∷ hears 2 3 0x3F ∷ ticks 10 [])

abbrev pub seen : List (List ℕ)
seen =
    parted ∷ narrowed ∷ fallen ∷ halved ∷ dropped ∷ rekeyed ∷ silent ∷ restarted ∷ three_groups ∷ plugged_over ∷ two_lags ∷ tables begun calls

-- ---- calls since port 1 heard its partner, none of which ends what it heard

abbrev pub linked : List ℕ
linked = run begun (line 1 up_full ∷ line 2 up_full ∷ line 3 up_full ∷ configure 3 (settings false 0) ∷ [])

-- a Marker, and that port n gets it
abbrev pub question : List ℕ
question = marker (address 5) Marker (zeros 16)

abbrev pub asks : ℕ → Call
asks n = receive n question (zeros frame_size)

-- frames on the other ports and ticks; then a Marker, a fetch, reports, a start that is refused, other settings, a link that falls and comes back
abbrev pub further : List Call
further =
    asks 1 ∷ fetch 1 lent ∷ report 1 ∷ aggregator 1 ∷ due ∷ start 2 (system 9) no_delay (settings true 0) ∷ configure 1 (keyed_settings 3 false 0x3C)
    ∷ line 1 down_half ∷ line 1 down_full ∷ line 1 up_full ∷ tick ∷ []

abbrev pub since : List Call
since = hears 1 2 0x3F ∷ ticks 10 (hears 2 3 0x05 ∷ ticks 10 further)

-- ---- what the theorems say of a table, as a test

unfoldable pub every : {A : Type 0} → (A → Bool) → List A → Bool
every f [] = true
every f (x ∷ xs) = f x && every f xs

abbrev pub indices : List ℕ
indices = 0 ∷ 1 ∷ 2 ∷ []

abbrev pub ruled_at : List ℕ → ℕ → Bool
ruled_at t i = eqb (port_at t i).aggregator (rule_of (ours t) (map compared (ports t)) i) && not (is_unselected (port_at t i).phase.selected)

abbrev pub ruled : List ℕ → Bool
ruled t = every (ruled_at t) indices

abbrev pub carries_in : List ℕ → ℕ → Bool
carries_in t i = distributes (port_at t i).phase.mux

abbrev pub earned_by : Port → Bool
earned_by p = not (distributes p.phase.mux) || (p.line.up && (p.partner.state.synchronization && p.partner.state.collecting))

abbrev pub earned : List ℕ → Bool
earned t = every earned_by (ports t)

abbrev pub says_mux : Port → Bool
says_mux p =
    alike p.actor.synchronization (is_attached p.phase.mux)
    && (alike p.actor.collecting (collects p.phase.mux) && alike p.actor.distributing (distributes p.phase.mux))

abbrev pub says : List ℕ → Bool
says t = every says_mux (ports t)

abbrev pub rests : List ℕ → Bool
rests t = same_octets (again t (worked (ours t) (map receive_run (ports t)))) t

-- a refused call leaves table and buffer
abbrev pub silently : Call → List ℕ → Bool
silently c t = not (accepted (answer c t)) && (same_octets (after c t) t && same_octets (outgoing c t) (buffer_of c))

-- port i, from 0, has one record in both tables
abbrev pub keeps : ℕ → List ℕ → List ℕ → Bool
keeps i t u = same_octets (encoded (port_at t i)) (encoded (port_at u i))

abbrev pub same_blocks : Block → Block → Bool
same_blocks a b = same_octets (block_octets a) (block_octets b)

abbrev pub is_lacpdu : Class → Bool
is_lacpdu (Ok kind.Lacpdu) = true
is_lacpdu (Ok kind.Marker) = false
is_lacpdu (Ok kind.Response) = false
is_lacpdu (Err r) = false

-- an LACPDU that port n sent says of both ends what its record says
abbrev pub reads : List ℕ → ℕ → List ℕ → Bool
reads t n f =
    is_lacpdu (class_of f)
    && (same_blocks (block_of (actor_part f)) (actor_block (ours t).system n (port_at t (n - 1))) && same_blocks (block_of (partner_part f)) (port_at t (n - 1)).partner)

abbrev pub live : List ℕ → Port → Bool
live f p = same_blocks (lasting p.partner) (lasting (block_of (actor_part f))) && not p.actor.defaulted

abbrev pub sets_are : Result Sets Reason → ℕ → ℕ → ℕ → ℕ → ℕ → Bool
sets_are (Err r) h a d n l = false
sets_are (Ok s) h a d n l = eqb s.holding h && (eqb s.attached a && (eqb s.distributing d && (eqb s.count n && eqb s.lowest l)))

-- nothing is due on port 1
abbrev pub quiet : List ℕ → Bool
quiet t = not (port_at t 0).ntt && silently (fetch 1 lent) t

-- the report of what is due says of port i what its fetch would be answered
abbrev pub tells_fetch : List ℕ → ℕ → Bool
tells_fetch t i = alike (member (ports_told (due_report t)) i) (accepted (answer (fetch (i + 1) lent) t))

-- port j shares a group, before and after the call, with none that it touches
abbrev pub apart_from : Call → List ℕ → ℕ → ℕ → Bool
apart_from c t j k =
    not (touches c t k)
    || (not (shares_group (ours t) (map compared (ports t)) j k) && not (shares_group (ours t) (map compared (ports (after c t))) j k))

abbrev pub is_apart : Call → List ℕ → ℕ → Bool
is_apart c t j = eqb (count_in t) 3 && every (apart_from c t j) indices

-- no call of a run ends what port i heard
unfoldable pub none_ends : List ℕ → ℕ → List Call → Bool
none_ends t i [] = true
none_ends t i (c ∷ cs) = not (ends c t i) && none_ends (after c t) i cs

-- ---- sends of port 1

-- it sends, and gets other settings, so that it is to send again
abbrev pub sends_before : Bool → List Call → List Call
sends_before short cs = fetch 1 lent ∷ configure 1 (settings short 0) ∷ cs

-- three sends one after the other, and the answer to a fourth fetch n ticks later
unfoldable pub fourth : ℕ → ℕ
fourth n = answer_number (answer (fetch 1 lent) (run begun (line 1 up_full ∷ sends_before false (sends_before true (sends_before false (ticks n []))))))

-- three sends with a tick after the first and two after the second
abbrev pub spread : List Call
spread = line 1 up_full ∷ sends_before false (ticks 1 (sends_before true (ticks 2 (sends_before false []))))

pub record Witness : Type 0 where
  pub started : accepted (answer begin memory) ≡ true
  pub made : Made trunk
  -- 0
  pub never_stuck : every table_in_range seen ≡ true
  pub refused-line : silently (line 4 up_full) trunk ≡ true
  pub refused-fetch : silently (fetch 3 lent) (after (fetch 3 lent) trunk) ≡ true
  -- 1
  pub rule-afresh : every ruled seen ≡ true
  -- 2
  pub distributing : map (λ p. distributes p.phase.mux) (ports trunk) ≡ true ∷ true ∷ false ∷ []
  pub distributing-earned : every earned seen ≡ true
  pub bits_true : every says seen ≡ true
  pub one-group : shares_group (ours trunk) (map compared (ports trunk)) 0 1 ≡ true
  -- ports 1 and 2 have different keys then, and so different LAG IDs
  pub two-groups : shares_group (ours rekeyed) (map compared (ports rekeyed)) 0 1 ≡ false
  -- 3: port 3 shares no group with port 1, though it has a partner of the same system
  pub locality-received : keeps 2 (after (hears 1 1 0x3F) trunk) trunk ≡ true
  pub locality-fallen : keeps 2 fallen trunk ≡ true
  -- where the theorem applies: a call that names port 1, one that names port 2, and one on port 3 that displaces port 1
  pub apart-received : is_apart (hears 1 1 0x3F) trunk 2 ≡ true
  pub apart-fallen : is_apart (line 1 down_full) trunk 2 ≡ true
  pub apart-rekeyed : is_apart (configure 2 (keyed_settings 2 true 0x3C)) trunk 2 ≡ true
  pub apart-displaced : is_apart plugs_over three_groups 1 ≡ true
  -- and where it does not: port 2 leaves with port 1's group, and no port is left alone by a tick or a start
  pub not-apart : map (λ c. is_apart c trunk 1) (hears 1 1 0x3F ∷ line 1 down_full ∷ tick ∷ begin ∷ []) ≡ false ∷ false ∷ false ∷ false ∷ []
  -- 4
  pub at_rest : every rests seen ≡ true
  -- 5
  pub read_back : reads trunk 1 (outgoing (fetch 1 lent) trunk) ≡ true
  -- 6
  pub live_in_trunk : live (said 1 1 0x3F) (port_at trunk 0) ≡ true
  pub live_though_fallen : live (said 1 1 0x3F) (port_at fallen 0) ≡ true
  pub live_though_dropped : live (said 1 1 0x3F) (port_at dropped 0) ≡ true
  pub live_though_set : live (said 1 2 0x3F) (port_at rekeyed 1) ≡ true
  pub live_though_silent : live (said 1 1 0x3F) (port_at silent 0) ≡ true
  pub heard : is_lacpdu_answer (answer (hears 1 1 0x3F) linked) ≡ true
  pub none-ends : none_ends (after (hears 1 1 0x3F) linked) 0 since ≡ true
  -- what does end it: a start, an LACPDU there, half duplex, an LACPDU elsewhere that displaces, and the last tick of EXPIRED
  pub all_end : map (λ c. ends c trunk 0) (begin ∷ hears 1 1 0x3F ∷ line 1 up_half ∷ []) ≡ true ∷ true ∷ true ∷ []
  pub displaced-ends : ends plugs_over three_groups 0 ≡ true
  pub expiry_ends : map (λ t. ends tick t 0) (silent ∷ run silent (ticks 29 []) ∷ []) ≡ false ∷ true ∷ []
  -- a Marker is answered by a port that distributes
  pub marker-answered : length_sent (answer (asks 1) trunk) ≡ frame_size
  -- 7
  pub port-true : same_octets (encoded (port_report 2 trunk)) (encoded (port_at trunk 1)) ≡ true
  pub trunk-true : sets_are (aggregator_report 1 trunk) 3 3 3 2 1 ≡ true
  pub narrowed-true : sets_are (aggregator_report 1 narrowed) 3 3 1 1 1 ≡ true
  -- nothing is to be sent where no link is up; then one LACPDU on each port; on the others when port 1 has sent; and none where three sends bar it
  pub due-down : due_report begun ≡ Ok 0
  pub due-up : due_report linked ≡ Ok 7
  pub due-sent : due_report (after (fetch 1 lent) linked) ≡ Ok 6
  pub due-barred : due_report (run begun (line 1 up_full ∷ sends_before false (sends_before true (sends_before false [])))) ≡ Ok 0
  pub due-later : due_report (run begun (line 1 up_full ∷ sends_before false (sends_before true (sends_before false (ticks 11 []))))) ≡ Ok 1
  pub due_as_fetched : every (λ t. every (tells_fetch t) (0 ∷ 1 ∷ 2 ∷ 3 ∷ [])) seen ≡ true
  -- 8
  pub fourth-at_once : fourth 0 ≡ 11
  pub fourth_too_soon : fourth 10 ≡ 11
  pub fourth_in_time : fourth 11 ≡ 0
  pub sends-spread : sends 1 begun spread [] ≡ 0 ∷ 2 ∷ 3 ∷ []
  pub ages-spread : (port_at (run begun spread) 0).ages ≡ ages (Some 0) (Some 2) (Some 3)
  -- 9
  pub line_taken : map (λ t. (port_at t 0).line) (fallen ∷ halved ∷ dropped ∷ []) ≡ down_full ∷ up_half ∷ down_half ∷ []
  pub line-repeated : same_octets (after (line 1 up_full) trunk) trunk ≡ true
  pub half_silent : every quiet (halved ∷ dropped ∷ []) ≡ true
  -- 10, 11, 12: first ports 1 and 2 carry, then port 3 beside them, in a group of its own
  pub carrying-trunk : map (carries_in trunk) indices ≡ true ∷ true ∷ false ∷ []
  pub carrying-twice : map (carries_in two_lags) indices ≡ true ∷ true ∷ true ∷ []
  pub two_lags_lem : map (λ i. same_keys (compared (port_at two_lags 0)) (compared (port_at two_lags i))) indices ≡ true ∷ true ∷ false ∷ []
  pub waiting : map (λ i. waits (port_at trunk i).phase.mux) indices ≡ false ∷ false ∷ true ∷ []
  -- 13, 15: port 1 leaves, and port 2 moves to its own aggregator; the partner of port 2 stops collecting
  pub held : map (λ i. (port_at trunk i).aggregator) indices ≡ 1 ∷ 1 ∷ 3 ∷ []
  pub moved-over : map (λ i. (port_at parted i).aggregator) indices ≡ 1 ∷ 2 ∷ 3 ∷ []
  pub thinner : map (carries_in parted) indices ≡ false ∷ false ∷ false ∷ []
  pub thinner-by-one : map (carries_in narrowed) indices ≡ true ∷ false ∷ false ∷ []
  -- settings with another Timeout alone leave a port carrying
  pub still-carries : carries_in (after (configure 1 (settings false 0)) trunk) 0 ≡ true
  -- 14
  pub heard-elsewhere : is_lacpdu_answer (answer plugs_over three_groups) ≡ true
  pub displaced : map (λ i. is_displaced (block_of (actor_part elsewhere)) (port_at three_groups i)) indices ≡ true ∷ false ∷ false ∷ []
  pub forgotten : map (λ t. (port_at t 0).actor.defaulted) (three_groups ∷ plugged_over ∷ []) ≡ false ∷ true ∷ []
  -- 16
  pub unspoken : map (λ i. (port_at begun i).actor.defaulted) indices ≡ true ∷ true ∷ true ∷ []
  pub spoken : map (λ i. (port_at trunk i).actor.defaulted) indices ≡ false ∷ false ∷ false ∷ []
