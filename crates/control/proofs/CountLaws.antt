-- No call changes the port count of a table, but a start, which is told it: the header is written as it was read. Assumes nothing.
use Prim.Native.Nat.{ℕ, ◌-◌}
use mathlib.Core.Path.{◌≡◌, refl}
use mathlib.Core.Bool.{Bool, true, false, cond, true≢false}
use mathlib.Core.List.{List, map}
use lib.ListN.{set, replicate}
use Rattle.frame.specs.declared.block.SystemId.{SystemId}
use Rattle.frame.specs.declared.wire.TensOfMicroseconds.{TensOfMicroseconds}
use Rattle.frame.specs.Block.{block_of}
use Rattle.frame.specs.Wire.{actor_part}
use Rattle.machine.specs.declared.states.Line.{Line}
use Rattle.machine.specs.States.{same_line}
use Rattle.port.specs.declared.record.Port.{Port}
use Rattle.port.specs.Receive.{lined}
use Rattle.port.specs.Transmit.{sent, advanced}
use Rattle.settings.specs.declared.Settings.{Settings}
use Rattle.settings.specs.Settings.{configured, same_settings, started}
use Rattle.table.specs.declared.layout.Header.{Header}
use Rattle.table.specs.Layout.{header_of}
use Rattle.table.specs.State.{with_ports}
use Rattle.table.specs.Table.{count_in, ports, port_at, ours, again, on_octets, octets_of, state_of}
use Rattle.table.proofs.MadeLaws.{made-count}
use Rattle.trunk.specs.Displaced.{displaced}
use Rattle.trunk.specs.Settled.{settled}
use Rattle.work.specs.Work.{worked, after_one, after_start, received_at, after_received, after_tick, after_line, after_settings, after_send}
use Rattle.std.specs.Prelude.{Ok, Err}
use Rattle.control.specs.declared.answer.Accepted.TheVariants.{Done, Lacpdu, Marker}
use Rattle.control.specs.Answer.{Answer}
use Rattle.control.specs.Call.{Call, start, receive, tick, line, configure, fetch, report, aggregator, due, is_start}
use Rattle.control.specs.After.{answer, unless, after_frame, changed_by, effect, after}

pub again-count : (t : List ℕ) (qs : List Port) → count_in (again t qs) ≡ count_in t
again-count t qs = made-count (header_of t) qs

-- a table with other records, or as it was
abbrev pub kept_if : Bool → List ℕ → List Port → List ℕ
kept_if b t ps = octets_of (cond b (state_of t) (with_ports ps (state_of t)))

kept-count : (b : Bool) (t : List ℕ) (qs : List Port) → count_in (kept_if b t qs) ≡ count_in t
kept-count true t qs = again-count t (ports t)
kept-count false t qs = again-count t qs

pub started-count : (t : List ℕ) (count : ℕ) (system : SystemId) (delay : TensOfMicroseconds) (x : Settings)
    → count_in (changed_by (start count system delay x) t) ≡ count
unfolding effect after_start
started-count t count system delay x =
    let h : Header = record { count = count; system = system; delay = delay } in
    made-count h (settled h (replicate count (started x)))

frame-count : (t : List ℕ) (i : ℕ) (frame : List ℕ) (a : Answer) → count_in (on_octets (after_frame a i frame) t) ≡ count_in t
frame-count t i frame (Ok Done) = again-count t (ports t)
frame-count t i frame (Ok Lacpdu) =
    unfold after_received in again-count t (worked (ours t) (displaced i (block_of (actor_part frame)) (set (ports t) i (received_at i frame (state_of t)))))
frame-count t i frame (Ok Marker) = again-count t (ports t)
frame-count t i frame (Err r) = again-count t (ports t)

line-count : (t : List ℕ) (i : ℕ) (l : Line) → count_in (on_octets (after_line i l) t) ≡ count_in t
unfolding after_line after_one
line-count t i l = kept-count (same_line l (port_at t i).line) t (worked (ours t) (set (ports t) i (lined l (port_at t i))))

settings-count : (t : List ℕ) (i : ℕ) (x : Settings) → count_in (on_octets (after_settings i x) t) ≡ count_in t
unfolding after_settings after_one
settings-count t i x = kept-count (same_settings x (port_at t i)) t (worked (ours t) (set (ports t) i (configured x (port_at t i))))

unless-count : (a : Answer) (t u : List ℕ) → count_in u ≡ count_in t → count_in (unless a t u) ≡ count_in t
unless-count (Ok a) t u e = e
unless-count (Err r) t u e = refl

-- of any memory
pub after-count : (c : Call) → is_start c ≡ false → (t : List ℕ) → count_in (after c t) ≡ count_in t
unfolding after effect
after-count (start count system delay x) s t = absurd (true≢false s)
after-count (receive n frame out) s t =
    unless-count (answer (receive n frame out) t) t (changed_by (receive n frame out) t) (frame-count t (n - 1) frame (answer (receive n frame out) t))
after-count tick s t = unfold after_tick in unless-count (answer tick t) t (changed_by tick t) (again-count t (worked (ours t) (map advanced (ports t))))
after-count (line n l) s t = unless-count (answer (line n l) t) t (changed_by (line n l) t) (line-count t (n - 1) l)
after-count (configure n x) s t = unless-count (answer (configure n x) t) t (changed_by (configure n x) t) (settings-count t (n - 1) x)
after-count (fetch n out) s t =
    unfold after_send in unless-count (answer (fetch n out) t) t (changed_by (fetch n out) t) (again-count t (set (ports t) (n - 1) (sent (port_at t (n - 1)))))
after-count (report n) s t = unless-count (answer (report n) t) t (changed_by (report n) t) (again-count t (ports t))
after-count (aggregator k) s t = unless-count (answer (aggregator k) t) t (changed_by (aggregator k) t) (again-count t (ports t))
after-count due s t = unless-count (answer due t) t (changed_by due t) (again-count t (ports t))
