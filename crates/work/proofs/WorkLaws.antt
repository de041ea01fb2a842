-- What a piece of work leaves is the octets of the header as it was and of the records that it names; the end of a call keeps their number
-- and range. Assumes nothing.
use Prim.Native.Nat.{ℕ, ◌+◌, ◌<◌, ◌≤◌}
use mathlib.Core.Path.{◌≡◌, ap, ◌∙◌}
use mathlib.Core.Bool.{true}
use mathlib.Core.List.{List, map}
use native.Mathlib.Omega.{arith}
use lib.ListN.{length, length-map}
use denote.Shadow.{shadow}
use denote.Struct.Struct.{within}
use denote.Struct.Declared.{shape}
use denote.RattleType.{Valss}
use mir.Val.{Val}
use borrow.Author.Tests.{lt-ltb}
use Rattle.octets.specs.Octets.{fits}
use Rattle.octets.proofs.RangeLaws.{both_true}
use Rattle.frame.specs.Block.{block_fits}
use Rattle.frame.proofs.RuleLaws.{LacpduRows, lacpdu_rows}
use Rattle.port.specs.declared.record.Own.{Own}
use Rattle.port.specs.Range.{own_fits}
use Rattle.port.specs.Record.{actor_block}
use Rattle.port.specs.contracts.record.Own.{the_type}
use Rattle.table.specs.Layout.{most_ports, header_of}
use Rattle.table.specs.State.{State, port_of}
use Rattle.table.specs.declared.lent.TableMut.{TableMut}
use Rattle.table.specs.Lent.{Swept, Remade}
use Rattle.table.specs.Table.{table_in_range, count_in, ports, table_octets}
use Rattle.table.proofs.TableLaws.{in_range}
use Rattle.octets.specs.Lists.{Each}
use Rattle.octets.proofs.ListLaws.{each_map}
use Rattle.port.specs.declared.record.Port.{Port}
use Rattle.port.specs.Periodic.{periodic_run}
use Rattle.table.specs.declared.layout.Header.{Header}
use Rattle.trunk.proofs.EachLaws.{Fits, settled-fits}
use Rattle.trunk.proofs.TableWork.{told, then_all, remade}
use Rattle.trunk.proofs.SettledLaws.{settled-length}
use Rattle.port.proofs.RangeLaws.{periodic-ranged}
use Rattle.work.specs.Work.{worked, lacpdu_of}

-- a port of a table in range is one of the most that there are
pub below-most : (t : List ℕ) → table_in_range t ≡ true → (i : ℕ) → i < count_in t → i < most_ports
below-most t e i h = let most : count_in t ≤ most_ports = (in_range t e).most in omega arith

-- the numbers of settings that stand in a record of the program fit their two octets, since their types say so
fit : (n : ℕ) → n < 65536 → fits n ≡ true
fit n h = lt-ltb n 65536 h

pub own_typed : (o : Own) (vs : List Val) (vss : Valss (shape the_type).fields) → shadow (within (shape the_type) (the_type.to o) vs vss) → own_fits o ≡ true
unfolding own_fits block_fits
own_typed o vs vss k =
    let a = k.1.0 in
    let b = k.1.1.1.1.0 in
    let s = b.1.1.0 in
    let n = b.1.1.1.1.0 in
    let x = s.1.1.1.0 in
    both_true (both_true (fit _ a.1.1.0.1) (both_true (fit _ a.1.1.1.0.1) (fit _ a.1.1.1.1.0.1)))
    (both_true (fit _ k.1.1.0.1) (both_true (fit _ k.1.1.1.0.1)
    (both_true (fit _ s.1.1.0.1)
    (both_true (both_true (fit _ x.1.1.0.1) (both_true (fit _ x.1.1.1.0.1) (fit _ x.1.1.1.1.0.1)))
    (both_true (fit _ b.1.1.1.0.1) (both_true (fit _ n.1.1.0.1) (fit _ n.1.1.1.0.1)))))))

-- ---- the end of a call: periodic machines, then steps 3 to 6

pub worked-length : (s : Header) (ps : List Port) → length (worked s ps) ≡ length ps
unfolding worked
worked-length s ps = settled-length s (map periodic_run ps) ∙ length-map ps periodic_run

pub worked-fits : (count : ℕ) (s : Header) (ps : List Port) → length ps ≡ count → Each (Fits count) ps → Each (Fits count) (worked s ps)
unfolding worked
worked-fits count s ps n e =
    settled-fits count s (map periodic_run ps) (length-map ps periodic_run ∙ n)
    (each_map (Fits count) (Fits count) periodic_run ps (λ p h. periodic-ranged count p h) e)

-- a change of the records, and then the end of a call
pub finished : {t u v : TableMut} {f : List Port → List Port} → Swept t u f → Swept u v (worked (header_of u.octets.now))
    → Remade t v (λ l. table_octets (header_of l) (worked (header_of l) (f (ports l))))
finished {t} {f = f} a b =
    let left = remade {f = λ ps. worked (header_of t.octets.now) (f ps)} (told (ap (λ (h : Header). worked h (f (ports t.octets.now))) a.left.header) (then_all a b)) in
    record { memory = left.memory; made = left.made }

-- ---- R6.4: what a sent LACPDU says, row by row, the delay that was given at start among it

pub sent-says : (s : State) (i : ℕ)
    → LacpduRows (port_of s i).own.address (actor_block s.common.system (i + 1) (port_of s i)) (port_of s i).partner s.common.delay.0 (lacpdu_of s i)
unfolding lacpdu_of
sent-says s i = lacpdu_rows (port_of s i).own.address (actor_block s.common.system (i + 1) (port_of s i)) (port_of s i).partner s.common.delay
