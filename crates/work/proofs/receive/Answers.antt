-- `work::receive` meets its contract: the record that is handed down is the port's. Where the LACPDU says nothing new, CURRENT is but the timer
-- (`repeats-is`); else the record goes to CURRENT, is stored, and stays in range. Then ports whose partner moved are displaced, and the rest of
-- the work is done. Assumes nothing.
use Prim.Native.Nat.{◌+◌}
use mathlib.Core.Path.{◌≡◌, sym, ap, ◌∙◌}
use mathlib.Core.Bool.{true}
use Rattle.frame.specs.Block.{block_of}
use Rattle.frame.specs.Wire.{actor_part, partner_part}
use Rattle.machine.specs.declared.states.Ticks.{Ticks}
use Rattle.machine.specs.Time.{timeout_time}
use Rattle.port.specs.declared.record.Port.{Port}
use Rattle.port.specs.Record.{with_current, actor_block}
use Rattle.port.specs.Receive.{received, repeats}
use Rattle.table.specs.Layout.{header_of}
use Rattle.table.specs.Lent.{Stepped}
use Rattle.table.specs.Table.{count_in, ports, port_at, state_of}
use Rattle.trunk.specs.Displaced.{displaced}
use Rattle.trunk.proofs.TableWork.{found, may_store, changed-at, told, told_at, then_all}
use Rattle.frame.proofs.RangeLaws.{part-fits}
use Rattle.port.proofs.RangeLaws.{received-ranged}
use Rattle.port.proofs.RepeatLaws.{repeats-is}
use Rattle.work.specs.Work.{received_at, after_received}
use Rattle.work.proofs.WorkLaws.{below-most, finished}
use Rattle.work.proofs.receive.Goals as goal
use Rattle.work.proofs.receive.Goals.{then-repeats, else-repeats}

pub number_of-requires : goal.number_of-requires
number_of-requires c = below-most _ c.args.table.now.in_range c.args.i c.requires.0

pub store-requires : goal.store-requires
unfolding received
store-requires c =
    let a = c.args in
    let e = c.requires in
    let t = a.table.now.octets.now in
    let l = a.frame.now in
    may_store (received (header_of t).system (a.i + 1) (block_of (actor_part l)) (block_of (partner_part l))) a.table.now a.i e.0
    (λ p. received-ranged (count_in t) (header_of t).system (a.i + 1) (block_of (actor_part l)) (block_of (partner_part l)) p
    (part-fits 18 33 l (λ j. (c.type_inv.frame j).fits)))
    (found a.table.now a.i e.0 e.1)
    (rw (c.receive_lacpdu.ensures, c.read-b.ensures, c.partner.ensures, c.actor-actor.ensures, c.actor_block-us.ensures, c.number_of.ensures, c.header.ensures, c.lent.ensures))

pub returns : goal.returns
unfolding after_received received_at received
returns c =
    let args = c.args in
    let e = c.requires in
    let i = args.i in
    let t = args.table.now.octets.now in
    let l = args.frame.now in
    let q = port_at t i in
    let us = actor_block (header_of t).system (i + 1) q in
    let a = block_of (actor_part l) in
    let b = block_of (partner_part l) in
    let p = received_at i l (state_of t) in
    let is-a : c.read-a.result ≡ a = rw (c.read-a.ensures, c.actor-actor.ensures) in
    let first : Stepped args.table.now c.if-repeats.table i (λ _. p) = elim c.if-repeats.branch [
      | then-repeats w ↦
          let said : repeats us a b q ≡ true =
          rw (is-a, c.read-b.ensures, c.partner.ensures, c.actor_block-us.ensures, c.number_of.ensures, c.header.ensures, c.lent.ensures, e.1) at
          (sym c.repeats.ensures ∙ w.if-repeats.true) in
          rw w.table-is
          (told_at (λ x. with_current x w.timeout.result) (λ _. p) i
          (ap (λ (x : Ticks). with_current q x) (w.timeout.ensures ∙ ap (λ (x : Port). timeout_time x.actor.timeout) e.1) ∙ sym (repeats-is us a b q said))
          w.store_current.ensures)
      | else-repeats w ↦
          rw w.table-is
          (changed-at (received (header_of t).system (i + 1) a b) args.table.now i (found args.table.now i e.0 e.1)
          (rw (w.receive_lacpdu.ensures, c.read-b.ensures, c.partner.ensures, c.actor-actor.ensures, c.actor_block-us.ensures, c.number_of.ensures, c.header.ensures, c.lent.ensures))
          w.store.ensures)
    ] in
    let second = told {g = displaced i a} (ap (λ x. displaced i x (ports c.if-repeats.table.octets.now)) is-a) c.displace_all.ensures in
    let left = finished (then_all first second) c.finish.ensures in
    record { memory = left.memory; made = left.made }
