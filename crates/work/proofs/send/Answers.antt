-- `work::send` meets its contract: the LACPDU is written from the header and from the record that is handed down, which is the port's, and
-- then the send remembered in it. Assumes nothing.
use Rattle.port.specs.Transmit.{sent}
use Rattle.work.specs.Work.{after_send, lacpdu_of}
use Rattle.port.proofs.RangeLaws.{sent-ranged}
use Rattle.trunk.proofs.TableWork.{found, may_store, changed-at, remade}
use Rattle.work.proofs.WorkLaws.{below-most}
use Rattle.work.proofs.send.Goals as goal

pub number_of-requires : goal.number_of-requires
number_of-requires c = below-most _ c.args.table.now.in_range c.args.i c.requires.0

pub store-requires : goal.store-requires
store-requires c =
    let a = c.args in
    may_store sent a.table.now a.i c.requires.0 (sent-ranged _) (found a.table.now a.i c.requires.0 c.requires.1) c.sent.ensures

pub returns : goal.returns
unfolding after_send lacpdu_of
returns c =
    let a = c.args in
    let e = c.requires in
    let left = remade (changed-at sent a.table.now a.i (found a.table.now a.i e.0 e.1) c.sent.ensures c.store.ensures) in (
      record { memory = left.memory; made = left.made },
      rw (c.write_lacpdu.ensures, c.actor_block-actor.ensures, c.number_of.ensures, e.1, c.header-ours.ensures, c.lent.ensures),
    )
