-- `store_timers` meets its contract: the timers are written in their place, and the rest of the record's octets tell what they told. Assumes nothing.
use mathlib.Core.Path.{refl}
use native.Mathlib.Omega.{arith}
use Rattle.octets.proofs.OctetLists.{put-octets}
use Rattle.table.proofs.RangeLaws.{timers-octets}
use Rattle.table.proofs.GroupLaws.{timers-stored}
use Rattle.table.proofs.TableLaws.{lies}
use Rattle.table.proofs.lent.TableMut.store_timers.Goals as goal

pub put-requires : goal.put-requires
put-requires c = let room = lies _ _ (c.args.self.now.in_range, c.requires.0) in rw c.timers_octets.ensures (omega (arith, c.place_of.ensures))

pub invariant_of-self-clause-in_range : goal.invariant_of-self-clause-in_range
invariant_of-self-clause-in_range c =
    let a = c.args in
    let left = timers-stored a.self.now.octets.now a.i (a.self.now.in_range, c.requires.0) a.self.now.fits a.timers c.requires.1 in
    rw (c.put.ensures, c.timers_octets.ensures, c.place_of.ensures) left.ranged

pub returns : goal.returns
returns c =
    let a = c.args in
    let left = timers-stored a.self.now.octets.now a.i (a.self.now.in_range, c.requires.0) a.self.now.fits a.timers c.requires.1 in
    record { memory = refl; left = rw (c.put.ensures, c.timers_octets.ensures, c.place_of.ensures) left }

pub invariant_of-self-clause-fits : goal.invariant_of-self-clause-fits
invariant_of-self-clause-fits c = rw (c.put.ensures, c.timers_octets.ensures) (put-octets _ _ _ (timers-octets c.args.timers c.requires.1) c.args.self.now.fits)
