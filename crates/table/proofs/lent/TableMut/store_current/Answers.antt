-- `store_current` meets its contract: the timer is written in its place, and the rest of the record's octets tell what they told. Assumes nothing.
use mathlib.Core.Path.{refl}
use borrow.Author.Tests.{leb-true, lt-ltb}
use native.Mathlib.Omega.{arith}
use Rattle.octets.proofs.OctetLists.{put-octets}
use Rattle.octets.proofs.RangeLaws.{number-octets}
use Rattle.table.proofs.GroupLaws.{current-stored}
use Rattle.table.proofs.TableLaws.{lies}
use Rattle.table.proofs.lent.TableMut.store_current.Goals as goal

pub put_number-requires : goal.put_number-requires
put_number-requires c = let room = lies _ _ (c.args.self.now.in_range, c.requires.0) in omega (arith, c.place_of.ensures)

pub invariant_of-self-clause-in_range : goal.invariant_of-self-clause-in_range
invariant_of-self-clause-in_range c =
    let a = c.args in
    let left = current-stored a.self.now.octets.now a.i (a.self.now.in_range, c.requires.0) a.self.now.fits a.time c.requires.1 in
    rw (c.put_number.ensures, c.place_of.ensures) left.ranged

pub returns : goal.returns
returns c =
    let a = c.args in
    let left = current-stored a.self.now.octets.now a.i (a.self.now.in_range, c.requires.0) a.self.now.fits a.time c.requires.1 in
    record { memory = refl; left = rw (c.put_number.ensures, c.place_of.ensures) left }

pub invariant_of-self-clause-fits : goal.invariant_of-self-clause-fits
invariant_of-self-clause-fits c =
    let most = leb-true c.args.time.0 900 c.requires.1 in
    rw c.put_number.ensures (put-octets _ _ _ (number-octets c.args.time.0 (lt-ltb c.args.time.0 65536 (omega (arith, most)))) c.args.self.now.fits)
