-- `age` meets its contract: the ages are written in their place, and the rest of the record's octets tell what they told. Assumes nothing.
use Prim.Native.Nat.{ℕ}
use mathlib.Core.List.{List}
use mathlib.Core.Path.{◌≡◌, refl, ap, ◌∙◌}
use native.Mathlib.Omega.{arith}
use Rattle.octets.proofs.OctetLists.{put-octets, octets_of_lem}
use Rattle.machine.specs.Ages.{ages_ticked}
use Rattle.port.specs.declared.record.Port.{Port}
use Rattle.port.proofs.RangeLaws.{ages-ranged}
use Rattle.table.specs.Record.{ages_octets, ages_in, decoded}
use Rattle.table.specs.Table.{port_at}
use Rattle.table.proofs.CodeLaws.{ages-fit}
use Rattle.table.proofs.GroupLaws.{ages-stored}
use Rattle.table.proofs.TableLaws.{lies}
use Rattle.table.proofs.lent.TableMut.age.Goals as goal

-- the octets of the ages that the port has a tick later
written : (t : List ℕ) (i : ℕ) (s o : List ℕ) → decoded s ≡ port_at t i → o ≡ ages_octets (ages_ticked (ages_in s)) → o ≡ ages_octets (ages_ticked (port_at t i).ages)
unfolding decoded
written t i s o here is = is ∙ ap (λ (p : Port). ages_octets (ages_ticked p.ages)) here

pub put-requires : goal.put-requires
put-requires c = let room = lies _ _ (c.args.self.now.in_range, c.requires) in rw (written _ _ _ _ (rw c.lent.ensures at c.look.ensures.octets.0) c.older_octets-octets.ensures) (omega (arith, c.place_of.ensures))

pub invariant_of-self-clause-in_range : goal.invariant_of-self-clause-in_range
invariant_of-self-clause-in_range c =
    let a = c.args in
    let left = ages-stored a.self.now.octets.now a.i (a.self.now.in_range, c.requires) a.self.now.fits _ (ages-ranged (port_at a.self.now.octets.now a.i).ages) in
    rw (c.put.ensures, written _ _ _ _ (rw c.lent.ensures at c.look.ensures.octets.0) c.older_octets-octets.ensures, c.place_of.ensures) left.ranged

pub returns : goal.returns
returns c =
    let a = c.args in
    let left = ages-stored a.self.now.octets.now a.i (a.self.now.in_range, c.requires) a.self.now.fits _ (ages-ranged (port_at a.self.now.octets.now a.i).ages) in
    record { memory = refl; left = rw (c.put.ensures, written _ _ _ _ (rw c.lent.ensures at c.look.ensures.octets.0) c.older_octets-octets.ensures, c.place_of.ensures) left }

pub invariant_of-self-clause-fits : goal.invariant_of-self-clause-fits
invariant_of-self-clause-fits c =
    let before = (port_at c.args.self.now.octets.now c.args.i).ages in
    let ages = ages_ticked before in
    let young = ages-fit ages (ages-ranged before) in
    rw (c.put.ensures, written _ _ _ _ (rw c.lent.ensures at c.look.ensures.octets.0) c.older_octets-octets.ensures) (put-octets _ _ _ (octets_of_lem (ages_octets ages) (young.0, (young.1, (young.2, tt)))) c.args.self.now.fits)
