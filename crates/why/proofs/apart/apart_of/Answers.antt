-- `why::apart::apart_of` meets its contract: what is read of two ports is what the rule compares of them. Assumes nothing.
use Prim.Native.Nat.{ℕ, ◌<◌}
use mathlib.Core.Path.{◌≡◌, sym, ap, ap₂, ◌∙◌}
use mathlib.Core.List.{List, map}
use lib.ListN.{get_or}
use borrow.Author.Tests.{ne_eqb}
use Rattle.octets.proofs.ListLaws.{map_at}
use Rattle.port.specs.Compared.{Compared, compared}
use Rattle.table.specs.Keys.{compared_by}
use Rattle.table.specs.declared.layout.Header.{Header}
use Rattle.table.specs.Layout.{header_of}
use Rattle.table.specs.Table.{count_in, ports, port_at}
use Rattle.table.proofs.StoreLaws.{ports-length, ports-at}
use Rattle.trunk.specs.Selection.{nobody}
use Rattle.why.specs.Apart.{apart_from, apart_of}
use Rattle.why.proofs.apart.apart_of.Goals as goal

-- what is compared of a port
read_at : (t : List ℕ) (i : ℕ) → i < count_in t → compared (port_at t i) ≡ get_or (map compared (ports t)) i nobody
read_at t i h = sym (map_at compared (ports t) i nobody (port_at t i) (rw ports-length h) ∙ ap compared (ports-at t i (port_at t i) h))

pub returns : goal.returns
unfolding apart_of
returns c =
    let a = c.args in
    let t = a.table.now in
    let pre = c.requires in
    let first = c.keys.ensures ∙ read_at t a.i pre.0 in
    let second = c.keys-2.ensures ∙ read_at t a.j pre.1 in
    c.apart_from.ensures ∙ ap (λ (x : Header). apart_from x (compared_by c.keys.result) (compared_by c.keys-2.result)) c.header.ensures
    ∙ ap₂ (λ (x y : Compared). apart_from (header_of t) x y) first second ∙ sym (rw (ne_eqb a.i a.j c.if-i-j.false))
