-- `apart` meets its contract: both ports are found, or the first that is not is refused as a report of it is. Assumes nothing.
use mathlib.Core.Path.{sym, ap, ◌∙◌}
use mathlib.Core.List.{map}
use Rattle.std.specs.Prelude.{Ok}
use Rattle.port.specs.Compared.{compared}
use Rattle.table.specs.Table.{ports, ours}
use Rattle.why.specs.declared.apart.Apart.{Apart}
use Rattle.why.specs.Apart.{apart_of}
use Rattle.control.proofs.CallLaws.{passed-up}
use Rattle.reasons.proofs.FoundLaws.{found, found-ok, found-err, apart-refused, apart-refused-then, apart-given}
use Rattle.reasons.proofs.apart.Goals as goal

pub returns-in_err-i : goal.returns-in_err-i
returns-in_err-i c =
    let a = c.args in
    passed-up _ c.from_residual.ensures.1 ∙ apart-refused a.n a.table.now a.m (found-err a.n a.table.now (sym c.find.ensures ∙ c.in_err-i.was))

pub returns-in_err-j : goal.returns-in_err-j
returns-in_err-j c =
    let a = c.args in
    let here = found-ok a.n a.table.now (sym c.find.ensures ∙ c.in_ok-i.was) in
    passed-up _ c.from_residual-in_err-j.ensures.1 ∙ apart-refused-then a.n a.table.now a.m here.0 (found-err a.m a.table.now (sym c.find-2.ensures ∙ c.in_err-j.was))

pub records-requires : goal.records-requires
records-requires c =
    let a = c.args in
    (found a.table.now a.n (found-ok a.n a.table.now (sym c.find.ensures ∙ c.in_ok-i.was)).0).long

pub known-records-requires : goal.known-records-requires
known-records-requires c =
    let a = c.args in
    let first = found-ok a.n a.table.now (sym c.find.ensures ∙ c.in_ok-i.was) in
    rw c.records.ensures (found a.table.now a.n first.0).there.0

pub apart_of-requires : goal.apart_of-requires
apart_of-requires c =
    let a = c.args in
    let first = found-ok a.n a.table.now (sym c.find.ensures ∙ c.in_ok-i.was) in
    let second = found-ok a.m a.table.now (sym c.find-2.ensures ∙ c.in_ok-j.was) in
    rw (c.known-records.ensures, c.records.ensures, first.1, second.1) ((found a.table.now a.n first.0).there.1, (found a.table.now a.m second.0).there.1)

pub returns : goal.returns
returns c =
    let a = c.args in
    let first = found-ok a.n a.table.now (sym c.find.ensures ∙ c.in_ok-i.was) in
    let second = found-ok a.m a.table.now (sym c.find-2.ensures ∙ c.in_ok-j.was) in
    let front = c.known-records.ensures ∙ c.records.ensures in
    ap (λ (x : Apart). Ok x)
    (c.apart_of.ensures ∙ (λ j. apart_of (ours (front j)) (map compared (ports (front j))) (first.1 j) (second.1 j)))
    ∙ apart-given a.n a.table.now a.m first.0 second.0
