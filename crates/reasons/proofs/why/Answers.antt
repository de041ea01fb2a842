-- `why` meets its contract: its port is found, or refused as a report of it is. Assumes nothing.
use Prim.Native.Nat.{ℕ}
use mathlib.Core.Path.{sym, ap, ap₂, ◌∙◌}
use mathlib.Core.List.{List}
use Rattle.std.specs.Prelude.{Ok}
use Rattle.table.specs.Table.{ports, port_at}
use Rattle.why.specs.declared.cause.Why.{Why}
use Rattle.why.specs.Cause.{why_of}
use Rattle.control.proofs.CallLaws.{passed-up}
use Rattle.reasons.proofs.FoundLaws.{found, found-ok, found-err, why-refused, why-given}
use Rattle.reasons.proofs.why.Goals as goal

pub returns-in_err-i : goal.returns-in_err-i
returns-in_err-i c =
    let a = c.args in
    passed-up _ c.from_residual.ensures.1 ∙ why-refused a.n a.table.now (found-err a.n a.table.now (sym c.find.ensures ∙ c.in_err-i.was))

pub records-requires : goal.records-requires
records-requires c =
    let a = c.args in
    (found a.table.now a.n (found-ok a.n a.table.now (sym c.find.ensures ∙ c.in_ok-i.was)).0).long

pub known-records-requires : goal.known-records-requires
known-records-requires c =
    let a = c.args in
    let here = found-ok a.n a.table.now (sym c.find.ensures ∙ c.in_ok-i.was) in
    rw c.records.ensures (found a.table.now a.n here.0).there.0

pub why_of-requires : goal.why_of-requires
why_of-requires c =
    let a = c.args in
    let here = found-ok a.n a.table.now (sym c.find.ensures ∙ c.in_ok-i.was) in
    rw (c.known-records.ensures, c.records.ensures, here.1) (found a.table.now a.n here.0).there.1

pub returns : goal.returns
returns c =
    let a = c.args in
    let here = found-ok a.n a.table.now (sym c.find.ensures ∙ c.in_ok-i.was) in
    ap (λ (x : Why). Ok x) (c.why_of.ensures ∙ ap₂ (λ (t : List ℕ) (i : ℕ). why_of (ports t) (port_at t i)) (c.known-records.ensures ∙ c.records.ensures) here.1)
    ∙ why-given a.n a.table.now here.0
