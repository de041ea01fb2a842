-- `falls` meets its contract: for a port that there is, the line in its record against the new one. Assumes nothing.
use Prim.Native.Nat.{◌-◌}
use mathlib.Core.Path.{◌≡◌, sym, ap, ◌∙◌}
use mathlib.Core.Bool.{false≢true}
use Rattle.std.specs.Prelude.{is_some}
use Rattle.std.proofs.lemmas.Option.{MatchOption-at_some}
use Rattle.machine.specs.States.{same_line}
use Rattle.machine.proofs.CompareLaws.{beq-alike}
use Rattle.table.specs.Record.{decoded}
use Rattle.table.specs.Table.{port_at}
use Rattle.asked.proofs.falls.Goals as goal

pub returns-in-None : goal.returns-in-None
returns-in-None c e = absurd (false≢true (ap is_some (sym c.in-None.is) ∙ c.record_of.ensures.0 ∙ e))

pub returns-in-Some : goal.returns-in-Some
unfolding decoded
returns-in-Some c e =
    let a = c.args in
    let line = c.line_in-before.result in
    let same : c.eq-same.result ≡ same_line a.line line = c.eq-same.ensures ∙ rw (beq-alike a.line.up line.up, beq-alike a.line.full line.full) in
    let is : decoded c.in-Some.record.now ≡ port_at a.base.now (a.n - 1) = MatchOption-at_some _ _ _ c.in-Some.is c.record_of.ensures.1 in
    rw (same, c.line_in-before.ensures, ← is)
