-- `has_settings` meets its contract: the settings of the record, if there is one. Assumes nothing.
use Prim.Native.Nat.{◌-◌}
use mathlib.Core.Path.{◌≡◌, sym, ap, ◌∙◌}
use mathlib.Core.Bool.{false≢true}
use Rattle.std.specs.Prelude.{is_some}
use Rattle.std.proofs.lemmas.Option.{MatchOption-at_some}
use Rattle.table.specs.Record.{decoded}
use Rattle.table.specs.Table.{port_at}
use Rattle.whole.proofs.has_settings.Goals as goal

pub returns-in-None : goal.returns-in-None
returns-in-None c e = absurd (false≢true (ap is_some (sym c.in-None.is) ∙ c.record_of.ensures.0 ∙ e))

pub returns-in-Some : goal.returns-in-Some
returns-in-Some c e =
    let a = c.args in
    let is : decoded c.in-Some.record.now ≡ port_at a.table.now (a.n - 1) = MatchOption-at_some _ _ _ c.in-Some.is c.record_of.ensures.1 in
    rw (c.is_held.ensures, c.read_record.ensures, ← is)
