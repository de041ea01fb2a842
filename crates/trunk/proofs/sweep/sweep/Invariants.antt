-- `trunk::sweep::sweep` meets its contract: the loop has done the first i records (`done_to`), and a turn does the next. Assumes nothing.
use Rattle.table.specs.Lent.{Swept}
use Rattle.octets.proofs.ListLaws.{done_to}
use Rattle.trunk.proofs.sweep.sweep.Given as goal

abbrev pub invariant-loop-i : goal.invariant-loop-i
invariant-loop-i g l = Swept l.initial.table l.table (done_to g.does l.i)
