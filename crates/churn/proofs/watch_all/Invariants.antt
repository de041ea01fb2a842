-- `watch_all` meets its contract: ports that rest are passed over, the loop has done the first i groups (`done`), and a turn does the next. Assumes nothing.
use mathlib.Core.Path.{◌≡◌}
use Rattle.churn.specs.Whole.{watched_at}
use Rattle.churn.proofs.WholeLaws.{done}
use Rattle.churn.proofs.watch_all.Given as goal

abbrev pub invariant-loop-i : goal.invariant-loop-i
invariant-loop-i l = l.table ≡ done l.initial.table (watched_at l.stage l.initial.table) l.i
