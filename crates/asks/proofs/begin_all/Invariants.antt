-- `begin_all` meets its contract: the loop has done the first i groups, and a turn does the next. Assumes nothing.
use mathlib.Core.Path.{◌≡◌}
use Rattle.asks.proofs.GroupLaws.{done_to, fresh_at}
use Rattle.asks.proofs.begin_all.Given as goal

abbrev pub invariant-loop-i : goal.invariant-loop-i
invariant-loop-i l = l.groups ≡ done_to fresh_at l.initial.groups l.i
