-- `fall_all` meets its contract: the loop has done the first i groups, and a turn does the next. Assumes nothing.
use mathlib.Core.Path.{◌≡◌}
use Rattle.asks.proofs.GroupLaws.{done_to, fallen_at}
use Rattle.asks.proofs.fall_all.Given as goal

abbrev pub invariant-loop-i : goal.invariant-loop-i
invariant-loop-i l = l.groups ≡ done_to (fallen_at l.initial.groups) l.initial.groups l.i
