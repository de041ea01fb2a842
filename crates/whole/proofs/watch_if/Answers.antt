-- `watch_if` meets its contract: the machines, or nothing. Assumes nothing.
use Rattle.whole.proofs.watch_if.Goals as goal

pub watch_all-requires : goal.watch_all-requires
watch_all-requires c = c.requires c.if-settled.true

pub returns-then-settled : goal.returns-then-settled
returns-then-settled c = rw (c.watch_all.ensures, c.if-settled.true)
