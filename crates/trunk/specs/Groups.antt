-- Sets of ports by which steps 3 to 5 are done: bit 0 is the first port, or the first aggregator.
use Rattle.std.specs.Prelude.{ℕ, ◌+◌, ◌-◌, Bool, true, cond, not, ◌&&◌, List, leb}
use Rattle.octets.specs.Sets.{member}
use Rattle.machine.specs.Mux.{waits}
use Rattle.port.specs.declared.record.Port.{Port}
use Rattle.port.specs.Compared.{Compared}
use Rattle.port.specs.Mux.{attached_if}
use Rattle.table.specs.declared.layout.Header.{Header}
use Rattle.trunk.specs.Selection.{shares_group}
use Rattle.trunk.specs.Settled.{reselected}

-- whether port m is in port i's group, and not before it
abbrev pub since : Header → List Compared → ℕ → ℕ → Bool
since ours cs i m = leb i m && shares_group ours cs i m

-- a port m of the set is to hold port i's aggregator
abbrev pub placing : ℕ → ℕ → ℕ → Port → Port
placing set i m p = cond (member set m) (reselected (i + 1) p) p

-- a port that waits attaches, unless its aggregator is in the set of those that are held back
abbrev pub may_attach : ℕ → Port → Bool
may_attach held p = waits p.phase.mux && not (member held (p.aggregator - 1))

abbrev pub attached_unless : ℕ → Port → Port
attached_unless held p = cond (may_attach held p) (attached_if true p) p
