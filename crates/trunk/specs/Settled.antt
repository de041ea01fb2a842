-- Steps 3 to 6 of an accepted call (R4), on all records.
use Rattle.std.specs.Prelude.{ℕ, ◌≡◌, Bool, cond, not, ◌||◌, List, map, eqb}
use Rattle.octets.specs.Lists.{map_from, Each}
use Rattle.machine.specs.declared.states.Selection.TheVariants.{Selected}
use Rattle.machine.specs.Mux.{is_unselected}
use Rattle.port.specs.declared.record.Port.{Port}
use Rattle.port.specs.Compared.{compared}
use Rattle.port.specs.Mux.{detached, placed, attached_if, mux_run}
use Rattle.port.specs.Transmit.{ntt_cleared}
use Rattle.table.specs.declared.layout.Header.{Header}
use Rattle.trunk.specs.Selection.{rule_of}
use Rattle.trunk.specs.Ready.{ready}

-- UNSELECTED, or the aggregator k that the rule gives is not what it holds
unfoldable pub must_move : ℕ → Port → Bool
must_move k p = is_unselected p.phase.selected || not (eqb p.aggregator k)

-- steps 3 and 4 for one port: state by state down to DETACHED, and only then to the rule's aggregator
unfoldable pub reselected : ℕ → Port → Port
reselected k p = cond (must_move k p) (placed k (detached p)) p

-- steps 3 and 4, port i among these: the rule afresh
abbrev pub selecting : Header → List Port → ℕ → Port → Port
selecting ours ps i p = reselected (rule_of ours (map compared ps) i) p

unfoldable pub selected_all : Header → List Port → List Port
selected_all ours ps = map_from (selecting ours ps) 0 ps

-- step 5, a port among these: Ready as it is before any port attaches
abbrev pub attaching : List Port → Port → Port
attaching ps p = attached_if (ready p.aggregator ps) p

unfoldable pub attached_all : List Port → List Port
attached_all ps = map (attaching ps) ps

-- step 6; what a later request does after it has its place here
unfoldable pub muxed : Port → Port
muxed p = ntt_cleared (mux_run p)

unfoldable pub settled : Header → List Port → List Port
settled ours ps = map muxed (attached_all (selected_all ours ps))

-- a port is as the rule chose: SELECTED
unfoldable pub Chosen : Port → Type 0
Chosen p = p.phase.selected ≡ Selected

-- every port is, as step 4 leaves them
abbrev pub AllChosen : List Port → Type 0
AllChosen ps = Each Chosen ps
