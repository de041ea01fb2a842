-- Where a run of the machines gives a port's group back, told by a few of its octets (law `rest-keeps`). Most ports carry traffic, have no link, or have a neighbour without LACP.
use Rattle.std.specs.Prelude.{ℕ, zero, suc, ◌+◌, ◌*◌, Bool, true, false, cond, ◌&&◌, List, eqb}
use Rattle.octets.specs.Octets.{word_at}
use Rattle.port.specs.declared.record.Port.{Port}
use Rattle.table.specs.Table.{port_at}
use Rattle.churn.specs.declared.Stage.{Stage}
use Rattle.churn.specs.declared.Stage.TheVariants.{Start, Tick, Other}
use Rattle.churn.specs.Whole.{base_of, group_at}

-- whether the machines begin anew
abbrev pub begins : Stage → Bool
begins Start = true
begins Tick = false
begins Other = false

-- the number of the state in which a machine stays while the link is up: NO_CHURN with Synchronization, CHURN without
abbrev pub stay_code : Bool → ℕ
stay_code true = 0
stay_code false = 2

-- both stay there, by the two Synchronizations, and no timer runs: octets 0 and 1 are these numbers, octets 2 to 5 are 0
unfoldable pub is_still : Bool → Bool → List ℕ → Bool
is_still ours theirs g = eqb (word_at g 0) (stay_code ours + stay_code theirs * 256) && eqb (word_at g 2) 0

-- both in MONITOR with all of Churn_Detection_Time ahead: octets 0 to 5 are 1, 1, 2, 88, 2, 88
unfoldable pub is_fresh : List ℕ → Bool
is_fresh g = eqb (word_at g 0) 1476526337 && eqb (word_at g 2) 1476548610

-- with a link the first, without one the second
unfoldable pub rests : Port → List ℕ → Bool
rests p g = cond p.line.up (is_still p.actor.synchronization p.partner.state.synchronization g) (is_fresh g)

-- those of the first n ports of a table
unfoldable pub rest_to : ℕ → List ℕ → Bool
rest_to zero w = true
rest_to (suc n) w = rest_to n w && rests (port_at (base_of w) n) (group_at w n)
