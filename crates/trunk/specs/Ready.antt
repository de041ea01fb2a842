-- Ready of an aggregator (43.4.8, R11.5): somebody waits for it, and nobody with a timer still running.
use Rattle.std.specs.Prelude.{ℕ, Bool, false, not, ◌&&◌, ◌||◌, List, [], ◌∷◌, eqb}
use Rattle.machine.specs.Mux.{waits}
use Rattle.machine.specs.Time.{ran_out}
use Rattle.port.specs.declared.record.Port.{Port}

-- whether a port waits for aggregator k
unfoldable pub waits_for : ℕ → Port → Bool
waits_for k p = eqb p.aggregator k && waits p.phase.mux

unfoldable pub has_waiting : ℕ → List Port → Bool
has_waiting k [] = false
has_waiting k (p ∷ ps) = waits_for k p || has_waiting k ps

-- whether a port waits for aggregator k with its timer still running
unfoldable pub holds_back : ℕ → Port → Bool
holds_back k p = waits_for k p && not (ran_out p.timers.wait)

unfoldable pub held_back : ℕ → List Port → Bool
held_back k [] = false
held_back k (p ∷ ps) = holds_back k p || held_back k ps

unfoldable pub ready : ℕ → List Port → Bool
ready k ps = has_waiting k ps && not (held_back k ps)
