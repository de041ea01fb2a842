-- The aggregator report (R15.2 to R15.4), and which ports have something to send: sets of ports, by how they stand.
use Rattle.std.specs.Prelude.{ℕ, ◌+◌, ◌*◌, Bool, cond, ◌&&◌, List, [], ◌∷◌, eqb}
use Rattle.std.specs.Int.Count.{ones, count_trailing_zeros}
use Rattle.frame.specs.State.{weighed}
use Rattle.machine.specs.Mux.{is_attached, distributes}
use Rattle.port.specs.declared.record.Port.{Port}
use Rattle.port.specs.Transmit.{is_due}
use Rattle.report.specs.declared.Sets.{Sets}

-- whether a port holds aggregator k, is attached to it, and distributes in it
abbrev pub holds : ℕ → Port → Bool
holds k p = eqb p.aggregator k

abbrev pub attached_to : ℕ → Port → Bool
attached_to k p = holds k p && is_attached p.phase.mux

abbrev pub distributes_in : ℕ → Port → Bool
distributes_in k p = holds k p && distributes p.phase.mux

-- the ports that pass a test, bit 0 the first
unfoldable pub set_of : (Port → Bool) → List Port → ℕ
set_of f [] = 0
set_of f (p ∷ ps) = set_of f ps * 2 + weighed (f p) 1

-- the lowest port of a set of at most 32, from 1; 0 for none
abbrev pub lowest_of : ℕ → ℕ
lowest_of x = cond (eqb x 0) 0 (count_trailing_zeros 32 x + 1)

-- what the report says of aggregator k
unfoldable pub sets_of : ℕ → List Port → Sets
sets_of k ps = record {
  holding = set_of (holds k) ps;
  attached = set_of (attached_to k) ps;
  distributing = set_of (distributes_in k) ps;
  count = ones (set_of (distributes_in k) ps);
  lowest = lowest_of (set_of (distributes_in k) ps);
}

-- the ports on which an LACPDU is due (R15.5)
unfoldable pub due_of : List Port → ℕ
due_of ps = set_of is_due ps

-- ---- what a set and a count say

-- the number of ports that pass a test
unfoldable pub counted : (Port → Bool) → List Port → ℕ
counted f [] = 0
counted f (p ∷ ps) = weighed (f p) 1 + counted f ps
