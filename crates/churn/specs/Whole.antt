-- A table with its monitors: the records of the ports, which are a table by themselves, and behind the last of them a group for each port, in their
-- order. So a table without monitors is the same less its last octets.
use Rattle.std.specs.Prelude.{ℕ, zero, suc, ◌+◌, ◌*◌, Bool, true, ◌&&◌, List, [], ◌++◌, length, take, drop, eqb}
use Rattle.table.specs.Layout.{place}
use Rattle.table.specs.Table.{count_in, port_at}
use Rattle.churn.specs.declared.Stage.{Stage}
use Rattle.churn.specs.declared.Stage.TheVariants.{Start, Tick, Other}
use Rattle.churn.specs.declared.watch.Monitors.{Monitors}
use Rattle.churn.specs.Churn.{watching, monitors_fallen, both_begun}
use Rattle.churn.specs.Group.{group_size, group_octets, group_of, group_in_range}

-- where group i begins in a table of `count` ports; for the count, the size of the whole
abbrev pub group_place : ℕ → ℕ → ℕ
group_place count i = place count + group_size * i

abbrev pub whole_size : ℕ → ℕ
whole_size count = group_place count count

-- the table without its monitors
unfoldable pub base_of : List ℕ → List ℕ
base_of w = take (place (count_in w)) w

-- the octets of group i, from 0, and the monitors that they tell of
unfoldable pub group_at : List ℕ → ℕ → List ℕ
group_at w i = take group_size (drop (group_place (count_in w) i) w)

unfoldable pub monitors_at : List ℕ → ℕ → Monitors
monitors_at w i = group_of (group_at w i)

-- the octets of the first n groups, and a table with a group for each of its ports
unfoldable pub groups_to : (ℕ → Monitors) → ℕ → List ℕ
groups_to f zero = []
groups_to f (suc n) = groups_to f n ++ group_octets (f n)

unfoldable pub with_monitors : List ℕ → (ℕ → Monitors) → List ℕ
with_monitors t f = t ++ groups_to f (count_in t)

-- whether the first n groups are in range, and whether memory has the size of a table with monitors, and each of them is
unfoldable pub groups_in_range : ℕ → List ℕ → Bool
groups_in_range zero w = true
groups_in_range (suc n) w = groups_in_range n w && group_in_range (group_at w n)

unfoldable pub has_monitors : List ℕ → Bool
has_monitors w = eqb (length w) (whole_size (count_in w)) && groups_in_range (count_in w) w

-- ---- after step 6 of a call

-- the monitors as the machines find them: begun by a start, and a tick's step 1 has made their timers fall
abbrev pub prepared : Stage → Monitors → Monitors
prepared Start m = both_begun
prepared Tick m = monitors_fallen m
prepared Other m = m

unfoldable pub watched_at : Stage → List ℕ → ℕ → Monitors
watched_at s w i = watching (port_at (base_of w) i) (prepared s (monitors_at w i))

-- every port's machines have run
unfoldable pub watched_all : Stage → List ℕ → List ℕ
watched_all s w = with_monitors (base_of w) (watched_at s w)
