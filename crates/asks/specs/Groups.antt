-- The groups of all ports, one behind the other.
use Rattle.std.specs.Prelude.{ℕ, zero, suc, Bool, true, ◌&&◌, List}
use Rattle.asks.specs.declared.ask.Ask.{Ask}
use Rattle.asks.specs.Ask.{never_asked, ask_fallen}
use Rattle.asks.specs.Group.{group_size, group_octets, group_of, group_in_range}
use Rattle.octets.specs.Rows.{row_at, rows_to}

-- what port i, from 0, asked for
unfoldable pub ask_at : List ℕ → ℕ → Ask
ask_at g i = group_of (row_at group_size g i)

-- whether the first n are in range
unfoldable pub groups_in_range : ℕ → List ℕ → Bool
groups_in_range zero g = true
groups_in_range (suc n) g = groups_in_range n g && group_in_range (row_at group_size g n)

-- a tick, and a start, of n ports
unfoldable pub all_fallen : ℕ → List ℕ → List ℕ
all_fallen n g = rows_to group_octets (λ i. ask_fallen (ask_at g i)) n

unfoldable pub all_begun : ℕ → List ℕ
all_begun n = rows_to group_octets (λ i. never_asked) n
