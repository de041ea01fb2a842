-- What a piece of work on a table in range leaves: the same header and size, again in range, and these records. With the law that
-- header and records fix a table's octets, this fixes every octet. Before that, the same of memory that was no table.
use Rattle.std.specs.Prelude.{◌≡◌, true, List, ℕ, ◌-◌, ◌≤◌, ◌<◌, length, get_or, set}
use Rattle.port.specs.declared.record.Port.{Port}
use Rattle.table.specs.declared.layout.Header.{Header}
use Rattle.table.specs.Layout.{record_size, place, header_of}
use Rattle.table.specs.Table.{table_in_range, ports}

abbrev pub Holds : List ℕ → Header → List Port → Type 0
Holds t h ps = (header_of t ≡ h) × (table_in_range t ≡ true) × (ports t ≡ ps)

-- memory t whose first record is repeated behind it: every octet there is the one that stands a record before it
pub record Repeated (t u : List ℕ) : Type 0 where
  pub size : length u ≡ length t
  pub front : (j : ℕ) → j < place 1 → get_or u j 0 ≡ get_or t j 0
  pub rest : (j : ℕ) → place 1 ≤ j → j < length t → get_or u j 0 ≡ get_or u (j - record_size) 0

pub record Leaves (t u : List ℕ) (qs : List Port) : Type 0 where
  pub header : header_of u ≡ header_of t
  pub size : length u ≡ length t
  pub ranged : table_in_range u ≡ true
  pub records : ports u ≡ qs

-- port i became q, and every other record stayed
abbrev pub Became : List ℕ → List ℕ → ℕ → Port → Type 0
Became t u i q = Leaves t u (set (ports t) i q)
