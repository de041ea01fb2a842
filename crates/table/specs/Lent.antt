-- What a piece of work on a lent table makes of it: it stays the same memory, with the same header and size, and in range.
use Rattle.std.specs.Prelude.{◌≡◌, List, ℕ, ◌<◌, set}
use Rattle.port.specs.declared.record.Port.{Port}
use Rattle.table.specs.declared.lent.TableMut.{TableMut}
use Rattle.table.specs.Table.{count_in, ports, port_at}
use Rattle.table.specs.Leaves.{Leaves}

-- one of its ports, from 0
abbrev pub Has : TableMut → ℕ → Type 0
Has t i = i < count_in t.octets.now

-- f made its ports of those that it had
pub record Swept (t u : TableMut) (f : List Port → List Port) : Type 0 where
  pub memory : u.octets.ghost_name ≡ t.octets.ghost_name
  pub left : Leaves t.octets.now u.octets.now (f (ports t.octets.now))

-- f made port i of what it was, and every other one stayed
abbrev pub Stepped : TableMut → TableMut → ℕ → (Port → Port) → Type 0
Stepped t u i f = Swept t u (λ ps. set ps i (f (port_at t.octets.now i)))

-- f made its octets of those that it had
pub record Remade (t u : TableMut) (f : List ℕ → List ℕ) : Type 0 where
  pub memory : u.octets.ghost_name ≡ t.octets.ghost_name
  pub made : u.octets.now ≡ f t.octets.now
