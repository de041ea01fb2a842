-- The selection rule (43.4.14, R10), over what it reads of each record. Ports are counted from 0 here, and their
-- aggregators from 1. `ours` is what belongs to the whole table: its header.
use Rattle.std.specs.Prelude.{ℕ, zero, suc, ◌+◌, Bool, false, cond, not, ◌&&◌, ◌||◌, List, get_or, eqb}
use Rattle.machine.specs.Compare.{same_system}
use Rattle.port.specs.Compared.{Compared}
use Rattle.table.specs.declared.layout.Header.{Header}

-- R10.1: one end does not aggregate, or the other end is our own system too
unfoldable pub individual : Header → Compared → Bool
individual ours c = not c.aggregation || (not c.partner_aggregation || same_system c.system ours.system)

-- what ports of one group agree in (R10.2)
unfoldable pub same_keys : Compared → Compared → Bool
same_keys c d = eqb c.key d.key && (same_system c.system d.system && eqb c.partner_key d.partner_key)

-- R10.2, of two ports that are not one and the same
unfoldable pub same_group : Header → Compared → Compared → Bool
same_group ours c d = not (individual ours c) && (not (individual ours d) && same_keys c d)

-- what is read where there is no port
abbrev pub nobody : Compared
nobody = record {
  key = 0;
  aggregation = false;
  system = record { priority = 0; address = record { high = 0; middle = 0; low = 0 } };
  partner_key = 0;
  partner_aggregation = false;
}

-- whether ports i and j, two ports, share a group
unfoldable pub joins : Header → List Compared → ℕ → ℕ → Bool
joins ours cs i j = same_group ours (get_or cs i nobody) (get_or cs j nobody)

-- R10.3: and every port with itself
unfoldable pub shares_group : Header → List Compared → ℕ → ℕ → Bool
shares_group ours cs i j = eqb i j || joins ours cs i j

-- the first of j, j + 1, .. that passes the test, of n of them; j + n where none does
unfoldable pub first_from : (ℕ → Bool) → ℕ → ℕ → ℕ
first_from f j zero = j
first_from f j (suc n) = cond (f j) j (first_from f (j + 1) n)

-- the lowest-numbered port of port i's group: the first before it that shares its group, or itself
unfoldable pub lowest : Header → List Compared → ℕ → ℕ
lowest ours cs i = first_from (joins ours cs i) 0 i

-- R10.4: that port's number, from 1
unfoldable pub rule_of : Header → List Compared → ℕ → ℕ
rule_of ours cs i = lowest ours cs i + 1
