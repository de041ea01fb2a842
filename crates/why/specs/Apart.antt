-- Why two ports are not in one group (43.4.14, R10): what the selection rule compares, each field for itself. Empty exactly where they share one (law `apart-shares`).
use Rattle.std.specs.Prelude.{ℕ, ◌+◌, ◌*◌, Bool, false, cond, not, List, [], ◌∷◌, get_or, eqb}
use Rattle.frame.specs.State.{weighed}
use Rattle.machine.specs.Compare.{same_address, same_system}
use Rattle.port.specs.Compared.{Compared}
use Rattle.table.specs.declared.layout.Header.{Header}
use Rattle.trunk.specs.Selection.{nobody}
use Rattle.why.specs.declared.apart.Alone.{Alone}
use Rattle.why.specs.declared.apart.Apart.{Apart}

-- R10.1
abbrev pub alone : Header → Compared → Alone
alone ours c = record { own = not c.aggregation; partner = not c.partner_aggregation; ourselves = same_system c.system ours.system }

-- R10.2
abbrev pub apart_from : Header → Compared → Compared → Apart
apart_from ours c d = record {
  first = alone ours c;
  second = alone ours d;
  keys = not (eqb c.key d.key);
  priorities = not (eqb c.system.priority d.system.priority);
  addresses = not (same_address c.system.address d.system.address);
  theirs = not (eqb c.partner_key d.partner_key);
}

abbrev pub not_alone : Alone
not_alone = record { own = false; partner = false; ourselves = false }

abbrev pub nothing : Apart
nothing = record { first = not_alone; second = not_alone; keys = false; priorities = false; addresses = false; theirs = false }

-- R10.3: ports i and j, from 0; a port is not apart from itself
unfoldable pub apart_of : Header → List Compared → ℕ → ℕ → Apart
apart_of ours cs i j = cond (eqb i j) nothing (apart_from ours (get_or cs i nobody) (get_or cs j nobody))

-- ---- as a number

-- the reasons in their order
abbrev pub reasons : Apart → List Bool
reasons a =
    a.first.own ∷ a.first.partner ∷ a.first.ourselves ∷ a.second.own ∷ a.second.partner ∷ a.second.ourselves
    ∷ a.keys ∷ a.priorities ∷ a.addresses ∷ a.theirs ∷ []

-- a bit for each, the first the lowest
unfoldable pub bits_of : List Bool → ℕ
bits_of [] = 0
bits_of (b ∷ bs) = bits_of bs * 2 + weighed b 1

unfoldable pub apart_number : Apart → ℕ
apart_number a = bits_of (reasons a)
