-- Which ports are individual, exactly (R10.1). Assumes nothing.
use mathlib.Core.Path.{◌≡◌, refl}
use mathlib.Core.Bool.{Bool, true, false, not, ◌||◌, or-true}
use Rattle.machine.specs.Compare.{same_system}
use Rattle.machine.proofs.CompareLaws.{system-true, system_refl}
use Rattle.port.specs.Compared.{Compared}
use Rattle.table.specs.declared.layout.Header.{Header}
use Rattle.trunk.specs.Selection.{individual}

pub data Alone (ours : Header) (c : Compared) : Type 0 where
  we_do_not : c.aggregation ≡ false → Alone ours c
  partner_does_not : c.partner_aggregation ≡ false → Alone ours c
  ourselves : c.system ≡ ours.system → Alone ours c

pub individual-true : (ours : Header) (c : Compared) → individual ours c ≡ true → Alone ours c
unfolding individual
individual-true ours c e = by c.aggregation c.partner_aggregation refl refl e
  where
    by : (a b : Bool) → c.aggregation ≡ a → c.partner_aggregation ≡ b → not a || (not b || same_system c.system ours.system) ≡ true → Alone ours c
    by false b x y h = we_do_not x
    by true false x y h = partner_does_not y
    by true true x y h = ourselves (system-true c.system ours.system h)

pub individual-is : (ours : Header) (c : Compared) → Alone ours c → individual ours c ≡ true
unfolding individual
individual-is ours c (we_do_not e) = rw e
individual-is ours c (partner_does_not e) = rw (e, or-true (not c.aggregation))
individual-is ours c (ourselves e) =
    rw (e, system_refl ours.system, or-true (not c.partner_aggregation), or-true (not c.aggregation))
