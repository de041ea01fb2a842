-- A flag, an age and its octet tell the same, both ways, and the numbers of flags and states are within their ranges. By cases. Assumes nothing.
use Prim.Native.Nat.{ℕ, zero, suc, ◌≤◌, ◌<◌}
use mathlib.Core.Path.{◌≡◌, refl, sym}
use mathlib.Core.Bool.{Bool, true, false, cond}
use native.Mathlib.Omega.{arith}
use lib.Dec.{eqb}
use borrow.Author.Tests.{eqb-true, ne_eqb, ltb-true}
use Rattle.std.specs.Prelude.{Option, Some, None}
use Rattle.octets.specs.Octets.{within}
use Rattle.octets.proofs.RangeLaws.{both}
use Rattle.machine.specs.declared.states.Ages.{Ages}
use Rattle.machine.specs.Ages.{forgotten_age}
use Rattle.port.specs.Range.{age_in_range, ages_in_range}
use Rattle.machine.specs.declared.states.Receive.{Receive}
use Rattle.machine.specs.declared.states.Receive.TheVariants.{Initialize, PortDisabled, Expired, LacpDisabled, Defaulted, Current}
use Rattle.machine.specs.declared.states.Periodic.{Periodic}
use Rattle.machine.specs.declared.states.Periodic.TheVariants.{NoPeriodic, FastPeriodic, SlowPeriodic, PeriodicTx}
use Rattle.machine.specs.declared.states.Mux.{Mux}
use Rattle.machine.specs.declared.states.Mux.TheVariants.{Detached, Waiting, Attached, Collecting, Distributing}
use Rattle.machine.specs.declared.states.Selection.{Selection}
use Rattle.machine.specs.declared.states.Selection.TheVariants.{Unselected, Selected}
use Rattle.machine.specs.Codes.{receive_code, periodic_code, mux_code, selected_code}
use Rattle.table.specs.Codes.{flag_octet, flag_of, no_age, age_octet, age_of}

pub flag-back : (b : Bool) → flag_of (flag_octet b) ≡ b
flag-back true = refl
flag-back false = refl

pub flag_octet-back : (n : ℕ) → n ≤ 1 → flag_octet (flag_of n) ≡ n
flag_octet-back zero h = refl
flag_octet-back (suc zero) h = refl
flag_octet-back (suc (suc n)) h = absurd (omega arith)

pub flag-within : (b : Bool) → within 0 (flag_octet b) 1 ≡ true
flag-within true = refl
flag-within false = refl

pub receive-within : (r : Receive) → within 0 (receive_code r) 5 ≡ true
receive-within Initialize = refl
receive-within PortDisabled = refl
receive-within Expired = refl
receive-within LacpDisabled = refl
receive-within Defaulted = refl
receive-within Current = refl

pub periodic-within : (q : Periodic) → within 0 (periodic_code q) 3 ≡ true
periodic-within NoPeriodic = refl
periodic-within FastPeriodic = refl
periodic-within SlowPeriodic = refl
periodic-within PeriodicTx = refl

pub mux-within : (m : Mux) → within 0 (mux_code m) 4 ≡ true
mux-within Detached = refl
mux-within Waiting = refl
mux-within Attached = refl
mux-within Collecting = refl
mux-within Distributing = refl

pub selected-within : (s : Selection) → within 0 (selected_code s) 1 ≡ true
selected-within Unselected = refl
selected-within Selected = refl

-- ---- ages: in range they are told from none, and every octet goes back

pub age-back : (a : Option ℕ) → age_in_range a ≡ true → age_of (age_octet a) ≡ a
age-back None e = refl
age-back (Some a) e = let young : a < 11 = ltb-true a forgotten_age e in rw (ne_eqb a no_age (λ x. omega (arith, young, x)))

pub age_octet-back : (n : ℕ) → age_octet (age_of n) ≡ n
age_octet-back n = by (eqb n no_age) refl
  where
    by : (b : Bool) → eqb n no_age ≡ b → age_octet (cond b None (Some n)) ≡ n
    by true e = sym (eqb-true n no_age e)
    by false e = refl

age-fits : (a : Option ℕ) → age_in_range a ≡ true → age_octet a < 256
age-fits None e = omega arith
age-fits (Some a) e = let young : a < 11 = ltb-true a forgotten_age e in omega (arith, young)

pub ages-fit : (g : Ages) → ages_in_range g ≡ true → (age_octet g.first < 256) × (age_octet g.second < 256) × (age_octet g.third < 256)
unfolding ages_in_range
ages-fit g e =
    let first = both (age_in_range g.first) _ e in
    let second = both (age_in_range g.second) _ first.1 in
    (age-fits g.first first.0, age-fits g.second second.0, age-fits g.third second.1)
