-- A state and its number tell the same, both ways. By cases. Assumes nothing.
use Prim.Native.Nat.{ℕ, zero, suc, ◌≤◌}
use mathlib.Core.Path.{◌≡◌, refl}
use native.Mathlib.Omega.{arith}
use Rattle.machine.specs.declared.states.Receive.{Receive}
use Rattle.machine.specs.declared.states.Receive.TheVariants.{Initialize, PortDisabled, Expired, LacpDisabled, Defaulted, Current}
use Rattle.machine.specs.declared.states.Periodic.{Periodic}
use Rattle.machine.specs.declared.states.Periodic.TheVariants.{NoPeriodic, FastPeriodic, SlowPeriodic, PeriodicTx}
use Rattle.machine.specs.declared.states.Mux.{Mux}
use Rattle.machine.specs.declared.states.Mux.TheVariants.{Detached, Waiting, Attached, Collecting, Distributing}
use Rattle.machine.specs.declared.states.Selection.{Selection}
use Rattle.machine.specs.declared.states.Selection.TheVariants.{Unselected, Selected}
use Rattle.machine.specs.Codes.{receive_code, receive_of, periodic_code, periodic_of, mux_code, mux_of, selected_code, selected_of}

-- ---- state to number to state

pub receive-back : (r : Receive) → receive_of (receive_code r) ≡ r
receive-back Initialize = refl
receive-back PortDisabled = refl
receive-back Expired = refl
receive-back LacpDisabled = refl
receive-back Defaulted = refl
receive-back Current = refl

pub periodic-back : (q : Periodic) → periodic_of (periodic_code q) ≡ q
periodic-back NoPeriodic = refl
periodic-back FastPeriodic = refl
periodic-back SlowPeriodic = refl
periodic-back PeriodicTx = refl

pub mux-back : (m : Mux) → mux_of (mux_code m) ≡ m
mux-back Detached = refl
mux-back Waiting = refl
mux-back Attached = refl
mux-back Collecting = refl
mux-back Distributing = refl

pub selected-back : (s : Selection) → selected_of (selected_code s) ≡ s
selected-back Unselected = refl
selected-back Selected = refl

-- ---- number to state to number

pub receive_code-back : (n : ℕ) → n ≤ 5 → receive_code (receive_of n) ≡ n
receive_code-back zero h = refl
receive_code-back (suc zero) h = refl
receive_code-back (suc (suc zero)) h = refl
receive_code-back (suc (suc (suc zero))) h = refl
receive_code-back (suc (suc (suc (suc zero)))) h = refl
receive_code-back (suc (suc (suc (suc (suc zero))))) h = refl
receive_code-back (suc (suc (suc (suc (suc (suc n)))))) h = absurd (omega arith)

pub periodic_code-back : (n : ℕ) → n ≤ 3 → periodic_code (periodic_of n) ≡ n
periodic_code-back zero h = refl
periodic_code-back (suc zero) h = refl
periodic_code-back (suc (suc zero)) h = refl
periodic_code-back (suc (suc (suc zero))) h = refl
periodic_code-back (suc (suc (suc (suc n)))) h = absurd (omega arith)

pub mux_code-back : (n : ℕ) → n ≤ 4 → mux_code (mux_of n) ≡ n
mux_code-back zero h = refl
mux_code-back (suc zero) h = refl
mux_code-back (suc (suc zero)) h = refl
mux_code-back (suc (suc (suc zero))) h = refl
mux_code-back (suc (suc (suc (suc zero)))) h = refl
mux_code-back (suc (suc (suc (suc (suc n))))) h = absurd (omega arith)

pub selected_code-back : (n : ℕ) → n ≤ 1 → selected_code (selected_of n) ≡ n
selected_code-back zero h = refl
selected_code-back (suc zero) h = refl
selected_code-back (suc (suc n)) h = absurd (omega arith)
