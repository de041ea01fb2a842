-- What the rules say of timers and of entries to a state, in other words than the tables of the definitions. Assumes nothing.
use Prim.Native.Nat.{ℕ, zero, suc, ◌-◌, ◌<◌}
use mathlib.Core.Path.{◌≡◌, refl, ap, ◌∙◌}
use mathlib.Core.Logic.{◌⊎◌, inl, inr}
use mathlib.Core.Bool.{Bool, true, false, not, ◌||◌, or-true, true≢false, false≢true}
use native.Mathlib.Omega.{arith}
use borrow.Author.Tests.{eq-eqb, ne_eqb}
use denote.Enum.Bare.{sameb}
use Rattle.machine.specs.contracts.states.Receive.{the_type as receive_type}
use Rattle.machine.specs.contracts.states.Selection.{the_type as selection_type}
use Rattle.machine.specs.declared.states.Selection.{Selection}
use Rattle.machine.specs.declared.states.Selection.TheVariants.{Unselected, Selected}
use Rattle.machine.specs.declared.states.Receive.{Receive}
use Rattle.machine.specs.declared.states.Receive.TheVariants.{Initialize, PortDisabled, Expired, LacpDisabled, Defaulted, Current}
use Rattle.machine.specs.Receive.{is_disabled, is_current}
use Rattle.machine.specs.declared.states.Line.{Line}
use Rattle.machine.specs.declared.states.Mux.{Mux}
use Rattle.machine.specs.declared.states.Mux.TheVariants.{Detached, Waiting, Attached, Collecting, Distributing}
use Rattle.machine.specs.declared.states.Periodic.{Periodic}
use Rattle.machine.specs.declared.states.Periodic.TheVariants.{NoPeriodic, FastPeriodic, SlowPeriodic, PeriodicTx}
use Rattle.machine.specs.declared.states.Ticks.{Ticks}
use Rattle.machine.specs.Mux.{is_unselected, sets_ntt}
use Rattle.machine.specs.Periodic.{is_tx}
use Rattle.machine.specs.States.{ticks, quiet_on}
use Rattle.machine.specs.Time.{ran_out, fallen}

-- ---- R3.12: a timer that was started with n has run out at the n-th tick after, and at none before

-- k ticks later
unfoldable pub fallen_by : ℕ → Ticks → Ticks
fallen_by zero t = t
fallen_by (suc k) t = fallen_by k (fallen t)

fallen-is : (k n : ℕ) → fallen_by k (ticks n) ≡ ticks (n - k)
unfolding fallen_by
fallen-is zero n = let e : n ≡ n - 0 = omega arith in ap (λ (m : ℕ). ticks m) e
fallen-is (suc k) n = let e : n - 1 - k ≡ n - suc k = omega arith in fallen-is k (n - 1) ∙ ap (λ (m : ℕ). ticks m) e

pub runs-out : (n : ℕ) → ran_out (fallen_by n (ticks n)) ≡ true
runs-out n = ap (λ (t : Ticks). ran_out t) (fallen-is n n) ∙ eq-eqb (n - n) 0 (omega arith)

pub runs-before : (k n : ℕ) → k < n → ran_out (fallen_by k (ticks n)) ≡ false
runs-before k n h = ap (λ (t : Ticks). ran_out t) (fallen-is k n) ∙ ne_eqb (n - k) 0 (λ e. omega (arith, e))

-- ---- R9.1: where the periodic machine is quiet

pub quiet-true : (l : Line) (passive : Bool) → quiet_on l passive ≡ true → (l.full ≡ false) ⊎ ((l.up ≡ false) ⊎ (passive ≡ true))
quiet-true l passive e = by l.full l.up refl refl e
  where
    by : (f u : Bool) → l.full ≡ f → l.up ≡ u → not f || (not u || passive) ≡ true → (l.full ≡ false) ⊎ ((l.up ≡ false) ⊎ (passive ≡ true))
    by false u x y h = inl x
    by true false x y h = inr (inl y)
    by true true x y h = inr (inr h)

pub quiet_is : (l : Line) (passive : Bool) → (l.full ≡ false) ⊎ ((l.up ≡ false) ⊎ (passive ≡ true)) → quiet_on l passive ≡ true
quiet_is l passive (inl x) = rw x
quiet_is l passive (inr (inl x)) = rw (x, or-true (not l.full))
quiet_is l passive (inr (inr x)) = rw (x, or-true (not l.up), or-true (not l.full))

-- ---- R9.4, R11.3: which entries ask for an LACPDU

pub transmits_alone : (s : Periodic) → is_tx s ≡ true → s ≡ PeriodicTx
transmits_alone NoPeriodic e = absurd (false≢true e)
transmits_alone FastPeriodic e = absurd (false≢true e)
transmits_alone SlowPeriodic e = absurd (false≢true e)
transmits_alone PeriodicTx e = refl

pub silent_entries : (m : Mux) → sets_ntt m ≡ false → (m ≡ Waiting) ⊎ (m ≡ Distributing)
silent_entries Detached e = absurd (true≢false e)
silent_entries Waiting e = inl refl
silent_entries Attached e = absurd (true≢false e)
silent_entries Collecting e = absurd (true≢false e)
silent_entries Distributing e = inr refl

pub calling_entries : (m : Mux) → sets_ntt m ≡ true → (m ≡ Detached) ⊎ ((m ≡ Attached) ⊎ (m ≡ Collecting))
calling_entries Detached e = inl refl
calling_entries Waiting e = absurd (false≢true e)
calling_entries Attached e = inr (inl refl)
calling_entries Collecting e = inr (inr refl)
calling_entries Distributing e = absurd (false≢true e)

-- ---- a state that the code compares

pub disabled-is : (s : Receive) → sameb receive_type s PortDisabled ≡ is_disabled s
disabled-is Initialize = refl
disabled-is PortDisabled = refl
disabled-is Expired = refl
disabled-is LacpDisabled = refl
disabled-is Defaulted = refl
disabled-is Current = refl

pub current-is : (s : Receive) → sameb receive_type s Current ≡ is_current s
current-is Initialize = refl
current-is PortDisabled = refl
current-is Expired = refl
current-is LacpDisabled = refl
current-is Defaulted = refl
current-is Current = refl

pub unselected-is : (s : Selection) → sameb selection_type s Unselected ≡ is_unselected s
unselected-is Unselected = refl
unselected-is Selected = refl
