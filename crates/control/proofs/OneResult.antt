-- If two outcomes satisfy one contract, they coincide: each part of a contract is an equation with a function of the call and of what came. The
-- definitions are those that the contracts of the calls cite. Assumes nothing.
use Prim.Native.Nat.{ℕ}
use mathlib.Core.Path.{◌≡◌, sym, ◌∙◌}
use mathlib.Core.List.{List}
use Rattle.std.specs.Prelude.{Result}
use Rattle.report.specs.declared.Sets.{Sets}
use Rattle.control.specs.declared.answer.Reason.{Reason}
use Rattle.control.specs.Answer.{Answer}
use Rattle.control.specs.Call.{Call}
use Rattle.control.specs.Meets.{Meets, MeetsOut, MeetsPort}
use Rattle.control.specs.Report.{aggregator_report, due_report}

-- both equal what the contract names
same : {A : Type 0} {x y z : A} → x ≡ z → y ≡ z → x ≡ y
same a b = a ∙ sym b

-- ---- the calls

module _ (c : Call) (t : List ℕ) (a b : Answer) (u v : List ℕ) where
  pub one_outcome : Meets c t a u → Meets c t b v → (a ≡ b) × (u ≡ v)
  one_outcome x y = (same x.0 y.0, same x.1 y.1)

  pub one_outcome_out : (o q : List ℕ) → MeetsOut c t a u o → MeetsOut c t b v q → (a ≡ b) × (u ≡ v) × (o ≡ q)
  one_outcome_out o q x y = (same x.0 y.0, same x.1 y.1, same x.2 y.2)

-- the reports are lent the table to read only
pub one-port_report : (n : ℕ) (t m : List ℕ) (a b : Answer) (r s : List ℕ) → MeetsPort n t m a r → MeetsPort n t m b s → (a ≡ b) × (r ≡ s)
one-port_report n t m a b r s x y = (same x.0 y.0, same x.1 y.1)

pub one-aggregator_report : (k : ℕ) (t : List ℕ) (r s : Result Sets Reason) → r ≡ aggregator_report k t → s ≡ aggregator_report k t → r ≡ s
one-aggregator_report k t r s x y = same x y

pub one-due_report : (t : List ℕ) (r s : Result ℕ Reason) → r ≡ due_report t → s ≡ due_report t → r ≡ s
one-due_report t r s x y = same x y
