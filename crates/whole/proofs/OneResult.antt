-- If two outcomes satisfy one contract, they coincide: each part of a contract is an equation with a function of the call and of what came. The
-- definitions are those that the contracts of the calls cite. Assumes nothing.
use Prim.Native.Nat.{ℕ}
use mathlib.Core.Path.{◌≡◌, sym, ◌∙◌}
use mathlib.Core.List.{List}
use Rattle.control.specs.Answer.{Answer}
use Rattle.std.specs.Prelude.{Result}
use Rattle.report.specs.declared.Sets.{Sets}
use Rattle.control.specs.declared.answer.Reason.{Reason}
use Rattle.control.specs.Call.{Call}
use Rattle.whole.specs.Meets.{Meets, MeetsOut, MeetsPort}
use Rattle.whole.specs.Moves.{MeetsForward, MeetsBack}
use Rattle.whole.specs.Report.{whole_aggregator, whole_due}

-- both equal what the contract names
same : {A : Type 0} {x y z : A} → x ≡ z → y ≡ z → x ≡ y
same a b = a ∙ sym b

module _ (c : Call) (w : List ℕ) (a b : Answer) (u v : List ℕ) where
  pub one_outcome : Meets c w a u → Meets c w b v → (a ≡ b) × (u ≡ v)
  one_outcome x y = (same x.0 y.0, same x.1 y.1)

  pub one_outcome_out : (o q : List ℕ) → MeetsOut c w a u o → MeetsOut c w b v q → (a ≡ b) × (u ≡ v) × (o ≡ q)
  one_outcome_out o q x y = (same x.0 y.0, same x.1 y.1, same x.2 y.2)

-- the reports are lent the table to read only
pub one-port_report : (n : ℕ) (w m : List ℕ) (a b : Answer) (r s : List ℕ) → MeetsPort n w m a r → MeetsPort n w m b s → (a ≡ b) × (r ≡ s)
one-port_report n w m a b r s x y = (same x.0 y.0, same x.1 y.1)

pub one-aggregator_report : (k : ℕ) (w : List ℕ) (r s : Result Sets Reason) → r ≡ whole_aggregator k w → s ≡ whole_aggregator k w → r ≡ s
one-aggregator_report k w r s x y = same x y

pub one-due_report : (w : List ℕ) (r s : Result ℕ Reason) → r ≡ whole_due w → s ≡ whole_due w → r ≡ s
one-due_report w r s x y = same x y

-- the moves: answer and target
module _ (source lent : List ℕ) (a b : Answer) (u v : List ℕ) where
  pub one-forward : MeetsForward source lent a u → MeetsForward source lent b v → (a ≡ b) × (u ≡ v)
  one-forward x y = (same x.0 y.0, same x.1 y.1)

  pub one-back : MeetsBack source lent a u → MeetsBack source lent b v → (a ≡ b) × (u ≡ v)
  one-back x y = (same x.0 y.0, same x.1 y.1)
