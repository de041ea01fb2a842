-- If two outcomes satisfy one contract, they coincide: each part of a contract is an equation with a function of the call and of what came. The
-- definitions are those that the contracts of the calls and of the C functions cite. Assumes nothing.
use Prim.Native.Nat.{ℕ}
use mathlib.Core.Path.{◌≡◌, sym, ◌∙◌}
use mathlib.Core.List.{List}
use Rattle.control.specs.Answer.{Answer}
use Rattle.control.specs.Call.{Call}
use Rattle.std.specs.Prelude.{Result}
use Rattle.report.specs.declared.Sets.{Sets}
use Rattle.control.specs.declared.answer.Reason.{Reason}
use Rattle.asked.specs.Ask.{Said}
use Rattle.asked.specs.Meets.{Meets, MeetsOut, MeetsAsk, MeetsPort, MeetsNumber, MeetsNumberOut, MeetsFrame, MeetsAskNumber, MeetsRecord, MeetsAggregator, MeetsDue}
use Rattle.asked.specs.Moves.{MeetsForward, MeetsBack, MeetsForwardNumber, MeetsBackNumber}
use Rattle.asked.specs.Report.{asked_aggregator, asked_due}

-- both equal what the contract names
same : {A : Type 0} {x y z : A} → x ≡ z → y ≡ z → x ≡ y
same a b = a ∙ sym b

-- ---- the calls

module _ (c : Call) (w : List ℕ) (a b : Answer) (u v : List ℕ) where
  pub one_outcome : Meets c w a u → Meets c w b v → (a ≡ b) × (u ≡ v)
  one_outcome x y = (same x.0 y.0, same x.1 y.1)

  pub one_outcome_out : (o q : List ℕ) → MeetsOut c w a u o → MeetsOut c w b v q → (a ≡ b) × (u ≡ v) × (o ≡ q)
  one_outcome_out o q x y = (same x.0 y.0, same x.1 y.1, same x.2 y.2)

-- an ask, by port, waiting time and buffer
pub one-ask : (port wait : ℕ) (out w : List ℕ) (a b : Said) (u v o q : List ℕ) → MeetsAsk port wait out w a u o → MeetsAsk port wait out w b v q → (a ≡ b) × (u ≡ v) × (o ≡ q)
one-ask port wait out w a b u v o q x y = (same x.0 y.0, same x.1 y.1, same x.2 y.2)

-- the reports are lent the table to read only
pub one-port_report : (n : ℕ) (w m : List ℕ) (a b : Answer) (r s : List ℕ) → MeetsPort n w m a r → MeetsPort n w m b s → (a ≡ b) × (r ≡ s)
one-port_report n w m a b r s x y = (same x.0 y.0, same x.1 y.1)

pub one-aggregator_report : (k : ℕ) (w : List ℕ) (r s : Result Sets Reason) → r ≡ asked_aggregator k w → s ≡ asked_aggregator k w → r ≡ s
one-aggregator_report k w r s x y = same x y

pub one-due_report : (w : List ℕ) (r s : Result ℕ Reason) → r ≡ asked_due w → s ≡ asked_due w → r ≡ s
one-due_report w r s x y = same x y

-- ---- the C functions

module _ (c : Call) (w : List ℕ) (n m : ℕ) (u v : List ℕ) where
  pub one_number : MeetsNumber c w n u → MeetsNumber c w m v → (n ≡ m) × (u ≡ v)
  one_number x y = (same x.0 y.0, same x.1 y.1)

  pub one_number-out : (o q : List ℕ) → MeetsNumberOut c w n u o → MeetsNumberOut c w m v q → (n ≡ m) × (u ≡ v) × (o ≡ q)
  one_number-out o q x y = (same x.0 y.0, same x.1 y.1, same x.2 y.2)

  pub one-frame : (o q : List ℕ) (k l : ℕ) → MeetsFrame c w n u o k → MeetsFrame c w m v q l → (n ≡ m) × (u ≡ v) × (o ≡ q) × (k ≡ l)
  one-frame o q k l x y = (same x.0 y.0, same x.1 y.1, same x.2 y.2, same x.3 y.3)

pub one-ask-number : (port wait : ℕ) (out w : List ℕ) (n m : ℕ) (u v o q : List ℕ) → MeetsAskNumber port wait out w n u o → MeetsAskNumber port wait out w m v q → (n ≡ m) × (u ≡ v) × (o ≡ q)
one-ask-number port wait out w n m u v o q x y = (same x.0 y.0, same x.1 y.1, same x.2 y.2)

pub one-port : (port : ℕ) (w lent : List ℕ) (n m : ℕ) (r s : List ℕ) → MeetsRecord port w lent n r → MeetsRecord port w lent m s → (n ≡ m) × (r ≡ s)
one-port port w lent n m r s x y = (same x.0 y.0, same x.1 y.1)

pub one-aggregator : (k : ℕ) (w : List ℕ) (n m h i a b d e c f l g : ℕ) → MeetsAggregator k w n h a d c l → MeetsAggregator k w m i b e f g
    → (n ≡ m) × (h ≡ i) × (a ≡ b) × (d ≡ e) × (c ≡ f) × (l ≡ g)
one-aggregator k w n m h i a b d e c f l g x y =
    (same x.0 y.0, same x.1 y.1, same x.2 y.2, same x.3 y.3, same x.4 y.4, same x.5 y.5)

pub one-due : (w : List ℕ) (n m p q : ℕ) → MeetsDue w n p → MeetsDue w m q → (n ≡ m) × (p ≡ q)
one-due w n m p q x y = (same x.0 y.0, same x.1 y.1)

-- ---- the moves: answer and target

module _ (source lent : List ℕ) (a b : Answer) (u v : List ℕ) where
  pub one-forward : MeetsForward source lent a u → MeetsForward source lent b v → (a ≡ b) × (u ≡ v)
  one-forward x y = (same x.0 y.0, same x.1 y.1)

  pub one-back : MeetsBack source lent a u → MeetsBack source lent b v → (a ≡ b) × (u ≡ v)
  one-back x y = (same x.0 y.0, same x.1 y.1)

module _ (source lent : List ℕ) (n m : ℕ) (u v : List ℕ) where
  pub one-forward-number : MeetsForwardNumber source lent n u → MeetsForwardNumber source lent m v → (n ≡ m) × (u ≡ v)
  one-forward-number x y = (same x.0 y.0, same x.1 y.1)

  pub one-back-number : MeetsBackNumber source lent n u → MeetsBackNumber source lent m v → (n ≡ m) × (u ≡ v)
  one-back-number x y = (same x.0 y.0, same x.1 y.1)
