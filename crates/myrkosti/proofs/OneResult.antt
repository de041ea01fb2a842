-- If two outcomes of a C function that counts satisfy its contract, they coincide, all seven counters too. Assumes nothing.
use Prim.Native.Nat.{ℕ}
use mathlib.Core.Path.{◌≡◌, sym, ◌∙◌}
use mathlib.Core.List.{List}
use Rattle.control.specs.Call.{fetch, receive}
use Rattle.counters.specs.declared.Counters.{Counters}
use Rattle.asked.proofs.OneResult.{one_number-out, one-frame}
use Rattle.myrkosti.specs.Counted.{MeetsFetch, MeetsReceive}

module _ (port : ℕ) (out w : List ℕ) (k : Counters) (n m : ℕ) (u v o q : List ℕ) (l j : Counters) where
  pub one-fetch : MeetsFetch port out w k n u o l → MeetsFetch port out w k m v q j → ((n ≡ m) × (u ≡ v) × (o ≡ q)) × (l ≡ j)
  one-fetch x y = (one_number-out (fetch port out) w n m u v o q x.0 y.0, x.1 ∙ sym y.1)

  pub one-receive : (frame : List ℕ) (s r : ℕ) → MeetsReceive port frame out w k n u o s l → MeetsReceive port frame out w k m v q r j
      → ((n ≡ m) × (u ≡ v) × (o ≡ q) × (s ≡ r)) × (l ≡ j)
  one-receive frame s r x y = (one-frame (receive port frame out) w n m u v o q s r x.0 y.0, x.1 ∙ sym y.1)
