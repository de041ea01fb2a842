-- A front of a layer and groups in range behind it: memory that has both again. Assumes nothing.
use Prim.Native.Nat.{ℕ, ◌*◌, ◌≤◌}
use mathlib.Core.Path.{◌≡◌, sym, ap, ◌∙◌}
use mathlib.Core.Bool.{true}
use mathlib.Core.List.{List, ◌++◌}
use native.Mathlib.Omega.{arith}
use lib.ListN.{length, take, drop, length-append}
use lib.Seq.{take_at, drop_at}
use borrow.Author.Tests.{eq-eqb}
use Rattle.octets.proofs.RangeLaws.{both_true}
use Rattle.table.specs.Table.{count_in}
use Rattle.asks.specs.Group.{group_size}
use Rattle.asks.specs.Groups.{groups_in_range}
use Rattle.whole.proofs.CallLaws.{front-count}
use Rattle.asked.specs.Layer.{Layer}
use Rattle.asked.specs.Asked.{asked_size, front_of, groups_of, has_asks}

module _ (L : Layer) (w : List ℕ) (some : 1 ≤ length w) (size : length w ≡ L.size (count_in w)) (g : List ℕ) (gs : length g ≡ group_size * count_in w)
    (ranged : groups_in_range (count_in w) g ≡ true) where
  pub joined-count : count_in (w ++ g) ≡ count_in w
  joined-count = front-count w g some

  pub joined-front : front_of L (w ++ g) ≡ w
  joined-front = ap (λ (n : ℕ). take (L.size n) (w ++ g)) joined-count ∙ take_at w g (L.size (count_in w)) size

  pub joined-groups : groups_of L (w ++ g) ≡ g
  joined-groups = ap (λ (n : ℕ). drop (L.size n) (w ++ g)) joined-count ∙ drop_at w g (L.size (count_in w)) size

  pub joined-size : length (w ++ g) ≡ asked_size L (count_in w)
  joined-size = length-append w g ∙ omega (arith, size, gs)

  pub joined-has : has_asks L (w ++ g) ≡ true
  unfolding has_asks
  joined-has =
      both_true (eq-eqb (length (w ++ g)) (asked_size L (count_in (w ++ g))) (joined-size ∙ ap (asked_size L) (sym joined-count)))
      ((λ i. groups_in_range (joined-count i) (joined-groups i)) ∙ ranged)
