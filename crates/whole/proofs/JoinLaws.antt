-- Memory whose front was changed by a call on the table without monitors: the front is that table, and the monitors are as they were. Assumes nothing.
use Prim.Native.Nat.{ℕ, zero, suc, ◌+◌, ◌*◌}
use mathlib.Core.Path.{◌≡◌, refl, sym, ap, ◌∙◌}
use mathlib.Core.Bool.{true, ◌&&◌}
use mathlib.Core.List.{List, ◌++◌}
use native.Mathlib.Omega.{arith}
use lib.ListN.{length, take, drop}
use lib.Seq.{take_at, drop-append-add, drop-drop}
use lib.Dec.{eqb}
use borrow.Author.Tests.{eq-eqb}
use Rattle.octets.proofs.RangeLaws.{both, both_true}
use Rattle.table.specs.Layout.{place}
use Rattle.table.specs.Table.{count_in}
use Rattle.churn.specs.Group.{group_size, group_of, group_in_range}
use Rattle.churn.specs.Whole.{group_place, whole_size, base_of, group_at, monitors_at, groups_in_range, has_monitors}
use Rattle.whole.proofs.CallLaws.{front-count, joined-size}

-- memory w of a table of `count` ports with monitors, and u, a table of as many ports, in place of its front
module _ (w u : List ℕ) (count : ℕ) (size : length w ≡ whole_size count) (same : length u ≡ place count) (kept : count_in u ≡ count) where
  pub joined-count : count_in (u ++ drop (place count) w) ≡ count
  joined-count = front-count u (drop (place count) w) (omega (arith, same)) ∙ kept

  pub joined-whole : length (u ++ drop (place count) w) ≡ whole_size (count_in (u ++ drop (place count) w))
  joined-whole = joined-size w u count size same kept

  pub joined-base : base_of (u ++ drop (place count) w) ≡ u
  unfolding base_of
  joined-base = ap (λ (n : ℕ). take (place n) (u ++ drop (place count) w)) joined-count ∙ take_at u (drop (place count) w) (place count) same

  module _ (own : count_in w ≡ count) where
    joined-group : (i : ℕ) → group_at (u ++ drop (place count) w) i ≡ group_at w i
    unfolding group_at
    joined-group i =
        let p : ℕ = place count in
        let at : group_place count i ≡ length u + group_size * i = omega (arith, same) in
        ap (λ (n : ℕ). take group_size (drop (group_place n i) (u ++ drop p w))) joined-count
        ∙ ap (λ (n : ℕ). take group_size (drop n (u ++ drop p w))) at
        ∙ ap (λ (l : List ℕ). take group_size l) (drop-append-add u (drop p w) (group_size * i) ∙ drop-drop (group_size * i) p w)
        ∙ ap (λ (n : ℕ). take group_size (drop (group_place n i) w)) (sym own)

    pub joined-monitors : (i : ℕ) → monitors_at (u ++ drop (place count) w) i ≡ monitors_at w i
    unfolding monitors_at
    joined-monitors i = ap group_of (joined-group i)

    ranged : (n : ℕ) → groups_in_range n (u ++ drop (place count) w) ≡ groups_in_range n w
    unfolding groups_in_range
    ranged zero = refl
    ranged (suc n) = λ j. ranged n j && group_in_range (joined-group n j)

    pub joined-has : has_monitors w ≡ true → has_monitors (u ++ drop (place count) w) ≡ true
    joined-has has = unfold has_monitors in
        both_true (eq-eqb (length (u ++ drop (place count) w)) (whole_size (count_in (u ++ drop (place count) w))) joined-whole)
        (ap (λ (n : ℕ). groups_in_range n (u ++ drop (place count) w)) (joined-count ∙ sym own) ∙ ranged (count_in w) ∙ in_range)
      where
        in_range : groups_in_range (count_in w) w ≡ true
        in_range = unfold has_monitors in (both (eqb (length w) (whole_size (count_in w))) (groups_in_range (count_in w) w) has).1
