-- If two outcomes of a C function that reports satisfy its contract, they coincide. Assumes nothing.
use Prim.Native.Nat.{ℕ}
use mathlib.Core.Path.{◌≡◌, sym, ◌∙◌}
use mathlib.Core.List.{List}
use Rattle.reasons.specs.Reasons.{MeetsWhy, MeetsApart}

module _ (w : List ℕ) (n m : ℕ) where
  pub one-why : (port cause other holder another ticks left : ℕ) → MeetsWhy port w n cause holder ticks → MeetsWhy port w m other another left
      → (n ≡ m) × (cause ≡ other) × (holder ≡ another) × (ticks ≡ left)
  one-why port cause other holder another ticks left x y = (x.0 ∙ sym y.0, x.1 ∙ sym y.1, x.2 ∙ sym y.2, x.3 ∙ sym y.3)

  pub one_apart : (first second reasons others : ℕ) → MeetsApart first second w n reasons → MeetsApart first second w m others → (n ≡ m) × (reasons ≡ others)
  one_apart first second reasons others x y = (x.0 ∙ sym y.0, x.1 ∙ sym y.1)
