-- The parts of one width that the library makes of a list (`as_chunks`): part i is row i. Assumes nothing.
use Prim.Native.Nat.{ℕ, zero, suc, ◌*◌, ◌<◌}
use mathlib.Core.Path.{◌≡◌, refl, sym, ap, ◌∙◌}
use mathlib.Core.List.{List, []}
use native.Mathlib.Omega.{arith}
use native.Mathlib.Nat.{mul-zero, mul-suc}
use lib.ListN.{length, take, drop, get_or}
use lib.Seq.{drop-drop}
use Rattle.std.specs.Simd.{first_chunks}
use Rattle.octets.specs.Rows.{row_at}

pub chunks-length : (width k : ℕ) (l : List ℕ) → length (first_chunks width k l) ≡ k
chunks-length width zero l = refl
chunks-length width (suc k) l = ap suc (chunks-length width k (drop width l))

pub chunk-row : (width k : ℕ) (l : List ℕ) (i : ℕ) → i < k → get_or (first_chunks width k l) i [] ≡ row_at width l i
unfolding row_at
chunk-row width zero l i h = absurd (omega (arith, h))
chunk-row width (suc k) l zero h = sym (ap (λ (n : ℕ). take width (drop n l)) (mul-zero width))
chunk-row width (suc k) l (suc i) h =
    let far = mul-suc width i in
    chunk-row width k (drop width l) i (omega (arith, h))
    ∙ ap (λ (x : List ℕ). take width x) (drop-drop (width * i) width l ∙ ap (λ (n : ℕ). drop n l) (omega (arith, far)))
