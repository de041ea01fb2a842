-- Four octets tested at once, as one number: what a mask leaves of it is what it leaves of each. Assumes nothing.
use Prim.Native.Nat.{ℕ, ◌+◌, ◌*◌, ◌/◌, ◌%◌, ◌<◌}
use mathlib.Core.Path.{◌≡◌, refl, sym, ap, ◌∙◌}
use mathlib.Core.Bool.{Bool, true, false}
use mathlib.Core.List.{[], ◌∷◌}
use native.Mathlib.Omega.{arith}
use lib.Bits.{bit_and, and_block, and_high, and_zero_r}
use Rattle.octets.specs.Octets.{word}

-- two tests that mean the same
pub same_test : (x y : Bool) → (x ≡ true → y ≡ true) → (y ≡ true → x ≡ true) → x ≡ y
same_test true true f g = refl
same_test true false f g = sym (f refl)
same_test false true f g = g refl
same_test false false f g = refl

-- one octet more
step : (x y a m : ℕ) → a < 256 → m < 256 → bit_and (x * 256 + a) (y * 256 + m) ≡ bit_and x y * 256 + bit_and a m
step x y a m h k = and_block 8 x y a m h k

pub masked : (a b c d m n o p : ℕ) → (a < 256) × (b < 256) × (c < 256) × (d < 256) → (m < 256) × (n < 256) × (o < 256) × (p < 256)
    → bit_and (word (a ∷ b ∷ c ∷ d ∷ [])) (word (m ∷ n ∷ o ∷ p ∷ [])) ≡ word (bit_and a m ∷ bit_and b n ∷ bit_and c o ∷ bit_and d p ∷ [])
unfolding word
masked a b c d m n o p h k =
    step (((0 * 256 + d) * 256 + c) * 256 + b) (((0 * 256 + p) * 256 + o) * 256 + n) a m h.0 k.0
    ∙ ap (λ (x : ℕ). x * 256 + bit_and a m)
    (step ((0 * 256 + d) * 256 + c) ((0 * 256 + p) * 256 + o) b n h.1 k.1
    ∙ ap (λ (x : ℕ). x * 256 + bit_and b n)
    (step (0 * 256 + d) (0 * 256 + p) c o h.2 k.2 ∙ ap (λ (x : ℕ). x * 256 + bit_and c o) (step 0 0 d p h.3 k.3)))

-- the highest bits of four octets; and all bits but the lowest of three, whatever the fourth is
pub highest_bits : (a b c d : ℕ) → (a < 256) × (b < 256) × (c < 256) × (d < 256)
    → bit_and (word (a ∷ b ∷ c ∷ d ∷ [])) 2155905152 ≡ word (a / 128 % 2 * 128 ∷ b / 128 % 2 * 128 ∷ c / 128 % 2 * 128 ∷ d / 128 % 2 * 128 ∷ [])
unfolding word
highest_bits a b c d h =
    masked a b c d 128 128 128 128 h (omega arith, omega arith, omega arith, omega arith)
    ∙ rw (and_high a 1 7, and_high b 1 7, and_high c 1 7, and_high d 1 7)

pub beside-lowest : (a b c d : ℕ) → (a < 256) × (b < 256) × (c < 256) × (d < 256)
    → bit_and (word (a ∷ b ∷ c ∷ d ∷ [])) 16711422 ≡ word (a / 2 % 128 * 2 ∷ b / 2 % 128 * 2 ∷ c / 2 % 128 * 2 ∷ 0 ∷ [])
unfolding word
beside-lowest a b c d h =
    masked a b c d 254 254 254 0 h (omega arith, omega arith, omega arith, omega arith)
    ∙ rw (and_high a 7 1, and_high b 7 1, and_high c 7 1, and_zero_r d)
