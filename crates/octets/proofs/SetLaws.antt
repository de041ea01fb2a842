-- Sets as numbers, by the bits of std's `bit_at`. Assumes nothing.
use Prim.Native.Nat.{ℕ, zero, suc, ◌*◌, ◌/◌, ◌%◌, ◌^◌, ◌≤◌, ◌<◌, max}
use mathlib.Core.Path.{◌≡◌, refl, ap, ◌∙◌}
use mathlib.Core.Bool.{Bool, true, false, ◌||◌}
use native.Mathlib.Omega.{arith}
use native.Mathlib.Nat.{one-mul, mod-eq_of_lt}
use lib.Bits.{bit_or}
use lib.Count.{leading_top}
use lib.Dec.{eqb}
use lib.Pow.{pow_mono}
use borrow.Author.Tests.{eqb-true, eqb-false}
use Rattle.std.proofs.Math.Bool.{or_comm}
use Rattle.std.proofs.lemmas.Nat.Bits.{bit_at_lowest, bit_at-suc, bit_at-zero, bit_at_or, bit_at-pow_same, bit_at-pow_other, bit_at-lt, bit_at_above}
use Rattle.std.specs.Int.{bit_at}
use Rattle.octets.specs.Sets.{member, end_of}

-- a member's bit is 1
abbrev set_bit : ℕ → Bool
set_bit n = eqb n 1

pub member-low : (x : ℕ) → member x 0 ≡ eqb (x % 2) 1
unfolding member
member-low x = ap set_bit (bit_at_lowest x)

pub member_half : (x i : ℕ) → member x (suc i) ≡ member (x / 2) i
unfolding member
member_half x i = ap set_bit (bit_at-suc x i)

pub none-member : (i : ℕ) → member 0 i ≡ false
unfolding member
none-member i = ap set_bit (bit_at-zero i)

-- ---- the set of one number

pub one-member : (i m : ℕ) → member (2 ^ i) m ≡ eqb m i
unfolding member
one-member i m = by (eqb m i) refl
  where
    by : (b : Bool) → eqb m i ≡ b → set_bit (bit_at (2 ^ i) m) ≡ b
    by true e = let is : m ≡ i = eqb-true m i e in rw is (ap set_bit (bit_at-pow_same i))
    by false e = ap set_bit (bit_at-pow_other i m (eqb-false m i e))

-- ---- the numbers of two sets

either-bit : (x y : ℕ) → x < 2 → y < 2 → eqb (max x y) 1 ≡ (eqb x 1 || eqb y 1)
either-bit zero zero a b = refl
either-bit zero (suc zero) a b = refl
either-bit (suc zero) zero a b = refl
either-bit (suc zero) (suc zero) a b = refl
either-bit (suc (suc x)) y a b = absurd (omega arith)
either-bit zero (suc (suc y)) a b = absurd (omega arith)
either-bit (suc zero) (suc (suc y)) a b = absurd (omega arith)

pub or-member : (a b m : ℕ) → member (bit_or a b) m ≡ (member a m || member b m)
unfolding member
or-member a b m = ap set_bit (bit_at_or a b m) ∙ either-bit (bit_at a m) (bit_at b m) (bit_at-lt a m) (bit_at-lt b m)

-- ---- a set with one number more

pub with_member : (set i : ℕ) → i < 32 → (m : ℕ) → member (bit_or set (1 * 2 ^ i % 4294967296)) m ≡ (eqb m i || member set m)
with_member set i h m =
    let few : i ≤ 31 = omega arith in
    let most : 2 ^ i ≤ 2 ^ 31 = pow_mono few in
    let less : 2 ^ i < 4294967296 = omega arith in
    let is : 1 * 2 ^ i % 4294967296 ≡ 2 ^ i = ap (λ (x : ℕ). x % 4294967296) (one-mul (2 ^ i)) ∙ mod-eq_of_lt less in
    ap (λ (x : ℕ). member (bit_or set x) m) is ∙ or-member set (2 ^ i) m ∙ ap (λ (b : Bool). member set m || b) (one-member i m) ∙ or_comm (member set m) (eqb m i)

-- ---- the end of a set

pub beyond_end : (x m : ℕ) → x < 4294967296 → end_of x ≤ m → member x m ≡ false
unfolding end_of member
beyond_end zero m h k = none-member m
beyond_end (suc x) m h k =
    let top = leading_top 32 (suc x) (omega arith) h in
    ap set_bit (bit_at_above (suc x) (suc top.0) m top.3 (omega (arith, k, top.1)))
