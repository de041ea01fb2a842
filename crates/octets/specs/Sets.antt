-- Sets of numbers below 32, as 32-bit numbers: bit 0 is number 0.
use Rattle.std.specs.Prelude.{ℕ, ◌-◌, ◌/◌, ◌%◌, ◌^◌, Bool, eqb}
use Rattle.std.specs.Int.Count.{count_leading_zeros}

-- whether number i is in a set: its bit
unfoldable pub member : ℕ → ℕ → Bool
member x i = eqb (x / 2 ^ i % 2) 1

-- the least number above all of a set, 0 for none: beyond its highest bit
unfoldable pub end_of : ℕ → ℕ
end_of x = 32 - count_leading_zeros 32 x
