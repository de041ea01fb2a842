-- A count of 32 bits, as those of Clause 30 are.
use Rattle.std.specs.Prelude.{ℕ, ◌+◌, ◌%◌}

-- one more: after 4,294,967,295 comes 0
abbrev pub counted : ℕ → ℕ
counted n = (n + 1) % 4294967296
