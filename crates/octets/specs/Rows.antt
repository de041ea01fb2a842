-- Rows of one width that lie one behind the other: a value for each of n places, as octets.
use Rattle.std.specs.Prelude.{ℕ, zero, suc, ◌*◌, List, [], ◌++◌, take, drop}

-- the octets of row i, from 0
unfoldable pub row_at : ℕ → List ℕ → ℕ → List ℕ
row_at width l i = take width (drop (width * i) l)

-- the first n rows of these values, each by its octets
unfoldable pub rows_to : {A : Type 0} → (A → List ℕ) → (ℕ → A) → ℕ → List ℕ
rows_to e f zero = []
rows_to e f (suc n) = rows_to e f n ++ e (f n)
