-- What the contracts of `octets` cite: lists of octets, octets written over others, equal octets, two-octet numbers, high octet first,
-- and ranges of numbers. Assumes nothing.
use Rattle.std.specs.Prelude.{ℕ, ◌+◌, ◌*◌, ◌/◌, ◌%◌, ◌<◌, Bool, true, false, ◌&&◌, List, [], ◌∷◌, ◌++◌, length, take, drop, get_or, leb, ltb, eqb}

-- every element is an octet
abbrev pub Octets : List ℕ → Type 0
Octets l = (i : ℕ) → get_or l i 0 < 256

-- d with s written over it from index `at` on
unfoldable pub put_at : ℕ → List ℕ → List ℕ → List ℕ
put_at at s d = take at d ++ (s ++ drop (at + length s) d)

-- d with as many octets of s as fit written over it, from the front; what is behind them stays
unfoldable pub fitted : List ℕ → List ℕ → List ℕ
fitted s d = take (length d) s ++ drop (length s) d

-- whether two lists hold the same octets
unfoldable pub same_octets : List ℕ → List ℕ → Bool
same_octets [] [] = true
same_octets [] (y ∷ ys) = false
same_octets (x ∷ xs) [] = false
same_octets (x ∷ xs) (y ∷ ys) = eqb x y && same_octets xs ys

-- the two octets of a number
abbrev pub high : ℕ → ℕ
high n = n / 256

abbrev pub low : ℕ → ℕ
low n = n % 256

abbrev pub number_octets : ℕ → List ℕ
number_octets n = high n ∷ low n ∷ []

-- the number that two octets make, and the one at index i
abbrev pub joined : ℕ → ℕ → ℕ
joined h l = h * 256 + l

abbrev pub number_at : List ℕ → ℕ → ℕ
number_at l i = joined (get_or l i 0) (get_or l (i + 1) 0)

-- the same of four octets
abbrev pub long_octets : ℕ → List ℕ
long_octets n = number_octets (n / 65536) ++ number_octets (n % 65536)

abbrev pub long_at : List ℕ → ℕ → ℕ
long_at l i = number_at l i * 65536 + number_at l (i + 2)

-- the number that octets make, the first of them the lowest, and the one of four at index i
unfoldable pub word : List ℕ → ℕ
word [] = 0
word (a ∷ rest) = word rest * 256 + a

abbrev pub word_at : List ℕ → ℕ → ℕ
word_at l i = word (get_or l i 0 ∷ get_or l (i + 1) 0 ∷ get_or l (i + 2) 0 ∷ get_or l (i + 3) 0 ∷ [])

-- a number of two octets
abbrev pub fits : ℕ → Bool
fits n = ltb n 65536

-- whether n is neither below `low` nor above `high`
abbrev pub within : ℕ → ℕ → ℕ → Bool
within low n high = leb low n && leb n high
