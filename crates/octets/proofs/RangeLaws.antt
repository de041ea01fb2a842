-- Ranges of numbers taken apart into facts and put together again: conjunctions of tests, `within`, and `fits` of numbers that are read
-- from octets or written as such. Assumes nothing.
use Prim.Native.Nat.{ℕ, ◌+◌, ◌≤◌, ◌<◌}
use mathlib.Core.Path.{◌≡◌}
use mathlib.Core.Bool.{Bool, true, ◌&&◌}
use mathlib.Core.List.{List}
use native.Mathlib.Omega.{arith}
use lib.ListN.{get_or}
use lib.Dec.{leb}
use borrow.Author.Tests.{leb-true, le-leb, ltb-true, lt-ltb}
use Rattle.std.proofs.lemmas.Bool.{and_from}
pub use Rattle.std.proofs.lemmas.Bool.{and_parts as both}
use Rattle.octets.specs.Octets.{Octets, number_at, number_octets, fits, within}
use Rattle.octets.proofs.OctetLists.{octets_of_lem}

pub both_true : {a b : Bool} → a ≡ true → b ≡ true → a && b ≡ true
both_true {a} {b} p q = and_from a b p q

pub within-true : (low n high : ℕ) → within low n high ≡ true → (low ≤ n) × (n ≤ high)
within-true low n high e =
    let two = both (leb low n) (leb n high) e in
    (leb-true low n two.0, leb-true n high two.1)

pub within-is : (low n high : ℕ) → low ≤ n → n ≤ high → within low n high ≡ true
within-is low n high p q = both_true (le-leb low n p) (le-leb n high q)

-- what is within a range of octets is an octet
pub small : (low n high : ℕ) → within low n high ≡ true → high < 256 → n < 256
small low n high e h = let most : n ≤ high = (within-true low n high e).1 in omega arith

-- ---- numbers of two octets

-- one that was read from octets fits
pub number_fits : (l : List ℕ) → Octets l → (i : ℕ) → fits (number_at l i) ≡ true
number_fits l o i =
    let h : get_or l i 0 < 256 = o i in
    let k : get_or l (i + 1) 0 < 256 = o (i + 1) in
    lt-ltb (number_at l i) 65536 (omega arith)

-- the octets of one that fits
pub number-octets : (n : ℕ) → fits n ≡ true → Octets (number_octets n)
number-octets n e =
    let less : n < 65536 = ltb-true n 65536 e in
    octets_of_lem (number_octets n) (omega arith, (omega arith, tt))
