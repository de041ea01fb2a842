-- Lists that hold octets only (`Octets`): made of octets, appended, parts, written over; and the two octets at an index are those of the
-- number there. Assumes nothing.
use Prim.Native.Nat.{ℕ, zero, suc, ◌+◌, ◌/◌, ◌%◌, ◌<◌}
use mathlib.Core.Path.{◌≡◌}
use mathlib.Core.List.{List, [], ◌∷◌, ◌++◌}
use native.Mathlib.Omega.{arith}
use lib.ListN.{length, take, drop, get_or}
use lib.Seq.{get_or-drop}
use Rattle.octets.specs.Octets.{Octets, put_at, high, low, number_at, long_at}
use Rattle.octets.proofs.Laws.{high-back, low-back}

no_octets : Octets []
no_octets i = omega arith

cons_octets : (x : ℕ) (l : List ℕ) → x < 256 → Octets l → Octets (x ∷ l)
cons_octets x l h o zero = h
cons_octets x l h o (suc i) = o i

-- each element of a list below 256
abbrev pub Below : List ℕ → Type 0
Below [] = Unit
Below (x ∷ l) = (x < 256) × Below l

pub octets_of_lem : (l : List ℕ) → Below l → Octets l
octets_of_lem [] b = no_octets
octets_of_lem (x ∷ l) b = cons_octets x l b.0 (octets_of_lem l b.1)

pub append-octets : (a b : List ℕ) → Octets a → Octets b → Octets (a ++ b)
append-octets [] b oa ob = ob
append-octets (x ∷ a) b oa ob = cons_octets x (a ++ b) (oa 0) (append-octets a b (λ i. oa (suc i)) ob)

pub take-octets : (n : ℕ) (l : List ℕ) → Octets l → Octets (take n l)
take-octets zero l o = no_octets
take-octets (suc n) [] o = no_octets
take-octets (suc n) (x ∷ l) o = cons_octets x (take n l) (o 0) (take-octets n l (λ i. o (suc i)))

pub drop-octets : (n : ℕ) (l : List ℕ) → Octets l → Octets (drop n l)
drop-octets n l o i = rw (get_or-drop n l i 0) (o (n + i))

pub put-octets : (b : ℕ) (s t : List ℕ) → Octets s → Octets t → Octets (put_at b s t)
unfolding put_at
put-octets b s t os ot =
    append-octets (take b t) (s ++ drop (b + length s) t) (take-octets b t ot)
    (append-octets s (drop (b + length s) t) os (drop-octets (b + length s) t ot))

-- the two octets at i, from the number there
pub first_back : (l : List ℕ) → Octets l → (i : ℕ) → high (number_at l i) ≡ get_or l i 0
first_back l o i = high-back (get_or l i 0) (get_or l (i + 1) 0) (o (i + 1))

pub second_back : (l : List ℕ) → Octets l → (i : ℕ) → low (number_at l i) ≡ get_or l (i + 1) 0
second_back l o i = low-back (get_or l i 0) (get_or l (i + 1) 0) (o (i + 1))

-- the two halves of a number of four octets
module _ (l : List ℕ) (o : Octets l) (i : ℕ) where
  pub long-first : long_at l i / 65536 ≡ number_at l i
  long-first = let c = o (i + 2) in let d = o (i + 2 + 1) in omega (arith, c, d)

  pub long-second : long_at l i % 65536 ≡ number_at l (i + 2)
  long-second = let c = o (i + 2) in let d = o (i + 2 + 1) in omega (arith, c, d)
