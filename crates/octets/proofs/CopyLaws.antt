-- What the library's copies and its `==` on octets come to, in the words of `specs/Octets.antt`. Assumes nothing.
use Rattle.std.specs.Prelude.{ℕ, ◌≡◌, List, [], ◌∷◌}
use mathlib.Core.Path.{refl}
use lib.Dec.{eqb}
use lib.Pointwise.{pointwise}
use Rattle.octets.specs.Octets.{same_octets}

-- the library's test of two slices is the test for equal octets
pub pointwise_octets : (a b : List ℕ) → pointwise eqb a b ≡ same_octets a b
unfolding same_octets
pointwise_octets [] [] = refl
pointwise_octets [] (y ∷ b) = refl
pointwise_octets (x ∷ a) [] = refl
pointwise_octets (x ∷ a) (y ∷ b) = rw (pointwise_octets a b)
