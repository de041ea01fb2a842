-- Laws of numbers of four octets: they come back, are made of octets, and are below 2 to the 32. Assumes nothing.
use Prim.Native.Nat.{ℕ, ◌+◌, ◌*◌, ◌/◌, ◌%◌, ◌<◌}
use mathlib.Core.Path.{◌≡◌, ◌∙◌}
use mathlib.Core.List.{List}
use native.Mathlib.Omega.{arith}
use borrow.Author.Tests.{lt-ltb}
use Rattle.octets.specs.Octets.{Octets, joined, high, low, number_octets, long_octets, long_at}
use Rattle.octets.proofs.Laws.{number-back}
use Rattle.octets.proofs.OctetLists.{append-octets}
use Rattle.octets.proofs.RangeLaws.{number-octets}

pub long-back : (n : ℕ) → joined (high (n / 65536)) (low (n / 65536)) * 65536 + joined (high (n % 65536)) (low (n % 65536)) ≡ n
long-back n = (λ i. number-back (n / 65536) i * 65536 + number-back (n % 65536) i) ∙ omega arith

pub long-octets : (n : ℕ) → n < 4294967296 → Octets (long_octets n)
long-octets n h =
    append-octets (number_octets (n / 65536)) (number_octets (n % 65536))
    (number-octets (n / 65536) (lt-ltb (n / 65536) 65536 (omega (arith, h)))) (number-octets (n % 65536) (lt-ltb (n % 65536) 65536 (omega arith)))

pub long-fits : (l : List ℕ) → Octets l → (i : ℕ) → long_at l i < 4294967296
long-fits l o i =
    let a = o i in
    let b = o (i + 1) in
    let c = o (i + 2) in
    let d = o (i + 2 + 1) in
    omega (arith, a, b, c, d)
