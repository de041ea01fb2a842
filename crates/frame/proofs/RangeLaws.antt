-- Addresses and blocks that are read from octets have numbers that fit, and those that fit are written as octets. Assumes nothing.
use Prim.Native.Nat.{ℕ, ◌+◌, ◌-◌}
use mathlib.Core.Path.{◌≡◌}
use mathlib.Core.Bool.{true, ◌&&◌}
use mathlib.Core.List.{List, [], ◌∷◌, ◌++◌}
use lib.ListN.{drop}
use Rattle.octets.specs.Octets.{Octets, number_octets, fits}
use Rattle.octets.proofs.OctetLists.{octets_of_lem, append-octets, take-octets, drop-octets}
use Rattle.octets.proofs.RangeLaws.{both, both_true, number_fits, number-octets}
use Rattle.frame.specs.declared.block.Address.{Address}
use Rattle.frame.specs.declared.block.Block.{Block}
use Rattle.frame.specs.State.{state_octet}
use Rattle.frame.specs.Block.{address_at, address_octets, block_of, block_octets, address_fits, block_fits}
use Rattle.frame.specs.Wire.{part}
use Rattle.frame.proofs.BlockLaws.{octet-le}

pub address-fits : (l : List ℕ) → Octets l → (i : ℕ) → address_fits (address_at l i) ≡ true
address-fits l o i = both_true (number_fits l o i) (both_true (number_fits l o (i + 2)) (number_fits l o (i + 4)))

block-fits : (l : List ℕ) → Octets l → block_fits (block_of l) ≡ true
unfolding block_fits
block-fits l o =
    both_true (number_fits l o 0) (both_true (address-fits l o 2) (both_true (number_fits l o 8) (both_true (number_fits l o 10) (number_fits l o 12))))

-- a block that was read from a part of octets fits
pub part-fits : (a e : ℕ) (l : List ℕ) → Octets l → block_fits (block_of (part a e l)) ≡ true
part-fits a e l o = block-fits (part a e l) (take-octets (e - a) (drop a l) (drop-octets a l o))

pub address-octets : (a : Address) → address_fits a ≡ true → Octets (address_octets a)
address-octets a e =
    let e₀ = both (fits a.high) (fits a.middle && fits a.low) e in
    let e₁ = both (fits a.middle) (fits a.low) e₀.1 in
    append-octets (number_octets a.high) (number_octets a.middle ++ number_octets a.low) (number-octets a.high e₀.0)
    (append-octets (number_octets a.middle) (number_octets a.low) (number-octets a.middle e₁.0) (number-octets a.low e₁.1))

pub block-octets : (b : Block) → block_fits b ≡ true → Octets (block_octets b)
unfolding block_fits
block-octets b e =
    let l₄ = state_octet b.state ∷ [] in
    let l₃ = number_octets b.port.number ++ l₄ in
    let l₂ = number_octets b.port.priority ++ l₃ in
    let l₁ = number_octets b.key ++ l₂ in
    let l₀ = address_octets b.system.address ++ l₁ in
    let f₃ = fits b.port.priority && fits b.port.number in
    let f₂ = fits b.key && f₃ in
    let f₁ = address_fits b.system.address && f₂ in
    let e₀ = both (fits b.system.priority) f₁ e in
    let e₁ = both (address_fits b.system.address) f₂ e₀.1 in
    let e₂ = both (fits b.key) f₃ e₁.1 in
    let e₃ = both (fits b.port.priority) (fits b.port.number) e₂.1 in
    append-octets (number_octets b.system.priority) l₀ (number-octets b.system.priority e₀.0)
    (append-octets (address_octets b.system.address) l₁ (address-octets b.system.address e₁.0)
    (append-octets (number_octets b.key) l₂ (number-octets b.key e₂.0)
    (append-octets (number_octets b.port.priority) l₃ (number-octets b.port.priority e₃.0)
    (append-octets (number_octets b.port.number) l₄ (number-octets b.port.number e₃.1)
    (octets_of_lem l₄ (octet-le b.state, tt))))))
