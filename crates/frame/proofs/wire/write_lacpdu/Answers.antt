-- `write_lacpdu` meets its contract: seven pieces from the front on, two of them lent parts that come back as blocks,
-- make up the 124 octets. Assumes nothing.
use mathlib.Core.Path.{refl, ap, ◌∙◌}
use mathlib.Core.List.{List, [], ◌∷◌}
use Prim.Native.Nat.{ℕ}
use borrow.Rule.Slice.PartMut.{put_mid}
use Rattle.octets.specs.Octets.{put_at, number_octets}
use Rattle.octets.proofs.Laws.{written, put-part}
use Rattle.frame.specs.Block.{block_octets}
use Rattle.frame.specs.Wire.{opening, zeros}
use Rattle.frame.proofs.wire.write_lacpdu.Goals as goal

pub returns : goal.returns
returns c =
    let a = c.args in
    let l = a.out.now in
    let start = opening a.source 1 1 20 in
    let ab = block_octets a.actor in
    let pb = block_octets a.partner in
    let rest : List ℕ → List ℕ = λ m. put_at 60 (zeros 64) (put_at 58 (number_octets a.delay.0) (put_at 53 (0 ∷ 0 ∷ 0 ∷ 3 ∷ 16 ∷ []) m)) in
    let middle : List ℕ → List ℕ = λ m. put_at 33 (0 ∷ 0 ∷ 0 ∷ 2 ∷ 20 ∷ []) m in
    let first = middle (put_at 18 ab (put_at 0 start l)) in
    rw (
      c.put-3.ensures,
      c.put_number.ensures,
      c.put-2.ensures,
      c.write-2.ensures,
      c.put.ensures,
      c.write.ensures,
      c.write_opening.ensures,
    )
    (ap (λ (m : List ℕ). rest (put_mid 38 15 (middle m) pb)) (put-part 18 33 ab (put_at 0 start l) refl)
    ∙ ap rest (put-part 38 53 pb first refl)
    ∙ written
    (start ∷ ab ∷ (0 ∷ 0 ∷ 0 ∷ 2 ∷ 20 ∷ []) ∷ pb ∷ (0 ∷ 0 ∷ 0 ∷ 3 ∷ 16 ∷ []) ∷ number_octets a.delay.0 ∷ zeros 64 ∷ []) l)
