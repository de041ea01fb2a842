-- `write_marker` meets its contract: three pieces from the front on make up the 124 octets. Assumes nothing.
use mathlib.Core.Path.{◌≡◌, refl, ap, ◌∙◌}
use mathlib.Core.List.{List, [], ◌∷◌, ◌++◌}
use lib.ListN.{length, drop, length-append}
use Prim.Native.Nat.{ℕ, ◌+◌}
use native.Mathlib.Omega.{arith}
use Rattle.frame.specs.Class.{frame_size}
use Rattle.octets.specs.Octets.{put_at}
use Rattle.octets.proofs.Laws.{written}
use Rattle.frame.specs.Wire.{opening, zeros, marker_type_octet}
use Rattle.frame.proofs.wire.write_marker.Goals as goal

-- the request's length is known by its contract alone, so the place after it is counted and not computed
laid_out : (start req l : List ℕ) → length start ≡ 18 → length req ≡ 12
    → put_at 30 (zeros 94) (put_at 18 req (put_at 0 start l)) ≡ (start ++ (req ++ zeros 94)) ++ drop frame_size l
laid_out start req l hs hr =
    let z : length (zeros 94) ≡ 94 = refl in
    let e18 : 18 ≡ 0 + length start = omega arith in
    let e30 : 30 ≡ 0 + length start + length req = omega arith in
    let e124 : length (start ++ (req ++ zeros 94)) ≡ frame_size = simp (length-append, hs, hr) in
    ap (λ (n : ℕ). put_at n (zeros 94) (put_at 18 req (put_at 0 start l))) e30
    ∙ ap (λ (n : ℕ). put_at (0 + length start + length req) (zeros 94) (put_at n req (put_at 0 start l))) e18
    ∙ written (start ∷ req ∷ zeros 94 ∷ []) l
    ∙ ap (λ (n : ℕ). (start ++ (req ++ zeros 94)) ++ drop n l) e124

pub returns : goal.returns
returns c =
    let a = c.args in
    let req = a.request.now in
    rw (c.put-2.ensures, c.put.ensures, c.write_opening.ensures, c.from.ensures)
    (laid_out (opening a.source 2 (marker_type_octet a.kind) 16) req a.out.now refl (omega arith))
