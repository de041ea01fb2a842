-- Laws of the frame tests: how long a frame is that passes them. Assumes nothing.
use Prim.Native.Nat.{ℕ, ◌≤◌}
use mathlib.Core.Path.{◌≡◌, refl}
use mathlib.Core.Bool.{Bool, true, false, cond, not, ◌||◌, false≢true}
use mathlib.Core.List.{List}
use lib.ListN.{length, take}
use lib.Dec.{ltb}
use borrow.Author.Tests.{ltb-false}
use Rattle.octets.specs.Octets.{same_octets}
use Rattle.std.specs.Prelude.{Ok, Err}
use Rattle.std.proofs.lemmas.Bool.{or_parts}
use Rattle.frame.specs.declared.class.Refusal.TheVariants.{Foreign, Unknown, Illegal}
use Rattle.frame.specs.Class.{Class, foreign, unknown, illegal, no_subtype, odd_subtype, short, wrong_length, wrong_marker_type, class_of, kind_of, slow_address, frame_size}

pub foreign_clear : (l : List ℕ) → foreign l ≡ false → 14 ≤ length l
unfolding foreign
foreign_clear l e = ltb-false (length l) 14 (or_parts (ltb (length l) 14) (not (same_octets (take 6 l) slow_address)) e).0

pub illegal_clear : (l : List ℕ) → illegal l ≡ false → frame_size ≤ length l
unfolding illegal
illegal_clear l e =
    let up_to = no_subtype l || odd_subtype l in
    let parts = (or_parts (up_to || short l) (wrong_length l) (or_parts (up_to || short l || wrong_length l) (wrong_marker_type l) e).0).0 in
    ltb-false (length l) frame_size (or_parts up_to (short l) parts).1

-- a frame that is not refused has 124 octets or more, so that its blocks are there
abbrev pub passes : Class → Bool
passes (Ok k) = true
passes (Err r) = false

pub passed-whole : (l : List ℕ) → passes (class_of l) ≡ true → frame_size ≤ length l
unfolding class_of
passed-whole l h = go (foreign l) (unknown l) (illegal l) refl h
  where
    go : (f u i : Bool) → illegal l ≡ i → passes (cond f (Err Foreign) (cond u (Err Unknown) (cond i (Err Illegal) (Ok (kind_of l))))) ≡ true → frame_size ≤ length l
    go true u i e h = absurd (false≢true h)
    go false true i e h = absurd (false≢true h)
    go false false true e h = absurd (false≢true h)
    go false false false e h = illegal_clear l e
