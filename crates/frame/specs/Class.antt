-- The frame tests (R5): answers 6, 7 and 8, in this order, and what a frame is that passes them.
use Rattle.std.specs.Prelude.{ℕ, Bool, cond, not, ◌&&◌, ◌||◌, List, [], ◌∷◌, length, take, get_or, eqb, leb, ltb, Result, Ok, Err}
use Rattle.octets.specs.Octets.{same_octets, number_at}
use Rattle.frame.specs.declared.class.Refusal.{Refusal}
use Rattle.frame.specs.declared.class.Refusal.TheVariants.{Foreign, Unknown, Illegal}
use Rattle.frame.specs.declared.class.Kind.{Kind}
use Rattle.frame.specs.declared.class.Kind.TheVariants.{Lacpdu, Marker, Response}

-- the answer number of each refusal
abbrev pub refusal_number : Refusal → ℕ
refusal_number Foreign = 6
refusal_number Unknown = 7
refusal_number Illegal = 8

-- the Slow Protocols multicast address and type (Annex 43B.3, 43B.4)
abbrev pub slow_address : List ℕ
slow_address = 0x01 ∷ 0x80 ∷ 0xc2 ∷ 0x00 ∷ 0x00 ∷ 0x02 ∷ []

abbrev pub slow_type : ℕ
slow_type = 0x8809

abbrev pub octet : List ℕ → ℕ → ℕ
octet l i = get_or l i 0

-- R5.1: too short for a header, or sent to somebody else
unfoldable pub foreign : List ℕ → Bool
foreign l = ltb (length l) 14 || not (same_octets (take 6 l) slow_address)

abbrev pub no_subtype : List ℕ → Bool
no_subtype l = ltb (length l) 15

-- R5.2: sent to us, but not of the Slow Protocols, or of a subtype that others may use
unfoldable pub unknown : List ℕ → Bool
unknown l = not (eqb (number_at l 12) slow_type) || (not (no_subtype l) && (leb 3 (octet l 14) && leb (octet l 14) 10))

-- a subtype that nobody may use
abbrev pub odd_subtype : List ℕ → Bool
odd_subtype l = eqb (octet l 14) 0 || leb 11 (octet l 14)

-- the octets of an LACPDU, a Marker or a Response, without the check sequence
abbrev pub frame_size : ℕ
frame_size = 124

-- too short to be one
abbrev pub short : List ℕ → Bool
short l = ltb (length l) frame_size

-- a length octet that is wrong: the three of an LACPDU, the one of a Marker or Response
unfoldable pub wrong_length : List ℕ → Bool
wrong_length l = cond (eqb (octet l 14) 1) (not (eqb (octet l 17) 20 && (eqb (octet l 37) 20 && eqb (octet l 57) 16))) (not (eqb (octet l 17) 16))

-- of subtype 2, and neither a Marker nor a Response
unfoldable pub wrong_marker_type : List ℕ → Bool
wrong_marker_type l = eqb (octet l 14) 2 && not (eqb (octet l 16) 1 || eqb (octet l 16) 2)

-- R5.3: any of these; a frame that ends before its subtype too
unfoldable pub illegal : List ℕ → Bool
illegal l = no_subtype l || odd_subtype l || short l || wrong_length l || wrong_marker_type l

-- what a frame is that none of the three refuses (R5.6)
abbrev pub kind_of : List ℕ → Kind
kind_of l = cond (eqb (octet l 14) 1) Lacpdu (cond (eqb (octet l 16) 1) Marker Response)

-- what a frame is, or why it is refused
abbrev pub Class : Type 0
Class = Result Kind Refusal

unfoldable pub class_of : List ℕ → Class
class_of l = cond (foreign l) (Err Foreign) (cond (unknown l) (Err Unknown) (cond (illegal l) (Err Illegal) (Ok (kind_of l))))
