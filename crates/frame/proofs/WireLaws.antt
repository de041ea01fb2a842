-- What is written can be read: an LACPDU gives back both its blocks, a Marker PDU its request, whatever follows them in the
-- buffer, and both pass the frame tests as what they are. By computation on the octets as laid out. Assumes nothing.
use Prim.Native.Nat.{ℕ, ◌≤◌}
use mathlib.Core.Path.{◌≡◌, refl, ap, ◌∙◌}
use mathlib.Core.Bool.{false}
use mathlib.Core.List.{List, ◌++◌, append_assoc}
use native.Mathlib.Omega.{arith}
use lib.ListN.{length, length-append}
use lib.Seq.{take_at}
use lib.Dec.{ltb}
use borrow.Author.Tests.{le-ltb}
use Rattle.std.specs.Prelude.{Ok}
use Rattle.octets.specs.Octets.{same_octets}
use Rattle.frame.specs.declared.block.Address.{Address}
use Rattle.frame.specs.declared.block.Block.{Block}
use Rattle.frame.specs.declared.class.Kind.TheVariants as kind
use Rattle.frame.specs.declared.wire.MarkerType.{MarkerType}
use Rattle.frame.specs.declared.wire.MarkerType.TheVariants.{Marker, Response}
use Rattle.frame.specs.declared.wire.TensOfMicroseconds.{TensOfMicroseconds}
use Rattle.frame.specs.Block.{block_of, block_octets}
use Rattle.frame.specs.Class.{Class, class_of, foreign, unknown, illegal, wrong_length, wrong_marker_type, frame_size}
use Rattle.frame.specs.Wire.{actor_part, partner_part, request_part, lacpdu, marker, zeros}
use Rattle.frame.proofs.BlockLaws.{block_back}

module _ (source : Address) (actor partner : Block) (delay : TensOfMicroseconds) (rest : List ℕ) where
  abbrev sent : List ℕ
  sent = lacpdu source actor partner delay ++ rest

  -- demand 2, R6.5: both blocks can be read off an LACPDU, octet for octet
  pub actor-octets : actor_part sent ≡ block_octets actor
  actor-octets = refl

  pub partner-octets : partner_part sent ≡ block_octets partner
  partner-octets = refl

  -- and as values
  pub actor-back : block_of (actor_part sent) ≡ actor
  actor-back = ap block_of actor-octets ∙ block_back actor

  pub partner-back : block_of (partner_part sent) ≡ partner
  partner-back = ap block_of partner-octets ∙ block_back partner

  -- a written LACPDU passes the frame tests as an LACPDU
  pub lacpdu-passes : class_of sent ≡ Ok kind.Lacpdu
  unfolding class_of foreign unknown illegal wrong_length wrong_marker_type same_octets
  lacpdu-passes =
      let long : (n : ℕ) → n ≤ frame_size → ltb (length sent) n ≡ false = λ n h. le-ltb (length sent) n (omega arith) in
      rw (long 14 (omega arith), long 15 (omega arith), long frame_size (omega arith))

abbrev class_of_type : MarkerType → Class
class_of_type Marker = Ok kind.Marker
class_of_type Response = Ok kind.Response

module _ (source : Address) (request rest : List ℕ) (twelve : length request ≡ 12) where
  -- a Marker PDU gives back its request
  pub request_back : (kind : MarkerType) → request_part (marker source kind request ++ rest) ≡ request
  request_back kind = rw (append_assoc request (zeros 4 ++ zeros 90) rest) (take_at request ((zeros 4 ++ zeros 90) ++ rest) 12 twelve)

  long : (kind : MarkerType) (n : ℕ) → n ≤ frame_size → ltb (length (marker source kind request ++ rest)) n ≡ false
  long kind n h =
      let tail = request ++ (zeros 4 ++ zeros 90) in
      le-ltb (length (marker source kind request ++ rest)) n (omega (arith, length-append tail rest, length-append request (zeros 4 ++ zeros 90)))

  -- a written Marker passes the frame tests as a Marker, a written Response as a Response
  pub marker-passes : (kind : MarkerType) → class_of (marker source kind request ++ rest) ≡ class_of_type kind
  unfolding class_of foreign unknown illegal wrong_length wrong_marker_type same_octets
  marker-passes Marker = rw (long Marker 14 (omega arith), long Marker 15 (omega arith), long Marker frame_size (omega arith))
  marker-passes Response = rw (long Response 14 (omega arith), long Response 15 (omega arith), long Response frame_size (omega arith))
