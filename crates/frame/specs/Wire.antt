-- Octets on the wire (43.4.2.2, 43.5.3.2; R6.1 to R6.3), row by row.
use Rattle.std.specs.Prelude.{ℕ, ◌-◌, List, [], ◌∷◌, ◌++◌, take, drop, replicate}
use Rattle.octets.specs.Octets.{number_octets}
use Rattle.frame.specs.declared.block.Address.{Address}
use Rattle.frame.specs.declared.block.Block.{Block}
use Rattle.frame.specs.declared.wire.TensOfMicroseconds.{TensOfMicroseconds}
use Rattle.frame.specs.declared.wire.MarkerType.{MarkerType}
use Rattle.frame.specs.declared.wire.MarkerType.TheVariants.{Marker, Response}
use Rattle.frame.specs.declared.wire.Source.{Source}
use Rattle.frame.specs.declared.wire.Source.TheVariants.{Default, Pdu}
use Rattle.frame.specs.Block.{address_octets, block_octets}
use Rattle.frame.specs.Class.{slow_address, slow_type}

-- the octets from a on, up to but not including e
abbrev pub part : ℕ → ℕ → List ℕ → List ℕ
part a e l = take (e - a) (drop a l)

abbrev pub actor_part : List ℕ → List ℕ
actor_part l = part 18 33 l

abbrev pub partner_part : List ℕ → List ℕ
partner_part l = part 38 53 l

abbrev pub request_part : List ℕ → List ℕ
request_part l = part 18 30 l

-- which of two blocks a recording takes (43.4.9, R18.3), be they octets or what they tell of
abbrev pub applying : {A : Type 0} → Source → A → A → A
applying Default pdu default = default
applying Pdu pdu default = pdu

abbrev pub zeros : ℕ → List ℕ
zeros n = replicate n 0

-- destination, the port's own address, type 88-09, subtype, version 1, and the type and length that come first
abbrev pub opening : Address → ℕ → ℕ → ℕ → List ℕ
opening source subtype first size = slow_address ++ (address_octets source ++ (number_octets slow_type ++ (subtype ∷ 1 ∷ first ∷ size ∷ [])))

abbrev pub lacpdu : Address → Block → Block → TensOfMicroseconds → List ℕ
lacpdu source actor partner delay =
    opening source 1 1 20 ++ (block_octets actor ++ (zeros 3
    ++ (2 ∷ 20 ∷ (block_octets partner ++ (zeros 3
    ++ (3 ∷ 16 ∷ (number_octets delay.0 ++ (zeros 12
    ++ (0 ∷ 0 ∷ zeros 50)))))))))

abbrev pub marker_type_octet : MarkerType → ℕ
marker_type_octet Marker = 1
marker_type_octet Response = 2

-- request: requester port, requester system, transaction
abbrev pub marker : Address → MarkerType → List ℕ → List ℕ
marker source kind request = opening source 2 (marker_type_octet kind) 16 ++ (request ++ (zeros 4 ++ zeros 90))

-- the Marker's request goes back, and nothing else of it (R14.2)
abbrev pub response : Address → List ℕ → List ℕ
response source received = marker source Response (request_part received)
