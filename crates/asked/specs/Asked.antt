-- A table with what its ports asked for (43.5; M-102): a table of the layer below, its front, and behind it a group for each port, in their order. So a table that knows
-- nothing of Markers of our own is the same less its last octets.
use Rattle.std.specs.Prelude.{ℕ, ◌+◌, ◌*◌, Bool, ◌&&◌, List, ◌++◌, length, take, drop, eqb, cond, Result, Ok, Err, Option, Some, None}
use Rattle.octets.specs.Octets.{within, same_octets, put_at, number_octets, long_octets}
use Rattle.frame.specs.declared.block.Address.{Address}
use Rattle.frame.specs.Block.{address_octets}
use Rattle.frame.specs.Wire.{request_part}
use Rattle.table.specs.Layout.{most_ports}
use Rattle.table.specs.Table.{count_in}
use Rattle.asks.specs.declared.ask.Ask.{Ask}
use Rattle.asks.specs.declared.ask.Outcome.{Outcome}
use Rattle.asks.specs.Ask.{is_awaiting, awaited, ended}
use Rattle.asks.specs.Group.{group_size, group_octets}
use Rattle.asks.specs.Groups.{ask_at, groups_in_range}
use Rattle.control.specs.declared.answer.Reason.{Reason}
use Rattle.control.specs.declared.answer.Reason.TheVariants as reason
use Rattle.asked.specs.Layer.{Layer}

-- the octets of a table of `count` ports
abbrev pub asked_size : Layer → ℕ → ℕ
asked_size L count = L.size count + group_size * count

abbrev pub front_of : Layer → List ℕ → List ℕ
front_of L m = take (L.size (count_in m)) m

abbrev pub groups_of : Layer → List ℕ → List ℕ
groups_of L m = drop (L.size (count_in m)) m

-- memory of the size of a table of `count` ports
abbrev pub is_asked_room : Layer → List ℕ → ℕ → Bool
is_asked_room L m count = within 1 count most_ports && eqb (length m) (asked_size L count)

-- what answer 1 is not given for, beyond what the front is tested for: the size, and each group's ranges
unfoldable pub has_asks : Layer → List ℕ → Bool
has_asks L m = eqb (length m) (asked_size L (count_in m)) && groups_in_range (count_in m) (groups_of L m)

-- what the code finds by it: answer 1, or the octets of the front
unfoldable pub front_found : Layer → List ℕ → Result ℕ Reason
front_found L m = cond (has_asks L m) (Ok (L.size (count_in m))) (Err reason.Table)

-- the octets of a table of `count` ports, where there is one
abbrev pub size_found : Layer → ℕ → Option ℕ
size_found L count = cond (within 1 count most_ports) (Some (asked_size L count)) None

-- the groups with port i's, from 0, at this
abbrev pub with_ask : ℕ → Ask → List ℕ → List ℕ
with_ask i a g = put_at (group_size * i) (group_octets a) g

-- a Marker that port i awaits comes to this end
abbrev pub ended_at : Outcome → ℕ → List ℕ → List ℕ
ended_at o i g = with_ask i (ended o (ask_at g i)) g

-- 43.5.3.2: requester port, requester system and transaction
abbrev pub request_of : ℕ → Address → ℕ → List ℕ
request_of n system number = number_octets n ++ (address_octets system ++ long_octets number)

-- whether a frame brings back the request that port n awaits
abbrev pub brings_back : ℕ → Address → List ℕ → Ask → Bool
brings_back n system frame a = is_awaiting a.outcome && same_octets (request_part frame) (request_of n system (awaited a))
