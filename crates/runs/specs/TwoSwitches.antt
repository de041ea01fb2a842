-- Two systems of two ports each, joined by two links: what becomes of both tables by the calls that the program's contracts cite, every
-- LACPDU that a port gives being received at the link's other end.
use Rattle.std.specs.Prelude.{ℕ, zero, suc, ◌-◌, ◌+◌, ◌≡◌, Bool, true, false, ◌&&◌, List, [], ◌∷◌, take, eqb, Ok, Err}
use Rattle.frame.specs.Wire.{zeros}
use Rattle.machine.specs.declared.states.Receive.{Receive}
use Rattle.machine.specs.declared.states.Receive.TheVariants.{PortDisabled, Expired, Defaulted, Current}
use Rattle.machine.specs.declared.states.Mux.{Mux}
use Rattle.machine.specs.declared.states.Mux.TheVariants.{Waiting, Attached, Collecting, Distributing}
use Rattle.machine.specs.Codes.{receive_code, mux_code}
use Rattle.table.specs.Layout.{table_size}
use Rattle.table.specs.Table.{port_at}
use Rattle.control.specs.Answer.{Answer}
use Rattle.control.specs.declared.answer.Accepted.TheVariants.{Done, Lacpdu, Marker}
use Rattle.control.specs.Call.{Call, start, receive, tick, line, fetch}
use Rattle.control.specs.After.{answer, after, outgoing}
use Rattle.claims.specs.Speakers.{system, no_delay, settings, up_full, down_full}

-- ---- two tables, and what passes between them

pub record Pair : Type 0 where
  pub one : List ℕ
  pub other : List ℕ

abbrev pub pair : List ℕ → List ℕ → Pair
pair x y = record { one = x; other = y }

abbrev pub swapped : Pair → Pair
swapped p = pair p.other p.one

-- a call on both
abbrev pub each : Call → Pair → Pair
each c p = pair (after c p.one) (after c p.other)

abbrev pub fetches : ℕ → Call
fetches n = fetch n (zeros 124)

-- the first 124 octets of the one's buffer are received on port n of the other, or lost; a fetch that is refused gives no frame
abbrev pub carried_if : Answer → Bool → ℕ → Pair → Pair
carried_if (Ok Done) true n p =
    pair (after (fetches n) p.one) (after (receive n (take 124 (outgoing (fetches n) p.one)) (zeros 124)) p.other)
carried_if (Ok Done) false n p = pair (after (fetches n) p.one) p.other
carried_if (Ok Lacpdu) carried n p = p
carried_if (Ok Marker) carried n p = p
carried_if (Err r) carried n p = p

-- port n of the one is fetched once
unfoldable pub speaks : Bool → ℕ → Pair → Pair
speaks carried n p = carried_if (answer (fetches n) p.one) carried n p

-- each port of the one is fetched, then each of the other; link 2 carries frames, and link 1 if `first` says so
unfoldable pub round : Bool → Pair → Pair
round first p = swapped (speaks true 2 (speaks first 1 (swapped (speaks true 2 (speaks first 1 p)))))

-- both tick, and every port is fetched
unfoldable pub moment : Bool → Pair → Pair
moment first p = round first (each tick p)

unfoldable pub moments : Bool → ℕ → Pair → Pair
moments first zero p = p
moments first (suc n) p = moments first n (moment first p)

-- ---- what is seen of them

-- of a port: its receive state, the aggregator that it holds, its mux state
pub record Seen : Type 0 where
  pub receive : Receive
  pub aggregator : ℕ
  pub mux : Mux

abbrev pub is : Receive → ℕ → Mux → Seen
is r k m = record { receive = r; aggregator = k; mux = m }

abbrev pub same_seen : Seen → Seen → Bool
same_seen x y = eqb (receive_code x.receive) (receive_code y.receive) && (eqb x.aggregator y.aggregator && eqb (mux_code x.mux) (mux_code y.mux))

-- of ports 1 and 2 of the one, and ports 1 and 2 of the other
pub record View : Type 0 where
  pub one_first : Seen
  pub one_second : Seen
  pub other_first : Seen
  pub other_second : Seen

abbrev pub same_view : View → View → Bool
same_view x y =
    same_seen x.one_first y.one_first
    && (same_seen x.one_second y.one_second && (same_seen x.other_first y.other_first && same_seen x.other_second y.other_second))

abbrev pub seen : ℕ → List ℕ → Seen
seen n t = let p = port_at t (n - 1) in is p.phase.receive p.aggregator p.phase.mux

abbrev pub view_of : Pair → View
view_of p = record {
  one_first = seen 1 p.one;
  one_second = seen 2 p.one;
  other_first = seen 1 p.other;
  other_second = seen 2 p.other;
}

-- a view, and the tick from which on there is this view
pub record Since : Type 0 where
  pub tick : ℕ
  pub view : View

abbrev pub since : ℕ → Seen → Seen → Seen → Seen → Since
since k a b c d = record { tick = k; view = record { one_first = a; one_second = b; other_first = c; other_second = d } }

-- every change of view in the next n ticks, k having passed with the view v at last
unfoldable pub changes : Bool → ℕ → ℕ → View → Pair → List Since
changes first zero k v p = []
changes first (suc n) k v p =
    let q = moment first p in
    let w = view_of q in
    elim (same_view w v) [ true ↦ changes first n (k + 1) v q | false ↦ record { tick = k + 1; view = w } ∷ changes first n (k + 1) w q ]

-- the view now, and every change of it in the next n ticks
unfoldable pub history : Bool → ℕ → Pair → List Since
history first n p = let v = view_of p in record { tick = 0; view = v } ∷ changes first n 0 v p

-- ---- the trunk

-- system s, priority 1: two ports, key 1, active, short timeout, aggregatable, default block all zeros but for its state octet o
unfoldable pub begun : ℕ → ℕ → List ℕ
begun s o = after (start 2 (system s) no_delay (settings true o)) (zeros (table_size 2))

-- systems 9 and 5: the links have come up, and every port was fetched
unfoldable pub joined : ℕ → Pair
joined o = round true (each (line 2 up_full) (each (line 1 up_full) (pair (begun 9 o) (begun 5 o))))

-- 21 ticks later
unfoldable pub trunk : ℕ → Pair
trunk o = moments true 21 (joined o)

abbrev pub waits : Seen
waits = is Current 1 Waiting

abbrev pub carries : Seen
carries = is Current 1 Distributing

pub record TwoSwitches (o : ℕ) : Type 0 where
  -- all four ports distribute on aggregator 1 at tick 21, and not before
  pub forms : history true 21 (joined o)
      ≡ since 0 waits waits waits waits
      ∷ since 20 carries carries (is Current 1 Collecting) (is Current 1 Collecting)
      ∷ since 21 carries carries carries carries
      ∷ []
  -- then link 1 falls at both ends: nothing is seen to change in 100 ticks, port 2 of each distributing all the while
  pub falls : history true 100 (each (line 1 down_full) (trunk o))
      ≡ since 0 (is PortDisabled 1 Attached) carries (is PortDisabled 1 Attached) carries ∷ []
  -- or link 1 goes silent, and stays up: port 2 carries on until port 1 is DEFAULTED, 59 ticks later in the one and 60 in the other. At that
  -- tick it leaves aggregator 1 and is WAITING; it distributes again, on aggregator 2, after 80 and 81 ticks
  pub silence : history false 100 (trunk o)
      ≡ since 0 carries carries carries carries
      ∷ since 29 (is Expired 1 Attached) carries carries carries
      ∷ since 30 (is Expired 1 Attached) carries (is Expired 1 Attached) carries
      ∷ since 59 (is Defaulted 1 Waiting) (is Current 2 Waiting) (is Expired 1 Attached) (is Current 1 Attached)
      ∷ since 60 (is Defaulted 1 Waiting) (is Current 2 Waiting) (is Defaulted 1 Waiting) (is Current 2 Waiting)
      ∷ since 79 (is Defaulted 1 Attached) (is Current 2 Attached) (is Defaulted 1 Waiting) (is Current 2 Waiting)
      ∷ since 80 (is Defaulted 1 Attached) (is Current 2 Distributing) (is Defaulted 1 Attached) (is Current 2 Collecting)
      ∷ since 81 (is Defaulted 1 Attached) (is Current 2 Distributing) (is Defaulted 1 Attached) (is Current 2 Distributing)
      ∷ []
