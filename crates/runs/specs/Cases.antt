-- The cases R16.1 to R16.10, in their order, over runs of the calls whose answers and tables the program's contracts cite.
use Rattle.std.specs.Prelude.{ℕ, zero, suc, ◌-◌, ◌≡◌, Bool, true, false, List, [], ◌∷◌, ◌++◌, map, take, set}
use Rattle.frame.specs.declared.block.Block.{Block}
use Rattle.frame.specs.State.{state_octet}
use Rattle.frame.specs.Wire.{zeros, lacpdu}
use Rattle.machine.specs.declared.states.Receive.{Receive}
use Rattle.machine.specs.declared.states.Receive.TheVariants.{Expired, Defaulted, Current}
use Rattle.machine.specs.declared.states.Mux.{Mux}
use Rattle.machine.specs.declared.states.Mux.TheVariants.{Waiting, Attached}
use Rattle.machine.specs.Bits.{state}
use Rattle.table.specs.Layout.{table_size}
use Rattle.table.specs.Table.{port_at}
use Rattle.control.specs.Answer.{answer_number}
use Rattle.control.specs.Call.{Call, start, receive, tick, line, fetch}
use Rattle.control.specs.After.{answer, after}
use Rattle.claims.specs.Run.{run}
use Rattle.claims.specs.Speakers.{address, system, no_delay, block, settings, up_full, frame}

-- ---- calls; every default partner is individual

-- started with n ports, long timeout, in a memory of zeros
unfoldable pub started : ℕ → List ℕ
started n = after (start n (system 9) no_delay (settings false 0)) (zeros (table_size n))

-- port n hears port q of system s, active, aggregatable and not in sync
abbrev pub hears : ℕ → ℕ → ℕ → Call
hears n s q = receive n (frame s q 0x05 n 0x05) (zeros 124)

-- n ticks
unfoldable pub ticks : ℕ → List ℕ → List ℕ
ticks zero t = t
ticks (suc n) t = ticks n (after tick t)

-- ---- what is seen of port n

abbrev pub actor_of : ℕ → List ℕ → ℕ
actor_of n t = state_octet (port_at t (n - 1)).actor

abbrev pub is_due : ℕ → List ℕ → Bool
is_due n t = (port_at t (n - 1)).ntt

abbrev pub partner_in_sync : ℕ → List ℕ → Bool
partner_in_sync n t = (port_at t (n - 1)).partner.state.synchronization

-- its receive state, `now` ticks having passed, and then when so many have
unfoldable pub receive_from : ℕ → ℕ → List ℕ → List ℕ → List Receive
receive_from now n [] t = []
receive_from now n (k ∷ ks) t = let u = ticks (k - now) t in (port_at u (n - 1)).phase.receive ∷ receive_from k n ks u

abbrev pub receive_at : ℕ → List ℕ → List ℕ → List Receive
receive_at n ks t = receive_from 0 n ks t

-- the aggregator that it holds, and its mux state
pub record Stands : Type 0 where
  pub aggregator : ℕ
  pub mux : Mux

abbrev pub on : ℕ → Mux → Stands
on k m = record { aggregator = k; mux = m }

-- of each of some ports
abbrev pub standing : List ℕ → List ℕ → List Stands
standing ns t = map (λ n. on (port_at t (n - 1)).aggregator (port_at t (n - 1)).phase.mux) ns

-- ---- the tables of the cases

-- one port, link up
unfoldable pub up : List ℕ
up = run (started 1) (line 1 up_full ∷ [])

-- and it has heard a partner that is not in sync
unfoldable pub alone : List ℕ
alone = run up (hears 1 5 1 ∷ [])

-- port 4 of six starts waiting
unfoldable pub four : List ℕ
four = run (started 6) (line 4 up_full ∷ line 6 up_full ∷ hears 4 5 4 ∷ [])

-- 5 ticks later port 6 joins its group; n ticks after port 4 started
unfoldable pub four_six : ℕ → List ℕ
four_six n = ticks (n - 5) (run (ticks 5 four) (hears 6 5 6 ∷ []))

-- ports 3 and 5 of five have learned one group, and have attached
unfoldable pub three_five : List ℕ
three_five = ticks 20 (run (started 5) (line 2 up_full ∷ line 3 up_full ∷ line 5 up_full ∷ hears 3 5 3 ∷ hears 5 5 5 ∷ []))

-- 2 and 4 of five have learned one group, 3 and 5 another
unfoldable pub two_groups : List ℕ
two_groups =
    ticks 20 (run (started 5)
    (line 2 up_full ∷ line 3 up_full ∷ line 4 up_full ∷ line 5 up_full ∷ hears 2 5 2 ∷ hears 4 5 4 ∷ hears 3 6 3 ∷ hears 5 6 5 ∷ []))

-- what is answered to a frame on port 1, up at full duplex
abbrev pub answer_to : List ℕ → ℕ
answer_to f = answer_number (answer (receive 1 f (zeros 124)) up)

-- an LACPDU for it, and the same with another subtype
abbrev pub lacpdu124 : List ℕ
lacpdu124 = frame 5 1 0x05 1 0x05

abbrev pub with_subtype : ℕ → List ℕ
with_subtype k = set lacpdu124 14 k

-- port 1 has heard a passive sender, aggregatable and in sync, that says state octet v of it
unfoldable pub passive_says : ℕ → List ℕ
passive_says v = run up (receive 1 (frame 5 1 0x0C 1 v) (zeros 124) ∷ [])

-- the same sender, that says `b` of it
unfoldable pub passive_wrong : Block → List ℕ
passive_wrong b = run up (receive 1 (lacpdu (address 5) (block 5 1 0x0C) b no_delay) (zeros 124) ∷ [])

-- port 1 has heard a partner with a short timeout, and has sent
unfoldable pub fast : List ℕ
fast = run up (receive 1 (frame 5 1 0x07 1 0x05) (zeros 124) ∷ fetch 1 (zeros 124) ∷ [])

-- port 1 has heard one with a long timeout, has attached 20 ticks later, and has sent
unfoldable pub slow : List ℕ
slow = run (ticks 20 alone) (fetch 1 (zeros 124) ∷ [])

pub record Cases : Type 0 where
  -- R16.1: state octets
  pub active-short : state_octet (state true true true false false false false false) ≡ 0x07
  pub in_trunk : state_octet (state true true true true true true false false) ≡ 0x3F
  pub in_trunk-long : state_octet (state true false true true true true false false) ≡ 0x3D
  -- R16.2: a port that has heard nobody
  pub after-start : actor_of 1 (started 1) ≡ 0x45
  pub after-link-up : actor_of 1 up ≡ 0xC5
  -- R16.3: the wait of a port by itself
  pub alone_19 : standing (1 ∷ []) (ticks 19 alone) ≡ on 1 Waiting ∷ []
  pub alone_20 : standing (1 ∷ []) (ticks 20 alone) ≡ on 1 Attached ∷ []
  -- R16.4: port 4 waits for port 6
  pub joined_24 : standing (4 ∷ 6 ∷ []) (four_six 24) ≡ on 4 Waiting ∷ on 4 Waiting ∷ []
  pub joined_25 : standing (4 ∷ 6 ∷ []) (four_six 25) ≡ on 4 Attached ∷ on 4 Attached ∷ []
  -- R16.5: port 2 comes to ports 3 and 5
  pub sharing : standing (3 ∷ 5 ∷ []) three_five ≡ on 3 Attached ∷ on 3 Attached ∷ []
  pub learned : standing (2 ∷ 3 ∷ 5 ∷ []) (run three_five (hears 2 5 2 ∷ [])) ≡ on 2 Waiting ∷ on 2 Waiting ∷ on 2 Waiting ∷ []
  -- R16.6: port 2 leaves port 4 for ports 3 and 5
  pub parted : standing (2 ∷ 4 ∷ 3 ∷ 5 ∷ []) two_groups ≡ on 2 Attached ∷ on 2 Attached ∷ on 3 Attached ∷ on 3 Attached ∷ []
  pub gone-over : standing (4 ∷ 2 ∷ 3 ∷ 5 ∷ []) (run two_groups (hears 2 6 2 ∷ []))
      ≡ on 4 Waiting ∷ on 2 Waiting ∷ on 2 Waiting ∷ on 2 Waiting ∷ []
  -- R16.7: silence under a long timeout
  pub silence : receive_at 1 (899 ∷ 900 ∷ 929 ∷ 930 ∷ []) alone ≡ Current ∷ Expired ∷ Expired ∷ Defaulted ∷ []
  -- R16.8: lengths
  pub octets_123 : answer_to (take 123 lacpdu124) ≡ 8
  pub octets_124 : answer_to lacpdu124 ≡ 0
  pub octets_125 : answer_to (lacpdu124 ++ (0 ∷ [])) ≡ 0
  -- R16.9: subtypes
  pub subtype_0 : answer_to (with_subtype 0) ≡ 8
  pub subtype_3 : answer_to (with_subtype 3) ≡ 7
  pub subtype_10 : answer_to (with_subtype 10) ≡ 7
  pub subtype_11 : answer_to (with_subtype 11) ≡ 8
  -- R16.10: a passive sender, by what it says of us
  pub says_passive : partner_in_sync 1 (passive_says 0x04) ≡ false
  pub says-active : partner_in_sync 1 (passive_says 0x05) ≡ true
  -- and where the rest does not agree, since it takes us for another port, for one that does not aggregate, or for another's
  pub rest-differs : map (partner_in_sync 1) (passive_wrong (block 9 2 0x05) ∷ passive_wrong (block 9 1 0x01) ∷ passive_wrong (block 8 1 0x05) ∷ []) ≡ false ∷ false ∷ false ∷ []
  -- beyond document 01, R3.11 and R9.4: an LACPDU is due again 10 ticks after a partner with a short timeout was heard, and 300 after one with a long one
  pub fast-pace : map (is_due 1) (ticks 9 fast ∷ ticks 10 fast ∷ []) ≡ false ∷ true ∷ []
  pub slow-pace : map (is_due 1) (ticks 279 slow ∷ ticks 280 slow ∷ []) ≡ false ∷ true ∷ []
