-- Two systems of one port each, joined by a link, by the calls that the library's contracts cite: a Marker that the one asks for (43.5; M-102) is answered by the other, which
-- collects; one that is not answered times out at its tick, and one on a link that falls is cancelled.
use Rattle.std.specs.Prelude.{ℕ, zero, suc, ◌≡◌, true, cond, List, Ok, Err}
use Rattle.frame.specs.Wire.{zeros}
use Rattle.machine.specs.States.{ticks}
use Rattle.asks.specs.declared.ask.Ask.{Ask}
use Rattle.asks.specs.declared.ask.Outcome.TheVariants.{Awaiting, Answered, TimedOut, Cancelled}
use Rattle.asks.specs.Ask.{asking}
use Rattle.asks.specs.Groups.{ask_at}
use Rattle.control.specs.Answer.{Answer}
use Rattle.control.specs.declared.answer.Accepted.TheVariants.{Done, Marker}
use Rattle.control.specs.declared.answer.Reason.TheVariants.{Response}
use Rattle.control.specs.Accepted.{accepted}
use Rattle.control.specs.Call.{Call, start, receive, tick, line, fetch}
use Rattle.asked.specs.declared.said.AskRefusal.TheVariants as refusal
use Rattle.asked.specs.Layer.{new_layer}
use Rattle.asked.specs.Asked.{asked_size, groups_of}
use Rattle.asked.specs.Calls.{asked_answer, asked_after, asked_outgoing}
use Rattle.asked.specs.Ask.{ask_answer, ask_after, ask_outgoing}
use Rattle.claims.specs.Speakers.{system, no_delay, settings, up_full, down_full}
use Rattle.runs.specs.TwoSwitches.{Pair, pair, swapped}

-- ---- two tables, and what passes between them

abbrev pub says : Call → List ℕ → Answer
says c m = asked_answer new_layer c m

abbrev pub leaves : Call → List ℕ → List ℕ
leaves c m = asked_after new_layer c m

abbrev pub sends : Call → List ℕ → List ℕ
sends c m = asked_outgoing new_layer c m

abbrev pub hears : List ℕ → Call
hears frame = receive 1 frame (zeros 124)

abbrev pub fetches : Call
fetches = fetch 1 (zeros 124)

-- a call on both
abbrev pub each : Call → Pair → Pair
each c p = pair (leaves c p.one) (leaves c p.other)

-- the one is fetched once, and what it gives is received by the other
unfoldable pub speaks : Pair → Pair
speaks p = cond (accepted (says fetches p.one)) (pair (leaves fetches p.one) (leaves (hears (sends fetches p.one)) p.other)) p

-- both tick, and each is fetched
unfoldable pub moment : Pair → Pair
moment p = swapped (speaks (swapped (speaks (each tick p))))

unfoldable pub moments : ℕ → Pair → Pair
moments zero p = p
moments (suc n) p = moments n (moment p)

unfoldable pub begun : ℕ → List ℕ
begun s = leaves (start 1 (system s) no_delay (settings true 0)) (zeros (asked_size new_layer 1))

-- 23 ticks after the link came up both distribute
unfoldable pub carrying : Pair
carrying = moments 23 (each (line 1 up_full) (pair (begun 9) (begun 5)))

-- ---- a Marker with five ticks to wait

abbrev pub asked : List ℕ → List ℕ
asked m = ask_after new_layer 1 5 (zeros 124) m

abbrev pub marker_of : List ℕ → List ℕ
marker_of m = ask_outgoing new_layer 1 5 (zeros 124) m

-- what the other answers to it
abbrev pub response : Pair → List ℕ
response p = sends (hears (marker_of p.one)) p.other

abbrev pub ask_of : List ℕ → Ask
ask_of m = ask_at (groups_of new_layer m) 0

unfoldable pub ticking : ℕ → List ℕ → List ℕ
ticking zero m = m
ticking (suc n) m = ticking n (leaves tick m)

pub record Asks (p : Pair) : Type 0 where
  pub accepted : ask_answer new_layer 1 5 (zeros 124) p.one ≡ Ok tt
  pub awaited : ask_of (asked p.one) ≡ asking Awaiting (ticks 5) 1
  pub again : ask_answer new_layer 1 5 (zeros 124) (asked p.one) ≡ Err refusal.Awaiting
  -- the other takes it for a Marker, and its Response ends the wait; a second copy is one that nobody awaits
  pub heard : says (hears (marker_of p.one)) p.other ≡ Ok Marker
  pub brought : says (hears (response p)) (asked p.one) ≡ Ok Done
  pub answered : ask_of (leaves (hears (response p)) (asked p.one)) ≡ asking Answered (ticks 0) 1
  pub twice : says (hears (response p)) (leaves (hears (response p)) (asked p.one)) ≡ Err Response
  -- one tick before the last it counts, after it no more
  pub in_time : ask_of (ticking 4 (asked p.one)) ≡ asking Awaiting (ticks 1) 1
  pub just : says (hears (response p)) (ticking 4 (asked p.one)) ≡ Ok Done
  pub timed-out : ask_of (ticking 5 (asked p.one)) ≡ asking TimedOut (ticks 0) 1
  pub late : says (hears (response p)) (ticking 5 (asked p.one)) ≡ Err Response
  -- a repeated line cancels nothing, and a link that falls does
  pub repeated : ask_of (leaves (line 1 up_full) (asked p.one)) ≡ asking Awaiting (ticks 5) 1
  pub cancelled : ask_of (leaves (line 1 down_full) (asked p.one)) ≡ asking Cancelled (ticks 0) 1
  -- who does not distribute asks for nothing
  pub down : ask_answer new_layer 1 5 (zeros 124) (leaves (line 1 down_full) p.one) ≡ Err refusal.NotDistributing
