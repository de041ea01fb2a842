-- The call that carries link and duplex together: it leaves both at once, both as they are change nothing, and at half duplex nothing is due.
use Rattle.std.specs.Prelude.{ℕ, ◌-◌, ◌≡◌, Bool, true, false, List, [], ◌∷◌, eqb, Err}
use Rattle.machine.specs.declared.states.Line.{Line}
use Rattle.table.specs.Table.{port_at}
use Rattle.control.specs.declared.answer.Reason.TheVariants.{NothingToSend}
use Rattle.control.specs.Answer.{is_number, with_room}
use Rattle.control.specs.Call.{Call, start, receive, tick, line, configure, fetch, report, aggregator, due}
use Rattle.control.specs.After.{answer, after}
use Rattle.control.specs.Accepted.{accepted}
use Rattle.octets.specs.Octets.{Octets}
use Rattle.claims.specs.Run.{AllTake, run, Made}

-- 9: an accepted line call leaves its port with both values
abbrev pub LineTaken : Type 0
LineTaken = (t : List ℕ) → Made t → (n : ℕ) (l : Line) → accepted (answer (line n l) t) ≡ true → (port_at (after (line n l) t) (n - 1)).line ≡ l

-- both values as they are change nothing, in any memory
abbrev pub LineRepeated : Type 0
LineRepeated = (t : List ℕ) → Octets t → (n : ℕ) → after (line n (port_at t (n - 1)).line) t ≡ t

-- nothing is due on port n: NTT is clear, and a fetch that has room is answered 10
pub record Silent (t : List ℕ) (n : ℕ) : Type 0 where
  pub ntt : (port_at t (n - 1)).ntt ≡ false
  pub fetched : (out : List ℕ) → answer (fetch n out) t ≡ with_room out (Err NothingToSend)

-- so it is on a port at half duplex, up or down, whatever calls made the table
abbrev pub HalfSilent : Type 0
HalfSilent = (t : List ℕ) → Made t → (n : ℕ) → is_number t n ≡ true → (port_at t (n - 1)).line.full ≡ false → Silent t n

-- what may give port i, from 0, another line: a start, and a line call on it
abbrev pub relines : Call → ℕ → Bool
relines (start count system delay s) i = true
relines (receive n frame out) i = false
relines tick i = false
relines (line n l) i = eqb i (n - 1)
relines (configure n s) i = false
relines (fetch n out) i = false
relines (report n) i = false
relines (aggregator n) i = false
relines due i = false

abbrev pub NoneRelines : List Call → ℕ → Type 0
NoneRelines [] i = Unit
NoneRelines (c ∷ cs) i = (relines c i ≡ false) × NoneRelines cs i

-- and so it stays, from a line call to half duplex on, along any calls none of which may give the port another line
abbrev pub StaysSilent : Type 0
StaysSilent = (t : List ℕ) → Made t → (n : ℕ) (l : Line) → accepted (answer (line n l) t) ≡ true → l.full ≡ false
    → (cs : List Call) → AllTake cs → NoneRelines cs (n - 1) → Silent (run (after (line n l) t) cs) n
