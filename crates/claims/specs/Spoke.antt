-- Where the partner of a port that is not defaulted comes from.
use Rattle.std.specs.Prelude.{ℕ, ◌+◌, ◌<◌, ◌≡◌, false, List, Ok}
use Rattle.frame.specs.Block.{block_of}
use Rattle.frame.specs.Wire.{actor_part}
use Rattle.table.specs.Table.{count_in, port_at}
use Rattle.control.specs.declared.answer.Accepted.TheVariants.{Lacpdu}
use Rattle.control.specs.Call.{Call, receive}
use Rattle.control.specs.After.{answer, after}
use Rattle.claims.specs.Run.{Takes, AllTake, run, Made}
use Rattle.claims.specs.LivePartner.{lasting, NoneEnds}

-- an LACPDU that a table took on port i, from 0, and calls since, none of which ends what it said (a start would), that led to t
pub record Heard (t : List ℕ) (i : ℕ) : Type 0 where
  pub then : List ℕ
  pub made : Made then
  pub frame : List ℕ
  pub out : List ℕ
  pub takes : Takes (receive (i + 1) frame out)
  pub accepted : answer (receive (i + 1) frame out) then ≡ Ok Lacpdu
  pub since : List Call
  pub all : AllTake since
  pub none : NoneEnds (after (receive (i + 1) frame out) then) i since
  pub gives : run (after (receive (i + 1) frame out) then) since ≡ t

-- and what is in force is what it said of its sender, but for Synchronization and Timeout
pub record Spoke (t : List ℕ) (i : ℕ) : Type 0 where
  pub heard : Heard t i
  pub partner : lasting (port_at t i).partner ≡ lasting (block_of (actor_part heard.frame))

-- 16: a port whose Defaulted is clear has a partner that spoke
abbrev pub PartnerSpoke : Type 0
PartnerSpoke = (t : List ℕ) → Made t → (i : ℕ) → i < count_in t → (port_at t i).actor.defaulted ≡ false → Spoke t i
