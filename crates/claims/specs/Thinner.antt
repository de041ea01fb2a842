-- Why a trunk became thinner: what lies behind a port that distributed before a call and does not after it.
use Rattle.std.specs.Prelude.{ℕ, ◌+◌, ◌-◌, ◌<◌, ◌≡◌, Bool, true, false, ◌&&◌, List, map}
use Rattle.frame.specs.Block.{block_of}
use Rattle.frame.specs.Wire.{actor_part, partner_part}
use Rattle.machine.specs.declared.states.Line.{Line}
use Rattle.machine.specs.Compare.{same_party, in_sync}
use Rattle.machine.specs.Mux.{distributes}
use Rattle.machine.specs.States.{same_line}
use Rattle.port.specs.Compared.{compared}
use Rattle.port.specs.Record.{actor_block}
use Rattle.settings.specs.declared.Settings.{Settings}
use Rattle.settings.specs.Settings.{same_grouping}
use Rattle.table.specs.Table.{count_in, ports, port_at, ours}
use Rattle.trunk.specs.Selection.{shares_group}
use Rattle.control.specs.Call.{Call, receive, tick, line, configure, is_start}
use Rattle.control.specs.After.{after}
use Rattle.claims.specs.Run.{Takes, Made}

-- a frame on port i, from 0, tells of its partner as it is: the same party, in sync, and collecting
abbrev pub goes_on : List ℕ → ℕ → List ℕ → Bool
goes_on t i frame =
    same_party (block_of (actor_part frame)) (port_at t i).partner
    && (in_sync (actor_block (ours t).system (i + 1) (port_at t i)) (block_of (actor_part frame)) (block_of (partner_part frame))
    && (block_of (actor_part frame)).state.collecting)

-- whether ports i and k are in one group, by the records of u
abbrev pub together : List ℕ → List ℕ → ℕ → ℕ → Bool
together t u i k = shares_group (ours t) (map compared (ports u)) i k

pub data Why (c : Call) (t : List ℕ) (i : ℕ) : Type 0 where
  -- a start
  restarted : is_start c ≡ true → Why c t i
  -- another line on the port itself
  other-line : (n : ℕ) (l : Line) → c ≡ line n l → n - 1 ≡ i → same_line l (port_at t i).line ≡ false → Why c t i
  -- settings of its own with another key, port priority or Aggregation, which make it UNSELECTED
  regrouped : (n : ℕ) (x : Settings) → c ≡ configure n x → n - 1 ≡ i → same_grouping x (port_at t i) ≡ false → Why c t i
  -- an LACPDU on it shows its partner to be another, out of sync or not collecting
  told : (n : ℕ) (frame out : List ℕ) → c ≡ receive n frame out → n - 1 ≡ i → goes_on t i frame ≡ false → Why c t i
  -- the tick at which its current-while timer runs out
  unheard : c ≡ tick → (port_at t i).timers.current.0 ≡ 1 → Why c t i
  -- a lower-numbered port than that of its aggregator joined its group
  joined : (k : ℕ) → k + 1 < (port_at t i).aggregator → together t t i k ≡ false → together t (after c t) i k ≡ true → Why c t i
  -- the port of its aggregator, the lowest-numbered one, left its group
  left : (k : ℕ) → k + 1 ≡ (port_at t i).aggregator → together t t i k ≡ true → together t (after c t) i k ≡ false → Why c t i

-- 15: nothing else makes a trunk thinner
abbrev pub ThinnerForAReason : Type 0
ThinnerForAReason = (t : List ℕ) → Made t → (c : Call) → Takes c → (i : ℕ) → i < count_in t
    → distributes (port_at t i).phase.mux ≡ true → distributes (port_at (after c t) i).phase.mux ≡ false → Why c t i
