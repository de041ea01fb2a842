-- Why a port carries, why one waits, and that what is published of all aggregators adds up.
use Rattle.std.specs.Prelude.{ℕ, zero, suc, ◌+◌, ◌≤◌, ◌<◌, ◌≡◌, ◌≢◌, Bool, true, false, ◌&&◌, List}
use Rattle.machine.specs.Mux.{waits, is_attached, distributes}
use Rattle.port.specs.declared.record.Port.{Port}
use Rattle.report.specs.Sets.{counted}
use Rattle.octets.specs.Sets.{member}
use Rattle.table.specs.Table.{count_in, port_at, ports}
use Rattle.trunk.specs.Ready.{holds_back}
use Rattle.control.specs.Report.{aggregator_report, sets_told}
use Rattle.claims.specs.Run.{Made}

-- 10: a port that is attached, and whose partner is in sync and collects, distributes; that its link is up follows from the partner's bit (`distributing-earned`)
abbrev pub DistributingGiven : Type 0
DistributingGiven = (t : List ℕ) → Made t → (i : ℕ) → i < count_in t → is_attached (port_at t i).phase.mux ≡ true
    → (port_at t i).partner.state.synchronization ≡ true → (port_at t i).partner.state.collecting ≡ true → distributes (port_at t i).phase.mux ≡ true

-- 11: a port that waits does so for somebody: a port, perhaps itself, waits for the same aggregator with its timer still running
pub record HeldBy (t : List ℕ) (k : ℕ) : Type 0 where
  pub port : ℕ
  pub there : port < count_in t
  pub holds : holds_back k (port_at t port) ≡ true

abbrev pub WaitingForSomeone : Type 0
WaitingForSomeone = (t : List ℕ) → Made t → (i : ℕ) → i < count_in t → waits (port_at t i).phase.mux ≡ true → HeldBy t (port_at t i).aggregator

-- ---- the register: the reports of all aggregators

abbrev pub distributing_of : List ℕ → ℕ → ℕ
distributing_of t k = (sets_told (aggregator_report k t)).distributing

-- the reported counts of aggregators 1 to n together
unfoldable pub counts_to : List ℕ → ℕ → ℕ
counts_to t zero = 0
counts_to t (suc n) = counts_to t n + (sets_told (aggregator_report (suc n) t)).count

abbrev pub carries : Port → Bool
carries p = distributes p.phase.mux

-- 12: no port distributes on two aggregators, each that distributes does so on the one that it holds, and the counts add up to the ports that distribute
pub record Register (t : List ℕ) : Type 0 where
  pub apart : (k l : ℕ) → 1 ≤ k → k ≤ count_in t → 1 ≤ l → l ≤ count_in t → k ≢ l → (i : ℕ) → member (distributing_of t k) i && member (distributing_of t l) i ≡ false
  pub held : (i : ℕ) → i < count_in t → distributes (port_at t i).phase.mux ≡ true → member (distributing_of t (port_at t i).aggregator) i ≡ true
  pub adds : counts_to t (count_in t) ≡ counted carries (ports t)

abbrev pub RegisterAddsUp : Type 0
RegisterAddsUp = (t : List ℕ) → Made t → Register t
