-- Churn detection (43.4.17) in runs of one port: a link that never settles, one that falls while it churns, and Synchronization at the very tick of expiry.
use Rattle.std.specs.Prelude.{ℕ, zero, suc, ◌≡◌, true, false, List, [], ◌∷◌, ◌++◌}
use Rattle.frame.specs.Wire.{zeros}
use Rattle.machine.specs.States.{ticks as timer}
use Rattle.churn.specs.declared.watch.Monitors.{Monitors}
use Rattle.churn.specs.declared.watch.Watch.{Watch}
use Rattle.churn.specs.declared.watch.Churn.TheVariants.{NoChurn, Monitor, Churn}
use Rattle.churn.specs.Churn.{watch, monitors}
use Rattle.churn.specs.Whole.{whole_size, monitors_at}
use Rattle.control.specs.Call.{Call, start, receive, tick, line, configure}
use Rattle.whole.specs.Calls.{whole_after}
use Rattle.claims.specs.Speakers.{system, no_delay, settings, up_full, up_half, down_full, frame}

-- n ticks
unfoldable pub ticks : ℕ → List ℕ → List ℕ
ticks zero w = w
ticks (suc n) w = ticks n (whole_after tick w)

-- so many ticks, or a call
pub data Deed : Type 0 where
  wait : ℕ → Deed
  make : Call → Deed

-- the monitors of port 1 after each deed, and then what is seen of the table that they leave
unfoldable pub tale_to : (List ℕ → List Monitors) → List Deed → List ℕ → List Monitors
tale_to then [] w = then w
tale_to then (wait n ∷ ds) w = let u = ticks n w in monitors_at u 0 ∷ tale_to then ds u
tale_to then (make c ∷ ds) w = let u = whole_after c w in monitors_at u 0 ∷ tale_to then ds u

abbrev pub tale : List Deed → List ℕ → List Monitors
tale ds w = tale_to (λ u. []) ds w

-- what a machine shows
abbrev pub settled : ℕ → Watch
settled n = watch NoChurn (timer 0) n

abbrev pub monitored : ℕ → ℕ → Watch
monitored t n = watch Monitor (timer t) n

abbrev pub churning : ℕ → Watch
churning n = watch Churn (timer 0) n

-- ---- one port, long timeout, with a default partner that is in sync and collects

unfoldable pub started : List ℕ
started = whole_after (start 1 (system 9) no_delay (settings false 0x18)) (zeros (whole_size 1))

-- it hears a partner with the state octet o
abbrev pub hears : ℕ → Call
hears o = receive 1 (frame 5 1 o 1 0x05) (zeros 124)

-- one that is not in sync: at once after the link came up
unfoldable pub alone : List ℕ
alone = whole_after (hears 0x05) (whole_after (line 1 up_full) started)

-- what may happen 540 ticks later. Port 1 takes to a short timeout and hears the partner for the last time: EXPIRED 30 ticks after that, and 60 ticks after it
-- DEFAULTED, with a partner that is in sync
abbrev pub falls_silent : List Deed
falls_silent = make (configure 1 (settings true 0x18)) ∷ make (hears 0x05) ∷ wait 59 ∷ wait 1 ∷ []

-- or all goes on as before, and after 601 ticks the partner gets in sync, and out of it again; or the link falls
abbrev pub gets_in_sync : List Deed
gets_in_sync = make (hears 0x0D) ∷ make (hears 0x05) ∷ []

abbrev pub link_falls : List Deed
link_falls = make (line 1 down_full) ∷ wait 1 ∷ []

abbrev pub sequels : List ℕ → List Monitors
sequels w = tale falls_silent w ++ tale_to (λ u. tale gets_in_sync u ++ tale link_falls u) (wait 59 ∷ wait 1 ∷ wait 1 ∷ []) w

pub record ChurnCases : Type 0 where
  -- start: both monitors at 600 while the link is down, tick or no tick
  pub begun : tale (wait 0 ∷ wait 1 ∷ []) started ≡ monitors (monitored 600 0) (monitored 600 0) ∷ monitors (monitored 600 0) (monitored 600 0) ∷ []
  -- the partner is not in sync: the actor's machine settles as the port attaches, at tick 20
  pub never-settles : tale_to sequels (wait 0 ∷ wait 19 ∷ wait 1 ∷ wait 520 ∷ []) alone
      ≡ monitors (monitored 600 0) (monitored 600 0) ∷ monitors (monitored 581 0) (monitored 581 0) ∷ monitors (settled 0) (monitored 580 0) ∷ monitors (settled 0) (monitored 60 0)
      -- Synchronization at the very tick of expiry, by the default block: no churn and no count. (It is another partner, so the port detaches.)
      ∷ monitors (settled 0) (monitored 60 0) ∷ monitors (settled 0) (monitored 60 0) ∷ monitors (settled 0) (monitored 1 0) ∷ monitors (monitored 600 0) (settled 0)
      -- no Synchronization: the partner's machine finds churn at tick 600 and not before, once
      ∷ monitors (settled 0) (monitored 1 0) ∷ monitors (settled 0) (churning 1) ∷ monitors (settled 0) (churning 1)
      -- Synchronization then ends the churn, and is monitored anew when it is lost
      ∷ monitors (settled 0) (settled 1) ∷ monitors (settled 0) (monitored 600 1)
      -- or the link falls while it churns: both are monitored anew, and the count stays, at a tick too
      ∷ monitors (monitored 600 0) (monitored 600 1) ∷ monitors (monitored 600 0) (monitored 600 1) ∷ []
  -- a duplex change on an up port restarts nothing by itself: the partner's monitor goes on, its default block being out of sync; the actor's starts as
  -- the port detaches
  pub halved : tale (make (configure 1 (settings false 0)) ∷ wait 30 ∷ make (line 1 up_half) ∷ []) alone
      ≡ monitors (monitored 600 0) (monitored 600 0) ∷ monitors (settled 0) (monitored 570 0) ∷ monitors (monitored 600 0) (monitored 570 0) ∷ []
