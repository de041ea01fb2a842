-- Theorems applied to the run of the witness: each of these follows from one of them and from what the witness computes. So a theorem whose
-- premises are hardly ever met, because `touches`, `ends` or a test of groups is too wide, is noticed.
use Rattle.std.specs.Prelude.{◌≡◌, true, []}
use Rattle.machine.specs.Mux.{waits}
use Rattle.table.specs.Table.{port_at}
use Rattle.control.specs.After.{after}
use Rattle.claims.specs.Run.{run}
use Rattle.claims.specs.Carries.{HeldBy, Register}
use Rattle.claims.specs.LivePartner.{Live}
use Rattle.claims.specs.Moves.{MovedOver, Forgotten, Resettled}
use Rattle.claims.specs.Spoke.{Spoke}
use Rattle.claims.specs.Thinner.{Why}
use Rattle.claims.specs.Told.{Behind, Thinned}
use Rattle.claims.specs.Witness.{said, hears, ticks, trunk, parts, parted, fallen, rekeyed, three_groups, plugged_over, two_lags, linked, since}
use Rattle.claims.specs.Causes.{held_up}

pub record Applied : Type 0 where
  -- `locality`: port 3 in calls that name port 1 or 2, and port 2 where port 3 hears the partner of port 1
  pub received_local : port_at (after (hears 1 1 0x3F) trunk) 2 ≡ port_at trunk 2
  pub fallen_local : port_at fallen 2 ≡ port_at trunk 2
  pub rekeyed_local : port_at rekeyed 2 ≡ port_at trunk 2
  pub displaced_local : port_at plugged_over 1 ≡ port_at three_groups 1
  -- `live-partner`: along calls of every kind
  pub live : Live (said 1 1 0x3F) (port_at (run (after (hears 1 1 0x3F) linked) since) 0)
  -- `waiting_for_someone`, `register-adds-up`
  pub held : HeldBy trunk (port_at trunk 2).aggregator
  pub register : Register two_lags
  -- `one-aggregator`: port 2, which port 1 leaves
  pub moved : MovedOver parts trunk 1
  -- `no_move_unseen`: it waits for nineteen ticks at least
  pub waits-on : waits (port_at (run parted (ticks 19 [])) 1).phase.mux ≡ true
  -- `moved-forgets`: port 1, and port 2 beside it
  pub forgotten : Forgotten (port_at three_groups 0) (port_at plugged_over 0)
  pub resettled : Resettled (port_at three_groups 1) (port_at plugged_over 1)
  -- `thinner_for_a_reason`: port 2 again; and where its partner collects no longer
  pub thinner : Why parts trunk 1
  pub thinner-by-one : Why (hears 1 2 0x0F) trunk 1
  -- `thinner-told`, `beside-true`: port 2 once more, and port 1 where port 2 holds it back
  pub thinned : Thinned (hears 1 2 0x0F) trunk 1
  pub behind : Behind held_up 0
  -- `partner-spoke`
  pub spoke : Spoke trunk 0
