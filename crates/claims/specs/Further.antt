-- What is proved of tables and calls beyond the demands (promises/specs/Demands.antt), as one theorem. It is said of tables without monitors; with monitors a table's records
-- are such a table, by the same calls (promises: `base-made`, `base-calls`).
use Rattle.claims.specs.Claims.{BitsTrue, LagHasGroup}
use Rattle.claims.specs.LivePartner.{LivePartner}
use Rattle.claims.specs.ThreeSends.{ThreeSends, FourSendsApart}
use Rattle.claims.specs.LineCall.{LineTaken, LineRepeated, HalfSilent, StaysSilent}
use Rattle.claims.specs.Reports.{PortTrue, AggregatorTrue, DueTrue}
use Rattle.claims.specs.Moves.{OneAggregator, NoMoveUnseen, MovedForgets}
use Rattle.claims.specs.Thinner.{ThinnerForAReason}
use Rattle.claims.specs.Told.{AlwaysTold, BesideTrue, ThinnerTold}
use Rattle.claims.specs.Spoke.{PartnerSpoke}
use Rattle.claims.specs.Carries.{DistributingGiven, WaitingForSomeone, RegisterAddsUp}

pub record Further : Type 0 where
  -- what a partner said of itself stays until one of five events; and a port that is not defaulted has a partner that spoke, and nothing has ended it
  pub live-partner : LivePartner
  pub partner-spoke : PartnerSpoke
  -- an LACPDU makes a disabled port forget the partner that it shows elsewhere, and no other port but its own do more than settle anew
  pub moved-forgets : MovedForgets
  -- the fetch rule along any run
  pub three-sends : ThreeSends
  pub four-sends-apart : FourSendsApart
  -- link and duplex are one event, and at half duplex nothing is due
  pub line_taken : LineTaken
  pub line-repeated : LineRepeated
  pub half_silent : HalfSilent
  pub stays-silent : StaysSilent
  -- the reports are the records, and say what a fetch would answer, and those of all aggregators add up
  pub port-true : PortTrue
  pub aggregator-true : AggregatorTrue
  pub due-true : DueTrue
  pub register-adds-up : RegisterAddsUp
  -- the actor's bits say the mux state; whoever may carry does; whoever waits, waits for somebody
  pub bits_true : BitsTrue
  pub distributing-given : DistributingGiven
  pub waiting_for_someone : WaitingForSomeone
  -- who gets another aggregator is detached from the old one first, and waits, so no such move is missed by a look in every two seconds; who stops
  -- carrying does so for one of seven reasons
  pub one-aggregator : OneAggregator
  pub no_move_unseen : NoMoveUnseen
  pub thinner_for_a_reason : ThinnerForAReason
  -- a port is never without a cause, in the states that go with it; what stands beside a cause; and who stopped carrying has one that goes with the reason
  pub always_told : AlwaysTold
  pub beside-true : BesideTrue
  pub thinner-told : ThinnerTold
  -- one LAG ID is one group, but for links from this system to itself
  pub lag-has-group : LagHasGroup
