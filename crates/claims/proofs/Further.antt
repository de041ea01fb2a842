-- What goes beyond the demands, each from its own theorem. Assumes nothing.
use Rattle.claims.specs.Further.{Further}
use Rattle.claims.proofs.Rule.{bits_true}
use Rattle.claims.proofs.Lag.{lag-has-group}
use Rattle.claims.proofs.LivePartner.{live-partner}
use Rattle.claims.proofs.ThreeSends.{three-sends, four-sends-apart}
use Rattle.claims.proofs.LineCall.{line_taken, line-repeated, half_silent, stays-silent}
use Rattle.claims.proofs.Reports.{port-true, aggregator-true, due-true}
use Rattle.claims.proofs.Carries.{distributing-given, waiting_for_someone, register-adds-up}
use Rattle.claims.proofs.Moves.{one-aggregator, moved-forgets}
use Rattle.claims.proofs.Unseen.{no_move_unseen}
use Rattle.claims.proofs.Told.{always_told, beside-true}
use Rattle.claims.proofs.Thinner.{thinner_for_a_reason, thinner-told}
use Rattle.claims.proofs.Spoke.{partner-spoke}

pub further : Further
further = record {
  live-partner = live-partner;
  partner-spoke = partner-spoke;
  moved-forgets = moved-forgets;
  three-sends = three-sends;
  four-sends-apart = four-sends-apart;
  line_taken = line_taken;
  line-repeated = line-repeated;
  half_silent = half_silent;
  stays-silent = stays-silent;
  port-true = port-true;
  aggregator-true = aggregator-true;
  due-true = due-true;
  register-adds-up = register-adds-up;
  bits_true = bits_true;
  distributing-given = distributing-given;
  waiting_for_someone = waiting_for_someone;
  one-aggregator = one-aggregator;
  no_move_unseen = no_move_unseen;
  thinner_for_a_reason = thinner_for_a_reason;
  always_told = always_told;
  beside-true = beside-true;
  thinner-told = thinner-told;
  lag-has-group = lag-has-group;
}
