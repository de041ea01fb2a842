-- `trunk::sweep::tick_one` meets its contract: time passes, and then the receive machine runs on what that left. Assumes nothing.
use Rattle.port.specs.Receive.{receive_run}
use Rattle.port.specs.Transmit.{ticked, advanced}
use Rattle.trunk.proofs.TableWork.{still, became_then}
use Rattle.trunk.proofs.sweep.tick_one.Goals as goal

pub receive_one-requires : goal.receive_one-requires
receive_one-requires c = still _ c.requires c.pass_time.ensures

pub returns : goal.returns
unfolding advanced
returns c = became_then ticked receive_run c.args.i c.requires c.pass_time.ensures c.receive_one.ensures
