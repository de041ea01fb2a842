-- `octets::sets::all_of` meets its contract: bit by bit. Assumes nothing.
use Rattle.octets.proofs.SetLaws.{or-member}
use Rattle.octets.proofs.sets.all_of.Goals as goal

pub returns : goal.returns
returns c = λ m. or-member c.args.a c.args.b m
