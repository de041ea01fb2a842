-- `settings_of` meets its contract: address and block are read from their octets. Assumes nothing.
use Rattle.myrkosti.proofs.settings_of.Goals as goal

pub returns : goal.returns
returns c =
    rw (c.read-2.ensures, c.read.ensures)
