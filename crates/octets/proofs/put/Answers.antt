-- `octets::put` meets its contract: the copied part, put back, is `put_at`. Assumes nothing.
use Prim.Native.Nat.{◌+◌}
use mathlib.Core.Path.{refl}
use lib.ListN.{length}
use Rattle.octets.proofs.Laws.{put-part}
use Rattle.octets.proofs.put.Goals as goal

pub returns : goal.returns
returns c =
    let a = c.args in
    rw c.copy_from_slice.ensures.after (put-part a.at (a.at + length a.src.now) a.src.now a.dst.now refl)
