-- `begin_all` meets its contract: the loop has done the first i groups, and a turn does the next. Assumes nothing.
use Prim.Native.Nat.{◌*◌}
use mathlib.Core.Path.{ap, ◌∙◌}
use native.Mathlib.Numerals.{add-one}
use native.Mathlib.Omega.{arith}
use Rattle.octets.specs.Octets.{put_at}
use Rattle.asks.specs.declared.ask.Ask.{Ask}
use Rattle.asks.specs.Group.{group_size, group_octets}
use Rattle.asks.proofs.GroupLaws.{fresh_at, done_first, begin-turn, begin_end}
use Rattle.asks.proofs.begin_all.Goals as goal

pub loop-i-init : goal.loop-i-init
loop-i-init c = done_first fresh_at c.args.groups.now

pub loop-i-preserved : goal.loop-i-preserved
loop-i-preserved c =
    let i = c.loop-i.i in
    let did = c.store.ensures ∙ ap (λ (a : Ask). put_at (group_size * i) (group_octets a) c.loop-i.groups) c.default.ensures in
    rw add-one (begin-turn c.args.groups.now c.args.n c.requires i _ c.loop-i.invariant _ did)

pub returns : goal.returns
returns c = begin_end c.args.groups.now c.args.n c.requires c.loop-i.i _ c.loop-i.invariant (omega arith)
