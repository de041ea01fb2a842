-- `fall_one` meets its contract: what falls to itself stands there already. Assumes nothing.
use Prim.Native.Nat.{ℕ, ◌*◌}
use mathlib.Core.Path.{sym, ap, ◌∙◌}
use mathlib.Core.List.{List}
use Rattle.octets.specs.Octets.{put_at}
use Rattle.octets.specs.Rows.{row_at}
use Rattle.asks.specs.Ask.{ask_fallen}
use Rattle.asks.specs.Group.{group_size, group_octets, group_of}
use Rattle.asks.specs.Groups.{ask_at}
use Rattle.octets.proofs.Laws.{put_back}
use Rattle.asks.proofs.fall_one.Goals as goal

pub returns-else-not-is_idle : goal.returns-else-not-is_idle
unfolding ask_at row_at
returns-else-not-is_idle c =
    let a = c.args in
    let g = a.groups.now in
    let row = c.group_at.ensures in
    let idle = c.is_idle.ensures (c.if-not-is_idle.false) in
    let same = ap (λ (l : List ℕ). group_octets (ask_fallen (group_of l))) (sym row) ∙ idle ∙ row in
    sym (ap (λ (l : List ℕ). put_at (group_size * a.i) l g) same ∙ put_back (group_size * a.i) group_size g c.requires)
