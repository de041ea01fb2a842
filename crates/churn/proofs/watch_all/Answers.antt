-- `watch_all` meets its contract: ports that rest are passed over, the loop has done the first i groups (`done`), and a turn does the next. Assumes nothing.
use Prim.Native.Nat.{ℕ}
use mathlib.Core.Path.{◌≡◌, ap, ◌∙◌}
use mathlib.Core.List.{List}
use native.Mathlib.Omega.{arith}
use Rattle.table.specs.Table.{count_in}
use Rattle.octets.specs.Octets.{put_at}
use Rattle.churn.specs.Group.{group_octets}
use Rattle.churn.specs.Whole.{group_place, watched_at}
use Rattle.churn.proofs.WholeLaws.{done-count, turn-size, turn, turns_end}
use Rattle.churn.proofs.RestLaws.{run-begins}
use Rattle.churn.proofs.watch_all.Goals as goal

pub loop-i-init : goal.loop-i-init
loop-i-init c =
    let a = c.args in
    let told = c.first_to_run-i.ensures in
    run-begins a.stage a.table.now c.requires (λ j. (c.slice_known-1.given j).fits) c.first_to_run-i.result told.0 told.1 told.2

pub watch_one-requires : goal.watch_one-requires
watch_one-requires c =
    let a = c.args in
    let t = a.table.now in
    let h = c.requires in
    let i = c.loop-i.i in
    rw c.loop-i.invariant (turn-size t h a.stage i (omega arith), rw (done-count t h (watched_at a.stage t) i) (omega arith))

pub loop-i-preserved : goal.loop-i-preserved
loop-i-preserved c =
    let a = c.args in
    let i = c.loop-i.i in
    turn a.table.now c.requires a.stage i _ (c.watch_one.ensures ∙ ap (λ (u : List ℕ). put_at (group_place (count_in u) i) (group_octets (watched_at a.stage u i)) u) c.loop-i.invariant)

pub returns : goal.returns
returns c =
    let a = c.args in
    let i = c.loop-i.i in
    let end : count_in a.table.now ≡ i = let told = c.first_to_run-i.ensures.0 in omega (arith, told) in
    c.loop-i.invariant ∙ turns_end a.table.now c.requires a.stage i end
