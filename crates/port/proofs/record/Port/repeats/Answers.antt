-- `port::record::Port::repeats` meets its contract: the definition, with what the callees and the comparisons give put in. Assumes nothing.
use mathlib.Core.Path.{◌≡◌, ◌∙◌}
use Rattle.machine.specs.Bits.{with_synchronization}
use Rattle.machine.specs.Compare.{same_address, same_system, same_block}
use Rattle.machine.specs.Receive.{is_current}
use Rattle.machine.proofs.CompareLaws.{block-equal}
use Rattle.machine.proofs.RuleLaws.{current-is}
use Rattle.port.specs.Receive.{with_state, repeats}
use Rattle.port.proofs.record.Port.repeats.Goals as goal

pub returns : goal.returns
unfolding repeats same_address same_system
returns c =
    let p = c.args.self in
    let state : c.eq.result ≡ is_current p.phase.receive = c.eq.ensures ∙ current-is p.phase.receive in
    let heard = with_state c.args.a (with_synchronization c.args.a.state c.in_sync-heard.result) in
    let known : c.eq-2.result ≡ same_block heard p.partner = c.eq-2.ensures ∙ block-equal heard p.partner in
    rw (state, known, c.in_sync-heard.ensures, c.same_view.ensures)
