-- `settings::Settings::is_held` meets its contract: the definition, with what the comparisons give put in. Assumes nothing.
use mathlib.Core.Path.{◌≡◌, ◌∙◌}
use Rattle.machine.specs.Compare.{same_address, same_system, same_block}
use Rattle.machine.proofs.CompareLaws.{beq-alike, block-equal}
use Rattle.settings.specs.Settings.{same_settings}
use Rattle.settings.proofs.Settings.is_held.Goals as goal

pub returns : goal.returns
unfolding same_settings same_address same_system
returns c =
    let s = c.args.self in
    let p = c.args.p in
    let address : c.eq.result ≡ same_address s.address p.own.address = c.eq.ensures in
    let default : c.eq-2.result ≡ same_block s.default p.own.default = c.eq-2.ensures ∙ block-equal s.default p.own.default in
    rw (c.has_grouping.ensures, address, beq-alike s.activity p.actor.activity, beq-alike s.timeout p.actor.timeout, default)
