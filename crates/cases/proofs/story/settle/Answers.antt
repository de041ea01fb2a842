-- `story::settle` is safe: a port is detached before it is placed. Assumes nothing.
use Rattle.std.proofs.Common.{ap, ◌∙◌}
use Rattle.port.specs.declared.record.Port.{Port}
use Rattle.port.proofs.MuxLaws.{detached-is}
use Rattle.cases.proofs.story.settle.Goals as goal

pub place-requires : goal.place-requires
place-requires c = ap (λ (x : Port). x.phase.mux) c.detach.ensures ∙ detached-is _
