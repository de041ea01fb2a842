-- `print_frame` is safe: a frame that the tests accept has 124 octets, which its two readers ask for. Assumes nothing.
use Rattle.std.proofs.Common.{sym, ap, ◌∙◌}
use Rattle.frame.proofs.ClassLaws.{passes, passed-whole}
use Rattle.cases.proofs.print_frame.Goals as goal

pub print_lacpdu-requires : goal.print_lacpdu-requires
print_lacpdu-requires g c = passed-whole _ (ap passes (sym c.classify.ensures ∙ c.in-Ok-Lacpdu.is))

pub print_marker-requires : goal.print_marker-requires
print_marker-requires g c = passed-whole _ (ap passes (sym c.classify.ensures ∙ c.in-Ok-Marker.is))
