-- `why::apart::Apart::number` meets its contract: what is done, and the reasons before it, come to the number. Assumes nothing.
use mathlib.Core.Path.{◌≡◌}
use Rattle.why.specs.Apart.{apart_number}
use Rattle.why.proofs.ApartLaws.{bits_before}
use Rattle.why.proofs.apart.Apart.number.Given as goal

abbrev pub invariant-loop-reason : goal.invariant-loop-reason
invariant-loop-reason l = bits_before l.reason-iterator.iter.rest.now l.number ≡ apart_number l.fn.self
