-- `port::record::Port::record` meets its contract: whichever of the two blocks applies has 15 octets, and what is read from them is the
-- block that applies. By cases on the source. Assumes nothing.
use mathlib.Core.Path.{◌≡◌, refl, ap, ◌∙◌}
use mathlib.Core.List.{List}
use native.Mathlib.Omega.{arith}
use Prim.Native.Nat.{ℕ}
use lib.ListN.{length, take}
use Rattle.std.proofs.lemmas.List.{take_all}
use Rattle.frame.specs.declared.wire.Source.{Source}
use Rattle.frame.specs.declared.wire.Source.TheVariants.{Default, Pdu}
use Rattle.frame.specs.Block.{block_of}
use Rattle.frame.specs.Wire.{applying}
use Rattle.port.proofs.record.Port.record.Goals as goal

-- what applies has 15 octets, if both have
applying-length : (s : Source) (l m : List ℕ) → length l ≡ 15 → length m ≡ 15 → length (applying s l m) ≡ 15
applying-length Default l m h g = g
applying-length Pdu l m h g = h

-- to read what applies is to apply what is read
applying-read : (s : Source) (l m : List ℕ) → block_of (applying s l m) ≡ applying s (block_of l) (block_of m)
applying-read Default l m = refl
applying-read Pdu l m = refl

pub chunk-requires : goal.chunk-requires
chunk-requires c =
    let a = c.args in
    let all : length (applying a.source a.pdu.now a.default.now) ≡ 15 = applying-length a.source a.pdu.now a.default.now c.told-pdu c.told-default in
    rw c.recorded.ensures (omega arith, omega (arith, all))

pub returns : goal.returns
returns c =
    let a = c.args in
    let all : length (applying a.source a.pdu.now a.default.now) ≡ 15 = applying-length a.source a.pdu.now a.default.now c.told-pdu c.told-default in
    let read : c.read-self.result ≡ block_of (take 15 (applying a.source a.pdu.now a.default.now)) =
    c.read-self.ensures ∙ ap block_of c.chunk.ensures ∙ ap (λ (l : List ℕ). block_of (take 15 l)) c.recorded.ensures in
    let whole = take_all 15 (applying a.source a.pdu.now a.default.now) (omega (arith, all)) in
    rw (read ∙ ap block_of whole ∙ applying-read a.source a.pdu.now a.default.now, c.is_default-self.ensures)
