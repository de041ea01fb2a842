-- What stands in the arguments of the program is what `Takes` asks for, since their types say so. Assumes nothing.
use Prim.Native.Nat.{ℕ, ◌<◌}
use mathlib.Core.Path.{◌≡◌}
use mathlib.Core.Bool.{true}
use mathlib.Core.List.{List}
use denote.Shadow.{shadow}
use denote.Struct.Struct.{within}
use denote.Struct.Declared.{shape}
use denote.RattleType.{Valss}
use mir.Val.{Val}
use borrow.Author.Tests.{lt-ltb}
use Rattle.octets.specs.Octets.{fits}
use Rattle.octets.proofs.RangeLaws.{both_true}
use Rattle.frame.specs.Block.{block_fits}
use Rattle.port.specs.Range.{own_fits}
use Rattle.settings.specs.declared.Settings.{Settings}
use Rattle.settings.specs.Settings.{own_of}
use Rattle.settings.specs.contracts.Settings.{the_type}

pub fit : (n : ℕ) → n < 65536 → fits n ≡ true
fit n h = lt-ltb n 65536 h

pub settings_typed : (x : Settings) (vs : List Val) (vss : Valss (shape the_type).fields) → shadow (within (shape the_type) (the_type.to x) vs vss) → own_fits (own_of x) ≡ true
unfolding own_fits block_fits
settings_typed x vs vss k =
    let a = k.1.0 in
    let b = k.1.1.1.1.1.1.1.0 in
    let s = b.1.1.0 in
    let n = b.1.1.1.1.0 in
    let y = s.1.1.1.0 in
    both_true (both_true (fit _ a.1.1.0.1) (both_true (fit _ a.1.1.1.0.1) (fit _ a.1.1.1.1.0.1)))
    (both_true (fit _ k.1.1.0.1) (both_true (fit _ k.1.1.1.0.1)
    (both_true (fit _ s.1.1.0.1)
    (both_true (both_true (fit _ y.1.1.0.1) (both_true (fit _ y.1.1.1.0.1) (fit _ y.1.1.1.1.0.1)))
    (both_true (fit _ b.1.1.1.0.1) (both_true (fit _ n.1.1.0.1) (fit _ n.1.1.1.0.1)))))))
