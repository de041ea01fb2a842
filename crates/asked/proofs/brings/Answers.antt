-- `brings` meets its contract: what the port awaits, as octets, against those of the frame. Assumes nothing.
use Prim.Native.Nat.{ℕ, ◌-◌}
use mathlib.Core.Path.{◌≡◌, sym, ap, ◌∙◌}
use mathlib.Core.Bool.{true}
use mathlib.Core.List.{List}
use lib.ListN.{take, drop}
use lib.Seq.{length-take-le}
use Rattle.octets.specs.Octets.{same_octets}
use Rattle.frame.specs.Wire.{request_part}
use Rattle.table.specs.Layout.{header_of}
use Rattle.table.specs.Table.{ours}
use Rattle.asks.specs.Ask.{is_awaiting, awaited}
use Rattle.asks.specs.Groups.{ask_at}
use Rattle.asks.specs.declared.ask.Ask.{Ask}
use Rattle.asked.specs.Asked.{request_of}
use Rattle.asked.proofs.AskedLaws.{tail_is}
use Rattle.asked.proofs.brings.Goals as goal

pub returns-then-not-is_awaiting : goal.returns-then-not-is_awaiting
returns-then-not-is_awaiting c =
    let a = c.args in
    rw (sym (ap (λ (l : List ℕ). is_awaiting (ask_at l (a.n - 1)).outcome) (tail_is a.f a.table.now)) ∙ ap (λ (x : Ask). is_awaiting x.outcome) (sym c.at-a.ensures) ∙ sym c.is_awaiting.ensures ∙ c.if-not-is_awaiting.true)

pub slice_bounds-known-end : goal.slice_bounds-known-end
slice_bounds-known-end c = let pre = c.requires in sym (length-take-le c.args.b c.args.table.now pre.3)

pub returns : goal.returns
returns c =
    let a = c.args in
    let m = a.table.now in
    let q-is : c.at-a.result ≡ ask_at (drop a.f m) (a.n - 1) = c.at-a.ensures ∙ ap (λ (l : List ℕ). ask_at l (a.n - 1)) (tail_is a.f m) in
    let waits : is_awaiting (ask_at (drop a.f m) (a.n - 1)).outcome ≡ true = ap (λ (x : Ask). is_awaiting x.outcome) (sym q-is) ∙ sym c.is_awaiting.ensures ∙ c.if-not-is_awaiting.false in
    rw waits (c.same.ensures ∙ (λ i. same_octets (c.request.ensures i) (c.write_request.ensures i)) ∙ (λ i. same_octets (request_part a.frame.now) (request_of a.n ((c.header-header.ensures ∙ ap header_of c.known.ensures) i).system.address (c.awaited.ensures i)))
    ∙ ap (λ (x : Ask). same_octets (request_part a.frame.now) (request_of a.n (ours (take a.b m)).system.address (awaited x))) q-is)
