-- `ask` meets its contract: each refusal has the tests that led there; an accepted one writes the Marker and the group. Assumes nothing.
use Prim.Native.Nat.{ℕ, ◌-◌, ◌≤◌}
use mathlib.Core.Path.{◌≡◌, sym, ap, ◌∙◌}
use mathlib.Core.Bool.{true}
use mathlib.Core.List.{List, ◌++◌}
use native.Mathlib.Omega.{arith}
use lib.ListN.{length, take, drop, length-drop}
use lib.Seq.{length-take-le}
use Rattle.octets.specs.Octets.{within}
use Rattle.frame.specs.Class.{frame_size}
use Rattle.table.specs.Table.{port_at}
use Rattle.table.proofs.TableLaws.{in_range}
use Rattle.machine.specs.Mux.{distributes}
use Rattle.asks.specs.Ask.{longest_wait, is_awaiting, asked}
use Rattle.asks.specs.Groups.{ask_at}
use Rattle.asks.specs.declared.ask.Ask.{Ask}
use Rattle.control.specs.Accepted.{accepted}
use Rattle.asked.specs.Asked.{with_ask}
use Rattle.asked.proofs.AskedLaws.{found-front, tail_is, tail_put}
use Rattle.asked.proofs.CallLaws.{base-count}
use Rattle.asked.proofs.AskLaws.{ask-unfound, port-there, ask-first, ask-short, ask-wait, ask-not, ask-awaits, ask-done}
use Rattle.machine.specs.declared.states.Phase.{Phase}
use borrow.Author.Rules.{rules}
use Rattle.asked.specs.Layer.{new_layer}
use Rattle.asked.proofs.ask.Goals as goal

pub returns-in_err-f : goal.returns-in_err-f
returns-in_err-f c =
    let a = c.args in
    ask-unfound a.n a.wait a.out.now a.table.now c.from_residual.result (sym c.front_size.ensures.0 ∙ c.in_err-f.was) c.from_residual.ensures.1

pub bounds-table-0 : goal.bounds-table-0
bounds-table-0 c =
    let front = found-front new_layer c.args.table.now (sym c.front_size.ensures.0 ∙ c.in_ok-f.was) in
    omega (arith, front.size, front.is)

pub slice_bounds-find-end-2 : goal.slice_bounds-find-end-2
slice_bounds-find-end-2 c =
    let front = found-front new_layer c.args.table.now (sym c.front_size.ensures.0 ∙ c.in_ok-f.was) in
    sym (length-take-le c.in_ok-f.f c.args.table.now front.most)

pub returns-in_err-find : goal.returns-in_err-find
returns-in_err-find c =
    let front = found-front new_layer c.args.table.now (sym c.front_size.ensures.0 ∙ c.in_ok-f.was) in
    let a = c.args in
    ask-first a.n a.wait a.out.now a.table.now c.in_ok-f.f c.place_of-b.result front.is c.place_of-b.ensures front.has c.from_residual-in_err-find.result (sym c.find.ensures ∙ c.in_err-find.was) c.from_residual-in_err-find.ensures.1

pub returns-then-out-lt-FRAME : goal.returns-then-out-lt-FRAME
returns-then-out-lt-FRAME c =
    let front = found-front new_layer c.args.table.now (sym c.front_size.ensures.0 ∙ c.in_ok-f.was) in
    let a = c.args in
    let done = sym c.find.ensures ∙ c.in_ok-find.was in
    ask-short a.n a.wait a.out.now a.table.now c.in_ok-f.f c.place_of-b.result front.is c.place_of-b.ensures front.has done c.if-out-lt-FRAME.true

pub returns-then-not-is_wait : goal.returns-then-not-is_wait
returns-then-not-is_wait c =
    let front = found-front new_layer c.args.table.now (sym c.front_size.ensures.0 ∙ c.in_ok-f.was) in
    let a = c.args in
    let out = a.out.now in
    let done = sym c.find.ensures ∙ c.in_ok-find.was in
    let roomy : frame_size ≤ length out = c.if-out-lt-FRAME.false in
    ask-wait a.n a.wait out a.table.now c.in_ok-f.f c.place_of-b.result front.is c.place_of-b.ensures front.has done roomy (sym c.is_wait.ensures ∙ c.if-not-is_wait.true)

pub overflow_sub-i : goal.overflow_sub-i
overflow_sub-i c =
    let front = found-front new_layer c.args.table.now (sym c.front_size.ensures.0 ∙ c.in_ok-f.was) in
    let a = c.args in
    let done = sym c.find.ensures ∙ c.in_ok-find.was in
    let there = port-there a.n a.table.now c.in_ok-f.f c.place_of-b.result front.is c.place_of-b.ensures (ap accepted done) in
    there.some

pub slice_bounds-known-end : goal.slice_bounds-known-end
slice_bounds-known-end c =
    let front = found-front new_layer c.args.table.now (sym c.front_size.ensures.0 ∙ c.in_ok-f.was) in
    omega (arith, front.size, front.is, c.place_of-b.ensures)

pub slice_bounds-known-end-3 : goal.slice_bounds-known-end-3
slice_bounds-known-end-3 c =
    let front = found-front new_layer c.args.table.now (sym c.front_size.ensures.0 ∙ c.in_ok-f.was) in
    omega (arith, front.size, front.is, c.place_of-b.ensures)

pub slice_bounds-known-end-2 : goal.slice_bounds-known-end-2
slice_bounds-known-end-2 c =
    let front = found-front new_layer c.args.table.now (sym c.front_size.ensures.0 ∙ c.in_ok-f.was) in
    sym (length-take-le c.place_of-b.result c.args.table.now (omega (arith, front.size, front.is, c.place_of-b.ensures)))

pub known-requires : goal.known-requires
known-requires c =
    let front = found-front new_layer c.args.table.now (sym c.front_size.ensures.0 ∙ c.in_ok-f.was) in
    let a = c.args in
    let m = a.table.now in
    let f = c.in_ok-f.f in
    let isf = front.is in
    let b = c.place_of-b.result in
    let isb = c.place_of-b.ensures in
    let done = sym c.find.ensures ∙ c.in_ok-find.was in
    let there = port-there a.n m f b isf isb (ap accepted done) in
    there.ranged

pub phase-requires : goal.phase-requires
phase-requires c =
    let front = found-front new_layer c.args.table.now (sym c.front_size.ensures.0 ∙ c.in_ok-f.was) in
    let a = c.args in
    let m = a.table.now in
    let f = c.in_ok-f.f in
    let isf = front.is in
    let b = c.place_of-b.result in
    let isb = c.place_of-b.ensures in
    let done = sym c.find.ensures ∙ c.in_ok-find.was in
    let there = port-there a.n m f b isf isb (ap accepted done) in
    let count = base-count m f b isf isb in
    rw c.known.ensures (omega (arith, there.some, there.most, count))

pub returns-then-not-distributes : goal.returns-then-not-distributes
returns-then-not-distributes c =
    let front = found-front new_layer c.args.table.now (sym c.front_size.ensures.0 ∙ c.in_ok-f.was) in
    let a = c.args in
    let wait = a.wait in
    let out = a.out.now in
    let done = sym c.find.ensures ∙ c.in_ok-find.was in
    let roomy : frame_size ≤ length out = c.if-out-lt-FRAME.false in
    let fit : within 1 wait longest_wait ≡ true = sym c.is_wait.ensures ∙ c.if-not-is_wait.false in
    ask-not a.n wait out a.table.now c.in_ok-f.f c.place_of-b.result front.is c.place_of-b.ensures front.has done roomy fit (ap (λ (x : Phase). distributes x.mux) (sym (c.phase.ensures ∙ ap (λ (l : List ℕ). (port_at l (c.args.n - 1)).phase) c.known.ensures)) ∙ sym c.distributes.ensures ∙ c.if-not-distributes.true)

pub at-q-requires : goal.at-q-requires
at-q-requires c =
    let front = found-front new_layer c.args.table.now (sym c.front_size.ensures.0 ∙ c.in_ok-f.was) in
    let a = c.args in
    let m = a.table.now in
    let f = c.in_ok-f.f in
    let done = sym c.find.ensures ∙ c.in_ok-find.was in
    let there = port-there a.n m f c.place_of-b.result front.is c.place_of-b.ensures (ap accepted done) in
    rw (tail_is f m) (let d = length-drop f m in omega (arith, d, front.size, there.some, there.most))

pub returns-then-is_awaiting : goal.returns-then-is_awaiting
returns-then-is_awaiting c =
    let front = found-front new_layer c.args.table.now (sym c.front_size.ensures.0 ∙ c.in_ok-f.was) in
    let a = c.args in
    let m = a.table.now in
    let f = c.in_ok-f.f in
    let b = c.place_of-b.result in
    let n = a.n in
    let wait = a.wait in
    let out = a.out.now in
    let done = sym c.find.ensures ∙ c.in_ok-find.was in
    let roomy : frame_size ≤ length out = c.if-out-lt-FRAME.false in
    let fit : within 1 wait longest_wait ≡ true = sym c.is_wait.ensures ∙ c.if-not-is_wait.false in
    let carries : distributes (port_at (take b m) (n - 1)).phase.mux ≡ true = ap (λ (x : Phase). distributes x.mux) (sym (c.phase.ensures ∙ ap (λ (l : List ℕ). (port_at l (c.args.n - 1)).phase) c.known.ensures)) ∙ sym c.distributes.ensures ∙ c.if-not-distributes.false in
    let q-is : c.at-q.result ≡ ask_at (drop f m) (n - 1) = c.at-q.ensures ∙ ap (λ (l : List ℕ). ask_at l (n - 1)) (tail_is f m) in
    ask-awaits n wait out m f b front.is c.place_of-b.ensures front.has done roomy fit carries (ap (λ (x : Ask). is_awaiting x.outcome) (sym q-is) ∙ sym c.is_awaiting.ensures ∙ c.if-is_awaiting.true)

pub slice_bounds-known-end-4 : goal.slice_bounds-known-end-4
slice_bounds-known-end-4 c =
    let front = found-front new_layer c.args.table.now (sym c.front_size.ensures.0 ∙ c.in_ok-f.was) in
    sym (length-take-le c.place_of-b.result c.args.table.now (omega (arith, front.size, front.is, c.place_of-b.ensures)))

pub known-requires-2 : goal.known-requires-2
known-requires-2 c =
    let front = found-front new_layer c.args.table.now (sym c.front_size.ensures.0 ∙ c.in_ok-f.was) in
    let done = sym c.find.ensures ∙ c.in_ok-find.was in
    (port-there c.args.n c.args.table.now c.in_ok-f.f c.place_of-b.result front.is c.place_of-b.ensures (ap accepted done)).ranged

pub write_marker-requires : goal.write_marker-requires
write_marker-requires c =
    let front = found-front new_layer c.args.table.now (sym c.front_size.ensures.0 ∙ c.in_ok-f.was) in
    let a = c.args in
    let m = a.table.now in
    let f = c.in_ok-f.f in
    let isf = front.is in
    let b = c.place_of-b.result in
    let isb = c.place_of-b.ensures in
    let done = sym c.find.ensures ∙ c.in_ok-find.was in
    let there = port-there a.n m f b isf isb (ap accepted done) in
    let some = there.some in
    let few = there.most in
    let count = base-count m f b isf isb in
    let ports = (in_range (take b m) there.ranged).most in
    (rw c.known-2.ensures (omega (arith, some, few, count)), some, omega (arith, few, count, ports), c.if-out-lt-FRAME.false)

pub overflow_cast-i-3 : goal.overflow_cast-i-3
overflow_cast-i-3 c =
    let front = found-front new_layer c.args.table.now (sym c.front_size.ensures.0 ∙ c.in_ok-f.was) in
    let a = c.args in
    let m = a.table.now in
    let f = c.in_ok-f.f in
    let isf = front.is in
    let b = c.place_of-b.result in
    let isb = c.place_of-b.ensures in
    let done = sym c.find.ensures ∙ c.in_ok-find.was in
    let there = port-there a.n m f b isf isb (ap accepted done) in
    let count = base-count m f b isf isb in
    let ports = (in_range (take b m) there.ranged).most in omega (arith, there.most, count, ports)

pub store-requires : goal.store-requires
store-requires c =
    let front = found-front new_layer c.args.table.now (sym c.front_size.ensures.0 ∙ c.in_ok-f.was) in
    let a = c.args in
    let m = a.table.now in
    let f = c.in_ok-f.f in
    let done = sym c.find.ensures ∙ c.in_ok-find.was in
    let there = port-there a.n m f c.place_of-b.result front.is c.place_of-b.ensures (ap accepted done) in
    rw (tail_is f m) (let d = length-drop f m in omega (arith, d, front.size, there.some, there.most))

pub returns : goal.returns
returns c =
    let front = found-front new_layer c.args.table.now (sym c.front_size.ensures.0 ∙ c.in_ok-f.was) in
    let a = c.args in
    let m = a.table.now in
    let f = c.in_ok-f.f in
    let b = c.place_of-b.result in
    let n = a.n in
    let wait = a.wait in
    let out = a.out.now in
    let done = sym c.find.ensures ∙ c.in_ok-find.was in
    let roomy : frame_size ≤ length out = c.if-out-lt-FRAME.false in
    let fit : within 1 wait longest_wait ≡ true = sym c.is_wait.ensures ∙ c.if-not-is_wait.false in
    let carries : distributes (port_at (take b m) (n - 1)).phase.mux ≡ true = ap (λ (x : Phase). distributes x.mux) (sym (c.phase.ensures ∙ ap (λ (l : List ℕ). (port_at l (c.args.n - 1)).phase) c.known.ensures)) ∙ sym c.distributes.ensures ∙ c.if-not-distributes.false in
    let q-is : c.at-q.result ≡ ask_at (drop f m) (n - 1) = c.at-q.ensures ∙ ap (λ (l : List ℕ). ask_at l (n - 1)) (tail_is f m) in
    let keep : length c.store.new.groups ≡ length m - f = search rules in
    ask-done n wait out m f b front.is c.place_of-b.ensures front.has done roomy fit carries (ap (λ (x : Ask). is_awaiting x.outcome) (sym q-is) ∙ sym c.is_awaiting.ensures ∙ c.if-is_awaiting.false) _ _
    (tail_put f m _ front.most keep ∙ ap (λ (l : List ℕ). take f m ++ l) (c.store.ensures ∙ rw (c.ask.ensures, q-is) (ap (λ (l : List ℕ). with_ask (n - 1) (asked wait (ask_at (drop f m) (n - 1))) l) (tail_is f m))))
    (c.write_marker.ensures ∙ rw (c.known-2.ensures, q-is))
