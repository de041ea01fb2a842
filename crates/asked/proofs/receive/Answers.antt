-- `receive` meets its contract: the call on the front, and a Response for which the port waits is accepted. Assumes nothing.
use Prim.Native.Nat.{ℕ, ◌-◌}
use mathlib.Core.Path.{◌≡◌, refl, sym, ap, ◌∙◌}
use mathlib.Core.Bool.{Bool, cond}
use mathlib.Core.List.{List, ◌++◌}
use native.Mathlib.Omega.{arith}
use lib.ListN.{length, take, drop, take-append-drop}
use lib.Seq.{length-take-le}
use lib.Dec.{eqb}
use borrow.Author.Tests.{eqb-true}
use Rattle.table.specs.Table.{ours}
use Rattle.table.proofs.TableLaws.{in_range}
use Rattle.asks.specs.Groups.{ask_at}
use Rattle.asks.specs.declared.ask.Outcome.TheVariants.{Answered}
use Rattle.control.specs.Answer.{Answer, answer_number}
use Rattle.control.specs.Call as call
use Rattle.asked.specs.Asked.{ended_at, brings_back}
use Rattle.asked.proofs.AskedLaws.{unfound-out, found-front, finished-out, finished-ours, new-front, old_tail}
use Rattle.asked.proofs.CallLaws.{base-count, responds, response-leaves, ours-by-number, ours-by_request}
use borrow.Author.Rules.{rules}
use Rattle.asked.specs.Layer.{new_layer}
use Rattle.asked.proofs.receive.Goals as goal

pub returns-in_err-f : goal.returns-in_err-f
returns-in_err-f c = unfound-out (call.receive c.args.n c.args.frame.now c.args.out.now) c.args.table.now c.from_residual.result refl (sym c.front_size.ensures.0 ∙ c.in_err-f.was) c.from_residual.ensures.1

pub bounds-table-0 : goal.bounds-table-0
bounds-table-0 c =
    let front = found-front new_layer c.args.table.now (sym c.front_size.ensures.0 ∙ c.in_ok-f.was) in
    omega (arith, front.size, front.is)

pub slice_bounds-receive-end-2 : goal.slice_bounds-receive-end-2
slice_bounds-receive-end-2 c =
    let front = found-front new_layer c.args.table.now (sym c.front_size.ensures.0 ∙ c.in_ok-f.was) in
    sym (length-take-le c.in_ok-f.f c.args.table.now front.most)

pub returns-then-not-is_response : goal.returns-then-not-is_response
returns-then-not-is_response c =
    let front = found-front new_layer c.args.table.now (sym c.front_size.ensures.0 ∙ c.in_ok-f.was) in
    let a = c.args in
    let m = a.table.now in
    let f = c.in_ok-f.f in
    let isf = front.is in
    let n = a.n in
    let frame = a.frame.now in
    let out = a.out.now in
    let told = c.receive-a.ensures.0 in
    let ours-not = ours-by-number n frame out m f c.place_of-b.result isf c.place_of-b.ensures (ap (λ (x : Answer). eqb (answer_number x) 12) (sym told) ∙ sym c.is_response.ensures ∙ c.if-not-is_response.true) in
    finished-out (call.receive n frame out) m f isf front.has _ c.receive-a.new.table _ _ _ ours-not told c.receive-a.ensures.1 (sym (ap (λ (x : Bool). cond x (ended_at Answered (n - 1) (drop f m)) (drop f m)) ours-not)) refl c.receive-a.ensures.2

pub brings-requires : goal.brings-requires
brings-requires c =
    let front = found-front new_layer c.args.table.now (sym c.front_size.ensures.0 ∙ c.in_ok-f.was) in
    let a = c.args in
    let m = a.table.now in
    let f = c.in_ok-f.f in
    let isf = front.is in
    let size = front.size in
    let b = c.place_of-b.result in
    let isb = c.place_of-b.ensures in
    let n = a.n in
    let frame = a.frame.now in
    let out = a.out.now in
    let twelve = eqb-true _ 12 (ap (λ (x : Answer). eqb (answer_number x) 12) (sym c.receive-a.ensures.0) ∙ sym c.is_response.ensures ∙ c.if-not-is_response.false) in
    let back : c.receive-a.new.table ++ drop f m ≡ m = (λ i. (c.receive-a.ensures.1 ∙ response-leaves n frame out m f b isf isb twelve) i ++ drop f m) ∙ take-append-drop f m in
    let is = responds n frame out m f b isf isb twelve in
    let some = is.some in
    let few = is.most in
    let count = base-count m f b isf isb in
    let ports = (in_range (take b m) is.ranged).most in
    rw back (((is.ranged, omega (arith, some, few)), some, omega (arith, few, ports), omega (arith, size, isf, isb), omega (arith, size, few, count), is.long))

pub returns-then-not-brings : goal.returns-then-not-brings
returns-then-not-brings c =
    let front = found-front new_layer c.args.table.now (sym c.front_size.ensures.0 ∙ c.in_ok-f.was) in
    let a = c.args in
    let m = a.table.now in
    let f = c.in_ok-f.f in
    let isf = front.is in
    let b = c.place_of-b.result in
    let isb = c.place_of-b.ensures in
    let n = a.n in
    let frame = a.frame.now in
    let out = a.out.now in
    let u = c.receive-a.new.table in
    let told = c.receive-a.ensures.0 in
    let left = c.receive-a.ensures.1 in
    let twelve = eqb-true _ 12 (ap (λ (x : Answer). eqb (answer_number x) 12) (sym told) ∙ sym c.is_response.ensures ∙ c.if-not-is_response.false) in
    let back : u ++ drop f m ≡ m = (λ i. (left ∙ response-leaves n frame out m f b isf isb twelve) i ++ drop f m) ∙ take-append-drop f m in
    let found = c.brings.ensures ∙ ap (λ (t : List ℕ). brings_back n (ours (take b t)).system.address frame (ask_at (drop f t) (n - 1))) back in
    let ours-not = ours-by_request n frame out m f b isf isb twelve _ found ∙ c.if-not-brings.true in
    finished-out (call.receive n frame out) m f isf front.has _ u _ _ _ ours-not told left (sym (ap (λ (x : Bool). cond x (ended_at Answered (n - 1) (drop f m)) (drop f m)) ours-not)) refl c.receive-a.ensures.2

pub overflow_sub-i : goal.overflow_sub-i
overflow_sub-i c =
    let front = found-front new_layer c.args.table.now (sym c.front_size.ensures.0 ∙ c.in_ok-f.was) in
    let a = c.args in
    let twelve = eqb-true _ 12 (ap (λ (x : Answer). eqb (answer_number x) 12) (sym c.receive-a.ensures.0) ∙ sym c.is_response.ensures ∙ c.if-not-is_response.false) in
    let is = responds a.n a.frame.now a.out.now a.table.now c.in_ok-f.f c.place_of-b.result front.is c.place_of-b.ensures twelve in
    is.some

pub end-requires : goal.end-requires
end-requires c =
    let front = found-front new_layer c.args.table.now (sym c.front_size.ensures.0 ∙ c.in_ok-f.was) in
    let a = c.args in
    let m = a.table.now in
    let f = c.in_ok-f.f in
    let isf = front.is in
    let b = c.place_of-b.result in
    let isb = c.place_of-b.ensures in
    let n = a.n in
    let frame = a.frame.now in
    let out = a.out.now in
    let twelve = eqb-true _ 12 (ap (λ (x : Answer). eqb (answer_number x) 12) (sym c.receive-a.ensures.0) ∙ sym c.is_response.ensures ∙ c.if-not-is_response.false) in
    let back : c.receive-a.new.table ++ drop f m ≡ m = (λ i. (c.receive-a.ensures.1 ∙ response-leaves n frame out m f b isf isb twelve) i ++ drop f m) ∙ take-append-drop f m in
    let is = responds n frame out m f b isf isb twelve in
    let count = base-count m f b isf isb in
    rw back (omega (arith, front.size, is.some, is.most, count))

pub returns : goal.returns
returns c =
    let front = found-front new_layer c.args.table.now (sym c.front_size.ensures.0 ∙ c.in_ok-f.was) in
    let a = c.args in
    let m = a.table.now in
    let f = c.in_ok-f.f in
    let isf = front.is in
    let most = front.most in
    let b = c.place_of-b.result in
    let isb = c.place_of-b.ensures in
    let n = a.n in
    let frame = a.frame.now in
    let out = a.out.now in
    let u = c.receive-a.new.table in
    let left = c.receive-a.ensures.1 in
    let twelve = eqb-true _ 12 (ap (λ (x : Answer). eqb (answer_number x) 12) (sym c.receive-a.ensures.0) ∙ sym c.is_response.ensures ∙ c.if-not-is_response.false) in
    let back : u ++ drop f m ≡ m = (λ i. (left ∙ response-leaves n frame out m f b isf isb twelve) i ++ drop f m) ∙ take-append-drop f m in
    let found = c.brings.ensures ∙ ap (λ (t : List ℕ). brings_back n (ours (take b t)).system.address frame (ask_at (drop f t) (n - 1))) back in
    let same : length u ≡ length (take f m) = search rules in
    let ours-so = ours-by_request n frame out m f b isf isb twelve _ found ∙ c.if-not-brings.false in
    finished-ours (call.receive n frame out) m f isf front.has u _ _ _ ours-so left (sym (ap (λ (x : Bool). cond x (ended_at Answered (n - 1) (drop f m)) (drop f m)) ours-so))
    (c.end.ensures ∙ (λ i. new-front f m u most same i ++ ended_at Answered (n - 1) (old_tail f m u most same i))) c.receive-a.ensures.2
