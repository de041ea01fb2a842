-- `report_port` meets its contract: the record of the front, and behind it the group or zeros. Assumes nothing.
use Prim.Native.Nat.{ℕ, ◌-◌}
use mathlib.Core.Path.{◌≡◌, refl, sym, ap, ◌∙◌}
use mathlib.Core.List.{List}
use native.Mathlib.Omega.{arith}
use lib.ListN.{length, length-drop}
use lib.Seq.{length-take-le}
use borrow.Rule.Slice.PartMut.{put_mid}
use Rattle.octets.specs.Rows.{row_at}
use Rattle.table.specs.Table.{count_in}
use Rattle.table.specs.Layout.{place}
use Rattle.asks.specs.Group.{group_size}
use Rattle.control.specs.Accepted.{accepted}
use Rattle.whole.proofs.CallLaws.{given_back, taken_back}
use Rattle.asked.proofs.AskedLaws.{found-front, found-none, tail_is}
use Rattle.asked.proofs.AskLaws.{port-there}
use Rattle.asked.proofs.ReportLaws.{report-roomless, reported-short, reported}
use borrow.Author.Rules.{rules}
use Rattle.std.specs.Prelude.{Err}
use Rattle.asked.specs.Layer.{new_layer}
use Rattle.asked.proofs.report_port.Goals as goal

pub returns-in-Err : goal.returns-in-Err
returns-in-Err c =
    let a = c.args in
    let none = found-none new_layer a.table.now (sym c.front_size.ensures.0 ∙ c.in-Err.is) in
    let left = report-roomless a.n a.table.now a.«record».now _ none.0 c.put_fitting.ensures in
    (ap Err none.1 ∙ left.0, left.1)

pub slice_bounds-report_port-end : goal.slice_bounds-report_port-end
slice_bounds-report_port-end c =
    let front = found-front new_layer c.args.table.now (sym c.front_size.ensures.0 ∙ c.in-Ok.is) in
    sym (length-take-le c.in-Ok.f c.args.table.now front.most)

pub returns-then-record-lt-WHOLE_RECORD : goal.returns-then-record-lt-WHOLE_RECORD
returns-then-record-lt-WHOLE_RECORD c =
    let front = found-front new_layer c.args.table.now (sym c.front_size.ensures.0 ∙ c.in-Ok.is) in
    let a = c.args in
    let l = a.«record».now in
    let kept : length c.report_port-a.new.«record» ≡ length l = search rules in
    reported-short a.n a.table.now l front.has c.in-Ok.f front.is _ _ c.report_port-a.ensures.0 c.report_port-a.ensures.1 (let h = c.if-record-lt-WHOLE_RECORD.true in omega (arith, h, kept))

pub overflow_sub-i : goal.overflow_sub-i
overflow_sub-i c =
    let front = found-front new_layer c.args.table.now (sym c.front_size.ensures.0 ∙ c.in-Ok.is) in
    let a = c.args in
    let m = a.table.now in
    let done = sym c.is_ok.ensures.value ∙ c.if-is_ok.true in
    let there = port-there a.n m c.in-Ok.f (place (count_in m)) front.is refl (sym (ap accepted c.report_port-a.ensures.0) ∙ done) in
    there.some

pub group_at-requires : goal.group_at-requires
group_at-requires c =
    let front = found-front new_layer c.args.table.now (sym c.front_size.ensures.0 ∙ c.in-Ok.is) in
    let a = c.args in
    let m = a.table.now in
    let f = c.in-Ok.f in
    let done = sym c.is_ok.ensures.value ∙ c.if-is_ok.true in
    let there = port-there a.n m f (place (count_in m)) front.is refl (sym (ap accepted c.report_port-a.ensures.0) ∙ done) in
    rw (tail_is f m) (let d = length-drop f m in omega (arith, d, front.size, there.some, there.most))

pub returns-then-is_ok : goal.returns-then-is_ok
returns-then-is_ok c =
    let front = found-front new_layer c.args.table.now (sym c.front_size.ensures.0 ∙ c.in-Ok.is) in
    let a = c.args in
    let m = a.table.now in
    let f = c.in-Ok.f in
    let n = a.n in
    let l = a.«record».now in
    let r = c.report_port-a.new.«record» in
    let kept : length r ≡ length l = search rules in
    let done = sym c.is_ok.ensures.value ∙ c.if-is_ok.true in
    reported n m l front.has f front.is _ _ c.report_port-a.ensures.0 c.report_port-a.ensures.1 _ _ (let h = c.if-record-lt-WHOLE_RECORD.false in omega (arith, h, kept)) (ap (λ (x : List ℕ). put_mid 71 (length r - 71) r x) c.put_fitting-then-is_ok.ensures)
    (c.group_at.ensures ∙ ap (λ (x : List ℕ). row_at group_size x (n - 1)) (tail_is f m) ∙ sym (given_back _ _ c.report_port-a.result done))

pub returns : goal.returns
returns c =
    let front = found-front new_layer c.args.table.now (sym c.front_size.ensures.0 ∙ c.in-Ok.is) in
    let a = c.args in
    let l = a.«record».now in
    let r = c.report_port-a.new.«record» in
    let kept : length r ≡ length l = search rules in
    let not_done = sym c.is_ok.ensures.value ∙ c.if-is_ok.false in
    reported a.n a.table.now l front.has c.in-Ok.f front.is _ _ c.report_port-a.ensures.0 c.report_port-a.ensures.1 _ _ (let h = c.if-record-lt-WHOLE_RECORD.false in omega (arith, h, kept)) (ap (λ (x : List ℕ). put_mid 71 (length r - 71) r x) c.put_fitting-2.ensures)
    (sym (taken_back _ _ c.report_port-a.result not_done))
