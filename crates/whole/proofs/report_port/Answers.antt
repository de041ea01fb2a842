-- `report_port` meets its contract: the record where it lies, and behind it the monitors, as far as they fit. Assumes nothing.
use Prim.Native.Nat.{ℕ, ◌-◌}
use mathlib.Core.Path.{◌≡◌, sym, ap, ◌∙◌}
use mathlib.Core.List.{List}
use native.Mathlib.Omega.{arith}
use lib.ListN.{length, take}
use lib.Seq.{length-take-le}
use borrow.Rule.Slice.PartMut.{put_mid}
use Rattle.control.specs.Accepted.{accepted}
use Rattle.control.specs.After.{answer}
use Rattle.control.specs.Call.{report}
use Rattle.whole.proofs.CallLaws.{found-base, found-none, whole-size, reported-short, reported, report-roomless, group-there, given_back, taken_back}
use borrow.Author.Rules.{rules}
use Rattle.std.specs.Prelude.{Err}
use Rattle.whole.proofs.report_port.Goals as goal

pub returns-in-Err : goal.returns-in-Err
returns-in-Err c =
    let a = c.args in
    let none = found-none a.table.now (sym c.base_size.ensures.0 ∙ c.in-Err.is) in
    let left = report-roomless a.n a.table.now a.«record».now _ none.0 c.put_fitting.ensures in
    (ap Err none.1 ∙ left.0, left.1)

pub slice_bounds-report_port-end : goal.slice_bounds-report_port-end
slice_bounds-report_port-end c =
    let base = found-base c.args.table.now (sym c.base_size.ensures.0 ∙ c.in-Ok.is) in
    sym (length-take-le c.in-Ok.b c.args.table.now base.most)

pub returns-then-record-lt-RECORD : goal.returns-then-record-lt-RECORD
returns-then-record-lt-RECORD c =
    let base = found-base c.args.table.now (sym c.base_size.ensures.0 ∙ c.in-Ok.is) in
    let a = c.args in
    let kept : length c.report_port-a.new.«record» ≡ length a.«record».now = search rules in
    reported-short a.n a.table.now a.«record».now base.has c.in-Ok.b base.is c.report_port-a.result c.report_port-a.new.«record» c.report_port-a.ensures.0 c.report_port-a.ensures.1 (omega (arith, c.if-record-lt-RECORD.true, kept))

pub overflow_sub-i : goal.overflow_sub-i
overflow_sub-i c =
    let base = found-base c.args.table.now (sym c.base_size.ensures.0 ∙ c.in-Ok.is) in
    let t = c.args.table.now in
    let there = group-there c.args.n t base.has (ap (λ (k : ℕ). accepted (answer (report c.args.n) (take k t))) (sym base.is) ∙ ap accepted (sym c.report_port-a.ensures.0) ∙ sym c.is_ok.ensures.value ∙ c.if-is_ok.true) in
    there.0

pub group_at-requires : goal.group_at-requires
group_at-requires c =
    let base = found-base c.args.table.now (sym c.base_size.ensures.0 ∙ c.in-Ok.is) in
    let t = c.args.table.now in
    let there = group-there c.args.n t base.has (ap (λ (k : ℕ). accepted (answer (report c.args.n) (take k t))) (sym base.is) ∙ ap accepted (sym c.report_port-a.ensures.0) ∙ sym c.is_ok.ensures.value ∙ c.if-is_ok.true) in
    let size = whole-size t base.has in
    omega (arith, size, there.0, there.1)

pub returns-then-is_ok : goal.returns-then-is_ok
returns-then-is_ok c =
    let base = found-base c.args.table.now (sym c.base_size.ensures.0 ∙ c.in-Ok.is) in
    let a = c.args in
    let kept : length c.report_port-a.new.«record» ≡ length a.«record».now = search rules in
    reported a.n a.table.now a.«record».now base.has c.in-Ok.b base.is c.report_port-a.result c.report_port-a.new.«record» c.report_port-a.ensures.0 c.report_port-a.ensures.1 _ _ (omega (arith, c.if-record-lt-RECORD.false, kept)) (ap (λ (l : List ℕ). put_mid 57 (length c.report_port-a.new.«record» - 57) c.report_port-a.new.«record» l) c.put_fitting-then-is_ok.ensures) (c.group_at.ensures ∙ sym (given_back _ _ c.report_port-a.result (sym c.is_ok.ensures.value ∙ c.if-is_ok.true)))

pub returns : goal.returns
returns c =
    let base = found-base c.args.table.now (sym c.base_size.ensures.0 ∙ c.in-Ok.is) in
    let a = c.args in
    let kept : length c.report_port-a.new.«record» ≡ length a.«record».now = search rules in
    reported a.n a.table.now a.«record».now base.has c.in-Ok.b base.is c.report_port-a.result c.report_port-a.new.«record» c.report_port-a.ensures.0 c.report_port-a.ensures.1 _ _ (omega (arith, c.if-record-lt-RECORD.false, kept)) (ap (λ (l : List ℕ). put_mid 57 (length c.report_port-a.new.«record» - 57) c.report_port-a.new.«record» l) c.put_fitting-2.ensures) (sym (taken_back _ _ c.report_port-a.result (sym c.is_ok.ensures.value ∙ c.if-is_ok.false)))
