-- No call changes the port count of a table: of one size there is one count, so a further start has the same; every other call keeps the header.
-- Assumes nothing.
use Prim.Native.Nat.{ℕ}
use mathlib.Core.Path.{◌≡◌, refl, sym, ap, ◌∙◌}
use mathlib.Core.Bool.{Bool, true, false, false≢true}
use mathlib.Core.List.{List, [], ◌∷◌}
use native.Mathlib.Omega.{arith}
use lib.ListN.{length}
use lib.Dec.{eqb}
use borrow.Author.Tests.{eqb-true}
use Rattle.std.specs.Prelude.{Ok, Err}
use Rattle.octets.specs.Octets.{within}
use Rattle.octets.proofs.RangeLaws.{both}
use Rattle.frame.specs.declared.block.SystemId.{SystemId}
use Rattle.frame.specs.declared.wire.TensOfMicroseconds.{TensOfMicroseconds}
use Rattle.settings.specs.declared.Settings.{Settings}
use Rattle.table.specs.Layout.{most_ports, table_size}
use Rattle.table.specs.Table.{count_in, is_room}
use Rattle.table.proofs.TableLaws.{in_range}
use Rattle.control.specs.Answer.{Answer, with_default}
use Rattle.control.specs.declared.answer.Accepted.TheVariants.{Done}
use Rattle.control.specs.declared.answer.Reason.TheVariants as reason
use Rattle.control.specs.Call.{Call, start, receive, tick, line, configure, fetch, report, aggregator, due, is_start}
use Rattle.control.specs.After.{answer, after}
use Rattle.control.specs.Accepted.{accepted}
use Rattle.control.proofs.CallLaws.{if-accepted, after-accepted, refused-table}
use Rattle.control.proofs.CountLaws.{started-count, after-count}
use Rattle.claims.specs.Run.{run, AllTake}
use Rattle.claims.specs.AtRest.{Sound}
use Rattle.claims.proofs.Calls.{call-sound}

-- ---- a start

-- an accepted one has a port count in range, and memory of its size
pub start-room : (t : List ℕ) (count : ℕ) (system : SystemId) (delay : TensOfMicroseconds) (x : Settings)
    → accepted (answer (start count system delay x) t) ≡ true → (within 1 count most_ports ≡ true) × (length t ≡ table_size count)
unfolding answer
start-room t count system delay x e =
    let r = both (within 1 count most_ports) (eqb (length t) (table_size count)) (if-accepted (is_room t count) (with_default x (Ok Done)) reason.Table e).0 in
    (r.0, eqb-true (length t) (table_size count) r.1)

same_count : (a b : ℕ) → table_size a ≡ table_size b → a ≡ b
same_count a b e = omega arith

accepted-kept : (t : List ℕ) → Sound t → (count : ℕ) (system : SystemId) (delay : TensOfMicroseconds) (x : Settings)
    → accepted (answer (start count system delay x) t) ≡ true → count_in (after (start count system delay x) t) ≡ count_in t
accepted-kept t s count system delay x e =
    ap count_in (after-accepted t (start count system delay x) e) ∙ started-count t count system delay x
    ∙ same_count count (count_in t) (sym (start-room t count system delay x e).1 ∙ (in_range t s.ranged).size)

-- so one that is accepted on a table leaves its count
start-kept : (t : List ℕ) → Sound t → (c : Call) → is_start c ≡ true → (a : Answer) → answer c t ≡ a → count_in (after c t) ≡ count_in t
start-kept t s (start count system delay x) e (Err r) f = ap count_in (refused-table (start count system delay x) t f)
start-kept t s (start count system delay x) e (Ok k) f = accepted-kept t s count system delay x (ap accepted f)
start-kept t s (receive n frame out) e a f = absurd (false≢true e)
start-kept t s tick e a f = absurd (false≢true e)
start-kept t s (line n l) e a f = absurd (false≢true e)
start-kept t s (configure n x) e a f = absurd (false≢true e)
start-kept t s (fetch n out) e a f = absurd (false≢true e)
start-kept t s (report n) e a f = absurd (false≢true e)
start-kept t s (aggregator k) e a f = absurd (false≢true e)
start-kept t s due e a f = absurd (false≢true e)

-- ---- each call

pub call-count : (t : List ℕ) → Sound t → (c : Call) → count_in (after c t) ≡ count_in t
call-count t s c = by (is_start c) refl
  where
    by : (b : Bool) → is_start c ≡ b → count_in (after c t) ≡ count_in t
    by true e = start-kept t s c e (answer c t) refl
    by false e = after-count c e t

pub run-count : (t : List ℕ) → Sound t → (cs : List Call) → AllTake cs → count_in (run t cs) ≡ count_in t
unfolding run
run-count t s [] k = refl
run-count t s (c ∷ cs) k = run-count (after c t) (call-sound t s c k.0) cs k.1 ∙ call-count t s c
