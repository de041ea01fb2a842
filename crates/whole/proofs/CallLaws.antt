-- What the wrappers rest on: memory with monitors is a table without them and the rest, a call on the first leaves the size and the port count, and so what
-- is put together again is what the definitions say. Assumes nothing.
use Rattle.std.specs.Prelude.{Result, Ok, Err, is_ok, IsErrAnd}
use Prim.Native.Nat.{ℕ, ◌+◌, ◌-◌, ◌≤◌, ◌<◌}
use mathlib.Core.Path.{◌≡◌, refl, sym, ap, ◌∙◌}
use mathlib.Core.Bool.{Bool, true, false, cond, not, ◌&&◌, false≢true, true≢false}
use mathlib.Core.List.{List, ◌++◌, append_assoc, append-nil}
use native.Mathlib.Omega.{arith}
use lib.ListN.{length, take, drop, get_or, replicate, length-append, length-drop, drop_of_length-le}
use lib.Seq.{get_or-take, length-take-le, take_at, drop_at, take_all, take-append-le, take-append-add, drop-drop}
use lib.Dec.{eqb, leb}
use borrow.Author.Tests.{eqb-true, leb-true, leb-false}
use borrow.Rule.Slice.PartMut.{put_mid}
use Rattle.octets.specs.Octets.{within, put_at, fitted}
use Rattle.octets.proofs.Laws.{put-part, fitted-whole}
use Rattle.octets.proofs.RangeLaws.{both, within-true}
use Rattle.frame.specs.declared.block.SystemId.{SystemId}
use Rattle.frame.specs.declared.wire.TensOfMicroseconds.{TensOfMicroseconds}
use Rattle.settings.specs.declared.Settings.{Settings}
use Rattle.table.specs.Layout.{place, most_ports}
use Rattle.table.specs.Table.{count_in, table_in_range}
use Rattle.port.specs.declared.record.Port.{Port}
use Rattle.table.specs.Record.{encoded}
use Rattle.table.proofs.RecordLaws.{encoded-length}
use Rattle.table.proofs.RuleLaws.{absent_zeros}
use Rattle.churn.specs.Group.{group_size}
use Rattle.churn.specs.Whole.{whole_size, base_of, group_at, groups_in_range, has_monitors}
use Rattle.churn.proofs.WholeLaws.{base-count}
use Rattle.control.specs.declared.answer.Accepted.TheVariants.{Done}
use Rattle.control.specs.declared.answer.Reason.{Reason}
use Rattle.control.specs.declared.answer.Reason.TheVariants as reason
use Rattle.control.specs.Accepted.{accepted}
use Rattle.control.specs.Answer.{Answer, is_number, on_port}
use Rattle.control.specs.Call.{Call, start, report, is_start}
use Rattle.control.specs.After.{answer, unless, after, buffer_of, outgoing}
use Rattle.control.specs.Report.{port_report}
use Rattle.control.proofs.RuleLaws.{refused-port}
use Rattle.control.proofs.CallLaws.{after-accepted, passed-up}
use Rattle.control.proofs.CountLaws.{after-count, started-count}
use Rattle.whole.specs.Calls.{count_for, base_for, rest_for, is_whole_room, has_room, base_found, settles, stage_of, watched_if, whole_answer, whole_after, whole_outgoing}
use Rattle.whole.specs.Meets.{Meets, MeetsOut, MeetsPort}
use Rattle.whole.specs.Report.{whole_record_size, whole_record}

-- ---- sizes

pub whole-size : (w : List ℕ) → has_monitors w ≡ true → length w ≡ whole_size (count_in w)
unfolding has_monitors
whole-size w e = eqb-true (length w) (whole_size (count_in w)) (both (eqb (length w) (whole_size (count_in w))) (groups_in_range (count_in w) w) e).0

-- ---- what the first test finds: the octets of the table without monitors, or answer 1

pub record Base (w : List ℕ) (b : ℕ) : Type 0 where
  pub has : has_monitors w ≡ true
  pub is : b ≡ place (count_in w)
  pub most : b ≤ length w

at : Result ℕ Reason → ℕ
at (Ok b) = b
at (Err r) = 0

why : Result ℕ Reason → Reason
why (Ok b) = reason.Table
why (Err r) = r

pub found-base : (w : List ℕ) {b : ℕ} → base_found w ≡ Ok b → Base w b
unfolding base_found at
found-base w {b} e = by (has_monitors w) refl e
  where
    by : (x : Bool) → has_monitors w ≡ x → cond x (Ok (place (count_in w))) (Err reason.Table) ≡ Ok b → Base w b
    by true has h =
        let size = whole-size w has in
        let is : b ≡ place (count_in w) = sym (ap at h) in
        record { has = has; is = is; most = omega (arith, size, is) }
    by false none h = absurd (false≢true (ap is_ok h))

pub found-none : (w : List ℕ) {r : Reason} → base_found w ≡ Err r → (has_monitors w ≡ false) × (r ≡ reason.Table)
unfolding base_found why
found-none w {r} e = by (has_monitors w) refl e
  where
    by : (x : Bool) → has_monitors w ≡ x → cond x (Ok (place (count_in w))) (Err reason.Table) ≡ Err r → (has_monitors w ≡ false) × (r ≡ reason.Table)
    by true has h = absurd (true≢false (ap is_ok h))
    by false none h = (none, sym (ap why h))

-- the count is the front's
pub front-count : (u v : List ℕ) → 1 ≤ length u → count_in (u ++ v) ≡ count_in u
front-count u v h = sym (get_or-take (length u) (u ++ v) 0 0 h) ∙ ap (λ (l : List ℕ). get_or l 0 0) (take_at u v (length u) refl)

-- a table of the same size and count with the rest behind it has the size of the whole
pub joined-size : (w u : List ℕ) (count : ℕ) → length w ≡ whole_size count → length u ≡ place count → count_in u ≡ count
    → length (u ++ drop (place count) w) ≡ whole_size (count_in (u ++ drop (place count) w))
joined-size w u count size same kept =
    let d = length-drop (place count) w in
    let is : count_in (u ++ drop (place count) w) ≡ count = front-count u (drop (place count) w) (omega (arith, same)) ∙ kept in
    let whole : length (u ++ drop (place count) w) ≡ whole_size count = length-append u (drop (place count) w) ∙ omega (arith, d, size, same) in
    whole ∙ ap whole_size (sym is)

-- ---- a call that finds its room, and one that does not

module _ (c : Call) (w : List ℕ) where
  pub roomless : has_room c w ≡ false → Meets c w (Err reason.Table) w
  unfolding whole_answer whole_after
  roomless e = (rw e, rw e)

  pub roomless-out : has_room c w ≡ false → MeetsOut c w (Err reason.Table) w (buffer_of c)
  unfolding whole_answer whole_after whole_outgoing
  roomless-out e = (rw e, rw e, rw e)

  -- answer 1 goes up by `?`
  pub unfound : {r : Reason} (a : Answer) → has_room c w ≡ has_monitors w → base_found w ≡ Err r → IsErrAnd a (λ s. s ≡ r) → Meets c w a w
  unfound a plain e up =
      let none = found-none w e in
      let lost = roomless (plain ∙ none.0) in
      (passed-up a up ∙ ap Err none.1 ∙ lost.0, lost.1)

  pub unfound-out : {r : Reason} (a : Answer) → has_room c w ≡ has_monitors w → base_found w ≡ Err r → IsErrAnd a (λ s. s ≡ r) → MeetsOut c w a w (buffer_of c)
  unfound-out a plain e up =
      let none = found-none w e in
      let lost = roomless-out (plain ∙ none.0) in
      (passed-up a up ∙ ap Err none.1 ∙ lost.0, lost.1, lost.2)

  pub roomy : (a : Answer) (u : List ℕ) → has_room c w ≡ true → a ≡ answer c (base_for c w)
      → u ≡ watched_if (settles c (base_for c w) a) (stage_of c) (after c (base_for c w) ++ rest_for c w) → Meets c w a u
  unfolding whole_answer whole_after
  roomy a u e told left =
      (told ∙ rw e, left ∙ ap (λ (b : Answer). watched_if (settles c (base_for c w) b) (stage_of c) (after c (base_for c w) ++ rest_for c w)) told ∙ rw e)

  pub roomy-out : (a : Answer) (u o : List ℕ) → has_room c w ≡ true → a ≡ answer c (base_for c w)
      → u ≡ watched_if (settles c (base_for c w) a) (stage_of c) (after c (base_for c w) ++ rest_for c w) → o ≡ outgoing c (base_for c w) → MeetsOut c w a u o
  unfolding whole_outgoing
  roomy-out a u o e told left sent = let m = roomy a u e told left in (m.0, m.1, sent ∙ rw e)

-- ---- what a wrapper has in hand: the base's call on the first b octets, and the machines then, or not

module _ (c : Call) (w : List ℕ) (b : ℕ) (is : b ≡ place (count_for c w)) where
  pub finished : (a : Answer) (u v : List ℕ) (s : Bool) → has_room c w ≡ true → a ≡ answer c (take b w) → u ≡ after c (take b w)
      → s ≡ settles c (base_for c w) a → v ≡ watched_if s (stage_of c) (u ++ drop b w) → Meets c w a v
  finished a u v s e told left ran watched =
      roomy c w a v e (told ∙ ap (λ (k : ℕ). answer c (take k w)) is)
      (watched ∙ (λ i. watched_if (ran i) (stage_of c) (left i ++ drop b w))
      ∙ ap (λ (k : ℕ). watched_if (settles c (base_for c w) a) (stage_of c) (after c (take k w) ++ drop k w)) is)

  pub finished-out : (a : Answer) (u v o : List ℕ) (s : Bool) → has_room c w ≡ true → a ≡ answer c (take b w) → u ≡ after c (take b w)
      → o ≡ outgoing c (take b w) → s ≡ settles c (base_for c w) a → v ≡ watched_if s (stage_of c) (u ++ drop b w) → MeetsOut c w a v o
  finished-out a u v o s e told left sent ran watched =
      let m = finished a u v s e told left ran watched in
      let sent-as = sent ∙ ap (λ (k : ℕ). outgoing c (take k w)) is in
      roomy-out_of m sent-as e
    where
      roomy-out_of : Meets c w a v → o ≡ outgoing c (base_for c w) → has_room c w ≡ true → MeetsOut c w a v o
      roomy-out_of m x f = unfold whole_outgoing in (m.0, m.1, x ∙ rw f)

-- the size behind a call that is no start
pub rejoined : (c : Call) → is_start c ≡ false → (w : List ℕ) → has_monitors w ≡ true → (b : ℕ) → b ≡ place (count_in w) → (u : List ℕ)
    → length u ≡ length (take b w) → u ≡ after c (take b w) → length (u ++ drop b w) ≡ whole_size (count_in (u ++ drop b w))
rejoined c s w has b is u same left =
    let size = whole-size w has in
    let n : ℕ = place (count_in w) in
    let most : n ≤ length w = omega (arith, size) in
    let whole : length u ≡ n = same ∙ ap (λ (k : ℕ). length (take k w)) is ∙ length-take-le n w most in
    let kept : count_in u ≡ count_in w =
    ap count_in (left ∙ ap (λ (k : ℕ). after c (take k w)) is) ∙ after-count c s (take n w) ∙ get_or-take n w 0 0 (omega arith) in
    ap (λ (k : ℕ). length (u ++ drop k w)) is ∙ joined-size w u (count_in w) size whole kept ∙ ap (λ (k : ℕ). whole_size (count_in (u ++ drop k w))) (sym is)

-- ---- values as they are

-- whether there is such a port does not matter to a call that is refused then
pub same-settles : (a : Answer) (r s : Bool) → (accepted a ≡ true → r ≡ s) → accepted a && not r ≡ accepted a && not s
same-settles (Ok a) r s f = ap not (f refl)
same-settles (Err x) r s f = refl

-- an accepted call on a port has one
pub accepted-number : (t : List ℕ) (n : ℕ) (rest : Answer) → accepted (on_port t n rest) ≡ true → is_number t n ≡ true
accepted-number t n rest e = by (table_in_range t) (is_number t n) e
  where
    by : (x y : Bool) → accepted (cond x (cond y rest (Err reason.Number)) (Err reason.Table)) ≡ true → y ≡ true
    by true true f = refl
    by true false f = absurd (false≢true f)
    by false y f = absurd (false≢true f)

-- ---- a start

pub room-size : (w : List ℕ) (count : ℕ) → is_whole_room w count ≡ true → length w ≡ whole_size count
room-size w count e = eqb-true (length w) (whole_size count) (both (within 1 count most_ports) (eqb (length w) (whole_size count)) e).1

pub room-few : (w : List ℕ) (count : ℕ) → is_whole_room w count ≡ true → count ≤ 32
room-few w count e = (within-true 1 count most_ports (both (within 1 count most_ports) (eqb (length w) (whole_size count)) e).0).1

pub restarted : (count : ℕ) (system : SystemId) (delay : TensOfMicroseconds) (x : Settings) (w : List ℕ) → is_whole_room w count ≡ true → (b : ℕ) → b ≡ place count
    → (u : List ℕ) → length u ≡ length (take b w) → u ≡ after (start count system delay x) (take b w)
    → accepted (answer (start count system delay x) (take b w)) ≡ true → length (u ++ drop b w) ≡ whole_size (count_in (u ++ drop b w))
restarted count system delay x w has b is u same left done =
    let c = start count system delay x in
    let size = room-size w count has in
    let n : ℕ = place count in
    let most : n ≤ length w = omega (arith, size) in
    let whole : length u ≡ n = same ∙ ap (λ (k : ℕ). length (take k w)) is ∙ length-take-le n w most in
    let kept : count_in u ≡ count = ap count_in (left ∙ after-accepted (take b w) c done) ∙ started-count (take b w) count system delay x in
    ap (λ (k : ℕ). length (u ++ drop k w)) is ∙ joined-size w u count size whole kept ∙ ap (λ (k : ℕ). whole_size (count_in (u ++ drop k w))) (sym is)

-- the first octets are as many as a table without monitors has
pub base-whole : (w : List ℕ) (b : ℕ) → b ≡ place (count_in w) → b ≤ length w → length (take b w) ≡ place (count_in (take b w))
base-whole w b is most =
    length-take-le b w most ∙ is ∙ ap place (sym (get_or-take b w 0 0 (omega (arith, is))))

-- ---- the port report

-- what fits of two pieces: of the first alone, or all of it and what fits of the second behind it
pub fitted_short : (s u m : List ℕ) → length m ≤ length s → fitted (s ++ u) m ≡ fitted s m
unfolding fitted
fitted_short s u m h =
    let l = length-append s u in
    (λ i. take-append-le (length m) s u h i ++ drop_of_length-le m {i = length (s ++ u)} (omega (arith, h, l)) i) ∙ sym (ap (λ (x : List ℕ). take (length m) s ++ x) (drop_of_length-le m {i = length s} h))

pub fitted-append : (s u m : List ℕ) → length s ≤ length m → fitted (s ++ u) m ≡ s ++ fitted u (drop (length s) m)
unfolding fitted
fitted-append s u m h =
    let d = length-drop (length s) m in
    let k : length m ≡ length s + length (drop (length s) m) = omega (arith, d, h) in
    (λ i. (ap (λ (n : ℕ). take n (s ++ u)) k ∙ take-append-add s u (length (drop (length s) m))) i
    ++ (ap (λ (n : ℕ). drop n m) (length-append s u) ∙ sym (drop-drop (length u) (length s) m)) i)
    ∙ append_assoc s (take (length (drop (length s) m)) u) (drop (length u) (drop (length s) m))

-- a part up to the end that comes back as x
pub back_as : (n : ℕ) (r x : List ℕ) → n ≤ length r → length x ≡ length r - n → put_mid n (length r - n) r x ≡ take n r ++ x
unfolding put_at
back_as n r x h e =
    put-part n (length r) x r (omega (arith, h, e))
    ∙ ap (λ (l : List ℕ). take n r ++ l) (ap (λ (l : List ℕ). x ++ l) (drop_of_length-le r {i = n + length x} (omega (arith, h, e))) ∙ append-nil x)

-- behind the first piece, as much of the second as fits
pub report-behind : (s u m r : List ℕ) → r ≡ fitted s m → length s ≤ length m
    → put_mid (length s) (length r - length s) r (fitted u (take (length r - length s) (drop (length s) r))) ≡ fitted (s ++ u) m
unfolding fitted
report-behind s u m r is h =
    let n : ℕ = length s in
    let all : r ≡ s ++ drop n m = is ∙ ap (λ (x : List ℕ). x ++ drop n m) (take_all (length m) s h) in
    let size : length r ≡ length m = ap length all ∙ length-append s (drop n m) ∙ (let d = length-drop n m in omega (arith, d, h)) in
    let rest : drop n r ≡ drop n m = ap (λ (x : List ℕ). drop n x) all ∙ drop_at s (drop n m) n refl in
    let part : take (length r - n) (drop n r) ≡ drop n m =
    (let d = length-drop n r in take_all (length r - n) (drop n r) (omega (arith, d))) ∙ rest in
    let x : List ℕ = fitted u (drop n m) in
    let x-size : length x ≡ length r - n = fitted-size u (drop n m) ∙ (let d = length-drop n m in omega (arith, d, size)) in
    ap (λ (l : List ℕ). put_mid n (length r - n) r (fitted u l)) part
    ∙ back_as n r x (omega (arith, size, h)) x-size
    ∙ ap (λ (l : List ℕ). l ++ x) (ap (λ (y : List ℕ). take n y) all ∙ take_at s (drop n m) n refl)
    ∙ sym (fitted-append s u m h)
  where
    fitted-size : (a d : List ℕ) → length (fitted a d) ≡ length d
    fitted-size a d = by (leb (length a) (length d)) refl
      where
        by : (b : Bool) → leb (length a) (length d) ≡ b → length (fitted a d) ≡ length d
        by true e =
            let le = leb-true (length a) (length d) e in
            let k = length-drop (length a) d in
            ap length (sym (fitted-whole a d le)) ∙ length-append (take (length a) a) (drop (length a) d)
            ∙ (let t : length (take (length a) a) ≡ length a = length-take-le (length a) a (omega arith) in omega (arith, t, k, le))
        by false e =
            let lt = leb-false (length a) (length d) e in
            length-append (take (length d) a) (drop (length a) d)
            ∙ (let t : length (take (length d) a) ≡ length d = length-take-le (length d) a (omega (arith, lt)) in
            let k = length-drop (length a) d in omega (arith, t, k, lt))

-- a record with its monitors is the record, and the monitors, or zeros
pub record_parts : (n : ℕ) (w : List ℕ) → has_monitors w ≡ true
    → whole_record n w ≡ encoded (port_report n (base_of w)) ++ unless (answer (report n) (base_of w)) (replicate group_size 0) (group_at w (n - 1))
unfolding whole_record whole_answer base_of
record_parts n w e = rw e (by (answer (report n) (take (place (count_in w)) w)) refl)
  where
    by : (a : Answer) → answer (report n) (take (place (count_in w)) w) ≡ a
        → unless a (replicate whole_record_size 0) (encoded (port_report n (take (place (count_in w)) w)) ++ group_at w (n - 1))
        ≡ encoded (port_report n (take (place (count_in w)) w)) ++ unless a (replicate group_size 0) (group_at w (n - 1))
    by (Ok a) f = refl
    by (Err r) f =
        let none = refused-port (take (place (count_in w)) w) n r f in
        sym (ap (λ (p : Port). encoded p ++ replicate group_size 0) none ∙ ap (λ (l : List ℕ). l ++ replicate group_size 0) absent_zeros)

-- what the wrapper of the report has in hand
module _ (n : ℕ) (w m : List ℕ) (has : has_monitors w ≡ true) (b : ℕ) (is : b ≡ place (count_in w)) (a : Answer) (r : List ℕ) (told : a ≡ answer (report n) (take b w))
    (first : r ≡ fitted (encoded (port_report n (take b w))) m) where
  told-whole : a ≡ whole_answer (report n) w
  unfolding whole_answer
  told-whole = told ∙ ap (λ (k : ℕ). answer (report n) (take k w)) is ∙ rw has

  told-base : a ≡ answer (report n) (base_of w)
  unfolding base_of
  told-base = told ∙ ap (λ (k : ℕ). answer (report n) (take k w)) is

  first-base : r ≡ fitted (encoded (port_report n (base_of w))) m
  unfolding base_of
  first-base = first ∙ ap (λ (k : ℕ). fitted (encoded (port_report n (take k w))) m) is

  behind : List ℕ
  behind = unless (answer (report n) (base_of w)) (replicate group_size 0) (group_at w (n - 1))

  pub reported-short : length m < 57 → MeetsPort n w m a r
  unfolding behind
  reported-short h = (
    told-whole,
    first-base ∙ sym (ap (λ (l : List ℕ). fitted l m) (record_parts n w has)
        ∙ fitted_short (encoded (port_report n (base_of w))) behind m (let l = encoded-length (port_report n (base_of w)) in omega (arith, l, h))),
  )

  pub reported : (v g : List ℕ) → 57 ≤ length m → v ≡ put_mid 57 (length r - 57) r (fitted g (take (length r - 57) (drop 57 r)))
      → g ≡ unless a (replicate group_size 0) (group_at w (n - 1)) → MeetsPort n w m a v
  unfolding behind
  reported v g h left group =
      let s = encoded (port_report n (base_of w)) in
      let l : length s ≡ 57 = encoded-length (port_report n (base_of w)) in
      let same : g ≡ behind = group ∙ ap (λ (x : Answer). unless x (replicate group_size 0) (group_at w (n - 1))) told-base in (
        told-whole,
        left ∙ ap (λ (k : ℕ). put_mid k (length r - k) r (fitted g (take (length r - k) (drop k r)))) (sym l)
            ∙ report-behind s g m r first-base (omega (arith, l, h))
            ∙ ap (λ (x : List ℕ). fitted (s ++ x) m) same ∙ sym (ap (λ (x : List ℕ). fitted x m) (record_parts n w has)),
      )

pub report-roomless : (n : ℕ) (w m r : List ℕ) → has_monitors w ≡ false → r ≡ fitted (replicate whole_record_size 0) m → MeetsPort n w m (Err reason.Table) r
unfolding whole_answer whole_record
report-roomless n w m r e left = (rw e, left ∙ rw e)

-- a port that is reported has its group
pub group-there : (n : ℕ) (w : List ℕ) → has_monitors w ≡ true → accepted (answer (report n) (take (place (count_in w)) w)) ≡ true → (1 ≤ n) × (n ≤ count_in w)
unfolding answer base_of
group-there n w has e =
    let h = within-true 1 n (count_in (base_of w)) (accepted-number (base_of w) n (Ok Done) e) in
    (h.0, rw (base-count w) at h.1)

pub given_back : {A : Type 0} (x y : A) (a : Answer) → accepted a ≡ true → unless a x y ≡ y
given_back x y (Ok a) e = refl
given_back x y (Err r) e = absurd (false≢true e)

pub taken_back : {A : Type 0} (x y : A) (a : Answer) → accepted a ≡ false → unless a x y ≡ x
taken_back x y (Ok a) e = absurd (false≢true (sym e))
taken_back x y (Err r) e = refl
