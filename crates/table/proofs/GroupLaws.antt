-- A store of some octets of a record: the rest of them tell what they told. One law for every group of fields: octets in range are those of the
-- record that they tell of, so a group that is written over them gives those of the record with that group changed. Assumes nothing.
use Prim.Native.Nat.{ℕ, ◌+◌, ◌≤◌}
use mathlib.Core.Path.{◌≡◌, refl, sym, ap, ◌∙◌}
use mathlib.Core.Bool.{true}
use mathlib.Core.List.{List, ◌++◌, append_assoc}
use native.Mathlib.Omega.{arith}
use lib.Dec.{leb}
use lib.ListN.{length, take, drop, length-drop, take-append-drop}
use lib.Seq.{length-take-le, take-append-le, drop-append-le, drop-drop}
use Rattle.octets.specs.Octets.{Octets, put_at, number_octets}
use Rattle.octets.proofs.Laws.{length-put, put-append}
use Rattle.octets.proofs.OctetLists.{take-octets, drop-octets}
use Rattle.machine.specs.declared.states.Ages.{Ages}
use Rattle.machine.specs.declared.states.Ticks.{Ticks}
use Rattle.machine.specs.declared.states.Timers.{Timers}
use Rattle.machine.specs.Time.{long_timeout_time}
use Rattle.port.specs.declared.record.Port.{Port}
use Rattle.port.specs.Range.{timers_in_range, ages_in_range, port_in_range}
use Rattle.port.specs.Record.{with_timers, with_current, with_ages}
use Rattle.port.proofs.RangeLaws.{ranged, ranged-is, currently_ranged}
use Rattle.table.specs.Layout.{place, record_size}
use Rattle.table.specs.Leaves.{Became}
use Rattle.table.specs.Record.{timers_octets, ages_octets, encoded}
use Rattle.table.specs.Table.{InTable, count_in, record_at, decoded_at, port_at}
use Rattle.table.proofs.LeavesLaws.{stored}
use Rattle.table.proofs.RecordLaws.{record_octets-back}
use Rattle.table.proofs.StoreLaws.{port-decoded}
use Rattle.table.proofs.TableLaws.{in_range, inside, lies, ranged-at}

-- what is written within the front of a list leaves what is behind
put-front : (n : ℕ) (s l rest : List ℕ) → n + length s ≤ length l → put_at n s (l ++ rest) ≡ put_at n s l ++ rest
unfolding put_at
put-front n s l rest h =
    let front : n ≤ length l = omega arith in
    rw (take-append-le n l rest front, drop-append-le (n + length s) l rest h, append_assoc, append_assoc)

-- octets written within record i are written within the octets of the record
put-within : (t : List ℕ) (i n : ℕ) (s : List ℕ) → place i + record_size ≤ length t → n + length s ≤ record_size
    → put_at (place i + n) s t ≡ put_at (place i) (put_at n s (record_at t i)) t
unfolding record_at put_at
put-within t i n s room fits =
    let at = place i in
    let d = drop at t in
    let l = take record_size d in
    let front : length (take at t) ≡ at = length-take-le at t (omega arith) in
    let size : length l ≡ record_size = length-take-le record_size d (simp length-drop (omega arith)) in
    let kept : length (put_at n s l) ≡ record_size = length-put n s l (rw size fits) ∙ size in
    ap (λ (x : List ℕ). put_at (at + n) s x) (sym (take-append-drop at t))
    ∙ ap (λ (k : ℕ). put_at (k + n) s (take at t ++ d)) (sym front)
    ∙ put-append (take at t) d s n
    ∙ ap (λ (x : List ℕ). take at t ++ put_at n s x) (sym (take-append-drop record_size d))
    ∙ ap (λ (x : List ℕ). take at t ++ x) (put-front n s l (drop record_size d) (rw size fits))
    ∙ ap (λ (x : List ℕ). take at t ++ (put_at n s l ++ x)) (drop-drop record_size at t)
    ∙ ap (λ (k : ℕ). take at t ++ (put_at n s l ++ drop (at + k) t)) (sym kept)

-- the octets of a record of a table in range
pub record_is : (t : List ℕ) (i : ℕ) → InTable t i → Octets t → record_at t i ≡ encoded (port_at t i)
unfolding record_at decoded_at
record_is t i at o =
    let r = in_range t at.0 in
    let l = take record_size (drop (place i) t) in
    let room = inside t r i at.1 in
    let size : length l ≡ record_size = length-take-le record_size (drop (place i) t) (simp length-drop (omega arith)) in
    sym (ap encoded (port-decoded t i at.1) ∙ record_octets-back (count_in t) l size (take-octets record_size (drop (place i) t) (drop-octets (place i) t o)) (r.records i at.1))

-- a group of octets s, from octet n on, makes of record i what it makes of the octets of its port
pub group-stored : (t : List ℕ) (i n : ℕ) (s : List ℕ) (q : Port) → InTable t i → Octets t → port_in_range (count_in t) q ≡ true
    → put_at n s (encoded (port_at t i)) ≡ encoded q → Became t (put_at (place i) (put_at n s (record_at t i)) t) i q
group-stored t i n s q at o r e = rw (record_is t i at o, e) (stored t i q at r)

-- and so it does where it is written straight into the table
group-put : (t : List ℕ) (i n : ℕ) (s : List ℕ) (q : Port) → InTable t i → Octets t → n + length s ≤ record_size → port_in_range (count_in t) q ≡ true
    → put_at n s (encoded (port_at t i)) ≡ encoded q → Became t (put_at (place i + n) s t) i q
group-put t i n s q at o fits r e = rw (put-within t i n s (lies t i at) fits) (group-stored t i n s q at o r e)

-- ---- the groups

timers-put : (p : Port) (x : Timers) → put_at 9 (timers_octets x) (encoded p) ≡ encoded (with_timers p x)
unfolding encoded put_at
timers-put p x = refl

current-put : (p : Port) (x : Ticks) → put_at 9 (number_octets x.0) (encoded p) ≡ encoded (with_current p x)
unfolding encoded put_at
current-put p x = refl

ages-put : (p : Port) (x : Ages) → put_at 14 (ages_octets x) (encoded p) ≡ encoded (with_ages p x)
unfolding encoded put_at
ages-put p x = refl

module _ (t : List ℕ) (i : ℕ) (at : InTable t i) (o : Octets t) where
  pub timers-stored : (x : Timers) → timers_in_range x ≡ true → Became t (put_at (place i + 9) (timers_octets x) t) i (with_timers (port_at t i) x)
  timers-stored x h =
      let r = ranged (count_in t) (port_at t i) (ranged-at t at.0 o i at.1) in
      group-put t i 9 (timers_octets x) (with_timers (port_at t i) x) at o (omega arith)
      (ranged-is (count_in t) (with_timers (port_at t i) x) (record { aggregator = r.aggregator; timers = h; ages = r.ages; own = r.own; partner = r.partner }))
      (timers-put (port_at t i) x)

  pub current-stored : (x : Ticks) → leb x.0 long_timeout_time ≡ true → Became t (put_at (place i + 9) (number_octets x.0) t) i (with_current (port_at t i) x)
  current-stored x h =
      let r = ranged (count_in t) (port_at t i) (ranged-at t at.0 o i at.1) in
      group-put t i 9 (number_octets x.0) (with_current (port_at t i) x) at o (omega arith)
      (ranged-is (count_in t) (with_current (port_at t i) x) (record {
        aggregator = r.aggregator;
        timers = currently_ranged x (port_at t i).timers h r.timers;
        ages = r.ages;
        own = r.own;
        partner = r.partner;
      }))
      (current-put (port_at t i) x)

  pub ages-stored : (x : Ages) → ages_in_range x ≡ true → Became t (put_at (place i + 14) (ages_octets x) t) i (with_ages (port_at t i) x)
  ages-stored x h =
      let r = ranged (count_in t) (port_at t i) (ranged-at t at.0 o i at.1) in
      group-put t i 14 (ages_octets x) (with_ages (port_at t i) x) at o (omega arith)
      (ranged-is (count_in t) (with_ages (port_at t i) x) (record { aggregator = r.aggregator; timers = r.timers; ages = h; own = r.own; partner = r.partner }))
      (ages-put (port_at t i) x)
