-- A table in range: a store of a record in range keeps it so, and its header and its list of records fix every octet. Record by record,
-- by the laws of one record. Assumes nothing.
use Prim.Native.Nat.{ℕ, zero, suc, ◌+◌, ◌≤◌, ◌<◌}
use mathlib.Core.Path.{◌≡◌, refl, sym, ap, ◌∙◌}
use mathlib.Core.Bool.{Bool, true, false, ◌&&◌}
use mathlib.Core.List.{List, [], ◌∷◌, ◌++◌}
use native.Mathlib.Omega.{arith}
use lib.ListN.{length, take, drop, get_or, length-drop, take-append-drop, drop_of_length-le}
use lib.Seq.{length-take-le, drop-drop}
use lib.Dec.{leb, eqb}
use borrow.Author.Tests.{leb-true, le-leb, eqb-true, eqb-false, eq-eqb}
use Rattle.octets.specs.Octets.{Octets, put_at, within}
use Rattle.octets.proofs.Laws.{spread-part}
use Rattle.octets.proofs.OctetLists.{take-octets, drop-octets, first_back, second_back}
use Rattle.octets.proofs.RangeLaws.{both, both_true, within-true, within-is}
use Rattle.port.specs.declared.record.Port.{Port}
use Rattle.port.specs.Range.{port_in_range}
use Rattle.table.specs.Layout.{header_size, record_size, most_ports, place, table_size, header_of, header_octets}
use Rattle.table.specs.Record.{encoded}
use Rattle.table.specs.Range.{record_in_range}
use Rattle.table.specs.Table.{count_in, record_at, decoded_at, ports_from, ports, port_at, records_octets, table_octets, first_in_range, table_in_range, InTable, state_of, octets_of}
use Rattle.table.proofs.RecordLaws.{encoded-length, encoded_in_range, decoded_in_range, record_octets-back}
use Rattle.table.proofs.StoreLaws.{put_same, put_other, stored-length, stored-count, port-decoded}

-- ---- the check taken apart, and put together

pub record InRange (t : List ℕ) : Type 0 where
  pub header : header_size ≤ length t
  pub least : 1 ≤ count_in t
  pub most : count_in t ≤ most_ports
  pub size : length t ≡ table_size (count_in t)
  pub records : (i : ℕ) → i < count_in t → record_in_range (count_in t) (record_at t i) ≡ true

first-at : (count n : ℕ) (t : List ℕ) → first_in_range count n t ≡ true → (i : ℕ) → i < n → record_in_range count (record_at t i) ≡ true
unfolding first_in_range
first-at count zero t e i h = absurd (omega arith)
first-at count (suc n) t e i h =
    let parts = both (first_in_range count n t) (record_in_range count (record_at t n)) e in
    by (first-at count n t parts.0 i) parts.1 (eqb i n) refl
  where
    by : (i < n → record_in_range count (record_at t i) ≡ true) → record_in_range count (record_at t n) ≡ true
        → (b : Bool) → eqb i n ≡ b → record_in_range count (record_at t i) ≡ true
    by below here true s = ap (λ (k : ℕ). record_in_range count (record_at t k)) (eqb-true i n s) ∙ here
    by below here false s = let differ : i ≡ n → ⊥ = eqb-false i n s in below (omega arith)

pub first-not : (count n : ℕ) (t : List ℕ) (i : ℕ) → i < n → record_in_range count (record_at t i) ≡ false → first_in_range count n t ≡ false
first-not count n t i h e = by (first_in_range count n t) refl
  where
    by : (b : Bool) → first_in_range count n t ≡ b → b ≡ false
    by true s = sym (first-at count n t s i h) ∙ e
    by false s = refl

first-all : (count n : ℕ) (t : List ℕ) → ((i : ℕ) → i < n → record_in_range count (record_at t i) ≡ true) → first_in_range count n t ≡ true
unfolding first_in_range
first-all count zero t f = refl
first-all count (suc n) t f = both_true (first-all count n t (λ i h. f i (omega arith))) (f n (omega arith))

pub in_range : (t : List ℕ) → table_in_range t ≡ true → InRange t
unfolding table_in_range
in_range t e =
    let c = count_in t in
    let sized = eqb (length t) (table_size c) in
    let filled = first_in_range c c t in
    let e₀ = both (leb header_size (length t)) (within 1 c most_ports && (sized && filled)) e in
    let e₁ = both (within 1 c most_ports) (sized && filled) e₀.1 in
    let e₂ = both sized filled e₁.1 in
    record {
      header = leb-true header_size (length t) e₀.0;
      least = (within-true 1 c most_ports e₁.0).0;
      most = (within-true 1 c most_ports e₁.0).1;
      size = eqb-true (length t) (table_size c) e₂.0;
      records = first-at c c t e₂.1;
    }

pub in_range_is : (t : List ℕ) → InRange t → table_in_range t ≡ true
unfolding table_in_range
in_range_is t r =
    both_true (le-leb header_size (length t) r.header)
    (both_true (within-is 1 (count_in t) most_ports r.least r.most)
    (both_true (eq-eqb (length t) (table_size (count_in t)) r.size) (first-all (count_in t) (count_in t) t r.records)))

pub headed : (t : List ℕ) → table_in_range t ≡ true → header_size ≤ length t
headed t e = (in_range t e).header

-- a record whose number is below the count lies within the table
pub inside : (t : List ℕ) → InRange t → (i : ℕ) → i < count_in t → place i + record_size ≤ length t
inside t r i h = let s : length t ≡ table_size (count_in t) = r.size in omega arith

pub lies : (t : List ℕ) (i : ℕ) → InTable t i → place i + record_size ≤ length t
lies t i at = inside t (in_range t at.0) i at.1

-- a record of a table in range is in range
pub port_in_range_lem : (t : List ℕ) → InRange t → Octets t → (i : ℕ) → i < count_in t → port_in_range (count_in t) (port_at t i) ≡ true
unfolding decoded_at record_at
port_in_range_lem t r o i h =
    ap (port_in_range (count_in t)) (port-decoded t i h)
    ∙ decoded_in_range (count_in t) (take record_size (drop (place i) t))
    (take-octets record_size (drop (place i) t) (drop-octets (place i) t o)) (r.records i h)

pub ranged-at : (t : List ℕ) → table_in_range t ≡ true → Octets t → (i : ℕ) → i < count_in t → port_in_range (count_in t) (port_at t i) ≡ true
ranged-at t e o i h = port_in_range_lem t (in_range t e) o i h

-- ---- a store keeps the range

pub stored_in_range : (i : ℕ) (p : Port) (t : List ℕ) → InRange t → i < count_in t → port_in_range (count_in t) p ≡ true
    → InRange (put_at (place i) (encoded p) t)
stored_in_range i p t r h e =
    record {
      header = rw length-kept r.header;
      least = rw count_kept r.least;
      most = rw count_kept r.most;
      size = rw (length-kept, count_kept) r.size;
      records = λ j k. rw count_kept (at j (eqb j i) refl (rw count_kept at k));
    }
  where
    room : place i + record_size ≤ length t
    room = inside t r i h

    length-kept : length (put_at (place i) (encoded p) t) ≡ length t
    length-kept = stored-length i p t room

    count_kept : count_in (put_at (place i) (encoded p) t) ≡ count_in t
    count_kept = stored-count i p t room

    at : (j : ℕ) (b : Bool) → eqb j i ≡ b → j < count_in t → record_in_range (count_in t) (record_at (put_at (place i) (encoded p) t) j) ≡ true
    at j true s k =
        ap (λ (m : ℕ). record_in_range (count_in t) (record_at (put_at (place i) (encoded p) t) m)) (eqb-true j i s)
        ∙ ap (record_in_range (count_in t)) (put_same i (encoded p) t (encoded-length p) room)
        ∙ encoded_in_range (count_in t) p e
    at j false s k =
        ap (record_in_range (count_in t)) (put_other i (encoded p) t (encoded-length p) room j (eqb-false j i s))
        ∙ r.records j k

-- ---- header and records fix every octet

header_octets-back : (t : List ℕ) → header_size ≤ length t → Octets t → header_octets (header_of t) ≡ take header_size t
header_octets-back t h o =
    let first = first_back t o in
    let second = second_back t o in
    (λ i. get_or t 0 0 ∷ first 1 i ∷ second 1 i ∷ first 3 i ∷ second 3 i ∷ first 5 i ∷ second 5 i ∷ first 7 i ∷ second 7 i ∷ first 9 i ∷ second 9 i ∷ [])
    ∙ spread-part 0 header_size t h

-- one record, and what comes after it
record_at-back : (count i : ℕ) (t : List ℕ) → place i + record_size ≤ length t → Octets t → record_in_range count (record_at t i) ≡ true
    → encoded (decoded_at t i) ≡ record_at t i
unfolding decoded_at record_at
record_at-back count i t h o e =
    record_octets-back count (take record_size (drop (place i) t))
    (length-take-le record_size (drop (place i) t) (simp length-drop (omega arith)))
    (take-octets record_size (drop (place i) t) (drop-octets (place i) t o)) e

record_and-rest : (i : ℕ) (t : List ℕ) → record_at t i ++ drop (place (i + 1)) t ≡ drop (place i) t
unfolding record_at
record_and-rest i t =
    let next : place i + record_size ≡ place (i + 1) = omega arith in
    ap (λ (n : ℕ). take record_size (drop (place i) t) ++ drop n t) (sym next)
    ∙ ap (λ (l : List ℕ). take record_size (drop (place i) t) ++ l) (sym (drop-drop record_size (place i) t))
    ∙ take-append-drop record_size (drop (place i) t)

-- the n records from record k on, up to the table's end
records-back : (count k n : ℕ) (t : List ℕ) → length t ≡ place (k + n) → Octets t
    → ((i : ℕ) → i < k + n → record_in_range count (record_at t i) ≡ true) → records_octets (ports_from k n t) ≡ drop (place k) t
unfolding records_octets ports_from
records-back count k zero t size o f = sym (drop_of_length-le t {i = place k} (omega arith))
records-back count k (suc n) t size o f =
    let this : encoded (decoded_at t k) ≡ record_at t k = record_at-back count k t (omega arith) o (f k (omega arith)) in
    let rest : records_octets (ports_from (k + 1) n t) ≡ drop (place (k + 1)) t =
    records-back count (k + 1) n t (size ∙ ap place (omega arith)) o (λ i h. f i (omega arith)) in
    (λ i. this i ++ rest i) ∙ record_and-rest k t

-- a table in range is what its header and its records are written as
pub table-back : (t : List ℕ) → InRange t → Octets t → table_octets (header_of t) (ports t) ≡ t
unfolding table_octets ports
table-back t r o =
    let size : length t ≡ table_size (count_in t) = r.size in
    (λ i. header_octets-back t r.header o i ++ records-back (count_in t) 0 (count_in t) t (omega arith) o (λ i h. r.records i (omega arith)) i)
    ∙ take-append-drop header_size t

pub octets-back : (t : List ℕ) → table_in_range t ≡ true → Octets t → octets_of (state_of t) ≡ t
octets-back t e o = table-back t (in_range t e) o

-- two tables in range with equal headers and equal records are equal octet for octet
pub tables-equal : (t u : List ℕ) → InRange t → InRange u → Octets t → Octets u → header_of t ≡ header_of u → ports t ≡ ports u → t ≡ u
tables-equal t u r q o v h e = sym (table-back t r o) ∙ (λ i. table_octets (h i) (e i)) ∙ table-back u q v
