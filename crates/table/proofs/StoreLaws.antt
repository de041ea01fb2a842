-- What a store of a record changes, and what it leaves: the list of records gets the record at its place, and header and size are
-- kept. A store writes a record's octets at `place i`, and every other record and the header lie before or after them. Assumes nothing.
use Prim.Native.Nat.{ℕ, zero, suc, ◌+◌, ◌≤◌, ◌<◌}
use mathlib.Core.Path.{◌≡◌, refl, sym, ap, ◌∙◌}
use mathlib.Core.Logic.{◌≢◌}
use mathlib.Core.Bool.{Bool, true, false}
use mathlib.Core.List.{List}
use native.Mathlib.Omega.{arith}
use lib.ListN.{length, take, drop, get_or, set, length-set}
use lib.Seq.{get_or-set_same, get_or-set_other, ext_get_or}
use lib.Dec.{ltb, eqb}
use borrow.Author.Tests.{ltb-true, ltb-false, eqb-true, eqb-false}
use Rattle.octets.specs.Octets.{put_at}
use Rattle.octets.proofs.Laws.{length-put, put-here, put-after, put-before, spread, spread-part}
use Rattle.port.specs.declared.record.Port.{Port}
use Rattle.port.specs.Absent.{no_port}
use Rattle.table.specs.declared.layout.Header.{Header}
use Rattle.table.specs.Layout.{header_size, record_size, place, header_of}
use Rattle.table.specs.Record.{encoded, decoded}
use Rattle.table.specs.State.{port_in}
use Rattle.table.specs.Table.{count_in, record_at, decoded_at, ports_from, ports, port_at}
use Rattle.table.proofs.RecordLaws.{encoded-length}

-- ---- the octets of a store

module _ (i : ℕ) (s t : List ℕ) (n : length s ≡ record_size) (h : place i + record_size ≤ length t) where
  put-length : length (put_at (place i) s t) ≡ length t
  put-length = length-put (place i) s t (omega arith)

  put-header : header_of (put_at (place i) s t) ≡ header_of t
  put-header =
      let u = put_at (place i) s t in
      let front : spread 0 header_size u ≡ spread 0 header_size t =
      spread-part 0 header_size u (rw put-length (omega arith))
      ∙ put-after 0 header_size (place i) s t (omega arith) (omega arith)
      ∙ sym (spread-part 0 header_size t (omega arith)) in
      ap header_of front

  pub put_same : record_at (put_at (place i) s t) i ≡ s
  unfolding record_at
  put_same = put-here (place i) record_size s t n (omega arith)

  pub put_other : (j : ℕ) → j ≢ i → record_at (put_at (place i) s t) j ≡ record_at t j
  unfolding record_at
  put_other j differ = by (ltb j i) refl
    where
      by : (b : Bool) → ltb j i ≡ b → take record_size (drop (place j) (put_at (place i) s t)) ≡ take record_size (drop (place j) t)
      by true e =
          let less : j < i = ltb-true j i e in
          put-after (place j) record_size (place i) s t (omega arith) (omega arith)
      by false e =
          let least : i ≤ j = ltb-false j i e in
          ap (λ (l : List ℕ). take record_size l) (put-before (place j) (place i) s t (omega arith) (omega arith))

-- ---- the list of records, by index

ports_from-length : (k n : ℕ) (t : List ℕ) → length (ports_from k n t) ≡ n
unfolding ports_from
ports_from-length k zero t = refl
ports_from-length k (suc n) t = ap suc (ports_from-length (k + 1) n t)

ports_from-at : (k n : ℕ) (t : List ℕ) (j : ℕ) (d : Port) → j < n → get_or (ports_from k n t) j d ≡ decoded_at t (k + j)
unfolding ports_from
ports_from-at k zero t j d h = absurd (omega arith)
ports_from-at k (suc n) t zero d h = let e : k ≡ k + zero = omega arith in ap (λ (m : ℕ). decoded_at t m) e
ports_from-at k (suc n) t (suc j) d h =
    let e : k + 1 + j ≡ k + suc j = omega arith in
    ports_from-at (k + 1) n t j d (omega arith) ∙ ap (λ (m : ℕ). decoded_at t m) e

pub ports-length : (t : List ℕ) → length (ports t) ≡ count_in t
unfolding ports
ports-length t = ports_from-length 0 (count_in t) t

pub records-at : (t : List ℕ) (i : ℕ) (d : Port) → i < count_in t → get_or (ports t) i d ≡ decoded_at t i
unfolding ports
records-at t i d h = let e : 0 + i ≡ i = omega arith in ports_from-at 0 (count_in t) t i d h ∙ ap (λ (m : ℕ). decoded_at t m) e

pub port-decoded : (t : List ℕ) (i : ℕ) → i < count_in t → port_at t i ≡ decoded_at t i
unfolding port_in
port-decoded t i h = records-at t i no_port h

pub ports-at : (t : List ℕ) (i : ℕ) (d : Port) → i < count_in t → get_or (ports t) i d ≡ port_at t i
ports-at t i d h = records-at t i d h ∙ sym (port-decoded t i h)

-- ---- a store of a record that its octets give back

module _ (i : ℕ) (p : Port) (t : List ℕ) (h : place i + record_size ≤ length t) where
  pub stored-length : length (put_at (place i) (encoded p) t) ≡ length t
  stored-length = put-length i (encoded p) t (encoded-length p) h

  pub stored-header : header_of (put_at (place i) (encoded p) t) ≡ header_of t
  stored-header = put-header i (encoded p) t (encoded-length p) h

  pub stored-count : count_in (put_at (place i) (encoded p) t) ≡ count_in t
  stored-count = ap (λ (x : Header). x.count) stored-header

  pub stored_same : decoded (encoded p) ≡ p → decoded_at (put_at (place i) (encoded p) t) i ≡ p
  unfolding decoded_at
  stored_same back = ap decoded (put_same i (encoded p) t (encoded-length p) h) ∙ back

  pub stored_other : (j : ℕ) → j ≢ i → decoded_at (put_at (place i) (encoded p) t) j ≡ decoded_at t j
  unfolding decoded_at
  stored_other j differ = ap decoded (put_other i (encoded p) t (encoded-length p) h j differ)

  -- the list of records with p at index i
  pub stored-ports : decoded (encoded p) ≡ p → i < count_in t → ports (put_at (place i) (encoded p) t) ≡ set (ports t) i p
  stored-ports back less =
      let u = put_at (place i) (encoded p) t in
      let size : length (ports u) ≡ length (set (ports t) i p) =
      ports-length u ∙ stored-count ∙ sym (ports-length t) ∙ sym (length-set (ports t) i p) in
      ext_get_or p (ports u) (set (ports t) i p) size (λ j k. at j (eqb j i) refl (rw (ports-length u, stored-count) at k))
    where
      at : (j : ℕ) (b : Bool) → eqb j i ≡ b → j < count_in t
          → get_or (ports (put_at (place i) (encoded p) t)) j p ≡ get_or (set (ports t) i p) j p
      at j true e k =
          let is : j ≡ i = eqb-true j i e in
          records-at (put_at (place i) (encoded p) t) j p (rw stored-count k)
          ∙ ap (λ (m : ℕ). decoded_at (put_at (place i) (encoded p) t) m) is
          ∙ stored_same back
          ∙ sym (get_or-set_same (ports t) i p p (rw ports-length less))
          ∙ ap (λ (m : ℕ). get_or (set (ports t) i p) m p) (sym is)
      at j false e k =
          let differ : j ≢ i = eqb-false j i e in
          records-at (put_at (place i) (encoded p) t) j p (rw stored-count k)
          ∙ stored_other j differ
          ∙ sym (records-at t j p k)
          ∙ sym (get_or-set_other (ports t) i j p p differ)
