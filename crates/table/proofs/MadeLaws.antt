-- The octets of a header and of records in range are a table in range, which gives both back; and writing header and records one after the other into memory of any content makes them. Assumes nothing.
use Prim.Native.Nat.{ℕ, zero, suc, ◌+◌, ◌*◌, ◌≤◌, ◌<◌}
use mathlib.Core.Path.{◌≡◌, refl, sym, ap, ◌∙◌}
use mathlib.Core.Bool.{true, ◌&&◌}
use mathlib.Core.List.{List, [], ◌∷◌, ◌++◌, append_assoc, append-nil}
use native.Mathlib.Omega.{arith}
use lib.ListN.{length, take, drop, get_or, length-append, drop_of_length-le}
use lib.Dec.{eqb}
use borrow.Author.Tests.{eqb-true}
use lib.Seq.{take_at, drop-nil, drop-drop, drop-append-add, drop-cons, ext_get_or}
use Rattle.octets.specs.Octets.{Octets, put_at, number_octets, fits, within}
use Rattle.octets.proofs.Laws.{number-back, over-put, put-append}
use Rattle.octets.proofs.OctetLists.{octets_of_lem, append-octets}
use Rattle.octets.proofs.RangeLaws.{both, both_true, number_fits, number-octets, within-true}
use Rattle.frame.proofs.RangeLaws.{address-fits, address-octets}
use Rattle.port.specs.declared.record.Port.{Port}
use Rattle.port.specs.Range.{port_in_range, ports_in_range}
use Rattle.table.specs.declared.layout.Header.{Header}
use Rattle.table.specs.Layout.{header_size, record_size, most_ports, place, table_size, header_of, header_octets}
use Rattle.table.specs.Record.{encoded, decoded}
use Rattle.table.specs.Range.{record_in_range, header_fits}
use Rattle.frame.specs.Block.{address_fits, address_octets}
use Rattle.table.specs.State.{State, state_in_range}
use Rattle.table.specs.Table.{count_in, record_at, decoded_at, ports, records_octets, table_octets, table_in_range, state_of, octets_of}
use Rattle.table.proofs.RecordLaws.{encoded-length, port-back, encoded_in_range, encoded-octets}
use Rattle.table.proofs.StoreLaws.{ports-length, records-at, ports-at}
use Rattle.table.proofs.TableLaws.{InRange, in_range_is, port_in_range_lem}

-- ---- lists of records in range

pub ports-ranged-at : (count : ℕ) (ps : List Port) → ports_in_range count ps ≡ true → (i : ℕ) (d : Port) → i < length ps → port_in_range count (get_or ps i d) ≡ true
unfolding ports_in_range
ports-ranged-at count [] e i d h = absurd (omega arith)
ports-ranged-at count (p ∷ ps) e zero d h = (both (port_in_range count p) (ports_in_range count ps) e).0
ports-ranged-at count (p ∷ ps) e (suc i) d h = ports-ranged-at count ps (both (port_in_range count p) (ports_in_range count ps) e).1 i d (omega arith)

pub ports-ranged : (count : ℕ) (ps : List Port) (d : Port) → ((i : ℕ) → i < length ps → port_in_range count (get_or ps i d) ≡ true) → ports_in_range count ps ≡ true
unfolding ports_in_range
ports-ranged count [] d f = refl
ports-ranged count (p ∷ ps) d f = both_true (f 0 (omega arith)) (ports-ranged count ps d (λ i h. f (suc i) (omega arith)))

-- the records of a table in range
pub table-ports-ranged : (t : List ℕ) → InRange t → Octets t → ports_in_range (count_in t) (ports t) ≡ true
table-ports-ranged t r o =
    ports-ranged (count_in t) (ports t) (decoded [])
    (λ i h. let k : i < count_in t = rw ports-length at h in
    ap (port_in_range (count_in t)) (ports-at t i (decoded []) k) ∙ port_in_range_lem t r o i k)

-- ---- the octets of a header and of records

records-length : (ps : List Port) → length (records_octets ps) ≡ record_size * length ps
unfolding records_octets
records-length [] = omega arith
records-length (p ∷ ps) =
    let one : length (encoded p) ≡ record_size = encoded-length p in
    let rest : length (records_octets ps) ≡ record_size * length ps = records-length ps in
    length-append (encoded p) (records_octets ps) ∙ omega arith

records-drop : (i : ℕ) (ps : List Port) → drop (record_size * i) (records_octets ps) ≡ records_octets (drop i ps)
unfolding records_octets
records-drop zero ps = let none : record_size * zero ≡ 0 = omega arith in ap (λ (n : ℕ). drop n (records_octets ps)) none
records-drop (suc i) [] = drop-nil (record_size * suc i)
records-drop (suc i) (p ∷ ps) =
    let one : length (encoded p) ≡ record_size = encoded-length p in
    let far : record_size * suc i ≡ length (encoded p) + record_size * i = omega arith in
    ap (λ (n : ℕ). drop n (encoded p ++ records_octets ps)) far
    ∙ drop-append-add (encoded p) (records_octets ps) (record_size * i)
    ∙ records-drop i ps

records-octets : (count : ℕ) (ps : List Port) → count < 256 → ports_in_range count ps ≡ true → Octets (records_octets ps)
unfolding records_octets ports_in_range
records-octets count [] h e = octets_of_lem [] tt
records-octets count (p ∷ ps) h e =
    let e₀ = both (port_in_range count p) (ports_in_range count ps) e in
    append-octets (encoded p) (records_octets ps) (encoded-octets count p h e₀.0) (records-octets count ps h e₀.1)

header-octets : (h : Header) → header_fits h ≡ true → h.count < 256 → Octets (header_octets h)
unfolding header_fits
header-octets h e k =
    let l₁ = address_octets h.system.address ++ number_octets h.delay.0 in
    let l₀ = number_octets h.system.priority ++ l₁ in
    let e₀ = both (fits h.system.priority) (address_fits h.system.address && fits h.delay.0) e in
    let e₁ = both (address_fits h.system.address) (fits h.delay.0) e₀.1 in
    append-octets (h.count ∷ []) l₀ (octets_of_lem (h.count ∷ []) (k, tt))
    (append-octets (number_octets h.system.priority) l₁ (number-octets h.system.priority e₀.0)
    (append-octets (address_octets h.system.address) (number_octets h.delay.0)
    (address-octets h.system.address e₁.0) (number-octets h.delay.0 e₁.1)))

-- the numbers of a header that was read from octets fit theirs
pub header-fits : (t : List ℕ) → Octets t → header_fits (header_of t) ≡ true
unfolding header_fits
header-fits t o = both_true (number_fits t o 1) (both_true (address-fits t o 3) (number_fits t o 9))

records-more : (ps : List Port) (p : Port) → records_octets ps ++ encoded p ≡ records_octets (ps ++ (p ∷ []))
unfolding records_octets
records-more [] p = sym (append-nil (encoded p))
records-more (q ∷ ps) p = append_assoc (encoded q) (records_octets ps) (encoded p) ∙ ap (λ (l : List ℕ). encoded q ++ l) (records-more ps p)

made_more : (h : Header) (ps : List Port) (p : Port) → table_octets h ps ++ encoded p ≡ table_octets h (ps ++ (p ∷ []))
unfolding table_octets
made_more h ps p = append_assoc (header_octets h) (records_octets ps) (encoded p) ∙ ap (λ (l : List ℕ). header_octets h ++ l) (records-more ps p)

module _ (h : Header) (ps : List Port) where
  pub made-length : length (table_octets h ps) ≡ table_size (length ps)
  unfolding table_octets
  made-length = length-append (header_octets h) (records_octets ps) ∙ ap (λ (n : ℕ). header_size + n) (records-length ps)

  pub made-header : header_of (table_octets h ps) ≡ h
  unfolding table_octets
  made-header = λ i. record {
    count = h.count;
    system = record {
      priority = number-back h.system.priority i;
      address = record {
        high = number-back h.system.address.high i;
        middle = number-back h.system.address.middle i;
        low = number-back h.system.address.low i;
      };
    };
    delay = record { 0 = number-back h.delay.0 i };
  }

  pub made-count : count_in (table_octets h ps) ≡ h.count
  made-count = ap (λ (x : Header). x.count) made-header

  made_record : (i : ℕ) (d : Port) → i < length ps → record_at (table_octets h ps) i ≡ encoded (get_or ps i d)
  unfolding table_octets record_at records_octets
  made_record i d k =
      ap (λ (l : List ℕ). take record_size l)
      (drop-append-add (header_octets h) (records_octets ps) (record_size * i) ∙ records-drop i ps ∙ ap records_octets (drop-cons ps i d k))
      ∙ take_at (encoded (get_or ps i d)) (records_octets (drop (suc i) ps)) record_size (encoded-length (get_or ps i d))

  module _ (n : h.count ≡ length ps) (r : ports_in_range (length ps) ps ≡ true) where
    counted : count_in (table_octets h ps) ≡ length ps
    counted = made-count ∙ n

    made-ranged : (i : ℕ) → i < length ps → port_in_range (length ps) (get_or ps i (decoded [])) ≡ true
    made-ranged i k = ports-ranged-at (length ps) ps r i (decoded []) k

    -- the records come back
    pub made-ports : ports (table_octets h ps) ≡ ps
    unfolding decoded_at
    made-ports =
        ext_get_or (decoded []) (ports (table_octets h ps)) ps (ports-length (table_octets h ps) ∙ counted)
        (λ i k. let less : i < length ps = rw (ports-length, counted) at k in
        records-at (table_octets h ps) i (decoded []) (rw counted less)
        ∙ ap decoded (made_record i (decoded []) less)
        ∙ port-back (length ps) (get_or ps i (decoded [])) (made-ranged i less))

    pub made_in_range : 1 ≤ length ps → length ps ≤ most_ports → InRange (table_octets h ps)
    made_in_range some few = record {
      header = rw made-length (omega arith);
      least = rw counted some;
      most = rw counted few;
      size = made-length ∙ ap table_size (sym counted);
      records = λ i k. let less : i < length ps = rw counted at k in
          rw counted
          (ap (record_in_range (length ps)) (made_record i (decoded []) less)
          ∙ encoded_in_range (length ps) (get_or ps i (decoded [])) (made-ranged i less));
    }

    -- and each element is an octet
    pub made-octets : header_fits h ≡ true → length ps ≤ most_ports → Octets (table_octets h ps)
    unfolding table_octets
    made-octets e few =
        append-octets (header_octets h) (records_octets ps) (header-octets h e (omega arith))
        (records-octets (length ps) ps (omega arith) r)

-- a state in range comes back from its octets, and these are a table in range
pub record Decodes (s : State) : Type 0 where
  pub state : state_of (octets_of s) ≡ s
  pub ranged : table_in_range (octets_of s) ≡ true
  pub octets : Octets (octets_of s)

pub state-back : (s : State) → state_in_range s ≡ true → Decodes s
unfolding state_in_range
state-back s e =
    let n = length s.ports in
    let ranged = ports_in_range n s.ports in
    let e₀ = both (within 1 n most_ports) (eqb s.common.count n && (header_fits s.common && ranged)) e in
    let e₁ = both (eqb s.common.count n) (header_fits s.common && ranged) e₀.1 in
    let e₂ = both (header_fits s.common) ranged e₁.1 in
    let counted : s.common.count ≡ n = eqb-true s.common.count n e₁.0 in
    let some : 1 ≤ n = (within-true 1 n most_ports e₀.0).0 in
    let few : n ≤ most_ports = (within-true 1 n most_ports e₀.0).1 in
    record {
      state = λ i. record {
        common = made-header s.common s.ports i;
        ports = made-ports s.common s.ports counted e₂.1 i;
      };
      ranged = in_range_is (octets_of s) (made_in_range s.common s.ports counted e₂.1 some few);
      octets = made-octets s.common s.ports counted e₂.1 e₂.0 few;
    }

-- ---- memory of any content, of which header and the first records are written

unfoldable pub begun : Header → List Port → List ℕ → List ℕ
begun h ps t = table_octets h ps ++ drop (table_size (length ps)) t

-- after the header
pub begun-header : (h : Header) (t : List ℕ) → put_at 0 (header_octets h) t ≡ begun h [] t
unfolding begun table_octets records_octets
begun-header h t = sym (over-put (header_octets h) t)

-- one record more
pub begun_record : (h : Header) (ps : List Port) (t : List ℕ) (p : Port)
    → put_at (place (length ps)) (encoded p) (begun h ps t) ≡ begun h (ps ++ (p ∷ [])) t
unfolding begun
begun_record h ps t p =
    let made = table_octets h ps in
    let rest = drop (table_size (length ps)) t in
    let one : length (encoded p) ≡ record_size = encoded-length p in
    let size : length made + 0 ≡ place (length ps) = let e : length made ≡ table_size (length ps) = made-length h ps in omega arith in
    let more : length (ps ++ (p ∷ [])) ≡ length ps + 1 = length-append ps (p ∷ []) in
    let next : table_size (length ps) + length (encoded p) ≡ table_size (length (ps ++ (p ∷ []))) = omega arith in
    ap (λ (n : ℕ). put_at n (encoded p) (made ++ rest)) (sym size)
    ∙ put-append made rest (encoded p) 0
    ∙ ap (λ (l : List ℕ). made ++ l) (sym (over-put (encoded p) rest))
    ∙ sym (append_assoc made (encoded p) (drop (length (encoded p)) rest))
    ∙ (λ i. made_more h ps p i ++ (drop-drop (length (encoded p)) (table_size (length ps)) t ∙ ap (λ (n : ℕ). drop n t) next) i)

-- all records
pub begun_all : (h : Header) (ps : List Port) (t : List ℕ) → length t ≡ table_size (length ps) → begun h ps t ≡ table_octets h ps
unfolding begun
begun_all h ps t e =
    ap (λ (l : List ℕ). table_octets h ps ++ l) (drop_of_length-le t {i = table_size (length ps)} (omega arith))
    ∙ append-nil (table_octets h ps)
