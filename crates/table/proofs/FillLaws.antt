-- Memory of any content with a header and a first record that is repeated behind itself: octet by octet, each is the one that stands a record before it, as in the table of
-- those records. So it is a table in range with that header and those records. Assumes nothing.
use Prim.Native.Nat.{ℕ, zero, suc, ◌+◌, ◌-◌, ◌*◌, ◌≤◌, ◌<◌}
use mathlib.Core.Path.{◌≡◌, refl, sym, ap, ◌∙◌}
use mathlib.Core.Bool.{Bool, true, false}
use mathlib.Core.List.{List, [], ◌∷◌, ◌++◌, append_assoc}
use native.Mathlib.Omega.{arith}
use lib.ListN.{length, drop, get_or, replicate, length-append, length-replicate, get_or-replicate, get_or-append}
use lib.Seq.{ext_get_or, get_or-append-add}
use lib.Dec.{eqb, ltb}
use borrow.Author.Tests.{eqb-true, ltb-true, ltb-false}
use Rattle.octets.specs.Octets.{put_at, within}
use Rattle.port.specs.declared.record.Port.{Port}
use Rattle.table.specs.declared.layout.Header.{Header}
use Rattle.table.specs.Layout.{header_of, header_octets, header_size, record_size, place, table_size, most_ports}
use Rattle.table.specs.Record.{encoded}
use Rattle.port.specs.Range.{port_in_range, ports_in_range}
use Rattle.table.specs.Table.{table_in_range, is_room, ports, records_octets, table_octets}
use Rattle.table.specs.Leaves.{Holds, Repeated}
use Rattle.octets.proofs.Laws.{length-put}
use Rattle.octets.proofs.RangeLaws.{both, within-true}
use Rattle.table.proofs.RecordLaws.{encoded-length}
use Rattle.table.proofs.StoreLaws.{stored-length}
use Rattle.table.proofs.TableLaws.{in_range_is}
use Rattle.table.proofs.MadeLaws.{begun, begun-header, begun_record, ports-ranged, made-length, made-header, made-ports, made_in_range}

-- memory of the size of a table of `count` ports
pub record Room (t : List ℕ) (count : ℕ) : Type 0 where
  pub some : 1 ≤ count
  pub few : count ≤ most_ports
  pub size : length t ≡ table_size count

pub room-is : (t : List ℕ) (count : ℕ) → is_room t count ≡ true → Room t count
room-is t count e =
    let e₀ = both (within 1 count most_ports) (eqb (length t) (table_size count)) e in
    let bounds = within-true 1 count most_ports e₀.0 in
    record { some = bounds.0; few = bounds.1; size = eqb-true (length t) (table_size count) e₀.1 }

-- it has room for a header and a record
pub roomy : (t : List ℕ) (count : ℕ) → is_room t count ≡ true → place 1 ≤ length t
roomy t count e =
    let room = room-is t count e in
    omega (arith, room.some, room.size)

-- ---- a table of the same records

module _ (p : Port) where
  -- the octets of n of them
  abbrev records : ℕ → List ℕ
  records n = records_octets (replicate n p)

  here : (y : ℕ) → y < record_size → y < length (encoded p)
  here y h = rw (encoded-length p) h

  -- one more in front begins as they do
  same-front : (n y : ℕ) → y < record_size * n → get_or (records n) y 0 ≡ get_or (encoded p ++ records n) y 0
  unfolding records_octets
  same-front zero y h = absurd (omega arith)
  same-front (suc n) y h = by (λ z k. same-front n z k) (ltb y record_size) refl
    where
      by : ((z : ℕ) → z < record_size * n → get_or (records n) z 0 ≡ get_or (encoded p ++ records n) z 0)
          → (b : Bool) → ltb y record_size ≡ b → get_or (encoded p ++ records n) y 0 ≡ get_or (encoded p ++ (encoded p ++ records n)) y 0
      by behind true e =
          let less = here y (ltb-true y record_size e) in
          get_or-append (encoded p) (records n) 0 y less ∙ sym (get_or-append (encoded p) (encoded p ++ records n) 0 y less)
      by behind false e =
          let more : record_size ≤ y = ltb-false y record_size e in
          let size : length (encoded p) ≡ record_size = encoded-length p in
          let is : y ≡ length (encoded p) + (y - record_size) = omega arith in
          ap (λ (k : ℕ). get_or (encoded p ++ records n) k 0) is
          ∙ get_or-append-add (encoded p) (records n) (y - record_size) 0
          ∙ behind (y - record_size) (omega arith)
          ∙ sym (ap (λ (k : ℕ). get_or (encoded p ++ (encoded p ++ records n)) k 0) is ∙ get_or-append-add (encoded p) (encoded p ++ records n) (y - record_size) 0)

  -- they repeat themselves
  periodic : (n y : ℕ) → y + record_size < record_size * n → get_or (records n) (y + record_size) 0 ≡ get_or (records n) y 0
  unfolding records_octets
  periodic zero y h = absurd (omega arith)
  periodic (suc n) y h =
      let size : length (encoded p) ≡ record_size = encoded-length p in
      let is : y + record_size ≡ length (encoded p) + y = omega arith in
      ap (λ (k : ℕ). get_or (encoded p ++ records n) k 0) is ∙ get_or-append-add (encoded p) (records n) y 0 ∙ same-front n y (omega arith)

-- what two pieces at the front say, whatever comes behind
begins : (a b c : List ℕ) (j : ℕ) → j < length a + length b → get_or (a ++ (b ++ c)) j 0 ≡ get_or (a ++ b) j 0
begins a b c j h = ap (λ (l : List ℕ). get_or l j 0) (sym (append_assoc a b c)) ∙ get_or-append (a ++ b) c 0 j (rw (length-append a b) h)

module _ (h : Header) (p : Port) (t : List ℕ) where
  -- memory with the header and the first record
  abbrev pub first : List ℕ
  first = put_at (place 0) (encoded p) (put_at 0 (header_octets h) t)

  whole-periodic : (n j : ℕ) → place 1 ≤ j → j < table_size n → get_or (table_octets h (replicate n p)) j 0 ≡ get_or (table_octets h (replicate n p)) (j - record_size) 0
  unfolding table_octets
  whole-periodic n j more less =
      let x = j - place 1 in
      let far : j ≡ header_size + (j - place 1 + record_size) = omega arith in
      let near : j - record_size ≡ header_size + (j - place 1) = omega arith in
      ap (λ (k : ℕ). get_or (header_octets h ++ records p n) k 0) far
      ∙ get_or-append-add (header_octets h) (records p n) (x + record_size) 0
      ∙ periodic p n x (omega arith)
      ∙ sym (ap (λ (k : ℕ). get_or (header_octets h ++ records p n) k 0) near ∙ get_or-append-add (header_octets h) (records p n) x 0)

  first-is : first ≡ begun h (p ∷ []) t
  first-is = ap (put_at (place 0) (encoded p)) (begun-header h t) ∙ begun_record h [] t p

  first-front : (n j : ℕ) → j < place 1 → get_or first j 0 ≡ get_or (table_octets h (replicate (suc n) p)) j 0
  unfolding begun table_octets records_octets
  first-front n j less =
      let size : length (encoded p) ≡ record_size = encoded-length p in
      let both : j < length (header_octets h) + length (encoded p) = omega arith in
      let one : j < length (header_octets h ++ (encoded p ++ [])) = rw (made-length h (p ∷ [])) less in
      ap (λ (l : List ℕ). get_or l j 0) first-is
      ∙ get_or-append (header_octets h ++ (encoded p ++ [])) (drop (table_size 1) t) 0 j one
      ∙ begins (header_octets h) (encoded p) [] j both
      ∙ sym (begins (header_octets h) (encoded p) (records p n) j both)

  -- the first record repeated is the whole table
  repeated-all : (n : ℕ) (u : List ℕ) → length t ≡ table_size (suc n) → Repeated first u → u ≡ table_octets h (replicate (suc n) p)
  repeated-all n u e r =
      let ps = replicate (suc n) p in
      let whole : length (table_octets h ps) ≡ table_size (suc n) = made-length h ps ∙ ap table_size (length-replicate (suc n) p) in
      ext_get_or 0 u (table_octets h ps) (size ∙ sym whole) (λ j k. below (suc j) j (omega arith) (rw size at k))
    where
      header-kept : length (put_at 0 (header_octets h) t) ≡ length t
      header-kept = length-put 0 (header_octets h) t (omega arith)

      first-size : length first ≡ table_size (suc n)
      first-size = stored-length 0 p (put_at 0 (header_octets h) t) (rw header-kept (omega arith)) ∙ header-kept ∙ e

      size : length u ≡ table_size (suc n)
      size = r.size ∙ first-size

      below : (k j : ℕ) → j < k → j < table_size (suc n) → get_or u j 0 ≡ get_or (table_octets h (replicate (suc n) p)) j 0
      below zero j s l = absurd (omega arith)
      below (suc k) j s l = by (λ i a b. below k i a b) (ltb j (place 1)) refl
        where
          by : ((i : ℕ) → i < k → i < table_size (suc n) → get_or u i 0 ≡ get_or (table_octets h (replicate (suc n) p)) i 0)
              → (b : Bool) → ltb j (place 1) ≡ b → get_or u j 0 ≡ get_or (table_octets h (replicate (suc n) p)) j 0
          by before true x = let less : j < place 1 = ltb-true j (place 1) x in r.front j less ∙ first-front n j less
          by before false x =
              let more : place 1 ≤ j = ltb-false j (place 1) x in
              r.rest j more (rw first-size l)
              ∙ before (j - record_size) (omega arith) (omega arith)
              ∙ sym (whole-periodic (suc n) j more l)

  repeated-is : (n : ℕ) (u : List ℕ) → 1 ≤ n → length t ≡ table_size n → Repeated first u → u ≡ table_octets h (replicate n p)
  repeated-is zero u some e r = absurd (omega arith)
  repeated-is (suc n) u some e r = repeated-all n u e r

  alike-ranged : port_in_range h.count p ≡ true → ports_in_range (length (replicate h.count p)) (replicate h.count p) ≡ true
  alike-ranged r =
      let n : length (replicate h.count p) ≡ h.count = length-replicate h.count p in
      rw n (ports-ranged h.count (replicate h.count p) p
      (λ i k. let less : i < h.count = rw n at k in ap (port_in_range h.count) (get_or-replicate h.count i p p less) ∙ r))

  -- in the end, a table in range with this header and these records
  pub filled_holds : Room t h.count → port_in_range h.count p ≡ true → (u : List ℕ) → Repeated first u → Holds u h (replicate h.count p)
  filled_holds room r u e =
      let ps = replicate h.count p in
      let n : length ps ≡ h.count = length-replicate h.count p in
      let made : u ≡ table_octets h ps = repeated-is h.count u room.some room.size e in (
        ap header_of made ∙ made-header h ps,
        ap table_in_range made ∙ in_range_is (table_octets h ps) (made_in_range h ps (sym n) (alike-ranged r) (rw n room.some) (rw n room.few)),
        ap ports made ∙ made-ports h ps (sym n) (alike-ranged r),
      )
