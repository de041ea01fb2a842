-- Work on the lent memory, record by record: what a store leaves, and pieces of work one after the other. Assumes nothing.
use Prim.Native.Nat.{ℕ, ◌<◌}
use mathlib.Core.Path.{◌≡◌, refl, sym, ap, ◌∙◌}
use mathlib.Core.Bool.{true}
use mathlib.Core.List.{List}
use lib.ListN.{get_or, set}
use lib.Seq.{set-get_or}
use Rattle.octets.specs.Octets.{put_at, Octets}
use Rattle.port.specs.declared.record.Port.{Port}
use Rattle.table.specs.declared.layout.Header.{Header}
use Rattle.table.specs.Layout.{place, header_of}
use Rattle.table.specs.Record.{encoded}
use Rattle.port.specs.Range.{port_in_range}
use Rattle.table.specs.Table.{table_in_range, InTable, count_in, ports, port_at, table_octets}
use Rattle.table.specs.Leaves.{Leaves, Became}
use Rattle.table.proofs.RecordLaws.{port-back}
use Rattle.table.proofs.StoreLaws.{ports-at, stored-length, stored-header, stored-ports}
use Rattle.table.proofs.TableLaws.{in_range, in_range_is, inside, stored_in_range, table-back}

-- a store of a record in range
pub stored : (t : List ℕ) (i : ℕ) (p : Port) → InTable t i → port_in_range (count_in t) p ≡ true → Became t (put_at (place i) (encoded p) t) i p
stored t i p at r =
    let here = inside t (in_range t at.0) i at.1 in
    record {
      header = stored-header i p t here;
      size = stored-length i p t here;
      ranged = in_range_is (put_at (place i) (encoded p) t) (stored_in_range i p t (in_range t at.0) at.1 r);
      records = stored-ports i p t here (port-back (count_in t) p r) at.1;
    }

-- nothing done
pub unworked : (t : List ℕ) → table_in_range t ≡ true → Leaves t t (ports t)
unworked t e = record { header = refl; size = refl; ranged = e; records = refl }

-- a record that is left alone, as what it would be set to is what it is
pub left_alone : (t : List ℕ) (i : ℕ) (q : Port) → table_in_range t ≡ true → i < count_in t → q ≡ port_at t i → Became t t i q
left_alone t i q e h same =
    let is : q ≡ get_or (ports t) i q = same ∙ sym (ports-at t i q h) in
    record {
      header = refl;
      size = refl;
      ranged = e;
      records = sym (set-get_or (ports t) i q) ∙ ap (λ (x : Port). set (ports t) i x) (sym is);
    }

-- one piece of work after another
pub then : {t u v : List ℕ} {ps qs : List Port} → Leaves t u ps → Leaves u v qs → Leaves t v qs
then a b = record { header = b.header ∙ a.header; size = b.size ∙ a.size; ranged = b.ranged; records = b.records }

pub count_kept : {t u : List ℕ} {ps : List Port} → Leaves t u ps → count_in u ≡ count_in t
count_kept a = ap (λ (h : Header). h.count) a.header

-- the same records, said otherwise
pub said : {t u : List ℕ} {ps qs : List Port} → ps ≡ qs → Leaves t u ps → Leaves t u qs
said e w = record { header = w.header; size = w.size; ranged = w.ranged; records = w.records ∙ e }

-- the octets that a piece of work leaves
pub made_of : {t u : List ℕ} {qs : List Port} → Leaves t u qs → Octets u → u ≡ table_octets (header_of t) qs
made_of {t} {u} w o = sym (table-back u (in_range u w.ranged) o) ∙ (λ i. table_octets (w.header i) (w.records i))
