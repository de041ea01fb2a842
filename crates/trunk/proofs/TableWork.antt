-- A step of one record of a lent table, and a loop over the records. Assumes nothing.
use Prim.Native.Nat.{ℕ, ◌<◌, ◌+◌}
use mathlib.Core.Path.{◌≡◌, refl, sym, ap, ◌∙◌}
use mathlib.Core.Bool.{true}
use mathlib.Core.List.{List, map}
use lib.ListN.{length, get_or, set}
use lib.Seq.{get_or-set_same, set-set}
use Rattle.octets.specs.Lists.{map_from}
use Rattle.octets.proofs.ListLaws.{map_at, done_to, done_next, done_none, done_more, done_all}
use Rattle.port.specs.declared.record.Port.{Port}
use Rattle.port.specs.Range.{port_in_range}
use Rattle.table.specs.declared.lent.TableMut.{TableMut}
use Rattle.table.specs.Layout.{header_of}
use Rattle.table.specs.Table.{count_in, ports, port_at, table_octets}
use Rattle.table.specs.Lent.{Has, Swept, Stepped, Remade}
use Rattle.table.proofs.StoreLaws.{ports-length, ports-at}
use Rattle.table.proofs.TableLaws.{ranged-at}
use Rattle.table.proofs.LeavesLaws.{unworked, left_alone, then, count_kept, said, made_of}

-- a lent view `v` of the table, of which record i was loaded
abbrev pub Loaded : TableMut → List ℕ → ℕ → Port → Type 0
Loaded t v i p = (v ≡ t.octets.now) × ((p ≡ port_at v i) × (port_in_range (count_in v) p ≡ true))

-- the record as it stands in the table
pub found : (t : TableMut) (i : ℕ) {p : Port} → Has t i → p ≡ port_at t.octets.now i → Loaded t t.octets.now i p
found t i at is = (refl, (is, rw is (ranged-at t.octets.now t.in_range t.fits i at)))

-- load, step, store: a step that keeps a record in range gives one that may be stored, and makes of port i what it says
pub may_store : (f : Port → Port) (t : TableMut) (i : ℕ) {v : List ℕ} {p q : Port} → Has t i
    → ((x : Port) → port_in_range (count_in t.octets.now) x ≡ true → port_in_range (count_in t.octets.now) (f x) ≡ true)
    → Loaded t v i p → q ≡ f p → Has t i × (port_in_range (count_in t.octets.now) q ≡ true)
may_store f t i {v} {p} at keeps loaded stepped =
    (at, rw stepped (keeps p (ap (λ (l : List ℕ). port_in_range (count_in l) p) (sym loaded.0) ∙ loaded.1.1)))

pub changed-at : (f : Port → Port) (t : TableMut) {u : TableMut} (i : ℕ) {v : List ℕ} {p q : Port} → Loaded t v i p → q ≡ f p → Stepped t u i (λ _. q) → Stepped t u i f
changed-at f t i loaded stepped put =
    let is = loaded.1.0 ∙ ap (λ (l : List ℕ). port_at l i) loaded.0 in
    record { memory = put.memory; left = said (ap (λ (x : Port). set (ports t.octets.now) i x) (stepped ∙ ap f is)) put.left }

-- nothing done
pub nothing : (t : TableMut) → Swept t t (λ ps. ps)
nothing t = record { memory = refl; left = unworked t.octets.now t.in_range }

-- the same work, said otherwise
pub told : {t u : TableMut} {f g : List Port → List Port} → f (ports t.octets.now) ≡ g (ports t.octets.now) → Swept t u f → Swept t u g
told e w = record { memory = w.memory; left = said e w.left }

-- one piece of work after another
pub then_all : {t u v : TableMut} {f g : List Port → List Port} → Swept t u f → Swept u v g → Swept t v (λ ps. g (f ps))
then_all {g = g} a b = record { memory = b.memory ∙ a.memory; left = said (ap g a.left.records) (then a.left b.left) }

-- the octets that a piece of work leaves
pub remade : {t u : TableMut} {f : List Port → List Port} → Swept t u f → Remade t u (λ l. table_octets (header_of l) (f (ports l)))
remade {u = u} w = record { memory = w.memory; made = made_of w.left u.fits }

pub told_at : {t u : TableMut} (f g : Port → Port) (i : ℕ) → f (port_at t.octets.now i) ≡ g (port_at t.octets.now i) → Stepped t u i f → Stepped t u i g
told_at {t} f g i e w = told (ap (λ (x : Port). set (ports t.octets.now) i x) e) w

-- a record that is left alone, as what it would become is what it is
pub left_be : (f : Port → Port) (t : TableMut) (i : ℕ) → Has t i → f (port_at t.octets.now i) ≡ port_at t.octets.now i → Stepped t t i f
left_be f t i at same = record { memory = refl; left = left_alone t.octets.now i (f (port_at t.octets.now i)) t.in_range at same }

-- port i after its change: it is in the table, it is what it became, and a further change goes over the first
pub still : {t u : TableMut} {f : List Port → List Port} (i : ℕ) → Has t i → Swept t u f → Has u i
still i at did = rw (count_kept did.left) at

pub became_at : {t u : TableMut} (f : Port → Port) (i : ℕ) → Has t i → Stepped t u i f → port_at u.octets.now i ≡ f (port_at t.octets.now i)
became_at {t} {u} f i at did =
    let q = f (port_at t.octets.now i) in
    sym (ports-at u.octets.now i q (still i at did))
    ∙ ap (λ (l : List Port). get_or l i q) did.left.records
    ∙ get_or-set_same (ports t.octets.now) i q q (rw ports-length at)

pub became_then : {t u v : TableMut} (f g : Port → Port) (i : ℕ) → Has t i → Stepped t u i f → Stepped u v i g → Stepped t v i (λ p. g (f p))
became_then {t} {u} f g i at a b =
    let ps = ports t.octets.now in
    told (set-set ps i (f (port_at t.octets.now i)) (g (port_at u.octets.now i)) ∙ ap (λ (p : Port). set ps i (g p)) (became_at f i at a)) (then_all a b)

-- what a projection of the records holds at an index
pub map-port_at : {A : Type 0} (g : Port → A) (t : List ℕ) (i : ℕ) (a : A) → i < count_in t → get_or (map g (ports t)) i a ≡ g (port_at t i)
map-port_at g t i a h =
    map_at g (ports t) i a (port_at t i) (rw ports-length h) ∙ ap g (ports-at t i (port_at t i) h)

-- ---- a loop over the records: the first i of them are done

module _ (f : ℕ → Port → Port) {t u : TableMut} (i : ℕ) (so_far : Swept t u (done_to f i)) (h : Has t i) where
  pub in_list : i < length (ports t.octets.now)
  in_list = rw ports-length h

  pub in_count : Has u i
  in_count = rw (count_kept so_far.left) h

  -- what the turn finds at i is as it was
  pub next-is : port_at u.octets.now i ≡ port_at t.octets.now i
  next-is =
      let p = port_at t.octets.now i in
      sym (ports-at u.octets.now i p in_count)
      ∙ ap (λ (l : List Port). get_or l i p) so_far.left.records
      ∙ done_next f (ports t.octets.now) i p in_list
      ∙ ports-at t.octets.now i p h

  -- a turn that does what f says at i
  pub turn : {v : TableMut} (g : Port → Port) → Stepped u v i g → g (port_at t.octets.now i) ≡ f i (port_at t.octets.now i) → Swept t v (done_to f (i + 1))
  turn g done e =
      let p = port_at t.octets.now i in
      let q = g (port_at u.octets.now i) in
      told
      (ap (λ (x : Port). set (done_to f i (ports t.octets.now)) i x) (ap g next-is ∙ e ∙ ap (f i) (sym (ports-at t.octets.now i p h)))
      ∙ done_more f (ports t.octets.now) i p in_list)
      (then_all so_far done)

-- before the first turn, and after the last
pub loop_begins : (f : ℕ → Port → Port) (t : TableMut) → Swept t t (done_to f 0)
loop_begins f t = told (sym (done_none f (ports t.octets.now) (port_at t.octets.now 0))) (nothing t)

pub loop_ends : (f : ℕ → Port → Port) {t u : TableMut} (n : ℕ) → count_in t.octets.now ≡ n → Swept t u (done_to f n) → Swept t u (map_from f 0)
loop_ends f {t} n e w = told (done_all f (ports t.octets.now) n (port_at t.octets.now 0) (ports-length t.octets.now ∙ e)) w
