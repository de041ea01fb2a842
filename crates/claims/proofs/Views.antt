-- What a call leaves of one view of one record: after a call's own change the periodic machines and steps 3 to 6 keep whatever a view takes from
-- the fields beside theirs. `lasting` of a partner and the ages of sends are such views. Assumes nothing.
use Prim.Native.Nat.{ℕ, ◌<◌}
use mathlib.Core.Path.{◌≡◌, refl, sym, ap, ◌∙◌}
use mathlib.Core.Bool.{Bool, true, false}
use mathlib.Core.List.{List, [], map}
use lib.ListN.{length, get_or, set, length-map}
use lib.Seq.{get_or-set_same}
use lib.Dec.{eqb}
use borrow.Author.Tests.{eqb-true}
use Rattle.octets.proofs.ListLaws.{map_at}
use Rattle.port.specs.declared.record.Port.{Port}
use Rattle.port.specs.Periodic.{periodic_run}
use Rattle.port.proofs.PeriodicLaws.{beside_periodic, periodic-keeps}
use Rattle.table.specs.declared.layout.Header.{Header}
use Rattle.table.specs.Record.{decoded}
use Rattle.table.specs.Table.{count_in, port_at, ports, ours, again}
use Rattle.trunk.specs.Settled.{settled}
use Rattle.trunk.proofs.BesideLaws.{beside_settled, settled-beside}
use Rattle.work.specs.Work.{worked}
use Rattle.claims.specs.AtRest.{Sound}
use Rattle.claims.proofs.Sound.{Before, in_ports, work_ports}
use Rattle.claims.proofs.Locality.{again-at, set-kept}

-- a view that looks beside what the periodic machine and steps 3 to 6 change
module _ {A : Type 0} (v : Port → A) (paces : (p : Port) → v (beside_periodic p) ≡ v p) (settles : (p : Port) → v (beside_settled p) ≡ v p) where
  pub settled-view : (s : Header) (ps : List Port) (i : ℕ) (d : Port) → i < length ps → v (get_or (settled s ps) i d) ≡ v (get_or ps i d)
  settled-view s ps i d h = sym (settles (get_or (settled s ps) i d)) ∙ ap v (settled-beside s ps i d h) ∙ settles (get_or ps i d)

  worked-view : (s : Header) (ps : List Port) (i : ℕ) (d : Port) → i < length ps → v (get_or (worked s ps) i d) ≡ v (get_or ps i d)
  unfolding worked
  worked-view s ps i d h =
      let p = get_or ps i d in
      settled-view s (map periodic_run ps) i d (rw (length-map ps periodic_run) h) ∙ ap v (map_at periodic_run ps i d d h)
      ∙ sym (paces (periodic_run p)) ∙ ap v (periodic-keeps p) ∙ paces p

  -- one record of a sound table
  module _ (t : List ℕ) (s : Sound t) (i : ℕ) (h : i < count_in t) where
    -- after the work
    pub work_view : (ps : List Port) → Before t ps → v (port_at (again t (worked (ours t) ps)) i) ≡ v (get_or ps i (decoded []))
    work_view ps b =
        ap v (again-at t (worked (ours t) ps) (work_ports t s ps b) i (decoded []) h) ∙ worked-view (ours t) ps i (decoded []) (rw b.size h)

-- where record m alone is changed, to q: x, if that is what q shows where i is m, and what i showed before where it is not
pub set_view : {A : Type 0} (v : Port → A) (t : List ℕ) (s : Sound t) (i : ℕ) (h : i < count_in t) (m : ℕ) (q : Port) (x : A)
    → (eqb i m ≡ true → v q ≡ x) → (eqb i m ≡ false → v (port_at t i) ≡ x) → v (get_or (set (ports t) m q) i (decoded [])) ≡ x
set_view {A} v t s i h m q x f g = by (eqb i m) refl
  where
    by : (b : Bool) → eqb i m ≡ b → v (get_or (set (ports t) m q) i (decoded [])) ≡ x
    by true e =
        let is : i ≡ m = eqb-true i m e in
        let here : m < length (ports t) = rw is at (in_ports t s i h) in
        ap (λ (k : ℕ). v (get_or (set (ports t) m q) k (decoded []))) is ∙ ap v (get_or-set_same (ports t) m q (decoded []) here) ∙ f e
    by false e = ap v (set-kept t m q i h e) ∙ g e
