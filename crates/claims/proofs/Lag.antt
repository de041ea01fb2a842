-- Ports that share a group have one LAG ID, and the other way round where the partner is not our own system: the number of a port on an individual
-- link stands in its LAG ID, and all others have in it just what the rule compares. Assumes nothing.
use Prim.Native.Nat.{ℕ, ◌+◌, ◌<◌}
use mathlib.Core.Path.{◌≡◌, refl, sym, ap, ◌∙◌}
use mathlib.Core.Bool.{not, ◌||◌, Bool, true, false, cond}
use mathlib.Core.List.{List, map}
use native.Mathlib.Omega.{arith}
use lib.Dec.{eqb}
use borrow.Author.Tests.{eqb-true, eqb-false}
use Rattle.frame.specs.declared.block.PortId.{PortId}
use Rattle.machine.specs.Compare.{same_system}
use Rattle.port.specs.declared.record.Port.{Port}
use Rattle.port.specs.Compared.{compared}
use Rattle.table.specs.declared.layout.Header.{Header}
use Rattle.table.specs.Table.{count_in, port_at, ports, ours}
use Rattle.trunk.specs.Selection.{individual, joins, shares_group}
use Rattle.trunk.proofs.SelectLaws.{joins_at}
use Rattle.trunk.proofs.GroupLaws.{Together, together, together-is, shares-other}
use Rattle.claims.specs.Lag.{LagId, individual_link, lag_of, lag_at, any_port}
use Rattle.claims.specs.Claims.{GroupHasLag, LagHasGroup}

aggregatable : (s : Header) (p : Port) → individual s (compared p) ≡ false → individual_link p ≡ false
unfolding individual
aggregatable s p e = by p.actor.aggregation p.partner.state.aggregation e
  where
    by : (a b : Bool) → not a || (not b || same_system p.partner.system s.system) ≡ false → not a || not b ≡ false
    by true true e = refl
    by true false e = e
    by false b e = e

same-lag : (s : Header) (m n : ℕ) (p q : Port) → Together s (compared p) (compared q) → lag_of s.system m p ≡ lag_of s.system n q
same-lag s m n p q g =
    let x : PortId = record { priority = p.own.priority; number = m } in
    let y : PortId = record { priority = q.own.priority; number = n } in
    let f = aggregatable s p g.first in
    let h = aggregatable s q g.second in
    let one : cond (individual_link p) x any_port ≡ cond (individual_link q) y any_port = rw (f, h) in
    let two : cond (individual_link p) p.partner.port any_port ≡ cond (individual_link q) q.partner.port any_port = rw (f, h) in
    λ i. record {
      system = s.system;
      key = g.key i;
      port = one i;
      partner_system = g.system i;
      partner_key = g.partner_key i;
      partner_port = two i;
    }

pub group-has-lag : GroupHasLag
group-has-lag t i j hi hj x = by (eqb i j) refl
  where
    by : (b : Bool) → eqb i j ≡ b → lag_at t i ≡ lag_at t j
    by true e = ap (λ (k : ℕ). lag_at t k) (eqb-true i j e)
    by false e =
        same-lag (ours t) (i + 1) (j + 1) (port_at t i) (port_at t j)
        (together (ours t) (compared (port_at t i)) (compared (port_at t j))
        (sym (joins_at (ours t) t i j hi hj) ∙ sym (shares-other (ours t) (map compared (ports t)) i j (eqb-false i j e)) ∙ x))

-- ---- and the other way round

-- what a LAG ID says of the port's number: none where the link is not individual
told : (b : Bool) (n : ℕ) (x : PortId) → x.number ≡ n → (cond b x any_port).number ≡ cond b n 0
told true n x e = e
told false n x e = refl

not-alone : (s : Header) (p : Port) → individual_link p ≡ false → same_system p.partner.system s.system ≡ false → individual s (compared p) ≡ false
unfolding individual
not-alone s p e f = by p.actor.aggregation p.partner.state.aggregation e
  where
    by : (a b : Bool) → not a || not b ≡ false → not a || (not b || same_system p.partner.system s.system) ≡ false
    by true true g = f
    by true false g = g
    by false b g = g

module _ (t : List ℕ) (i j : ℕ) (hi : i < count_in t) (hj : j < count_in t)
    (strange : same_system (port_at t i).partner.system (ours t).system ≡ false) (same : lag_at t i ≡ lag_at t j) where
  numbers : cond (individual_link (port_at t i)) (i + 1) 0 ≡ cond (individual_link (port_at t j)) (j + 1) 0
  numbers =
      sym (told (individual_link (port_at t i)) (i + 1) (record { priority = (port_at t i).own.priority; number = i + 1 }) refl)
      ∙ ap (λ (l : LagId). l.port.number) same
      ∙ told (individual_link (port_at t j)) (j + 1) (record { priority = (port_at t j).own.priority; number = j + 1 }) refl

  both_aggregate : individual_link (port_at t i) ≡ false → individual_link (port_at t j) ≡ false → eqb i j ≡ false
      → shares_group (ours t) (map compared (ports t)) i j ≡ true
  both_aggregate a b other =
      shares-other (ours t) (map compared (ports t)) i j (eqb-false i j other)
      ∙ joins_at (ours t) t i j hi hj
      ∙ together-is (ours t) (compared (port_at t i)) (compared (port_at t j)) (record {
        first = not-alone (ours t) (port_at t i) a strange;
        second = not-alone (ours t) (port_at t j) b
            (ap (λ (l : LagId). same_system l.partner_system (ours t).system) (sym same) ∙ strange);
        key = ap (λ (l : LagId). l.key) same;
        system = ap (λ (l : LagId). l.partner_system) same;
        partner_key = ap (λ (l : LagId). l.partner_key) same;
      })

  lag-shares : (x : Bool) → eqb i j ≡ x → (a b : Bool) → individual_link (port_at t i) ≡ a → individual_link (port_at t j) ≡ b
      → cond a (i + 1) 0 ≡ cond b (j + 1) 0 → shares_group (ours t) (map compared (ports t)) i j ≡ true
  unfolding shares_group
  lag-shares true x a b ea eb n = ap (λ (y : Bool). y || joins (ours t) (map compared (ports t)) i j) x
  lag-shares false x true true ea eb n = absurd (eqb-false i j x (omega arith))
  lag-shares false x true false ea eb n = absurd (omega arith)
  lag-shares false x false true ea eb n = absurd (omega arith)
  lag-shares false x false false ea eb n = both_aggregate ea eb x

pub lag-has-group : LagHasGroup
lag-has-group t i j hi hj strange same =
    lag-shares t i j hi hj strange same (eqb i j) refl (individual_link (port_at t i)) (individual_link (port_at t j)) refl refl (numbers t i j hi hj strange same)
