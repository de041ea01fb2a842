-- What each of steps 3 to 6 keeps of a port, they keep together of every port. By the record at each index. Assumes nothing.
use Prim.Native.Nat.{ℕ, suc, ◌<◌, ◌≤◌}
use mathlib.Core.Path.{◌≡◌, refl}
use mathlib.Core.Bool.{Bool, true}
use mathlib.Core.List.{List, [], ◌∷◌, map}
use native.Mathlib.Omega.{arith}
use lib.ListN.{length, get_or}
use Rattle.octets.specs.Lists.{Each}
use Rattle.port.specs.declared.record.Port.{Port}
use Rattle.port.specs.Compared.{compared}
use Rattle.port.specs.Mux.{attached_if}
use Rattle.table.specs.declared.layout.Header.{Header}
use Rattle.port.specs.Range.{port_in_range}
use Rattle.octets.proofs.RangeLaws.{within-is}
use Rattle.trunk.specs.Selection.{rule_of, lowest}
use Rattle.trunk.specs.Ready.{ready}
use Rattle.trunk.specs.Settled.{reselected, selected_all, muxed, settled}
use Rattle.trunk.proofs.RangeKept.{reselected-ranged, muxed-ranged}
use Rattle.port.proofs.RangeLaws.{attached-ranged}
use Rattle.trunk.proofs.GroupLaws.{lowest-le}
use Rattle.trunk.proofs.SettledLaws.{selected-at, settled_at, settled-length}

-- the rule's aggregators are those of ports of the list
rule-within : (ours : Header) (ps : List Port) (i : ℕ) → i < length ps
    → (1 ≤ rule_of ours (map compared ps) i) × (rule_of ours (map compared ps) i ≤ length ps)
unfolding rule_of
rule-within ours ps i h =
    let low : lowest ours (map compared ps) i ≤ i = lowest-le ours (map compared ps) i in
    (omega arith, omega arith)

-- what each of steps 3 to 6 keeps, they keep together
pub each-settled : (P : Port → Type 0) (ours : Header) (ps : List Port)
    → ((k : ℕ) (p : Port) → 1 ≤ k → k ≤ length ps → P p → P (reselected k p))
    → ((r : Bool) (p : Port) → P p → P (attached_if r p))
    → ((p : Port) → P p → P (muxed p))
    → Each P ps → Each P (settled ours ps)
each-settled P ours ps one two three e i d k =
    let h : i < length ps = rw (settled-length ours ps) at k in
    let rule = rule-within ours ps i h in
    let ss = selected_all ours ps in
    rw (settled_at ours ps i d h)
    (three (attached_if (ready (get_or ss i d).aggregator ss) (get_or ss i d))
    (two (ready (get_or ss i d).aggregator ss) (get_or ss i d)
    (rw (selected-at ours ps i d h) (one (rule_of ours (map compared ps) i) (get_or ps i d) rule.0 rule.1 (e i d h)))))

-- so they keep every record in range
abbrev pub Fits : ℕ → Port → Type 0
Fits count p = port_in_range count p ≡ true

pub settled-fits : (count : ℕ) (s : Header) (ps : List Port) → length ps ≡ count → Each (Fits count) ps → Each (Fits count) (settled s ps)
settled-fits count s ps n e =
    each-settled (Fits count) s ps
    (λ k p a b h. reselected-ranged count k p (within-is 1 k count a (omega arith)) h)
    (λ r p h. attached-ranged count r p h)
    (λ p h. muxed-ranged count p h) e

-- where two functions agree on every element, so do their maps
pub map_alike : {A B : Type 0} (f g : A → B) (xs : List A) → Each (λ (x : A). f x ≡ g x) xs → map f xs ≡ map g xs
map_alike f g [] e = refl
map_alike f g (x ∷ xs) e = λ k. e 0 x (omega arith) k ∷ map_alike f g xs (λ i d h. e (suc i) d (omega arith)) k
