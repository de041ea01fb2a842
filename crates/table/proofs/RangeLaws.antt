-- The ranges of a record's octets taken apart into facts on numbers, and settings and timers as octets, both ways. Assumes nothing.
use Prim.Native.Nat.{ℕ, ◌%◌, ◌≤◌}
use mathlib.Core.Path.{◌≡◌}
use mathlib.Core.Bool.{true, ◌&&◌}
use mathlib.Core.List.{List, [], ◌∷◌, ◌++◌}
use native.Mathlib.Omega.{arith}
use lib.ListN.{get_or}
use lib.Dec.{leb}
use borrow.Author.Tests.{leb-true, lt-ltb}
use Rattle.octets.specs.Octets.{Octets, number_at, number_octets, fits}
use Rattle.octets.proofs.OctetLists.{octets_of_lem, append-octets}
use Rattle.octets.proofs.RangeLaws.{both, both_true, within-true, within-is, number_fits, number-octets}
use Rattle.frame.specs.Block.{address_at, address_octets, block_octets, address_fits, block_fits}
use Rattle.frame.proofs.RangeLaws.{address-fits, address-octets, block-octets}
use Rattle.machine.specs.Time.{slow_periodic_time, long_timeout_time, aggregate_wait_time}
use Rattle.machine.specs.declared.states.Timers.{Timers}
use Rattle.port.specs.declared.record.Own.{Own}
use Rattle.port.specs.Range.{timers_in_range, values_in_range, own_fits}
use Rattle.table.specs.Range.{codes_in_range, record_in_range}
use Rattle.table.specs.Record.{timers_octets, own_octets, decoded}

-- ---- codes

pub record Coded (l : List ℕ) : Type 0 where
  pub receive : get_or l 0 0 ≤ 5
  pub periodic : get_or l 1 0 ≤ 3
  pub mux : get_or l 2 0 ≤ 4
  pub selected : get_or l 3 0 ≤ 1
  pub ntt : get_or l 5 0 ≤ 1
  pub up : get_or l 6 0 ≤ 1
  pub full : get_or l 7 0 ≤ 1

pub coded : (l : List ℕ) → codes_in_range l ≡ true → Coded l
unfolding codes_in_range
coded l e =
    let e₀ = both _ _ e in
    let e₁ = both _ _ e₀.1 in
    let e₂ = both _ _ e₁.1 in
    let e₃ = both _ _ e₂.1 in
    let e₄ = both _ _ e₃.1 in
    let e₅ = both _ _ e₄.1 in
    record {
      receive = (within-true 0 (get_or l 0 0) 5 e₀.0).1;
      periodic = (within-true 0 (get_or l 1 0) 3 e₁.0).1;
      mux = (within-true 0 (get_or l 2 0) 4 e₂.0).1;
      selected = (within-true 0 (get_or l 3 0) 1 e₃.0).1;
      ntt = (within-true 0 (get_or l 5 0) 1 e₄.0).1;
      up = (within-true 0 (get_or l 6 0) 1 e₅.0).1;
      full = (within-true 0 (get_or l 7 0) 1 e₅.1).1;
    }

pub coded-is : (l : List ℕ) → Coded l → codes_in_range l ≡ true
unfolding codes_in_range
coded-is l k =
    both_true (within-is 0 (get_or l 0 0) 5 (omega arith) k.receive)
    (both_true (within-is 0 (get_or l 1 0) 3 (omega arith) k.periodic)
    (both_true (within-is 0 (get_or l 2 0) 4 (omega arith) k.mux)
    (both_true (within-is 0 (get_or l 3 0) 1 (omega arith) k.selected)
    (both_true (within-is 0 (get_or l 5 0) 1 (omega arith) k.ntt)
    (both_true (within-is 0 (get_or l 6 0) 1 (omega arith) k.up) (within-is 0 (get_or l 7 0) 1 (omega arith) k.full))))))

-- ---- settings that were read from octets fit their octets

pub own-fits : (o : Own) (l : List ℕ) → Octets l → o.address ≡ address_at l 17 → o.key ≡ number_at l 23 → o.priority ≡ number_at l 25
    → block_fits o.default ≡ true → own_fits o ≡ true
unfolding own_fits
own-fits o l os a k q b = rw (a, k, q) (both_true (address-fits l os 17) (both_true (number_fits l os 23) (both_true (number_fits l os 25) b)))

-- ---- and what fits is written as octets

pub own-octets : (o : Own) → own_fits o ≡ true → Octets (own_octets o)
unfolding own_fits
own-octets o e =
    let l₁ = number_octets o.priority ++ block_octets o.default in
    let l₀ = number_octets o.key ++ l₁ in
    let f₁ = fits o.priority && block_fits o.default in
    let e₀ = both (address_fits o.address) (fits o.key && f₁) e in
    let e₁ = both (fits o.key) f₁ e₀.1 in
    let e₂ = both (fits o.priority) (block_fits o.default) e₁.1 in
    append-octets (address_octets o.address) l₀ (address-octets o.address e₀.0)
    (append-octets (number_octets o.key) l₁ (number-octets o.key e₁.0)
    (append-octets (number_octets o.priority) (block_octets o.default) (number-octets o.priority e₂.0) (block-octets o.default e₂.1)))

pub timers-octets : (t : Timers) → timers_in_range t ≡ true → Octets (timers_octets t)
unfolding timers_in_range
timers-octets t e =
    let e₀ = both (leb t.current.0 long_timeout_time) (leb t.periodic.0 slow_periodic_time && leb t.wait.0 aggregate_wait_time) e in
    let e₁ = both (leb t.periodic.0 slow_periodic_time) (leb t.wait.0 aggregate_wait_time) e₀.1 in
    let c : t.current.0 ≤ long_timeout_time = leb-true t.current.0 long_timeout_time e₀.0 in
    let q : t.periodic.0 ≤ slow_periodic_time = leb-true t.periodic.0 slow_periodic_time e₁.0 in
    append-octets (number_octets t.current.0) (number_octets t.periodic.0 ++ (t.wait.0 % 256 ∷ []))
    (number-octets t.current.0 (lt-ltb t.current.0 65536 (omega arith)))
    (append-octets (number_octets t.periodic.0) (t.wait.0 % 256 ∷ [])
    (number-octets t.periodic.0 (lt-ltb t.periodic.0 65536 (omega arith)))
    (octets_of_lem (t.wait.0 % 256 ∷ []) (omega arith, tt)))

-- ---- a record's octets

pub record RangedOctets (count : ℕ) (l : List ℕ) : Type 0 where
  pub codes : Coded l
  pub values : values_in_range count (decoded l) ≡ true

pub ranged-octets : (count : ℕ) (l : List ℕ) → record_in_range count l ≡ true → RangedOctets count l
unfolding record_in_range
ranged-octets count l e =
    let two = both (codes_in_range l) (values_in_range count (decoded l)) e in
    record { codes = coded l two.0; values = two.1 }
