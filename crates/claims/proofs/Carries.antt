-- A port at rest that is attached distributes where its partner lets it; one that waits is held back by somebody; and the reports of all
-- aggregators share the distributing ports out. Read off a sound table, port by port. Assumes nothing.
use Prim.Native.Nat.{ℕ, zero, suc, ◌+◌, ◌≤◌, ◌<◌}
use mathlib.Core.Path.{◌≡◌, refl, sym, ap, ◌∙◌}
use mathlib.Core.Logic.{◌≢◌}
use mathlib.Core.Bool.{Bool, true, false, not, ◌&&◌, ◌||◌, true≢false, false≢true}
use mathlib.Core.List.{List, [], ◌∷◌}
use native.Mathlib.Omega.{arith}
use lib.Dec.{eqb, ltb}
use lib.ListN.{length, get_or}
use borrow.Author.Tests.{eqb-true, eqb-false, eq-eqb, ltb-true, ltb-false}
use Rattle.std.specs.Prelude.{None, Ok}
use Rattle.std.proofs.lemmas.Option.{none-some}
use Rattle.octets.specs.Octets.{within}
use Rattle.octets.specs.Lists.{Each}
use Rattle.octets.proofs.RangeLaws.{within-true, within-is}
use Rattle.frame.specs.State.{weighed}
use Rattle.machine.specs.declared.states.Mux.{Mux}
use Rattle.machine.specs.declared.states.Mux.TheVariants.{Detached, Waiting, Attached, Collecting, Distributing}
use Rattle.machine.specs.declared.states.Selection.TheVariants.{Selected}
use Rattle.machine.specs.Mux.{mux_next, waits, is_attached, distributes}
use Rattle.port.specs.declared.record.Port.{Port}
use Rattle.port.specs.Mux.{mux_choice}
use Rattle.port.proofs.RangeLaws.{ranged}
use Rattle.report.specs.Sets.{counted}
use Rattle.octets.specs.Sets.{member}
use Rattle.table.specs.Record.{decoded}
use Rattle.table.specs.Table.{count_in, port_at, ports}
use Rattle.table.proofs.StoreLaws.{ports-length, ports-at}
use Rattle.trunk.specs.Ready.{waits_for, has_waiting, holds_back, held_back, ready}
use Rattle.trunk.specs.Settled.{Chosen}
use Rattle.trunk.proofs.EachLaws.{Fits}
use Rattle.trunk.proofs.ReadyLaws.{some-waits, waits-own}
use Rattle.control.specs.declared.answer.Accepted.TheVariants.{Done}
use Rattle.control.specs.Call.{aggregator}
use Rattle.control.specs.After.{answer}
use Rattle.control.specs.Report.{aggregator_report, sets_told}
use Rattle.claims.specs.AtRest.{Sound}
use Rattle.claims.specs.Reports.{sends_on, SetsTrue}
use Rattle.claims.specs.Carries.{DistributingGiven, WaitingForSomeone, counts_to, carries, Register, RegisterAddsUp}
use Rattle.claims.proofs.Sound.{in_ports, port-fits, table_fits}
use Rattle.claims.proofs.Calls.{never_stuck}
use Rattle.claims.proofs.Rule.{port_firm}
use Rattle.claims.proofs.Reports.{told-true}

-- ---- distributing is given

stays-given : (m : Mux) → is_attached m ≡ true → mux_next m Selected false true true ≡ None → distributes m ≡ true
stays-given Detached a e = absurd (false≢true a)
stays-given Waiting a e = absurd (false≢true a)
stays-given Attached a e = absurd (none-some Collecting (sym e))
stays-given Collecting a e = absurd (none-some Distributing (sym e))
stays-given Distributing a e = refl

pub distributing-given : DistributingGiven
unfolding Chosen mux_choice
distributing-given t m i h a sync coll =
    let firm = port_firm t (never_stuck t m) i h in
    let p = port_at t i in
    stays-given p.phase.mux a
    ((λ j. mux_next p.phase.mux (sym firm.chosen j) false (sym sync j) (sym coll j)) ∙ firm.stays)

-- ---- a port waits for somebody

record Holder (k : ℕ) (ps : List Port) : Type 0 where
  index : ℕ
  inside : index < length ps
  holds : (d : Port) → holds_back k (get_or ps index d) ≡ true

holder : (k : ℕ) (ps : List Port) → held_back k ps ≡ true → Holder k ps
unfolding held_back
holder k [] e = absurd (false≢true e)
holder k (p ∷ ps) e = by (holds_back k p) refl (λ g. holder k ps g)
  where
    further : Holder k ps → Holder k (p ∷ ps)
    further x = record { index = suc x.index; inside = omega (arith, x.inside); holds = λ d. x.holds d }

    by : (b : Bool) → holds_back k p ≡ b → (held_back k ps ≡ true → Holder k ps) → Holder k (p ∷ ps)
    by true g rest = record { index = 0; inside = omega arith; holds = λ d. g }
    by false g rest = further (rest (ap (λ (x : Bool). x || held_back k ps) (sym g) ∙ e))

held-if : (k : ℕ) (ps : List Port) → has_waiting k ps ≡ true → ready k ps ≡ false → held_back k ps ≡ true
unfolding ready
held-if k ps w r = by (held_back k ps) (ap (λ (x : Bool). x && not (held_back k ps)) (sym w) ∙ r)
  where
    by : (b : Bool) → not b ≡ false → b ≡ true
    by true e = refl
    by false e = absurd (true≢false e)

-- so its aggregator is held back
pub sound-waits : (t : List ℕ) → Sound t → (i : ℕ) → i < count_in t → waits (port_at t i).phase.mux ≡ true → held_back (port_at t i).aggregator (ports t) ≡ true
sound-waits t s i h w =
    let p = port_at t i in
    let k = p.aggregator in
    let itself : waits_for k (get_or (ports t) i (decoded [])) ≡ true = ap (waits_for k) (ports-at t i (decoded []) h) ∙ waits-own p w in
    held-if k (ports t) (some-waits k (ports t) i (decoded []) (in_ports t s i h) itself) ((port_firm t s i h).unready w)

pub waiting_for_someone : WaitingForSomeone
waiting_for_someone t m i h w =
    let k = (port_at t i).aggregator in
    let x = holder k (ports t) (sound-waits t (never_stuck t m) i h w) in
    let there : x.index < count_in t = rw ports-length at x.inside in
    record { port = x.index; there = there; holds = ap (holds_back k) (sym (ports-at t x.index (decoded []) there)) ∙ x.holds (decoded []) }

-- ---- the register adds up

not_within : (low a high : ℕ) → (low ≤ a → a ≤ high → ⊥) → within low a high ≡ false
not_within low a high f = by (within low a high) refl
  where
    by : (b : Bool) → within low a high ≡ b → b ≡ false
    by true e = absurd (f (within-true low a high e).0 (within-true low a high e).1)
    by false e = refl

same-within : (a n : ℕ) → a ≢ suc n → within 1 a n ≡ within 1 a (suc n)
same-within a n differ = by (within 1 a (suc n)) refl
  where
    by : (b : Bool) → within 1 a (suc n) ≡ b → within 1 a n ≡ b
    by true e =
        let low : 1 ≤ a = (within-true 1 a (suc n) e).0 in
        let high : a ≤ suc n = (within-true 1 a (suc n) e).1 in
        within-is 1 a n low (omega (arith, differ))
    by false e = not_within 1 a n (λ low high. true≢false (sym (within-is 1 a (suc n) low (omega arith)) ∙ e))

-- a port that carries, of an aggregator of 1 to n
abbrev up_to : ℕ → Port → Bool
up_to n p = carries p && within 1 p.aggregator n

one_more : (c : Bool) (a n : ℕ) → weighed (c && within 1 a n) 1 + weighed (eqb a (suc n) && c) 1 ≡ weighed (c && within 1 a (suc n)) 1
one_more c a n = by (eqb a (suc n)) refl c
  where
    by : (b : Bool) → eqb a (suc n) ≡ b → (c : Bool) → weighed (c && within 1 a n) 1 + weighed (b && c) 1 ≡ weighed (c && within 1 a (suc n)) 1
    by true e true =
        let is : a ≡ suc n = eqb-true a (suc n) e in
        rw (not_within 1 a n (λ low high. omega arith), within-is 1 a (suc n) (omega arith) (omega arith))
    by true e false = refl
    by false e true = rw (same-within a n (eqb-false a (suc n) e)) (omega arith)
    by false e false = refl

counted-more : (n : ℕ) (ps : List Port) → counted (up_to n) ps + counted (sends_on (suc n)) ps ≡ counted (up_to (suc n)) ps
unfolding counted
counted-more n [] = refl
counted-more n (p ∷ ps) =
    let here = one_more (carries p) p.aggregator n in
    let rest = counted-more n ps in
    omega arith

counted_none : (ps : List Port) → counted (up_to 0) ps ≡ 0
unfolding counted
counted_none [] = refl
counted_none (p ∷ ps) = rw (not_within 1 p.aggregator 0 (λ low high. omega arith), counted_none ps) (by (carries p))
  where
    by : (c : Bool) → weighed (c && false) 1 + 0 ≡ 0
    by true = refl
    by false = refl

counted-all : (n : ℕ) (ps : List Port) → Each (Fits n) ps → counted (up_to n) ps ≡ counted carries ps
unfolding counted
counted-all n [] e = refl
counted-all n (p ∷ ps) e =
    rw ((ranged n p (e 0 p (omega arith))).aggregator, counted-all n ps (λ i d h. e (suc i) d (omega arith))) (by (carries p))
  where
    by : (c : Bool) → weighed (c && true) 1 + counted carries ps ≡ weighed c 1 + counted carries ps
    by true = refl
    by false = refl

exclusive : (a k l : ℕ) (d : Bool) → k ≢ l → (eqb a k && d) && (eqb a l && d) ≡ false
exclusive a k l d differ = by (eqb a k) refl (eqb a l) refl d
  where
    by : (b : Bool) → eqb a k ≡ b → (c : Bool) → eqb a l ≡ c → (d : Bool) → (b && d) && (c && d) ≡ false
    by true x true y d = absurd (differ (sym (eqb-true a k x) ∙ eqb-true a l y))
    by true x false y true = refl
    by true x false y false = refl
    by false x c y d = refl

module _ (t : List ℕ) (s : Sound t) where
  reported : (k : ℕ) → 1 ≤ k → k ≤ count_in t → SetsTrue k t (sets_told (aggregator_report k t))
  unfolding aggregator_report
  reported k low high =
      let done : answer (aggregator k) t ≡ Ok Done = unfold answer in rw (s.ranged, within-is 1 k (count_in t) low high) in
      rw done (told-true t k Done done)

  counts_are : (n : ℕ) → n ≤ count_in t → counts_to t n ≡ counted (up_to n) (ports t)
  unfolding counts_to
  counts_are zero h = sym (counted_none (ports t))
  counts_are (suc n) h =
      (λ j. counts_are n (omega arith) j + (reported (suc n) (omega arith) h).count j) ∙ counted-more n (ports t)

  sound-register : Register t
  sound-register = record {
    apart = λ k l a b c d differ i. apart k l a b c d differ i (ltb i (count_in t)) refl;
    held = λ i h d.
        let a = (ranged (count_in t) (port_at t i) (port-fits t s i h)).aggregator in
        let k = (port_at t i).aggregator in
        (reported k (within-true 1 k (count_in t) a).0 (within-true 1 k (count_in t) a).1).distributing i h ∙ rw (eq-eqb k k refl, d);
    adds = counts_are (count_in t) (omega arith) ∙ counted-all (count_in t) (ports t) (table_fits t s);
  }
    where
      apart : (k l : ℕ) → 1 ≤ k → k ≤ count_in t → 1 ≤ l → l ≤ count_in t → k ≢ l → (i : ℕ) (b : Bool) → ltb i (count_in t) ≡ b
          → member (sets_told (aggregator_report k t)).distributing i && member (sets_told (aggregator_report l t)).distributing i ≡ false
      apart k l a b c d differ i true e =
          let h = ltb-true i (count_in t) e in
          rw ((reported k a b).distributing i h, (reported l c d).distributing i h) (exclusive (port_at t i).aggregator k l (carries (port_at t i)) differ)
      apart k l a b c d differ i false e = rw ((reported k a b).nobody i (ltb-false i (count_in t) e)).2

pub register-adds-up : RegisterAddsUp
register-adds-up t m = sound-register t (never_stuck t m)
