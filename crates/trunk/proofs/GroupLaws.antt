-- Sharing a group is an equivalence, each group has one lowest-numbered port, and the rule gives two ports one aggregator exactly if they
-- share a group. By what a search from the front finds first. Assumes nothing.
use Prim.Native.Nat.{ℕ, zero, suc, ◌+◌, ◌<◌, ◌≤◌}
use mathlib.Core.Path.{◌≡◌, refl, sym, ap, ◌∙◌}
use mathlib.Core.Bool.{Bool, true, false, cond, not, or-true, true≢false}
use mathlib.Core.List.{List}
use native.Mathlib.Omega.{arith}
use lib.ListN.{get_or}
use lib.Dec.{eqb, ltb}
use borrow.Author.Tests.{eqb-true, eqb-false, eq-eqb, ne_eqb, not-true, ltb-true, ltb-false}
use Rattle.octets.proofs.RangeLaws.{both}
use Rattle.frame.specs.declared.block.SystemId.{SystemId}
use Rattle.machine.specs.Compare.{same_system}
use Rattle.machine.proofs.CompareLaws.{system-true, system_refl}
use Rattle.port.specs.Compared.{Compared}
use Rattle.table.specs.declared.layout.Header.{Header}
use Rattle.trunk.specs.Selection.{individual, same_keys, same_group, nobody, joins, shares_group, first_from, lowest, rule_of}

-- ---- sharing a group is an equivalence

-- what sharing a group says
pub record Together (ours : Header) (c d : Compared) : Type 0 where
  pub first : individual ours c ≡ false
  pub second : individual ours d ≡ false
  pub key : c.key ≡ d.key
  pub system : c.system ≡ d.system
  pub partner_key : c.partner_key ≡ d.partner_key

pub together : (ours : Header) (c d : Compared) → same_group ours c d ≡ true → Together ours c d
unfolding same_group same_keys
together ours c d e =
    let x = both (not (individual ours c)) _ e in
    let y = both (not (individual ours d)) _ x.1 in
    let k = both (eqb c.key d.key) _ y.1 in
    let s = both (same_system c.system d.system) _ k.1 in
    record {
      first = not-true (individual ours c) x.0;
      second = not-true (individual ours d) y.0;
      key = eqb-true c.key d.key k.0;
      system = system-true c.system d.system s.0;
      partner_key = eqb-true c.partner_key d.partner_key s.1;
    }

same_systems : (x y : SystemId) → x ≡ y → same_system x y ≡ true
same_systems x y e = rw e (system_refl y)

pub together-is : (ours : Header) (c d : Compared) → Together ours c d → same_group ours c d ≡ true
unfolding same_group same_keys
together-is ours c d t =
    rw (t.first, t.second, eq-eqb c.key d.key t.key, same_systems c.system d.system t.system, eq-eqb c.partner_key d.partner_key t.partner_key)

module _ (ours : Header) where
  group_sym : (c d : Compared) → same_group ours c d ≡ true → same_group ours d c ≡ true
  group_sym c d e =
      let t = together ours c d e in
      together-is ours d c
      (record { first = t.second; second = t.first; key = sym t.key; system = sym t.system; partner_key = sym t.partner_key })

  group_trans : (c d e : Compared) → same_group ours c d ≡ true → same_group ours d e ≡ true → same_group ours c e ≡ true
  group_trans c d e x y =
      let t = together ours c d x in
      let u = together ours d e y in
      together-is ours c e
      (record { first = t.first; second = u.second; key = t.key ∙ u.key; system = t.system ∙ u.system; partner_key = t.partner_key ∙ u.partner_key })

module _ (ours : Header) (cs : List Compared) where
  -- R10.3: every port is in a group with itself
  pub shares_refl : (i : ℕ) → shares_group ours cs i i ≡ true
  unfolding shares_group
  shares_refl i = rw (eq-eqb i i refl)

  -- two ports that join share a group
  joins-shares : (i j : ℕ) → joins ours cs i j ≡ true → shares_group ours cs i j ≡ true
  unfolding shares_group
  joins-shares i j e = rw (e, or-true (eqb i j))

  -- of two other ports, to share a group is to join
  pub shares-other : (i j : ℕ) → (i ≡ j → ⊥) → shares_group ours cs i j ≡ joins ours cs i j
  unfolding shares_group
  shares-other i j e = rw (ne_eqb i j e)

  -- symmetric
  pub shares_sym : (i j : ℕ) → shares_group ours cs i j ≡ true → shares_group ours cs j i ≡ true
  unfolding joins
  shares_sym i j e = by (eqb i j) refl
    where
      by : (b : Bool) → eqb i j ≡ b → shares_group ours cs j i ≡ true
      by true q = let is : i ≡ j = eqb-true i j q in rw is (shares_refl j)
      by false q =
          let differ : i ≡ j → ⊥ = eqb-false i j q in
          joins-shares j i (group_sym ours (get_or cs i nobody) (get_or cs j nobody) (sym (shares-other i j differ) ∙ e))

  -- transitive
  pub shares_trans : (i j k : ℕ) → shares_group ours cs i j ≡ true → shares_group ours cs j k ≡ true → shares_group ours cs i k ≡ true
  unfolding joins
  shares_trans i j k x y = by (eqb i j) (eqb j k) refl refl
    where
      by : (a b : Bool) → eqb i j ≡ a → eqb j k ≡ b → shares_group ours cs i k ≡ true
      by true b p q = let is : i ≡ j = eqb-true i j p in rw is y
      by false true p q = let is : j ≡ k = eqb-true j k q in rw is at x
      by false false p q =
          joins-shares i k
          (group_trans ours (get_or cs i nobody) (get_or cs j nobody) (get_or cs k nobody) (sym (shares-other i j (eqb-false i j p)) ∙ x)
          (sym (shares-other j k (eqb-false j k q)) ∙ y))

-- ---- the search

-- what the search for a test finds: within its bounds, and the first that passes
pub record First (f : ℕ → Bool) (j n r : ℕ) : Type 0 where
  pub above : j ≤ r
  pub within : r ≤ j + n
  pub passes : r < j + n → f r ≡ true
  pub none : (k : ℕ) → j ≤ k → k < r → f k ≡ false

first-is : (f : ℕ → Bool) (j n : ℕ) → First f j n (first_from f j n)
unfolding first_from
first-is f j zero = record { above = omega arith; within = omega arith; passes = λ h. absurd (omega arith); none = λ k a b. absurd (omega arith) }
first-is f j (suc n) = by (f j) refl (first-is f (j + 1) n)
  where
    by : (b : Bool) → f j ≡ b → First f (j + 1) n (first_from f (j + 1) n) → First f j (suc n) (cond b j (first_from f (j + 1) n))
    by true e t = record { above = omega arith; within = omega arith; passes = λ h. e; none = λ k a b. absurd (omega arith) }
    by false e t = record {
      above = omega (arith, t.above);
      within = omega (arith, t.within);
      passes = λ h. t.passes (omega arith);
      none = λ k a b. at k (eqb j k) refl a b;
    }
      where
        at : (k : ℕ) (b : Bool) → eqb j k ≡ b → j ≤ k → k < first_from f (j + 1) n → f k ≡ false
        at k true q a b = let is : j ≡ k = eqb-true j k q in rw is at e
        at k false q a b = let differ : j ≡ k → ⊥ = eqb-false j k q in t.none k (omega arith) b

-- two tests that agree find the same
first-same : (f g : ℕ → Bool) (j n : ℕ) → ((k : ℕ) → j ≤ k → k < j + n → f k ≡ g k) → first_from f j n ≡ first_from g j n
unfolding first_from
first-same f g j zero e = refl
first-same f g j (suc n) e =
    let here : f j ≡ g j = e j (omega arith) (omega arith) in
    let there : first_from f (j + 1) n ≡ first_from g (j + 1) n = first-same f g (j + 1) n (λ k a b. e k (omega arith) (omega arith)) in
    rw (here, there)

-- ---- the lowest-numbered port of a group

module _ (ours : Header) (cs : List Compared) where
  lowest-first : (i : ℕ) → First (joins ours cs i) 0 i (lowest ours cs i)
  unfolding lowest
  lowest-first i = first-is (joins ours cs i) 0 i

  -- it is not above the port
  pub lowest-le : (i : ℕ) → lowest ours cs i ≤ i
  lowest-le i = omega (arith, (lowest-first i).within)

  -- it shares the port's group
  pub lowest-shares : (i : ℕ) → shares_group ours cs i (lowest ours cs i) ≡ true
  lowest-shares i = by (eqb i (lowest ours cs i)) refl
    where
      by : (b : Bool) → eqb i (lowest ours cs i) ≡ b → shares_group ours cs i (lowest ours cs i) ≡ true
      by true e = rw (← eqb-true i (lowest ours cs i) e) (shares_refl ours cs i)
      by false e =
          let differ : i ≡ lowest ours cs i → ⊥ = eqb-false i (lowest ours cs i) e in
          let less : lowest ours cs i < 0 + i = omega (arith, lowest-le i) in
          joins-shares ours cs i (lowest ours cs i) ((lowest-first i).passes less)

  -- no port before it does
  pub lowest-none : (i k : ℕ) → k < lowest ours cs i → shares_group ours cs i k ≡ false
  lowest-none i k h =
      let differ : i ≡ k → ⊥ = λ e. omega (arith, lowest-le i, e) in
      shares-other ours cs i k differ ∙ (lowest-first i).none k (omega arith) h

  not-before : (i k : ℕ) → shares_group ours cs i k ≡ true → lowest ours cs i ≤ k
  not-before i k e = by (ltb k (lowest ours cs i)) refl
    where
      by : (b : Bool) → ltb k (lowest ours cs i) ≡ b → lowest ours cs i ≤ k
      by true q = absurd (true≢false (sym e ∙ lowest-none i k (ltb-true k (lowest ours cs i) q)))
      by false q = ltb-false k (lowest ours cs i) q

  -- a group has one
  pub lowest_shared : (i j : ℕ) → shares_group ours cs i j ≡ true → lowest ours cs i ≡ lowest ours cs j
  lowest_shared i j e =
      let a = lowest ours cs i in
      let b = lowest ours cs j in
      let up : a ≤ b = not-before i b (shares_trans ours cs i j b e (lowest-shares j)) in
      let down : b ≤ a = not-before j a (shares_trans ours cs j i a (shares_sym ours cs i j e) (lowest-shares i)) in
      omega arith

  -- so the rule gives a group one aggregator
  pub rule_shared : (i j : ℕ) → shares_group ours cs i j ≡ true → rule_of ours cs i ≡ rule_of ours cs j
  unfolding rule_of
  rule_shared i j e = ap (λ (n : ℕ). n + 1) (lowest_shared i j e)

  -- and gives it to no other
  pub rule-apart : (i j : ℕ) → rule_of ours cs i ≡ rule_of ours cs j → shares_group ours cs i j ≡ true
  unfolding rule_of
  rule-apart i j e =
      let is : lowest ours cs i ≡ lowest ours cs j = omega arith in
      shares_trans ours cs i (lowest ours cs i) j (lowest-shares i) (rw is (shares_sym ours cs j (lowest ours cs j) (lowest-shares j)))

-- ---- what the rule depends on

-- from cs to ds, another port has become the lowest of i's group
pub data Shift (ours : Header) (cs ds : List Compared) (i : ℕ) : Type 0 where
  lower_joined : (k : ℕ) → k < lowest ours cs i → shares_group ours cs i k ≡ false → shares_group ours ds i k ≡ true → Shift ours cs ds i
  lowest-left : shares_group ours cs i (lowest ours cs i) ≡ true → shares_group ours ds i (lowest ours cs i) ≡ false → Shift ours cs ds i

module _ (ours : Header) (cs ds : List Compared) (i : ℕ) where
  -- where the ports before i that share its group are the same, so is the lowest
  lowest-same : ((j : ℕ) → j < i → shares_group ours cs i j ≡ shares_group ours ds i j) → lowest ours cs i ≡ lowest ours ds i
  unfolding lowest
  lowest-same e = first-same (joins ours cs i) (joins ours ds i) 0 i (λ k a b. by k (omega arith))
    where
      by : (k : ℕ) → k < i → joins ours cs i k ≡ joins ours ds i k
      by k h =
          let differ : i ≡ k → ⊥ = λ q. omega (arith, q) in
          sym (shares-other ours cs i k differ) ∙ e k h ∙ shares-other ours ds i k differ

  pub rule-same : ((j : ℕ) → j < i → shares_group ours cs i j ≡ shares_group ours ds i j) → rule_of ours cs i ≡ rule_of ours ds i
  unfolding rule_of
  rule-same e = ap (λ (n : ℕ). n + 1) (lowest-same e)

  joins-same : (k : ℕ) → get_or cs i nobody ≡ get_or ds i nobody → get_or cs k nobody ≡ get_or ds k nobody → joins ours cs i k ≡ joins ours ds i k
  unfolding joins
  joins-same k a b = rw (a, b)

  -- where what is read of i, and of every port before it that joins it in one of the lists, is the same, so is the lowest
  lowest_depends : get_or cs i nobody ≡ get_or ds i nobody → ((j : ℕ) → j ≤ i → joins ours cs i j ≡ true → get_or cs j nobody ≡ get_or ds j nobody)
      → ((j : ℕ) → j ≤ i → joins ours ds i j ≡ true → get_or cs j nobody ≡ get_or ds j nobody) → lowest ours cs i ≡ lowest ours ds i
  unfolding lowest
  lowest_depends here left right = first-same (joins ours cs i) (joins ours ds i) 0 i (λ k a b. by k (omega arith) (joins ours cs i k) (joins ours ds i k) refl refl)
    where
      by : (k : ℕ) → k ≤ i → (a b : Bool) → joins ours cs i k ≡ a → joins ours ds i k ≡ b → joins ours cs i k ≡ joins ours ds i k
      by k h true b x y = joins-same k here (left k h x)
      by k h false true x y = joins-same k here (right k h y)
      by k h false false x y = x ∙ sym y

  -- where the rule gives i another aggregator, a port below the lowest of its group has joined it, or the lowest has left it
  pub rule_shifts : (rule_of ours cs i ≡ rule_of ours ds i → ⊥) → Shift ours cs ds i
  unfolding rule_of
  rule_shifts e = by (shares_group ours ds i (lowest ours cs i)) refl
    where
      by : (b : Bool) → shares_group ours ds i (lowest ours cs i) ≡ b → Shift ours cs ds i
      by true x =
          let differ : lowest ours ds i ≡ lowest ours cs i → ⊥ = λ q. e (ap (λ (n : ℕ). n + 1) (sym q)) in
          let below : lowest ours ds i < lowest ours cs i = omega (arith, not-before ours ds i (lowest ours cs i) x) in
          lower_joined (lowest ours ds i) below (lowest-none ours cs i (lowest ours ds i) below) (lowest-shares ours ds i)
      by false x = lowest-left (lowest-shares ours cs i) x
