-- Steps 3 and 4 by groups: those whose lowest port is below i are done. One more port that is the lowest of its group does that group, and
-- one that is not does nothing. Then step 5 by the set of aggregators that are held back. Assumes nothing.
use Prim.Native.Nat.{ℕ, zero, suc, ◌+◌, ◌-◌, ◌≤◌, ◌<◌}
use mathlib.Core.Path.{◌≡◌, refl, sym, ap, ◌∙◌}
use mathlib.Core.Bool.{Bool, true, false, cond, not, ◌&&◌, ◌||◌, and-false, or-true, true≢false}
use mathlib.Core.List.{List, [], ◌∷◌, map}
use native.Mathlib.Omega.{arith}
use lib.ListN.{length, get_or, drop}
use lib.Seq.{drop-cons}
use lib.Dec.{eqb, ltb, leb}
use borrow.Author.Tests.{eqb-true, eqb-false, eq-eqb, ne_eqb, lt-ltb, le-ltb, ltb-true, ltb-false, le-leb, leb-true}
use Rattle.octets.specs.Lists.{map_from}
use Rattle.octets.specs.Octets.{Octets}
use Rattle.octets.specs.Sets.{member}
use Rattle.octets.proofs.ListLaws.{sweep_alike, sweep_sweep, sweep_keeps, sweep_same}
use Rattle.octets.proofs.RangeLaws.{both, within-true}
use Rattle.octets.proofs.SetLaws.{none-member}
use Rattle.machine.specs.Mux.{waits}
use Rattle.machine.specs.Time.{ran_out}
use Rattle.port.specs.declared.record.Port.{Port}
use Rattle.port.specs.Compared.{Compared, compared}
use Rattle.port.specs.Mux.{attached_if}
use Rattle.port.proofs.RangeLaws.{ranged}
use Rattle.table.specs.declared.layout.Header.{Header}
use Rattle.table.specs.Table.{InTable, count_in, port_at}
use Rattle.table.proofs.TableLaws.{in_range, ranged-at}
use Rattle.trunk.specs.Selection.{individual, same_group, nobody, joins, shares_group, lowest, rule_of}
use Rattle.trunk.specs.Ready.{waits_for, holds_back, held_back}
use Rattle.trunk.specs.Settled.{selecting, selected_all, attaching, Chosen}
use Rattle.trunk.specs.Groups.{since, placing, may_attach, attached_unless}
use Rattle.trunk.proofs.GroupLaws.{shares_refl, shares-other, shares_sym, lowest-le, lowest-shares, lowest_shared}
use Rattle.trunk.proofs.KeepLaws.{reselected-compared}
use Rattle.trunk.proofs.StepLaws.{held_none, attach_free, attach_held}

-- ---- the set of a port that is the lowest of its group

-- who is in it has that port for its lowest
pub since-is : (ours : Header) (cs : List Compared) (i : ℕ) → lowest ours cs i ≡ i → (m : ℕ) → since ours cs i m ≡ eqb (lowest ours cs m) i
since-is ours cs i low m = by (shares_group ours cs i m) refl
  where
    by : (b : Bool) → shares_group ours cs i m ≡ b → leb i m && b ≡ eqb (lowest ours cs m) i
    by true e =
        let is : lowest ours cs m ≡ i = sym (lowest_shared ours cs i m e) ∙ low in
        let over : i ≤ m = omega (arith, lowest-le ours cs m, is) in
        rw (le-leb i m over, eq-eqb (lowest ours cs m) i is)
    by false e =
        let differ : lowest ours cs m ≡ i → ⊥ = λ is.
        true≢false (sym (shares_sym ours cs m i (rw is at (lowest-shares ours cs m))) ∙ e) in
        and-false (leb i m) ∙ sym (ne_eqb (lowest ours cs m) i differ)

-- nobody before it is
pub since-before : (ours : Header) (cs : List Compared) (i m : ℕ) → m < i → since ours cs i m ≡ false
since-before ours cs i m h = by (leb i m) refl
  where
    by : (b : Bool) → leb i m ≡ b → b && shares_group ours cs i m ≡ false
    by true e = absurd (omega (arith, leb-true i m e, h))
    by false e = refl

get_d_beyond : {A : Type 0} (l : List A) (i : ℕ) (d : A) → length l ≤ i → get_or l i d ≡ d
get_d_beyond [] i d h = refl
get_d_beyond (x ∷ l) zero d h = absurd (omega arith)
get_d_beyond (x ∷ l) (suc i) d h = get_d_beyond l i d (omega arith)

-- ---- that set, port by port: those below j are looked at

abbrev pub so_far : Header → List Compared → ℕ → ℕ → ℕ → Bool
so_far ours cs i j m = leb i m && (ltb m j && shares_group ours cs i m)

module _ (ours : Header) (cs : List Compared) (i : ℕ) where
  pub group-begins : (set : ℕ) → ((m : ℕ) → member set m ≡ (eqb m i || member 0 m)) → (m : ℕ) → member set m ≡ so_far ours cs i (i + 1) m
  group-begins set e m = e m ∙ by (eqb m i) refl
    where
      other : (a b : Bool) → leb i m ≡ a → ltb m (i + 1) ≡ b → (m ≡ i → ⊥) → false ≡ (a && (b && shares_group ours cs i m))
      other false b x y differ = refl
      other true false x y differ = refl
      other true true x y differ = absurd (differ (omega (arith, leb-true i m x, ltb-true m (i + 1) y)))

      by : (b : Bool) → eqb m i ≡ b → (b || member 0 m) ≡ so_far ours cs i (i + 1) m
      by true x =
          let is : m ≡ i = eqb-true m i x in
          let over : i ≤ m = omega (arith, is) in
          let under : m < i + 1 = omega (arith, is) in
          rw (le-leb i m over, lt-ltb m (i + 1) under, is) (sym (shares_refl ours cs i))
      by false x = none-member m ∙ other (leb i m) (ltb m (i + 1)) refl refl (eqb-false m i x)

  -- an individual port is alone
  pub group-alone : (set : ℕ) → individual ours (get_or cs i nobody) ≡ true → ((m : ℕ) → member set m ≡ (eqb m i || member 0 m)) → (m : ℕ) → member set m ≡ since ours cs i m
  unfolding joins same_group
  group-alone set alone e m = e m ∙ by (eqb m i) refl
    where
      by : (b : Bool) → eqb m i ≡ b → (b || member 0 m) ≡ since ours cs i m
      by true x =
          let is : m ≡ i = eqb-true m i x in
          rw (is, le-leb i i (omega arith)) (sym (shares_refl ours cs i))
      by false x =
          let apart : shares_group ours cs i m ≡ false = shares-other ours cs i m (λ y. eqb-false m i x (sym y)) ∙ rw alone in
          none-member m ∙ sym (ap (λ (b : Bool). leb i m && b) apart ∙ and-false (leb i m))

  pub group-more : (j set next : ℕ) (b : Bool) → i < j → b ≡ joins ours cs i j → ((m : ℕ) → member set m ≡ so_far ours cs i j m)
      → ((m : ℕ) → member next m ≡ ((b && eqb m j) || member set m)) → (m : ℕ) → member next m ≡ so_far ours cs i (j + 1) m
  group-more j set after b less is e f m = f m ∙ by (eqb m j) refl
    where
      both_no : (x : Bool) → (x && true) || false ≡ x
      both_no true = refl
      both_no false = refl

      by : (x : Bool) → eqb m j ≡ x → ((b && x) || member set m) ≡ so_far ours cs i (j + 1) m
      by true x =
          let at : m ≡ j = eqb-true m j x in
          let over : i ≤ j = omega arith in
          let differ : i ≡ j → ⊥ = λ y. omega (arith, y, less) in
          rw (e m, at, le-leb i j over, le-ltb j j (omega arith), lt-ltb j (j + 1) (omega arith), shares-other ours cs i j differ, ← is) (both_no b)
      by false x = rw (and-false b, e m, beside (ltb m j) refl)
        where
          beside : (y : Bool) → ltb m j ≡ y → ltb m (j + 1) ≡ ltb m j
          beside true y = lt-ltb m (j + 1) (omega (arith, ltb-true m j y)) ∙ sym y
          beside false y = le-ltb m (j + 1) (omega (arith, ltb-false m j y, eqb-false m j x)) ∙ sym y

  -- there is nobody beyond the last
  apart-beyond : (m : ℕ) → length cs ≤ m → (i ≡ m → ⊥) → shares_group ours cs i m ≡ false
  unfolding joins same_group individual
  apart-beyond m h differ =
      shares-other ours cs i m differ ∙ ap (λ (c : Compared). same_group ours (get_or cs i nobody) c) (get_d_beyond cs m nobody h)
      ∙ and-false (not (individual ours (get_or cs i nobody)))

  pub group-ends : (set n : ℕ) → i < n → length cs ≡ n → ((m : ℕ) → member set m ≡ so_far ours cs i n m) → (m : ℕ) → member set m ≡ since ours cs i m
  group-ends set n inside size e m = e m ∙ by (ltb m n) refl
    where
      by : (b : Bool) → ltb m n ≡ b → (leb i m && (b && shares_group ours cs i m)) ≡ since ours cs i m
      by true x = refl
      by false x =
          let over : n ≤ m = ltb-false m n x in
          ap (λ (b : Bool). leb i m && b) (sym (apart-beyond m (omega (arith, size, over)) (λ y. omega (arith, y, inside, over))))

-- a port that is not the lowest of its group is nobody's lowest
nobodys : (ours : Header) (cs : List Compared) (i : ℕ) → lowest ours cs i < i → (m : ℕ) → lowest ours cs m ≡ i → ⊥
nobodys ours cs i h m is =
    let shared : shares_group ours cs m i ≡ true = rw is at (lowest-shares ours cs m) in
    let same : lowest ours cs m ≡ lowest ours cs i = lowest_shared ours cs m i shared in
    omega (arith, same, is, h)

or_no : (b : Bool) → b || false ≡ b
or_no true = refl
or_no false = refl

-- ---- steps 3 and 4 for the groups whose lowest port is below i

abbrev pub done_below : Header → List Port → ℕ → ℕ → Port → Port
done_below ours ps i m p = cond (ltb (lowest ours (map compared ps) m) i) (selecting ours ps m p) p

module _ (ours : Header) (ps : List Port) where
  -- none
  pub below_none : map_from (done_below ours ps 0) 0 ps ≡ ps
  below_none = sweep_same (done_below ours ps 0) 0 ps (λ m p. rw (le-ltb (lowest ours (map compared ps) m) 0 (omega arith)))

  -- all
  pub below_all : (n : ℕ) → length ps ≡ n → map_from (done_below ours ps n) 0 ps ≡ selected_all ours ps
  unfolding selected_all
  below_all n e =
      sweep_alike (done_below ours ps n) (selecting ours ps) 0 ps
      (λ m p a h. rw (lt-ltb (lowest ours (map compared ps) m) n (omega (arith, lowest-le ours (map compared ps) m))))

  -- what the rule reads is kept
  pub below_compares : (i : ℕ) → map compared (map_from (done_below ours ps i) 0 ps) ≡ map compared ps
  below_compares i = sweep_keeps compared (done_below ours ps i) (λ m p. by m p (ltb (lowest ours (map compared ps) m) i)) 0 ps
    where
      by : (m : ℕ) (p : Port) (b : Bool) → compared (cond b (selecting ours ps m p) p) ≡ compared p
      by m p true = reselected-compared (rule_of ours (map compared ps) m) p
      by m p false = refl

  module _ (i : ℕ) where
    low : ℕ → ℕ
    low m = lowest ours (map compared ps) m

    -- below or at
    next : (m : ℕ) → (low m ≡ i → ⊥) → ltb (low m) (i + 1) ≡ ltb (low m) i
    unfolding low
    next m differ = by (ltb (low m) i) refl
      where
        by : (b : Bool) → ltb (low m) i ≡ b → ltb (low m) (i + 1) ≡ b
        by true e = lt-ltb (low m) (i + 1) (omega (arith, ltb-true (low m) i e))
        by false e = le-ltb (low m) (i + 1) (omega (arith, ltb-false (low m) i e, differ))

    -- a port that is not the lowest of its group has nothing to give
    pub below-same : lowest ours (map compared ps) i < i → map_from (done_below ours ps i) 0 ps ≡ map_from (done_below ours ps (i + 1)) 0 ps
    unfolding low
    below-same h =
        sweep_alike (done_below ours ps i) (done_below ours ps (i + 1)) 0 ps
        (λ m p a b. ap (λ (x : Bool). cond x (selecting ours ps m p) p) (sym (next m (nobodys ours (map compared ps) i h m))))

    pub below-done : lowest ours (map compared ps) i < i → (done : ℕ) → ((m : ℕ) → member done m ≡ ltb (lowest ours (map compared ps) m) i)
        → (m : ℕ) → member done m ≡ ltb (lowest ours (map compared ps) m) (i + 1)
    unfolding low
    below-done h done e m = e m ∙ sym (next m (nobodys ours (map compared ps) i h m))

    -- the lowest of its group gives its aggregator to the set
    module _ (is-low : lowest ours (map compared ps) i ≡ i) (set : ℕ) (is_set : (m : ℕ) → member set m ≡ since ours (map compared ps) i m) where
      bit : (m : ℕ) → member set m ≡ eqb (low m) i
      unfolding low
      bit m = is_set m ∙ since-is ours (map compared ps) i is-low m

      one : (m : ℕ) (p : Port) → placing set i m (done_below ours ps i m p) ≡ done_below ours ps (i + 1) m p
      unfolding low rule_of
      one m p = by (eqb (low m) i) refl
        where
          by : (b : Bool) → eqb (low m) i ≡ b → placing set i m (done_below ours ps i m p) ≡ done_below ours ps (i + 1) m p
          by true e =
              let is : low m ≡ i = eqb-true (low m) i e in
              rw (bit m, e, le-ltb (low m) i (omega (arith, is)), lt-ltb (low m) (i + 1) (omega (arith, is)), is)
          by false e = rw (bit m, e, next m (eqb-false (low m) i e))

      pub below_more : map_from (placing set i) 0 (map_from (done_below ours ps i) 0 ps) ≡ map_from (done_below ours ps (i + 1)) 0 ps
      below_more =
          sweep_sweep (placing set i) (done_below ours ps i) 0 ps
          ∙ sweep_alike (λ m p. placing set i m (done_below ours ps i m p)) (done_below ours ps (i + 1)) 0 ps (λ m p a b. one m p)

      pub more-done : (done next : ℕ) → ((m : ℕ) → member done m ≡ ltb (lowest ours (map compared ps) m) i) → ((m : ℕ) → member next m ≡ (member done m || member set m))
          → (m : ℕ) → member next m ≡ ltb (lowest ours (map compared ps) m) (i + 1)
      unfolding low
      more-done done after e f m = f m ∙ by (eqb (low m) i) refl
        where
          by : (b : Bool) → eqb (low m) i ≡ b → (member done m || member set m) ≡ ltb (low m) (i + 1)
          by true x =
              let is : low m ≡ i = eqb-true (low m) i x in
              rw (bit m, x, or-true (member done m), lt-ltb (low m) (i + 1) (omega (arith, is)))
          by false x = rw (bit m, x, or_no (member done m), e m) (sym (next m (eqb-false (low m) i x)))

-- ---- step 5

-- one record more
pub held_next : (k : ℕ) (ps : List Port) (i : ℕ) (d : Port) → i < length ps → held_back k (drop i ps) ≡ (holds_back k (get_or ps i d) || held_back k (drop (suc i) ps))
unfolding held_back
held_next k ps i d h = rw (drop-cons ps i d h)

-- a port that waits with its timer running holds back the aggregator that it holds, and no other; any other port holds back none
holds-one : (k : ℕ) (p : Port) → 1 ≤ p.aggregator → waits p.phase.mux && not (ran_out p.timers.wait) ≡ true → holds_back (k + 1) p ≡ eqb k (p.aggregator - 1)
unfolding holds_back waits_for
holds-one k p some e =
    let h = both (waits p.phase.mux) (not (ran_out p.timers.wait)) e in
    rw (h.0, h.1) (and-true-right (eqb p.aggregator (k + 1)) ∙ same (eqb k (p.aggregator - 1)) refl)
  where
    and-true-right : (b : Bool) → b && true && true ≡ b
    and-true-right true = refl
    and-true-right false = refl

    same : (b : Bool) → eqb k (p.aggregator - 1) ≡ b → eqb p.aggregator (k + 1) ≡ b
    same true x = eq-eqb p.aggregator (k + 1) (omega (arith, some, eqb-true k (p.aggregator - 1) x))
    same false x = ne_eqb p.aggregator (k + 1) (λ y. eqb-false k (p.aggregator - 1) x (omega (arith, some, y)))

holds-none : (k : ℕ) (p : Port) → waits p.phase.mux && not (ran_out p.timers.wait) ≡ false → holds_back k p ≡ false
unfolding holds_back waits_for
holds-none k p e = by (eqb p.aggregator k) (waits p.phase.mux) e
  where
    by : (a w : Bool) → w && not (ran_out p.timers.wait) ≡ false → (a && w) && not (ran_out p.timers.wait) ≡ false
    by true w h = h
    by false w h = refl

pub held_more : (ps : List Port) (i : ℕ) (d : Port) → i < length ps → 1 ≤ (get_or ps i d).aggregator
    → waits (get_or ps i d).phase.mux && not (ran_out (get_or ps i d).timers.wait) ≡ true → (set next : ℕ)
    → ((k : ℕ) → member set k ≡ held_back (k + 1) (drop (suc i) ps)) → ((k : ℕ) → member next k ≡ (eqb k ((get_or ps i d).aggregator - 1) || member set k))
    → (k : ℕ) → member next k ≡ held_back (k + 1) (drop i ps)
held_more ps i d h some e set after f g k =
    g k ∙ (λ j. sym (holds-one k (get_or ps i d) some e) j || f k j) ∙ sym (held_next (k + 1) ps i d h)

pub held_same : (ps : List Port) (i : ℕ) (d : Port) → i < length ps
    → waits (get_or ps i d).phase.mux && not (ran_out (get_or ps i d).timers.wait) ≡ false → (set : ℕ)
    → ((k : ℕ) → member set k ≡ held_back (k + 1) (drop (suc i) ps)) → (k : ℕ) → member set k ≡ held_back (k + 1) (drop i ps)
held_same ps i d h e set f k =
    f k ∙ ap (λ (b : Bool). b || held_back (k + 1) (drop (suc i) ps)) (sym (holds-none (k + 1) (get_or ps i d) e)) ∙ sym (held_next (k + 1) ps i d h)

pub held_end : (ps : List Port) (n : ℕ) → length ps ≡ n → (k : ℕ) → member 0 k ≡ held_back (k + 1) (drop n ps)
held_end ps n e k = none-member k ∙ sym (held_none (k + 1) ps n e)

-- a SELECTED port attaches as step 5 has it
pub attaches : (ps : List Port) (i : ℕ) (d : Port) → i < length ps → Chosen (get_or ps i d) → 1 ≤ (get_or ps i d).aggregator → (held : ℕ)
    → ((k : ℕ) → member held k ≡ held_back (k + 1) ps) → attached_unless held (get_or ps i d) ≡ attaching ps (get_or ps i d)
attaches ps i d h chosen some held f = by (may_attach held p) refl
  where
    p : Port
    p = get_or ps i d

    back : member held (p.aggregator - 1) ≡ held_back p.aggregator ps
    back = let e : p.aggregator - 1 + 1 ≡ p.aggregator = omega (arith, some) in f (p.aggregator - 1) ∙ ap (λ (k : ℕ). held_back k ps) e

    by : (b : Bool) → may_attach held p ≡ b → cond b (attached_if true p) p ≡ attaching ps p
    by true e = attach_free ps i d h (ap (λ (x : Bool). waits p.phase.mux && not x) (sym back) ∙ e)
    by false e = sym (attach_held ps i d h chosen (ap (λ (x : Bool). waits p.phase.mux && not x) (sym back) ∙ e))

-- ---- the aggregator that a port of a table in range holds

pub holds-some : (t : List ℕ) (i : ℕ) → InTable t i → Octets t → (1 ≤ (port_at t i).aggregator) × ((port_at t i).aggregator ≤ 32)
holds-some t i at o =
    let w = within-true 1 (port_at t i).aggregator (count_in t) (ranged (count_in t) (port_at t i) (ranged-at t at.0 o i at.1)).aggregator in
    let most = (in_range t at.0).most in
    (w.0, omega (arith, w.1, most))
