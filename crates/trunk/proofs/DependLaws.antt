-- What steps 3 to 6 make of a port depends on the ports of its group alone: the rule gives them one aggregator and no other port that
-- one, and Ready of an aggregator looks at the ports that hold it. Assumes nothing.
use Prim.Native.Nat.{ℕ, suc, ◌<◌}
use mathlib.Core.Path.{◌≡◌, refl, sym, ap, ◌∙◌}
use mathlib.Core.Bool.{Bool, true, false, true≢false}
use mathlib.Core.List.{List, [], ◌∷◌, map}
use native.Mathlib.Omega.{arith}
use lib.ListN.{length, get_or}
use borrow.Author.Tests.{ne_eqb}
use Rattle.octets.proofs.ListLaws.{map_at}
use Rattle.port.specs.declared.record.Port.{Port}
use Rattle.port.specs.Compared.{Compared, compared}
use Rattle.port.specs.Mux.{attached_if}
use Rattle.table.specs.declared.layout.Header.{Header}
use Rattle.trunk.specs.Selection.{nobody, joins, shares_group, rule_of}
use Rattle.trunk.specs.Ready.{waits_for, has_waiting, holds_back, held_back, ready}
use Rattle.trunk.specs.Settled.{selected_all, muxed, settled}
use Rattle.trunk.proofs.GroupLaws.{shares_refl, rule_shared, rule-apart, rule-same}
use Rattle.trunk.proofs.SettledLaws.{selected-length, selected-at, selected-rule, settled_at}

-- ---- Ready looks at the ports that hold the aggregator

-- a port that holds another aggregator does not wait for k, and does not hold it back
other-waits : (k : ℕ) (p : Port) → (p.aggregator ≡ k → ⊥) → waits_for k p ≡ false
unfolding waits_for
other-waits k p e = rw (ne_eqb p.aggregator k e)

other-holds : (k : ℕ) (p : Port) → (p.aggregator ≡ k → ⊥) → holds_back k p ≡ false
unfolding holds_back
other-holds k p e = rw (other-waits k p e)

waiting-same : (k : ℕ) (ps qs : List Port) (d : Port) → length ps ≡ length qs
    → ((j : ℕ) → j < length ps → waits_for k (get_or ps j d) ≡ waits_for k (get_or qs j d)) → has_waiting k ps ≡ has_waiting k qs
unfolding has_waiting
waiting-same k [] [] d n e = refl
waiting-same k [] (q ∷ qs) d n e = absurd (omega arith)
waiting-same k (p ∷ ps) [] d n e = absurd (omega arith)
waiting-same k (p ∷ ps) (q ∷ qs) d n e =
    let here : waits_for k p ≡ waits_for k q = e 0 (omega arith) in
    rw (here, waiting-same k ps qs d (omega arith) (λ j h. e (suc j) (omega arith)))

held_same : (k : ℕ) (ps qs : List Port) (d : Port) → length ps ≡ length qs
    → ((j : ℕ) → j < length ps → holds_back k (get_or ps j d) ≡ holds_back k (get_or qs j d)) → held_back k ps ≡ held_back k qs
unfolding held_back
held_same k [] [] d n e = refl
held_same k [] (q ∷ qs) d n e = absurd (omega arith)
held_same k (p ∷ ps) [] d n e = absurd (omega arith)
held_same k (p ∷ ps) (q ∷ qs) d n e =
    let here : holds_back k p ≡ holds_back k q = e 0 (omega arith) in
    rw (here, held_same k ps qs d (omega arith) (λ j h. e (suc j) (omega arith)))

-- two ports are the same to aggregator k: equal, or neither holds it
data Like (k : ℕ) (p q : Port) : Type 0 where
  equal : p ≡ q → Like k p q
  neither : (p.aggregator ≡ k → ⊥) → (q.aggregator ≡ k → ⊥) → Like k p q

like-waits : (k : ℕ) (p q : Port) → Like k p q → waits_for k p ≡ waits_for k q
like-waits k p q (equal e) = ap (waits_for k) e
like-waits k p q (neither a b) = other-waits k p a ∙ sym (other-waits k q b)

like-holds : (k : ℕ) (p q : Port) → Like k p q → holds_back k p ≡ holds_back k q
like-holds k p q (equal e) = ap (holds_back k) e
like-holds k p q (neither a b) = other-holds k p a ∙ sym (other-holds k q b)

ready-same : (k : ℕ) (ps qs : List Port) (d : Port) → length ps ≡ length qs → ((j : ℕ) → j < length ps → Like k (get_or ps j d) (get_or qs j d))
    → ready k ps ≡ ready k qs
unfolding ready
ready-same k ps qs d n e =
    rw (waiting-same k ps qs d n (λ j h. like-waits k (get_or ps j d) (get_or qs j d) (e j h)), held_same k ps qs d n (λ j h. like-holds k (get_or ps j d) (get_or qs j d) (e j h)))

-- ---- two lists in which the same ports share i's group

module _ (ours : Header) (ps qs : List Port) (d : Port) (n : length ps ≡ length qs) (i : ℕ) (h : i < length ps)
    (same : (j : ℕ) → j < length ps → shares_group ours (map compared ps) i j ≡ shares_group ours (map compared qs) i j)
    (alike : (j : ℕ) → j < length ps → shares_group ours (map compared ps) i j ≡ true → get_or ps j d ≡ get_or qs j d) where
  -- the rule gives i the same in both
  rule_depends : rule_of ours (map compared ps) i ≡ rule_of ours (map compared qs) i
  rule_depends = rule-same ours (map compared ps) (map compared qs) i (λ j k. same j (omega arith))

  -- after steps 3 and 4 a port of i's group is the same in both, and another port does not hold its aggregator in either
  member : (j : ℕ) → j < length ps → shares_group ours (map compared ps) i j ≡ true → get_or (selected_all ours ps) j d ≡ get_or (selected_all ours qs) j d
  member j k e =
      let there : shares_group ours (map compared qs) i j ≡ true = sym (same j k) ∙ e in
      let rule : rule_of ours (map compared ps) j ≡ rule_of ours (map compared qs) j =
      sym (rule_shared ours (map compared ps) i j e) ∙ rule_depends ∙ rule_shared ours (map compared qs) i j there in
      selected-at ours ps j d k ∙ rw (rule, alike j k e) (sym (selected-at ours qs j d (rw (← n) k)))

  like : (j : ℕ) → j < length ps → (b : Bool) → shares_group ours (map compared ps) i j ≡ b
      → Like (rule_of ours (map compared ps) i) (get_or (selected_all ours ps) j d) (get_or (selected_all ours qs) j d)
  like j k true e = equal (member j k e)
  like j k false e =
      neither
      (λ x. true≢false (sym (rule-apart ours (map compared ps) i j (sym x ∙ selected-rule ours ps j d k)) ∙ e))
      (λ x. true≢false (sym (rule-apart ours (map compared qs) i j (sym rule_depends ∙ sym x ∙ selected-rule ours qs j d (rw (← n) k))) ∙ sym (same j k) ∙ e))

  -- so i ends the same in both
  pub settled_depends : get_or (settled ours ps) i d ≡ get_or (settled ours qs) i d
  settled_depends =
      let ss = selected_all ours ps in
      let ts = selected_all ours qs in
      let here : get_or ss i d ≡ get_or ts i d = member i h (shares_refl ours (map compared ps) i) in
      let holds : (get_or ss i d).aggregator ≡ rule_of ours (map compared ps) i = selected-rule ours ps i d h in
      let is : ready (get_or ss i d).aggregator ss ≡ ready (get_or ss i d).aggregator ts =
      rw holds
      (ready-same (rule_of ours (map compared ps) i) ss ts d (selected-length ours ps ∙ n ∙ sym (selected-length ours qs))
      (λ j k. let g : j < length ps = rw (selected-length ours ps) at k in like j g (shares_group ours (map compared ps) i j) refl)) in
      settled_at ours ps i d h ∙ ap (λ (b : Bool). muxed (attached_if b (get_or ss i d))) is
      ∙ ap (λ (p : Port). muxed (attached_if (ready p.aggregator ts) p)) here ∙ sym (settled_at ours qs i d (rw (← n) h))

-- the same, from the records alone: those of every port that shares i's group in one of the lists are equal
shares-same : (ours : Header) (cs ds : List Compared) (i j : ℕ) → get_or cs i nobody ≡ get_or ds i nobody → get_or cs j nobody ≡ get_or ds j nobody
    → shares_group ours cs i j ≡ shares_group ours ds i j
unfolding shares_group joins
shares-same ours cs ds i j a b = rw (a, b)

module _ (ours : Header) (ps qs : List Port) (d : Port) (n : length ps ≡ length qs) (i : ℕ) (h : i < length ps)
    (left : (j : ℕ) → j < length ps → shares_group ours (map compared ps) i j ≡ true → get_or ps j d ≡ get_or qs j d)
    (right : (j : ℕ) → j < length ps → shares_group ours (map compared qs) i j ≡ true → get_or ps j d ≡ get_or qs j d) where
  compared_same : (j : ℕ) → j < length ps → get_or ps j d ≡ get_or qs j d → get_or (map compared ps) j nobody ≡ get_or (map compared qs) j nobody
  compared_same j k e =
      let g : j < length qs = rw (← n) k in
      map_at compared ps j nobody d k ∙ ap (λ (p : Port). compared p) e ∙ sym (map_at compared qs j nobody d g)

  -- then the same ports share it in both
  group-same : (j : ℕ) → j < length ps → shares_group ours (map compared ps) i j ≡ shares_group ours (map compared qs) i j
  group-same j k = by (shares_group ours (map compared ps) i j) (shares_group ours (map compared qs) i j) refl refl
    where
      agree : get_or ps j d ≡ get_or qs j d → shares_group ours (map compared ps) i j ≡ shares_group ours (map compared qs) i j
      agree e =
          shares-same ours (map compared ps) (map compared qs) i j (compared_same i h (left i h (shares_refl ours (map compared ps) i))) (compared_same j k e)

      by : (a b : Bool) → shares_group ours (map compared ps) i j ≡ a → shares_group ours (map compared qs) i j ≡ b
          → shares_group ours (map compared ps) i j ≡ shares_group ours (map compared qs) i j
      by true b x y = agree (left j k x)
      by false true x y = agree (right j k y)
      by false false x y = x ∙ sym y

  pub settled_reach : get_or (settled ours ps) i d ≡ get_or (settled ours qs) i d
  settled_reach = settled_depends ours ps qs d n i h group-same left
