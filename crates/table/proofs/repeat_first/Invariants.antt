-- `table::repeat_first` meets its contract. The loop's invariant: what lies in front is as it was, and behind it every octet below j is the one that stands a record before it.
-- Assumes nothing.
use Prim.Native.Nat.{ℕ, ◌+◌, ◌-◌, ◌≤◌, ◌<◌}
use mathlib.Core.Path.{◌≡◌, refl, sym, ap, ◌∙◌}
use mathlib.Core.Logic.{◌≢◌}
use mathlib.Core.Bool.{Bool, true, false}
use mathlib.Core.List.{List}
use native.Mathlib.Omega.{arith}
use lib.Dec.{eqb}
use lib.ListN.{length, get_or, set, length-set}
use lib.Seq.{get_or-set_same, get_or-set_other}
use borrow.Author.Tests.{eqb-true, eqb-false}
use Rattle.table.specs.Layout.{record_size, place}
use Rattle.table.proofs.repeat_first.Given as goal

-- memory t of which the octets below j are done, as u
pub record Done (t : List ℕ) (j : ℕ) (u : List ℕ) : Type 0 where
  pub size : length u ≡ length t
  pub front : (k : ℕ) → k < place 1 → get_or u k 0 ≡ get_or t k 0
  pub rest : (k : ℕ) → place 1 ≤ k → k < j → get_or u k 0 ≡ get_or u (k - record_size) 0

pub begins : (t : List ℕ) → Done t (place 1) t
begins t = record { size = refl; front = λ k h. refl; rest = λ k a b. absurd (omega arith) }

-- one octet more
module _ (t : List ℕ) (j : ℕ) (u : List ℕ) (d : Done t j u) (from : place 1 ≤ j) (less : j < length t) where
  unfoldable pub next : List ℕ
  next = set u j (get_or u (j - record_size) 0)

  other : (k : ℕ) → k < j → get_or next k 0 ≡ get_or u k 0
  unfolding next
  other k h = let differ : k ≢ j = λ e. absurd (omega (arith, e)) in get_or-set_other u j k (get_or u (j - record_size) 0) 0 differ

  at_j : get_or next j 0 ≡ get_or u (j - record_size) 0
  unfolding next
  at_j = get_or-set_same u j (get_or u (j - record_size) 0) 0 (rw d.size less)

  pub more : Done t (j + 1) next
  unfolding next
  more = record {
    size = length-set u j (get_or u (j - record_size) 0) ∙ d.size;
    front = λ k h. other k (omega arith) ∙ d.front k h;
    rest = λ k a b. by k a b (eqb k j) refl;
  }
    where
      by : (k : ℕ) → place 1 ≤ k → k < j + 1 → (b : Bool) → eqb k j ≡ b → get_or next k 0 ≡ get_or next (k - record_size) 0
      by k a b true e =
          let is : k ≡ j = eqb-true k j e in
          ap (λ (m : ℕ). get_or next m 0) is ∙ at_j ∙ sym (other (j - record_size) (omega arith)) ∙ ap (λ (m : ℕ). get_or next (m - record_size) 0) (sym is)
      by k a b false e =
          let differ : k ≢ j = eqb-false k j e in
          let low : k < j = omega (arith, differ) in
          other k low ∙ d.rest k a low ∙ sym (other (k - record_size) (omega arith))

abbrev pub invariant-loop-j : goal.invariant-loop-j
invariant-loop-j l = Done l.initial.table l.j l.table
