-- Sets of ports, for any test and any list of records: bit i of the set is the test of record i, the set's ones are counted as the records that
-- pass, and the lowest of a set is the least record that passes. Record by record, by the lowest bit and the half. Assumes nothing.
use Prim.Native.Nat.{ℕ, zero, suc, ◌+◌, ◌*◌, ◌/◌, ◌%◌, ◌^◌, ◌≤◌, ◌<◌}
use mathlib.Core.Path.{◌≡◌, refl, sym, ap, ap₂, ◌∙◌}
use mathlib.Core.Bool.{Bool, true, false}
use mathlib.Core.List.{List, [], ◌∷◌}
use native.Mathlib.Omega.{arith}
use native.Mathlib.Nat.{pow-suc}
use lib.Arith.{digits_div, digits_mod}
use lib.Count.{ones, ones_in, ones_step, count_trailing_zeros, trailing_of_zero}
use lib.Dec.{eqb}
use lib.ListN.{length, get_or, drop, length-drop}
use lib.Pow.{pow_mono}
use lib.Seq.{drop-cons, drop-length}
use borrow.Author.Tests.{ne_eqb}
use Rattle.frame.specs.State.{weighed}
use Rattle.port.specs.declared.record.Port.{Port}
use Rattle.octets.specs.Sets.{member}
use Rattle.octets.proofs.SetLaws.{member-low, member_half, none-member}
use Rattle.report.specs.Sets.{set_of, lowest_of, counted}

-- ---- the lowest bit of a set, and the half

pub weight_less : (b : Bool) → weighed b 1 < 2
weight_less true = omega arith
weight_less false = omega arith

pub weight_bit : (b : Bool) → eqb (weighed b 1) 1 ≡ b
weight_bit true = refl
weight_bit false = refl

module _ (f : Port → Bool) (p : Port) (ps : List Port) where
  set_half : set_of f (p ∷ ps) / 2 ≡ set_of f ps
  unfolding set_of
  set_half = digits_div (set_of f ps) (weight_less (f p))

  set-low : set_of f (p ∷ ps) % 2 ≡ weighed (f p) 1
  unfolding set_of
  set-low = digits_mod (set_of f ps) (weight_less (f p))

-- ---- the bits of a set are the tests, and there are no more

pub set-member : (f : Port → Bool) (ps : List Port) (i : ℕ) (d : Port) → i < length ps → member (set_of f ps) i ≡ f (get_or ps i d)
set-member f [] i d h = absurd (omega arith)
set-member f (p ∷ ps) zero d h = member-low (set_of f (p ∷ ps)) ∙ ap (λ (y : ℕ). eqb y 1) (set-low f p ps) ∙ weight_bit (f p)
set-member f (p ∷ ps) (suc i) d h =
    member_half (set_of f (p ∷ ps)) i ∙ ap (λ (x : ℕ). member x i) (set_half f p ps) ∙ set-member f ps i d (omega arith)

pub set-member-beyond : (f : Port → Bool) (ps : List Port) (i : ℕ) → length ps ≤ i → member (set_of f ps) i ≡ false
unfolding set_of
set-member-beyond f [] i h = none-member i
set-member-beyond f (p ∷ ps) zero h = absurd (omega arith)
set-member-beyond f (p ∷ ps) (suc i) h =
    member_half (set_of f (p ∷ ps)) i ∙ ap (λ (x : ℕ). member x i) (set_half f p ps) ∙ set-member-beyond f ps i (omega arith)

set_bound : (f : Port → Bool) (ps : List Port) → set_of f ps < 2 ^ length ps
unfolding set_of
set_bound f [] = omega arith
set_bound f (p ∷ ps) =
    let rest : set_of f ps < 2 ^ length ps = set_bound f ps in
    let less : weighed (f p) 1 < 2 = weight_less (f p) in
    rw (pow-suc 2 (length ps)) (omega arith)

-- ---- the ones of a set

pub set-count : (f : Port → Bool) (ps : List Port) → ones (set_of f ps) ≡ counted f ps
unfolding set_of counted ones ones_in
set-count f [] = refl
set-count f (p ∷ ps) =
    ones_step (set_of f (p ∷ ps))
    ∙ ap₂ (λ (x y : ℕ). x + ones y) (set-low f p ps) (set_half f p ps)
    ∙ ap (λ (n : ℕ). weighed (f p) 1 + n) (set-count f ps)

-- ---- the lowest of a set

set-none : (f : Port → Bool) (ps : List Port) (d : Port) → ((j : ℕ) → j < length ps → f (get_or ps j d) ≡ false) → set_of f ps ≡ 0
unfolding set_of
set-none f [] d none = refl
set-none f (p ∷ ps) d none = rw (set-none f ps d (λ j h. none (suc j) (omega arith)), none 0 (omega arith))

pub none-lowest : (f : Port → Bool) (ps : List Port) (d : Port) → ((j : ℕ) → j < length ps → f (get_or ps j d) ≡ false) → lowest_of (set_of f ps) ≡ 0
none-lowest f ps d none = ap lowest_of (set-none f ps d none)

zeros-below : (f : Port → Bool) (k : ℕ) (ps : List Port) (i : ℕ) (d : Port) → i < k → i < length ps → f (get_or ps i d) ≡ true
    → ((j : ℕ) → j < i → f (get_or ps j d) ≡ false) → count_trailing_zeros k (set_of f ps) ≡ i
unfolding count_trailing_zeros
zeros-below f zero ps i d less h e none = absurd (omega arith)
zeros-below f (suc k) [] i d less h e none = absurd (omega arith)
zeros-below f (suc k) (p ∷ ps) zero d less h e none = rw (set-low f p ps, e)
zeros-below f (suc k) (p ∷ ps) (suc i) d less h e none =
    rw (set-low f p ps, none 0 (omega arith), set_half f p ps)
    (ap suc (zeros-below f k ps i d (omega arith) (omega arith) e (λ j l. none (suc j) (omega arith))))

pub lowest-least : (f : Port → Bool) (ps : List Port) (i : ℕ) (d : Port) → length ps ≤ 32 → i < length ps → f (get_or ps i d) ≡ true
    → ((j : ℕ) → j < i → f (get_or ps j d) ≡ false) → lowest_of (set_of f ps) ≡ i + 1
lowest-least f ps i d few h e none =
    let zeros : count_trailing_zeros 32 (set_of f ps) ≡ i = zeros-below f 32 ps i d (omega arith) h e none in
    let some : set_of f ps ≡ 0 → ⊥ = λ empty.
    let all : i ≡ 32 = sym zeros ∙ ap (count_trailing_zeros 32) empty ∙ trailing_of_zero 32 in absurd (omega arith) in
    rw (ne_eqb (set_of f ps) 0 some, zeros)

-- ---- the set of the records from i on: one record more, none, and its size

pub set_next : (f : Port → Bool) (ps : List Port) (i : ℕ) (d : Port) → i < length ps
    → set_of f (drop i ps) ≡ set_of f (drop (suc i) ps) * 2 + weighed (f (get_or ps i d)) 1
unfolding set_of
set_next f ps i d h = rw (drop-cons ps i d h)

pub set_end : (f : Port → Bool) (ps : List Port) (n : ℕ) → length ps ≡ n → set_of f (drop n ps) ≡ 0
unfolding set_of
set_end f ps n e = rw (← e, drop-length ps)

-- where a record is left, the set so far can be doubled and added to
pub set-fits : (f : Port → Bool) (ps : List Port) (i : ℕ) → length ps ≤ 32 → 1 ≤ i → set_of f (drop i ps) < 2147483648
set-fits f ps i few more =
    let here : set_of f (drop i ps) < 2 ^ length (drop i ps) = set_bound f (drop i ps) in
    let shorter : length (drop i ps) ≤ 31 = simp length-drop (omega arith) in
    let most : 2 ^ length (drop i ps) ≤ 2 ^ 31 = pow_mono shorter in
    omega arith
