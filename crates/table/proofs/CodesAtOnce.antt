-- States and flags tested four octets at a time say what a test of each says. The greatest codes are far below 128, so an octet without its highest
-- bit stays an octet with what the greatest code lacks to 127 added, and no sum reaches the next octet. Assumes nothing.
use Prim.Native.Nat.{ℕ, ◌+◌, ◌*◌, ◌/◌, ◌%◌, ◌≤◌, ◌<◌}
use mathlib.Core.Path.{◌≡◌, refl, sym, ap, ◌∙◌}
use mathlib.Core.Bool.{Bool, true, ◌&&◌}
use mathlib.Core.List.{List, [], ◌∷◌}
use native.Mathlib.Omega.{arith}
use native.Mathlib.Nat.{mod-eq_of_lt}
use lib.Bits.{bit_and}
use lib.Dec.{eqb}
use lib.ListN.{get_or}
use borrow.Author.Tests.{eqb-true, eq-eqb}
use Rattle.octets.specs.Octets.{Octets, word, word_at}
use Rattle.octets.proofs.RangeLaws.{both, both_true}
use Rattle.octets.proofs.WordLaws.{same_test, highest_bits, beside-lowest}
use Rattle.table.specs.Range.{codes_in_range}
use Rattle.table.proofs.RangeLaws.{Coded, coded, coded-is}

-- ---- four octets

-- a number whose octets are these is 0 where each is
each_none : (w x y z : ℕ) → word (w ∷ x ∷ y ∷ z ∷ []) ≡ 0 → (w ≡ 0) × (x ≡ 0) × (y ≡ 0) × (z ≡ 0)
unfolding word
each_none w x y z e = (omega arith, omega arith, omega arith, omega arith)

none_each : (w x y z : ℕ) → w ≡ 0 → x ≡ 0 → y ≡ 0 → z ≡ 0 → word (w ∷ x ∷ y ∷ z ∷ []) ≡ 0
unfolding word
none_each w x y z a b c d = omega arith

-- an octet without its highest bit, and one without any but the lowest
low : (a : ℕ) → a < 256 → a / 128 % 2 * 128 ≡ 0 → a < 128
low a h e =
    let two : a / 128 < 2 = omega arith in
    let even : a / 128 % 2 ≡ 0 = omega arith in
    let none : a / 128 ≡ 0 = sym (mod-eq_of_lt two) ∙ even in
    omega (arith, none)

is-low : (a : ℕ) → a < 128 → a / 128 % 2 * 128 ≡ 0
is-low a h = let none : a / 128 ≡ 0 = omega arith in rw none

flag : (a : ℕ) → a < 256 → a / 2 % 128 * 2 ≡ 0 → a ≤ 1
flag a h e =
    let few : a / 2 < 128 = omega arith in
    let even : a / 2 % 128 ≡ 0 = omega arith in
    let none : a / 2 ≡ 0 = sym (mod-eq_of_lt few) ∙ even in
    omega (arith, none)

is-flag : (a : ℕ) → a ≤ 1 → a / 2 % 128 * 2 ≡ 0
is-flag a h = let none : a / 2 ≡ 0 = omega arith in rw none

module _ (a b c d : ℕ) (h : (a < 256) × (b < 256) × (c < 256) × (d < 256)) where
  low_bits : bit_and (word (a ∷ b ∷ c ∷ d ∷ [])) 2155905152 ≡ 0 → (a < 128) × (b < 128) × (c < 128) × (d < 128)
  low_bits e =
      let n = each_none (a / 128 % 2 * 128) (b / 128 % 2 * 128) (c / 128 % 2 * 128) (d / 128 % 2 * 128) (sym (highest_bits a b c d h) ∙ e) in
      (low a h.0 n.0, low b h.1 n.1, low c h.2 n.2, low d h.3 n.3)

  bits_low : (a < 128) × (b < 128) × (c < 128) × (d < 128) → bit_and (word (a ∷ b ∷ c ∷ d ∷ [])) 2155905152 ≡ 0
  bits_low k = highest_bits a b c d h ∙ none_each _ _ _ _ (is-low a k.0) (is-low b k.1) (is-low c k.2) (is-low d k.3)

  flags-low : bit_and (word (a ∷ b ∷ c ∷ d ∷ [])) 16711422 ≡ 0 → (a ≤ 1) × (b ≤ 1) × (c ≤ 1)
  flags-low e =
      let n = each_none (a / 2 % 128 * 2) (b / 2 % 128 * 2) (c / 2 % 128 * 2) 0 (sym (beside-lowest a b c d h) ∙ e) in
      (flag a h.0 n.0, flag b h.1 n.1, flag c h.2 n.2)

  low-flags : (a ≤ 1) × (b ≤ 1) × (c ≤ 1) → bit_and (word (a ∷ b ∷ c ∷ d ∷ [])) 16711422 ≡ 0
  low-flags k = beside-lowest a b c d h ∙ none_each _ _ _ _ (is-flag a k.0) (is-flag b k.1) (is-flag c k.2) refl

-- with what the greatest codes lack to 127
spare : (a b c d : ℕ) → word (a ∷ b ∷ c ∷ d ∷ []) + 2122022010 ≡ word ((a + 122) ∷ (b + 124) ∷ (c + 123) ∷ (d + 126) ∷ [])
unfolding word
spare a b c d = omega arith

-- ---- a record's octets

abbrev pub codes_at_once : List ℕ → Bool
codes_at_once l =
    eqb (bit_and (word_at l 0) 2155905152) 0
    && (eqb (bit_and (word_at l 0 + 2122022010) 2155905152) 0 && eqb (bit_and (word_at l 5) 16711422) 0)

module _ (l : List ℕ) (o : Octets l) where
  states : (get_or l 0 0 < 256) × (get_or l 1 0 < 256) × (get_or l 2 0 < 256) × (get_or l 3 0 < 256)
  states = (o 0, o 1, o 2, o 3)

  flags : (get_or l 5 0 < 256) × (get_or l 6 0 < 256) × (get_or l 7 0 < 256) × (get_or l 8 0 < 256)
  flags = (o 5, o 6, o 7, o 8)

  one_by_one : codes_at_once l ≡ true → Coded l
  one_by_one e =
      let e₀ = both (eqb (bit_and (word_at l 0) 2155905152) 0) _ e in
      let e₁ = both (eqb (bit_and (word_at l 0 + 2122022010) 2155905152) 0) _ e₀.1 in
      let low = low_bits (get_or l 0 0) (get_or l 1 0) (get_or l 2 0) (get_or l 3 0) states (eqb-true (bit_and (word_at l 0) 2155905152) 0 e₀.0) in
      let sums : bit_and (word ((get_or l 0 0 + 122) ∷ (get_or l 1 0 + 124) ∷ (get_or l 2 0 + 123) ∷ (get_or l 3 0 + 126) ∷ [])) 2155905152 ≡ 0 =
      ap (λ (x : ℕ). bit_and x 2155905152) (sym (spare (get_or l 0 0) (get_or l 1 0) (get_or l 2 0) (get_or l 3 0)))
      ∙ eqb-true (bit_and (word_at l 0 + 2122022010) 2155905152) 0 e₁.0 in
      let most = low_bits (get_or l 0 0 + 122) (get_or l 1 0 + 124) (get_or l 2 0 + 123) (get_or l 3 0 + 126) (omega (arith, low), omega (arith, low), omega (arith, low), omega (arith, low)) sums in
      let few = flags-low (get_or l 5 0) (get_or l 6 0) (get_or l 7 0) (get_or l 8 0) flags (eqb-true (bit_and (word_at l 5) 16711422) 0 e₁.1) in
      record {
        receive = omega (arith, most);
        periodic = omega (arith, most);
        mux = omega (arith, most);
        selected = omega (arith, most);
        ntt = few.0;
        up = few.1;
        full = few.2;
      }

  all-at_once : Coded l → codes_at_once l ≡ true
  all-at_once k =
      let r = k.receive in
      let q = k.periodic in
      let m = k.mux in
      let s = k.selected in
      both_true
      (eq-eqb (bit_and (word_at l 0) 2155905152) 0
      (bits_low (get_or l 0 0) (get_or l 1 0) (get_or l 2 0) (get_or l 3 0) states (omega (arith, r), omega (arith, q), omega (arith, m), omega (arith, s))))
      (both_true
      (eq-eqb (bit_and (word_at l 0 + 2122022010) 2155905152) 0
      (ap (λ (x : ℕ). bit_and x 2155905152) (spare (get_or l 0 0) (get_or l 1 0) (get_or l 2 0) (get_or l 3 0))
      ∙ bits_low (get_or l 0 0 + 122) (get_or l 1 0 + 124) (get_or l 2 0 + 123) (get_or l 3 0 + 126)
      (omega (arith, r), omega (arith, q), omega (arith, m), omega (arith, s)) (omega (arith, r), omega (arith, q), omega (arith, m), omega (arith, s))))
      (eq-eqb (bit_and (word_at l 5) 16711422) 0
      (low-flags (get_or l 5 0) (get_or l 6 0) (get_or l 7 0) (get_or l 8 0) flags (k.ntt, k.up, k.full))))

  pub codes-at_once : codes_at_once l ≡ codes_in_range l
  codes-at_once = same_test (codes_at_once l) (codes_in_range l) (λ e. coded-is l (one_by_one e)) (λ e. all-at_once (coded l e))
