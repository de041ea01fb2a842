-- A block and its 15 octets tell the same: block to octets to block, and octets to block to octets. The numbers go back by
-- `Rattle.octets.proofs.Laws`; a state octet goes back as a sum of eight digits, each 0 or 1. Assumes nothing.
use Prim.Native.Nat.{ℕ, zero, suc, ◌+◌, ◌*◌, ◌/◌, ◌%◌, ◌≤◌, ◌<◌}
use mathlib.Core.Path.{◌≡◌, refl, ap, ◌∙◌}
use mathlib.Core.Bool.{Bool, true, false}
use mathlib.Core.List.{List, [], ◌∷◌}
use native.Mathlib.Omega.{arith}
use lib.ListN.{length, get_or}
use lib.Dec.{eqb}
use Rattle.octets.specs.Octets.{Octets}
use Rattle.octets.proofs.Laws.{number-back, spread-all}
use Rattle.octets.proofs.OctetLists.{first_back, second_back}
use Rattle.frame.specs.declared.state.PortState.{PortState}
use Rattle.frame.specs.declared.block.Block.{Block}
use Rattle.frame.specs.State.{weighed, state_octet, port_state_of}
use Rattle.frame.specs.Block.{block_of, block_octets}

-- ---- the state octet

digit : Bool → ℕ
digit b = weighed b 1

digit-le : (b : Bool) → digit b ≤ 1
unfolding digit
digit-le true = omega arith
digit-le false = omega arith

weighed-digit : (b : Bool) (n : ℕ) → weighed b n ≡ n * digit b
unfolding digit
weighed-digit true n = omega arith
weighed-digit false n = omega arith

digit_set : (b : Bool) → eqb (digit b) 1 ≡ b
unfolding digit
digit_set true = refl
digit_set false = refl

bit-back : (b : Bool) {d : ℕ} → d ≡ digit b → eqb d 1 ≡ b
bit-back b e = ap (λ (k : ℕ). eqb k 1) e ∙ digit_set b

set-digit : (d : ℕ) → d < 2 → digit (eqb d 1) ≡ d
unfolding digit
set-digit zero h = refl
set-digit (suc zero) h = refl
set-digit (suc (suc n)) h = absurd (omega arith)

module _ (a b c d e f g h : ℕ) (ha : a ≤ 1) (hb : b ≤ 1) (hc : c ≤ 1) (hd : d ≤ 1) (he : e ≤ 1) (hf : f ≤ 1) (hg : g ≤ 1) (hh : h ≤ 1) where
  digits_back : (n : ℕ) → n ≡ 1 * a + 2 * b + 4 * c + 8 * d + 16 * e + 32 * f + 64 * g + 128 * h
      → (n % 2 ≡ a) × (n / 2 % 2 ≡ b) × (n / 4 % 2 ≡ c) × (n / 8 % 2 ≡ d) × (n / 16 % 2 ≡ e) × (n / 32 % 2 ≡ f) × (n / 64 % 2 ≡ g) × (n / 128 % 2 ≡ h)
  digits_back n q = omega arith

octet_digits : (s : PortState) → state_octet s
    ≡ 1 * digit s.activity + 2 * digit s.timeout + 4 * digit s.aggregation + 8 * digit s.synchronization
    + 16 * digit s.collecting + 32 * digit s.distributing + 64 * digit s.defaulted + 128 * digit s.expired
octet_digits s =
    omega (
      arith,
      weighed-digit s.activity 1,
      weighed-digit s.timeout 2,
      weighed-digit s.aggregation 4,
      weighed-digit s.synchronization 8,
      weighed-digit s.collecting 16,
      weighed-digit s.distributing 32,
      weighed-digit s.defaulted 64,
      weighed-digit s.expired 128,
    )

-- an octet's bits are those of the state that it was made of
pub port-state-back : (s : PortState) → port_state_of (state_octet s) ≡ s
port-state-back s =
    let ds = digits_back (digit s.activity) (digit s.timeout) (digit s.aggregation) (digit s.synchronization)
    (digit s.collecting) (digit s.distributing) (digit s.defaulted) (digit s.expired)
    (digit-le s.activity) (digit-le s.timeout) (digit-le s.aggregation) (digit-le s.synchronization)
    (digit-le s.collecting) (digit-le s.distributing) (digit-le s.defaulted) (digit-le s.expired)
    (state_octet s) (octet_digits s) in
    λ i. record {
      activity = bit-back s.activity ds.0 i;
      timeout = bit-back s.timeout ds.1 i;
      aggregation = bit-back s.aggregation ds.2 i;
      synchronization = bit-back s.synchronization ds.3 i;
      collecting = bit-back s.collecting ds.4 i;
      distributing = bit-back s.distributing ds.5 i;
      defaulted = bit-back s.defaulted ds.6 i;
      expired = bit-back s.expired ds.7 i;
    }

sum_back : (o a b c d e f g p q r s t u v w : ℕ) → o ≡ p + 2 * a → a ≡ q + 2 * b → b ≡ r + 2 * c → c ≡ s + 2 * d → d ≡ t + 2 * e → e ≡ u + 2 * f
    → f ≡ v + 2 * g → g ≡ w → 1 * p + 2 * q + 4 * r + 8 * s + 16 * t + 32 * u + 64 * v + 128 * w ≡ o
sum_back o a b c d e f g p q r s t u v w h₀ h₁ h₂ h₃ h₄ h₅ h₆ h₇ = omega arith

-- the digits of an octet make it up
digits_sum : (o : ℕ) → o < 256
    → 1 * (o % 2) + 2 * (o / 2 % 2) + 4 * (o / 4 % 2) + 8 * (o / 8 % 2) + 16 * (o / 16 % 2) + 32 * (o / 32 % 2) + 64 * (o / 64 % 2) + 128 * (o / 128 % 2) ≡ o
digits_sum o h =
    sum_back o (o / 2) (o / 4) (o / 8) (o / 16) (o / 32) (o / 64) (o / 128) _ _ _ _ _ _ _ _
    (omega arith) (omega arith) (omega arith) (omega arith) (omega arith) (omega arith) (omega arith) (omega arith)

set_weight : (n : ℕ) {d : ℕ} → d < 2 → weighed (eqb d 1) n ≡ n * d
set_weight n {d} k = weighed-digit (eqb d 1) n ∙ ap (λ (x : ℕ). n * x) (set-digit d k)

-- an octet is made again of its bits
pub octet-back : (o : ℕ) → o < 256 → state_octet (port_state_of o) ≡ o
octet-back o h =
    let two : (n : ℕ) → n % 2 < 2 = λ n. omega arith in
    (λ i. set_weight 1 (two o) i + set_weight 2 (two (o / 2)) i + set_weight 4 (two (o / 4)) i + set_weight 8 (two (o / 8)) i
    + set_weight 16 (two (o / 16)) i + set_weight 32 (two (o / 32)) i + set_weight 64 (two (o / 64)) i + set_weight 128 (two (o / 128)) i)
    ∙ digits_sum o h

pub octet-le : (s : PortState) → state_octet s < 256
octet-le s =
    omega (
      arith,
      octet_digits s,
      digit-le s.activity,
      digit-le s.timeout,
      digit-le s.aggregation,
      digit-le s.synchronization,
      digit-le s.collecting,
      digit-le s.distributing,
      digit-le s.defaulted,
      digit-le s.expired,
    )

-- ---- the block

-- block to octets to block
pub block_back : (b : Block) → block_of (block_octets b) ≡ b
block_back b = λ i. record {
  system = record {
    priority = number-back b.system.priority i;
    address = record {
      high = number-back b.system.address.high i;
      middle = number-back b.system.address.middle i;
      low = number-back b.system.address.low i;
    };
  };
  key = number-back b.key i;
  port = record { priority = number-back b.port.priority i; number = number-back b.port.number i };
  state = port-state-back b.state i;
}

-- octets to block to octets
pub block_octets-back : (l : List ℕ) → length l ≡ 15 → Octets l → block_octets (block_of l) ≡ l
block_octets-back l n o =
    let first = first_back l o in
    let second = second_back l o in
    (λ i. first 0 i ∷ second 0 i ∷ first 2 i ∷ second 2 i ∷ first 4 i ∷ second 4 i ∷ first 6 i ∷ second 6 i
    ∷ first 8 i ∷ second 8 i ∷ first 10 i ∷ second 10 i ∷ first 12 i ∷ second 12 i ∷ octet-back (get_or l 14 0) (o 14) i ∷ [])
    ∙ spread-all l 15 n
