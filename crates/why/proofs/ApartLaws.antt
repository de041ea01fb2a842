-- The reasons as bits of a number: each bit is its reason, and the number is 0 exactly if there is none, which is the selection rule's own test. Assumes nothing.
use Prim.Native.Nat.{ℕ, zero, suc, ◌+◌, ◌*◌, ◌<◌, ◌≤◌}
use mir.Val.{bool_byte}
use mathlib.Core.Path.{◌≡◌, refl, sym, ap, ◌∙◌}
use mathlib.Core.Bool.{Bool, true, false, cond, not, ◌&&◌, ◌||◌}
use mathlib.Core.List.{List, [], ◌∷◌, ◌++◌}
use native.Mathlib.Omega.{arith}
use lib.Arith.{digits_div, digits_mod}
use lib.ListN.{length, get_or}
use lib.Dec.{eqb}
use borrow.Author.Tests.{eqb-true, eqb-false, eq-eqb, ne_eqb}
use Rattle.octets.specs.Sets.{member}
use Rattle.octets.proofs.SetLaws.{member-low, member_half, none-member}
use Rattle.frame.specs.State.{weighed}
use Rattle.frame.specs.declared.block.SystemId.{SystemId}
use Rattle.machine.specs.Compare.{same_address, same_system}
use Rattle.port.specs.Compared.{Compared}
use Rattle.report.proofs.SetLaws.{weight_less, weight_bit}
use Rattle.table.specs.declared.layout.Header.{Header}
use Rattle.trunk.specs.Selection.{individual, same_keys, same_group, nobody, joins, shares_group}
use Rattle.why.specs.declared.apart.Apart.{Apart}
use Rattle.why.specs.Apart.{apart_from, nothing, apart_of, reasons, bits_of, apart_number}
use Rattle.why.specs.Exact.{ApartShares, ReasonsTrue}

-- ---- bits

-- as a loop adds them, from the last: n of those that are done, and these before it
pub bits_before : List Bool → ℕ → ℕ
bits_before [] n = n
bits_before (b ∷ bs) n = bits_before bs n * 2 + weighed b 1

pub bits-begun : (bs : List Bool) → bits_before bs 0 ≡ bits_of bs
unfolding bits_of bits_before
bits-begun [] = refl
bits-begun (b ∷ bs) = ap (λ (n : ℕ). n * 2 + weighed b 1) (bits-begun bs)

bits_last : (bs : List Bool) (b : Bool) (n : ℕ) → bits_before (bs ++ b ∷ []) n ≡ bits_before bs (n * 2 + bool_byte b)
unfolding bits_before
bits_last [] true n = refl
bits_last [] false n = refl
bits_last (c ∷ bs) b n = ap (λ (m : ℕ). m * 2 + weighed c 1) (bits_last bs b n)

bits_most : (bs : List Bool) (n : ℕ) → n ≤ bits_before bs n
unfolding bits_before
bits_most [] n = omega arith
bits_most (b ∷ bs) n = let rest = bits_most bs n in omega (arith, rest)

-- one bit more doubles the bound
pub grows : (b : Bool) (n m r : ℕ) → r ≡ n * 2 + weighed b 1 → n < m → r < m * 2
grows true n m r e h = omega (arith, e, h)
grows false n m r e h = omega (arith, e, h)

-- a turn takes the last of those before
module _ (rest : List Bool) (b : Bool) (n : ℕ) {bs : List Bool} {m : ℕ} (is : bs ≡ rest ++ b ∷ []) (all : bits_before bs n ≡ m) where
  pub bits-turn : bits_before rest (n * 2 + bool_byte b) ≡ m
  bits-turn = sym (bits_last rest b n) ∙ ap (λ (l : List Bool). bits_before l n) (sym is) ∙ all

  pub bits-fit : n * 2 + bool_byte b ≤ m
  bits-fit = let less = bits_most rest (n * 2 + bool_byte b) in omega (arith, less, bits-turn)

pub bits-ended : (bs : List Bool) (n : ℕ) {m : ℕ} → length bs ≡ 0 → bits_before bs n ≡ m → n ≡ m
unfolding bits_before
bits-ended [] n h all = all
bits-ended (b ∷ bs) n h all = absurd (omega (arith, h))

-- ten of them
pub number-most : (a : Apart) → apart_number a < 1024
unfolding apart_number bits_of
number-most a = omega (arith, less a.first.own, less a.first.partner, less a.first.ourselves, less a.second.own, less a.second.partner, less a.second.ourselves, less a.keys, less a.priorities, less a.addresses, less a.theirs)
  where
    less : (b : Bool) → weighed b 1 ≤ 1
    less true = omega arith
    less false = omega arith

bits_member : (bs : List Bool) (i : ℕ) → member (bits_of bs) i ≡ get_or bs i false
unfolding bits_of
bits_member [] i = none-member i
bits_member (b ∷ bs) zero =
    member-low (bits_of bs * 2 + weighed b 1) ∙ ap (λ (y : ℕ). eqb y 1) (digits_mod (bits_of bs) (weight_less b)) ∙ weight_bit b
bits_member (b ∷ bs) (suc i) =
    member_half (bits_of bs * 2 + weighed b 1) i ∙ ap (λ (x : ℕ). member x i) (digits_div (bits_of bs) (weight_less b)) ∙ bits_member bs i

-- none of them is set
none_set : List Bool → Bool
none_set [] = true
none_set (b ∷ bs) = not b && none_set bs

none_doubled : (n : ℕ) → eqb (n * 2 + 0) 0 ≡ eqb n 0
none_doubled n = by (eqb n 0) refl
  where
    by : (b : Bool) → eqb n 0 ≡ b → eqb (n * 2 + 0) 0 ≡ b
    by true e = let is = eqb-true n 0 e in eq-eqb (n * 2 + 0) 0 (omega (arith, is))
    by false e = ne_eqb (n * 2 + 0) 0 (λ x. eqb-false n 0 e (omega (arith, x)))

bits_none : (bs : List Bool) → eqb (bits_of bs) 0 ≡ none_set bs
unfolding bits_of none_set
bits_none [] = refl
bits_none (true ∷ bs) = ne_eqb (bits_of bs * 2 + 1) 0 (λ x. omega (arith, x))
bits_none (false ∷ bs) = none_doubled (bits_of bs) ∙ bits_none bs

-- ---- the rule's test

systems_parts : (x y : SystemId) → same_system x y ≡ (eqb x.priority y.priority && same_address x.address y.address)
unfolding same_system
systems_parts x y = refl

none-differs : (ours : Header) (c d : Compared) → none_set (reasons (apart_from ours c d)) ≡ same_group ours c d
unfolding none_set same_group individual same_keys
none-differs ours c d =
    by c.aggregation c.partner_aggregation (same_system c.system ours.system)
    d.aggregation d.partner_aggregation (same_system d.system ours.system)
    (eqb c.key d.key) (eqb c.system.priority d.system.priority) (same_address c.system.address d.system.address) (eqb c.partner_key d.partner_key)
    (same_system c.system d.system) (systems_parts c.system d.system)
  where
    by : (a b l e f m k p s t : Bool) (z : Bool) → z ≡ (p && s)
        → not (not a) && (not (not b) && (not l && (not (not e) && (not (not f) && (not m && (not (not k) && (not (not p) && (not (not s) && (not (not t) && true)))))))))
        ≡ not (not a || (not b || l)) && (not (not e || (not f || m)) && (k && (z && t)))
    by false b l e f m k p s t z h = refl
    by true false l e f m k p s t z h = refl
    by true true true e f m k p s t z h = refl
    by true true false false f m k p s t z h = refl
    by true true false true false m k p s t z h = refl
    by true true false true true true k p s t z h = refl
    by true true false true true false false p s t z h = refl
    by true true false true true false true false s t z h = rw h
    by true true false true true false true true false t z h = rw h
    by true true false true true false true true true false z h = rw h
    by true true false true true false true true true true z h = rw h

pub apart-shares : ApartShares
unfolding apart_of apart_number shares_group joins none_set
apart-shares ours cs i j = by (eqb i j)
  where
    a : Apart
    a = apart_from ours (get_or cs i nobody) (get_or cs j nobody)

    by : (b : Bool) → eqb (bits_of (reasons (cond b nothing a))) 0 ≡ (b || same_group ours (get_or cs i nobody) (get_or cs j nobody))
    by true = bits_none (reasons nothing)
    by false = bits_none (reasons a) ∙ none-differs ours (get_or cs i nobody) (get_or cs j nobody)

-- ---- each reason

pub reasons-true : ReasonsTrue
unfolding apart_of apart_number
reasons-true ours cs i j differ = rw (ne_eqb i j differ) (record {
  first-own = bits_member bs 0;
  first-partner = bits_member bs 1;
  first_looped = bits_member bs 2;
  second-own = bits_member bs 3;
  second-partner = bits_member bs 4;
  second_looped = bits_member bs 5;
  keys = bits_member bs 6;
  priorities = bits_member bs 7;
  addresses = bits_member bs 8;
  partner-keys = bits_member bs 9;
})
  where
    bs : List Bool
    bs = reasons (apart_from ours (get_or cs i nobody) (get_or cs j nobody))
