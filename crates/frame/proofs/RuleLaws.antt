-- R5 and R6 as docs/RULES.md tells them, by octet numbers: a frame is of a class exactly if its octets say so, no other octet is looked at, and
-- each octet of a written frame stands in its place. By the tests one after the other, and by computation. Assumes nothing.
use Prim.Native.Nat.{ℕ, zero, suc, ◌+◌, ◌-◌, ◌/◌, ◌%◌, ◌≤◌, ◌<◌}
use mathlib.Core.Path.{◌≡◌, refl, sym, ap, subst, ◌∙◌}
use mathlib.Core.Logic.{◌⊎◌, inl, inr, ⊎_elim}
use mathlib.Core.Bool.{Bool, true, false, not, ◌&&◌, ◌||◌, or-true, and-false, false≢true}
use mathlib.Core.List.{List, [], ◌∷◌}
use native.Mathlib.Omega.{arith}
use lib.ListN.{length, take, drop, get_or, replicate, length-append, length-take, length-drop}
use lib.Seq.{take_all, take-take, length-take-le, get_or-take, take_at, drop_at}
use lib.Dec.{eqb, ltb}
use borrow.Author.Tests.{lt-ltb, le-ltb, le-leb, lt-leb, eqb-true, ne_eqb, not-false}
use Rattle.std.specs.Prelude.{Ok, Err}
use Rattle.std.proofs.lemmas.Bool.{cases_Bool, cases_lt, cases_eq, false_from_ne_true, or_parts}
use Rattle.octets.specs.Octets.{Octets, same_octets, number_at}
use Rattle.octets.proofs.Laws.{same_true}
use Rattle.octets.proofs.RangeLaws.{both}
use Rattle.frame.specs.declared.class.Kind.TheVariants.{Lacpdu, Marker, Response}
use Rattle.frame.specs.declared.class.Refusal.TheVariants.{Foreign, Unknown, Illegal}
use Rattle.frame.specs.declared.block.Address.{Address}
use Rattle.frame.specs.declared.block.Block.{Block}
use Rattle.frame.specs.declared.wire.MarkerType.{MarkerType}
use Rattle.frame.specs.declared.wire.MarkerType.TheVariants as wire
use Rattle.frame.specs.declared.wire.TensOfMicroseconds.{TensOfMicroseconds}
use Rattle.frame.specs.State.{state_octet}
use Rattle.frame.specs.Block.{block_octets}
use Rattle.frame.specs.Class.{Class, class_of, foreign, unknown, illegal, wrong_length, wrong_marker_type, kind_of, slow_address, slow_type}
use Rattle.frame.specs.Wire.{actor_part, partner_part, request_part, lacpdu, marker, marker_type_octet, response}
use Rattle.frame.proofs.ClassLaws.{foreign_clear}

-- ---- what a frame is

-- with a whole header, and to 01-80-C2-00-00-02
pub record Addressed (l : List ℕ) : Type 0 where
  pub header : 14 ≤ length l
  pub to : take 6 l ≡ 0x01 ∷ 0x80 ∷ 0xc2 ∷ 0x00 ∷ 0x00 ∷ 0x02 ∷ []

-- and of the type 88-09
pub record Slow (l : List ℕ) : Type 0 where
  pub addressed : Addressed l
  pub high : get_or l 12 0 ≡ 0x88
  pub low : get_or l 13 0 ≡ 0x09

-- and of the subtype s, with no octet missing
pub record Full (l : List ℕ) (s : ℕ) : Type 0 where
  pub slow : Slow l
  pub whole : 124 ≤ length l
  pub subtype : get_or l 14 0 ≡ s

-- the length octets of an LACPDU
pub record Lengths (l : List ℕ) : Type 0 where
  pub actor : get_or l 17 0 ≡ 20
  pub partner : get_or l 37 0 ≡ 20
  pub collector : get_or l 57 0 ≡ 16

-- the ways to each class: R5.1, R5.2, R5.3, and R5.6 for what passes
pub data Told (l : List ℕ) : Class → Type 0 where
  not-addressed : (Addressed l → ⊥) → Told l (Err Foreign)
  other-type : Addressed l → (Slow l → ⊥) → Told l (Err Unknown)
  other-subtype : Slow l → 15 ≤ length l → 3 ≤ get_or l 14 0 → get_or l 14 0 ≤ 10 → Told l (Err Unknown)
  no_subtype_lem : Slow l → length l < 15 → Told l (Err Illegal)
  odd_subtype_lem : Slow l → 15 ≤ length l → (get_or l 14 0 ≡ 0) ⊎ (10 < get_or l 14 0) → Told l (Err Illegal)
  short : Slow l → 15 ≤ length l → (get_or l 14 0 ≡ 1) ⊎ (get_or l 14 0 ≡ 2) → length l < 124 → Told l (Err Illegal)
  wrong_lengths : Full l 1 → (Lengths l → ⊥) → Told l (Err Illegal)
  wrong_length_lem : Full l 2 → (get_or l 17 0 ≡ 16 → ⊥) → Told l (Err Illegal)
  wrong_type : Full l 2 → (get_or l 16 0 ≡ 1 → ⊥) → (get_or l 16 0 ≡ 2 → ⊥) → Told l (Err Illegal)
  is-lacpdu : Full l 1 → Lengths l → Told l (Ok Lacpdu)
  is-marker : Full l 2 → get_or l 16 0 ≡ 1 → get_or l 17 0 ≡ 16 → Told l (Ok Marker)
  is-response : Full l 2 → get_or l 16 0 ≡ 2 → get_or l 17 0 ≡ 16 → Told l (Ok Response)

-- ---- tests and what they say

module _ (l : List ℕ) where
  addressed_clear : Addressed l → foreign l ≡ false
  unfolding foreign same_octets
  addressed_clear a = rw (le-ltb (length l) 14 a.header, a.to)

  clear_addressed : foreign l ≡ false → Addressed l
  unfolding foreign
  clear_addressed e = record {
    header = foreign_clear l e;
    to = same_true (take 6 l) slow_address (not-false _ (or_parts (ltb (length l) 14) (not (same_octets (take 6 l) slow_address)) e).1);
  }

  not-addressed-foreign : (Addressed l → ⊥) → foreign l ≡ true
  not-addressed-foreign n = ⊎_elim (λ e. e) (λ e. absurd (n (clear_addressed e))) (cases_Bool (foreign l))

  abbrev slowTest : Bool
  slowTest = eqb (number_at l 12) slow_type

  slow-true : Slow l → slowTest ≡ true
  slow-true s = rw (s.high, s.low)

  true-slow : Octets l → Addressed l → slowTest ≡ true → Slow l
  true-slow o a e =
      let n : number_at l 12 ≡ slow_type = eqb-true (number_at l 12) slow_type e in
      record { addressed = a; high = omega (arith, o 12, o 13); low = omega (arith, o 12, o 13) }

  abbrev lengthsTest : Bool
  lengthsTest = eqb (get_or l 17 0) 20 && (eqb (get_or l 37 0) 20 && eqb (get_or l 57 0) 16)

  true_lengths : lengthsTest ≡ true → Lengths l
  true_lengths e =
      let h = both (eqb (get_or l 17 0) 20) _ e in
      let k = both (eqb (get_or l 37 0) 20) _ h.1 in
      record { actor = eqb-true (get_or l 17 0) 20 h.0; partner = eqb-true (get_or l 37 0) 20 k.0; collector = eqb-true (get_or l 57 0) 16 k.1 }

  -- ---- each way gives its class

  -- of the Slow Protocols, and not of another's subtype
  slow_known : Slow l → (length l < 15) ⊎ ((get_or l 14 0 < 3) ⊎ (10 < get_or l 14 0)) → unknown l ≡ false
  unfolding unknown
  slow_known s (inl h) = rw (slow-true s, lt-ltb (length l) 15 h)
  slow_known s (inr (inl h)) = rw (slow-true s, lt-leb 3 (get_or l 14 0) h, and-false)
  slow_known s (inr (inr h)) = rw (slow-true s, lt-leb (get_or l 14 0) 10 h, and-false, and-false)

  small_known : Slow l → {n : ℕ} → n < 3 → get_or l 14 0 ≡ n → unknown l ≡ false
  small_known s h e = slow_known s (inr (inl (rw e h)))

  refused : Slow l → unknown l ≡ false → illegal l ≡ true → class_of l ≡ Err Illegal
  unfolding class_of
  refused s u e = rw (addressed_clear s.addressed, u, e)

  full-illegal : {n : ℕ} → 0 < n → n < 3 → Full l n → illegal l ≡ wrong_length l || wrong_marker_type l
  unfolding illegal
  full-illegal {n} p h f =
      rw (le-ltb (length l) 15 (omega (arith, f.whole)), le-ltb (length l) 124 f.whole, f.subtype, ne_eqb n 0 (λ e. omega arith), lt-leb 11 n (omega arith))

  full-refused : {n : ℕ} → 0 < n → n < 3 → Full l n → wrong_length l || wrong_marker_type l ≡ true → class_of l ≡ Err Illegal
  full-refused p h f e = refused f.slow (small_known f.slow h f.subtype) (full-illegal p h f ∙ e)

  full-passed : {n : ℕ} → 0 < n → n < 3 → Full l n → wrong_length l || wrong_marker_type l ≡ false → class_of l ≡ Ok (kind_of l)
  unfolding class_of
  full-passed p h f e = rw (addressed_clear f.slow.addressed, small_known f.slow h f.subtype, full-illegal p h f ∙ e)

  -- a frame that goes a way is of its class
  pub told_class : Octets l → (c : Class) → Told l c → class_of l ≡ c
  unfolding class_of unknown illegal wrong_length wrong_marker_type
  told_class o c (not-addressed n) = rw (not-addressed-foreign n)
  told_class o c (other-type a n) = rw (addressed_clear a, false_from_ne_true slowTest (λ e. n (true-slow o a e)))
  told_class o c (other-subtype s h p q) =
      rw (addressed_clear s.addressed, slow-true s, le-ltb (length l) 15 h, le-leb 3 (get_or l 14 0) p, le-leb (get_or l 14 0) 10 q)
  told_class o c (no_subtype_lem s h) = refused s (slow_known s (inl h)) (rw (lt-ltb (length l) 15 h))
  told_class o c (odd_subtype_lem s h (inl e)) = refused s (small_known s (omega arith) e) (rw (e, or-true))
  told_class o c (odd_subtype_lem s h (inr e)) = refused s (slow_known s (inr (inr e))) (rw (le-leb 11 (get_or l 14 0) e, or-true, or-true))
  told_class o c (short s h (inl k) e) = refused s (small_known s (omega arith) k) (rw (lt-ltb (length l) 124 e, or-true))
  told_class o c (short s h (inr k) e) = refused s (small_known s (omega arith) k) (rw (lt-ltb (length l) 124 e, or-true))
  told_class o c (wrong_lengths f n) = full-refused (omega arith) (omega arith) f (rw (f.subtype, false_from_ne_true lengthsTest (λ e. n (true_lengths e))))
  told_class o c (wrong_length_lem f n) = full-refused (omega arith) (omega arith) f (rw (f.subtype, ne_eqb (get_or l 17 0) 16 n))
  told_class o c (wrong_type f n m) = full-refused (omega arith) (omega arith) f (rw (f.subtype, ne_eqb (get_or l 16 0) 1 n, ne_eqb (get_or l 16 0) 2 m, or-true))
  told_class o c (is-lacpdu f n) = full-passed (omega arith) (omega arith) f (rw (f.subtype, n.actor, n.partner, n.collector)) ∙ rw f.subtype
  told_class o c (is-marker f t n) = full-passed (omega arith) (omega arith) f (rw (f.subtype, t, n)) ∙ rw (f.subtype, t)
  told_class o c (is-response f t n) = full-passed (omega arith) (omega arith) f (rw (f.subtype, t, n)) ∙ rw (f.subtype, t)

  -- ---- every frame goes one of the ways, so that a class has no other

  lengths_true : Lengths l → lengthsTest ≡ true
  lengths_true n = rw (n.actor, n.partner, n.collector)

  module _ (o : Octets l) where
    goes : {c : Class} → Told l c → Told l (class_of l)
    goes {c} t = rw (told_class o c t) t

    by_lengths : Full l 1 → Told l (class_of l)
    by_lengths f =
        ⊎_elim (λ e. goes (is-lacpdu f (true_lengths e))) (λ e. goes (wrong_lengths f (λ n. false≢true (sym e ∙ lengths_true n)))) (cases_Bool lengthsTest)

    by-type : Full l 2 → get_or l 17 0 ≡ 16 → (get_or l 16 0 ≡ 1) ⊎ (get_or l 16 0 ≡ 1 → ⊥) → Told l (class_of l)
    by-type f e (inl t) = goes (is-marker f t e)
    by-type f e (inr n) = ⊎_elim (λ t. goes (is-response f t e)) (λ m. goes (wrong_type f n m)) (cases_eq (get_or l 16 0) 2)

    by_length : Full l 2 → Told l (class_of l)
    by_length f = ⊎_elim (λ e. by-type f e (cases_eq (get_or l 16 0) 1)) (λ n. goes (wrong_length_lem f n)) (cases_eq (get_or l 17 0) 16)

    by-subtype : Slow l → 15 ≤ length l → (n : ℕ) → get_or l 14 0 ≡ n → Told l (class_of l)
    by-subtype s h zero e = goes (odd_subtype_lem s h (inl e))
    by-subtype s h (suc zero) e =
        ⊎_elim (λ k. goes (short s h (inl e) k)) (λ k. by_lengths (record { slow = s; whole = k; subtype = e })) (cases_lt (length l) 124)
    by-subtype s h (suc (suc zero)) e =
        ⊎_elim (λ k. goes (short s h (inr e) k)) (λ k. by_length (record { slow = s; whole = k; subtype = e })) (cases_lt (length l) 124)
    by-subtype s h (suc (suc (suc n))) e =
        ⊎_elim (λ k. goes (odd_subtype_lem s h (inr k))) (λ k. goes (other-subtype s h (omega arith) k)) (cases_lt 10 (get_or l 14 0))

    by-slow : Addressed l → (slowTest ≡ true) ⊎ (slowTest ≡ false) → Told l (class_of l)
    by-slow a (inl e) =
        let s = true-slow o a e in
        ⊎_elim (λ k. goes (no_subtype_lem s k)) (λ k. by-subtype s k (get_or l 14 0) refl) (cases_lt (length l) 15)
    by-slow a (inr e) = goes (other-type a (λ s. false≢true (sym e ∙ slow-true s)))

    by_address : (foreign l ≡ true) ⊎ (foreign l ≡ false) → Told l (class_of l)
    by_address (inl e) = goes (not-addressed (λ a. false≢true (sym (addressed_clear a) ∙ e)))
    by_address (inr e) = by-slow (clear_addressed e) (cases_Bool slowTest)

    -- and a frame of a class goes one of its ways
    pub class_told : (c : Class) → class_of l ≡ c → Told l c
    class_told c e = subst (λ (k : Class). Told l k) e (by_address (cases_Bool (foreign l)))

-- ---- what is not looked at

-- alike in the octets that are looked at: address, type, subtype, first length; the other two lengths of an LACPDU; the type of a Marker PDU
pub record Alike (l m : List ℕ) : Type 0 where
  pub to : take 6 l ≡ take 6 m
  pub type : (get_or l 12 0 ≡ get_or m 12 0) × (get_or l 13 0 ≡ get_or m 13 0)
  pub subtype : get_or l 14 0 ≡ get_or m 14 0
  pub other : (get_or l 14 0 ≡ 1 → ⊥) → get_or l 16 0 ≡ get_or m 16 0
  pub first : get_or l 17 0 ≡ get_or m 17 0
  pub lacpdu : get_or l 14 0 ≡ 1 → (get_or l 37 0 ≡ get_or m 37 0) × (get_or l 57 0 ≡ get_or m 57 0)

-- R5.4: no other octet of a long enough frame tells what it is: no version, no type of an LACPDU, nothing reserved, no terminator
pub alike_class : (l m : List ℕ) → 124 ≤ length l → 124 ≤ length m → Alike l m → class_of l ≡ class_of m
unfolding class_of foreign unknown illegal wrong_length wrong_marker_type
alike_class l m h k a = by (cases_eq (get_or l 14 0) 1)
  where
    long : (t : List ℕ) → 124 ≤ length t → (ltb (length t) 14 ≡ false) × (ltb (length t) 15 ≡ false) × (ltb (length t) 124 ≡ false)
    long t w = (le-ltb (length t) 14 (omega arith), le-ltb (length t) 15 (omega arith), le-ltb (length t) 124 w)

    by : (get_or l 14 0 ≡ 1) ⊎ (get_or l 14 0 ≡ 1 → ⊥) → class_of l ≡ class_of m
    by (inl e) =
        let p = long l h in
        let q = long m k in
        let f : get_or m 14 0 ≡ 1 = sym a.subtype ∙ e in
        rw (p.0, p.1, p.2, q.0, q.1, q.2, a.to, a.type.0, a.type.1, e, f, a.first, (a.lacpdu e).0, (a.lacpdu e).1)
    by (inr n) =
        let p = long l h in
        let q = long m k in
        let f : eqb (get_or m 14 0) 1 ≡ false = ne_eqb (get_or m 14 0) 1 (λ e. n (a.subtype ∙ e)) in
        rw (p.0, p.1, p.2, q.0, q.1, q.2, a.to, a.type.0, a.type.1, a.subtype, f, a.first, a.other n)

-- a part of the first k octets
front : (a n k : ℕ) (l : List ℕ) → a + n ≤ k → take n (drop a (take k l)) ≡ take n (drop a l)
front zero n k l h = take-take n k l (omega arith)
front (suc a) n zero l h = absurd (omega arith)
front (suc a) n (suc k) [] h = refl
front (suc a) n (suc k) (x ∷ l) h = front a n k l (omega arith)

-- R5.5: the first 124 octets tell what a frame is, and hold what is read of it
pub first_class : (l : List ℕ) → class_of (take 124 l) ≡ class_of l
first_class l = ⊎_elim (λ h. ap class_of (take_all 124 l (omega arith))) whole (cases_lt (length l) 124)
  where
    whole : 124 ≤ length l → class_of (take 124 l) ≡ class_of l
    whole h =
        let same : (i : ℕ) → i < 124 → get_or (take 124 l) i 0 ≡ get_or l i 0 = λ i k. get_or-take 124 l i 0 k in
        alike_class (take 124 l) l (rw (length-take-le 124 l h) (omega arith)) h (record {
          to = take-take 6 124 l (omega arith);
          type = (same 12 (omega arith), same 13 (omega arith));
          subtype = same 14 (omega arith);
          other = λ n. same 16 (omega arith);
          first = same 17 (omega arith);
          lacpdu = λ e. (same 37 (omega arith), same 57 (omega arith));
        })

pub first-parts : (l : List ℕ)
    → (actor_part (take 124 l) ≡ actor_part l) × (partner_part (take 124 l) ≡ partner_part l) × (request_part (take 124 l) ≡ request_part l)
first-parts l = (front 18 15 124 l (omega arith), front 38 15 124 l (omega arith), front 18 12 124 l (omega arith))

-- ---- what stands where

-- octets a to e, as the rules count them: e is one of them
abbrev pub row : List ℕ → ℕ → ℕ → List ℕ
row l a e = take (suc e - a) (drop a l)

-- a number and an address in octets, the high one first
abbrev pub two : ℕ → List ℕ
two n = n / 256 ∷ n % 256 ∷ []

abbrev pub six : Address → List ℕ
six a = a.high / 256 ∷ a.high % 256 ∷ a.middle / 256 ∷ a.middle % 256 ∷ a.low / 256 ∷ a.low % 256 ∷ []

-- R3.2: an information block
pub record BlockRows (b : Block) (l : List ℕ) : Type 0 where
  pub size : length l ≡ 15
  pub system-priority : row l 0 1 ≡ two b.system.priority
  pub system : row l 2 7 ≡ six b.system.address
  pub key : row l 8 9 ≡ two b.key
  pub port-priority : row l 10 11 ≡ two b.port.priority
  pub port : row l 12 13 ≡ two b.port.number
  pub state : row l 14 14 ≡ state_octet b.state ∷ []

pub block_rows : (b : Block) → BlockRows b (block_octets b)
block_rows b = record {
  size = refl;
  system-priority = refl;
  system = refl;
  key = refl;
  port-priority = refl;
  port = refl;
  state = refl;
}

-- R6.1: the length, and the first 14 octets
pub record Opened (source : Address) (l : List ℕ) : Type 0 where
  pub size : length l ≡ 124
  pub destination : row l 0 5 ≡ 0x01 ∷ 0x80 ∷ 0xc2 ∷ 0x00 ∷ 0x00 ∷ 0x02 ∷ []
  pub from : row l 6 11 ≡ six source
  pub type : row l 12 13 ≡ 0x88 ∷ 0x09 ∷ []

-- R6.2: an LACPDU
pub record LacpduRows (source : Address) (us them : Block) (delay : ℕ) (l : List ℕ) : Type 0 where
  pub opened : Opened source l
  pub subtype_version : row l 14 15 ≡ 1 ∷ 1 ∷ []
  pub actor-type-length : row l 16 17 ≡ 1 ∷ 20 ∷ []
  pub actor : row l 18 32 ≡ block_octets us
  pub after-actor : row l 33 35 ≡ replicate 3 0
  pub partner-type-length : row l 36 37 ≡ 2 ∷ 20 ∷ []
  pub partner : row l 38 52 ≡ block_octets them
  pub after-partner : row l 53 55 ≡ replicate 3 0
  pub collector-type-length : row l 56 57 ≡ 3 ∷ 16 ∷ []
  pub max-delay : row l 58 59 ≡ two delay
  pub after-delay : row l 60 71 ≡ replicate 12 0
  pub terminator : row l 72 73 ≡ 0 ∷ 0 ∷ []
  pub after-terminator : row l 74 123 ≡ replicate 50 0

-- R6.3: a Marker or a Response
pub record MarkerRows (source : Address) (type : ℕ) (request l : List ℕ) : Type 0 where
  pub opened : Opened source l
  pub subtype_version : row l 14 15 ≡ 2 ∷ 1 ∷ []
  pub type-length : row l 16 17 ≡ type ∷ 16 ∷ []
  pub requester : row l 18 29 ≡ request
  pub rest : row l 30 123 ≡ replicate 94 0

pub lacpdu_rows : (source : Address) (us them : Block) (delay : TensOfMicroseconds)
    → LacpduRows source us them delay.0 (lacpdu source us them delay)
lacpdu_rows source us them delay = record {
  opened = record { size = refl; destination = refl; from = refl; type = refl };
  subtype_version = refl;
  actor-type-length = refl;
  actor = refl;
  after-actor = refl;
  partner-type-length = refl;
  partner = refl;
  after-partner = refl;
  collector-type-length = refl;
  max-delay = refl;
  after-delay = refl;
  terminator = refl;
  after-terminator = refl;
}

pdu_rows : (source : Address) (kind : MarkerType) (request : List ℕ) → length request ≡ 12
    → MarkerRows source (marker_type_octet kind) request (marker source kind request)
pdu_rows source kind request h = record {
  opened = record { size = simp (length-append, h); destination = refl; from = refl; type = refl };
  subtype_version = refl;
  type-length = refl;
  requester = take_at request (replicate 94 0) 12 h;
  rest = ap (λ (l : List ℕ). take 94 l) (drop_at request (replicate 94 0) 12 h);
}

pub marker_rows : (source : Address) (request : List ℕ) → length request ≡ 12 → MarkerRows source 1 request (marker source wire.Marker request)
marker_rows source request h = pdu_rows source wire.Marker request h

-- and R14.2: a Response says of the requester what the Marker says
pub response_rows : (source : Address) (received : List ℕ) → 124 ≤ length received
    → MarkerRows source 2 (row received 18 29) (response source received)
response_rows source received h = pdu_rows source wire.Response (row received 18 29) (simp (length-take, length-drop) (omega arith))
