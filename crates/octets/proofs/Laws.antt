-- Laws of `specs/Octets.antt`, which callers cite in the place of its text: writing over lent parts, from the front on and into the
-- middle, the test for equal octets, and the round trip of a two-octet number. Lists of octets are in `OctetLists.antt`. Assumes nothing.
use Prim.Native.Nat.{ℕ, zero, suc, ◌+◌, ◌-◌, ◌≤◌, ◌<◌}
use mathlib.Core.Path.{◌≡◌, refl, sym, ap, ◌∙◌}
use mathlib.Core.Bool.{Bool, true, false, and-eq-true_iff, false≢true}
use mathlib.Core.List.{List, [], ◌∷◌, ◌++◌, append_assoc, append-nil}
use native.Mathlib.Omega.{arith}
use native.Mathlib.Nat.{zero-add}
use native.Mathlib.Numerals.{add-one}
use lib.ListN.{length, take, drop, get_or, length-drop, length-append, take-append-drop, drop_of_length-le}
use lib.Seq.{take_all, take-length, length-take-le, take-append-le, drop-append-le, take-append-add, drop-append-add, drop-drop, take_at, drop_at, drop-cons}
use lib.Dec.{eqb}
use borrow.Author.Tests.{eqb-true, eq-eqb}
use borrow.Rule.Slice.PartMut.{put_mid, mid_of, Post-is}
use Rattle.octets.specs.Octets.{put_at, fitted, same_octets, high, low, joined}

-- ---- writing over lent parts

-- a part from `at` to the end comes back with s at its front: that is s written at `at`
pub put_front : (at : ℕ) (s d : List ℕ) → at ≤ length d
    → put_mid at (length d - at) d (take (length s) s ++ drop (length s) (mid_of at (length d - at) d)) ≡ put_at at s d
unfolding put_at
put_front at s d h =
    let all : take (length d - at) (drop at d) ≡ drop at d = take_all (length d - at) (drop at d) (simp length-drop (omega arith)) in
    let none : drop (length d - at) (drop at d) ≡ [] = drop_of_length-le (drop at d) {i = length d - at} (simp length-drop (omega arith)) in
    simp (all, none, take-length, drop-drop, append-nil)

-- a part from n to e comes back as s: that is s written at n
pub put-part : (n e : ℕ) (s d : List ℕ) → n + length s ≡ e → put_mid n (e - n) d s ≡ put_at n s d
unfolding put_at
put-part n e s d h =
    let le : n ≤ e = omega arith in
    simp (Post-is n e d le, h)

-- a copy of all of s over the front of d, or of the front of s over all of d, writes as much of s as fits
pub fitted-whole : (s d : List ℕ) → length s ≤ length d → take (length s) s ++ drop (length s) d ≡ fitted s d
unfolding fitted
fitted-whole s d h = rw (take_all (length d) s h, take-length)

pub fitted-front : (s d : List ℕ) → length d ≤ length s
    → take (length (take (length d) s)) (take (length d) s) ++ drop (length (take (length d) s)) d ≡ fitted s d
unfolding fitted
fitted-front s d h =
    let none = drop_of_length-le d {i = length (take (length d) s)} (rw (length-take-le (length d) s h) (omega arith)) in
    rw (take-length, none, drop_of_length-le d {i = length s} h)

-- d with p over its front
abbrev pub over : List ℕ → List ℕ → List ℕ
over p d = p ++ drop (length p) d

-- pieces one after the other
abbrev joined_up : List (List ℕ) → List ℕ
joined_up [] = []
joined_up (s ∷ ss) = s ++ joined_up ss

-- d after pieces were written over it one after the other, from n on
abbrev pub puts : ℕ → List (List ℕ) → List ℕ → List ℕ
puts n [] d = d
puts n (s ∷ ss) d = puts (n + length s) ss (put_at n s d)

put_next : (p s l : List ℕ) → put_at (length p) s (over p l) ≡ over (p ++ s) l
unfolding put_at
put_next p s l =
    let after : drop (length p + length s) (over p l) ≡ drop (length (p ++ s)) l =
    drop-append-add p (drop (length p) l) (length s) ∙ drop-drop (length s) (length p) l ∙ ap (λ (k : ℕ). drop k l) (sym (length-append p s)) in
    rw (take_at p (drop (length p) l) (length p) refl, after, append_assoc)

-- pieces that are written from the front on stand over the front together, whatever was there
puts-over : (p : List ℕ) (ss : List (List ℕ)) (l : List ℕ) → puts (length p) ss (over p l) ≡ over (p ++ joined_up ss) l
puts-over p [] l = rw append-nil
puts-over p (s ∷ ss) l = rw (put_next p s l, ← length-append p s) (puts-over (p ++ s) ss l ∙ ap (λ (q : List ℕ). over q l) (append_assoc p s (joined_up ss)))

pub written : (ss : List (List ℕ)) (l : List ℕ) → puts 0 ss l ≡ over (joined_up ss) l
written ss l = puts-over [] ss l

pub over-put : (s l : List ℕ) → over s l ≡ put_at 0 s l
unfolding put_at
over-put s l = ap (λ (n : ℕ). s ++ drop n l) (sym (zero-add (length s)))

-- what is over the whole of a list is all there is
pub over-all : (p l : List ℕ) → length l ≤ length p → over p l ≡ p
over-all p l h = rw (drop_of_length-le l {i = length p} h, append-nil)

pub length-put : (n : ℕ) (s d : List ℕ) → n + length s ≤ length d → length (put_at n s d) ≡ length d
unfolding put_at
length-put n s d h = simp (length-append, lib.ListN.length-take, length-drop) (omega arith)

-- pieces that are written one after the other are written together
pub puts-at : (n : ℕ) (ss : List (List ℕ)) (l : List ℕ) → n ≤ length l → puts n ss l ≡ put_at n (joined_up ss) l
unfolding put_at
puts-at n ss l h =
    let p = take n l in
    let j = joined_up ss in
    let size : length p ≡ n = length-take-le n l h in
    let front : over p l ≡ l = rw size (take-append-drop n l) in
    let whole : length (p ++ j) ≡ n + length j = length-append p j ∙ ap (λ (k : ℕ). k + length j) size in
    let pieces : puts (length p) ss (over p l) ≡ over (p ++ j) l = puts-over p ss l in
    let moved : puts (length p) ss (over p l) ≡ puts n ss l = (λ i. puts (size i) ss (front i)) in
    sym moved ∙ pieces ∙ ap (λ (k : ℕ). (p ++ j) ++ drop k l) whole ∙ append_assoc p j (drop (n + length j) l)

-- ---- parts of what was written over

-- a part of the first of two lists does not depend on the second
front-part : (a n : ℕ) (p q : List ℕ) → a + n ≤ length p → take n (drop a (p ++ q)) ≡ take n (drop a p)
front-part a n p q h =
    ap (λ (l : List ℕ). take n l) (drop-append-le a p q (omega arith))
    ∙ take-append-le n (drop a p) q (simp length-drop (omega arith))

-- what is read where it was written
pub put-here : (b n : ℕ) (s t : List ℕ) → length s ≡ n → b ≤ length t → take n (drop b (put_at b s t)) ≡ s
unfolding put_at
put-here b n s t e h =
    ap (λ (l : List ℕ). take n l) (drop_at (take b t) (s ++ drop (b + length s) t) b (length-take-le b t h))
    ∙ take_at s (drop (b + length s) t) n e

-- a part that ends before what was written
pub put-after : (a n b : ℕ) (s t : List ℕ) → a + n ≤ b → b ≤ length t → take n (drop a (put_at b s t)) ≡ take n (drop a t)
unfolding put_at
put-after a n b s t h k =
    let size : length (take b t) ≡ b = length-take-le b t k in
    let fit : a + n ≤ length (take b t) = omega arith in
    front-part a n (take b t) (s ++ drop (b + length s) t) fit
    ∙ sym (front-part a n (take b t) (drop b t) fit)
    ∙ ap (λ (l : List ℕ). take n (drop a l)) (take-append-drop b t)

-- all that comes after what was written
pub put-before : (a b : ℕ) (s t : List ℕ) → b + length s ≤ a → b ≤ length t → drop a (put_at b s t) ≡ drop a t
unfolding put_at
put-before a b s t h k =
    let p = take b t ++ s in
    let rest = drop (b + length s) t in
    let size : length p ≡ b + length s = length-append (take b t) s ∙ ap (λ (n : ℕ). n + length s) (length-take-le b t k) in
    let more = a - (b + length s) in
    let far : length p + more ≡ a = omega arith in
    let reach : b + length s + more ≡ a = omega arith in
    ap (λ (l : List ℕ). drop a l) (sym (append_assoc (take b t) s rest))
    ∙ ap (λ (n : ℕ). drop n (p ++ rest)) (sym far)
    ∙ drop-append-add p rest more
    ∙ drop-drop more (b + length s) t
    ∙ ap (λ (n : ℕ). drop n t) reach

-- what is written behind the first of two lists is written into the second
pub put-append : (a b s : List ℕ) (k : ℕ) → put_at (length a + k) s (a ++ b) ≡ a ++ put_at k s b
unfolding put_at
put-append a b s k =
    let deep : length a + k + length s ≡ length a + (k + length s) = omega arith in
    (λ i. take-append-add a b k i ++ (s ++ (ap (λ (n : ℕ). drop n (a ++ b)) deep ∙ drop-append-add a b (k + length s)) i))
    ∙ append_assoc a (take k b) (s ++ drop (k + length s) b)

-- ---- octets by their index

-- the n octets from index i on, one by one
abbrev pub spread : ℕ → ℕ → List ℕ → List ℕ
spread i zero l = []
spread i (suc n) l = get_or l i 0 ∷ spread (i + 1) n l

pub spread-part : (i n : ℕ) (l : List ℕ) → i + n ≤ length l → spread i n l ≡ take n (drop i l)
spread-part i zero l h = refl
spread-part i (suc n) l h =
    let lt : i < length l = omega arith in
    rw (drop-cons l i 0 lt, spread-part (i + 1) n l (omega arith), add-one)

pub spread-all : (l : List ℕ) (n : ℕ) → length l ≡ n → spread 0 n l ≡ l
spread-all l n e = spread-part 0 n l (omega arith) ∙ take_all n l (omega arith)

-- ---- equal octets

same_refl : (l : List ℕ) → same_octets l l ≡ true
unfolding same_octets
same_refl [] = refl
same_refl (x ∷ xs) = rw (eq-eqb x x refl, same_refl xs)

pub same_true : (a b : List ℕ) → same_octets a b ≡ true → a ≡ b
unfolding same_octets
same_true [] [] e = refl
same_true [] (y ∷ ys) e = absurd (false≢true e)
same_true (x ∷ xs) [] e = absurd (false≢true e)
same_true (x ∷ xs) (y ∷ ys) e =
    let both = (and-eq-true_iff (eqb x y) (same_octets xs ys)).0 e in
    let hd : x ≡ y = eqb-true x y both.0 in
    let tl : xs ≡ ys = same_true xs ys both.1 in
    cc

-- an answer that is true exactly for equal lists is the test
pub same-tested : (a b : List ℕ) (r : Bool) → (r ≡ true → a ≡ b) → (a ≡ b → r ≡ true) → r ≡ same_octets a b
same-tested a b true to from = rw (to refl, same_refl b)
same-tested a b false to from = tested (same_octets a b) (λ e. from (same_true a b e))
  where
    tested : (t : Bool) → (t ≡ true → false ≡ true) → false ≡ t
    tested true no_way = no_way refl
    tested false no_way = refl

-- ---- two-octet numbers

pub number-back : (n : ℕ) → joined (high n) (low n) ≡ n
number-back n = omega arith

pub high-back : (h l : ℕ) → l < 256 → high (joined h l) ≡ h
high-back h l b = omega arith

pub low-back : (h l : ℕ) → l < 256 → low (joined h l) ≡ l
low-back h l b = omega arith

-- what stands there, written over itself
pub put_back : (n k : ℕ) (t : List ℕ) → n + k ≤ length t → put_at n (take k (drop n t)) t ≡ t
unfolding put_at
put_back n k t h =
    let d = length-drop n t in
    let size : length (take k (drop n t)) ≡ k = length-take-le k (drop n t) (omega (arith, d)) in
    ap (λ (m : ℕ). take n t ++ (take k (drop n t) ++ drop (n + m) t)) size
    ∙ ap (λ (x : List ℕ). take n t ++ (take k (drop n t) ++ x)) (sym (drop-drop k n t))
    ∙ ap (λ (x : List ℕ). take n t ++ x) (take-append-drop k (drop n t))
    ∙ take-append-drop n t
