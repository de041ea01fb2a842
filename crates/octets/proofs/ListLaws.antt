-- Laws of `specs/Lists.antt`, for lists of any elements: what a map and a sweep hold at an index and keep, a sweep that a loop does turn
-- by turn, and a property of every element through maps, sweeps and stores. By the elements. Assumes nothing.
use Prim.Native.Nat.{ℕ, zero, suc, ◌+◌, ◌<◌, ◌≤◌}
use mathlib.Core.Path.{◌≡◌, refl, sym, ap, ◌∙◌}
use mathlib.Core.Bool.{Bool, true, false, cond}
use mathlib.Core.List.{List, [], ◌∷◌, map}
use native.Mathlib.Omega.{arith}
use lib.ListN.{length, get_or, set, replicate, length-set, length-replicate, get_or-replicate}
use lib.Seq.{get_or-set_same, get_or-set_other, ext_get_or}
use lib.Dec.{ltb, eqb}
use borrow.Author.Tests.{ltb-true, ltb-false, lt-ltb, le-ltb, eqb-true, eqb-false}
use Rattle.std.proofs.lemmas.List.{get_or-map}
use Rattle.octets.specs.Lists.{map_from, Each}

-- ---- a map

-- the element at an index
pub map_at : {A B : Type 0} (g : A → B) (xs : List A) (i : ℕ) (b : B) (d : A) → i < length xs → get_or (map g xs) i b ≡ g (get_or xs i d)
map_at g xs i b d h = get_or-map g xs i d b h

-- what f keeps of each element, the map keeps of the list
pub map-keeps : {A B : Type 0} (g : A → B) (f : A → A) → ((x : A) → g (f x) ≡ g x) → (xs : List A) → map g (map f xs) ≡ map g xs
map-keeps g f keeps [] = refl
map-keeps g f keeps (x ∷ xs) = λ k. keeps x k ∷ map-keeps g f keeps xs k

-- where f changes no element, the map changes nothing
pub map_same : {A : Type 0} (f : A → A) (xs : List A) → Each (λ (x : A). f x ≡ x) xs → map f xs ≡ xs
map_same f [] e = refl
map_same f (x ∷ xs) e = λ k. e 0 x (omega arith) k ∷ map_same f xs (λ i d h. e (suc i) d (omega arith)) k

-- ---- a sweep: each element by its index

pub sweep_length : {A B : Type 0} (f : ℕ → A → B) (i : ℕ) (xs : List A) → length (map_from f i xs) ≡ length xs
unfolding map_from
sweep_length f i [] = refl
sweep_length f i (x ∷ xs) = ap suc (sweep_length f (i + 1) xs)

-- the element at an index
pub sweep_at : {A : Type 0} (f : ℕ → A → A) (i : ℕ) (xs : List A) (j : ℕ) (d : A) → j < length xs → get_or (map_from f i xs) j d ≡ f (i + j) (get_or xs j d)
unfolding map_from
sweep_at f i [] j d h = absurd (omega arith)
sweep_at f i (x ∷ xs) zero d h = let e : i ≡ i + 0 = omega arith in ap (λ (k : ℕ). f k x) e
sweep_at f i (x ∷ xs) (suc j) d h =
    let e : i + 1 + j ≡ i + suc j = omega arith in
    sweep_at f (i + 1) xs j d (omega arith) ∙ ap (λ (k : ℕ). f k (get_or xs j d)) e

-- what f keeps of each element, the sweep keeps of the list
pub sweep_keeps : {A B : Type 0} (g : A → B) (f : ℕ → A → A) → ((i : ℕ) (x : A) → g (f i x) ≡ g x) → (i : ℕ) (xs : List A) → map g (map_from f i xs) ≡ map g xs
unfolding map_from
sweep_keeps g f keeps i [] = refl
sweep_keeps g f keeps i (x ∷ xs) = λ k. keeps i x k ∷ sweep_keeps g f keeps (i + 1) xs k

-- two sweeps that do alike to each element
pub sweep_alike : {A B : Type 0} (f g : ℕ → A → B) (i : ℕ) (xs : List A) → ((m : ℕ) (x : A) → i ≤ m → m < i + length xs → f m x ≡ g m x) → map_from f i xs ≡ map_from g i xs
unfolding map_from
sweep_alike f g i [] e = refl
sweep_alike f g i (x ∷ xs) e = λ k. e i x (omega arith) (omega arith) k ∷ sweep_alike f g (i + 1) xs (λ m y a b. e m y (omega arith) (omega arith)) k

-- one that changes no element
pub sweep_same : {A : Type 0} (f : ℕ → A → A) (i : ℕ) (xs : List A) → ((m : ℕ) (x : A) → f m x ≡ x) → map_from f i xs ≡ xs
unfolding map_from
sweep_same f i [] e = refl
sweep_same f i (x ∷ xs) e = λ k. e i x k ∷ sweep_same f (i + 1) xs e k

-- one after the other
pub sweep_sweep : {A B C : Type 0} (g : ℕ → B → C) (f : ℕ → A → B) (i : ℕ) (xs : List A) → map_from g i (map_from f i xs) ≡ map_from (λ m x. g m (f m x)) i xs
unfolding map_from
sweep_sweep {A} {B} {C} g f i [] = refl
sweep_sweep {A} {B} {C} g f i (x ∷ xs) = ap (λ (l : List C). g i (f i x) ∷ l) (sweep_sweep g f (i + 1) xs)

-- a sweep that does not look at the index is a map
abbrev pub pointwise : {A B : Type 0} → (A → B) → ℕ → A → B
pointwise g i x = g x

pub sweep_map : {A B : Type 0} (g : A → B) (i : ℕ) (xs : List A) → map_from (λ j x. g x) i xs ≡ map g xs
unfolding map_from
sweep_map {A} {B} g i [] = refl
sweep_map {A} {B} g i (x ∷ xs) = ap (λ (l : List B). g x ∷ l) (sweep_map g (i + 1) xs)

-- ---- a loop that has done the first i elements stands at `done_to f i xs`; one more turn is a `set`

-- f at the indices below i, and nothing from there on
abbrev pub below : {A : Type 0} → (ℕ → A → A) → ℕ → ℕ → A → A
below f i j x = cond (ltb j i) (f j x) x

abbrev pub done_to : {A : Type 0} → (ℕ → A → A) → ℕ → List A → List A
done_to f i xs = map_from (below f i) 0 xs

module _ {A : Type 0} (f : ℕ → A → A) (xs : List A) where
  pub done-length : (i : ℕ) → length (done_to f i xs) ≡ length xs
  done-length i = sweep_length (below f i) 0 xs

  done_at : (i j : ℕ) (d : A) → j < length xs → get_or (done_to f i xs) j d ≡ below f i j (get_or xs j d)
  done_at i j d h = let e : 0 + j ≡ j = omega arith in sweep_at (below f i) 0 xs j d h ∙ ap (λ (k : ℕ). below f i k (get_or xs j d)) e

  -- what the next turn finds is as it was
  pub done_next : (i : ℕ) (d : A) → i < length xs → get_or (done_to f i xs) i d ≡ get_or xs i d
  done_next i d h = done_at i i d h ∙ rw (le-ltb i i (omega arith))

  pub done_none : (d : A) → done_to f 0 xs ≡ xs
  done_none d = ext_get_or d (done_to f 0 xs) xs (done-length 0) (λ j h. done_at 0 j d (rw (done-length 0) at h) ∙ rw (le-ltb j 0 (omega arith)))

  -- where f changes nothing below i, the first i turns did nothing
  pub done-idle : (i : ℕ) → ((m : ℕ) (x : A) → m < i → f m x ≡ x) → done_to f i xs ≡ xs
  done-idle i e = sweep_same (below f i) 0 xs (λ m x. by m x (ltb m i) refl)
    where
      by : (m : ℕ) (x : A) (b : Bool) → ltb m i ≡ b → cond b (f m x) x ≡ x
      by m x true h = e m x (ltb-true m i h)
      by m x false h = refl

  -- one more turn
  pub done_more : (i : ℕ) (d : A) → i < length xs → set (done_to f i xs) i (f i (get_or xs i d)) ≡ done_to f (i + 1) xs
  done_more i d h =
      ext_get_or d (set (done_to f i xs) i (f i (get_or xs i d))) (done_to f (i + 1) xs)
      (length-set (done_to f i xs) i (f i (get_or xs i d)) ∙ done-length i ∙ sym (done-length (i + 1)))
      (λ j k. by j (rw (length-set (done_to f i xs) i (f i (get_or xs i d)), done-length i) at k) (eqb j i) refl)
    where
      by : (j : ℕ) → j < length xs → (b : Bool) → eqb j i ≡ b → get_or (set (done_to f i xs) i (f i (get_or xs i d))) j d ≡ get_or (done_to f (i + 1) xs) j d
      by j k true e =
          let is : j ≡ i = eqb-true j i e in
          let here : i < length (done_to f i xs) = rw (done-length i) h in
          ap (λ (m : ℕ). get_or (set (done_to f i xs) i (f i (get_or xs i d))) m d) is
          ∙ get_or-set_same (done_to f i xs) i (f i (get_or xs i d)) d here
          ∙ ap (λ (m : ℕ). f m (get_or xs m d)) (sym is)
          ∙ sym (done_at (i + 1) j d k ∙ rw (lt-ltb j (i + 1) (omega arith)))
      by j k false e =
          let differ : j ≡ i → ⊥ = eqb-false j i e in
          get_or-set_other (done_to f i xs) i j (f i (get_or xs i d)) d differ ∙ done_at i j d k ∙ same (ltb j i) refl ∙ sym (done_at (i + 1) j d k)
        where
          same : (b : Bool) → ltb j i ≡ b → below f i j (get_or xs j d) ≡ below f (i + 1) j (get_or xs j d)
          same true q = let less : j < i = ltb-true j i q in rw (lt-ltb j i less, lt-ltb j (i + 1) (omega arith))
          same false q =
              let more : i ≤ j = ltb-false j i q in
              let differ : j ≡ i → ⊥ = eqb-false j i e in
              let over : i + 1 ≤ j = omega arith in
              rw (le-ltb j i more, le-ltb j (i + 1) over)

  -- where f changes nothing from n on, what was done so far is the sweep; so it is after the last turn
  pub done-rest : (n : ℕ) (d : A) → ((m : ℕ) (x : A) → n ≤ m → m < length xs → f m x ≡ x) → done_to f n xs ≡ map_from f 0 xs
  done-rest n d e =
      ext_get_or d (done_to f n xs) (map_from f 0 xs) (done-length n ∙ sym (sweep_length f 0 xs))
      (λ j k. let h : j < length xs = rw (done-length n) at k in
      let z : 0 + j ≡ j = omega arith in
      done_at n j d h ∙ by j (get_or xs j d) h (ltb j n) refl ∙ sym (sweep_at f 0 xs j d h ∙ ap (λ (m : ℕ). f m (get_or xs j d)) z))
    where
      by : (j : ℕ) (x : A) → j < length xs → (b : Bool) → ltb j n ≡ b → cond b (f j x) x ≡ f j x
      by j x h true s = refl
      by j x h false s = sym (e j x (ltb-false j n s) h)

  pub done_all : (n : ℕ) (d : A) → length xs ≡ n → done_to f n xs ≡ map_from f 0 xs
  done_all n d e = done-rest n d (λ m x a b. absurd (omega (arith, a, b, e)))

if-keeps : {A B : Type 0} (g : A → B) (b : Bool) (x y : A) → g y ≡ g x → g (cond b y x) ≡ g x
if-keeps g true x y e = e
if-keeps g false x y e = refl

pub done-keeps : {A B : Type 0} (g : A → B) (f : ℕ → A → A) → ((i : ℕ) (x : A) → g (f i x) ≡ g x) → (i : ℕ) (xs : List A) → map g (done_to f i xs) ≡ map g xs
done-keeps g f keeps i xs = sweep_keeps g (below f i) (λ j x. if-keeps g (ltb j i) x (f j x) (keeps j x)) 0 xs

-- ---- a property of every element

pub each_map : {A B : Type 0} (P : A → Type 0) (Q : B → Type 0) (f : A → B) (xs : List A) → ((x : A) → P x → Q (f x)) → Each P xs → Each Q (map f xs)
each_map P Q f [] k e i d h = absurd (omega arith)
each_map P Q f (x ∷ xs) k e zero d h = k x (e 0 x (omega arith))
each_map P Q f (x ∷ xs) k e (suc i) d h = each_map P Q f xs k (λ j c g. e (suc j) c (omega arith)) i d (omega arith)

pub each_sweep : {A : Type 0} (P Q : A → Type 0) (f : ℕ → A → A) (xs : List A)
    → ((i : ℕ) (x : A) → i < length xs → P x → Q (f i x)) → Each P xs → Each Q (map_from f 0 xs)
each_sweep P Q f xs k e i d h =
    let g : i < length xs = rw (sweep_length f 0 xs) at h in
    let z : 0 + i ≡ i = omega arith in
    rw (sweep_at f 0 xs i d g, z) (k i (get_or xs i d) g (e i d g))

pub each_set : {A : Type 0} (P : A → Type 0) (xs : List A) (n : ℕ) (y : A) → P y → Each P xs → Each P (set xs n y)
each_set P xs n y h e i d k = by (eqb i n) refl
  where
    here : i < length xs
    here = rw (length-set xs n y) at k

    by : (b : Bool) → eqb i n ≡ b → P (get_or (set xs n y) i d)
    by true x =
        let is : i ≡ n = eqb-true i n x in
        let less : n < length xs = rw is at here in
        rw (is, get_or-set_same xs n y d less) h
    by false x = rw (get_or-set_other xs n i y d (eqb-false i n x)) (e i d here)

pub each-alike : {A : Type 0} (P : A → Type 0) (n : ℕ) (x : A) → P x → Each P (replicate n x)
each-alike P n x h i d k =
    let less : i < n = rw (length-replicate n x) at k in
    rw (get_or-replicate n i x d less) h
