-- Laws of rows of one width: their length, and a loop over them, which after i turns stands at `over (rows_to e f i) l`: the first i rows written over the front of what
-- was there. Assumes nothing.
use Prim.Native.Nat.{ℕ, zero, suc, ◌+◌, ◌*◌, ◌-◌, ◌≤◌, ◌<◌}
use mathlib.Core.Path.{◌≡◌, refl, sym, ap, ◌∙◌}
use mathlib.Core.Bool.{Bool, true, false}
use mathlib.Core.List.{List, ◌++◌, append_assoc}
use native.Mathlib.Omega.{arith}
use native.Mathlib.Nat.{mul-zero, mul-suc, mul-add, add-zero, mul-le-mul_left}
use lib.ListN.{length, take, drop, length-append, length-drop}
use lib.Dec.{ltb}
use borrow.Author.Tests.{ltb-true, ltb-false}
use lib.Seq.{take_at, drop-append-add, drop-drop}
use Rattle.octets.specs.Octets.{put_at}
use Rattle.octets.proofs.Laws.{over, over-put, over-all, put-append}
use Rattle.octets.specs.Rows.{row_at, rows_to}

module _ {A : Type 0} (e : A → List ℕ) (width : ℕ) (wide : (a : A) → length (e a) ≡ width) (f : ℕ → A) where
  pub rows_length : (n : ℕ) → length (rows_to e f n) ≡ width * n
  unfolding rows_to
  rows_length zero = sym (mul-zero width)
  rows_length (suc n) =
      let before = rows_length n in
      let here = wide (f n) in
      length-append (rows_to e f n) (e (f n)) ∙ (λ i. before i + here i) ∙ sym (mul-suc width n)

  -- row n behind n others
  row_last : (n : ℕ) (rest : List ℕ) → row_at width (rows_to e f n ++ (e (f n) ++ rest)) n ≡ e (f n)
  unfolding row_at
  row_last n rest =
      let p = rows_to e f n in
      ap (λ (k : ℕ). take width (drop k (p ++ (e (f n) ++ rest)))) (sym (rows_length n) ∙ sym (add-zero (length p)))
      ∙ ap (λ (x : List ℕ). take width x) (drop-append-add p (e (f n) ++ rest) 0) ∙ take_at (e (f n)) rest width (wide (f n))

  -- row i of those of n places
  pub row_of : (n : ℕ) (rest : List ℕ) (i : ℕ) → i < n → row_at width (rows_to e f n ++ rest) i ≡ e (f i)
  unfolding rows_to
  row_of zero rest i h = absurd (omega (arith, h))
  row_of (suc n) rest i h = by (ltb i n) refl (λ g. row_of n (e (f n) ++ rest) i g)
    where
      by : (b : Bool) → ltb i n ≡ b → (i < n → row_at width (rows_to e f n ++ (e (f n) ++ rest)) i ≡ e (f i)) → row_at width ((rows_to e f n ++ e (f n)) ++ rest) i ≡ e (f i)
      by true t before = ap (λ (l : List ℕ). row_at width l i) (append_assoc (rows_to e f n) (e (f n)) rest) ∙ before (ltb-true i n t)
      by false t before =
          let last : i ≡ n = omega (arith, h, ltb-false i n t) in
          ap (λ (l : List ℕ). row_at width l i) (append_assoc (rows_to e f n) (e (f n)) rest) ∙ ap (λ (j : ℕ). row_at width (rows_to e f n ++ (e (f n) ++ rest)) j) last ∙ row_last n rest ∙ ap (λ (j : ℕ). e (f j)) (sym last)

  -- the first i rows written over the front of a list
  pub done : List ℕ → ℕ → List ℕ
  done l i = over (rows_to e f i) l

  pub done-length : (l : List ℕ) (i n : ℕ) → i ≤ n → length l ≡ width * n → length (done l i) ≡ length l
  unfolding done
  done-length l i n h size =
      let p = rows_length i in
      let most : width * i ≤ width * n = mul-le-mul_left width h in
      let d = length-drop (length (rows_to e f i)) l in
      length-append (rows_to e f i) (drop (length (rows_to e f i)) l) ∙ omega (arith, p, most, d, size)

  -- before the first turn
  pub done_none : (l : List ℕ) → done l 0 ≡ l
  unfolding done rows_to
  done_none l = refl

  -- a row that is not yet done is as it was
  pub done-row : (l : List ℕ) (i j : ℕ) → i ≤ j → row_at width (done l i) j ≡ row_at width l j
  unfolding row_at done
  done-row l i j h =
      let p = rows_to e f i in
      let k : ℕ = width * (j - i) in
      let q = rows_length i in
      let sum = mul-add width i (j - i) in
      let is : i + (j - i) ≡ j = omega (arith, h) in
      let at : width * j ≡ length p + k = ap (λ (n : ℕ). width * n) (sym is) ∙ sum ∙ ap (λ (n : ℕ). n + k) (sym q) in
      ap (λ (n : ℕ). take width (drop n (over p l))) at ∙ ap (λ (x : List ℕ). take width x) (drop-append-add p (drop (length p) l) k ∙ drop-drop k (length p) l)
      ∙ ap (λ (n : ℕ). take width (drop n l)) (sym at)

  -- one more turn
  pub done_more : (l : List ℕ) (i : ℕ) → put_at (width * i) (e (f i)) (done l i) ≡ done l (suc i)
  unfolding done rows_to
  done_more l i =
      let p = rows_to e f i in
      let s = e (f i) in
      let at : width * i ≡ length p + 0 = sym (rows_length i) ∙ sym (add-zero (length p)) in
      ap (λ (n : ℕ). put_at n s (over p l)) at ∙ put-append p (drop (length p) l) s 0 ∙ ap (λ (x : List ℕ). p ++ x) (sym (over-put s (drop (length p) l)))
      ∙ sym (append_assoc p s (drop (length s) (drop (length p) l)))
      ∙ ap (λ (x : List ℕ). (p ++ s) ++ x) (drop-drop (length s) (length p) l ∙ ap (λ (n : ℕ). drop n l) (sym (length-append p s)))

  -- after the last
  pub done_all : (l : List ℕ) (n : ℕ) → length l ≡ width * n → done l n ≡ rows_to e f n
  unfolding done
  done_all l n size = over-all (rows_to e f n) l (let p = rows_length n in omega (arith, p, size))
