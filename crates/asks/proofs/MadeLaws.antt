-- What is made of the groups of all ports, by a start, a tick and a port's new value: it has its length, is in range and made of octets, and tells of what was meant.
-- Assumes nothing.
use Prim.Native.Nat.{ℕ, zero, suc, ◌*◌, ◌≤◌, ◌<◌}
use mathlib.Core.Path.{◌≡◌, refl, sym, ap, ◌∙◌}
use mathlib.Core.Bool.{Bool, true, false}
use mathlib.Core.List.{List, [], ◌∷◌, ◌++◌, append-nil}
use native.Mathlib.Omega.{arith}
use native.Mathlib.Nat.{mul-suc}
use lib.ListN.{length, take, drop, replicate, replicate-append-replicate}
use lib.Dec.{eqb, leb, ltb}
use borrow.Author.Tests.{leb-true, ltb-true, ltb-false, lt-ltb, eqb-true, eqb-false}
use Rattle.octets.specs.Octets.{Octets, put_at, number_octets, long_octets}
use Rattle.octets.specs.Rows.{row_at, rows_to}
use Rattle.octets.proofs.Laws.{length-put, put-here, put-after, put-before}
use Rattle.octets.proofs.OctetLists.{octets_of_lem, append-octets, take-octets, drop-octets, put-octets}
use Rattle.octets.proofs.LongLaws.{long-octets}
use Rattle.octets.proofs.RangeLaws.{both, both_true, number-octets}
use Rattle.octets.proofs.RowLaws.{rows_length, row_of}
use Rattle.asks.specs.declared.ask.Outcome.{Outcome}
use Rattle.asks.specs.declared.ask.Outcome.TheVariants.{Nothing, Awaiting, Answered, TimedOut, Cancelled}
use Rattle.asks.specs.declared.ask.Ask.{Ask}
use Rattle.asks.specs.Ask.{longest_wait, never_asked, ask_fallen}
use Rattle.asks.specs.Group.{group_size, outcome_code, group_octets, group_of, group_in_range, ask_fits}
use Rattle.asks.specs.Groups.{ask_at, groups_in_range, all_fallen, all_begun}
use Rattle.asks.proofs.GroupLaws.{group-length}
use Rattle.asks.proofs.AskLaws.{group-back, group-ranged, group-fits, never-fits, fallen-fits}

-- ---- octets

code-octet : (o : Outcome) → outcome_code o < 256
code-octet Nothing = omega arith
code-octet Awaiting = omega arith
code-octet Answered = omega arith
code-octet TimedOut = omega arith
code-octet Cancelled = omega arith

group-octets : (a : Ask) → ask_fits a ≡ true → Octets (group_octets a)
unfolding group_octets ask_fits
group-octets a e =
    let h = both (leb a.timer.0 longest_wait) (ltb a.number 4294967296) e in
    let t = leb-true a.timer.0 longest_wait h.0 in
    append-octets (outcome_code a.outcome ∷ []) (number_octets a.timer.0 ++ long_octets a.number) (octets_of_lem (outcome_code a.outcome ∷ []) (code-octet a.outcome, tt))
    (append-octets (number_octets a.timer.0) (long_octets a.number) (number-octets a.timer.0 (lt-ltb a.timer.0 65536 (omega (arith, t)))) (long-octets a.number (ltb-true a.number 4294967296 h.1)))

-- ---- groups that are of n ports, in range and made of octets

pub record Groups (n : ℕ) (g : List ℕ) : Type 0 where
  pub size : length g ≡ group_size * n
  pub ranged : groups_in_range n g ≡ true
  pub octets : Octets g

-- each of them is in range, and fits
ranged-at : (n : ℕ) (g : List ℕ) → groups_in_range n g ≡ true → (i : ℕ) → i < n → group_in_range (row_at group_size g i) ≡ true
unfolding groups_in_range
ranged-at zero g e i h = absurd (omega (arith, h))
ranged-at (suc n) g e i h = by (eqb i n) refl (λ k. ranged-at n g (both (groups_in_range n g) (group_in_range (row_at group_size g n)) e).0 i k)
  where
    by : (b : Bool) → eqb i n ≡ b → (i < n → group_in_range (row_at group_size g i) ≡ true) → group_in_range (row_at group_size g i) ≡ true
    by true t before = ap (λ (j : ℕ). group_in_range (row_at group_size g j)) (eqb-true i n t) ∙ (both (groups_in_range n g) (group_in_range (row_at group_size g n)) e).1
    by false t before = before (let u = eqb-false i n t in omega (arith, h, u))

pub fits-at : (n : ℕ) (g : List ℕ) → Groups n g → (i : ℕ) → i < n → ask_fits (ask_at g i) ≡ true
unfolding ask_at row_at
fits-at n g k i h = group-fits (take group_size (drop (group_size * i) g)) (take-octets group_size (drop (group_size * i) g) (drop-octets (group_size * i) g k.octets)) (unfold row_at in ranged-at n g k.ranged i h)

-- all are if each is
ranged-all : (n : ℕ) (g : List ℕ) → ((i : ℕ) → i < n → group_in_range (row_at group_size g i) ≡ true) → groups_in_range n g ≡ true
unfolding groups_in_range
ranged-all zero g f = refl
ranged-all (suc n) g f = both_true (ranged-all n g (λ i h. f i (omega (arith, h)))) (f n (omega arith))

-- ---- the groups of these values

module _ (f : ℕ → Ask) (n : ℕ) (fit : (i : ℕ) → i < n → ask_fits (f i) ≡ true) where
  row_is : (i : ℕ) → i < n → row_at group_size (rows_to group_octets f n) i ≡ group_octets (f i)
  row_is i h = ap (λ (l : List ℕ). row_at group_size l i) (sym (append-nil (rows_to group_octets f n))) ∙ row_of group_octets group_size group-length f n [] i h

  rows_octets : (k : ℕ) → k ≤ n → Octets (rows_to group_octets f k)
  unfolding rows_to
  rows_octets zero h = octets_of_lem [] tt
  rows_octets (suc k) h = append-octets (rows_to group_octets f k) (group_octets (f k)) (rows_octets k (omega (arith, h))) (group-octets (f k) (fit k (omega (arith, h))))

  rows_groups : Groups n (rows_to group_octets f n)
  rows_groups = record {
    size = rows_length group_octets group_size group-length f n;
    ranged = ranged-all n (rows_to group_octets f n) (λ i h. ap group_in_range (row_is i h) ∙ group-ranged (f i) (fit i h));
    octets = rows_octets n (omega arith);
  }

  rows_at : (i : ℕ) → i < n → ask_at (rows_to group_octets f n) i ≡ f i
  unfolding ask_at
  rows_at i h = ap group_of (row_is i h) ∙ group-back (f i)

pub begun-groups : (n : ℕ) → Groups n (all_begun n)
unfolding all_begun
begun-groups n = rows_groups (λ i. never_asked) n (λ i h. never-fits)

pub begun-at : (n i : ℕ) → i < n → ask_at (all_begun n) i ≡ never_asked
unfolding all_begun
begun-at n i h = rows_at (λ i. never_asked) n (λ i h. never-fits) i h

rows_zeros : (n : ℕ) → rows_to group_octets (λ i. never_asked) n ≡ replicate (group_size * n) 0
unfolding rows_to group_octets
rows_zeros zero = refl
rows_zeros (suc n) =
    ap (λ (l : List ℕ). l ++ replicate group_size 0) (rows_zeros n) ∙ replicate-append-replicate (group_size * n) group_size 0
    ∙ ap (λ (k : ℕ). replicate k 0) (sym (mul-suc group_size n))

-- octets of zeros: so a table that knows nothing of asks is made one that does by zeros behind it
pub begun-zeros : (n : ℕ) → all_begun n ≡ replicate (group_size * n) 0
unfolding all_begun
begun-zeros n = rows_zeros n

pub fallen-groups : (n : ℕ) (g : List ℕ) → Groups n g → Groups n (all_fallen n g)
unfolding all_fallen
fallen-groups n g k = rows_groups (λ i. ask_fallen (ask_at g i)) n (λ i h. fallen-fits (ask_at g i) (fits-at n g k i h))

pub fallen-at : (n : ℕ) (g : List ℕ) → Groups n g → (i : ℕ) → i < n → ask_at (all_fallen n g) i ≡ ask_fallen (ask_at g i)
unfolding all_fallen
fallen-at n g k i h = rows_at (λ i. ask_fallen (ask_at g i)) n (λ i h. fallen-fits (ask_at g i) (fits-at n g k i h)) i h

-- ---- one port's group at a new value

module _ (n : ℕ) (g : List ℕ) (k : Groups n g) (i : ℕ) (here : i < n) (a : Ask) (fit : ask_fits a ≡ true) where
  put : List ℕ
  put = put_at (group_size * i) (group_octets a) g

  fits : group_size * i ≤ length g
  fits = let size = k.size in omega (arith, size, here)

  row_same : row_at group_size put i ≡ group_octets a
  unfolding row_at put
  row_same = put-here (group_size * i) group_size (group_octets a) g (group-length a) fits

  row_other : (j : ℕ) → eqb j i ≡ false → row_at group_size put j ≡ row_at group_size g j
  unfolding row_at put
  row_other j e = by (ltb j i) refl
    where
      by : (b : Bool) → ltb j i ≡ b → take group_size (drop (group_size * j) (put_at (group_size * i) (group_octets a) g)) ≡ take group_size (drop (group_size * j) g)
      by true t = let less = ltb-true j i t in put-after (group_size * j) group_size (group_size * i) (group_octets a) g (omega (arith, less)) fits
      by false t =
          let not-less = ltb-false j i t in
          let not_same = eqb-false j i e in
          let l = group-length a in
          ap (λ (x : List ℕ). take group_size x) (put-before (group_size * j) (group_size * i) (group_octets a) g (omega (arith, l, not-less, not_same)) fits)

  pub put-groups : Groups n (put_at (group_size * i) (group_octets a) g)
  unfolding put
  put-groups = record {
    size = (let l = group-length a in let size = k.size in length-put (group_size * i) (group_octets a) g (omega (arith, l, size, here))) ∙ k.size;
    ranged = ranged-all n put (λ j h. by j h (eqb j i) refl);
    octets = put-octets (group_size * i) (group_octets a) g (group-octets a fit) k.octets;
  }
    where
      by : (j : ℕ) → j < n → (b : Bool) → eqb j i ≡ b → group_in_range (row_at group_size put j) ≡ true
      by j h true e = ap (λ (x : ℕ). group_in_range (row_at group_size put x)) (eqb-true j i e) ∙ ap group_in_range row_same ∙ group-ranged a fit
      by j h false e = ap group_in_range (row_other j e) ∙ ranged-at n g k.ranged j h

  pub put_at_lem : ask_at (put_at (group_size * i) (group_octets a) g) i ≡ a
  unfolding ask_at put
  put_at_lem = ap group_of row_same ∙ group-back a

  pub put_other : (j : ℕ) → eqb j i ≡ false → ask_at (put_at (group_size * i) (group_octets a) g) j ≡ ask_at g j
  unfolding ask_at put
  put_other j e = ap group_of (row_other j e)
