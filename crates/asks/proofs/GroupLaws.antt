-- Laws of the groups of all ports. Assumes nothing.
use Prim.Native.Nat.{ℕ, zero, suc, ◌+◌, ◌*◌, ◌≤◌, ◌<◌}
use mathlib.Core.Path.{◌≡◌, refl, sym, ap, ◌∙◌}
use mathlib.Core.Bool.{◌&&◌}
use mathlib.Core.List.{List, []}
use native.Mathlib.Omega.{arith}
use native.Mathlib.Numerals.{add-one}
use lib.ListN.{length, take}
use Rattle.std.specs.List.{list_all}
use Rattle.std.specs.Simd.{first_chunks}
use Rattle.std.proofs.lemmas.List.Folds.{list_all_more}
use Rattle.octets.specs.Octets.{put_at}
use Rattle.asks.specs.declared.ask.Ask.{Ask}
use Rattle.asks.specs.Ask.{never_asked, ask_fallen}
use Rattle.asks.specs.Group.{group_size, group_octets, group_of, group_in_range}
use Rattle.octets.specs.Rows.{row_at, rows_to}
use Rattle.asks.specs.Groups.{ask_at, groups_in_range, all_fallen, all_begun}
use Rattle.octets.proofs.ChunkLaws.{chunks-length, chunk-row}
use Rattle.octets.proofs.RowLaws.{done, done_none, done-length, done-row, done_more, done_all}

pub group-length : (a : Ask) → length (group_octets a) ≡ group_size
unfolding group_octets
group-length a = refl

-- all of the first n parts of a group's width are in range where the first n groups are
pub chunks-ranged : (k : ℕ) (g : List ℕ) (n : ℕ) → n ≤ k → list_all group_in_range (take n (first_chunks group_size k g)) ≡ groups_in_range n g
unfolding groups_in_range
chunks-ranged k g zero h = refl
chunks-ranged k g (suc n) h =
    rw (← add-one n)
    (list_all_more group_in_range (first_chunks group_size k g) n [] (let l = chunks-length group_size k g in omega (arith, l, h))
    ∙ (λ j. chunks-ranged k g n (omega (arith, h)) j && group_in_range (chunk-row group_size k g n (omega (arith, h)) j)))

-- ---- a loop over all groups

-- the first i of them done
pub done_to : (ℕ → Ask) → List ℕ → ℕ → List ℕ
done_to f g i = done group_octets group_size group-length f g i

pub done_first : (f : ℕ → Ask) (g : List ℕ) → g ≡ done_to f g 0
unfolding done_to
done_first f g = sym (done_none group_octets group_size group-length f g)

module _ (f : ℕ → Ask) (g : List ℕ) (n : ℕ) (size : length g ≡ group_size * n) (i : ℕ) (u : List ℕ) (is : u ≡ done_to f g i) where
  pub turn-length : i ≤ n → length u ≡ length g
  unfolding done_to
  turn-length h = ap length is ∙ done-length group_octets group_size group-length f g i n h size

  pub turn-fits : i < n → group_size * i + group_size ≤ length u
  turn-fits h = let l = turn-length (omega (arith, h)) in omega (arith, l, size, h)

  -- what a group that is not yet done tells of is as it was
  pub turn-ask : ask_at u i ≡ ask_at g i
  unfolding ask_at done_to
  turn-ask = ap group_of (ap (λ (l : List ℕ). row_at group_size l i) is ∙ done-row group_octets group_size group-length f g i i (omega arith))

  -- a turn
  pub turn : (v : List ℕ) → v ≡ put_at (group_size * i) (group_octets (f i)) u → v ≡ done_to f g (suc i)
  unfolding done_to
  turn v e = e ∙ ap (λ (l : List ℕ). put_at (group_size * i) (group_octets (f i)) l) is ∙ done_more group_octets group_size group-length f g i

  -- after the last
  pub turns_end : i ≡ n → u ≡ rows_to group_octets f n
  unfolding done_to
  turns_end all = is ∙ ap (λ (k : ℕ). done group_octets group_size group-length f g k) all ∙ done_all group_octets group_size group-length f g n size

-- a tick of all
pub fallen_at : List ℕ → ℕ → Ask
fallen_at g i = ask_fallen (ask_at g i)

pub fall_turn : (g : List ℕ) (n : ℕ) → length g ≡ group_size * n → (i : ℕ) (u : List ℕ) → u ≡ done_to (fallen_at g) g i → (v : List ℕ)
    → v ≡ put_at (group_size * i) (group_octets (ask_fallen (ask_at u i))) u → v ≡ done_to (fallen_at g) g (suc i)
unfolding fallen_at
fall_turn g n size i u is v e =
    turn (fallen_at g) g n size i u is v (e ∙ ap (λ (a : Ask). put_at (group_size * i) (group_octets (ask_fallen a)) u) (turn-ask (fallen_at g) g n size i u is))

pub fall_end : (g : List ℕ) (n : ℕ) → length g ≡ group_size * n → (i : ℕ) (u : List ℕ) → u ≡ done_to (fallen_at g) g i → i ≡ n → u ≡ all_fallen n g
unfolding fallen_at all_fallen
fall_end g n size i u is all = turns_end (fallen_at g) g n size i u is all

-- a start of all
pub fresh_at : ℕ → Ask
fresh_at i = never_asked

pub begin-turn : (g : List ℕ) (n : ℕ) → length g ≡ group_size * n → (i : ℕ) (u : List ℕ) → u ≡ done_to fresh_at g i → (v : List ℕ)
    → v ≡ put_at (group_size * i) (group_octets never_asked) u → v ≡ done_to fresh_at g (suc i)
unfolding fresh_at
begin-turn g n size i u is v e = turn fresh_at g n size i u is v e

pub begin_end : (g : List ℕ) (n : ℕ) → length g ≡ group_size * n → (i : ℕ) (u : List ℕ) → u ≡ done_to fresh_at g i → i ≡ n → u ≡ all_begun n
unfolding fresh_at all_begun
begin_end g n size i u is all = turns_end fresh_at g n size i u is all
