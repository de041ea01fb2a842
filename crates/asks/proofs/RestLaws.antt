-- One look at the first octets of a group: where they tell of no timer the group is in range, and unless it is awaited a tick leaves its octets as they are. Assumes nothing.
use Prim.Native.Nat.{ℕ, zero, suc, ◌+◌, ◌*◌, ◌%◌, ◌≤◌, ◌<◌}
use mathlib.Core.Path.{◌≡◌, refl, sym, ap, ◌∙◌}
use mathlib.Core.Logic.{◌≢◌}
use mathlib.Core.Bool.{Bool, true, false, cond, true≢false}
use mathlib.Core.List.{List, [], ◌∷◌, ◌++◌}
use native.Mathlib.Omega.{arith}
use lib.ListN.{length, get_or}
use lib.Dec.{eqb, leb}
use borrow.Author.Tests.{le-leb, ne_eqb}
use Rattle.octets.specs.Octets.{Octets, number_at, number_octets, word, word_at}
use Rattle.octets.proofs.Laws.{spread-all}
use Rattle.octets.proofs.OctetLists.{first_back, second_back, long-first, long-second}
use Rattle.octets.proofs.RangeLaws.{both_true}
use Rattle.asks.specs.declared.ask.Outcome.TheVariants.{Nothing, Awaiting, Answered, TimedOut, Cancelled}
use Rattle.asks.specs.declared.ask.Ask.{Ask}
use Rattle.asks.specs.Ask.{longest_wait, is_awaiting, ended, ask_fallen}
use Rattle.asks.specs.Group.{group_size, outcome_code, outcome_of, group_octets, group_of, group_in_range}

-- ---- what the look says

-- three octets as one number
three : (a b c d : ℕ) → (a < 256) × (b < 256) × (c < 256) → word (a ∷ b ∷ c ∷ d ∷ []) % 16777216 ≡ a + b * 256 + c * 65536
unfolding word
three a b c d h = omega (arith, h)

pub record Unwaited (l : List ℕ) : Type 0 where
  pub code : get_or l 0 0 ≡ word_at l 0 % 16777216
  pub least : get_or l 0 0 ≤ 4
  pub time : number_at l 1 ≡ 0

pub unwaited : (l : List ℕ) → Octets l → word_at l 0 % 16777216 ≤ 4 → Unwaited l
unwaited l o h =
    let e = three (get_or l 0 0) (get_or l 1 0) (get_or l 2 0) (get_or l 3 0) (o 0, o 1, o 2) in
    record { code = omega (arith, e, h); least = omega (arith, e, h); time = omega (arith, e, h) }

pub unwaited-ranged : (l : List ℕ) → Octets l → word_at l 0 % 16777216 ≤ 4 → group_in_range l ≡ true
unfolding group_in_range
unwaited-ranged l o h =
    let k = unwaited l o h in
    both_true (le-leb (get_or l 0 0) 4 k.least) (ap (λ (n : ℕ). leb n longest_wait) k.time)

-- ---- octets to group to octets

octet-back : (n : ℕ) → n ≤ 4 → outcome_code (outcome_of n) ≡ n
octet-back zero h = refl
octet-back (suc zero) h = refl
octet-back (suc (suc zero)) h = refl
octet-back (suc (suc (suc zero))) h = refl
octet-back (suc (suc (suc (suc zero)))) h = refl
octet-back (suc (suc (suc (suc (suc n))))) h = absurd (omega arith)

-- only 1 is awaited
code-awaits : (n : ℕ) → n ≢ 1 → is_awaiting (outcome_of n) ≡ false
code-awaits n differ = by (eqb n 1) (ne_eqb n 1 differ) (eqb n 2) (eqb n 3) (eqb n 4)
  where
    by : (a : Bool) → a ≡ false → (b c d : Bool) → is_awaiting (cond a Awaiting (cond b Answered (cond c TimedOut (cond d Cancelled Nothing)))) ≡ false
    by true e b c d = absurd (true≢false e)
    by false e true c d = refl
    by false e false true d = refl
    by false e false false true = refl
    by false e false false false = refl

module _ (l : List ℕ) (o : Octets l) where
  group_octets-back : length l ≡ group_size → get_or l 0 0 ≤ 4 → group_octets (group_of l) ≡ l
  unfolding group_octets group_of
  group_octets-back n h =
      let first = first_back l o in
      let second = second_back l o in
      (λ i. octet-back (get_or l 0 0) h i ∷ first 1 i ∷ second 1 i ∷ (number_octets (long-first l o 3 i) ++ number_octets (long-second l o 3 i)))
      ∙ (λ i. get_or l 0 0 ∷ get_or l 1 0 ∷ get_or l 2 0 ∷ first 3 i ∷ second 3 i ∷ first 5 i ∷ second 5 i ∷ [])
      ∙ spread-all l group_size n

-- ---- a tick

idle-fallen : (a : Ask) → a.timer.0 ≡ 0 → is_awaiting a.outcome ≡ false → ask_fallen a ≡ a
unfolding ask_fallen ended
idle-fallen a t w = rw (t, w)

pub unwaited-falls : (l : List ℕ) → Octets l → length l ≡ group_size → word_at l 0 % 16777216 ≤ 4 → word_at l 0 % 16777216 ≢ 1 → group_octets (ask_fallen (group_of l)) ≡ l
unfolding group_of
unwaited-falls l o n h differ =
    let k = unwaited l o h in
    let none : get_or l 0 0 ≢ 1 = λ e. differ (sym k.code ∙ e) in
    ap group_octets (idle-fallen (group_of l) k.time (code-awaits (get_or l 0 0) none)) ∙ group_octets-back l o n k.least
