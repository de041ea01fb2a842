-- A group in range comes back from its octets, and a run of the machines gives it back where a look says so: with a link they
-- stay in NO_CHURN or CHURN, by Synchronization, and without one MONITOR is entered anew with the time that was there. Assumes nothing.
use Prim.Native.Nat.{ℕ, zero, suc, ◌+◌, ◌*◌, ◌≤◌, ◌<◌}
use mathlib.Core.Path.{◌≡◌, refl, sym, ap, ◌∙◌}
use mathlib.Core.Bool.{Bool, true, false, true≢false}
use mathlib.Core.List.{List, [], ◌∷◌, ◌++◌}
use native.Mathlib.Omega.{arith}
use lib.ListN.{length, take, drop, get_or, length-drop}
use lib.Seq.{length-take-le}
use lib.Dec.{eqb, leb}
use borrow.Author.Tests.{eqb-true, le-leb, leb-true}
use Rattle.octets.specs.Octets.{Octets, put_at, number_at, number_octets, word, word_at, long_at}
use Rattle.octets.proofs.Laws.{spread-all, put_back}
use Rattle.octets.proofs.OctetLists.{first_back, second_back, long-first, long-second, take-octets, drop-octets}
use Rattle.octets.proofs.RangeLaws.{both}
use Rattle.machine.specs.States.{ticks}
use Rattle.port.specs.declared.record.Port.{Port}
use Rattle.table.specs.Table.{count_in, port_at}
use Rattle.churn.specs.declared.Stage.{Stage}
use Rattle.churn.specs.declared.Stage.TheVariants.{Start, Tick, Other}
use Rattle.churn.specs.declared.watch.Churn.{Churn as State}
use Rattle.churn.specs.declared.watch.Churn.TheVariants.{NoChurn, Monitor, Churn}
use Rattle.churn.specs.declared.watch.Monitors.{Monitors}
use Rattle.churn.specs.Churn.{watch, monitors, watched, churn_choice, watching, monitors_fallen}
use Rattle.churn.specs.Group.{group_size, churn_code, churn_of, group_octets, group_of, group_in_range}
use Rattle.churn.specs.Rest.{begins, stay_code, is_still, is_fresh, rests, rest_to}
use Rattle.churn.specs.Whole.{group_place, whole_size, base_of, group_at, monitors_at, prepared, watched_at}
use Rattle.churn.proofs.WholeLaws.{done, done_none, done_more}

-- ---- octets to group to octets

octet-back : (n : ℕ) → n ≤ 2 → churn_code (churn_of n) ≡ n
octet-back zero h = refl
octet-back (suc zero) h = refl
octet-back (suc (suc zero)) h = refl
octet-back (suc (suc (suc n))) h = absurd (omega arith)

pub group_octets-back : (l : List ℕ) → length l ≡ group_size → Octets l → group_in_range l ≡ true → group_octets (group_of l) ≡ l
unfolding group_octets group_of group_in_range
group_octets-back l n o e =
    let h = both (leb (get_or l 0 0) 2) _ e in
    let g = both (leb (get_or l 1 0) 2) _ h.1 in
    let first = first_back l o in
    let second = second_back l o in
    (λ i. octet-back (get_or l 0 0) (leb-true (get_or l 0 0) 2 h.0) i ∷ octet-back (get_or l 1 0) (leb-true (get_or l 1 0) 2 g.0) i
    ∷ first 2 i ∷ second 2 i ∷ first 4 i ∷ second 4 i
    ∷ (number_octets (long-first l o 6 i) ++ (number_octets (long-second l o 6 i) ++ (number_octets (long-first l o 10 i) ++ number_octets (long-second l o 10 i)))))
    ∙ (λ i. get_or l 0 0 ∷ get_or l 1 0 ∷ get_or l 2 0 ∷ get_or l 3 0 ∷ get_or l 4 0 ∷ get_or l 5 0
    ∷ first 6 i ∷ second 6 i ∷ first 8 i ∷ second 8 i ∷ first 10 i ∷ second 10 i ∷ first 12 i ∷ second 12 i ∷ [])
    ∙ spread-all l group_size n

-- ---- what the looks say of a group

four-none : (a b c d : ℕ) → word (a ∷ b ∷ c ∷ d ∷ []) ≡ 0 → (a ≡ 0) × (b ≡ 0) × (c ≡ 0) × (d ≡ 0)
unfolding word
four-none a b c d e = (omega arith, omega arith, omega arith, omega arith)

two-alone : (a b c d m n : ℕ) → (a < 256) × (b < 256) × (c < 256) × (d < 256) → (m ≤ 2) × (n ≤ 2) → word (a ∷ b ∷ c ∷ d ∷ []) ≡ m + n * 256 → (a ≡ m) × (b ≡ n)
unfolding word
two-alone a b c d m n h k e = (omega (arith, h, k), omega (arith, h, k))

code-most : (b : Bool) → stay_code b ≤ 2
code-most true = omega arith
code-most false = omega arith

record Still (ours theirs : Bool) (l : List ℕ) : Type 0 where
  our_code : get_or l 0 0 ≡ stay_code ours
  their_code : get_or l 1 0 ≡ stay_code theirs
  our_time : number_at l 2 ≡ 0
  their_time : number_at l 4 ≡ 0

still : (ours theirs : Bool) (l : List ℕ) → Octets l → is_still ours theirs l ≡ true → Still ours theirs l
unfolding is_still
still ours theirs l o e =
    let h = both (eqb (word_at l 0) (stay_code ours + stay_code theirs * 256)) (eqb (word_at l 2) 0) e in
    let a = two-alone (get_or l 0 0) (get_or l 1 0) (get_or l 2 0) (get_or l 3 0) (stay_code ours) (stay_code theirs) (o 0, o 1, o 2, o 3) (code-most ours, code-most theirs)
    (eqb-true (word_at l 0) (stay_code ours + stay_code theirs * 256) h.0) in
    let b = four-none (get_or l 2 0) (get_or l 3 0) (get_or l 4 0) (get_or l 5 0) (eqb-true (word_at l 2) 0 h.1) in
    record { our_code = a.0; their_code = a.1; our_time = omega (arith, b); their_time = omega (arith, b) }

code-ranged : (b : Bool) → leb (stay_code b) 2 ≡ true
code-ranged b = le-leb (stay_code b) 2 (code-most b)

pub still-ranged : (ours theirs : Bool) (l : List ℕ) → Octets l → is_still ours theirs l ≡ true → group_in_range l ≡ true
unfolding group_in_range
still-ranged ours theirs l o e =
    let k = still ours theirs l o e in
    rw (k.our_code, k.their_code, k.our_time, k.their_time, code-ranged ours, code-ranged theirs)

four-fresh : (a b c d : ℕ) → (a < 256) × (b < 256) × (c < 256) × (d < 256) → word (a ∷ b ∷ c ∷ d ∷ []) ≡ 1476526337 → (a ≡ 1) × (b ≡ 1) × (c ≡ 2) × (d ≡ 88)
unfolding word
four-fresh a b c d h e = (omega (arith, h), omega (arith, h), omega (arith, h), omega (arith, h))

four-timers : (a b c d : ℕ) → (a < 256) × (b < 256) × (c < 256) × (d < 256) → word (a ∷ b ∷ c ∷ d ∷ []) ≡ 1476548610 → (a ≡ 2) × (b ≡ 88) × (c ≡ 2) × (d ≡ 88)
unfolding word
four-timers a b c d h e = (omega (arith, h), omega (arith, h), omega (arith, h), omega (arith, h))

record Fresh (l : List ℕ) : Type 0 where
  ours : get_or l 0 0 ≡ 1
  theirs : get_or l 1 0 ≡ 1
  our_time : number_at l 2 ≡ 600
  their_time : number_at l 4 ≡ 600

fresh : (l : List ℕ) → Octets l → is_fresh l ≡ true → Fresh l
unfolding is_fresh
fresh l o e =
    let h = both (eqb (word_at l 0) 1476526337) (eqb (word_at l 2) 1476548610) e in
    let a = four-fresh (get_or l 0 0) (get_or l 1 0) (get_or l 2 0) (get_or l 3 0) (o 0, o 1, o 2, o 3) (eqb-true (word_at l 0) 1476526337 h.0) in
    let b = four-timers (get_or l 2 0) (get_or l 3 0) (get_or l 4 0) (get_or l 5 0) (o 2, o 3, o 4, o 5) (eqb-true (word_at l 2) 1476548610 h.1) in
    record { ours = a.0; theirs = a.1; our_time = omega (arith, a); their_time = omega (arith, b) }

fresh-ranged : (l : List ℕ) → Octets l → is_fresh l ≡ true → group_in_range l ≡ true
unfolding group_in_range
fresh-ranged l o e = let k = fresh l o e in rw (k.ours, k.theirs, k.our_time, k.their_time)

-- ---- a run that gives the group back

-- the state in which a machine stays
abbrev stay_state : Bool → State
stay_state true = NoChurn
stay_state false = Churn

stay_of : (b : Bool) → churn_of (stay_code b) ≡ stay_state b
stay_of true = refl
stay_of false = refl

one-stays : (b : Bool) (n : ℕ) → watched true b (watch (stay_state b) (ticks 0) n) ≡ watch (stay_state b) (ticks 0) n
unfolding watched churn_choice
one-stays true n = refl
one-stays false n = refl

still-fallen : (s : Stage) → begins s ≡ false → (x y : State) (a b : ℕ) → prepared s (monitors (watch x (ticks 0) a) (watch y (ticks 0) b)) ≡ monitors (watch x (ticks 0) a) (watch y (ticks 0) b)
unfolding monitors_fallen
still-fallen Start e x y a b = absurd (true≢false e)
still-fallen Tick e x y a b = refl
still-fallen Other e x y a b = refl

still-stays : (s : Stage) → begins s ≡ false → (p : Port) (ours theirs : Bool) (a b : ℕ) → p.line.up ≡ true → p.actor.synchronization ≡ ours → p.partner.state.synchronization ≡ theirs
    → watching p (prepared s (monitors (watch (stay_state ours) (ticks 0) a) (watch (stay_state theirs) (ticks 0) b)))
    ≡ monitors (watch (stay_state ours) (ticks 0) a) (watch (stay_state theirs) (ticks 0) b)
still-stays s e p ours theirs a b up u v =
    ap (λ (m : Monitors). watching p m) (still-fallen s e (stay_state ours) (stay_state theirs) a b)
    ∙ unfold watching in (λ i. monitors (watched (up i) (u i) (watch (stay_state ours) (ticks 0) a)) (watched (up i) (v i) (watch (stay_state theirs) (ticks 0) b)))
    ∙ (λ i. monitors (one-stays ours a i) (one-stays theirs b i))

fresh-stays : (s : Stage) → begins s ≡ false → (p : Port) (a b : ℕ) → p.line.up ≡ false
    → watching p (prepared s (monitors (watch Monitor (ticks 600) a) (watch Monitor (ticks 600) b))) ≡ monitors (watch Monitor (ticks 600) a) (watch Monitor (ticks 600) b)
unfolding watching watched churn_choice monitors_fallen
fresh-stays Start e p a b down = absurd (true≢false e)
fresh-stays Tick e p a b down = rw down
fresh-stays Other e p a b down = rw down

module _ (s : Stage) (go : begins s ≡ false) (p : Port) (l : List ℕ) (o : Octets l) where
  still-told : (ours theirs : Bool) → is_still ours theirs l ≡ true
      → group_of l ≡ monitors (watch (stay_state ours) (ticks 0) (long_at l 6)) (watch (stay_state theirs) (ticks 0) (long_at l 10))
  unfolding group_of
  still-told ours theirs e =
      let k = still ours theirs l o e in
      (λ i. monitors (watch (churn_of (k.our_code i)) (ticks (k.our_time i)) (long_at l 6)) (watch (churn_of (k.their_code i)) (ticks (k.their_time i)) (long_at l 10)))
      ∙ (λ i. monitors (watch (stay_of ours i) (ticks 0) (long_at l 6)) (watch (stay_of theirs i) (ticks 0) (long_at l 10)))

  fresh-told : is_fresh l ≡ true → group_of l ≡ monitors (watch Monitor (ticks 600) (long_at l 6)) (watch Monitor (ticks 600) (long_at l 10))
  unfolding group_of
  fresh-told e =
      let k = fresh l o e in
      λ i. monitors (watch (churn_of (k.ours i)) (ticks (k.our_time i)) (long_at l 6)) (watch (churn_of (k.theirs i)) (ticks (k.their_time i)) (long_at l 10))

  still-keeps : p.line.up ≡ true → is_still p.actor.synchronization p.partner.state.synchronization l ≡ true → watching p (prepared s (group_of l)) ≡ group_of l
  still-keeps up e =
      let is = still-told p.actor.synchronization p.partner.state.synchronization e in
      ap (λ (m : Monitors). watching p (prepared s m)) is
      ∙ still-stays s go p p.actor.synchronization p.partner.state.synchronization (long_at l 6) (long_at l 10) up refl refl ∙ sym is

  fresh_keeps : p.line.up ≡ false → is_fresh l ≡ true → watching p (prepared s (group_of l)) ≡ group_of l
  fresh_keeps down e =
      let is = fresh-told e in
      ap (λ (m : Monitors). watching p (prepared s m)) is ∙ fresh-stays s go p (long_at l 6) (long_at l 10) down ∙ sym is

  -- the group comes back, and is in range
  rest-stays : rests p l ≡ true → (watching p (prepared s (group_of l)) ≡ group_of l) × (group_in_range l ≡ true)
  unfolding rests
  rest-stays e = by p.line.up refl
    where
      by : (b : Bool) → p.line.up ≡ b → (watching p (prepared s (group_of l)) ≡ group_of l) × (group_in_range l ≡ true)
      by true up =
          let f : is_still p.actor.synchronization p.partner.state.synchronization l ≡ true = rw up at e in
          (still-keeps up f, still-ranged p.actor.synchronization p.partner.state.synchronization l o f)
      by false down = let f : is_fresh l ≡ true = rw down at e in (fresh_keeps down f, fresh-ranged l o f)

  pub rest-keeps : length l ≡ group_size → rests p l ≡ true → group_octets (watching p (prepared s (group_of l))) ≡ l
  rest-keeps n e = let k = rest-stays e in ap group_octets k.0 ∙ group_octets-back l n o k.1

-- ---- in a table

pub rest-left : (s : Stage) (t : List ℕ) (i : ℕ) → length t ≡ whole_size (count_in t) → i < count_in t → Octets t → begins s ≡ false
    → rests (port_at (base_of t) i) (group_at t i) ≡ true → t ≡ put_at (group_place (count_in t) i) (group_octets (watched_at s t i)) t
unfolding watched_at monitors_at group_at
rest-left s t i size here o go e =
    let n = group_place (count_in t) i in
    let l = take group_size (drop n t) in
    let d = length-drop n t in
    let fits : n + group_size ≤ length t = omega (arith, size, here) in
    let long : length l ≡ group_size = length-take-le group_size (drop n t) (omega (arith, d, fits)) in
    sym (ap (λ (x : List ℕ). put_at n x t) (rest-keeps s go (port_at (base_of t) i) l (take-octets group_size (drop n t) (drop-octets n t o)) long e)
    ∙ put_back n group_size t fits)

-- a loop that has passed over ports that rest stands where one that ran their machines does
pub rest-done : (s : Stage) (t : List ℕ) → (size : length t ≡ whole_size (count_in t)) → Octets t → begins s ≡ false
    → (n : ℕ) → n ≤ count_in t → rest_to n t ≡ true → t ≡ done t (watched_at s t) n
unfolding rest_to
rest-done s t size o go zero few e = sym (done_none t size (watched_at s t))
rest-done s t size o go (suc n) few e =
    let h = both (rest_to n t) (rests (port_at (base_of t) n) (group_at t n)) e in
    let before = rest-done s t size o go n (omega arith) h.0 in
    rest-left s t n size (omega arith) o go h.1
    ∙ ap (λ (u : List ℕ). put_at (group_place (count_in t) n) (group_octets (watched_at s t n)) u) before
    ∙ done_more t size (watched_at s t) n

-- and at a start it has passed over none
pub run-begins : (s : Stage) (t : List ℕ) → (size : length t ≡ whole_size (count_in t)) → Octets t
    → (n : ℕ) → n ≤ count_in t → rest_to n t ≡ true → (begins s ≡ true → n ≡ 0) → t ≡ done t (watched_at s t) n
run-begins s t size o n few e none = by (begins s) refl
  where
    by : (b : Bool) → begins s ≡ b → t ≡ done t (watched_at s t) n
    by true b = sym (ap (λ (k : ℕ). done t (watched_at s t) k) (none b) ∙ done_none t size (watched_at s t))
    by false b = rest-done s t size o b n few e
