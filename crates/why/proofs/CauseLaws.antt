-- The first cause that applies, and the port that waits longest. Assumes nothing.
use Prim.Native.Nat.{ℕ, zero, suc, ◌+◌, ◌≤◌, ◌<◌}
use mathlib.Core.Path.{◌≡◌, refl, sym, ap, subst, ◌∙◌}
use mathlib.Core.Bool.{Bool, true, false, cond, not, ◌&&◌, ◌||◌, true≢false}
use mathlib.Core.List.{List, [], ◌∷◌, ◌++◌}
use native.Mathlib.Omega.{arith}
use lib.ListN.{length, get_or, drop}
use lib.Dec.{leb, eqb}
use lib.Seq.{drop-cons, drop-length}
use borrow.Author.Tests.{leb-true, leb-false, le-leb, ne_eqb}
use Rattle.machine.specs.Mux.{distributes}
use Rattle.port.specs.declared.record.Port.{Port}
use Rattle.std.specs.Prelude.{Option, Some, None, is_some}
use Rattle.trunk.specs.Ready.{waits_for, holds_back, held_back}
use Rattle.why.specs.declared.cause.Hold.{Hold}
use Rattle.why.specs.declared.cause.Cause.{Cause}
use Rattle.why.specs.declared.cause.Cause.TheVariants.{Carries, CarriesByDefault, LinkDown, HalfDuplex, Defaulted, Expired, Waits, HeldBack, OutOfSync, NotCollecting}
use Rattle.why.specs.Cause.{is_by_default, says, order, first_of, cause_of, wait_for, ticks_left, longer, longest}
use Rattle.why.specs.Exact.{is_carrying, CarryingTrue, NoneOf, FirstIn, CausesTrue, Longest, LongestTrue}

-- a value that is there is one
pub some_is : {A : Type 0} {x y : A} → Some x ≡ Some y → x ≡ y
some_is {A} {x} e = ap (λ (o : Option A). by o) e
  where
    by : Option A → A
    by None = x
    by (Some z) = z

-- ---- the port that waits longest: one record more, and none

pub longest-next : (k : ℕ) (ps : List Port) (i n : ℕ) (d : Port) → i < length ps
    → longest k n (drop i ps) ≡ longer (wait_for k (get_or ps i d)) n (longest k (n + 1) (drop (suc i) ps))
unfolding longest
longest-next k ps i n d h = rw (drop-cons ps i d h)

pub longest_end : (k n : ℕ) (ps : List Port) (m : ℕ) → length ps ≡ m → longest k n (drop m ps) ≡ None
unfolding longest
longest_end k n ps m e = rw (← e, drop-length ps)

-- ---- there is one exactly if somebody holds back

-- of one port
pub wait-holds : (k : ℕ) (p : Port) → is_some (wait_for k p) ≡ holds_back k p
unfolding wait_for
wait-holds k p = by (holds_back k p)
  where
    by : (b : Bool) → is_some (cond b (Some p.timers.wait.0) None) ≡ b
    by true = refl
    by false = refl

longer-some : (w n : ℕ) (h : Option Hold) → is_some (longer (Some w) n h) ≡ true
longer-some w n None = rw (le-leb 0 w (omega arith))
longer-some w n (Some h) = by (leb h.ticks w)
  where
    by : (b : Bool) → is_some (cond b (Some (record { port = n; ticks = w })) (Some h)) ≡ true
    by true = refl
    by false = refl

pub longest-holds : (k n : ℕ) (ps : List Port) → is_some (longest k n ps) ≡ held_back k ps
unfolding longest held_back wait_for
longest-holds k n [] = refl
longest-holds k n (p ∷ ps) = by (longest-holds k (n + 1) ps) (holds_back k p)
  where
    by : is_some (longest k (n + 1) ps) ≡ held_back k ps → (b : Bool) → is_some (longer (cond b (Some p.timers.wait.0) None) n (longest k (n + 1) ps)) ≡ (b || held_back k ps)
    by then true = longer-some p.timers.wait.0 n (longest k (n + 1) ps)
    by then false = then

-- ---- the first cause that applies

-- none behind the first two carries
none-carries : (f : Cause → Bool) → is_carrying (first_of f (LinkDown ∷ HalfDuplex ∷ Defaulted ∷ Expired ∷ Waits ∷ HeldBack ∷ OutOfSync ∷ NotCollecting ∷ [])) ≡ false
unfolding first_of
none-carries f = by (f LinkDown) (f HalfDuplex) (f Defaulted) (f Expired) (f Waits) (f HeldBack) (f OutOfSync) (f NotCollecting)
  where
    by : (a b c d e g h i : Bool)
        → is_carrying (cond a (Some LinkDown) (cond b (Some HalfDuplex) (cond c (Some Defaulted) (cond d (Some Expired) (cond e (Some Waits) (cond g (Some HeldBack) (cond h (Some OutOfSync) (cond i (Some NotCollecting) None)))))))) ≡ false
    by true b c d e g h i = refl
    by false true c d e g h i = refl
    by false false true d e g h i = refl
    by false false false true e g h i = refl
    by false false false false true g h i = refl
    by false false false false false true h i = refl
    by false false false false false false true i = refl
    by false false false false false false false true = refl
    by false false false false false false false false = refl

pub carrying-true : CarryingTrue
unfolding cause_of first_of
carrying-true held p = by (distributes p.phase.mux) (is_by_default p.phase.receive)
  where
    rest : Option Cause
    rest = first_of (says held p) (LinkDown ∷ HalfDuplex ∷ Defaulted ∷ Expired ∷ Waits ∷ HeldBack ∷ OutOfSync ∷ NotCollecting ∷ [])

    by : (d b : Bool) → is_carrying (cond (d && not b) (Some Carries) (cond (d && b) (Some CarriesByDefault) rest)) ≡ d
    by true true = refl
    by true false = refl
    by false b = none-carries (says held p)

module _ (f : Cause → Bool) (c : Cause) where
  first-only : (cs : List Cause) → first_of f cs ≡ Some c → FirstIn f c cs
  unfolding first_of
  first-only [] e = absurd (true≢false (ap is_some (sym e)))
  first-only (d ∷ ds) e = by (first-only ds) (f d) refl e
    where
      by : (first_of f ds ≡ Some c → FirstIn f c ds) → (b : Bool) → f d ≡ b → cond b (Some d) (first_of f ds) ≡ Some c → FirstIn f c (d ∷ ds)
      by then true x e =
          let is : d ≡ c = some_is e in
          record { before = []; rest = ds; stands = ap (λ (y : Cause). y ∷ ds) is; none = tt; so = sym (ap f is) ∙ x }
      by then false x e =
          let behind = then e in
          record { before = d ∷ behind.before; rest = behind.rest; stands = ap (λ (l : List Cause). d ∷ l) behind.stands; none = (x, behind.none); so = behind.so }

  first-is : (before rest : List Cause) → NoneOf f before → f c ≡ true → first_of f (before ++ (c ∷ rest)) ≡ Some c
  unfolding first_of
  first-is [] rest none so = rw so
  first-is (d ∷ ds) rest none so = rw none.0 (first-is ds rest none.1 so)

pub causes-true : CausesTrue
unfolding cause_of
causes-true held p c = record {
  only = first-only (says held p) c order;
  whenever = λ x. ap (first_of (says held p)) x.stands ∙ first-is (says held p) c x.before x.rest x.none x.so;
}

-- ---- the port that waits longest is there

-- who holds back waits, with ticks left
holding : (k : ℕ) (p : Port) → holds_back k p ≡ true → (waits_for k p ≡ true) × (1 ≤ p.timers.wait.0)
unfolding holds_back
holding k p e = by (waits_for k p) refl p.timers.wait.0 e
  where
    by : (b : Bool) → waits_for k p ≡ b → (n : ℕ) → (b && not (eqb n 0)) ≡ true → (waits_for k p ≡ true) × (1 ≤ n)
    by true w zero e = absurd (true≢false (sym e))
    by true w (suc n) e = (w, omega arith)
    by false w n e = absurd (true≢false (sym e))

-- and who waits without, does not
unheld : (k : ℕ) (p : Port) → waits_for k p ≡ true → holds_back k p ≡ false → p.timers.wait.0 ≡ 0
unfolding holds_back
unheld k p w e = by p.timers.wait.0 (sym (ap (λ (b : Bool). b && not (eqb p.timers.wait.0 0)) w) ∙ e)
  where
    by : (n : ℕ) → not (eqb n 0) ≡ false → n ≡ 0
    by zero e = refl
    by (suc n) e = absurd (true≢false (sym (ap not (ne_eqb (suc n) 0 (λ x. omega (arith, x)))) ∙ e))

-- nobody waits longer
none-longer : (k n : ℕ) (ps : List Port) (d : Port) (j : ℕ) → j < length ps → waits_for k (get_or ps j d) ≡ true → (get_or ps j d).timers.wait.0 ≤ ticks_left (longest k n ps)
unfolding longest wait_for
none-longer k n [] d j h w = absurd (omega arith)
none-longer k n (p ∷ ps) d zero h w = by (holds_back k p) refl (leb (ticks_left (longest k (n + 1) ps)) p.timers.wait.0) refl
  where
    by : (a : Bool) → holds_back k p ≡ a → (b : Bool) → leb (ticks_left (longest k (n + 1) ps)) p.timers.wait.0 ≡ b
        → p.timers.wait.0 ≤ ticks_left (longer (cond a (Some p.timers.wait.0) None) n (longest k (n + 1) ps))
    by true x true y = rw y (omega arith)
    by true x false y = let more = leb-false (ticks_left (longest k (n + 1) ps)) p.timers.wait.0 y in rw y (omega (arith, more))
    by false x b y = omega (arith, unheld k p w x)
none-longer k n (p ∷ ps) d (suc j) h w = let rest = none-longer k (n + 1) ps d j (omega arith) w in by (holds_back k p) (leb (ticks_left (longest k (n + 1) ps)) p.timers.wait.0) refl rest
  where
    by : (a b : Bool) → leb (ticks_left (longest k (n + 1) ps)) p.timers.wait.0 ≡ b → (get_or ps j d).timers.wait.0 ≤ ticks_left (longest k (n + 1) ps)
        → (get_or ps j d).timers.wait.0 ≤ ticks_left (longer (cond a (Some p.timers.wait.0) None) n (longest k (n + 1) ps))
    by true true y r = let less = leb-true (ticks_left (longest k (n + 1) ps)) p.timers.wait.0 y in rw y (omega (arith, less, r))
    by true false y r = rw y r
    by false b y r = r

pub longest-true : LongestTrue
unfolding longest wait_for
longest-true k n [] d h e = absurd (true≢false (ap is_some (sym e)))
longest-true k n (p ∷ ps) d h e = by (longest-true k (n + 1) ps d h) (holds_back k p) refl (leb (ticks_left rest) p.timers.wait.0) refl e
  where
    rest : Option Hold
    rest = longest k (n + 1) ps

    behind : Longest k (n + 1) ps d h → (waits_for k p ≡ true → 1 ≤ h.ticks → p.timers.wait.0 < h.ticks) → Longest k n (p ∷ ps) d h
    behind l less =
        let up = l.is in record {
          index = suc l.index;
          there = omega (arith, l.there);
          is = omega (arith, up);
          waiting = l.waiting;
          ticks = l.ticks;
          some = l.some;
          most = most l;
          lowest = lowest l;
        }
      where
        most : Longest k (n + 1) ps d h → (j : ℕ) → j < length (p ∷ ps) → waits_for k (get_or (p ∷ ps) j d) ≡ true → (get_or (p ∷ ps) j d).timers.wait.0 ≤ h.ticks
        most l zero j w = omega (arith, less w l.some)
        most l (suc j) i w = l.most j (omega arith) w

        lowest : (l : Longest k (n + 1) ps d h) (j : ℕ) → j < suc l.index → waits_for k (get_or (p ∷ ps) j d) ≡ true → (get_or (p ∷ ps) j d).timers.wait.0 < h.ticks
        lowest l zero i w = less w l.some
        lowest l (suc j) i w = l.lowest j (omega (arith, i)) w

    here : holds_back k p ≡ true → ticks_left rest ≤ p.timers.wait.0 → Longest k n (p ∷ ps) d (record { port = n; ticks = p.timers.wait.0 })
    here holds less = record {
      index = 0;
      there = omega arith;
      is = omega arith;
      waiting = (holding k p holds).0;
      ticks = refl;
      some = (holding k p holds).1;
      most = most;
      lowest = λ j i w. absurd (omega (arith, i));
    }
      where
        most : (j : ℕ) → j < length (p ∷ ps) → waits_for k (get_or (p ∷ ps) j d) ≡ true → (get_or (p ∷ ps) j d).timers.wait.0 ≤ p.timers.wait.0
        most zero i w = omega arith
        most (suc j) i w = let r = none-longer k (n + 1) ps d j (omega arith) w in omega (arith, r, less)

    by : (rest ≡ Some h → Longest k (n + 1) ps d h) → (a : Bool) → holds_back k p ≡ a → (b : Bool) → leb (ticks_left rest) p.timers.wait.0 ≡ b
        → longer (cond a (Some p.timers.wait.0) None) n rest ≡ Some h → Longest k n (p ∷ ps) d h
    by then true x true y e =
        subst (Longest k n (p ∷ ps) d) (some_is (sym (rw y) ∙ e)) (here x (leb-true (ticks_left rest) p.timers.wait.0 y))
    by then true x false y e =
        let is : rest ≡ Some h = sym (rw y) ∙ e in
        let more = leb-false (ticks_left rest) p.timers.wait.0 y in
        behind (then is) (λ w some. omega (arith, more, ap ticks_left is))
    by then false x b y e = behind (then e) (λ w some. omega (arith, unheld k p w x, some))
