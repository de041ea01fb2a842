-- Sends as numbers of ticks, newest first, and the three places in which a record remembers those that are recent: a tick makes both older alike,
-- since the later a send, the fewer ticks came after it; and a send finds a place free where fewer than three are recent. Assumes nothing.
use Prim.Native.Nat.{ℕ, zero, suc, ◌+◌, ◌<◌, ◌≤◌}
use mathlib.Core.Path.{◌≡◌, refl, sym, ap, ◌∙◌}
use mathlib.Core.Bool.{Bool, true, false, cond}
use mathlib.Core.List.{List, [], ◌∷◌, map}
use native.Mathlib.Omega.{arith}
use lib.ListN.{length, get_or}
use lib.Dec.{leb}
use borrow.Author.Tests.{leb-true, leb-false, le-leb}
use Rattle.std.specs.Prelude.{Some}
use Rattle.machine.specs.declared.states.Ages.{Ages}
use Rattle.machine.specs.Ages.{ages, no_send, aged, sent_ages, barred, ages_ticked}
use Rattle.machine.specs.Time.{fast_periodic_time}
use Rattle.claims.specs.ThreeSends.{recent, in_place, in_places}

-- ---- lists of sends

-- every send has at least b ticks after it
pub Least : ℕ → List ℕ → Type 0
Least b [] = Unit
Least b (a ∷ l) = (b ≤ a) × Least b l

-- the later a send, the fewer
pub Rising : List ℕ → Type 0
Rising [] = Unit
Rising (a ∷ l) = Least a l × Rising l

least_zero : (l : List ℕ) → Least 0 l
unfolding Least
least_zero [] = tt
least_zero (a ∷ l) = (omega arith, least_zero l)

least-suc : (b : ℕ) (l : List ℕ) → Least b l → Least (suc b) (map suc l)
unfolding Least
least-suc b [] h = tt
least-suc b (a ∷ l) h = let x : b ≤ a = h.0 in (omega arith, least-suc b l h.1)

rising-suc : (l : List ℕ) → Rising l → Rising (map suc l)
unfolding Rising
rising-suc [] h = tt
rising-suc (a ∷ l) h = (least-suc a l h.0, rising-suc l h.1)

-- of sends that are old, none is recent, and none is remembered a tick later
none-recent : (b : ℕ) (l : List ℕ) → Least b l → fast_periodic_time < b → recent l ≡ []
unfolding Least recent
none-recent b [] h g = refl
none-recent b (a ∷ l) h g = by (none-recent b l h.1 g) (leb a fast_periodic_time) refl
  where
    by : recent l ≡ [] → (x : Bool) → leb a fast_periodic_time ≡ x → cond x (a ∷ recent l) (recent l) ≡ []
    by rest true e = let u : a ≤ fast_periodic_time = leb-true a fast_periodic_time e in let v : b ≤ a = h.0 in absurd (omega arith)
    by rest false e = rest

aged-old : (a : ℕ) → fast_periodic_time ≤ a → aged (Some a) ≡ no_send
aged-old a h = rw (le-leb fast_periodic_time a h)

old-aged : (b : ℕ) (l : List ℕ) → Least b l → fast_periodic_time ≤ b → (k : ℕ) → aged (in_place (recent l) k) ≡ no_send
unfolding Least recent
old-aged b [] h g k = refl
old-aged b (a ∷ l) h g k = by (λ m. old-aged b l h.1 g m) (leb a fast_periodic_time) k
  where
    by : ((m : ℕ) → aged (in_place (recent l) m) ≡ no_send) → (x : Bool) (m : ℕ) → aged (in_place (cond x (a ∷ recent l) (recent l)) m) ≡ no_send
    by rest true zero = let v : b ≤ a = h.0 in aged-old a (omega arith)
    by rest true (suc m) = rest m
    by rest false m = rest m

-- one tick older
aged-young : (a : ℕ) → suc a ≤ fast_periodic_time → Some (suc a) ≡ aged (Some a)
aged-young a g = by (leb fast_periodic_time a) refl
  where
    by : (x : Bool) → leb fast_periodic_time a ≡ x → Some (suc a) ≡ cond x no_send (Some (a + 1))
    by true e = let u : fast_periodic_time ≤ a = leb-true fast_periodic_time a e in absurd (omega arith)
    by false e = let one_more : suc a ≡ a + 1 = omega arith in ap (λ (n : ℕ). Some n) one_more

-- a tick, place by place
recent-ticked : (l : List ℕ) → Rising l → (k : ℕ) → in_place (recent (map suc l)) k ≡ aged (in_place (recent l) k)
unfolding Rising recent
recent-ticked [] h k = refl
recent-ticked (a ∷ l) h k = by (λ m. recent-ticked l h.1 m) (leb (suc a) fast_periodic_time) refl k
  where
    young : suc a ≤ fast_periodic_time → leb a fast_periodic_time ≡ true
    young g = le-leb a fast_periodic_time (omega arith)

    by : ((m : ℕ) → in_place (recent (map suc l)) m ≡ aged (in_place (recent l) m)) → (x : Bool) → leb (suc a) fast_periodic_time ≡ x → (m : ℕ)
        → in_place (cond x (suc a ∷ recent (map suc l)) (recent (map suc l))) m ≡ aged (in_place (recent (a ∷ l)) m)
    by rest true e zero = let g : suc a ≤ fast_periodic_time = leb-true (suc a) fast_periodic_time e in rw (young g) (aged-young a g)
    by rest true e (suc m) = let g : suc a ≤ fast_periodic_time = leb-true (suc a) fast_periodic_time e in rw (young g) (rest m)
    by rest false e m =
        let g : fast_periodic_time < suc a = leb-false (suc a) fast_periodic_time e in
        let gone : recent (map suc l) ≡ [] = none-recent (suc a) (map suc l) (least-suc a l h.0) g in
        let self : Least a (a ∷ l) = unfold Least in (omega arith, h.0) in
        ap (λ (x : List ℕ). in_place x m) gone ∙ sym (old-aged a (a ∷ l) self (omega arith) m)

fewer_ticked : (l : List ℕ) → length (recent (map suc l)) ≤ length (recent l)
unfolding recent
fewer_ticked [] = omega arith
fewer_ticked (a ∷ l) = by (fewer_ticked l) (leb (suc a) fast_periodic_time) (leb a fast_periodic_time) refl refl
  where
    by : length (recent (map suc l)) ≤ length (recent l) → (x y : Bool) → leb (suc a) fast_periodic_time ≡ x → leb a fast_periodic_time ≡ y
        → length (cond x (suc a ∷ recent (map suc l)) (recent (map suc l))) ≤ length (cond y (a ∷ recent l) (recent l))
    by rest true true e f = omega (arith, rest)
    by rest true false e f =
        let g : suc a ≤ fast_periodic_time = leb-true (suc a) fast_periodic_time e in
        let n : fast_periodic_time < a = leb-false a fast_periodic_time f in
        absurd (omega arith)
    by rest false true e f = omega (arith, rest)
    by rest false false e f = rest

-- ---- places

-- all three places are taken exactly if there are three
places_barred : (l : List ℕ) → barred (in_places l) ≡ leb 3 (length l)
places_barred [] = refl
places_barred (a ∷ []) = refl
places_barred (a ∷ b ∷ []) = refl
places_barred (a ∷ b ∷ c ∷ l) = rw (le-leb 3 (length (a ∷ b ∷ c ∷ l)) (omega arith))

-- where one is free, a send goes before the others
places_sent : (l : List ℕ) → leb 3 (length l) ≡ false → sent_ages (in_places l) ≡ in_places (0 ∷ l)
places_sent [] e = refl
places_sent (a ∷ []) e = refl
places_sent (a ∷ b ∷ []) e = refl
places_sent (a ∷ b ∷ c ∷ l) e = let u : length (a ∷ b ∷ c ∷ l) < 3 = leb-false 3 (length (a ∷ b ∷ c ∷ l)) e in absurd (omega arith)

-- ---- what a record remembers of some sends

pub record Keeps (l : List ℕ) (g : Ages) : Type 0 where
  pub rising : Rising l
  pub few : length (recent l) ≤ 3
  pub remembered : g ≡ in_places (recent l)

pub keeps-none : Keeps [] (ages no_send no_send no_send)
unfolding Rising recent
keeps-none = record { rising = tt; few = omega arith; remembered = refl }

pub keeps-ticked : (l : List ℕ) (g : Ages) → Keeps l g → Keeps (map suc l) (ages_ticked g)
keeps-ticked l g k =
    let fewer : length (recent (map suc l)) ≤ length (recent l) = fewer_ticked l in
    let few : length (recent l) ≤ 3 = k.few in
    let at : (j : ℕ) → aged (in_place (recent l) j) ≡ in_place (recent (map suc l)) j = λ j. sym (recent-ticked l k.rising j) in
    record {
      rising = rising-suc l k.rising;
      few = omega arith;
      remembered = ap ages_ticked k.remembered ∙ (λ i. ages (at 0 i) (at 1 i) (at 2 i));
    }

pub keeps_free : (l : List ℕ) (g : Ages) → Keeps l g → barred g ≡ leb 3 (length (recent l))
keeps_free l g k = ap barred k.remembered ∙ places_barred (recent l)

pub keeps-sent : (l : List ℕ) (g : Ages) → Keeps l g → barred g ≡ false → Keeps (0 ∷ l) (sent_ages g)
unfolding Rising recent
keeps-sent l g k e =
    let free : leb 3 (length (recent l)) ≡ false = sym (keeps_free l g k) ∙ e in
    let less : length (recent l) < 3 = leb-false 3 (length (recent l)) free in
    record {
      rising = (least_zero l, k.rising);
      few = omega arith;
      remembered = ap sent_ages k.remembered ∙ places_sent (recent l) free;
    }

-- ---- a send and those after it

least_at : (b : ℕ) (l : List ℕ) → Least b l → (k : ℕ) → k < length l → b ≤ get_or l k 0
unfolding Least
least_at b [] h k g = absurd (omega arith)
least_at b (a ∷ l) h zero g = h.0
least_at b (a ∷ l) h (suc k) g = least_at b l h.1 k (omega arith)

-- where the send at place k is recent, so are the k sends after it
pub recent-before : (l : List ℕ) → Rising l → (k : ℕ) → k < length l → get_or l k 0 ≤ fast_periodic_time → k < length (recent l)
unfolding Rising recent
recent-before [] h k g r = absurd (omega arith)
recent-before (a ∷ l) h zero g r = rw (le-leb a fast_periodic_time r) (omega arith)
recent-before (a ∷ l) h (suc k) g r =
    let less : k < length l = omega arith in
    let first : a ≤ get_or l k 0 = least_at a l h.0 k less in
    let rest : k < length (recent l) = recent-before l h.1 k less r in
    rw (le-leb a fast_periodic_time (omega (arith, first, r))) (omega arith)
