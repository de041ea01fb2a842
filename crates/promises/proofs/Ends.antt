-- Along any run of the library: what a port asked for follows from the steps, a Marker ends in its time, and numbers are used in order. Assumes nothing.
use Prim.Native.Nat.{ℕ, ◌+◌, ◌-◌, ◌%◌, ◌≤◌, ◌<◌}
use mathlib.Core.Path.{◌≡◌, refl, sym, ap, ◌∙◌, subst}
use mathlib.Core.Bool.{Bool, true, false, cond, ◌&&◌, true≢false}
use mathlib.Core.List.{List, [], ◌∷◌, ◌++◌}
use native.Mathlib.Omega.{arith}
use lib.ListN.{drop}
use lib.Dec.{eqb}
use borrow.Author.Tests.{eqb-true, eq-eqb}
use Rattle.octets.specs.Octets.{within}
use Rattle.octets.proofs.RangeLaws.{within-true}
use Rattle.frame.specs.declared.wire.MarkerType.TheVariants as kind
use Rattle.frame.specs.Class.{frame_size}
use Rattle.frame.specs.Wire.{request_part}
use Rattle.frame.proofs.WireLaws.{request_back}
use Rattle.table.specs.Table.{count_in, port_at, ours}
use Rattle.asks.specs.declared.ask.Ask.{Ask}
use Rattle.asks.specs.Ask.{longest_wait, is_awaiting, asked}
use Rattle.asks.specs.Groups.{ask_at, all_begun}
use Rattle.asks.proofs.MadeLaws.{Groups, begun-at}
use Rattle.asked.specs.Layer.{old_layer, new_layer}
use Rattle.asked.specs.Asked.{front_of, request_of}
use Rattle.asked.specs.Ask.{marker_for, ask_outgoing}
use Rattle.promises.specs.Run.{Held, old, new, memory_of, records_of, call, stepped, through}
use Rattle.promises.specs.Whole.{HeldSound}
use Rattle.promises.specs.Asked.{layer_of, groups_in, table_in, ask_in, Deed, plain, ask, said_to, agrees, done, after-all, DeedTakes, AllTaken, AskedMade, front_step, ask_by}
use Rattle.promises.specs.Asks.{is_end, fate, tick_of, ticks_of, NoStart, count_ask, count_asks, asks_of, AsksFollow, EndsInTime, NumbersInOrder}
use Rattle.promises.proofs.Run.{steps-go}
use Rattle.promises.proofs.Joined.{agreed, ask-answer, tests_pass}
use Rattle.promises.proofs.Asked.{records-count, front-size, front-some, reported, named, join, deed_step, front-takes, Joint, joint-front, joint-groups, from_start, begun-sound, begun-ranged, made-joint}
use Rattle.promises.proofs.Asks.{OneStep, one-step, number_step}

-- ---- a step on a sound front and groups

abbrev joined : (f : Held) → HeldSound f → (g : List ℕ) → Groups (count_in (memory_of f)) g → Joint (join f g)
joined f s g gs = record { front = f; groups = g; sound = s; ranged = gs; is = refl }

pub record Stepped (h k : Held) (d : Deed) : Type 0 where
  pub joint : Joint k
  pub ports : ℕ
  pub before : count_in (table_in h) ≡ ports
  pub then : count_in (table_in k) ≡ ports
  pub asks : (i : ℕ) → i < ports → ask_in i k ≡ ask_by i d h (ask_in i h)

count_of : (h : Held) (j : Joint h) → count_in (table_in h) ≡ count_in (memory_of j.front)
count_of h j = ap (λ (x : Held). count_in (records_of x)) (joint-front h j) ∙ records-count j.front

pub joint-step : (d : Deed) → DeedTakes d → (h : Held) → Joint h → Stepped h (done d h) d
joint-step d k h j = subst (λ (x : Held). Stepped x (done d x) d) (sym j.is) (by j.front j.sound j.groups j.ranged)
  where
    by : (f : Held) → HeldSound f → (g : List ℕ) → Groups (count_in (memory_of f)) g → Stepped (join f g) (done d (join f g)) d
    by f s g gs =
        let one = deed_step d k f s g gs in
        let zs = front_step d (join f g) in
        let here = joined f s g gs in
        let next : Joint (done d (join f g)) = record { front = through f zs; groups = one.groups; sound = (steps-go f s zs (front-takes d k (join f g))).sound; ranged = one.ranged; is = one.is } in
        record {
          joint = next;
          ports = count_in (memory_of f);
          before = count_of (join f g) here;
          then = count_of (done d (join f g)) next ∙ one.count;
          asks = λ i h.
              ap (λ (l : List ℕ). ask_at l i) (joint-groups (done d (join f g)) next) ∙ one.asks i h ∙ ap (λ (l : List ℕ). ask_by i d (join f g) (ask_at l i)) (sym (joint-groups (join f g) here));
        }

pub asks-follow : AsksFollow
asks-follow h m d k i here = let s = joint-step d k h (made-joint h m) in s.asks i (let b = s.before in omega (arith, b, here))

-- ---- an accepted ask has passed its tests

pub record Passed (h : Held) (n wait : ℕ) : Type 0 where
  pub some : 1 ≤ n
  pub there : n - 1 < count_in (table_in h)
  pub fits : within 1 wait longest_wait ≡ true
  pub idle : is_awaiting (ask_in (n - 1) h).outcome ≡ false

pub ask-passed : (h : Held) → Joint h → (n wait : ℕ) (out : List ℕ) → agrees (said_to n wait out h) ≡ true → Passed h n wait
ask-passed h j n wait out =
    subst (λ (x : Held). agrees (said_to n wait out x) ≡ true → Passed x n wait) (sym j.is) (by j.front j.sound j.groups j.ranged)
  where
    by : (f : Held) → HeldSound f → (g : List ℕ) → Groups (count_in (memory_of f)) g → agrees (said_to n wait out (join f g)) ≡ true → Passed (join f g) n wait
    by (old t) s g gs e =
        let p = tests_pass old_layer t (front-some (old t) s) (front-size (old t) s) g gs n wait out (ap agrees (sym (ask-answer old_layer t (front-some (old t) s) (front-size (old t) s) g gs n wait out)) ∙ e) in
        let here = joined (old t) s g gs in
        let low = reported (old t) s n p.0 in
        let c = count_of (old (t ++ g)) here in
        record { some = named (old t) s n p.0; there = omega (arith, low, c); fits = p.1; idle = ap (λ (l : List ℕ). is_awaiting (ask_at l (n - 1)).outcome) (joint-groups (old (t ++ g)) here) ∙ p.2 }
    by (new w) s g gs e =
        let p = tests_pass new_layer w (front-some (new w) s) (front-size (new w) s) g gs n wait out (ap agrees (sym (ask-answer new_layer w (front-some (new w) s) (front-size (new w) s) g gs n wait out)) ∙ e) in
        let here = joined (new w) s g gs in
        let low = reported (new w) s n p.0 in
        let c = count_of (new (w ++ g)) here in
        record { some = named (new w) s n p.0; there = omega (arith, low, c); fits = p.1; idle = ap (λ (l : List ℕ). is_awaiting (ask_at l (n - 1)).outcome) (joint-groups (new (w ++ g)) here) ∙ p.2 }

-- so who awaits is not asked again
busy : (h : Held) → Joint h → (i : ℕ) → is_awaiting (ask_in i h).outcome ≡ true → (n wait : ℕ) (out : List ℕ) → eqb i (n - 1) && agrees (said_to n wait out h) ≡ false
busy h j i e n wait out = by (eqb i (n - 1)) refl (agrees (said_to n wait out h)) refl
  where
    by : (x : Bool) → eqb i (n - 1) ≡ x → (y : Bool) → agrees (said_to n wait out h) ≡ y → x && y ≡ false
    by true s true t = absurd (true≢false (sym e ∙ ap (λ (k : ℕ). is_awaiting (ask_in k h).outcome) (eqb-true i (n - 1) s) ∙ (ask-passed h j n wait out t).idle))
    by true s false t = refl
    by false s y t = refl

-- ---- ends

late : (ds : List Deed) → AllTaken ds → (h : Held) → Joint h → (i : ℕ) → i < count_in (table_in h) → NoStart h ds → is_awaiting (ask_in i h).outcome ≡ true → 1 ≤ (ask_in i h).timer.0
    → (ask_in i h).timer.0 ≤ ticks_of h ds → is_end (fate i h ds) ≡ true
unfolding fate ticks_of NoStart
late [] k h j i here none awaits some most = absurd (omega (arith, some, most))
late (d ∷ ds) k h j i here none awaits some most =
    let s = joint-step d k.0 h j in
    let b = s.before in
    let c = s.then in
    let is = s.asks i (omega (arith, b, here)) in
    let one = one-step d h i (ask_in i h) awaits none.0 (λ n wait out e. busy h j i awaits n wait out) in
    by (is_awaiting (ask_in i (done d h)).outcome) refl is one
    (λ on less more. late ds k.1 (done d h) s.joint i (omega (arith, b, c, here)) none.1 on more (omega (arith, less, most)))
  where
    by : (x : Bool) → is_awaiting (ask_in i (done d h)).outcome ≡ x → ask_in i (done d h) ≡ ask_by i d h (ask_in i h) → OneStep d h (ask_in i h) (ask_by i d h (ask_in i h))
        → (is_awaiting (ask_in i (done d h)).outcome ≡ true → (ask_in i (done d h)).timer.0 + tick_of d h ≡ (ask_in i h).timer.0 → 1 ≤ (ask_in i (done d h)).timer.0 → is_end (fate i (done d h) ds) ≡ true)
        → is_end (cond x (fate i (done d h) ds) (ask_in i (done d h)).outcome) ≡ true
    by true e is one go =
        let w = one.awaits (ap (λ (a : Ask). is_awaiting a.outcome) (sym is) ∙ e) in
        go e (ap (λ (a : Ask). a.timer.0 + tick_of d h) is ∙ w.0) (let more = w.1 some in rw (sym is) at more)
    by false e is one go = ap (λ (a : Ask). is_end a.outcome) is ∙ one.ends (ap (λ (a : Ask). is_awaiting a.outcome) (sym is) ∙ e)

pub ends_in_time : EndsInTime
ends_in_time h m n wait out o e ds k none enough =
    let j = made-joint h m in
    let p = ask-passed h j n wait out e in
    let s = joint-step (ask n wait out) o h j in
    let b = s.before in
    let c = s.then in
    let low = p.there in
    let is : ask_in (n - 1) (done (ask n wait out) h) ≡ asked wait (ask_in (n - 1) h) = s.asks (n - 1) (omega (arith, b, low)) ∙ rw (eq-eqb (n - 1) (n - 1) refl, e) refl in
    let least = (within-true 1 wait longest_wait p.fits).0 in
    late ds k (done (ask n wait out) h) s.joint (n - 1) (omega (arith, b, c, low)) none (ap (λ (a : Ask). is_awaiting a.outcome) is) (rw is least) (rw is enough)

-- ---- numbers

counted-along : (ds : List Deed) → AllTaken ds → (h : Held) → Joint h → (i : ℕ) → i < count_in (table_in h) → (k : ℕ) → (ask_in i h).number ≡ k % 4294967296
    → (ask_in i (after-all h ds)).number ≡ count_asks i h ds k % 4294967296
unfolding after-all count_asks
counted-along [] t h j i here k e = e
counted-along (d ∷ ds) t h j i here k e =
    let s = joint-step d t.0 h j in
    let b = s.before in
    let c = s.then in
    counted-along ds t.1 (done d h) s.joint i (omega (arith, b, c, here)) (count_ask i d h k)
    (ap (λ (a : Ask). a.number) (s.asks i (omega (arith, b, here))) ∙ number_step d h i (ask_in i h) k e)

counts-along : (ds : List Deed) → AllTaken ds → (h : Held) → Joint h → count_in (table_in (after-all h ds)) ≡ count_in (table_in h)
unfolding after-all
counts-along [] t h j = refl
counts-along (d ∷ ds) t h j =
    let s = joint-step d t.0 h j in
    counts-along ds t.1 (done d h) s.joint ∙ s.then ∙ sym s.before

module _ (h : Held) (m : AskedMade h) where
  first : Held
  first = done (plain (call m.start)) m.memory

  first-joint : Joint first
  unfolding first
  first-joint =
      let b = from_start h m in record { front = stepped (call m.start) b.front; groups = all_begun b.ports; sound = begun-sound h m; ranged = begun-ranged h m; is = b.is }

  gives_it : after-all first m.deeds ≡ h
  unfolding first after-all
  gives_it = m.gives

  same_count : count_in (table_in h) ≡ count_in (table_in first)
  same_count = ap (λ (x : Held). count_in (table_in x)) (sym gives_it) ∙ counts-along m.deeds m.run.takes.1 first first-joint

  none_yet : (i : ℕ) → i < count_in (table_in first) → (ask_in i first).number ≡ 0
  unfolding first-joint
  none_yet i here =
      let c = count_of first first-joint in
      let b = (from_start h m).count in
      ap (λ (l : List ℕ). (ask_at l i).number) (joint-groups first first-joint) ∙ ap (λ (a : Ask). a.number) (begun-at (from_start h m).ports i (omega (arith, here, c, b)))

  pub numbered : (i : ℕ) → i < count_in (table_in h) → (ask_in i h).number ≡ asks_of m i % 4294967296
  unfolding first
  numbered i here =
      let c = same_count in
      ap (λ (x : Held). (ask_in i x).number) (sym gives_it)
      ∙ counted-along m.deeds m.run.takes.1 first first-joint i (omega (arith, here, c)) 0 (none_yet i (omega (arith, here, c)))

table_is : (h : Held) → (layer_of h).records (front_of (layer_of h) (memory_of h)) ≡ table_in h
table_is (old m) = refl
table_is (new m) = refl

-- what an accepted ask sent gives back its request, in any memory
pub ask-reads-back : (h : Held) (n wait : ℕ) (out : List ℕ) → agrees (said_to n wait out h) ≡ true
    → request_part (ask_outgoing (layer_of h) n wait out (memory_of h)) ≡ request_of n (ours (table_in h)).system.address (ask_in (n - 1) h).number
unfolding ask_outgoing
ask-reads-back h n wait out e =
    let t : List ℕ = (layer_of h).records (front_of (layer_of h) (memory_of h)) in
    ap request_part (agreed out (marker_for t (groups_in h) n ++ drop frame_size out) (said_to n wait out h) e)
    ∙ request_back (port_at t (n - 1)).own.address (request_of n (ours t).system.address (ask_in (n - 1) h).number) (drop frame_size out) refl kind.Marker
    ∙ ap (λ (x : List ℕ). request_of n (ours x).system.address (ask_in (n - 1) h).number) (table_is h)

pub numbers_in_order : NumbersInOrder
numbers_in_order h m n wait out e =
    ask-reads-back h n wait out e
    ∙ ap (λ (k : ℕ). request_of n (ours (table_in h)).system.address k) (numbered h m (n - 1) (ask-passed h (made-joint h m) n wait out e).there)
