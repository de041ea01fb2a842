-- Step 5 port by port: attaching a port never changes whether an aggregator is Ready for a port that still waits. A SELECTED port that
-- holds its aggregator back is left alone, and one that does not hold back does not do so after attaching. Assumes nothing.
use Prim.Native.Nat.{ℕ, zero, suc, ◌+◌, ◌<◌}
use mathlib.Core.Path.{◌≡◌, refl, sym, ap, ◌∙◌}
use mathlib.Core.Bool.{Bool, true, false, cond, not, ◌&&◌, ◌||◌, or-true, false≢true, true≢false}
use mathlib.Core.List.{List, [], ◌∷◌}
use native.Mathlib.Omega.{arith}
use lib.ListN.{length, get_or}
use lib.Dec.{ltb, eqb}
use borrow.Author.Tests.{eqb-true, eq-eqb, not-true}
use Rattle.octets.specs.Lists.{map_from}
use Rattle.octets.proofs.ListLaws.{below, done_to, pointwise, done-length, done_next}
use Rattle.machine.specs.declared.states.Mux.{Mux}
use Rattle.machine.specs.declared.states.Mux.TheVariants.{Detached, Waiting, Attached, Collecting, Distributing}
use Rattle.machine.specs.declared.states.Selection.TheVariants.{Unselected, Selected}
use Rattle.machine.specs.States.{ticks}
use Rattle.machine.specs.Mux.{waits}
use Rattle.port.specs.declared.record.Port.{Port}
use Rattle.port.specs.Record.{with_aggregator, with_wait, with_mux, with_selected}
use Rattle.port.specs.Mux.{mux_entered, mux_choice, mux_step, attached_if}
use Rattle.trunk.specs.Ready.{waits_for, has_waiting, holds_back, held_back, ready}
use Rattle.trunk.specs.Settled.{attaching, Chosen}

-- ---- one port

pub waits-waiting : (m : Mux) → waits m ≡ true → m ≡ Waiting
waits-waiting Detached e = absurd (false≢true e)
waits-waiting Waiting e = refl
waits-waiting Attached e = absurd (false≢true e)
waits-waiting Collecting e = absurd (false≢true e)
waits-waiting Distributing e = absurd (false≢true e)

-- a port that does not wait is left alone by step 5
pub attached-other : (r : Bool) (p : Port) → waits p.phase.mux ≡ false → attached_if r p ≡ p
unfolding attached_if
attached-other r p e = rw e

-- a waiting SELECTED port of an aggregator that is not Ready is left alone
pub attached-stays : (p : Port) → waits p.phase.mux ≡ true → Chosen p → attached_if false p ≡ p
unfolding attached_if mux_step mux_choice Chosen
attached-stays p w s = rw (w, waits-waiting p.phase.mux w, s)

-- one of a Ready aggregator enters ATTACHED
pub attached-enters : (p : Port) → waits p.phase.mux ≡ true → Chosen p → attached_if true p ≡ mux_entered Attached p
unfolding attached_if mux_step mux_choice Chosen
attached-enters p w s = rw (w, waits-waiting p.phase.mux w, s)

and-false : (a : Bool) → a && false ≡ false
and-false true = refl
and-false false = refl

-- a port that holds no aggregator of its own back holds none back
holds-own : (k : ℕ) (p : Port) → holds_back p.aggregator p ≡ false → holds_back k p ≡ false
unfolding holds_back waits_for
holds-own k p h = by (eqb p.aggregator k) refl
  where
    by : (b : Bool) → eqb p.aggregator k ≡ b → holds_back k p ≡ false
    by true e = ap (λ (m : ℕ). holds_back m p) (sym (eqb-true p.aggregator k e)) ∙ h
    by false e = rw e

-- an attached port holds nothing back
attached_free : (k : ℕ) (p : Port) → holds_back k (mux_entered Attached p) ≡ false
unfolding holds_back waits_for
attached_free k p = rw (and-false (eqb p.aggregator k))

-- ---- a list of ports

or_parts : (a b : Bool) → a || b ≡ false → (a ≡ false) × (b ≡ false)
or_parts true b e = absurd (true≢false e)
or_parts false b e = (refl, e)

-- where nobody holds an aggregator back, no member does
none-holds : (k : ℕ) (ps : List Port) (i : ℕ) (d : Port) → i < length ps → held_back k ps ≡ false → holds_back k (get_or ps i d) ≡ false
unfolding held_back
none-holds k [] i d h e = absurd (omega arith)
none-holds k (p ∷ ps) zero d h e = (or_parts (holds_back k p) (held_back k ps) e).0
none-holds k (p ∷ ps) (suc i) d h e = none-holds k ps i d (omega arith) (or_parts (holds_back k p) (held_back k ps) e).1

-- a member that waits makes its aggregator one with waiting ports
pub some-waits : (k : ℕ) (ps : List Port) (i : ℕ) (d : Port) → i < length ps → waits_for k (get_or ps i d) ≡ true → has_waiting k ps ≡ true
unfolding has_waiting
some-waits k [] i d h e = absurd (omega arith)
some-waits k (p ∷ ps) zero d h e = rw e
some-waits k (p ∷ ps) (suc i) d h e = rw (some-waits k ps i d (omega arith) e, or-true (waits_for k p))

-- a port that waits does so for the aggregator that it holds
pub waits-own : (p : Port) → waits p.phase.mux ≡ true → waits_for p.aggregator p ≡ true
unfolding waits_for
waits-own p w = rw (eq-eqb p.aggregator p.aggregator refl, w)

-- where no port changes whether it holds k back, nobody does for the list
held_sweep : (k : ℕ) (f : ℕ → Port → Port) (i : ℕ) (ps : List Port) (d : Port)
    → ((j : ℕ) → j < length ps → holds_back k (f (i + j) (get_or ps j d)) ≡ holds_back k (get_or ps j d)) → held_back k (map_from f i ps) ≡ held_back k ps
unfolding held_back map_from
held_sweep k f i [] d e = refl
held_sweep k f i (p ∷ ps) d e =
    let z : i + 0 ≡ i = omega arith in
    let here : holds_back k (f i p) ≡ holds_back k p = rw z at (e 0 (omega arith)) in
    let there : held_back k (map_from f (i + 1) ps) ≡ held_back k ps =
    held_sweep k f (i + 1) ps d (λ j h. let s : i + suc j ≡ i + 1 + j = omega arith in rw s at (e (suc j) (omega arith))) in
    rw (here, there)

-- ---- step 5

-- Ready: nobody holds back
ready_free : (k : ℕ) (ps : List Port) → ready k ps ≡ true → held_back k ps ≡ false
unfolding ready
ready_free k ps e = by (has_waiting k ps) e
  where
    by : (b : Bool) → b && not (held_back k ps) ≡ true → held_back k ps ≡ false
    by true e = not-true (held_back k ps) e
    by false e = absurd (false≢true e)

module _ (ps : List Port) (d : Port) where
  -- attaching a SELECTED member changes nothing in who is held back. (An UNSELECTED one that waits with its timer running would leave
  -- WAITING and hold nothing back any more.)
  pub holds_kept : (k i : ℕ) → i < length ps → Chosen (get_or ps i d)
      → holds_back k (attached_if (ready (get_or ps i d).aggregator ps) (get_or ps i d)) ≡ holds_back k (get_or ps i d)
  holds_kept k i h s = by (waits p.phase.mux) (ready p.aggregator ps) refl refl
    where
      p : Port
      p = get_or ps i d

      by : (w r : Bool) → waits p.phase.mux ≡ w → ready p.aggregator ps ≡ r → holds_back k (attached_if (ready p.aggregator ps) p) ≡ holds_back k p
      by false r e x = ap (holds_back k) (attached-other (ready p.aggregator ps) p e)
      by true false e x = rw x (ap (holds_back k) (attached-stays p e s))
      by true true e x =
          rw x (ap (holds_back k) (attached-enters p e s) ∙ attached_free k p
          ∙ sym (holds-own k p (none-holds p.aggregator ps i d h (ready_free p.aggregator ps x))))

  module _ (chosen : (j : ℕ) → j < length ps → Chosen (get_or ps j d)) where
    -- nor do the first i of them
    held_meanwhile : (k i : ℕ) → held_back k (done_to (pointwise (attaching ps)) i ps) ≡ held_back k ps
    held_meanwhile k i = held_sweep k (below (pointwise (attaching ps)) i) 0 ps d (λ j h. by j h (ltb (0 + j) i))
      where
        by : (j : ℕ) → j < length ps → (b : Bool) → holds_back k (cond b (attaching ps (get_or ps j d)) (get_or ps j d)) ≡ holds_back k (get_or ps j d)
        by j h true = holds_kept k j h (chosen j h)
        by j h false = refl

    -- what Ready says of a port's aggregator while it still waits is what it said before any port was attached
    pub ready_meanwhile : (i : ℕ) → i < length ps → waits (get_or ps i d).phase.mux ≡ true
        → ready (get_or ps i d).aggregator (done_to (pointwise (attaching ps)) i ps) ≡ ready (get_or ps i d).aggregator ps
    unfolding ready
    ready_meanwhile i h w =
        let k = (get_or ps i d).aggregator in
        let before : has_waiting k ps ≡ true = some-waits k ps i d h (waits-own (get_or ps i d) w) in
        let next : get_or (done_to (pointwise (attaching ps)) i ps) i d ≡ get_or ps i d = done_next (pointwise (attaching ps)) ps i d h in
        let still : has_waiting k (done_to (pointwise (attaching ps)) i ps) ≡ true =
        some-waits k (done_to (pointwise (attaching ps)) i ps) i d (rw (done-length (pointwise (attaching ps)) ps i) h) (rw next (waits-own (get_or ps i d) w)) in
        rw (before, still, held_meanwhile k i)

-- `chosen` is needed: of two ports that wait for aggregator 1, an UNSELECTED one whose timer runs and one whose timer has run out, the
-- first leaves WAITING, and then the aggregator is Ready, which it was not.
module _ (p : Port) where
  unchosen : List Port
  unchosen =
      with_aggregator (with_wait (with_mux (with_selected p Unselected) Waiting) (ticks 1)) 1
      ∷ (with_aggregator (with_wait (with_mux (with_selected p Selected) Waiting) (ticks 0)) 1 ∷ [])

  not-ready : ready 1 unchosen ≡ false
  unfolding unchosen ready has_waiting held_back holds_back waits_for
  not-ready = refl

  ready-then : ready 1 (done_to (pointwise (attaching unchosen)) 1 unchosen) ≡ true
  unfolding unchosen ready has_waiting held_back holds_back waits_for map_from attached_if mux_step mux_choice
  ready-then = refl

-- an aggregator for which nobody waits is not Ready
pub nobody-waits : (k : ℕ) (ps : List Port) → has_waiting k ps ≡ false → ready k ps ≡ false
unfolding ready
nobody-waits k ps e = rw e
