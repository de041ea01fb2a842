-- What steps 5 and 6 need: every port is SELECTED after step 4, and one that waits attaches unless its aggregator is held back. Assumes nothing.
use Prim.Native.Nat.{ℕ, ◌<◌}
use mathlib.Core.Path.{◌≡◌, refl, sym, ap, ◌∙◌}
use mathlib.Core.Bool.{Bool, true, false, not, ◌&&◌, false≢true, true≢false}
use mathlib.Core.List.{List}
use lib.ListN.{length, get_or, drop}
use lib.Seq.{drop-length}
use Rattle.machine.specs.Mux.{waits}
use Rattle.port.specs.declared.record.Port.{Port}
use Rattle.port.specs.Mux.{attached_if}
use Rattle.table.specs.declared.layout.Header.{Header}
use Rattle.trunk.specs.Ready.{has_waiting, held_back, ready}
use Rattle.trunk.specs.Settled.{selected_all, attaching, Chosen, AllChosen}
use Rattle.trunk.proofs.SettledLaws.{selected-chosen, selected-length}
use Rattle.trunk.proofs.ReadyLaws.{attached-other, attached-stays, some-waits, waits-own}

-- ---- every port is SELECTED after step 4

pub all-chosen : (ours : Header) (ps : List Port) → AllChosen (selected_all ours ps)
all-chosen ours ps i d h = selected-chosen ours ps i d (rw (selected-length ours ps) at h)

-- ---- nobody is held back where there is no record

pub held_none : (k : ℕ) (ps : List Port) (n : ℕ) → length ps ≡ n → held_back k (drop n ps) ≡ false
unfolding held_back
held_none k ps n e = rw (← e, drop-length ps)

-- ---- step 5 for one port

ready-is : (k : ℕ) (ps : List Port) → has_waiting k ps ≡ true → ready k ps ≡ not (held_back k ps)
unfolding ready
ready-is k ps e = rw e

-- a port that waits has a waiting port, itself; one that does not is left alone either way
attach_ready : (ps : List Port) (i : ℕ) (d : Port) → i < length ps
    → attached_if (not (held_back (get_or ps i d).aggregator ps)) (get_or ps i d) ≡ attaching ps (get_or ps i d)
attach_ready ps i d h = by (waits (get_or ps i d).phase.mux) refl
  where
    by : (w : Bool) → waits (get_or ps i d).phase.mux ≡ w
        → attached_if (not (held_back (get_or ps i d).aggregator ps)) (get_or ps i d) ≡ attaching ps (get_or ps i d)
    by true e =
        ap (λ (b : Bool). attached_if b (get_or ps i d))
        (sym (ready-is (get_or ps i d).aggregator ps (some-waits (get_or ps i d).aggregator ps i d h (waits-own (get_or ps i d) e))))
    by false e = attached-other _ (get_or ps i d) e ∙ sym (attached-other _ (get_or ps i d) e)

-- a port that waits and is not held back attaches
pub attach_free : (ps : List Port) (i : ℕ) (d : Port) → i < length ps
    → waits (get_or ps i d).phase.mux && not (held_back (get_or ps i d).aggregator ps) ≡ true → attached_if true (get_or ps i d) ≡ attaching ps (get_or ps i d)
attach_free ps i d h e = by (waits (get_or ps i d).phase.mux) (held_back (get_or ps i d).aggregator ps) refl e
  where
    by : (w b : Bool) → held_back (get_or ps i d).aggregator ps ≡ b → w && not b ≡ true → attached_if true (get_or ps i d) ≡ attaching ps (get_or ps i d)
    by true false x e = ap (λ (b : Bool). attached_if (not b) (get_or ps i d)) (sym x) ∙ attach_ready ps i d h
    by true true x e = absurd (false≢true e)
    by false b x e = absurd (false≢true e)

-- a SELECTED port that does not wait, or is held back, is left alone
pub attach_held : (ps : List Port) (i : ℕ) (d : Port) → i < length ps → Chosen (get_or ps i d)
    → waits (get_or ps i d).phase.mux && not (held_back (get_or ps i d).aggregator ps) ≡ false → attaching ps (get_or ps i d) ≡ get_or ps i d
attach_held ps i d h s e = by (waits (get_or ps i d).phase.mux) (held_back (get_or ps i d).aggregator ps) refl refl e
  where
    by : (w b : Bool) → waits (get_or ps i d).phase.mux ≡ w → held_back (get_or ps i d).aggregator ps ≡ b → w && not b ≡ false
        → attaching ps (get_or ps i d) ≡ get_or ps i d
    by false b w x e = attached-other _ (get_or ps i d) w
    by true true w x e = sym (attach_ready ps i d h) ∙ ap (λ (b : Bool). attached_if (not b) (get_or ps i d)) x ∙ attached-stays (get_or ps i d) w s
    by true false w x e = absurd (true≢false e)
