-- Where steps 3 to 6 change nothing, said port by port, and back: each port is SELECTED, holds what the rule gives, waits for no Ready
-- aggregator, and its mux machine and the clearing of NTT are at rest. So a send, which these do not read, keeps it. Assumes nothing.
use Prim.Native.Nat.{ℕ, ◌<◌}
use mathlib.Core.Path.{◌≡◌, refl, sym, ap, ◌∙◌}
use mathlib.Core.Bool.{Bool, true, false, cond, ◌||◌}
use mathlib.Core.List.{List, [], ◌∷◌, map}
use lib.ListN.{length, get_or, set, length-map, length-set}
use lib.Seq.{ext_get_or, get_or-set_same, get_or-set_other, map-set_same}
use lib.Dec.{eqb}
use borrow.Author.Tests.{eqb-true, eqb-false}
use Rattle.std.specs.Prelude.{None}
use Rattle.octets.proofs.ListLaws.{map_at}
use Rattle.machine.specs.Mux.{waits}
use Rattle.port.specs.declared.record.Port.{Port}
use Rattle.port.specs.Record.{with_ntt}
use Rattle.port.specs.Compared.{Compared, compared}
use Rattle.port.specs.Mux.{mux_choice, mux_step, mux_run, attached_if}
use Rattle.port.specs.Transmit.{silent, ntt_cleared, sent}
use Rattle.port.proofs.MuxLaws.{mux-idle}
use Rattle.port.proofs.TransmitLaws.{cleared_keeps, cleared_twice, beside_sends}
use Rattle.table.specs.declared.layout.Header.{Header}
use Rattle.table.specs.Record.{decoded}
use Rattle.trunk.specs.Selection.{rule_of}
use Rattle.trunk.specs.Ready.{waits_for, has_waiting, holds_back, held_back, ready}
use Rattle.trunk.specs.Settled.{selected_all, attached_all, muxed, settled, Chosen}
use Rattle.trunk.proofs.ReadyLaws.{attached-other, attached-stays}
use Rattle.trunk.proofs.SettledLaws.{chosen-kept, reselected-stays, attached-holds, attached-length, attached-at, selected-length, selected-at, settled_at, settled-chosen, settled-rule}
use Rattle.trunk.proofs.RestLaws.{rest_chooses, chosen-rests, muxed-twice, none-ready}

-- ---- one port in step 6

cleared_chooses : (p : Port) → mux_choice false (ntt_cleared p) ≡ mux_choice false p
unfolding mux_choice
cleared_chooses p = ap (λ (x : Port). mux_choice false x) (cleared_keeps p)

-- where step 6 changes nothing, the mux machine stays and NTT is clear where it is to be
muxed-stays : (p : Port) → Chosen p → muxed p ≡ p → mux_choice false p ≡ None
unfolding muxed
muxed-stays p s e = ap (mux_choice false) (sym e) ∙ cleared_chooses (mux_run p) ∙ rest_chooses (mux_run p) (chosen-rests p s)

muxed_cleared : (p : Port) → muxed p ≡ p → ntt_cleared p ≡ p
unfolding muxed
muxed_cleared p e = ap ntt_cleared (sym e) ∙ cleared_twice (mux_run p) ∙ e

muxed-is : (p : Port) → mux_choice false p ≡ None → ntt_cleared p ≡ p → muxed p ≡ p
unfolding muxed
muxed-is p c q = ap ntt_cleared (mux-idle p (stays p c)) ∙ q
  where
    stays : (p : Port) → mux_choice false p ≡ None → mux_step false p ≡ p
    stays p c = unfold mux_step in rw c

-- ---- one port in all of them: k is what the rule gives it, r what Ready says of each aggregator

pub record Firm (k : ℕ) (r : ℕ → Bool) (p : Port) : Type 0 where
  pub chosen : Chosen p
  pub rule : p.aggregator ≡ k
  pub unready : waits p.phase.mux ≡ true → r p.aggregator ≡ false
  pub stays : mux_choice false p ≡ None
  pub quiet : ntt_cleared p ≡ p

-- ---- a list

abbrev pub Settles : Header → List Port → Type 0
Settles ours ps = (i : ℕ) (d : Port) → i < length ps → Firm (rule_of ours (map compared ps) i) (λ k. ready k ps) (get_or ps i d)

module _ (ours : Header) (ps : List Port) where
  pub settles : settled ours ps ≡ ps → Settles ours ps
  settles e i d h = record {
    chosen = chosen;
    rule = rule;
    unready = rw e at (none-ready ours ps i d h);
    stays = muxed-stays p chosen top;
    quiet = muxed_cleared p top;
  }
    where
      p : Port
      p = get_or ps i d

      chosen : Chosen p
      chosen = rw e at (settled-chosen ours ps i d h)

      rule : p.aggregator ≡ rule_of ours (map compared ps) i
      rule = rw e at (settled-rule ours ps i d h)

      same : get_or (selected_all ours ps) i d ≡ p
      same = selected-at ours ps i d h ∙ reselected-stays (rule_of ours (map compared ps) i) p chosen rule

      r : Bool
      r = ready (get_or (selected_all ours ps) i d).aggregator (selected_all ours ps)

      from : p ≡ muxed (attached_if r p)
      from = ap (λ (l : List Port). get_or l i d) (sym e) ∙ settled_at ours ps i d h ∙ ap (λ (x : Port). muxed (attached_if r x)) same

      top : muxed p ≡ p
      top = ap muxed from ∙ muxed-twice (attached_if r p) (chosen-kept p (attached_if r p) (attached-holds r p).0 chosen) ∙ sym from

  module _ (f : Settles ours ps) where
    selected-same : selected_all ours ps ≡ ps
    selected-same =
        ext_get_or (decoded []) (selected_all ours ps) ps (selected-length ours ps)
        (λ i k. let h : i < length ps = rw (selected-length ours ps) at k in
        let q = f i (decoded []) h in
        selected-at ours ps i (decoded []) h ∙ reselected-stays (rule_of ours (map compared ps) i) (get_or ps i (decoded [])) q.chosen q.rule)

    attached-same : attached_all ps ≡ ps
    attached-same =
        ext_get_or (decoded []) (attached_all ps) ps (attached-length ps)
        (λ i k. let h : i < length ps = rw (attached-length ps) at k in
        attached-at ps i (decoded []) h ∙ by i h (waits (get_or ps i (decoded [])).phase.mux) refl)
      where
        by : (i : ℕ) → i < length ps → (b : Bool) → waits (get_or ps i (decoded [])).phase.mux ≡ b
            → attached_if (ready (get_or ps i (decoded [])).aggregator ps) (get_or ps i (decoded [])) ≡ get_or ps i (decoded [])
        by i h true w =
            let q = f i (decoded []) h in
            rw (q.unready w) (attached-stays (get_or ps i (decoded [])) w q.chosen)
        by i h false w = attached-other (ready (get_or ps i (decoded [])).aggregator ps) (get_or ps i (decoded [])) w

    muxed-same : map muxed ps ≡ ps
    muxed-same =
        ext_get_or (decoded []) (map muxed ps) ps (length-map ps muxed)
        (λ i k. let h : i < length ps = rw (length-map ps muxed) at k in
        let q = f i (decoded []) h in
        map_at muxed ps i (decoded []) (decoded []) h ∙ muxed-is (get_or ps i (decoded [])) q.stays q.quiet)

    pub settles-is : settled ours ps ≡ ps
    unfolding settled
    settles-is = ap (λ (l : List Port). map muxed (attached_all l)) selected-same ∙ ap (map muxed) attached-same ∙ muxed-same

-- ---- a send

if-quiet : (b : Bool) (p : Port) → cond b (with_ntt (sent p) false) (sent p) ≡ sent p
unfolding sent
if-quiet true p = refl
if-quiet false p = refl

sent_cleared : (p : Port) → ntt_cleared (sent p) ≡ sent p
unfolding ntt_cleared
sent_cleared p = if-quiet (silent (sent p)) p

sent_chooses : (p : Port) → mux_choice false (sent p) ≡ mux_choice false p
unfolding mux_choice sent
sent_chooses p = refl

sent_firm : (k : ℕ) (r : ℕ → Bool) (p : Port) → Firm k r p → Firm k r (sent p)
unfolding sent
sent_firm k r p f = record {
  chosen = chosen-kept p (sent p) refl f.chosen;
  rule = f.rule;
  unready = f.unready;
  stays = sent_chooses p ∙ f.stays;
  quiet = sent_cleared p;
}

firm_as : (k m : ℕ) (r s : ℕ → Bool) (p : Port) → k ≡ m → ((n : ℕ) → r n ≡ s n) → Firm k r p → Firm m s p
firm_as k m r s p e g f = record {
  chosen = f.chosen;
  rule = f.rule ∙ e;
  unready = λ w. sym (g p.aggregator) ∙ f.unready w;
  stays = f.stays;
  quiet = f.quiet;
}

-- Ready does not read what a send changes
waiting-beside : (k : ℕ) (ps : List Port) → has_waiting k (map beside_sends ps) ≡ has_waiting k ps
unfolding has_waiting waits_for
waiting-beside k [] = refl
waiting-beside k (p ∷ ps) = ap (λ (b : Bool). waits_for k p || b) (waiting-beside k ps)

held-beside : (k : ℕ) (ps : List Port) → held_back k (map beside_sends ps) ≡ held_back k ps
unfolding held_back holds_back waits_for
held-beside k [] = refl
held-beside k (p ∷ ps) = ap (λ (b : Bool). holds_back k p || b) (held-beside k ps)

ready-beside : (k : ℕ) (ps : List Port) → ready k (map beside_sends ps) ≡ ready k ps
unfolding ready
ready-beside k ps = rw (waiting-beside k ps, held-beside k ps)

module _ (ours : Header) (ps : List Port) (n : ℕ) (d : Port) (f : Settles ours ps) where
  qs : List Port
  qs = set ps n (sent (get_or ps n d))

  sends-same : map beside_sends qs ≡ map beside_sends ps
  unfolding qs sent
  sends-same = map-set_same (λ (p : Port). beside_sends p) ps n (sent (get_or ps n d)) d refl

  compared_same : map compared qs ≡ map compared ps
  unfolding qs sent
  compared_same = map-set_same (λ (p : Port). compared p) ps n (sent (get_or ps n d)) d refl

  ready-same : (k : ℕ) → ready k ps ≡ ready k qs
  ready-same k = sym (ready-beside k ps) ∙ ap (ready k) (sym sends-same) ∙ ready-beside k qs

  -- where steps 3 to 6 change nothing, they change nothing after a send
  pub sent-settles : Settles ours (set ps n (sent (get_or ps n d)))
  unfolding qs
  sent-settles i c k =
      firm_as (rule_of ours (map compared ps) i) (rule_of ours (map compared qs) i) (λ j. ready j ps) (λ j. ready j qs) (get_or qs i c)
      (ap (λ (l : List Compared). rule_of ours l i) (sym compared_same)) ready-same (by (eqb i n) refl)
    where
      h : i < length ps
      h = rw (length-set ps n (sent (get_or ps n d))) at k

      by : (b : Bool) → eqb i n ≡ b → Firm (rule_of ours (map compared ps) i) (λ j. ready j ps) (get_or qs i c)
      by true x =
          let is : i ≡ n = eqb-true i n x in
          let less : n < length ps = rw is at h in
          let this : get_or qs i c ≡ sent (get_or ps i d) = rw is (get_or-set_same ps n (sent (get_or ps n d)) c less) in
          rw this (sent_firm (rule_of ours (map compared ps) i) (λ j. ready j ps) (get_or ps i d) (f i d h))
      by false x = rw (get_or-set_other ps n i (sent (get_or ps n d)) c (eqb-false i n x)) (f i c h)
