-- A record and its octets tell the same, both ways. Numbers, blocks and codes go back by their own laws, group by group.
-- Assumes nothing.
use Prim.Native.Nat.{ℕ, ◌+◌, ◌%◌, ◌≤◌, ◌<◌}
use mathlib.Core.Path.{◌≡◌, refl, sym, ap, ◌∙◌}
use mathlib.Core.List.{List, ◌∷◌, ◌++◌}
use native.Mathlib.Omega.{arith}
use lib.ListN.{length, take, drop, get_or, length-drop}
use lib.Seq.{length-take-le, get_or-take, get_or-drop}
use Rattle.octets.specs.Octets.{Octets}
use Rattle.octets.proofs.Laws.{number-back, spread, spread-all, spread-part}
use Rattle.octets.proofs.OctetLists.{octets_of_lem, append-octets, take-octets, drop-octets, first_back, second_back}
use Rattle.octets.proofs.RangeLaws.{both, both_true, small}
use Rattle.frame.specs.Block.{block_of, block_octets}
use Rattle.frame.specs.Wire.{part}
use Rattle.frame.proofs.BlockLaws.{port-state-back, octet-back, octet-le, block_back, block_octets-back}
use Rattle.frame.proofs.RangeLaws.{part-fits, block-octets}
use Rattle.port.specs.declared.record.Port.{Port}
use Rattle.table.specs.Layout.{record_size}
use Rattle.table.specs.Record.{phase_octets, status_octets, timers_octets, ages_octets, own_octets, own_in, encoded, decoded}
use Rattle.machine.specs.Codes.{receive_code, periodic_code, mux_code, selected_code}
use Rattle.table.specs.Codes.{flag_octet}
use Rattle.machine.proofs.CodeLaws.{receive-back, periodic-back, mux-back, selected-back, receive_code-back, periodic_code-back, mux_code-back, selected_code-back}
use Rattle.table.proofs.CodeLaws.{age-back, age_octet-back, ages-fit, flag-back, flag_octet-back, flag-within, receive-within, periodic-within, mux-within, selected-within}
use Rattle.port.specs.Range.{age_in_range, ages_in_range, values_in_range, port_in_range}
use Rattle.port.proofs.RangeLaws.{ranged-values, wait-fits, ranged}
use Rattle.table.specs.Range.{codes_in_range, record_in_range}
use Rattle.table.proofs.RangeLaws.{own-fits, own-octets, timers-octets, ranged-octets}
use mathlib.Core.Bool.{Bool, true}
use Rattle.frame.specs.declared.state.PortState.{PortState}
use Rattle.machine.specs.declared.states.Phase.{Phase}
use Rattle.machine.specs.declared.states.Line.{Line}

-- an octet of the partner block in force is the record's
pub in_partner : (l : List ℕ) (k : ℕ) → k < 15 → get_or (part 42 57 l) k 0 ≡ get_or l (42 + k) 0
in_partner l k h = get_or-take 15 (drop 42 l) k 0 h ∙ get_or-drop 42 l k 0

pub encoded-length : (p : Port) → length (encoded p) ≡ record_size
unfolding encoded
encoded-length p = refl

-- record to octets to record, where the wait timer fits its one octet and the ages are in range
record_back : (p : Port) → p.timers.wait.0 < 256 → ages_in_range p.ages ≡ true → decoded (encoded p) ≡ p
unfolding encoded decoded ages_in_range
record_back p h e =
    let first = both (age_in_range p.ages.first) _ e in
    let second = both (age_in_range p.ages.second) _ first.1 in
    let wait : p.timers.wait.0 % 256 ≡ p.timers.wait.0 = omega arith in
    λ i. record {
      phase = record {
        receive = receive-back p.phase.receive i;
        periodic = periodic-back p.phase.periodic i;
        mux = mux-back p.phase.mux i;
        selected = selected-back p.phase.selected i;
      };
      aggregator = p.aggregator;
      ntt = flag-back p.ntt i;
      line = record { up = flag-back p.line.up i; full = flag-back p.line.full i };
      actor = port-state-back p.actor i;
      timers = record {
        current = record { 0 = number-back p.timers.current.0 i };
        periodic = record { 0 = number-back p.timers.periodic.0 i };
        wait = record { 0 = wait i };
      };
      ages = record { first = age-back p.ages.first first.0 i; second = age-back p.ages.second second.0 i; third = age-back p.ages.third second.1 i };
      own = record {
        address = record {
          high = number-back p.own.address.high i;
          middle = number-back p.own.address.middle i;
          low = number-back p.own.address.low i;
        };
        key = number-back p.own.key i;
        priority = number-back p.own.priority i;
        default = block_back p.own.default i;
      };
      partner = block_back p.partner i;
    }

-- ---- octets to record to octets

-- the 15 octets from a on, from the block there
blocks_back : (a : ℕ) (l : List ℕ) → Octets l → a + 15 ≤ length l → block_octets (block_of (take 15 (drop a l))) ≡ spread a 15 l
blocks_back a l o h =
    block_octets-back (take 15 (drop a l)) (length-take-le 15 (drop a l) (simp length-drop (omega arith))) (take-octets 15 (drop a l) (drop-octets a l o))
    ∙ sym (spread-part a 15 l h)

-- octets in range are those of the record that they tell of
pub record_octets-back : (count : ℕ) (l : List ℕ) → length l ≡ record_size → Octets l → record_in_range count l ≡ true → encoded (decoded l) ≡ l
unfolding encoded decoded
record_octets-back count l n o e =
    let s = (ranged-octets count l e).codes in
    let wait : get_or l 13 0 % 256 ≡ get_or l 13 0 = omega (arith, o 13) in
    let default = blocks_back 27 l o (omega arith) in
    let partner = blocks_back 42 l o (omega arith) in
    (λ i.
    (receive_code-back (get_or l 0 0) s.receive i
    ∷ periodic_code-back (get_or l 1 0) s.periodic i
    ∷ mux_code-back (get_or l 2 0) s.mux i
    ∷ selected_code-back (get_or l 3 0) s.selected i
    ∷ get_or l 4 0
    ∷ flag_octet-back (get_or l 5 0) s.ntt i
    ∷ flag_octet-back (get_or l 6 0) s.up i
    ∷ flag_octet-back (get_or l 7 0) s.full i
    ∷ octet-back (get_or l 8 0) (o 8) i
    ∷ first_back l o 9 i ∷ second_back l o 9 i
    ∷ first_back l o 11 i ∷ second_back l o 11 i
    ∷ wait i
    ∷ age_octet-back (get_or l 14 0) i ∷ age_octet-back (get_or l 15 0) i ∷ age_octet-back (get_or l 16 0) i
    ∷ first_back l o 17 i ∷ second_back l o 17 i
    ∷ first_back l o 19 i ∷ second_back l o 19 i
    ∷ first_back l o 21 i ∷ second_back l o 21 i
    ∷ first_back l o 23 i ∷ second_back l o 23 i
    ∷ first_back l o 25 i ∷ second_back l o 25 i
    ∷ (default i ++ partner i)))
    ∙ spread-all l record_size n

-- ---- in range

-- record to octets to record
pub port-back : (count : ℕ) (p : Port) → port_in_range count p ≡ true → decoded (encoded p) ≡ p
port-back count p e = let r = ranged count p e in record_back p (wait-fits p.timers r.timers) r.ages

-- a record in range has octets in range
pub encoded_in_range : (count : ℕ) (p : Port) → port_in_range count p ≡ true → record_in_range count (encoded p) ≡ true
unfolding record_in_range codes_in_range encoded
encoded_in_range count p e =
    both_true
    (both_true (receive-within p.phase.receive)
    (both_true (periodic-within p.phase.periodic)
    (both_true (mux-within p.phase.mux)
    (both_true (selected-within p.phase.selected)
    (both_true (flag-within p.ntt) (both_true (flag-within p.line.up) (flag-within p.line.full)))))))
    (ap (values_in_range count) (port-back count p e) ∙ ranged-values count p e)

-- octets in range tell of a record in range
pub decoded_in_range : (count : ℕ) (l : List ℕ) → Octets l → record_in_range count l ≡ true → port_in_range count (decoded l) ≡ true
unfolding port_in_range decoded
decoded_in_range count l o e =
    both_true (ranged-octets count l e).values
    (both_true (own-fits (own_in l) l o refl refl refl (part-fits 27 42 l o)) (part-fits 42 57 l o))

-- ---- octets

phase-octets : (h : Phase) → Octets (phase_octets h)
phase-octets h =
    octets_of_lem (phase_octets h) (
      small 0 (receive_code h.receive) 5 (receive-within h.receive) (omega arith),
      (
        small 0 (periodic_code h.periodic) 3 (periodic-within h.periodic) (omega arith),
        (
          small 0 (mux_code h.mux) 4 (mux-within h.mux) (omega arith),
          (small 0 (selected_code h.selected) 1 (selected-within h.selected) (omega arith), tt),
        ),
      ),
    )

status_octets_lem : (aggregator : ℕ) (ntt : Bool) (line : Line) (actor : PortState) → aggregator < 256 → Octets (status_octets aggregator ntt line actor)
status_octets_lem aggregator ntt line actor h =
    octets_of_lem (status_octets aggregator ntt line actor) (
      h,
      (
        small 0 (flag_octet ntt) 1 (flag-within ntt) (omega arith),
        (
          small 0 (flag_octet line.up) 1 (flag-within line.up) (omega arith),
          (small 0 (flag_octet line.full) 1 (flag-within line.full) (omega arith), (octet-le actor, tt)),
        ),
      ),
    )

-- every element of a record's octets is an octet
pub encoded-octets : (count : ℕ) (p : Port) → count < 256 → port_in_range count p ≡ true → Octets (encoded p)
unfolding encoded
encoded-octets count p h e =
    let r = ranged count p e in
    let young = ages-fit p.ages r.ages in
    let l₄ = own_octets p.own ++ block_octets p.partner in
    let l₃ = ages_octets p.ages ++ l₄ in
    let l₂ = timers_octets p.timers ++ l₃ in
    let l₀ = status_octets p.aggregator p.ntt p.line p.actor in
    append-octets (phase_octets p.phase) (l₀ ++ l₂) (phase-octets p.phase)
    (append-octets l₀ l₂ (status_octets_lem p.aggregator p.ntt p.line p.actor (small 1 p.aggregator count r.aggregator h))
    (append-octets (timers_octets p.timers) l₃ (timers-octets p.timers r.timers)
    (append-octets (ages_octets p.ages) l₄ (octets_of_lem (ages_octets p.ages) (young.0, (young.1, (young.2, tt))))
    (append-octets (own_octets p.own) (block_octets p.partner) (own-octets p.own r.own) (block-octets p.partner r.partner)))))
