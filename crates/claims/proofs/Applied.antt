-- The theorems applied to the run of the witness, whose facts meet their premises. Assumes nothing.
use Prim.Native.Nat.{ℕ, zero, suc, ◌<◌}
use mathlib.Core.Path.{◌≡◌, refl, sym, ap, ◌∙◌}
use mathlib.Core.Bool.{Bool, true, false, not, ◌&&◌, ◌||◌, and-eq-true_iff}
use mathlib.Core.List.{List, [], ◌∷◌, map}
use native.Mathlib.Omega.{arith}
use lib.ListN.{get_or}
use lib.Dec.{eqb}
use borrow.Author.Tests.{eqb-true, not-true}
use Rattle.frame.specs.Block.{block_fits}
use Rattle.frame.specs.Class.{frame_size}
use Rattle.frame.specs.Wire.{zeros}
use Rattle.port.specs.Range.{own_fits}
use Rattle.port.specs.Compared.{compared}
use Rattle.table.specs.Range.{header_fits}
use Rattle.table.specs.Table.{count_in, ports, port_at, ours}
use Rattle.table.proofs.TableLaws.{in_range}
use Rattle.trunk.specs.Selection.{shares_group}
use Rattle.control.specs.Call.{Call, receive, tick, line, configure}
use Rattle.control.specs.After.{answer, after}
use Rattle.claims.specs.Run.{Takes, AllTake, run, Made}
use Rattle.claims.specs.Locality.{touches, Apart}
use Rattle.claims.specs.LivePartner.{ends, NoneEnds}
use Rattle.claims.specs.ThreeSends.{ticks_in, NoneStarts}
use Rattle.claims.specs.Applied.{Applied}
use Rattle.claims.specs.Speakers.{system, no_delay, settings, keyed_settings, down_full}
use Rattle.claims.specs.Witness.{hears, said, ticks, memory, begun, trunk, other, parts, parted, narrowed, fallen, rekeyed, three_groups, elsewhere, plugs_over, plugged_over, two_lags, linked, question, further, since, lent, every, apart_from, is_apart, none_ends}
use Rattle.claims.proofs.Calls.{made-start, made-call, never_stuck}
use Rattle.claims.proofs.Counts.{call-count}
use Rattle.claims.proofs.Locality.{locality}
use Rattle.claims.proofs.LivePartner.{live-partner}
use Rattle.claims.proofs.Carries.{waiting_for_someone, register-adds-up}
use Rattle.claims.proofs.Moves.{one-aggregator, moved-forgets}
use Rattle.claims.proofs.Unseen.{no_move_unseen}
use Rattle.claims.proofs.Told.{beside-true}
use Rattle.claims.proofs.Thinner.{thinner_for_a_reason, thinner-told}
use Rattle.claims.proofs.Causes.{causes}
use Rattle.claims.specs.Causes.{held_up}
use Rattle.claims.proofs.Spoke.{lacpdu-is, partner-spoke}
use Rattle.claims.proofs.Witness.{is_octet, octets, received-takes, ticks-take, witness}

-- ---- the tests of the witness say what the theorems ask for

none-ends : (t : List ℕ) (i : ℕ) (cs : List Call) → none_ends t i cs ≡ true → NoneEnds t i cs
unfolding none_ends
none-ends t i [] e = tt
none-ends t i (c ∷ cs) e =
    let h = (and-eq-true_iff (not (ends c t i)) (none_ends (after c t) i cs)).0 e in
    (not-true (ends c t i) h.0, none-ends (after c t) i cs h.1)

-- one of three
of_three : (P : ℕ → Type 0) → P 0 → P 1 → P 2 → (k : ℕ) → k < 3 → P k
of_three P a b c zero h = a
of_three P a b c (suc zero) h = b
of_three P a b c (suc (suc zero)) h = c
of_three P a b c (suc (suc (suc k))) h = absurd (omega arith)

apart-is : (c : Call) (t : List ℕ) (j k : ℕ) → apart_from c t j k ≡ true → touches c t k ≡ true → Apart c t j k
apart-is c t j k e h =
    let b : Bool = not (shares_group (ours t) (map compared (ports t)) j k) in
    let a : Bool = not (shares_group (ours t) (map compared (ports (after c t))) j k) in
    let g = (and-eq-true_iff b a).0 (ap (λ (x : Bool). not x || (b && a)) (sym h) ∙ e) in
    record {
      before = not-true (shares_group (ours t) (map compared (ports t)) j k) g.0;
      then = not-true (shares_group (ours t) (map compared (ports (after c t))) j k) g.1;
    }

all_apart : (c : Call) (t : List ℕ) (j : ℕ) → is_apart c t j ≡ true → (k : ℕ) → k < count_in t → touches c t k ≡ true → Apart c t j k
unfolding every
all_apart c t j e k h =
    let x = (and-eq-true_iff (eqb (count_in t) 3) _).0 e in
    let three : k < 3 = rw (eqb-true (count_in t) 3 x.0) at h in
    let a = (and-eq-true_iff (apart_from c t j 0) _).0 x.1 in
    let b = (and-eq-true_iff (apart_from c t j 1) _).0 a.1 in
    let d = (and-eq-true_iff (apart_from c t j 2) _).0 b.1 in
    of_three (λ (m : ℕ). touches c t m ≡ true → Apart c t j m) (apart-is c t j 0 a.0) (apart-is c t j 1 b.0) (apart-is c t j 2 d.0) k three

-- ---- what the calls of the run are given, and that its tables are made

made-run : (t : List ℕ) → Made t → (cs : List Call) → AllTake cs → Made (run t cs)
unfolding run
made-run t m [] k = m
made-run t m (c ∷ cs) k = made-run (after c t) (made-call t m c k.0) cs k.1

frame-takes : (n : ℕ) (frame : List ℕ) → every is_octet frame ≡ true → Takes (receive n frame (zeros frame_size))
unfolding every
frame-takes n frame e = (octets frame e, octets (zeros frame_size) refl)

begun-made : Made begun
unfolding begun every header_fits own_fits block_fits
begun-made = made-start memory (octets memory refl) 3 (system 9) no_delay (settings true 0) (refl, refl) witness.started

linked-made : Made linked
unfolding own_fits block_fits
linked-made = made-run begun begun-made _ (tt, (tt, (tt, (refl, tt))))

rekeyed-made : Made rekeyed
unfolding rekeyed own_fits block_fits
rekeyed-made = made-call trunk witness.made (configure 2 (keyed_settings 2 true 0x3C)) refl

three_made : Made three_groups
unfolding three_groups
three_made = made-call rekeyed rekeyed-made (line 1 down_full) tt

lags_made : Made two_lags
unfolding two_lags every
lags_made =
    made-run trunk witness.made _
    (received-takes 1 1 0x3F refl, (received-takes 1 2 0x3F refl, (received-takes 2 3 0x3F refl, ticks-take 10 [] tt)))

held-made : Made held_up
unfolding held_up every
held-made =
    made-run begun begun-made _
    (tt, (tt, (received-takes 1 1 0x3F refl, ticks-take 10 (hears 1 2 0x3F ∷ ticks 10 []) (received-takes 1 2 0x3F refl, ticks-take 10 [] tt))))

since-takes : AllTake since
unfolding every header_fits own_fits block_fits
since-takes =
    let last : AllTake further =
    (frame-takes 1 question refl, (octets lent refl, (tt, (tt, (tt, ((refl, refl), (refl, (tt, (tt, (tt, (tt, tt))))))))))) in
    (received-takes 1 2 0x3F refl, ticks-take 10 _ (received-takes 2 3 0x05 refl, ticks-take 10 further last))

parts-takes : Takes parts
unfolding every
parts-takes = frame-takes 1 other refl

over-takes : Takes plugs_over
unfolding every
over-takes = frame-takes 3 elsewhere refl

count-is : (c : Call) (t : List ℕ) (j : ℕ) → is_apart c t j ≡ true → count_in t ≡ 3
count-is c t j e = eqb-true (count_in t) 3 ((and-eq-true_iff (eqb (count_in t) 3) _).0 e).0

trunk-count : (i : ℕ) → i < 3 → i < count_in trunk
trunk-count i h = rw (count-is (hears 1 1 0x3F) trunk 2 witness.apart-received) h

three-count : (i : ℕ) → i < 3 → i < count_in three_groups
three-count i h = rw (count-is plugs_over three_groups 1 witness.apart-displaced) h

parted-made : Made parted
unfolding parted
parted-made = made-call trunk witness.made parts parts-takes

-- ticks are no starts
ticks-only : (n : ℕ) (t : List ℕ) → NoneStarts t (ticks n [])
unfolding ticks
ticks-only zero t = tt
ticks-only (suc n) t = (refl, ticks-only n (after tick t))

nineteen : ticks_in (ticks 19 []) < 20
unfolding ticks ticks_in
nineteen = omega arith

-- ---- the theorems

pub applied : Applied
unfolding parted narrowed fallen rekeyed plugged_over every own_fits block_fits
applied =
    let made = witness.made in
    let moved =
    one-aggregator trunk made parts parts-takes 1 (trunk-count 1 (omega arith))
    (λ e. let was : (port_at trunk 1).aggregator ≡ 1 = ap (λ (l : List ℕ). get_or l 1 0) witness.held in
    let is : (port_at parted 1).aggregator ≡ 2 = ap (λ (l : List ℕ). get_or l 1 0) witness.moved-over in
    let z : ◌≡◌ {A = ℕ} 2 1 = sym is ∙ e ∙ was in absurd (omega arith)) in
    let over = moved-forgets three_groups three_made 3 elsewhere (zeros frame_size) over-takes (lacpdu-is (answer plugs_over three_groups) witness.heard-elsewhere) in
    record {
      received_local = locality trunk made (hears 1 1 0x3F) (received-takes 1 1 0x3F refl) 2 (trunk-count 2 (omega arith)) (all_apart (hears 1 1 0x3F) trunk 2 witness.apart-received);
      fallen_local = locality trunk made (line 1 down_full) tt 2 (trunk-count 2 (omega arith)) (all_apart (line 1 down_full) trunk 2 witness.apart-fallen);
      rekeyed_local =
          locality trunk made (configure 2 (keyed_settings 2 true 0x3C)) refl 2 (trunk-count 2 (omega arith))
          (all_apart (configure 2 (keyed_settings 2 true 0x3C)) trunk 2 witness.apart-rekeyed);
      displaced_local = locality three_groups three_made plugs_over over-takes 1 (three-count 1 (omega arith)) (all_apart plugs_over three_groups 1 witness.apart-displaced);
      live =
          live-partner linked linked-made 1 (said 1 1 0x3F) (zeros frame_size) (received-takes 1 1 0x3F refl)
          (lacpdu-is (answer (hears 1 1 0x3F) linked) witness.heard) since since-takes (none-ends (after (hears 1 1 0x3F) linked) 0 since witness.none-ends);
      held = waiting_for_someone trunk made 2 (trunk-count 2 (omega arith)) (ap (λ (l : List Bool). get_or l 2 true) witness.waiting);
      register = register-adds-up two_lags lags_made;
      moved = moved;
      waits-on =
          (no_move_unseen parted parted-made (ticks 19 []) (ticks-take 19 [] tt) (ticks-only 19 parted) nineteen 1
          (rw (call-count trunk (never_stuck trunk made) parts) (trunk-count 1 (omega arith)))).waits-on moved.begins;
      forgotten = (over 0 (three-count 0 (omega arith)) (λ e. omega (arith, e))).displaced (ap (λ (l : List Bool). get_or l 0 false) witness.displaced);
      resettled = (over 1 (three-count 1 (omega arith)) (λ e. omega (arith, e))).others (ap (λ (l : List Bool). get_or l 1 true) witness.displaced);
      thinner =
          thinner_for_a_reason trunk made parts parts-takes 1 (trunk-count 1 (omega arith)) (ap (λ (l : List Bool). get_or l 1 false) witness.carrying-trunk)
          (ap (λ (l : List Bool). get_or l 1 true) witness.thinner);
      thinner-by-one =
          thinner_for_a_reason trunk made (hears 1 2 0x0F) (received-takes 1 2 0x0F refl) 1 (trunk-count 1 (omega arith))
          (ap (λ (l : List Bool). get_or l 1 false) witness.carrying-trunk) (ap (λ (l : List Bool). get_or l 1 true) witness.thinner-by-one);
      thinned =
          thinner-told trunk made (hears 1 2 0x0F) (received-takes 1 2 0x0F refl) 1 (trunk-count 1 (omega arith))
          (ap (λ (l : List Bool). get_or l 1 false) witness.carrying-trunk) (ap (λ (l : List Bool). get_or l 1 true) witness.thinner-by-one);
      behind = (beside-true held_up held-made 0 (in_range held_up (never_stuck held_up held-made).ranged).least).held causes.held_cause;
      spoke = partner-spoke trunk made 0 (trunk-count 0 (omega arith)) (ap (λ (l : List Bool). get_or l 0 true) witness.spoken);
    }
