-- What the rules say of answers, test by test in their order, and of what is left alone, in other words than the definitions. Assumes nothing.
use Prim.Native.Nat.{ℕ, ◌-◌, ◌≤◌, ◌<◌}
use mathlib.Core.Path.{◌≡◌, refl, sym, ap, ◌∙◌}
use mathlib.Core.Logic.{◌⊎◌, inl, inr}
use mathlib.Core.Bool.{Bool, true, false, cond, not, or-true, and-false}
use mathlib.Core.List.{List, [], ◌∷◌, ◌++◌}
use native.Mathlib.Omega.{arith}
use lib.ListN.{length, drop}
use lib.Dec.{ltb}
use borrow.Author.Tests.{lt-ltb, ltb-true}
use Rattle.octets.specs.Octets.{Octets, within}
use Rattle.octets.proofs.RangeLaws.{within-is, within-true}
use Rattle.std.specs.Prelude.{Ok, Err}
use Rattle.frame.specs.declared.class.Kind.TheVariants as kind
use Rattle.frame.specs.Class.{class_of}
use Rattle.machine.specs.declared.states.Line.{Line}
use Rattle.machine.specs.declared.states.Mux.{Mux}
use Rattle.machine.specs.declared.states.Mux.TheVariants.{Detached, Waiting, Attached, Collecting, Distributing}
use Rattle.machine.specs.Ages.{barred}
use Rattle.port.specs.declared.record.Port.{Port}
use Rattle.port.specs.Transmit.{due}
use Rattle.settings.specs.declared.Settings.{Settings}
use Rattle.settings.proofs.RuleLaws.{unlawful}
use Rattle.report.specs.Sets.{sets_of}
use Rattle.table.specs.Table.{table_in_range, count_in, ports, port_at, state_of, octets_of, on_octets}
use Rattle.table.proofs.TableLaws.{octets-back}
use Rattle.work.specs.Work.{written_over}
use Rattle.control.specs.declared.answer.Accepted.TheVariants.{Done, Lacpdu, Marker}
use Rattle.control.specs.declared.answer.Reason.{Reason}
use Rattle.control.specs.declared.answer.Reason.TheVariants as reason
use Rattle.control.specs.Answer.{Answer, length_sent, is_number, on_port, with_room, with_default, frame_answer, due_answer, start_answer}
use Rattle.control.specs.Accepted.{accepted}
use Rattle.control.specs.Call.{receive, report, aggregator}
use Rattle.control.specs.After.{answer, after, unless, effect, after_frame, sent_for, written_by, outgoing}
use Rattle.control.specs.Report.{port_report, aggregator_report, no_sets, answered_with, sets_told}
use Rattle.port.specs.Absent.{no_port}
use Rattle.control.proofs.CallLaws.{in_table, after-accepted}

-- ---- the order of the tests (R2.14): whatever else is wrong, or right

-- R2.1
pub table-first : (t : List ℕ) (n : ℕ) (rest : Answer) → table_in_range t ≡ false → on_port t n rest ≡ Err reason.Table
table-first t n rest e = ap (λ (b : Bool). cond b (cond (is_number t n) rest (Err reason.Number)) (Err reason.Table)) e

-- R2.2: 0, or above the count
beyond : (n c : ℕ) → (n ≡ 0) ⊎ (c < n) → within 1 n c ≡ false
beyond n c (inl e) = unwithin (within 1 n c) refl
  where
    unwithin : (b : Bool) → within 1 n c ≡ b → within 1 n c ≡ false
    unwithin true x = absurd (omega (arith, (within-true 1 n c x).0, e))
    unwithin false x = x
beyond n c (inr h) = unwithin (within 1 n c) refl
  where
    unwithin : (b : Bool) → within 1 n c ≡ b → within 1 n c ≡ false
    unwithin true x = absurd (omega (arith, (within-true 1 n c x).1, h))
    unwithin false x = x

pub number-second : (t : List ℕ) (n : ℕ) (rest : Answer) → table_in_range t ≡ true → (n ≡ 0) ⊎ (count_in t < n) → on_port t n rest ≡ Err reason.Number
number-second t n rest e h =
    ap (λ (b : Bool). cond b (cond (is_number t n) rest (Err reason.Number)) (Err reason.Table)) e
    ∙ ap (λ (b : Bool). cond b rest (Err reason.Number)) (beyond n (count_in t) h)

-- a number of a port is let through
pub number-passes : (t : List ℕ) (n : ℕ) (rest : Answer) → table_in_range t ≡ true → 1 ≤ n → n ≤ count_in t → on_port t n rest ≡ rest
number-passes t n rest e some most =
    ap (λ (b : Bool). cond b (cond (is_number t n) rest (Err reason.Number)) (Err reason.Table)) e
    ∙ ap (λ (b : Bool). cond b rest (Err reason.Number)) (within-is 1 n (count_in t) some most)

-- R2.3: under 124 octets, and no others
pub buffer-third : (out : List ℕ) (rest : Answer) → length out < 124 → with_room out rest ≡ Err reason.Buffer
buffer-third out rest h = ap (λ (b : Bool). cond b (Err reason.Buffer) rest) (lt-ltb (length out) 124 h)

pub buffer-passes : (out : List ℕ) (rest : Answer) → 124 ≤ length out → with_room out rest ≡ rest
buffer-passes out rest h = ap (λ (b : Bool). cond b (Err reason.Buffer) rest) (not-below (ltb (length out) 124) refl)
  where
    not-below : (b : Bool) → ltb (length out) 124 ≡ b → ltb (length out) 124 ≡ false
    not-below true x = absurd (omega (arith, ltb-true (length out) 124 x, h))
    not-below false x = x

-- R2.4
pub default-fourth : (s : Settings) (rest : Answer) → (s.default.state.collecting ≡ s.default.state.synchronization → ⊥)
    → with_default s rest ≡ Err reason.Default
default-fourth s rest e = ap (λ (b : Bool). cond b rest (Err reason.Default)) (unlawful s e)

-- R2.5: an LACPDU is taken at a port that is up at full duplex, and at no other
pub lacpdu-last : (l : Line) (m : Mux) → (l.up ≡ false) ⊎ (l.full ≡ false) → frame_answer (Ok kind.Lacpdu) l m ≡ Err reason.Disabled
lacpdu-last l m (inl e) = rw e
lacpdu-last l m (inr e) = rw (e, and-false l.up)

pub lacpdu-passes : (l : Line) (m : Mux) → l.up ≡ true → l.full ≡ true → frame_answer (Ok kind.Lacpdu) l m ≡ Ok Lacpdu
lacpdu-passes l m u f = rw (u, f)

-- R2.9: a Marker is answered in COLLECTING and in DISTRIBUTING, and nowhere else, whatever the line is
pub record MarkerAnswers (l : Line) : Type 0 where
  pub detached : frame_answer (Ok kind.Marker) l Detached ≡ Err reason.NotCollecting
  pub waiting : frame_answer (Ok kind.Marker) l Waiting ≡ Err reason.NotCollecting
  pub attached : frame_answer (Ok kind.Marker) l Attached ≡ Err reason.NotCollecting
  pub collecting : frame_answer (Ok kind.Marker) l Collecting ≡ Ok Marker
  pub distributing : frame_answer (Ok kind.Marker) l Distributing ≡ Ok Marker

pub marker-last : (l : Line) → MarkerAnswers l
marker-last l = record { detached = refl; waiting = refl; attached = refl; collecting = refl; distributing = refl }

-- R2.12
pub response-last : (l : Line) (m : Mux) → frame_answer (Ok kind.Response) l m ≡ Err reason.Response
response-last l m = refl

-- R2.10 before R2.11
pub nothing-due : (p : Port) → (p.ntt ≡ false) ⊎ ((p.line.up ≡ false) ⊎ (p.line.full ≡ false)) → due_answer (due p) ≡ Err reason.NothingToSend
unfolding due
nothing-due p (inl e) = rw e
nothing-due p (inr (inl e)) = rw (e, or-true (not p.ntt))
nothing-due p (inr (inr e)) = rw (e, or-true (not p.line.up), or-true (not p.ntt))

pub barred-due : (p : Port) → p.ntt ≡ true → p.line.up ≡ true → p.line.full ≡ true → barred p.ages ≡ true → due_answer (due p) ≡ Err reason.Barred
unfolding due
barred-due p n u f e = rw (n, u, f, e)

pub lacpdu-due : (p : Port) → p.ntt ≡ true → p.line.up ≡ true → p.line.full ≡ true → barred p.ages ≡ false → due_answer (due p) ≡ Ok Done
unfolding due
lacpdu-due p n u f e = rw (n, u, f, e)

-- R2.15: a start looks at nothing but the memory's length
pub start_blind : (t u : List ℕ) (count : ℕ) (s : Settings) → length t ≡ length u → start_answer t count s ≡ start_answer u count s
start_blind t u count s e = rw e

-- ---- what is left alone

-- R2.17: a report leaves the table as it is
kept : (t : List ℕ) → Octets t → (r b : Bool) → table_in_range t ≡ r → unless (cond r (cond b (Ok Done) (Err reason.Number)) (Err reason.Table)) t (octets_of (state_of t)) ≡ t
kept t o true true e = octets-back t e o
kept t o true false e = refl
kept t o false b e = refl

pub port_report-leaves : (t : List ℕ) → Octets t → (n : ℕ) → after (report n) t ≡ t
unfolding after answer effect
port_report-leaves t o n = kept t o (table_in_range t) (is_number t n) refl

pub aggregator_report-leaves : (t : List ℕ) → Octets t → (n : ℕ) → after (aggregator n) t ≡ t
unfolding after answer effect
aggregator_report-leaves t o n = kept t o (table_in_range t) (is_number t n) refl

-- R14.3: so does a Marker
pub marker-leaves : (t : List ℕ) → Octets t → (n : ℕ) (frame out : List ℕ) → answer (receive n frame out) t ≡ Ok Marker → after (receive n frame out) t ≡ t
unfolding answer effect
marker-leaves t o n frame out e =
    let p = port_at t (n - 1) in
    let rest : Answer = with_room out (frame_answer (class_of frame) p.line p.phase.mux) in
    let r : table_in_range t ≡ true = in_table t n rest (ap accepted e) in
    after-accepted t (receive n frame out) (ap accepted e) ∙ ap (λ (a : Answer). on_octets (after_frame a (n - 1) frame) t) e ∙ octets-back t r o

-- R2.18: an accepted LACPDU leaves the buffer, and a frame that is sent leaves what stands after its 124 octets
pub lacpdu-buffer : (t : List ℕ) (n : ℕ) (frame out : List ℕ) → answer (receive n frame out) t ≡ Ok Lacpdu → outgoing (receive n frame out) t ≡ out
unfolding outgoing written_by
lacpdu-buffer t n frame out e = ap (λ (a : Answer). unless a out (sent_for a (state_of t) (n - 1) frame out)) e

past : (xs ys : List ℕ) → drop (length xs) (xs ++ ys) ≡ ys
past [] ys = refl
past (x ∷ xs) ys = past xs ys

pub rest-stays : (frame out : List ℕ) → length frame ≡ 124 → drop 124 (written_over frame out) ≡ drop 124 out
rest-stays frame out e = ap (λ (n : ℕ). drop n (frame ++ drop 124 out)) (sym e) ∙ past frame (drop 124 out)

-- R2.19: a length is told of an answered Marker alone
pub marker-length : length_sent (Ok Marker) ≡ 124
marker-length = refl

pub no_length : (a : Answer) → (a ≡ Ok Marker → ⊥) → length_sent a ≡ 0
no_length (Ok Done) e = refl
no_length (Ok Lacpdu) e = refl
no_length (Ok Marker) e = absurd (e refl)
no_length (Err r) e = refl

-- R2.20: beside a refusal stand constants
pub refused-port : (t : List ℕ) (n : ℕ) (r : Reason) → answer (report n) t ≡ Err r → port_report n t ≡ no_port
unfolding port_report
refused-port t n r e = ap (λ (a : Answer). unless a no_port (port_at t (n - 1))) e

pub refused_sets : (t : List ℕ) (n : ℕ) (r : Reason) → answer (aggregator n) t ≡ Err r → sets_told (aggregator_report n t) ≡ no_sets
unfolding aggregator_report
refused_sets t n r e = ap (λ (a : Answer). sets_told (answered_with a (sets_of n (ports t)))) e
