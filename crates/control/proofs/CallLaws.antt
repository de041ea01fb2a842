-- What the first two tests found fixes the rest of a call's answer; a refusal leaves table and buffer as they came, and an accepted call
-- has passed its tests and leaves what it changes. By cases on the tests and on the answer. Assumes nothing.
use Prim.Native.Nat.{ℕ, ◌-◌, ◌≤◌, ◌<◌}
use mathlib.Core.Path.{◌≡◌, refl, sym, ap, ◌∙◌}
use mathlib.Core.Bool.{Bool, true, false, cond, ◌&&◌, ◌||◌, false≢true}
use mathlib.Core.List.{List}
use native.Mathlib.Omega.{arith}
use lib.ListN.{length}
use Rattle.octets.proofs.RangeLaws.{within-true, both}
use lib.Dec.{ltb}
use Rattle.std.specs.Prelude.{Result, Ok, Err, is_ok, IsErrAnd}
use Rattle.frame.specs.declared.class.Kind.TheVariants as kind
use Rattle.frame.specs.Class.{Class, class_of, frame_size}
use Rattle.frame.proofs.ClassLaws.{passes, passed-whole}
use Rattle.machine.specs.declared.states.Line.{Line}
use Rattle.machine.specs.declared.states.Mux.{Mux}
use Rattle.table.specs.State.{State}
use Rattle.table.specs.Table.{table_in_range, count_in, port_at}
use Rattle.machine.specs.Mux.{collects, distributes}
use Rattle.control.specs.declared.answer.Accepted.TheVariants.{Done, Lacpdu, Marker}
use Rattle.control.specs.declared.answer.Reason.{Reason}
use Rattle.control.specs.declared.answer.Reason.TheVariants as reason
use Rattle.control.specs.Answer.{Answer, is_number, on_port, found, frame_answer, with_room}
use Rattle.control.specs.Call.{Call, receive}
use Rattle.control.specs.After.{answer, unless, sent_for, changed_by, after, buffer_of, written_by, outgoing}
use Rattle.control.specs.Accepted.{accepted, is_lacpdu}

-- ---- variants are apart, and give back what they carry

apart : {A : Type 0} {r : Reason} {i : ℕ} → ◌≡◌ {A = Result ℕ Reason} (Err r) (Ok i) → A
apart e = absurd (false≢true (ap is_ok e))

abbrev answered : Result ℕ Reason → Answer → Answer
answered (Err r) rest = Err r
answered (Ok i) rest = rest

abbrev at : Result ℕ Reason → ℕ
at (Err r) = 0
at (Ok i) = i

-- ---- what the first two tests found

module _ (t : List ℕ) (n : ℕ) where
  answered-on : (rest : Answer) → on_port t n rest ≡ answered (found t n) rest
  unfolding found
  answered-on rest = by (table_in_range t) (is_number t n)
    where
      by : (a b : Bool) → cond a (cond b rest (Err reason.Number)) (Err reason.Table)
          ≡ answered (cond a (cond b (Ok (n - 1)) (Err reason.Number)) (Err reason.Table)) rest
      by true true = refl
      by true false = refl
      by false b = refl

  pub found-refused : {r : Reason} → found t n ≡ Err r → (rest : Answer) → on_port t n rest ≡ Err r
  found-refused e rest = answered-on rest ∙ ap (λ (f : Result ℕ Reason). answered f rest) e

  pub found-answers : {i : ℕ} → found t n ≡ Ok i → (rest : Answer) → on_port t n rest ≡ rest
  found-answers e rest = answered-on rest ∙ ap (λ (f : Result ℕ Reason). answered f rest) e

  pub found-table : {i : ℕ} → found t n ≡ Ok i → table_in_range t ≡ true
  unfolding found
  found-table {i} e = by (table_in_range t) (is_number t n) e
    where
      by : (a b : Bool) → cond a (cond b (Ok (n - 1)) (Err reason.Number)) (Err reason.Table) ≡ Ok i → a ≡ true
      by true b h = refl
      by false b h = apart h

  found_number : {i : ℕ} → found t n ≡ Ok i → is_number t n ≡ true
  unfolding found
  found_number {i} e = by (table_in_range t) (is_number t n) e
    where
      by : (a b : Bool) → cond a (cond b (Ok (n - 1)) (Err reason.Number)) (Err reason.Table) ≡ Ok i → b ≡ true
      by true true h = refl
      by true false h = apart h
      by false b h = apart h

  pub found-index : {i : ℕ} → found t n ≡ Ok i → i ≡ n - 1
  unfolding found
  found-index {i} e = by (table_in_range t) (is_number t n) e
    where
      by : (a b : Bool) → cond a (cond b (Ok (n - 1)) (Err reason.Number)) (Err reason.Table) ≡ Ok i → i ≡ n - 1
      by true true h = sym (ap at h)
      by true false h = apart h
      by false b h = apart h

  pub found_within : {i : ℕ} → found t n ≡ Ok i → (1 ≤ n) × (n ≤ count_in t)
  found_within e = within-true 1 n (count_in t) (found_number e)

  pub found_inside : {i : ℕ} → found t n ≡ Ok i → i < count_in t
  found_inside {i} e =
      let is : i ≡ n - 1 = found-index e in
      let some : 1 ≤ n = (found_within e).0 in
      let most : n ≤ count_in t = (found_within e).1 in
      omega arith

-- ---- a refusal, and an accepted call

module _ (c : Call) (t : List ℕ) where
  pub refused-table : {r : Reason} → answer c t ≡ Err r → after c t ≡ t
  unfolding after
  refused-table e = ap (λ (a : Answer). unless a t (changed_by c t)) e

  pub refused-buffer : {r : Reason} → answer c t ≡ Err r → outgoing c t ≡ buffer_of c
  unfolding outgoing
  refused-buffer e = ap (λ (a : Answer). unless a (buffer_of c) (written_by c t)) e

  pub done-table : answer c t ≡ Ok Done → after c t ≡ changed_by c t
  unfolding after
  done-table e = ap (λ (a : Answer). unless a t (changed_by c t)) e

-- a reason that goes up by `?`
pub passed-up : {T E : Type 0} {r : E} (a : Result T E) → IsErrAnd a (λ s. s ≡ r) → a ≡ Err r
passed-up (Ok x) h = absurd h
passed-up (Err s) h = ap Err h

-- ---- a frame that is done is whole

abbrev is_done : Answer → Bool
is_done (Ok Done) = false
is_done (Ok Lacpdu) = true
is_done (Ok Marker) = true
is_done (Err r) = false

done-passes : (k : Class) (line : Line) (m : Mux) → is_done (frame_answer k line m) ≡ true → passes k ≡ true
done-passes (Ok kind.Lacpdu) line m h = refl
done-passes (Ok kind.Marker) line m h = refl
done-passes (Ok kind.Response) line m h = refl
done-passes (Err r) line m h = h

pub lacpdu-whole : (l : List ℕ) (line : Line) (m : Mux) → frame_answer (class_of l) line m ≡ Ok Lacpdu → frame_size ≤ length l
lacpdu-whole l line m e = passed-whole l (done-passes (class_of l) line m (ap is_done e))

pub marker-whole : (l : List ℕ) (line : Line) (m : Mux) → frame_answer (class_of l) line m ≡ Ok Marker → frame_size ≤ length l
marker-whole l line m e = passed-whole l (done-passes (class_of l) line m (ap is_done e))

-- ---- a received frame sends what its answer says, refused or not

pub frame-sent : (a : Answer) (s : State) (i : ℕ) (frame out : List ℕ) → sent_for a s i frame out ≡ unless a out (sent_for a s i frame out)
frame-sent (Ok Done) s i frame out = refl
frame-sent (Ok Lacpdu) s i frame out = refl
frame-sent (Ok Marker) s i frame out = refl
frame-sent (Err r) s i frame out = refl

-- ---- what an accepted call has passed

pub if-accepted : (b : Bool) (a : Answer) (r : Reason) → accepted (cond b a (Err r)) ≡ true → (b ≡ true) × (accepted a ≡ true)
if-accepted true a r e = (refl, e)
if-accepted false a r e = absurd (false≢true e)

-- a port number that is none too high, counted from 0
pub record OnPort (t : List ℕ) (n : ℕ) : Type 0 where
  pub some : 1 ≤ n
  pub below : n - 1 < count_in t

pub on-port : (t : List ℕ) (n : ℕ) (rest : Answer) → accepted (on_port t n rest) ≡ true → OnPort t n × (accepted rest ≡ true)
on-port t n rest e =
    let a = if-accepted (table_in_range t) (cond (is_number t n) rest (Err reason.Number)) reason.Table e in
    let b = if-accepted (is_number t n) rest reason.Number a.1 in
    let w = within-true 1 n (count_in t) b.0 in
    (record { some = w.0; below = less n (count_in t) w.0 w.1 }, b.1)
  where
    less : (n c : ℕ) → 1 ≤ n → n ≤ c → n - 1 < c
    less n c a b = omega arith

-- the memory of an accepted call on a port is a table
pub in_table : (t : List ℕ) (n : ℕ) (rest : Answer) → accepted (on_port t n rest) ≡ true → table_in_range t ≡ true
in_table t n rest e = (if-accepted (table_in_range t) (cond (is_number t n) rest (Err reason.Number)) reason.Table e).0

-- it names a port by its number
pub numbered : (t : List ℕ) (n : ℕ) (rest : Answer) → accepted (on_port t n rest) ≡ true → is_number t n ≡ true
numbered t n rest e =
    let a = if-accepted (table_in_range t) (cond (is_number t n) rest (Err reason.Number)) reason.Table e in
    (if-accepted (is_number t n) rest reason.Number a.1).0

-- which port an accepted call on a port names
pub named : (t : List ℕ) (n : ℕ) (rest : Answer) → accepted (on_port t n rest) ≡ true → n - 1 < count_in t
named t n rest e = (on-port t n rest e).0.below

if-lacpdu : (b : Bool) (a : Answer) (r : Reason) → is_lacpdu (cond b a (Err r)) ≡ true → (b ≡ true) × (is_lacpdu a ≡ true)
if-lacpdu true a r e = (refl, e)
if-lacpdu false a r e = absurd (false≢true e)

unless-lacpdu : (b : Bool) (a : Answer) (r : Reason) → is_lacpdu (cond b (Err r) a) ≡ true → is_lacpdu a ≡ true
unless-lacpdu true a r e = absurd (false≢true e)
unless-lacpdu false a r e = e

no_marker : (b : Bool) (r : Reason) → is_lacpdu (cond b (Ok Marker) (Err r)) ≡ true → ⊥
no_marker true r e = false≢true e
no_marker false r e = false≢true e

frame-up : (k : Class) (l : Line) (m : Mux) → is_lacpdu (frame_answer k l m) ≡ true → (l.up ≡ true) × (l.full ≡ true)
frame-up (Ok kind.Lacpdu) l m e = both l.up l.full (if-lacpdu (l.up && l.full) (Ok Lacpdu) reason.Disabled e).0
frame-up (Ok kind.Marker) l m e = absurd (no_marker (collects m || distributes m) reason.NotCollecting e)
frame-up (Ok kind.Response) l m e = absurd (false≢true e)
frame-up (Err r) l m e = absurd (false≢true e)

-- an accepted LACPDU: the port is up at full duplex
pub record Received (t : List ℕ) (n : ℕ) : Type 0 where
  pub below : n - 1 < count_in t
  pub up : (port_at t (n - 1)).line.up ≡ true
  pub full : (port_at t (n - 1)).line.full ≡ true

pub received-on : (t : List ℕ) (n : ℕ) (frame out : List ℕ) → answer (receive n frame out) t ≡ Ok Lacpdu → Received t n
unfolding answer
received-on t n frame out e =
    let p = port_at t (n - 1) in
    let rest = with_room out (frame_answer (class_of frame) p.line p.phase.mux) in
    let a = if-lacpdu (table_in_range t) (cond (is_number t n) rest (Err reason.Number)) reason.Table (ap is_lacpdu e) in
    let b = if-lacpdu (is_number t n) rest reason.Number a.1 in
    let c = unless-lacpdu (ltb (length out) frame_size) (frame_answer (class_of frame) p.line p.phase.mux) reason.Buffer b.1 in
    let w = frame-up (class_of frame) p.line p.phase.mux c in
    record { below = named t n rest (ap accepted e); up = w.0; full = w.1 }

unless-accepted : (a : Answer) (t u : List ℕ) → accepted a ≡ true → unless a t u ≡ u
unless-accepted (Ok a) t u e = refl
unless-accepted (Err r) t u e = absurd (false≢true e)

-- what an accepted call leaves
pub after-accepted : (t : List ℕ) (c : Call) → accepted (answer c t) ≡ true → after c t ≡ changed_by c t
unfolding after
after-accepted t c e = unless-accepted (answer c t) t (changed_by c t) e
