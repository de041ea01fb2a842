-- Of the five counters of received frames a receive moves one, by one, or none where its answer counts nowhere. Assumes nothing.
use Rattle.std.specs.Prelude.{Ok, Err}
use Prim.Native.Nat.{ℕ, ◌+◌, ◌-◌, ◌*◌, ◌/◌}
use mathlib.Core.Path.{◌≡◌, refl}
use mathlib.Core.Bool.{Bool, true, false, cond, ◌&&◌, ◌||◌, false≢true}
use mathlib.Core.List.{List}
use native.Mathlib.Omega.{arith}
use lib.ListN.{length}
use lib.Dec.{ltb}
use Rattle.frame.specs.declared.class.Kind.TheVariants as kind
use Rattle.frame.specs.declared.class.Refusal.TheVariants.{Foreign, Unknown, Illegal}
use Rattle.frame.specs.Class.{Class, class_of, frame_size}
use Rattle.machine.specs.declared.states.Line.{Line}
use Rattle.machine.specs.declared.states.Mux.{Mux}
use Rattle.machine.specs.Count.{counted}
use Rattle.machine.specs.Mux.{collects, distributes}
use Rattle.table.specs.Table.{table_in_range, port_at}
use Rattle.control.specs.declared.answer.Accepted.TheVariants.{Done, Lacpdu, Marker}
use Rattle.control.specs.declared.answer.Reason.{Reason}
use Rattle.control.specs.declared.answer.Reason.TheVariants as reason
use Rattle.control.specs.Accepted.{accepted}
use Rattle.control.specs.Answer.{Answer, is_number, frame_answer}
use Rattle.control.specs.Call.{receive}
use Rattle.control.specs.After.{answer}
use Rattle.counters.specs.declared.Counters.{Counters}
use Rattle.counters.specs.Counters.{counted_if, is_marker, received, fetched, all_received, heard}

-- the refusals that a receive has
abbrev receives : Reason → Bool
receives reason.Table = true
receives reason.Number = true
receives reason.Buffer = true
receives reason.Default = false
receives reason.Disabled = true
receives (reason.Frame r) = true
receives reason.NotCollecting = true
receives reason.NothingToSend = false
receives reason.Barred = false
receives reason.Response = true

-- the five after it, but for a carry out of 32 bits
pub record Rose (a : Answer) (c : Counters) : Type 0 where
  pub carry : ℕ
  pub is : all_received (received a c) + 4294967296 * carry ≡ all_received c + heard a

module _ (c : Counters) where
  as_lacpdu_lem : Rose (Ok Lacpdu) c
  unfolding received
  as_lacpdu_lem = record { carry = (c.lacpdus + 1) / 4294967296; is = omega arith }

  as_marker_lem : Rose (Ok Marker) c
  unfolding received
  as_marker_lem = record { carry = (c.markers + 1) / 4294967296; is = omega arith }

  as_refused : (r : Reason) → receives r ≡ true → Rose (Err r) c
  unfolding received
  as_refused reason.Table e = record { carry = 0; is = omega arith }
  as_refused reason.Number e = record { carry = 0; is = omega arith }
  as_refused reason.Buffer e = record { carry = 0; is = omega arith }
  as_refused reason.Default e = absurd (false≢true e)
  as_refused reason.Disabled e = record { carry = (c.lacpdus + 1) / 4294967296; is = omega arith }
  as_refused (reason.Frame Foreign) e = record { carry = 0; is = omega arith }
  as_refused (reason.Frame Unknown) e = record { carry = (c.unknown + 1) / 4294967296; is = omega arith }
  as_refused (reason.Frame Illegal) e = record { carry = (c.illegal + 1) / 4294967296; is = omega arith }
  as_refused reason.NotCollecting e = record { carry = (c.markers + 1) / 4294967296; is = omega arith }
  as_refused reason.NothingToSend e = absurd (false≢true e)
  as_refused reason.Barred e = absurd (false≢true e)
  as_refused reason.Response e = record { carry = (c.responses + 1) / 4294967296; is = omega arith }

  as_framed : (x : Class) (l : Line) (m : Mux) → Rose (frame_answer x l m) c
  as_framed (Ok kind.Lacpdu) l m = by (l.up && l.full)
    where
      by : (b : Bool) → Rose (cond b (Ok Lacpdu) (Err reason.Disabled)) c
      by true = as_lacpdu_lem
      by false = as_refused reason.Disabled refl
  as_framed (Ok kind.Marker) l m = by (collects m || distributes m)
    where
      by : (b : Bool) → Rose (cond b (Ok Marker) (Err reason.NotCollecting)) c
      by true = as_marker_lem
      by false = as_refused reason.NotCollecting refl
  as_framed (Ok kind.Response) l m = as_refused reason.Response refl
  as_framed (Err r) l m = as_refused (reason.Frame r) refl

  -- where there is no table
  pub rose_nowhere : Rose (Err reason.Table) c
  rose_nowhere = as_refused reason.Table refl

  -- where a Response is accepted
  pub rose-done : Rose (Ok Done) c
  unfolding received
  rose-done = record { carry = (c.responses + 1) / 4294967296; is = omega arith }

  -- of any receive, in any memory
  pub rose : (n : ℕ) (frame out t : List ℕ) → Rose (answer (receive n frame out) t) c
  unfolding answer
  rose n frame out t =
      by (table_in_range t) (is_number t n) (ltb (length out) frame_size) _ (as_framed (class_of frame) (port_at t (n - 1)).line (port_at t (n - 1)).phase.mux)
    where
      by : (ranged there short : Bool) (a : Answer) → Rose a c → Rose (cond ranged (cond there (cond short (Err reason.Buffer) a) (Err reason.Number)) (Err reason.Table)) c
      by true true true a r = as_refused reason.Buffer refl
      by true true false a r = r
      by true false short a r = as_refused reason.Number refl
      by false there short a r = as_refused reason.Table refl

-- ---- the two of frames sent

-- a count after one more, but for a carry
pub record More (b : Bool) (before after : ℕ) : Type 0 where
  pub carry : ℕ
  pub is : after + 4294967296 * carry ≡ before + cond b 1 0

more : (b : Bool) (n : ℕ) → More b n (counted_if b n)
more true n = record { carry = (n + 1) / 4294967296; is = omega arith }
more false n = record { carry = 0; is = omega arith }

pub more-sent : (a : Answer) (c : Counters) → More (accepted a) c.sent (fetched a c).sent
unfolding fetched
more-sent a c = more (accepted a) c.sent

pub more-answered : (a : Answer) (c : Counters) → More (is_marker a) c.answered (received a c).answered
unfolding received
more-answered a c = more (is_marker a) c.answered

-- ---- around

-- a counter at its last number goes to 0
pub around : counted 4294967295 ≡ 0
around = refl
