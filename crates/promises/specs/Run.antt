-- Runs of calls, and of moves between the two forms of a table (M-106). In the old form, without monitors, the calls are those of `control`, and in the new form the
-- library's. A table is made if some accepted start on some memory, in either form, and then any list of calls and moves, leaves it, refused ones and further starts
-- included. What goes on through moves is the table of the records: a call does the same to it in both forms, and a move leaves it.
use Rattle.std.specs.Prelude.{ℕ, ◌≡◌, true, cond, List, [], ◌∷◌}
use Rattle.octets.specs.Octets.{Octets}
use Rattle.churn.specs.Whole.{base_of}
use Rattle.control.specs.Answer.{Answer}
use Rattle.control.specs.Accepted.{accepted}
use Rattle.control.specs.Call.{Call, is_start}
use Rattle.control.specs.After.{answer, after, outgoing}
use Rattle.whole.specs.Calls.{whole_answer, whole_after, whole_outgoing}
use Rattle.whole.specs.Moves.{forward_answer, forward_to, back_answer, back_to}
use Rattle.claims.specs.Run.{Takes}

-- memory that holds a table of one of the two forms, or is to hold it
pub data Held : Type 0 where
  old : List ℕ → Held
  new : List ℕ → Held

abbrev pub memory_of : Held → List ℕ
memory_of (old m) = m
memory_of (new m) = m

-- the table of the records
abbrev pub records_of : Held → List ℕ
records_of (old t) = t
records_of (new w) = base_of w

-- what a call answers, and the outgoing buffer after it
abbrev pub answer_in : Call → Held → Answer
answer_in c (old t) = answer c t
answer_in c (new w) = whole_answer c w

abbrev pub outgoing_in : Call → Held → List ℕ
outgoing_in c (old t) = outgoing c t
outgoing_in c (new w) = whole_outgoing c w

-- a call, or a move into this target memory
pub data Step : Type 0 where
  call : Call → Step
  forward : List ℕ → Step
  back : List ℕ → Step

-- a move that is accepted goes on with its target, and one that is refused, as of the other form, with what there was
unfoldable pub stepped : Step → Held → Held
stepped (call c) (old t) = old (after c t)
stepped (call c) (new w) = new (whole_after c w)
stepped (forward u) h = cond (accepted (forward_answer (memory_of h) u)) (new (forward_to (memory_of h) u)) h
stepped (back u) h = cond (accepted (back_answer (memory_of h) u)) (old (back_to (memory_of h) u)) h

-- step after step
unfoldable pub through : Held → List Step → Held
through h [] = h
through h (s ∷ ss) = through (stepped s h) ss

abbrev pub StepTakes : Step → Type 0
StepTakes (call c) = Takes c
StepTakes (forward u) = Octets u
StepTakes (back u) = Octets u

abbrev pub AllStepsTake : List Step → Type 0
AllStepsTake [] = Unit
AllStepsTake (s ∷ ss) = StepTakes s × AllStepsTake ss

-- the calls of a run without its moves
abbrev pub calls_of : List Step → List Call
calls_of [] = []
calls_of (call c ∷ ss) = c ∷ calls_of ss
calls_of (forward u ∷ ss) = calls_of ss
calls_of (back u ∷ ss) = calls_of ss

-- a run from an accepted start on any memory
pub record FromStart (h : Held) (c : Call) (ss : List Step) : Type 0 where
  pub octets : Octets (memory_of h)
  pub is_start : is_start c ≡ true
  pub accepted : accepted (answer_in c h) ≡ true
  pub takes : AllStepsTake (call c ∷ ss)

pub record HeldMade (h : Held) : Type 0 where
  pub memory : Held
  pub start : Call
  pub steps : List Step
  pub run : FromStart memory start steps
  pub gives : through memory (call start ∷ steps) ≡ h

-- of each form
abbrev pub OldMade : List ℕ → Type 0
OldMade t = HeldMade (old t)

abbrev pub WholeMade : List ℕ → Type 0
WholeMade w = HeldMade (new w)
