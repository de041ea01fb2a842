-- 43.4.16: at most three LACPDUs of a port in any Fast_Periodic_Time. What the fetches of a run sent, and what the records remember of it.
use Rattle.std.specs.Prelude.{ℕ, suc, ◌-◌, ◌<◌, ◌≤◌, ◌≡◌, Bool, true, false, cond, ◌&&◌, List, [], ◌∷◌, map, length, get_or, eqb, leb, Option, Some, Ok}
use Rattle.frame.specs.Class.{frame_size}
use Rattle.machine.specs.declared.states.Ages.{Ages}
use Rattle.machine.specs.Ages.{ages, no_send}
use Rattle.machine.specs.Time.{fast_periodic_time}
use Rattle.table.specs.Table.{count_in, port_at}
use Rattle.control.specs.declared.answer.Accepted.TheVariants.{Done}
use Rattle.control.specs.Answer.{answer_number}
use Rattle.control.specs.Call.{Call, start, receive, tick, line, configure, fetch, report, aggregator, due, is_start}
use Rattle.control.specs.After.{answer, after}
use Rattle.control.specs.Accepted.{accepted}
use Rattle.claims.specs.Run.{Takes, AllTake, run, Made}

-- ---- the sends of a run

-- the sends on port n, newest first, each as the number of ticks that came after it: a fetch there that is answered 0 is one more, and an
-- accepted start forgets them all
abbrev pub sends_by : ℕ → Call → List ℕ → List ℕ → List ℕ
sends_by n (start count system delay s) t l = cond (accepted (answer (start count system delay s) t)) [] l
sends_by n (receive m frame out) t l = l
sends_by n tick t l = map suc l
sends_by n (line m x) t l = l
sends_by n (configure m s) t l = l
sends_by n (fetch m out) t l = cond (eqb n m && accepted (answer (fetch m out) t)) (0 ∷ l) l
sends_by n (report m) t l = l
sends_by n (aggregator k) t l = l
sends_by n due t l = l

-- along calls, from table t and the sends l before them
unfoldable pub sends : ℕ → List ℕ → List Call → List ℕ → List ℕ
sends n t [] l = l
sends n t (c ∷ cs) l = sends n (after c t) cs (sends_by n c t l)

-- since the last start of the run that made a table
abbrev pub sends_of : {t : List ℕ} → Made t → ℕ → List ℕ
sends_of m n = sends n (after (start m.count m.system m.delay m.settings) m.memory) m.calls []

-- ---- what is remembered of them

-- those with at most a Fast_Periodic_Time of ticks after them, that is fewer than eleven
unfoldable pub recent : List ℕ → List ℕ
recent [] = []
recent (a ∷ l) = cond (leb a fast_periodic_time) (a ∷ recent l) (recent l)

-- the first three of them, and no send where there are fewer
abbrev pub in_place : List ℕ → ℕ → Option ℕ
in_place l k = get_or (map (λ (a : ℕ). Some a) l) k no_send

abbrev pub in_places : List ℕ → Ages
in_places l = ages (in_place l 0) (in_place l 1) (in_place l 2)

-- 8: the record has just the recent sends, of which there are never more than three; and a fetch with room for its frame is refused with 11
-- exactly if an LACPDU is due on a port that is up at full duplex, and three sends are recent
pub record Remembers (sent : List ℕ) (n : ℕ) (t : List ℕ) : Type 0 where
  pub few : length (recent sent) ≤ 3
  pub remembered : (port_at t (n - 1)).ages ≡ in_places (recent sent)
  pub barred : (out : List ℕ) → frame_size ≤ length out
      → eqb (answer_number (answer (fetch n out) t)) 11
      ≡ (port_at t (n - 1)).ntt && ((port_at t (n - 1)).line.up && ((port_at t (n - 1)).line.full && leb 3 (length (recent sent))))

abbrev pub ThreeSends : Type 0
ThreeSends = (t : List ℕ) (m : Made t) (n : ℕ) → 1 ≤ n → n ≤ count_in t → Remembers (sends_of m n) n t

-- ---- so four sends span a Fast_Periodic_Time

abbrev pub is_tick : Call → Bool
is_tick (start count system delay s) = false
is_tick (receive m frame out) = false
is_tick tick = true
is_tick (line m l) = false
is_tick (configure m s) = false
is_tick (fetch m out) = false
is_tick (report m) = false
is_tick (aggregator k) = false
is_tick due = false

-- the ticks among some calls; of a table that calls made, none is refused
unfoldable pub ticks_in : List Call → ℕ
ticks_in [] = 0
ticks_in (c ∷ cs) = cond (is_tick c) (suc (ticks_in cs)) (ticks_in cs)

-- no call of a run is a start that is accepted
abbrev pub NoneStarts : List ℕ → List Call → Type 0
NoneStarts t [] = Unit
NoneStarts t (c ∷ cs) = (is_start c && accepted (answer c t) ≡ false) × NoneStarts (after c t) cs

-- from a fetch that is answered 0 to the third one after it on the same port, with no start between, come more ticks than a
-- Fast_Periodic_Time has: eleven or more, with ten whole intervals between them
abbrev pub FourSendsApart : Type 0
FourSendsApart = (t : List ℕ) → Made t → (n : ℕ) (first last : List ℕ) → Takes (fetch n first) → answer (fetch n first) t ≡ Ok Done
    → (cs : List Call) → AllTake cs → NoneStarts (after (fetch n first) t) cs → length (sends n (after (fetch n first) t) cs []) ≡ 2
    → answer (fetch n last) (run (after (fetch n first) t) cs) ≡ Ok Done → fast_periodic_time < ticks_in cs
