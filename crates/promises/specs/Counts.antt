-- What a port's counters add up to along a run of the library (M-100): one record of them, at zeros first, is lent to each receive and each fetch on the port.
use Rattle.std.specs.Prelude.{ℕ, ◌+◌, ◌%◌, ◌≡◌, cond, ◌&&◌, List, [], ◌∷◌, eqb}
use Rattle.control.specs.Answer.{Answer}
use Rattle.control.specs.Accepted.{accepted}
use Rattle.control.specs.Call.{Call, start, receive, tick, line, configure, fetch, report, aggregator, due}
use Rattle.counters.specs.declared.Counters.{Counters}
use Rattle.counters.specs.Counters.{is_marker, received, fetched, all_received, heard, none_counted}
use Rattle.promises.specs.Run.{Held, call, forward, back}
use Rattle.promises.specs.Asked.{Deed, plain, ask, answer_to, done}

-- the counters of port n after a call with this answer
abbrev pub counted_by : ℕ → Call → Answer → Counters → Counters
counted_by n (start count system delay s) a k = k
counted_by n (receive m frame out) a k = cond (eqb n m) (received a k) k
counted_by n tick a k = k
counted_by n (line m l) a k = k
counted_by n (configure m s) a k = k
counted_by n (fetch m out) a k = cond (eqb n m) (fetched a k) k
counted_by n (report m) a k = k
counted_by n (aggregator m) a k = k
counted_by n due a k = k

unfoldable pub counters_after : ℕ → Held → List Deed → Counters → Counters
counters_after n h [] k = k
counters_after n h (plain (call c) ∷ ds) k = counters_after n (done (plain (call c)) h) ds (counted_by n c (answer_to c h) k)
counters_after n h (plain (forward u) ∷ ds) k = counters_after n (done (plain (forward u)) h) ds k
counters_after n h (plain (back u) ∷ ds) k = counters_after n (done (plain (back u)) h) ds k
counters_after n h (ask m wait out ∷ ds) k = counters_after n (done (ask m wait out) h) ds k

-- ---- what there was to count, call by call

-- the receives on port n that were not answered 1, 2, 3 or 6
abbrev pub heard_on : ℕ → Call → Answer → ℕ
heard_on n (start count system delay s) a = 0
heard_on n (receive m frame out) a = cond (eqb n m) (heard a) 0
heard_on n tick a = 0
heard_on n (line m l) a = 0
heard_on n (configure m s) a = 0
heard_on n (fetch m out) a = 0
heard_on n (report m) a = 0
heard_on n (aggregator m) a = 0
heard_on n due a = 0

-- the fetches on it that were answered 0
abbrev pub sent_on : ℕ → Call → Answer → ℕ
sent_on n (start count system delay s) a = 0
sent_on n (receive m frame out) a = 0
sent_on n tick a = 0
sent_on n (line m l) a = 0
sent_on n (configure m s) a = 0
sent_on n (fetch m out) a = cond (eqb n m && accepted a) 1 0
sent_on n (report m) a = 0
sent_on n (aggregator m) a = 0
sent_on n due a = 0

-- and the Markers
abbrev pub answered_on : ℕ → Call → Answer → ℕ
answered_on n (start count system delay s) a = 0
answered_on n (receive m frame out) a = cond (eqb n m && is_marker a) 1 0
answered_on n tick a = 0
answered_on n (line m l) a = 0
answered_on n (configure m s) a = 0
answered_on n (fetch m out) a = 0
answered_on n (report m) a = 0
answered_on n (aggregator m) a = 0
answered_on n due a = 0

unfoldable pub all_of : (Call → Answer → ℕ) → Held → List Deed → ℕ
all_of f h [] = 0
all_of f h (plain (call c) ∷ ds) = f c (answer_to c h) + all_of f (done (plain (call c)) h) ds
all_of f h (plain (forward u) ∷ ds) = all_of f (done (plain (forward u)) h) ds
all_of f h (plain (back u) ∷ ds) = all_of f (done (plain (back u)) h) ds
all_of f h (ask m wait out ∷ ds) = all_of f (done (ask m wait out) h) ds

-- ---- over any run, on any memory

-- the five of received frames together, and the two of frames sent, each in 32 bits
pub record AddUp (n : ℕ) (h : Held) (ds : List Deed) : Type 0 where
  pub received : all_received (counters_after n h ds none_counted) % 4294967296 ≡ all_of (heard_on n) h ds % 4294967296
  pub sent : (counters_after n h ds none_counted).sent % 4294967296 ≡ all_of (sent_on n) h ds % 4294967296
  pub answered : (counters_after n h ds none_counted).answered % 4294967296 ≡ all_of (answered_on n) h ds % 4294967296

abbrev pub CountersAddUp : Type 0
CountersAddUp = (n : ℕ) (h : Held) (ds : List Deed) → AddUp n h ds
