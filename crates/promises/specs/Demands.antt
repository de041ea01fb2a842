-- The three demands, sentence by sentence, as one theorem about the library: read this file first. Ports and aggregators have the numbers by which calls name them, from 1.
-- A table has one of two forms (`Held` in Run.antt): `new` is that of the library's calls, of whose answers, memory and buffers (`answer_to`, `done`, `sent_by` in Asked.antt, which
-- are the definitions of asked/specs) the contracts speak; `old` that of the calls before churn detection, from which and to which a table is moved (M-106). A step of a run (`Deed`)
-- is a call, a move, or an ask for a Marker. That every call takes every input is no field here: the contracts ask nothing of a caller. `AskedMade` is in Asked.antt, `Takes` in
-- claims/specs/Run.antt; words of ports (`IsPort`, `carries` ..) are in Fronts.antt.
use Rattle.std.specs.Prelude.{ℕ, ◌-◌, ◌≡◌, ◌≢◌, true, false, List, map, Ok, Err}
use Rattle.octets.specs.Octets.{Octets}
use Rattle.port.specs.Compared.{compared}
use Rattle.port.specs.Receive.{receive_run}
use Rattle.table.specs.Table.{ports, ours}
use Rattle.trunk.specs.Selection.{shares_group}
use Rattle.work.specs.Work.{worked}
use Rattle.churn.specs.Churn.{watching}
use Rattle.churn.specs.Whole.{monitors_at}
use Rattle.control.specs.declared.answer.Accepted.TheVariants.{Done}
use Rattle.control.specs.declared.answer.Reason.{Reason}
use Rattle.control.specs.declared.answer.Reason.TheVariants.{Table}
use Rattle.control.specs.Call.{Call, fetch, is_start}
use Rattle.control.specs.After.{buffer_of}
use Rattle.asked.specs.declared.said.AskRefusal.TheVariants as refusal
use Rattle.asked.specs.Layer.{new_layer}
use Rattle.asked.specs.Asked.{front_of}
use Rattle.asked.specs.Ask.{ask_outgoing}
use Rattle.asked.specs.Moves.{forward_answer, forward_to, back_answer, back_to}
use Rattle.claims.specs.Run.{Takes}
use Rattle.claims.specs.Lag.{lag_at}
use Rattle.claims.specs.Locality.{touches}
use Rattle.claims.specs.ReadBack.{Reads}
use Rattle.promises.specs.Run.{Held, new, memory_of, call}
use Rattle.promises.specs.Asked.{layer_of, front_in, table_in, ask_in, Deed, plain, ask, answer_to, sent_by, said_to, agrees, done, DeedTakes, AskedMade}
use Rattle.promises.specs.Fronts.{IsPort, record_of, monitors_of, carries, attached, rule_gives, in_one_group}

-- port m shares a group with port n neither before nor after the call
pub record Strangers (c : Call) (h : Held) (m n : ℕ) : Type 0 where
  pub before : in_one_group (front_in h) m n ≡ false
  pub then : shares_group (ours (table_in h)) (map compared (ports (table_in (done (plain (call c)) h)))) (m - 1) (n - 1) ≡ false

-- a port is as it was after a step, in every field: its record, its monitors, and what it asked for
pub record AsItWas (d : Deed) (h : Held) (m : ℕ) : Type 0 where
  pub fields : record_of (front_in (done d h)) m ≡ record_of (front_in h) m
  pub monitors : monitors_of (front_in (done d h)) m ≡ monitors_of (front_in h) m
  pub asked : ask_in (m - 1) (done d h) ≡ ask_in (m - 1) h

pub record Demands : Type 0 where
  -- 1: a refused call leaves the table as it came, and the outgoing buffer too, in any memory; so does a refused ask; a refused move leaves its target
  pub refused-table : (h : Held) (c : Call) (r : Reason) → answer_to c h ≡ Err r → done (plain (call c)) h ≡ h
  pub refused-buffer : (h : Held) (c : Call) (r : Reason) → answer_to c h ≡ Err r → sent_by c h ≡ buffer_of c
  pub refused-ask : (h : Held) (n wait : ℕ) (out : List ℕ) → agrees (said_to n wait out h) ≡ false
      → (done (ask n wait out) h ≡ h) × (ask_outgoing (layer_of h) n wait out (memory_of h) ≡ out)
  pub refused-forward : (t u : List ℕ) (r : Reason) → forward_answer t u ≡ Err r → forward_to t u ≡ u
  pub refused-back : (w u : List ℕ) (r : Reason) → back_answer w u ≡ Err r → back_to w u ≡ u
  -- 2: what a start and later steps made, a further one makes again, and no call but a start is refused for the table
  pub made : (h : Held) → AskedMade h → (d : Deed) → DeedTakes d → AskedMade (done d h)
  pub unfaulted : (h : Held) → AskedMade h → (c : Call) → is_start c ≡ false → answer_to c h ≢ Err Table
  pub unfaulted-ask : (h : Held) → AskedMade h → (n wait : ℕ) (out : List ℕ) → said_to n wait out h ≢ Err (refusal.Plain Table)
  -- and no work is left undone: the order of work once more, without an event, changes nothing, nor does one more run of a port's churn detection
  pub finished : (h : Held) → AskedMade h → worked (ours (table_in h)) (map receive_run (ports (table_in h))) ≡ ports (table_in h)
  pub watched : (m : List ℕ) → AskedMade (new m) → (n : ℕ) → IsPort (front_in (new m)) n
      → watching (record_of (front_in (new m)) n) (monitors_at (front_of new_layer m) (n - 1)) ≡ monitors_at (front_of new_layer m) (n - 1)
  -- what a fetch sent reads back as the two blocks that it was written from
  pub reads-back : (h : Held) (n : ℕ) (out : List ℕ) → answer_to (fetch n out) h ≡ Ok Done → Reads (table_in h) n (sent_by (fetch n out) h)
  -- 3: every port holds the aggregator that the rule gives it now
  pub aggregator : (h : Held) → AskedMade h → (n : ℕ) → IsPort (front_in h) n → (record_of (front_in h) n).aggregator ≡ rule_gives (front_in h) n
  -- who carries has a link that is up, and a partner in sync that collects
  pub up : (h : Held) → AskedMade h → (n : ℕ) → IsPort (front_in h) n → carries (front_in h) n ≡ true → (record_of (front_in h) n).line.up ≡ true
  pub in_sync_lem : (h : Held) → AskedMade h → (n : ℕ) → IsPort (front_in h) n → carries (front_in h) n ≡ true → (record_of (front_in h) n).partner.state.synchronization ≡ true
  pub collected : (h : Held) → AskedMade h → (n : ℕ) → IsPort (front_in h) n → carries (front_in h) n ≡ true → (record_of (front_in h) n).partner.state.collecting ≡ true
  -- and whoever is attached to its aggregator is in one group with it: one Link Aggregation Group
  pub group : (h : Held) → AskedMade h → (n m : ℕ) → IsPort (front_in h) n → IsPort (front_in h) m → carries (front_in h) n ≡ true → attached (front_in h) m ≡ true
      → (record_of (front_in h) m).aggregator ≡ (record_of (front_in h) n).aggregator
      → (in_one_group (front_in h) n m ≡ true) × (lag_at (table_in h) (n - 1) ≡ lag_at (table_in h) (m - 1))
  -- a call changes nothing but of ports that share a group, before or after it, with one that it touches
  pub others_stay : (h : Held) → AskedMade h → (c : Call) → Takes c → (m : ℕ) → IsPort (front_in h) m
      → ((n : ℕ) → IsPort (front_in h) n → touches c (table_in h) (n - 1) ≡ true → Strangers c h m n) → AsItWas (plain (call c)) h m
  -- and an ask nothing of any other port, and no field of a record
  pub ask-stays : (h : Held) → AskedMade h → (n wait : ℕ) (out : List ℕ) → Octets out → (m : ℕ) → IsPort (front_in h) m → m ≢ n → AsItWas (ask n wait out) h m
  pub ask-records : (h : Held) → AskedMade h → (n wait : ℕ) (out : List ℕ) → Octets out → front_in (done (ask n wait out) h) ≡ front_in h
