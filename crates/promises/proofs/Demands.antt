-- The demands of the library: what they say of records holds of the front of each table that is made, and a call leaves of the front what it leaves there; refusals are looked at
-- one by one. Assumes nothing.
use Prim.Native.Nat.{ℕ, ◌-◌, ◌<◌}
use mathlib.Core.Path.{◌≡◌, refl, sym, ap, ◌∙◌, subst}
use mathlib.Core.Logic.{◌≢◌}
use mathlib.Core.Bool.{Bool, true, false, cond, ◌&&◌, false≢true, true≢false}
use mathlib.Core.List.{List, [], ◌∷◌, ◌++◌, map}
use native.Mathlib.Omega.{arith}
use lib.ListN.{length, take-append-drop}
use lib.Dec.{eqb, ltb}
use borrow.Author.Tests.{eqb-true}
use Rattle.std.specs.Prelude.{Ok, Err}
use Rattle.octets.specs.Octets.{Octets, within}
use Rattle.frame.specs.declared.block.SystemId.{SystemId}
use Rattle.frame.specs.declared.wire.TensOfMicroseconds.{TensOfMicroseconds}
use Rattle.frame.specs.Class.{frame_size}
use Rattle.settings.specs.declared.Settings.{Settings}
use Rattle.machine.specs.Mux.{distributes}
use Rattle.port.specs.Compared.{compared}
use Rattle.table.specs.Table.{count_in, port_at, ports, ours}
use Rattle.trunk.specs.Selection.{shares_group}
use Rattle.churn.specs.Whole.{base_of}
use Rattle.asks.specs.declared.ask.Ask.{Ask}
use Rattle.asks.specs.declared.ask.Outcome.TheVariants.{Answered, Cancelled}
use Rattle.asks.specs.Ask.{longest_wait, is_awaiting, asked, ended}
use Rattle.asks.specs.Groups.{ask_at}
use Rattle.asks.proofs.MadeLaws.{Groups}
use Rattle.control.specs.Answer.{Answer}
use Rattle.control.specs.declared.answer.Accepted.TheVariants.{Done}
use Rattle.control.specs.declared.answer.Reason.{Reason}
use Rattle.control.specs.declared.answer.Reason.TheVariants as reason
use Rattle.control.specs.Accepted.{accepted}
use Rattle.control.specs.Call.{Call, start, receive, tick, line, configure, fetch, report, aggregator, due, is_start}
use Rattle.control.specs.After.{buffer_of}
use Rattle.control.proofs.CallLaws.{refused-table, refused-buffer}
use Rattle.whole.proofs.FrontLaws.{whole-refused}
use Rattle.whole.specs.Calls.{count_for}
use Rattle.whole.specs.Moves.{moved_forward}
use Rattle.asked.specs.declared.said.AskRefusal.TheVariants as refusal
use Rattle.asked.specs.Layer.{Layer, old_layer, new_layer}
use Rattle.asked.specs.Asked.{front_of, groups_of, has_asks}
use Rattle.asked.specs.Calls.{front_for, groups_for, room_for, is_ours, falls_from, groups_after, asked_answer, asked_after, asked_outgoing}
use Rattle.asked.specs.Ask.{Said, said_number, after_report, ask_after, ask_outgoing}
use Rattle.asked.specs.Moves.{forward_answer, forward_to, back_answer, back_to}
use Rattle.claims.specs.Run.{Takes}
use Rattle.claims.specs.Locality.{touches}
use Rattle.claims.specs.ReadBack.{Reads}
use Rattle.promises.specs.Run.{Held, old, new, memory_of, records_of, answer_in, outgoing_in, call, forward, back, stepped, through, AllStepsTake}
use Rattle.promises.specs.Whole.{HeldSound}
use Rattle.promises.specs.Asked.{layer_of, front_in, groups_in, table_in, ask_in, Deed, plain, ask, answer_to, sent_by, said_to, agrees, done, after-all, DeedTakes, AllTaken, AskedMade, OldAsked, NewAsked, front_step, fronts_of, ask_by_call, FrontRuns, FrontCalls}
use Rattle.promises.specs.Fronts.{IsPort, record_of, monitors_of, Strangers as FrontStrangers}
use Rattle.promises.specs.Demands.{Strangers, AsItWas, Demands}
use Rattle.promises.proofs.Fronts.{fronts, untouched, unmoved}
use Rattle.promises.proofs.Run.{steps-go}
use Rattle.promises.proofs.Joined.{room_tests, kept, joined-front, joined-groups, call-answer, call-sends, ask-answer}
use Rattle.promises.proofs.Asked.{front-size, front-some, join, deed_step, front-takes, Joint, joint-front, made-joint, front-made, through-join, takes-join}
use Rattle.promises.proofs.Ends.{asks-follow, ask-passed, joint-step}

-- ---- refusals, in any memory

module _ (L : Layer) (refuses : (c : Call) (t : List ℕ) (r : Reason) → L.answers c t ≡ Err r → (L.leaves c t ≡ t) × (L.sends c t ≡ buffer_of c)) where
  -- a refused call touches no group
  groups-kept : (c : Call) (f g : List ℕ) (r : Reason) → is_ours L c f g ≡ false → L.answers c f ≡ Err r → groups_after L c f g ≡ g
  groups-kept (start count system delay x) f g r o e = rw e
  groups-kept (receive n frame out) f g r o e = rw o
  groups-kept tick f g r o e = rw e
  groups-kept (line n l) f g r o e = rw e
  groups-kept (configure n x) f g r o e = refl
  groups-kept (fetch n out) f g r o e = refl
  groups-kept (report n) f g r o e = refl
  groups-kept (aggregator k) f g r o e = refl
  groups-kept due f g r o e = refl

  pub call-refused : (c : Call) (m : List ℕ) (r : Reason) → asked_answer L c m ≡ Err r → (asked_after L c m ≡ m) × (asked_outgoing L c m ≡ buffer_of c)
  unfolding asked_answer asked_after asked_outgoing
  call-refused c m r e = by (room_for L c m) (is_ours L c (front_for L c m) (groups_for L c m)) refl e
    where
      by : (x y : Bool) → is_ours L c (front_for L c m) (groups_for L c m) ≡ y → cond x (cond y (Ok Done) (L.answers c (front_for L c m))) (Err reason.Table) ≡ Err r
          → (cond x (L.leaves c (front_for L c m) ++ groups_after L c (front_for L c m) (groups_for L c m)) m ≡ m) × (cond x (L.sends c (front_for L c m)) (buffer_of c) ≡ buffer_of c)
      by true true o h = absurd (true≢false (ap accepted h))
      by true false o h =
          let k = refuses c (front_for L c m) r h in
          ((λ i. k.0 i ++ groups-kept c (front_for L c m) (groups_for L c m) r o h i) ∙ take-append-drop (L.size (count_for c m)) m, k.1)
      by false y o h = (refl, refl)

old_refuses : (c : Call) (t : List ℕ) (r : Reason) → old_layer.answers c t ≡ Err r → (old_layer.leaves c t ≡ t) × (old_layer.sends c t ≡ buffer_of c)
old_refuses c t r e = (refused-table c t e, refused-buffer c t e)

held-refused : (h : Held) (c : Call) (r : Reason) → answer_to c h ≡ Err r → (done (plain (call c)) h ≡ h) × (sent_by c h ≡ buffer_of c)
unfolding done
held-refused (old m) c r e = let k = call-refused old_layer old_refuses c m r e in (ap old k.0, k.1)
held-refused (new m) c r e = let k = call-refused new_layer whole-refused c m r e in (ap new k.0, k.1)

ask-refused : (h : Held) (n wait : ℕ) (out : List ℕ) → agrees (said_to n wait out h) ≡ false → (done (ask n wait out) h ≡ h) × (ask_outgoing (layer_of h) n wait out (memory_of h) ≡ out)
unfolding done ask_after ask_outgoing
ask-refused (old m) n wait out e = (ap old (kept m _ (said_to n wait out (old m)) e), kept out _ (said_to n wait out (old m)) e)
ask-refused (new m) n wait out e = (ap new (kept m _ (said_to n wait out (new m)) e), kept out _ (said_to n wait out (new m)) e)

-- ---- a further step

after_more : (h : Held) (ds : List Deed) (d : Deed) → after-all h (ds ++ (d ∷ [])) ≡ done d (after-all h ds)
unfolding after-all
after_more h [] d = refl
after_more h (x ∷ ds) d = after_more (done x h) ds d

all_more : (ds : List Deed) (d : Deed) → AllTaken ds → DeedTakes d → AllTaken (ds ++ (d ∷ []))
all_more [] d a k = (k, tt)
all_more (x ∷ ds) d a k = (a.0, all_more ds d a.1 k)

pub made-by_deed : (h : Held) → AskedMade h → (d : Deed) → DeedTakes d → AskedMade (done d h)
made-by_deed h m d k = record {
  memory = m.memory;
  start = m.start;
  deeds = m.deeds ++ (d ∷ []);
  run = record { octets = m.run.octets; is_start = m.run.is_start; accepted = m.run.accepted; takes = (m.run.takes.0, all_more m.deeds d m.run.takes.1 k) };
  gives = after_more m.memory (plain (call m.start) ∷ m.deeds) d ∙ ap (done d) m.gives;
}

-- the same of the program's calls

pub made_start : (m : List ℕ) → Octets m → (count : ℕ) (system : SystemId) (delay : TensOfMicroseconds) (x : Settings) → Takes (start count system delay x)
    → accepted (asked_answer new_layer (start count system delay x) m) ≡ true → NewAsked (asked_after new_layer (start count system delay x) m)
unfolding after-all done
made_start m o count system delay x k e = record {
  memory = new m;
  start = start count system delay x;
  deeds = [];
  run = record { octets = o; is_start = refl; accepted = e; takes = (k, tt) };
  gives = refl;
}

pub made_call : (w : List ℕ) → NewAsked w → (c : Call) → Takes c → NewAsked (asked_after new_layer c w)
unfolding done
made_call w m c k = made-by_deed (new w) m (plain (call c)) k

pub made_ask : (w : List ℕ) → NewAsked w → (n wait : ℕ) (out : List ℕ) → Octets out → NewAsked (ask_after new_layer n wait out w)
unfolding done
made_ask w m n wait out o = made-by_deed (new w) m (ask n wait out) o

pub made_forward : (t : List ℕ) → OldAsked t → (u : List ℕ) → Octets u → accepted (forward_answer t u) ≡ true → NewAsked (forward_to t u)
unfolding done
made_forward t m u o e = subst AskedMade (rw e) (made-by_deed (old t) m (plain (forward u)) o)

pub made_back : (w : List ℕ) → NewAsked w → (u : List ℕ) → Octets u → accepted (back_answer w u) ≡ true → OldAsked (back_to w u)
unfolding done
made_back w m u o e = subst AskedMade (rw e) (made-by_deed (new w) m (plain (back u)) o)

-- ---- what a step leaves of the front

front-step : (d : Deed) → DeedTakes d → (h : Held) → Joint h → front_in (done d h) ≡ through (front_in h) (front_step d h)
front-step d k h j = subst (λ (x : Held). front_in (done d x) ≡ through (front_in x) (front_step d x)) (sym j.is) by
  where
    by : front_in (done d (join j.front j.groups)) ≡ through (front_in (join j.front j.groups)) (front_step d (join j.front j.groups))
    by =
        let one = deed_step d k j.front j.sound j.groups j.ranged in
        let zs = front_step d (join j.front j.groups) in
        let here : Joint (join j.front j.groups) = record { front = j.front; groups = j.groups; sound = j.sound; ranged = j.ranged; is = refl } in
        let next : Joint (done d (join j.front j.groups)) = record { front = through j.front zs; groups = one.groups; sound = (steps-go j.front j.sound zs (front-takes d k (join j.front j.groups))).sound; ranged = one.ranged; is = one.is } in
        joint-front (done d (join j.front j.groups)) next ∙ ap (λ (x : Held). through x zs) (sym (joint-front (join j.front j.groups) here))

pub call-front : (h : Held) → AskedMade h → (c : Call) → Takes c → front_in (done (plain (call c)) h) ≡ stepped (call c) (front_in h)
unfolding through
call-front h m c k = front-step (plain (call c)) k h (made-joint h m)

ask-front : (h : Held) → AskedMade h → (n wait : ℕ) (out : List ℕ) → Octets out → front_in (done (ask n wait out) h) ≡ front_in h
unfolding through
ask-front h m n wait out o = front-step (ask n wait out) o h (made-joint h m)

fronts-along : (ds : List Deed) → AllTaken ds → (h : Held) → Joint h → (front_in (after-all h ds) ≡ through (front_in h) (fronts_of h ds)) × AllStepsTake (fronts_of h ds)
unfolding after-all fronts_of through
fronts-along [] k h j = (refl, tt)
fronts-along (d ∷ ds) k h j =
    let rest = fronts-along ds k.1 (done d h) (joint-step d k.0 h j).joint in (
      rest.0 ∙ ap (λ (x : Held). through x (fronts_of (done d h) ds)) (front-step d k.0 h j) ∙ sym (through-join (front_in h) (front_step d h) (fronts_of (done d h) ds)),
      takes-join (front_step d h) (fronts_of (done d h) ds) (front-takes d k.0 h) rest.1,
    )

pub front-runs : FrontRuns
front-runs h m ds k = let r = fronts-along ds k h (made-joint h m) in record { made = front-made h m; goes = r.0; takes = r.1 }

-- ---- what a call answers, but for a start

called : (h : Held) → Joint h → (c : Call) → is_start c ≡ false → answer_to c h ≡ cond (is_ours (layer_of h) c (memory_of (front_in h)) (groups_in h)) (Ok Done) (answer_in c (front_in h))
called h j c s = subst (λ (x : Held). answer_to c x ≡ cond (is_ours (layer_of x) c (memory_of (front_in x)) (groups_in x)) (Ok Done) (answer_in c (front_in x))) (sym j.is) (by j.front j.sound j.groups j.ranged)
  where
    by : (f : Held) → HeldSound f → (g : List ℕ) → Groups (count_in (memory_of f)) g
        → answer_to c (join f g) ≡ cond (is_ours (layer_of (join f g)) c (memory_of (front_in (join f g))) (groups_in (join f g))) (Ok Done) (answer_in c (front_in (join f g)))
    by (old t) z g gs =
        call-answer old_layer t (front-some (old t) z) (front-size (old t) z) g gs c s
        ∙ sym (λ i. cond (is_ours old_layer c (joined-front old_layer t (front-some (old t) z) (front-size (old t) z) g gs i) (joined-groups old_layer t (front-some (old t) z) (front-size (old t) z) g gs i)) (Ok Done)
        (old_layer.answers c (joined-front old_layer t (front-some (old t) z) (front-size (old t) z) g gs i)))
    by (new w) z g gs =
        call-answer new_layer w (front-some (new w) z) (front-size (new w) z) g gs c s
        ∙ sym (λ i. cond (is_ours new_layer c (joined-front new_layer w (front-some (new w) z) (front-size (new w) z) g gs i) (joined-groups new_layer w (front-some (new w) z) (front-size (new w) z) g gs i)) (Ok Done)
        (new_layer.answers c (joined-front new_layer w (front-some (new w) z) (front-size (new w) z) g gs i)))

sends-so : (h : Held) → Joint h → (c : Call) → is_start c ≡ false → sent_by c h ≡ outgoing_in c (front_in h)
sends-so h j c s = subst (λ (x : Held). sent_by c x ≡ outgoing_in c (front_in x)) (sym j.is) (by j.front j.sound j.groups j.ranged)
  where
    by : (f : Held) → HeldSound f → (g : List ℕ) → Groups (count_in (memory_of f)) g → sent_by c (join f g) ≡ outgoing_in c (front_in (join f g))
    by (old t) z g gs =
        call-sends old_layer t (front-some (old t) z) (front-size (old t) z) g gs c s
        ∙ ap (old_layer.sends c) (sym (joined-front old_layer t (front-some (old t) z) (front-size (old t) z) g gs))
    by (new w) z g gs =
        call-sends new_layer w (front-some (new w) z) (front-size (new w) z) g gs c s
        ∙ ap (new_layer.sends c) (sym (joined-front new_layer w (front-some (new w) z) (front-size (new w) z) g gs))

pub front-calls : FrontCalls
front-calls h m c k s = record { answers = called h (made-joint h m) c s; leaves = call-front h m c k; sends = sends-so h (made-joint h m) c s }

unfaulted : (h : Held) → AskedMade h → (c : Call) → is_start c ≡ false → answer_to c h ≡ Err reason.Table → ⊥
unfaulted h m c s e = by (is_ours (layer_of h) c (memory_of (front_in h)) (groups_in h)) (sym (called h (made-joint h m) c s) ∙ e)
  where
    by : (b : Bool) → cond b (Ok Done) (answer_in c (front_in h)) ≡ Err reason.Table → ⊥
    by true f = true≢false (ap accepted f)
    by false f = fronts.unfaulted (front_in h) (front-made h m) c s f

-- what is said of the table is what a report says
plain_of : Said → Answer
plain_of (Ok u) = Ok Done
plain_of (Err (refusal.Plain r)) = Err r
plain_of (Err refusal.Wait) = Ok Done
plain_of (Err refusal.NotDistributing) = Ok Done
plain_of (Err refusal.Awaiting) = Ok Done

not_table : (a b c d : Bool) → room_tests a b c d ≡ Err (refusal.Plain reason.Table) → ⊥
not_table true b c d f = let k = ap said_number f in omega (arith, k)
not_table false true true true f = let k = ap said_number f in omega (arith, k)
not_table false true true false f = let k = ap said_number f in omega (arith, k)
not_table false true false d f = let k = ap said_number f in omega (arith, k)
not_table false false c d f = let k = ap said_number f in omega (arith, k)

faulted : (r : Answer) (a b c d : Bool)
    → after_report r (room_tests a b c d) ≡ Err (refusal.Plain reason.Table)
    → r ≡ Err reason.Table
unfolding plain_of
faulted (Err x) a b c d e = ap plain_of e
faulted (Ok x) a b c d e = absurd (not_table a b c d e)

ask-faulted : (h : Held) → Joint h → (n wait : ℕ) (out : List ℕ) → said_to n wait out h ≡ Err (refusal.Plain reason.Table) → answer_in (report n) (front_in h) ≡ Err reason.Table
ask-faulted h j n wait out =
    subst (λ (x : Held). said_to n wait out x ≡ Err (refusal.Plain reason.Table) → answer_in (report n) (front_in x) ≡ Err reason.Table) (sym j.is) (by j.front j.sound j.groups j.ranged)
  where
    by : (f : Held) → HeldSound f → (g : List ℕ) → Groups (count_in (memory_of f)) g → said_to n wait out (join f g) ≡ Err (refusal.Plain reason.Table)
        → answer_in (report n) (front_in (join f g)) ≡ Err reason.Table
    by (old t) s g gs e =
        let some = front-some (old t) s in
        let size = front-size (old t) s in
        ap (old_layer.answers (report n)) (joined-front old_layer t some size g gs)
        ∙ faulted (old_layer.answers (report n) t) (ltb (length out) frame_size) (within 1 wait longest_wait) (distributes (port_at t (n - 1)).phase.mux) (is_awaiting (ask_at g (n - 1)).outcome)
        (sym (ask-answer old_layer t some size g gs n wait out) ∙ e)
    by (new w) s g gs e =
        let some = front-some (new w) s in
        let size = front-size (new w) s in
        ap (new_layer.answers (report n)) (joined-front new_layer w some size g gs)
        ∙ faulted (new_layer.answers (report n) w) (ltb (length out) frame_size) (within 1 wait longest_wait) (distributes (port_at (base_of w) (n - 1)).phase.mux) (is_awaiting (ask_at g (n - 1)).outcome)
        (sym (ask-answer new_layer w some size g gs n wait out) ∙ e)

-- ---- a fetch reads back, in any memory

fetched : (L : Layer) (m : List ℕ) (n : ℕ) (out : List ℕ) → asked_answer L (fetch n out) m ≡ Ok Done
    → (L.answers (fetch n out) (front_of L m) ≡ Ok Done) × (asked_outgoing L (fetch n out) m ≡ L.sends (fetch n out) (front_of L m))
unfolding asked_answer asked_outgoing
fetched L m n out e = by (has_asks L m) e
  where
    by : (b : Bool) → cond b (L.answers (fetch n out) (front_of L m)) (Err reason.Table) ≡ Ok Done
        → (L.answers (fetch n out) (front_of L m) ≡ Ok Done) × (cond b (L.sends (fetch n out) (front_of L m)) out ≡ L.sends (fetch n out) (front_of L m))
    by true f = (f, refl)
    by false f = absurd (false≢true (ap accepted f))

reads-back : (h : Held) (n : ℕ) (out : List ℕ) → answer_to (fetch n out) h ≡ Ok Done → Reads (table_in h) n (sent_by (fetch n out) h)
reads-back (old m) n out e = let k = fetched old_layer m n out e in subst (Reads (table_in (old m)) n) (sym k.1) (fronts.reads-back (front_in (old m)) n out k.0)
reads-back (new m) n out e = let k = fetched new_layer m n out e in subst (Reads (table_in (new m)) n) (sym k.1) (fronts.reads-back (front_in (new m)) n out k.0)

-- ---- who stays

-- a call that does not touch port i leaves what it asked for
ask-untouched : (c : Call) (t : List ℕ) (i : ℕ) → (touches c t i ≡ true → ⊥) → (L : Layer) (m : List ℕ) (a : Ask) → ask_by_call i c L m a ≡ a
ask-untouched (start count system delay x) t i not L m a = absurd (not refl)
ask-untouched (receive n frame out) t i not L m a = by (eqb i (n - 1)) refl
  where
    by : (b : Bool) → eqb i (n - 1) ≡ b → cond (b && is_ours L (receive n frame out) (front_of L m) (groups_of L m)) (ended Answered a) a ≡ a
    by true e = absurd (not (rw e refl))
    by false e = refl
ask-untouched tick t i not L m a = absurd (not refl)
ask-untouched (line n l) t i not L m a = by (eqb i (n - 1)) refl
  where
    by : (b : Bool) → eqb i (n - 1) ≡ b → cond (b && (accepted (asked_answer L (line n l) m) && falls_from (port_at (L.records (front_of L m)) (n - 1)).line l)) (ended Cancelled a) a ≡ a
    by true e = absurd (not e)
    by false e = refl
ask-untouched (configure n x) t i not L m a = refl
ask-untouched (fetch n out) t i not L m a = refl
ask-untouched (report n) t i not L m a = refl
ask-untouched (aggregator k) t i not L m a = refl
ask-untouched due t i not L m a = refl

pub below : (h : Held) (n : ℕ) → IsPort (front_in h) n → n - 1 < count_in (table_in h)
below h n p = let some = p.some in let most = p.most in omega (arith, some, most)

others_stay : (h : Held) → AskedMade h → (c : Call) → Takes c → (m : ℕ) → IsPort (front_in h) m
    → ((n : ℕ) → IsPort (front_in h) n → touches c (table_in h) (n - 1) ≡ true → Strangers c h m n) → AsItWas (plain (call c)) h m
others_stay h made c k m p f =
    let front = call-front h made c k in
    let far : (n : ℕ) → IsPort (front_in h) n → touches c (table_in h) (n - 1) ≡ true → FrontStrangers c (front_in h) m n =
    λ n q t. record {
      before = (f n q t).before;
      then = ap (λ (x : Held). shares_group (ours (table_in h)) (map compared (ports (records_of x))) (m - 1) (n - 1)) (sym front) ∙ (f n q t).then;
    } in
    let was = fronts.others_stay (front_in h) (front-made h made) c k m p far in
    record {
      fields = ap (λ (x : Held). record_of x m) front ∙ was.fields;
      monitors = ap (λ (x : Held). monitors_of x m) front ∙ was.monitors;
      asked = asks-follow h made (plain (call c)) k (m - 1) (below h m p)
          ∙ ask-untouched c (table_in h) (m - 1) (untouched (front_in h) (front-made h made) c k m p far) (layer_of h) (memory_of h) (ask_in (m - 1) h);
    }

ask-stays : (h : Held) → AskedMade h → (n wait : ℕ) (out : List ℕ) → Octets out → (m : ℕ) → IsPort (front_in h) m → m ≢ n → AsItWas (ask n wait out) h m
ask-stays h made n wait out o m p other =
    let front = ask-front h made n wait out o in
    record {
      fields = ap (λ (x : Held). record_of x m) front;
      monitors = ap (λ (x : Held). monitors_of x m) front;
      asked = asks-follow h made (ask n wait out) o (m - 1) (below h m p) ∙ by (agrees (said_to n wait out h)) refl (eqb (m - 1) (n - 1)) refl;
    }
  where
    by : (x : Bool) → agrees (said_to n wait out h) ≡ x → (y : Bool) → eqb (m - 1) (n - 1) ≡ y → cond (y && x) (asked wait (ask_in (m - 1) h)) (ask_in (m - 1) h) ≡ ask_in (m - 1) h
    by true e true f =
        let same = eqb-true (m - 1) (n - 1) f in
        let here = p.some in
        let there = (ask-passed h (made-joint h made) n wait out e).some in
        absurd (other (omega (arith, same, here, there)))
    by true e false f = refl
    by false e true f = refl
    by false e false f = refl

pub demands : Demands
demands = record {
  refused-table = λ h c r e. (held-refused h c r e).0;
  refused-buffer = λ h c r e. (held-refused h c r e).1;
  refused-ask = ask-refused;
  refused-forward = λ t u r e. unfold forward_to in unmoved (forward_answer t u) u (moved_forward (front_of old_layer t) ++ groups_of old_layer t) r e;
  refused-back = λ w u r e. unfold back_to in unmoved (back_answer w u) u (base_of (front_of new_layer w) ++ groups_of new_layer w) r e;
  made = made-by_deed;
  unfaulted = unfaulted;
  unfaulted-ask = λ h m n wait out e. fronts.unfaulted (front_in h) (front-made h m) (report n) refl (ask-faulted h (made-joint h m) n wait out e);
  finished = λ h m. fronts.finished (front_in h) (front-made h m);
  watched = λ w m n p. fronts.watched (front_of new_layer w) (front-made (new w) m) n p;
  reads-back = reads-back;
  aggregator = λ h m. fronts.aggregator (front_in h) (front-made h m);
  up = λ h m. fronts.up (front_in h) (front-made h m);
  in_sync_lem = λ h m. fronts.in_sync_lem (front_in h) (front-made h m);
  collected = λ h m. fronts.collected (front_in h) (front-made h m);
  group = λ h m. fronts.group (front_in h) (front-made h m);
  others_stay = others_stay;
  ask-stays = ask-stays;
  ask-records = ask-front;
}
