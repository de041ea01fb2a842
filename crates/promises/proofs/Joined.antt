-- Memory that is a front and the groups behind it: a call on it is the call on the front, and the groups come out in range and tell of what the definitions say. Over any
-- layer. Assumes nothing.
use Prim.Native.Nat.{ℕ, ◌-◌, ◌≤◌, ◌<◌}
use mathlib.Core.Path.{◌≡◌, refl, sym, ap, ◌∙◌, subst}
use mathlib.Core.Bool.{Bool, true, false, cond, ◌&&◌, false≢true, true≢false}
use mathlib.Core.List.{List, ◌++◌}
use lib.ListN.{length, take, drop}
use lib.Seq.{take_at, drop_at}
use lib.Dec.{eqb, ltb}
use borrow.Author.Tests.{eqb-true, eqb-false, eq-eqb, ne_eqb}
use Rattle.std.specs.Prelude.{Ok, Err}
use Rattle.octets.specs.Octets.{within}
use Rattle.octets.proofs.RangeLaws.{both, both_true, within-true}
use Rattle.frame.specs.declared.block.SystemId.{SystemId}
use Rattle.frame.specs.declared.wire.TensOfMicroseconds.{TensOfMicroseconds}
use Rattle.frame.specs.Class.{frame_size}
use Rattle.machine.specs.declared.states.Line.{Line}
use Rattle.machine.specs.Mux.{distributes}
use Rattle.settings.specs.declared.Settings.{Settings}
use Rattle.table.specs.Layout.{most_ports}
use Rattle.table.specs.Table.{count_in, port_at, ours}
use Rattle.asks.specs.declared.ask.Ask.{Ask}
use Rattle.asks.specs.declared.ask.Outcome.{Outcome}
use Rattle.asks.specs.declared.ask.Outcome.TheVariants.{Answered, Cancelled}
use Rattle.asks.specs.Ask.{longest_wait, is_awaiting, never_asked, asked, ended, ask_fallen}
use Rattle.asks.specs.Group.{ask_fits}
use Rattle.asks.specs.Groups.{ask_at, all_fallen, all_begun}
use Rattle.asks.proofs.AskLaws.{asked-fits, ended-fits}
use Rattle.asks.proofs.MadeLaws.{Groups, fits-at, begun-groups, begun-at, fallen-groups, fallen-at, put-groups, put_at_lem, put_other}
use Rattle.control.specs.Answer.{Answer, answer_number}
use Rattle.control.specs.declared.answer.Accepted.TheVariants.{Done}
use Rattle.control.specs.declared.answer.Reason.TheVariants as reason
use Rattle.control.specs.Accepted.{accepted}
use Rattle.control.specs.Call.{Call, start, receive, tick, line, configure, fetch, report, aggregator, due, is_start}
use Rattle.whole.specs.Calls.{count_for}
use Rattle.whole.proofs.FrontLaws.{plain-count}
use Rattle.asked.specs.declared.said.AskRefusal.TheVariants as refusal
use Rattle.asked.specs.Layer.{Layer}
use Rattle.asked.specs.Asked.{asked_size, front_of, groups_of, is_asked_room, has_asks, with_ask, ended_at, brings_back}
use Rattle.asked.specs.Calls.{front_for, groups_for, room_for, is_ours, falls_from, groups_after, asked_answer, asked_after, asked_outgoing}
use Rattle.asked.specs.Ask.{Said, unless_said, after_report, ask_tests, ask_answer, ask_after}
use Rattle.asked.proofs.JoinLaws as join
use Rattle.promises.specs.Asked.{agrees, ask_by_call}

-- a call that is no start asks for the groups' ranges
pub plain-asks : (L : Layer) (c : Call) → is_start c ≡ false → (m : List ℕ) → room_for L c m ≡ has_asks L m
plain-asks L (start count system delay x) s m = absurd (true≢false s)
plain-asks L (receive n frame out) s m = refl
plain-asks L tick s m = refl
plain-asks L (line n l) s m = refl
plain-asks L (configure n x) s m = refl
plain-asks L (fetch n out) s m = refl
plain-asks L (report n) s m = refl
plain-asks L (aggregator k) s m = refl
plain-asks L due s m = refl

-- the tests of an ask after those of a report: room, the time to wait, that the port distributes, and that it awaits none
abbrev pub room_tests : Bool → Bool → Bool → Bool → Said
room_tests a b c d = cond a (Err (refusal.Plain reason.Buffer)) (cond b (cond c (cond d (Err refusal.Awaiting) (Ok tt)) (Err refusal.NotDistributing)) (Err refusal.Wait))

-- what an ask leaves that is accepted, and one that is refused
pub agreed : {A : Type 0} (x y : A) (a : Said) → agrees a ≡ true → unless_said a x y ≡ y
agreed x y (Ok u) e = refl
agreed x y (Err r) e = absurd (false≢true e)

pub kept : {A : Type 0} (x y : A) (a : Said) → agrees a ≡ false → unless_said a x y ≡ x
kept x y (Ok u) e = absurd (true≢false e)
kept x y (Err r) e = refl

-- ---- an accepted start, on any memory

module _ (L : Layer) (m : List ℕ) (count : ℕ) (system : SystemId) (delay : TensOfMicroseconds) (x : Settings) (done : accepted (asked_answer L (start count system delay x) m) ≡ true) where
  begins : is_asked_room L m count ≡ true
  begins = by (is_asked_room L m count) refl
    where
      by : (b : Bool) → is_asked_room L m count ≡ b → is_asked_room L m count ≡ true
      by true e = e
      by false e = absurd (false≢true (sym (ap accepted (refused e)) ∙ done))
        where
          refused : is_asked_room L m count ≡ false → asked_answer L (start count system delay x) m ≡ Err reason.Table
          refused f = unfold asked_answer in rw f refl

  pub start-below : accepted (L.answers (start count system delay x) (take (L.size count) m)) ≡ true
  start-below = sym (ap accepted is) ∙ done
    where
      is : asked_answer L (start count system delay x) m ≡ L.answers (start count system delay x) (take (L.size count) m)
      is = unfold asked_answer in rw begins refl

  pub start-after : asked_after L (start count system delay x) m ≡ L.leaves (start count system delay x) (take (L.size count) m) ++ all_begun count
  start-after = unfold asked_after in rw (begins, start-below) refl

-- ---- a front w of a layer, and groups g behind it

module _ (L : Layer) (w : List ℕ) (some : 1 ≤ length w) (size : length w ≡ L.size (count_in w)) (g : List ℕ) (k : Groups (count_in w) g) where
  pub joined-count : count_in (w ++ g) ≡ count_in w
  joined-count = join.joined-count L w some size g k.size k.ranged

  pub joined-front : front_of L (w ++ g) ≡ w
  joined-front = join.joined-front L w some size g k.size k.ranged

  pub joined-groups : groups_of L (w ++ g) ≡ g
  joined-groups = join.joined-groups L w some size g k.size k.ranged

  pub joined-size : length (w ++ g) ≡ asked_size L (count_in w)
  joined-size = join.joined-size L w some size g k.size k.ranged

  pub joined-has : has_asks L (w ++ g) ≡ true
  joined-has = join.joined-has L w some size g k.size k.ranged

  -- ---- a call that is no start

  module _ (c : Call) (s : is_start c ≡ false) where
    room : room_for L c (w ++ g) ≡ true
    room = plain-asks L c s (w ++ g) ∙ joined-has

    its_front : front_for L c (w ++ g) ≡ w
    its_front = ap (λ (n : ℕ). take (L.size n) (w ++ g)) (plain-count c s (w ++ g)) ∙ joined-front

    its_groups : groups_for L c (w ++ g) ≡ g
    its_groups = ap (λ (n : ℕ). drop (L.size n) (w ++ g)) (plain-count c s (w ++ g)) ∙ joined-groups

    pub call-answer : asked_answer L c (w ++ g) ≡ cond (is_ours L c w g) (Ok Done) (L.answers c w)
    unfolding asked_answer
    call-answer = rw room (λ i. cond (is_ours L c (its_front i) (its_groups i)) (Ok Done) (L.answers c (its_front i)))

    pub call-after : asked_after L c (w ++ g) ≡ L.leaves c w ++ groups_after L c w g
    unfolding asked_after
    call-after = rw room (λ i. L.leaves c (its_front i) ++ groups_after L c (its_front i) (its_groups i))

    pub call-sends : asked_outgoing L c (w ++ g) ≡ L.sends c w
    unfolding asked_outgoing
    call-sends = rw room (ap (L.sends c) its_front)

  -- ---- one port's group, or none

  module _ (i : ℕ) (b : Bool) (a : Ask) (there : b ≡ true → i < count_in w) (fit : ask_fits a ≡ true) where
    pub one-groups : Groups (count_in w) (cond b (with_ask i a g) g)
    one-groups = by b refl
      where
        by : (x : Bool) → b ≡ x → Groups (count_in w) (cond x (with_ask i a g) g)
        by true e = put-groups (count_in w) g k i (there e) a fit
        by false e = k

    pub one-ask : (j : ℕ) → ask_at (cond b (with_ask i a g) g) j ≡ cond (eqb j i && b) a (ask_at g j)
    one-ask j = by b refl (eqb j i) refl
      where
        by : (x : Bool) → b ≡ x → (y : Bool) → eqb j i ≡ y → ask_at (cond x (with_ask i a g) g) j ≡ cond (y && x) a (ask_at g j)
        by true e true f = ap (ask_at (with_ask i a g)) (eqb-true j i f) ∙ put_at_lem (count_in w) g k i (there e) a fit
        by true e false f = put_other (count_in w) g k i (there e) a fit j f
        by false e true f = refl
        by false e false f = refl

  -- what is made of port i's, where it is the port that is looked at
  here : (F : Ask → Ask) (i j : ℕ) (b : Bool) → cond (eqb j i && b) (F (ask_at g i)) (ask_at g j) ≡ cond (eqb j i && b) (F (ask_at g j)) (ask_at g j)
  here F i j b = by (eqb j i) refl
    where
      by : (x : Bool) → eqb j i ≡ x → cond (x && b) (F (ask_at g i)) (ask_at g j) ≡ cond (x && b) (F (ask_at g j)) (ask_at g j)
      by true e = ap (λ (n : ℕ). cond b (F (ask_at g n)) (ask_at g j)) (sym (eqb-true j i e))
      by false e = refl

  never : (x : Bool) (a d : Ask) → cond (x && false) a d ≡ d
  never true a d = refl
  never false a d = refl

  -- ---- what a call leaves

  pub record CallJoined (c : Call) : Type 0 where
    pub groups : List ℕ
    pub ranged : Groups (count_in w) groups
    pub after : asked_after L c (w ++ g) ≡ L.leaves c w ++ groups
    pub asks : (i : ℕ) → i < count_in w → ask_at groups i ≡ ask_by_call i c L (w ++ g) (ask_at g i)

  -- a call that touches no group
  same : (c : Call) (s : is_start c ≡ false) → groups_after L c w g ≡ g → ((i : ℕ) → ask_at g i ≡ ask_by_call i c L (w ++ g) (ask_at g i)) → CallJoined c
  same c s e f = record { groups = g; ranged = k; after = call-after c s ∙ ap (λ (x : List ℕ). L.leaves c w ++ x) e; asks = λ i h. f i }

  -- a call that ends what one port awaits, if b
  at-port : (c : Call) (s : is_start c ≡ false) (o : Outcome) (i : ℕ) (b : Bool) → (b ≡ true → i < count_in w) → groups_after L c w g ≡ cond b (ended_at o i g) g
      → ((j : ℕ) → ask_by_call j c L (w ++ g) (ask_at g j) ≡ cond (eqb j i && b) (ended o (ask_at g j)) (ask_at g j)) → CallJoined c
  at-port c s o i b there grouped told = by b refl
    where
      by : (x : Bool) → b ≡ x → CallJoined c
      by true e =
          let fit = ended-fits o (ask_at g i) (fits-at (count_in w) g k i (there e)) in record {
            groups = cond b (ended_at o i g) g;
            ranged = one-groups i b (ended o (ask_at g i)) there fit;
            after = call-after c s ∙ ap (λ (x : List ℕ). L.leaves c w ++ x) grouped;
            asks = λ j h. one-ask i b (ended o (ask_at g i)) there fit j ∙ here (ended o) i j b ∙ sym (told j);
          }
      by false e = record {
        groups = g;
        ranged = k;
        after = call-after c s ∙ ap (λ (x : List ℕ). L.leaves c w ++ x) (grouped ∙ ap (λ (x : Bool). cond x (ended_at o i g) g) e);
        asks = λ j h. sym (told j ∙ ap (λ (x : Bool). cond (eqb j i && x) (ended o (ask_at g j)) (ask_at g j)) e ∙ never (eqb j i) (ended o (ask_at g j)) (ask_at g j));
      }

  module _ (few : within 1 (count_in w) most_ports ≡ true) (apart : (a b : ℕ) → asked_size L a ≡ asked_size L b → a ≡ b)
      (refuses : (count : ℕ) (x : Call) → is_start x ≡ true → count_for x w ≡ count → eqb count (count_in w) ≡ false → L.leaves x w ≡ w)
      (lined : (n : ℕ) (l : Line) → accepted (L.answers (line n l) w) ≡ true → n - 1 < count_in w)
      (heard : (n : ℕ) (frame out : List ℕ) → answer_number (L.answers (receive n frame out) w) ≡ 12 → n - 1 < count_in w) where
    pub call-joined : (c : Call) → CallJoined c
    call-joined (start count system delay x) = by (eqb count (count_in w)) refl
      where
        c : Call
        c = start count system delay x

        by : (b : Bool) → eqb count (count_in w) ≡ b → CallJoined (start count system delay x)
        by true e = unfold asked_after asked_answer in
            let is : count ≡ count_in w = eqb-true count (count_in w) e in
            let roomy : is_asked_room L (w ++ g) count ≡ true =
            ap (λ (n : ℕ). is_asked_room L (w ++ g) n) is ∙ both_true few (eq-eqb (length (w ++ g)) (asked_size L (count_in w)) joined-size) in
            let front : take (L.size count) (w ++ g) ≡ w = take_at w g (L.size count) (size ∙ ap L.size (sym is)) in
            let behind : drop (L.size count) (w ++ g) ≡ g = drop_at w g (L.size count) (size ∙ ap L.size (sym is)) in
            let begun : (y : Bool) → Groups (count_in w) (cond y (all_begun count) g) =
            λ y. choose y (subst (λ (n : ℕ). Groups (count_in w) (all_begun n)) (sym is) (begun-groups (count_in w))) in
            record {
              groups = cond (accepted (L.answers c w)) (all_begun count) g;
              ranged = begun (accepted (L.answers c w));
              after = rw roomy (λ i. L.leaves c (front i) ++ cond (accepted (L.answers c (front i))) (all_begun count) (behind i));
              asks = λ i h.
                  each i (accepted (L.answers c w)) (ap (λ (n : ℕ). ask_at (all_begun n) i) is ∙ begun-at (count_in w) i h)
                  ∙ sym (rw roomy (ap (λ (t : List ℕ). cond (accepted (L.answers c t)) never_asked (ask_at g i)) front));
            }
          where
            choose : (y : Bool) → Groups (count_in w) (all_begun count) → Groups (count_in w) (cond y (all_begun count) g)
            choose true z = z
            choose false z = k

            each : (i : ℕ) (y : Bool) → ask_at (all_begun count) i ≡ never_asked → ask_at (cond y (all_begun count) g) i ≡ cond y never_asked (ask_at g i)
            each i true z = z
            each i false z = refl
        by false e = unfold asked_after asked_answer in
            let none : is_asked_room L (w ++ g) count ≡ false = no_room in
            record {
              groups = g;
              ranged = k;
              after = rw none (ap (λ (t : List ℕ). t ++ g) (sym (refuses count c refl refl e)));
              asks = λ i h. rw none refl;
            }
          where
            and-false : (y : Bool) → y && false ≡ false
            and-false true = refl
            and-false false = refl

            no_room : is_asked_room L (w ++ g) count ≡ false
            no_room =
                ap (λ (y : Bool). within 1 count most_ports && y)
                (ne_eqb (length (w ++ g)) (asked_size L count) (λ f. eqb-false count (count_in w) e (sym (apart (count_in w) count (sym joined-size ∙ f)))))
                ∙ and-false (within 1 count most_ports)
    call-joined (receive n frame out) =
        let c = receive n frame out in
        let b : Bool = is_ours L c w g in
        let there : b ≡ true → n - 1 < count_in w =
        λ e. heard n frame out (eqb-true _ 12 (both (eqb (answer_number (L.answers c w)) 12) (brings_back n (ours (L.records w)).system.address frame (ask_at g (n - 1))) e).0) in
        at-port c refl Answered (n - 1) b there refl
        (λ i. ap (λ (x : Bool). cond (eqb i (n - 1) && x) (ended Answered (ask_at g i)) (ask_at g i)) (λ j. is_ours L c (joined-front (j)) (joined-groups (j))))
    call-joined tick = record {
      groups = cond (accepted (L.answers tick w)) (all_fallen (count_in w) g) g;
      ranged = choose (accepted (L.answers tick w));
      after = call-after tick refl;
      asks = λ i h. each i h (accepted (L.answers tick w)) ∙ sym (ap (λ (x : Answer). cond (accepted x) (ask_fallen (ask_at g i)) (ask_at g i)) (call-answer tick refl));
    }
      where
        choose : (y : Bool) → Groups (count_in w) (cond y (all_fallen (count_in w) g) g)
        choose true = fallen-groups (count_in w) g k
        choose false = k

        each : (i : ℕ) → i < count_in w → (y : Bool) → ask_at (cond y (all_fallen (count_in w) g) g) i ≡ cond y (ask_fallen (ask_at g i)) (ask_at g i)
        each i h true = fallen-at (count_in w) g k i h
        each i h false = refl
    call-joined (line n l) =
        let c = line n l in
        let falls = falls_from (port_at (L.records w) (n - 1)).line l in
        let b : Bool = accepted (L.answers c w) && falls in
        at-port c refl Cancelled (n - 1) b (λ e. lined n l (both (accepted (L.answers c w)) falls e).0) refl
        (λ i. λ j. cond (eqb i (n - 1) && (accepted (call-answer c refl j) && falls_from (port_at (L.records (joined-front j)) (n - 1)).line l)) (ended Cancelled (ask_at g i)) (ask_at g i))
    call-joined (configure n x) = same (configure n x) refl refl (λ i. refl)
    call-joined (fetch n out) = same (fetch n out) refl refl (λ i. refl)
    call-joined (report n) = same (report n) refl refl (λ i. refl)
    call-joined (aggregator m) = same (aggregator m) refl refl (λ i. refl)
    call-joined due = same due refl refl (λ i. refl)

  -- ---- an ask

  pub ask-answer : (n wait : ℕ) (out : List ℕ) → ask_answer L n wait out (w ++ g) ≡ ask_tests L n wait out w g
  unfolding ask_answer
  ask-answer n wait out = rw joined-has (λ i. ask_tests L n wait out (joined-front i) (joined-groups i))

  -- one that is accepted has passed its tests
  pub tests_pass : (n wait : ℕ) (out : List ℕ) → agrees (ask_tests L n wait out w g) ≡ true → (accepted (L.answers (report n) w) ≡ true) × (within 1 wait longest_wait ≡ true) × (is_awaiting (ask_at g (n - 1)).outcome ≡ false)
  tests_pass n wait out e =
      by (L.answers (report n) w) (ltb (length out) frame_size) (within 1 wait longest_wait) (distributes (port_at (L.records w) (n - 1)).phase.mux) (is_awaiting (ask_at g (n - 1)).outcome) e
    where
      passed : (a b c d : Bool) → agrees (room_tests a b c d) ≡ true → (b ≡ true) × (d ≡ false)
      passed true b c d f = absurd (false≢true f)
      passed false true true true f = absurd (false≢true f)
      passed false true true false f = (refl, refl)
      passed false true false d f = absurd (false≢true f)
      passed false false c d f = absurd (false≢true f)

      by : (r : Answer) (a b c d : Bool) → agrees (after_report r (room_tests a b c d)) ≡ true
          → (accepted r ≡ true) × (b ≡ true) × (d ≡ false)
      by (Ok x) a b c d f = (let p = passed a b c d f in (refl, p.0, p.1))
      by (Err r) a b c d f = absurd (false≢true f)

  pub record AskJoined (n wait : ℕ) (out : List ℕ) : Type 0 where
    pub groups : List ℕ
    pub ranged : Groups (count_in w) groups
    pub after : ask_after L n wait out (w ++ g) ≡ w ++ groups
    pub asks : (i : ℕ) → ask_at groups i ≡ cond (eqb i (n - 1) && agrees (ask_answer L n wait out (w ++ g))) (asked wait (ask_at g i)) (ask_at g i)

  abbrev leftover : ℕ → ℕ → List ℕ
  leftover n wait = front_of L (w ++ g) ++ with_ask (n - 1) (asked wait (ask_at (groups_of L (w ++ g)) (n - 1))) (groups_of L (w ++ g))

  leftover_is : (n wait : ℕ) → leftover n wait ≡ w ++ with_ask (n - 1) (asked wait (ask_at g (n - 1))) g
  leftover_is n wait = λ i. joined-front i ++ with_ask (n - 1) (asked wait (ask_at (joined-groups i) (n - 1))) (joined-groups i)

  pub ask-joined : (n wait : ℕ) (out : List ℕ) → (accepted (L.answers (report n) w) ≡ true → n - 1 < count_in w) → AskJoined n wait out
  unfolding ask_after
  ask-joined n wait out reported = by (agrees (ask_answer L n wait out (w ++ g))) refl
    where
      by : (b : Bool) → agrees (ask_answer L n wait out (w ++ g)) ≡ b → AskJoined n wait out
      by true e =
          let a : Ask = asked wait (ask_at g (n - 1)) in
          let passed = tests_pass n wait out (ap agrees (sym (ask-answer n wait out)) ∙ e) in
          let there = reported passed.0 in
          let fit = asked-fits wait (ask_at g (n - 1)) (within-true 1 wait longest_wait passed.1).1 in
          record {
            groups = with_ask (n - 1) a g;
            ranged = put-groups (count_in w) g k (n - 1) there a fit;
            after = agreed (w ++ g) (leftover n wait) (ask_answer L n wait out (w ++ g)) e ∙ leftover_is n wait;
            asks = λ i. one-ask (n - 1) true a (λ t. there) fit i ∙ here (asked wait) (n - 1) i true ∙ sym (ap (λ (b : Bool). cond (eqb i (n - 1) && b) (asked wait (ask_at g i)) (ask_at g i)) e);
          }
      by false e = record {
        groups = g;
        ranged = k;
        after = kept (w ++ g) (leftover n wait) (ask_answer L n wait out (w ++ g)) e;
        asks = λ i. sym (ap (λ (b : Bool). cond (eqb i (n - 1) && b) (asked wait (ask_at g i)) (ask_at g i)) e ∙ never (eqb i (n - 1)) (asked wait (ask_at g i)) (ask_at g i));
      }
