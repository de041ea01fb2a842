-- Every table that a run of the library makes is a sound front and groups in range; on the front the run is one of calls and moves, and each step does to what a port asked
-- for what the definitions say. Assumes nothing.
use Prim.Native.Nat.{ℕ, ◌-◌, ◌≤◌, ◌<◌}
use mathlib.Core.Path.{◌≡◌, refl, sym, ap, ◌∙◌, subst}
use mathlib.Core.Bool.{Bool, true, false, cond, ◌&&◌, and-false, false≢true}
use mathlib.Core.List.{List, [], ◌∷◌, ◌++◌}
use native.Mathlib.Omega.{arith}
use lib.ListN.{length, take}
use lib.Seq.{length-take-le}
use lib.Dec.{eqb}
use borrow.Author.Tests.{eqb-true, eqb-false, eq-eqb, ne_eqb, le-leb}
use Rattle.std.specs.Prelude.{Ok, Err}
use Rattle.octets.specs.Octets.{within}
use Rattle.octets.proofs.OctetLists.{take-octets}
use Rattle.octets.proofs.RangeLaws.{both_true, within-true}
use Rattle.machine.specs.declared.states.Line.{Line}
use Rattle.table.specs.Layout.{place, most_ports, table_size}
use Rattle.table.specs.Table.{count_in, table_in_range, is_room}
use Rattle.table.proofs.TableLaws.{in_range}
use Rattle.churn.specs.Whole.{whole_size, base_of}
use Rattle.churn.proofs.WholeLaws.{base-count}
use Rattle.asks.specs.Groups.{ask_at, all_begun}
use Rattle.asks.proofs.MadeLaws.{Groups, begun-groups}
use Rattle.control.specs.Answer.{Answer, answer_number, with_default}
use Rattle.control.specs.declared.answer.Accepted.TheVariants.{Done}
use Rattle.control.specs.declared.answer.Reason.TheVariants as reason
use Rattle.control.specs.Accepted.{accepted}
use Rattle.control.specs.Call.{Call, start, receive, tick, line, configure, fetch, report, aggregator, due, is_start}
use Rattle.control.specs.After.{answer, after}
use Rattle.control.proofs.CallLaws.{after-accepted, refused-table}
use Rattle.control.proofs.CountLaws.{started-count}
use Rattle.whole.specs.Calls.{count_for, whole_after}
use Rattle.whole.specs.Moves.{moved_forward, goes_forward as frontForward, goes_back as frontBack}
use Rattle.whole.proofs.CallLaws.{whole-size, accepted-number}
use Rattle.whole.proofs.FrontLaws.{lost_after, front-answer}
use Rattle.whole.proofs.MoveLaws.{forward-count}
use Rattle.asked.specs.Layer.{old_layer, new_layer}
use Rattle.asked.specs.Asked.{asked_size, front_of, groups_of, has_asks}
use Rattle.asked.specs.Moves.{forward_answer, forward_to, back_answer, back_to}
use Rattle.asked.proofs.CallLaws.{Responds, response-below}
use Rattle.claims.specs.Run.{Takes}
use Rattle.claims.specs.AtRest.{Sound}
use Rattle.claims.proofs.Counts.{call-count}
use Rattle.promises.specs.Run.{Held, old, new, memory_of, records_of, answer_in, Step, call, forward, back, stepped, through, AllStepsTake, FromStart, HeldMade}
use Rattle.promises.specs.Whole.{WholeSound, HeldSound}
use Rattle.promises.specs.Asked.{layer_of, holding, front_in, groups_in, Deed, plain, ask, done, after-all, DeedTakes, AllTaken, Begun, AskedMade, front_step, ask_by}
use Rattle.promises.proofs.Run.{steps-go, records-sound, sound-call, started, start-sound, went-forward, went_back}
use Rattle.promises.proofs.Joined.{joined-count, joined-front, joined-groups, joined-size, joined-has, call-joined, ask-joined, start-below, start-after}

-- ---- a sound front

pub records-count : (f : Held) → count_in (records_of f) ≡ count_in (memory_of f)
records-count (old t) = refl
records-count (new w) = base-count w

pub front-size : (f : Held) → HeldSound f → length (memory_of f) ≡ (layer_of f).size (count_in (memory_of f))
front-size (old t) s = (in_range t s.ranged).size
front-size (new w) s = whole-size w s.ranged

front-few : (f : Held) → HeldSound f → within 1 (count_in (memory_of f)) most_ports ≡ true
front-few f s =
    let r = in_range (records_of f) (records-sound f s).ranged in
    ap (λ (n : ℕ). within 1 n most_ports) (sym (records-count f)) ∙ both_true (le-leb 1 (count_in (records_of f)) r.least) (le-leb (count_in (records_of f)) most_ports r.most)

pub front-some : (f : Held) → HeldSound f → 1 ≤ length (memory_of f)
front-some (old t) s = let z = (in_range t s.ranged).size in omega (arith, z)
front-some (new w) s = let z = whole-size w s.ranged in omega (arith, z)

-- calls that name a port and are accepted have it
there : (f : Held) → HeldSound f → (n : ℕ) (rest : Answer) → accepted (cond (table_in_range (records_of f)) (cond (within 1 n (count_in (records_of f))) rest (Err reason.Number)) (Err reason.Table)) ≡ true → n - 1 < count_in (memory_of f)
there f s n rest e =
    let h = within-true 1 n (count_in (records_of f)) (accepted-number (records_of f) n rest e) in
    let some = h.0 in
    let most = h.1 in
    let c = records-count f in
    omega (arith, some, most, c)

lined : (f : Held) → HeldSound f → (n : ℕ) (l : Line) → accepted (answer_in (line n l) f) ≡ true → n - 1 < count_in (memory_of f)
unfolding answer
lined f s n l e = there f s n (Ok Done) (sym (ap accepted (sound-call f s (line n l) tt).answers) ∙ e)

pub reported : (f : Held) → HeldSound f → (n : ℕ) → accepted (answer_in (report n) f) ≡ true → n - 1 < count_in (memory_of f)
unfolding answer
reported f s n e = there f s n (Ok Done) (sym (ap accepted (sound-call f s (report n) tt).answers) ∙ e)

pub named : (f : Held) → HeldSound f → (n : ℕ) → accepted (answer_in (report n) f) ≡ true → 1 ≤ n
unfolding answer
named f s n e =
    (within-true 1 n (count_in (records_of f)) (accepted-number (records_of f) n (Ok Done) (sym (ap accepted (sound-call f s (report n) tt).answers) ∙ e))).0

heard : (f : Held) → HeldSound f → (n : ℕ) (frame out : List ℕ) → answer_number (answer_in (receive n frame out) f) ≡ 12 → n - 1 < count_in (memory_of f)
heard f s n frame out e =
    let r = found f s n frame out e in
    let some = r.some in
    let most = r.most in
    let c = records-count f in
    omega (arith, some, most, c)
  where
    found : (f : Held) → HeldSound f → (n : ℕ) (frame out : List ℕ) → answer_number (answer_in (receive n frame out) f) ≡ 12 → Responds (records_of f) n frame
    found (old t) s n frame out e = response-below n frame out t e
    found (new w) s n frame out e = unfold base_of in
        response-below n frame out (base_of w) (sym (ap answer_number (front-answer (receive n frame out) w (count_in w) refl s.ranged)) ∙ e)

-- a start of another count is refused
refuses_old : (t : List ℕ) → Sound t → (count : ℕ) (x : Call) → is_start x ≡ true → count_for x t ≡ count → eqb count (count_in t) ≡ false → after x t ≡ t
refuses_old t s count (start n system delay z) i is e = unfold answer in
    let size = (in_range t s.ranged).size in
    let other : eqb n (count_in t) ≡ false = ap (λ (k : ℕ). eqb k (count_in t)) is ∙ e in
    let none : is_room t n ≡ false =
    ap (λ (b : Bool). within 1 n most_ports && b) (ne_eqb (length t) (table_size n) (λ q. let u = eqb-false n (count_in t) other in u (omega (arith, q, size)))) ∙ and-false (within 1 n most_ports) in
    refused-table (start n system delay z) t (ap (λ (b : Bool). cond b (with_default z (Ok Done)) (Err reason.Table)) none)
refuses_old t s count (receive n frame out) i is e = absurd (false≢true i)
refuses_old t s count tick i is e = absurd (false≢true i)
refuses_old t s count (line n l) i is e = absurd (false≢true i)
refuses_old t s count (configure n x) i is e = absurd (false≢true i)
refuses_old t s count (fetch n out) i is e = absurd (false≢true i)
refuses_old t s count (report n) i is e = absurd (false≢true i)
refuses_old t s count (aggregator k) i is e = absurd (false≢true i)
refuses_old t s count due i is e = absurd (false≢true i)

refuses_new : (w : List ℕ) → WholeSound w → (count : ℕ) (x : Call) → is_start x ≡ true → count_for x w ≡ count → eqb count (count_in w) ≡ false → whole_after x w ≡ w
refuses_new w s count (start n system delay z) i is e =
    let size = whole-size w s.ranged in
    let other : eqb n (count_in w) ≡ false = ap (λ (k : ℕ). eqb k (count_in w)) is ∙ e in
    lost_after (start n system delay z) w
    (ap (λ (b : Bool). within 1 n most_ports && b) (ne_eqb (length w) (whole_size n) (λ q. let u = eqb-false n (count_in w) other in u (omega (arith, q, size)))) ∙ and-false (within 1 n most_ports))
refuses_new w s count (receive n frame out) i is e = absurd (false≢true i)
refuses_new w s count tick i is e = absurd (false≢true i)
refuses_new w s count (line n l) i is e = absurd (false≢true i)
refuses_new w s count (configure n x) i is e = absurd (false≢true i)
refuses_new w s count (fetch n out) i is e = absurd (false≢true i)
refuses_new w s count (report n) i is e = absurd (false≢true i)
refuses_new w s count (aggregator k) i is e = absurd (false≢true i)
refuses_new w s count due i is e = absurd (false≢true i)

-- the count stays
count-stays : (f : Held) → HeldSound f → (c : Call) → Takes c → count_in (memory_of (stepped (call c) f)) ≡ count_in (memory_of f)
count-stays f s c k =
    sym (records-count (stepped (call c) f)) ∙ ap count_in (sound-call f s c k).leaves ∙ call-count (records_of f) (records-sound f s) c ∙ records-count f

-- ---- a front and groups

abbrev pub join : Held → List ℕ → Held
join f g = holding f (memory_of f ++ g)

-- what a step leaves of them
pub record JointStep (d : Deed) (f : Held) (g : List ℕ) : Type 0 where
  pub groups : List ℕ
  pub ranged : Groups (count_in (memory_of (through f (front_step d (join f g))))) groups
  pub is : done d (join f g) ≡ join (through f (front_step d (join f g))) groups
  pub count : count_in (memory_of (through f (front_step d (join f g)))) ≡ count_in (memory_of f)
  pub asks : (i : ℕ) → i < count_in (memory_of f) → ask_at groups i ≡ ask_by i d (join f g) (ask_at g i)

call_step : (c : Call) → Takes c → (f : Held) → HeldSound f → (g : List ℕ) → Groups (count_in (memory_of f)) g → JointStep (plain (call c)) f g
unfolding done through stepped
call_step c k (old t) s g gs =
    let j = call-joined old_layer t (front-some (old t) s) (front-size (old t) s) g gs (front-few (old t) s) (λ a b e. omega (arith, e)) (refuses_old t s) (lined (old t) s) (heard (old t) s) c in
    let kept = count-stays (old t) s c k in
    record { groups = j.groups; ranged = subst (λ (n : ℕ). Groups n j.groups) (sym kept) j.ranged; is = ap old j.after; count = kept; asks = j.asks }
call_step c k (new w) s g gs =
    let j = call-joined new_layer w (front-some (new w) s) (front-size (new w) s) g gs (front-few (new w) s) (λ a b e. omega (arith, e)) (refuses_new w s) (lined (new w) s) (heard (new w) s) c in
    let kept = count-stays (new w) s c k in
    record { groups = j.groups; ranged = subst (λ (n : ℕ). Groups n j.groups) (sym kept) j.ranged; is = ap new j.after; count = kept; asks = j.asks }

-- ---- moves

one-through : (f : Held) (s : Step) → through f (s ∷ []) ≡ stepped s f
unfolding through
one-through f s = refl

stays-forward : (h : Held) (u : List ℕ) → forward_answer (memory_of h) u ≡ Err reason.Table → done (plain (forward u)) h ≡ h
unfolding done
stays-forward h u e = rw e

stays-back : (h : Held) (u : List ℕ) → back_answer (memory_of h) u ≡ Err reason.Table → done (plain (back u)) h ≡ h
unfolding done
stays-back h u e = rw e

goes-forward : (m u : List ℕ) → forward_answer m u ≡ Ok Done → done (plain (forward u)) (old m) ≡ new (moved_forward (front_of old_layer m) ++ groups_of old_layer m)
unfolding done forward_to
goes-forward m u e = rw e

goes_back_lem : (m u : List ℕ) → back_answer m u ≡ Ok Done → done (plain (back u)) (new m) ≡ old (base_of (front_of new_layer m) ++ groups_of new_layer m)
unfolding done back_to
goes_back_lem m u e = rw e

-- a step that leaves all as it was
stands : (d : Deed) (f : Held) (g : List ℕ) → Groups (count_in (memory_of f)) g → done d (join f g) ≡ join f g → front_step d (join f g) ≡ []
    → ((i : ℕ) → ask_by i d (join f g) (ask_at g i) ≡ ask_at g i) → JointStep d f g
unfolding through
stands d f g gs is none same =
    let back : f ≡ through f (front_step d (join f g)) = ap (through f) (sym none) in record {
      groups = g;
      ranged = subst (λ (x : Held). Groups (count_in (memory_of x)) g) back gs;
      is = is ∙ ap (λ (x : Held). join x g) back;
      count = ap (λ (x : Held). count_in (memory_of x)) (sym back);
      asks = λ i h. sym (same i);
    }

module _ (u : List ℕ) where
  -- no table is of both forms
  new_no_old : (w g : List ℕ) → WholeSound w → Groups (count_in w) g → forward_answer (w ++ g) u ≡ Err reason.Table
  unfolding forward_answer has_asks
  new_no_old w g s gs =
      let size = joined-size new_layer w (front-some (new w) s) (front-size (new w) s) g gs in
      let count = joined-count new_layer w (front-some (new w) s) (front-size (new w) s) g gs in
      let least = (in_range (base_of w) s.base.ranged).least in
      let c = base-count w in
      rw (ne_eqb (length (w ++ g)) (asked_size old_layer (count_in (w ++ g))) (λ e. omega (arith, e, size, count, least, c)))

  old_no_new : (t g : List ℕ) → Sound t → Groups (count_in t) g → back_answer (t ++ g) u ≡ Err reason.Table
  unfolding back_answer has_asks
  old_no_new t g s gs =
      let size = joined-size old_layer t (front-some (old t) s) (front-size (old t) s) g gs in
      let count = joined-count old_layer t (front-some (old t) s) (front-size (old t) s) g gs in
      let least = (in_range t s.ranged).least in
      rw (ne_eqb (length (t ++ g)) (asked_size new_layer (count_in (t ++ g))) (λ e. omega (arith, e, size, count, least)))

  forward-step : (f : Held) → HeldSound f → (g : List ℕ) → Groups (count_in (memory_of f)) g → JointStep (plain (forward u)) f g
  forward-step (new w) s g gs =
      let no_move = new_no_old w g s gs in
      stands (plain (forward u)) (new w) g gs (stays-forward (new (w ++ g)) u no_move) (rw no_move refl) (λ i. refl)
  forward-step (old t) s g gs = by (eqb (length u) (asked_size new_layer (count_in (t ++ g)))) refl
    where
      has : has_asks old_layer (t ++ g) ≡ true
      has = joined-has old_layer t (front-some (old t) s) (front-size (old t) s) g gs

      front : front_of old_layer (t ++ g) ≡ t
      front = joined-front old_layer t (front-some (old t) s) (front-size (old t) s) g gs

      behind : groups_of old_layer (t ++ g) ≡ g
      behind = joined-groups old_layer t (front-some (old t) s) (front-size (old t) s) g gs

      count : count_in (t ++ g) ≡ count_in t
      count = joined-count old_layer t (front-some (old t) s) (front-size (old t) s) g gs

      by : (b : Bool) → eqb (length u) (asked_size new_layer (count_in (t ++ g))) ≡ b → JointStep (plain (forward u)) (old t) g
      by false e =
          let no_move : forward_answer (t ++ g) u ≡ Err reason.Table = unfold forward_answer in rw (e, has, front, s.ranged) refl in
          stands (plain (forward u)) (old t) g gs (stays-forward (old (t ++ g)) u no_move) (rw no_move refl) (λ i. refl)
      by true e =
          let moves : forward_answer (t ++ g) u ≡ (Ok Done) = unfold forward_answer in rw (e, has, front, s.ranged) refl in
          let long = eqb-true (length u) (asked_size new_layer (count_in (t ++ g))) e in
          let short = length-take-le (whole_size (count_in (t ++ g))) u (omega (arith, long)) in
          let goes : frontForward t (take (whole_size (count_in (t ++ g))) u) ≡ true = rw s.ranged (eq-eqb _ _ (short ∙ ap whole_size count)) in
          let to : through (old t) (front_step (plain (forward u)) (old (t ++ g))) ≡ new (moved_forward t) =
          ap (λ (a : Answer). through (old t) (cond (accepted a) (forward (take (whole_size (count_in (t ++ g))) u) ∷ []) [])) moves ∙ one-through (old t) (forward (take (whole_size (count_in (t ++ g))) u)) ∙ went-forward t (take (whole_size (count_in (t ++ g))) u) goes in
          let kept = forward-count t s.ranged in
          record {
            groups = g;
            ranged = subst (λ (x : Held). Groups (count_in (memory_of x)) g) (sym to) (subst (λ (n : ℕ). Groups n g) (sym kept) gs);
            is = goes-forward (t ++ g) u moves
                ∙ (λ i. new (moved_forward (front i) ++ behind i)) ∙ ap (λ (x : Held). join x g) (sym to);
            count = ap (λ (x : Held). count_in (memory_of x)) to ∙ kept;
            asks = λ i h. refl;
          }

  back_step : (f : Held) → HeldSound f → (g : List ℕ) → Groups (count_in (memory_of f)) g → JointStep (plain (back u)) f g
  back_step (old t) s g gs =
      let no_move = old_no_new t g s gs in
      stands (plain (back u)) (old t) g gs (stays-back (old (t ++ g)) u no_move) (rw no_move refl) (λ i. refl)
  back_step (new w) s g gs = by (eqb (length u) (asked_size old_layer (count_in (w ++ g)))) refl
    where
      has : has_asks new_layer (w ++ g) ≡ true
      has = joined-has new_layer w (front-some (new w) s) (front-size (new w) s) g gs

      front : front_of new_layer (w ++ g) ≡ w
      front = joined-front new_layer w (front-some (new w) s) (front-size (new w) s) g gs

      behind : groups_of new_layer (w ++ g) ≡ g
      behind = joined-groups new_layer w (front-some (new w) s) (front-size (new w) s) g gs

      count : count_in (w ++ g) ≡ count_in w
      count = joined-count new_layer w (front-some (new w) s) (front-size (new w) s) g gs

      by : (b : Bool) → eqb (length u) (asked_size old_layer (count_in (w ++ g))) ≡ b → JointStep (plain (back u)) (new w) g
      by false e =
          let no_move : back_answer (w ++ g) u ≡ Err reason.Table = unfold back_answer in rw (e, has, front, s.ranged, s.base.ranged) refl in
          stands (plain (back u)) (new w) g gs (stays-back (new (w ++ g)) u no_move) (rw no_move refl) (λ i. refl)
      by true e =
          let moves : back_answer (w ++ g) u ≡ (Ok Done) = unfold back_answer in rw (e, has, front, s.ranged, s.base.ranged) refl in
          let long = eqb-true (length u) (asked_size old_layer (count_in (w ++ g))) e in
          let short = length-take-le (place (count_in (w ++ g))) u (omega (arith, long)) in
          let goes : frontBack w (take (place (count_in (w ++ g))) u) ≡ true = rw (s.ranged, s.base.ranged) (eq-eqb _ _ (short ∙ ap place count)) in
          let to : through (new w) (front_step (plain (back u)) (new (w ++ g))) ≡ old (base_of w) =
          ap (λ (a : Answer). through (new w) (cond (accepted a) (back (take (place (count_in (w ++ g))) u) ∷ []) [])) moves ∙ one-through (new w) (back (take (place (count_in (w ++ g))) u)) ∙ went_back w (take (place (count_in (w ++ g))) u) goes in
          let kept = base-count w in
          record {
            groups = g;
            ranged = subst (λ (x : Held). Groups (count_in (memory_of x)) g) (sym to) (subst (λ (n : ℕ). Groups n g) (sym kept) gs);
            is = goes_back_lem (w ++ g) u moves
                ∙ (λ i. old (base_of (front i) ++ behind i)) ∙ ap (λ (x : Held). join x g) (sym to);
            count = ap (λ (x : Held). count_in (memory_of x)) to ∙ kept;
            asks = λ i h. refl;
          }

-- ---- an ask, and so any step

ask-step : (n wait : ℕ) (out : List ℕ) (f : Held) → HeldSound f → (g : List ℕ) → Groups (count_in (memory_of f)) g → JointStep (ask n wait out) f g
unfolding done through
ask-step n wait out (old t) s g gs =
    let j = ask-joined old_layer t (front-some (old t) s) (front-size (old t) s) g gs n wait out (reported (old t) s n) in
    record { groups = j.groups; ranged = j.ranged; is = ap old j.after; count = refl; asks = λ i h. j.asks i }
ask-step n wait out (new w) s g gs =
    let j = ask-joined new_layer w (front-some (new w) s) (front-size (new w) s) g gs n wait out (reported (new w) s n) in
    record { groups = j.groups; ranged = j.ranged; is = ap new j.after; count = refl; asks = λ i h. j.asks i }

pub deed_step : (d : Deed) → DeedTakes d → (f : Held) → HeldSound f → (g : List ℕ) → Groups (count_in (memory_of f)) g → JointStep d f g
deed_step (plain (call c)) k f s g gs = call_step c k f s g gs
deed_step (plain (forward u)) k f s g gs = forward-step u f s g gs
deed_step (plain (back u)) k f s g gs = back_step u f s g gs
deed_step (ask n wait out) k f s g gs = ask-step n wait out f s g gs

-- the step of the front takes what it is given
pub front-takes : (d : Deed) → DeedTakes d → (h : Held) → AllStepsTake (front_step d h)
front-takes (plain (call c)) k h = (k, tt)
front-takes (plain (forward u)) k h = by (accepted (forward_answer (memory_of h) u))
  where
    by : (b : Bool) → AllStepsTake (cond b (forward (take (whole_size (count_in (memory_of h))) u) ∷ []) [])
    by true = (take-octets (whole_size (count_in (memory_of h))) u k, tt)
    by false = tt
front-takes (plain (back u)) k h = by (accepted (back_answer (memory_of h) u))
  where
    by : (b : Bool) → AllStepsTake (cond b (back (take (place (count_in (memory_of h))) u) ∷ []) [])
    by true = (take-octets (place (count_in (memory_of h))) u k, tt)
    by false = tt
front-takes (ask n wait out) k h = tt

-- ---- tables that are a sound front and groups

pub record Joint (h : Held) : Type 0 where
  pub front : Held
  pub groups : List ℕ
  pub sound : HeldSound front
  pub ranged : Groups (count_in (memory_of front)) groups
  pub is : h ≡ join front groups

-- a run goes on with them, and on the front it is a run
pub record JointRun (f : Held) (h : Held) : Type 0 where
  pub joint : Joint h
  pub steps : List Step
  pub takes : AllStepsTake steps
  pub gives : through f steps ≡ joint.front

pub through-join : (f : Held) (ss zs : List Step) → through f (ss ++ zs) ≡ through (through f ss) zs
unfolding through
through-join f [] zs = refl
through-join f (s ∷ ss) zs = through-join (stepped s f) ss zs

pub takes-join : (ss zs : List Step) → AllStepsTake ss → AllStepsTake zs → AllStepsTake (ss ++ zs)
takes-join [] zs a b = b
takes-join (s ∷ ss) zs a b = (a.0, takes-join ss zs a.1 b)

pub run-joint : (ds : List Deed) → AllTaken ds → (f : Held) → HeldSound f → (g : List ℕ) → Groups (count_in (memory_of f)) g → JointRun f (after-all (join f g) ds)
unfolding after-all through
run-joint [] k f s g gs = record { joint = record { front = f; groups = g; sound = s; ranged = gs; is = refl }; steps = []; takes = tt; gives = refl }
run-joint (d ∷ ds) k f s g gs =
    let one = deed_step d k.0 f s g gs in
    let zs = front_step d (join f g) in
    let ok = front-takes d k.0 (join f g) in
    let rest = run-joint ds k.1 (through f zs) (steps-go f s zs ok).sound one.groups one.ranged in
    let moved : JointRun (through f zs) (after-all (done d (join f g)) ds) = subst (λ (h : Held). JointRun (through f zs) (after-all h ds)) (sym one.is) rest in
    record {
      joint = moved.joint;
      steps = zs ++ moved.steps;
      takes = takes-join zs moved.steps ok moved.takes;
      gives = through-join f zs moved.steps ∙ moved.gives;
    }

-- ---- a start

pub record JointStart (h : Held) (c : Call) : Type 0 where
  pub front : Held
  pub begun : FromStart front c []
  pub ports : ℕ
  pub count : count_in (memory_of (stepped (call c) front)) ≡ ports
  pub is : done (plain (call c)) h ≡ join (stepped (call c) front) (all_begun ports)

start-count : (f : Held) (c : Call) (b : FromStart f c []) → count_in (memory_of (stepped (call c) f)) ≡ (started f c [] b).count
start-count f c b =
    let s = started f c [] b in
    sym (records-count (stepped (call c) f)) ∙ ap count_in (sym s.leaves) ∙ ap count_in (after-accepted s.memory (start s.count s.system s.delay s.settings) s.starts)
    ∙ started-count s.memory s.count s.system s.delay s.settings

joint-start : (h : Held) (c : Call) (ds : List Deed) → Begun h c ds → JointStart h c
unfolding done stepped started
joint-start (old m) (start count system delay x) ds b =
    let e = b.accepted in
    let f : FromStart (old (take (place count) m)) (start count system delay x) [] =
    record { octets = take-octets (place count) m b.octets; is_start = refl; accepted = start-below old_layer m count system delay x e; takes = (b.takes.0, tt) } in
    record { front = old (take (place count) m); begun = f; ports = count; count = start-count (old (take (place count) m)) (start count system delay x) f; is = ap old (start-after old_layer m count system delay x e) }
joint-start (new m) (start count system delay x) ds b =
    let e = b.accepted in
    let f : FromStart (new (take (whole_size count) m)) (start count system delay x) [] =
    record { octets = take-octets (whole_size count) m b.octets; is_start = refl; accepted = start-below new_layer m count system delay x e; takes = (b.takes.0, tt) } in
    record { front = new (take (whole_size count) m); begun = f; ports = count; count = start-count (new (take (whole_size count) m)) (start count system delay x) f; is = ap new (start-after new_layer m count system delay x e) }
joint-start h (receive n frame out) ds b = absurd (false≢true b.is_start)
joint-start h tick ds b = absurd (false≢true b.is_start)
joint-start h (line n l) ds b = absurd (false≢true b.is_start)
joint-start h (configure n x) ds b = absurd (false≢true b.is_start)
joint-start h (fetch n out) ds b = absurd (false≢true b.is_start)
joint-start h (report n) ds b = absurd (false≢true b.is_start)
joint-start h (aggregator k) ds b = absurd (false≢true b.is_start)
joint-start h due ds b = absurd (false≢true b.is_start)

-- ---- every table that is made

module _ (h : Held) (m : AskedMade h) where
  pub from_start : JointStart m.memory m.start
  from_start = joint-start m.memory m.start m.deeds m.run

  pub begun-sound : HeldSound (stepped (call m.start) from_start.front)
  begun-sound = start-sound from_start.front m.start [] from_start.begun

  pub begun-ranged : Groups (count_in (memory_of (stepped (call m.start) from_start.front))) (all_begun from_start.ports)
  begun-ranged = subst (λ (n : ℕ). Groups n (all_begun from_start.ports)) (sym from_start.count) (begun-groups from_start.ports)

  pub made-run : JointRun (stepped (call m.start) from_start.front) h
  unfolding after-all
  made-run =
      subst (JointRun (stepped (call m.start) from_start.front)) (ap (λ (x : Held). after-all x m.deeds) (sym from_start.is) ∙ m.gives)
      (run-joint m.deeds m.run.takes.1 (stepped (call m.start) from_start.front) begun-sound (all_begun from_start.ports) begun-ranged)

  pub made-joint : Joint h
  made-joint = made-run.joint

-- the front of such a table
pub joint-front : (h : Held) (j : Joint h) → front_in h ≡ j.front
joint-front h j = ap front_in j.is ∙ by j.front j.sound j.groups j.ranged
  where
    by : (f : Held) → HeldSound f → (g : List ℕ) → Groups (count_in (memory_of f)) g → front_in (join f g) ≡ f
    by (old t) s g gs = ap old (joined-front old_layer t (front-some (old t) s) (front-size (old t) s) g gs)
    by (new w) s g gs = ap new (joined-front new_layer w (front-some (new w) s) (front-size (new w) s) g gs)

pub joint-groups : (h : Held) (j : Joint h) → groups_in h ≡ j.groups
joint-groups h j = ap groups_in j.is ∙ by j.front j.sound j.groups j.ranged
  where
    by : (f : Held) → HeldSound f → (g : List ℕ) → Groups (count_in (memory_of f)) g → groups_in (join f g) ≡ g
    by (old t) s g gs = joined-groups old_layer t (front-some (old t) s) (front-size (old t) s) g gs
    by (new w) s g gs = joined-groups new_layer w (front-some (new w) s) (front-size (new w) s) g gs

pub front-made : (h : Held) → AskedMade h → HeldMade (front_in h)
unfolding through
front-made h m =
    let b = from_start h m in
    let r = made-run h m in
    record {
      memory = b.front;
      start = m.start;
      steps = r.steps;
      run = record { octets = b.begun.octets; is_start = b.begun.is_start; accepted = b.begun.accepted; takes = (b.begun.takes.0, r.takes) };
      gives = r.gives ∙ sym (joint-front h r.joint);
    }
