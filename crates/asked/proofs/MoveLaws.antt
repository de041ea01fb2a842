-- Moves: the front moves as it does below, and the groups go along. There and back gives the same table; back and there keeps all but the monitors. Assumes nothing.
use Rattle.std.specs.Prelude.{Ok, Err}
use Prim.Native.Nat.{ℕ, ◌+◌, ◌*◌, ◌≤◌}
use mathlib.Core.Path.{◌≡◌, refl, sym, ap, ◌∙◌}
use mathlib.Core.Bool.{Bool, true, false, cond, ◌&&◌, false≢true}
use mathlib.Core.List.{List, ◌++◌, append-nil}
use native.Mathlib.Omega.{arith}
use lib.ListN.{length, take, drop, length-append, length-drop, take-append-drop, drop_of_length-le}
use lib.Seq.{get_or-take, length-take-le, take_at}
use lib.Dec.{eqb}
use borrow.Author.Tests.{eq-eqb}
use Rattle.octets.specs.Octets.{put_at}
use Rattle.octets.proofs.RangeLaws.{both}
use Rattle.table.specs.Layout.{place}
use Rattle.table.specs.Table.{count_in, table_in_range}
use Rattle.table.proofs.TableLaws.{in_range}
use Rattle.churn.specs.Whole.{whole_size, base_of, has_monitors}
use Rattle.churn.proofs.WholeLaws.{base-count}
use Rattle.asks.specs.Group.{group_size}
use Rattle.asks.specs.Groups.{groups_in_range}
use Rattle.control.specs.Answer.{Answer}
use Rattle.control.specs.declared.answer.Accepted.TheVariants.{Done}
use Rattle.control.specs.declared.answer.Reason.TheVariants as reason
use Rattle.control.specs.Accepted.{accepted}
use Rattle.whole.specs.Moves.{is_new, moved_forward, goes_forward as frontForward, goes_back as frontBack, forward_answer as frontForwardAnswer, forward_to as frontForwardTo, back_answer as frontBackAnswer, back_to as frontBackTo}
use Rattle.whole.proofs.CallLaws.{given_back, taken_back, whole-size}
use Rattle.whole.proofs.MoveLaws.{forward-base, forward-count, forward-has}
use Rattle.asked.specs.Layer.{Layer, old_layer, new_layer}
use Rattle.asked.specs.Asked.{asked_size, front_of, groups_of, has_asks}
use Rattle.asked.specs.Moves.{is_old_asked, is_new_asked, goes_forward, goes_back, forward_answer, forward_to, back_answer, back_to, MeetsForward, MeetsBack, ThereAndBack, BackAndThere}
use Rattle.asked.proofs.AskedLaws.{asked-size}
use Rattle.asked.proofs.JoinLaws.{joined-count, joined-front, joined-groups, joined-has}

-- ---- refusals

pub forward-refused : (m u : List ℕ) → goes_forward m u ≡ false → MeetsForward m u (Err reason.Table) u
unfolding forward_answer forward_to
forward-refused m u e = (rw e, rw e)

pub back-refused : (m u : List ℕ) → goes_back m u ≡ false → MeetsBack m u (Err reason.Table) u
unfolding back_answer back_to
back-refused m u e = (rw e, rw e)

-- what is put behind a front
behind : (f : ℕ) (u v x : List ℕ) → f ≡ length u → length x ≡ length v → put_at f x (u ++ v) ≡ u ++ x
unfolding put_at
behind f u v x is same =
    let l = length-append u v in
    (λ i. take_at u v f (sym is) i ++ (x ++ drop_of_length-le (u ++ v) {i = f + length x} (omega (arith, is, same, l)) i))
    ∙ ap (λ (y : List ℕ). u ++ y) (append-nil x)

pub and-false : (x : Bool) → x && false ≡ false
and-false true = refl
and-false false = refl

and-true : (x : Bool) → x && true ≡ x
and-true true = refl
and-true false = refl

-- ---- forward: the first b octets move to the first f

module _ (m u : List ℕ) (b f : ℕ) (isb : b ≡ place (count_in m)) (isf : f ≡ whole_size (count_in m)) (has : has_asks old_layer m ≡ true) (size : length u ≡ f + group_size * count_in m) where
  forward-alike : frontForward (take b m) (take f u) ≡ goes_forward m u
  forward-alike =
      let c : count_in (take b m) ≡ count_in m = get_or-take b m 0 0 (omega (arith, isb)) in
      let l = length-take-le f u (omega (arith, size)) in
      ap (λ (x : Bool). table_in_range (take b m) && x) (eq-eqb (length (take f u)) (whole_size (count_in (take b m))) (l ∙ isf ∙ ap whole_size (sym c)))
      ∙ and-true (table_in_range (take b m))
      ∙ ap (λ (k : ℕ). table_in_range (take k m)) isb
      ∙ sym (rw (has, eq-eqb (length u) (asked_size new_layer (count_in m)) (size ∙ ap (λ (k : ℕ). k + group_size * count_in m) isf)) (and-true (table_in_range (front_of old_layer m))))

  module _ (a : Answer) (v : List ℕ) (told : a ≡ frontForwardAnswer (take b m) (take f u)) (left : v ≡ frontForwardTo (take b m) (take f u)) where
    forward-told : a ≡ forward_answer m u
    unfolding forward_answer frontForwardAnswer
    forward-told = told ∙ ap (λ (x : Bool). cond x (Ok Done) (Err reason.Table)) forward-alike

    pub forward-done : accepted a ≡ true → length v ≡ length (take f u) → (w : List ℕ) → w ≡ put_at f (drop b m) (v ++ drop f u) → MeetsForward m u a w
    unfolding forward_to frontForwardTo
    forward-done e same w put =
        let most = length-take-le f u (omega (arith, size)) in
        let d = length-drop b m in
        let k = length-drop f u in
        let long = asked-size old_layer m has in (
          forward-told,
          put ∙ behind f v (drop f u) (drop b m) (omega (arith, same, most)) (omega (arith, d, k, long, size, isb))
              ∙ (λ i. (left ∙ given_back (take f u) (moved_forward (take b m)) (frontForwardAnswer (take b m) (take f u)) (sym (ap accepted told) ∙ e)) i ++ drop b m)
              ∙ ap (λ (j : ℕ). moved_forward (take j m) ++ drop j m) isb
              ∙ sym (given_back u _ (forward_answer m u) (sym (ap accepted forward-told) ∙ e)),
        )

    pub forward-not : accepted a ≡ false → MeetsForward m u a (v ++ drop f u)
    unfolding forward_to frontForwardTo
    forward-not e = (
      forward-told,
      (λ i. (left ∙ taken_back (take f u) (moved_forward (take b m)) (frontForwardAnswer (take b m) (take f u)) (sym (ap accepted told) ∙ e)) i ++ drop f u)
          ∙ take-append-drop f u ∙ sym (taken_back u _ (forward_answer m u) (sym (ap accepted forward-told) ∙ e)),
    )

-- ---- back: the first f octets move to the first b

module _ (m u : List ℕ) (b f : ℕ) (isb : b ≡ place (count_in m)) (isf : f ≡ whole_size (count_in m)) (has : has_asks new_layer m ≡ true) (size : length u ≡ b + group_size * count_in m) where
  back-alike : frontBack (take f m) (take b u) ≡ goes_back m u
  back-alike =
      let c : count_in (take f m) ≡ count_in m = get_or-take f m 0 0 (omega (arith, isf)) in
      let l = length-take-le b u (omega (arith, size)) in
      ap (λ (x : Bool). is_new (take f m) && x) (eq-eqb (length (take b u)) (place (count_in (take f m))) (l ∙ isb ∙ ap place (sym c)))
      ∙ and-true (is_new (take f m))
      ∙ ap (λ (k : ℕ). is_new (take k m)) isf
      ∙ sym (rw (has, eq-eqb (length u) (asked_size old_layer (count_in m)) (size ∙ ap (λ (k : ℕ). k + group_size * count_in m) isb)) (and-true (is_new (front_of new_layer m))))

  module _ (a : Answer) (v : List ℕ) (told : a ≡ frontBackAnswer (take f m) (take b u)) (left : v ≡ frontBackTo (take f m) (take b u)) where
    back-told : a ≡ back_answer m u
    unfolding back_answer frontBackAnswer
    back-told = told ∙ ap (λ (x : Bool). cond x (Ok Done) (Err reason.Table)) back-alike

    pub back_done : accepted a ≡ true → length v ≡ length (take b u) → (w : List ℕ) → w ≡ put_at b (drop f m) (v ++ drop b u) → MeetsBack m u a w
    unfolding back_to frontBackTo
    back_done e same w put =
        let most = length-take-le b u (omega (arith, size)) in
        let d = length-drop f m in
        let k = length-drop b u in
        let long = asked-size new_layer m has in (
          back-told,
          put ∙ behind b v (drop b u) (drop f m) (omega (arith, same, most)) (omega (arith, d, k, long, size, isf))
              ∙ (λ i. (left ∙ given_back (take b u) (base_of (take f m)) (frontBackAnswer (take f m) (take b u)) (sym (ap accepted told) ∙ e)) i ++ drop f m)
              ∙ ap (λ (j : ℕ). base_of (take j m) ++ drop j m) isf
              ∙ sym (given_back u _ (back_answer m u) (sym (ap accepted back-told) ∙ e)),
        )

    pub back-not : accepted a ≡ false → MeetsBack m u a (v ++ drop b u)
    unfolding back_to frontBackTo
    back-not e = (
      back-told,
      (λ i. (left ∙ taken_back (take b u) (base_of (take f m)) (frontBackAnswer (take f m) (take b u)) (sym (ap accepted told) ∙ e)) i ++ drop b u)
          ∙ take-append-drop b u ∙ sym (taken_back u _ (back_answer m u) (sym (ap accepted back-told) ∙ e)),
    )

-- ---- there and back

gone : (x : Bool) → cond x (Ok Done) (Err reason.Table) ≡ Ok Done → x ≡ true
gone true e = refl
gone false e = absurd (false≢true (ap accepted e))

-- the groups of a table that has them
pub groups-size : (L : Layer) (m : List ℕ) → has_asks L m ≡ true → length (groups_of L m) ≡ group_size * count_in m
groups-size L m e = let size = asked-size L m e in let d = length-drop (L.size (count_in m)) m in omega (arith, size, d)

pub groups-ranged : (L : Layer) (m : List ℕ) → has_asks L m ≡ true → groups_in_range (count_in m) (groups_of L m) ≡ true
unfolding has_asks
groups-ranged L m e = (both (eqb (length m) (asked_size L (count_in m))) (groups_in_range (count_in m) (groups_of L m)) e).1

-- a front that holds as many ports, in front of the groups of m
module _ (L K : Layer) (m w : List ℕ) (has : has_asks L m ≡ true) (count : count_in w ≡ count_in m) (some : 1 ≤ length w) (size : length w ≡ K.size (count_in w)) where
  gs : length (groups_of L m) ≡ group_size * count_in w
  gs = groups-size L m has ∙ ap (λ (n : ℕ). group_size * n) (sym count)

  ranged : groups_in_range (count_in w) (groups_of L m) ≡ true
  ranged = ap (λ (n : ℕ). groups_in_range n (groups_of L m)) count ∙ groups-ranged L m has

  again-front : front_of K (w ++ groups_of L m) ≡ w
  again-front = joined-front K w some size (groups_of L m) gs ranged

  again-groups : groups_of K (w ++ groups_of L m) ≡ groups_of L m
  again-groups = joined-groups K w some size (groups_of L m) gs ranged

  again-has : has_asks K (w ++ groups_of L m) ≡ true
  again-has = joined-has K w some size (groups_of L m) gs ranged

  again-count : count_in (w ++ groups_of L m) ≡ count_in m
  again-count = joined-count K w some size (groups_of L m) gs ranged ∙ count

pub there_and_back : ThereAndBack
unfolding forward_answer forward_to back_answer back_to
there_and_back t u v done same =
    let goes = gone (goes_forward t u) done in
    let is = (both (is_old_asked t) (eqb (length u) (asked_size new_layer (count_in t))) goes).0 in
    let has = (both (has_asks old_layer t) (table_in_range (front_of old_layer t)) is).0 in
    let ok = (both (has_asks old_layer t) (table_in_range (front_of old_layer t)) is).1 in
    let f : List ℕ = front_of old_layer t in
    let fc : count_in f ≡ count_in t = get_or-take (place (count_in t)) t 0 0 (omega arith) in
    let w : List ℕ = moved_forward f in
    let wc : count_in w ≡ count_in t = forward-count f ok ∙ fc in
    let wn = forward-has f ok in
    let size = whole-size w wn in
    let some : 1 ≤ length w = omega (arith, size) in
    let wb = forward-base f ok in
    let fr = again-front old_layer new_layer t w has wc some size in
    let long = asked-size old_layer t has in
    let returns : goes_back (w ++ groups_of old_layer t) v ≡ true =
    rw (again-has old_layer new_layer t w has wc some size, fr, wn, wb, ok)
    (eq-eqb (length v) (asked_size old_layer (count_in (w ++ groups_of old_layer t))) (same ∙ long ∙ ap (asked_size old_layer) (sym (again-count old_layer new_layer t w has wc some size)))) in
    (rw (goes) (rw returns refl), rw goes (rw returns ((λ i. base_of (fr i) ++ again-groups old_layer new_layer t w has wc some size i) ∙ ap (λ (x : List ℕ). x ++ groups_of old_layer t) wb ∙ take-append-drop (place (count_in t)) t)))

pub back-and-there : BackAndThere
unfolding forward_answer forward_to back_answer back_to
back-and-there m u v done same =
    let goes = gone (goes_back m u) done in
    let is = (both (is_new_asked m) (eqb (length u) (asked_size old_layer (count_in m))) goes).0 in
    let has = (both (has_asks new_layer m) (is_new (front_of new_layer m)) is).0 in
    let ok = (both (has_asks new_layer m) (is_new (front_of new_layer m)) is).1 in
    let f : List ℕ = front_of new_layer m in
    let table = (both (has_monitors f) (table_in_range (base_of f)) ok).1 in
    let fc : count_in f ≡ count_in m = get_or-take (whole_size (count_in m)) m 0 0 (omega arith) in
    let w : List ℕ = base_of f in
    let wc : count_in w ≡ count_in m = base-count f ∙ fc in
    let size = (in_range w table).size in
    let some : 1 ≤ length w = omega (arith, size) in
    let fr = again-front new_layer old_layer m w has wc some size in
    let long = asked-size new_layer m has in
    let returns : goes_forward (w ++ groups_of new_layer m) v ≡ true =
    rw (again-has new_layer old_layer m w has wc some size, fr, table)
    (eq-eqb (length v) (asked_size new_layer (count_in (w ++ groups_of new_layer m))) (same ∙ long ∙ ap (asked_size new_layer) (sym (again-count new_layer old_layer m w has wc some size)))) in
    (rw goes (rw returns refl), rw goes (rw returns (λ i. moved_forward (fr i) ++ again-groups new_layer old_layer m w has wc some size i)))
