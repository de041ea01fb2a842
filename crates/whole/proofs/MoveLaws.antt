-- A move forward: the source over the front of the target, and a run of machines that begin anew, which looks at nothing that the target held. There and back gives
-- the same table, and back and there keeps all but the monitors. Assumes nothing.
use Rattle.std.specs.Prelude.{Ok, Err}
use Prim.Native.Nat.{ℕ, ◌<◌}
use mathlib.Core.Path.{◌≡◌, refl, sym, ap, ◌∙◌}
use mathlib.Core.Bool.{Bool, true, false, cond, ◌&&◌, false≢true}
use mathlib.Core.List.{List, ◌++◌}
use native.Mathlib.Omega.{arith}
use lib.ListN.{length, take, drop}
use lib.Dec.{eqb}
use borrow.Author.Tests.{eqb-true, eq-eqb}
use Rattle.octets.specs.Octets.{Octets, put_at}
use Rattle.octets.proofs.Laws.{over-put, over-all}
use Rattle.octets.proofs.RangeLaws.{both}
use Rattle.table.specs.Layout.{place}
use Rattle.table.specs.Table.{count_in, port_at, table_in_range}
use Rattle.table.proofs.TableLaws.{in_range}
use Rattle.churn.specs.declared.Stage.TheVariants as stage
use Rattle.churn.specs.declared.watch.Monitors.{Monitors}
use Rattle.churn.specs.Churn.{watching, both_begun}
use Rattle.churn.specs.Group.{monitors_fit}
use Rattle.churn.specs.Whole.{whole_size, base_of, monitors_at, has_monitors, with_monitors, watched_at, watched_all}
use Rattle.churn.proofs.ChurnLaws.{watching-fit, begun-fit}
use Rattle.churn.proofs.WholeLaws.{base-count, base-length}
use Rattle.churn.proofs.MadeLaws.{made-base, made-count, made-has, made-monitors, made-octets}
use Rattle.control.specs.declared.answer.Accepted.TheVariants.{Done}
use Rattle.control.specs.declared.answer.Reason.TheVariants as reason
use Rattle.control.specs.Accepted.{accepted}
use Rattle.whole.specs.Moves.{is_new, moved_forward, goes_forward, goes_back, forward_answer, forward_to, back_answer, back_to, MeetsForward, MeetsBack, ThereAndBack, BackAndThere}
use Rattle.whole.proofs.CallLaws.{whole-size}
use Rattle.whole.proofs.JoinLaws.{joined-base, joined-whole}

-- ---- refusals

pub forward-refused : (t u : List ℕ) → goes_forward t u ≡ false → MeetsForward t u (Err reason.Table) u
unfolding forward_answer forward_to
forward-refused t u e = (rw e, rw e)

pub back-refused : (w u : List ℕ) → goes_back w u ≡ false → MeetsBack w u (Err reason.Table) u
unfolding back_answer back_to
back-refused w u e = (rw e, rw e)

-- ---- forward

module _ (t u : List ℕ) (goes : goes_forward t u ≡ true) where
  source : table_in_range t ≡ true
  source = (both (table_in_range t) (eqb (length u) (whole_size (count_in t))) goes).0

  pub source-size : length t ≡ place (count_in t)
  source-size = (in_range t source).size

  pub target_size : length u ≡ whole_size (count_in t)
  target_size = eqb-true (length u) (whole_size (count_in t)) (both (table_in_range t) (eqb (length u) (whole_size (count_in t))) goes).1

  put_is : put_at 0 t u ≡ t ++ drop (place (count_in t)) u
  put_is = sym (over-put t u) ∙ ap (λ (n : ℕ). t ++ drop n u) source-size

  pub put-fits : length (put_at 0 t u) ≡ whole_size (count_in (put_at 0 t u))
  put-fits =
      ap length put_is ∙ joined-whole u t (count_in t) target_size source-size refl ∙ ap (λ (l : List ℕ). whole_size (count_in l)) (sym put_is)

  begun-is : (l : List ℕ) → base_of l ≡ t → watched_all stage.Start l ≡ moved_forward t
  unfolding watched_all watched_at moved_forward
  begun-is l e = λ k. with_monitors (e k) (λ i. watching (port_at (e k) i) both_begun)

  pub forward-done : (v : List ℕ) → v ≡ watched_all stage.Start (put_at 0 t u) → MeetsForward t u (Ok Done) v
  unfolding forward_answer forward_to
  forward-done v e =
      (rw goes, e ∙ begun-is (put_at 0 t u) (ap base_of put_is ∙ joined-base u t (count_in t) target_size source-size refl) ∙ rw goes)

-- ---- back

module _ (w u : List ℕ) (goes : goes_back w u ≡ true) where
  pub back-has : has_monitors w ≡ true
  back-has = (both (has_monitors w) (table_in_range (base_of w)) (both (is_new w) (eqb (length u) (place (count_in w))) goes).0).0

  pub back-size : length u ≡ place (count_in w)
  back-size = eqb-true (length u) (place (count_in w)) (both (is_new w) (eqb (length u) (place (count_in w))) goes).1

  pub back_done : (b : ℕ) → b ≡ place (count_in w) → (v : List ℕ) → v ≡ put_at 0 (take b w) u → MeetsBack w u (Ok Done) v
  unfolding back_answer back_to
  back_done b is v e =
      let l = base-length w (whole-size w back-has) in
      let front : take b w ≡ base_of w = unfold base_of in ap (λ (n : ℕ). take n w) is in
      (rw goes, e ∙ ap (λ (x : List ℕ). put_at 0 x u) front ∙ sym (over-put (base_of w) u) ∙ over-all (base_of w) u (omega (arith, l, back-size)) ∙ rw goes)

-- the test, by the front that it looked at
pub back-is : (w u : List ℕ) (b : ℕ) → b ≡ place (count_in w) → has_monitors w ≡ true → goes_back w u ≡ (table_in_range (take b w) && eqb (length u) b)
unfolding base_of
back-is w u b is has = rw has (ap (λ (n : ℕ). table_in_range (take n w) && eqb (length u) n) (sym is))

-- ---- a table moved forward

module _ (t : List ℕ) (ranged : table_in_range t ≡ true) where
  afresh : ℕ → Monitors
  afresh i = watching (port_at t i) both_begun

  afresh-fits : (i : ℕ) → i < count_in t → monitors_fit (afresh i) ≡ true
  unfolding afresh
  afresh-fits i h = watching-fit (port_at t i) both_begun begun-fit

  size : length t ≡ place (count_in t)
  size = (in_range t ranged).size

  pub forward-base : base_of (moved_forward t) ≡ t
  unfolding moved_forward afresh
  forward-base = made-base t size afresh

  pub forward-count : count_in (moved_forward t) ≡ count_in t
  unfolding moved_forward afresh
  forward-count = made-count t size afresh

  pub forward-has : has_monitors (moved_forward t) ≡ true
  unfolding moved_forward afresh
  forward-has = made-has t size afresh afresh-fits

  pub forward-monitors : (i : ℕ) → i < count_in t → monitors_at (moved_forward t) i ≡ watching (port_at t i) both_begun
  unfolding moved_forward afresh
  forward-monitors i h = made-monitors t size afresh i h

  pub forward-octets : Octets t → Octets (moved_forward t)
  unfolding moved_forward afresh
  forward-octets o = made-octets t afresh o afresh-fits

-- ---- there and back

-- who is answered 0 has gone
has-gone : (b : Bool) → cond b (Ok Done) (Err reason.Table) ≡ Ok Done → b ≡ true
has-gone true e = refl
has-gone false e = absurd (false≢true (ap accepted e))

gone-forward : (t u : List ℕ) → forward_answer t u ≡ Ok Done → goes_forward t u ≡ true
unfolding forward_answer
gone-forward t u e = has-gone (goes_forward t u) e

gone-back : (w u : List ℕ) → back_answer w u ≡ Ok Done → goes_back w u ≡ true
unfolding back_answer
gone-back w u e = has-gone (goes_back w u) e

-- and who may go is answered 0
pub forward-goes : (t u : List ℕ) → goes_forward t u ≡ true → (forward_answer t u ≡ Ok Done) × (forward_to t u ≡ moved_forward t)
unfolding forward_answer forward_to
forward-goes t u e = (rw e, rw e)

pub back-goes : (w u : List ℕ) → goes_back w u ≡ true → (back_answer w u ≡ Ok Done) × (back_to w u ≡ base_of w)
unfolding back_answer back_to
back-goes w u e = (rw e, rw e)

-- what has gone forward may go back, and the other way round
pub may_return : (t : List ℕ) → table_in_range t ≡ true → (v : List ℕ) → length v ≡ length t → goes_back (moved_forward t) v ≡ true
may_return t e v same =
    rw (forward-has t e, forward-base t e, e) (eq-eqb (length v) (place (count_in (moved_forward t))) (same ∙ (in_range t e).size ∙ ap place (sym (forward-count t e))))

pub may_go : (w : List ℕ) → is_new w ≡ true → (v : List ℕ) → length v ≡ length w → goes_forward (base_of w) v ≡ true
may_go w e v same =
    let is = both (has_monitors w) (table_in_range (base_of w)) e in
    rw is.1 (eq-eqb (length v) (whole_size (count_in (base_of w))) (same ∙ whole-size w is.0 ∙ ap whole_size (sym (base-count w))))

pub there_and_back : ThereAndBack
there_and_back t u v done same =
    let goes = gone-forward t u done in
    let e = source t u goes in
    let is = (forward-goes t u goes).1 in
    let r = back-goes (moved_forward t) v (may_return t e v same) in
    (ap (λ (w : List ℕ). back_answer w v) is ∙ r.0, ap (λ (w : List ℕ). back_to w v) is ∙ r.1 ∙ forward-base t e)

pub back-and-there : BackAndThere
back-and-there w u v done same =
    let goes = gone-back w u done in
    let e = (both (is_new w) (eqb (length u) (place (count_in w))) goes).0 in
    let is = (back-goes w u goes).1 in
    let r = forward-goes (base_of w) v (may_go w e v same) in
    let to = ap (λ (t : List ℕ). forward_to t v) is ∙ r.1 in
    (ap (λ (t : List ℕ). forward_answer t v) is ∙ r.0, ap base_of to ∙ forward-base (base_of w) (both (has_monitors w) (table_in_range (base_of w)) e).1, to)
