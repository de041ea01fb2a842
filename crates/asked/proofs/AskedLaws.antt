-- What the wrappers rest on: memory is a front and the groups behind it, a call below leaves the front's size, and so what is put together again is what the definitions
-- say. Assumes nothing.
use Rattle.std.specs.Prelude.{Result, Ok, Err, is_ok, IsErrAnd}
use Prim.Native.Nat.{ℕ, ◌+◌, ◌-◌, ◌*◌, ◌≤◌}
use mathlib.Core.Path.{◌≡◌, refl, sym, ap, ◌∙◌}
use mathlib.Core.Bool.{Bool, true, false, cond, false≢true, true≢false}
use mathlib.Core.List.{List, ◌++◌}
use native.Mathlib.Omega.{arith}
use lib.ListN.{length, take, drop, length-append, length-drop}
use lib.Seq.{length-take-le, take_at, drop_at, take_all}
use lib.Dec.{eqb}
use borrow.Author.Tests.{eqb-true}
use borrow.Rule.Slice.PartMut.{put_mid}
use Rattle.octets.specs.Octets.{within}
use Rattle.octets.proofs.RangeLaws.{both, within-true}
use Rattle.table.specs.Layout.{most_ports}
use Rattle.table.specs.Table.{count_in}
use Rattle.asks.specs.Group.{group_size}
use Rattle.asks.specs.Groups.{groups_in_range}
use Rattle.control.specs.Answer.{Answer}
use Rattle.control.specs.declared.answer.Accepted.TheVariants.{Done}
use Rattle.control.specs.declared.answer.Reason.{Reason}
use Rattle.control.specs.declared.answer.Reason.TheVariants as reason
use Rattle.control.specs.Call.{Call}
use Rattle.control.specs.After.{buffer_of}
use Rattle.control.proofs.CallLaws.{passed-up}
use Rattle.whole.specs.Calls.{count_for}
use Rattle.whole.proofs.CallLaws.{back_as}
use Rattle.asked.specs.Layer.{Layer, new_layer}
use Rattle.asked.specs.Asked.{asked_size, is_asked_room, groups_of, has_asks, front_found}
use Rattle.asked.specs.Calls.{room_for, is_ours, groups_after, asked_answer, asked_after, asked_outgoing}
use Rattle.asked.specs.Meets.{Meets, MeetsOut}

-- ---- the memory

pub asked-size : (L : Layer) (m : List ℕ) → has_asks L m ≡ true → length m ≡ asked_size L (count_in m)
unfolding has_asks
asked-size L m e = eqb-true (length m) (asked_size L (count_in m)) (both (eqb (length m) (asked_size L (count_in m))) (groups_in_range (count_in m) (groups_of L m)) e).0

-- ---- what the first test finds: the octets of the front, or answer 1

pub record Front (L : Layer) (m : List ℕ) (f : ℕ) : Type 0 where
  pub has : has_asks L m ≡ true
  pub is : f ≡ L.size (count_in m)
  pub size : length m ≡ f + group_size * count_in m
  pub most : f ≤ length m

at : Result ℕ Reason → ℕ
at (Ok f) = f
at (Err r) = 0

why : Result ℕ Reason → Reason
why (Ok f) = reason.Table
why (Err r) = r

pub found-front : (L : Layer) (m : List ℕ) {f : ℕ} → front_found L m ≡ Ok f → Front L m f
unfolding front_found at
found-front L m {f} e = by (has_asks L m) refl e
  where
    by : (x : Bool) → has_asks L m ≡ x → cond x (Ok (L.size (count_in m))) (Err reason.Table) ≡ Ok f → Front L m f
    by true has h =
        let long = asked-size L m has in
        let is : f ≡ L.size (count_in m) = sym (ap at h) in
        record { has = has; is = is; size = omega (arith, long, is); most = omega (arith, long, is) }
    by false none h = absurd (false≢true (ap is_ok h))

pub found-none : (L : Layer) (m : List ℕ) {r : Reason} → front_found L m ≡ Err r → (has_asks L m ≡ false) × (r ≡ reason.Table)
unfolding front_found why
found-none L m {r} e = by (has_asks L m) refl e
  where
    by : (x : Bool) → has_asks L m ≡ x → cond x (Ok (L.size (count_in m))) (Err reason.Table) ≡ Err r → (has_asks L m ≡ false) × (r ≡ reason.Table)
    by true has h = absurd (true≢false (ap is_ok h))
    by false none h = (none, sym (ap why h))

pub room-size : (L : Layer) (m : List ℕ) (count : ℕ) → is_asked_room L m count ≡ true → length m ≡ asked_size L count
room-size L m count e = eqb-true (length m) (asked_size L count) (both (within 1 count most_ports) (eqb (length m) (asked_size L count)) e).1

pub room-few : (L : Layer) (m : List ℕ) (count : ℕ) → is_asked_room L m count ≡ true → count ≤ 32
room-few L m count e = (within-true 1 count most_ports (both (within 1 count most_ports) (eqb (length m) (asked_size L count)) e).0).1

-- what lies behind the front, as a part that is lent, and written back
module _ (f : ℕ) (m : List ℕ) where
  pub tail_is : take (length m - f) (drop f m) ≡ drop f m
  tail_is = let d = length-drop f m in take_all (length m - f) (drop f m) (omega (arith, d))

  pub tail_put : (x : List ℕ) → f ≤ length m → length x ≡ length m - f → put_mid f (length m - f) m x ≡ take f m ++ x
  tail_put x h e = back_as f m x h e

  -- a front that was changed, and the rest
  pub new-front : (u : List ℕ) → f ≤ length m → length u ≡ length (take f m) → take f (u ++ drop f m) ≡ u
  new-front u h e = take_at u (drop f m) f (e ∙ length-take-le f m h)

  pub old_tail : (u : List ℕ) → f ≤ length m → length u ≡ length (take f m) → drop f (u ++ drop f m) ≡ drop f m
  old_tail u h e = drop_at u (drop f m) f (e ∙ length-take-le f m h)

  pub same_size : (u : List ℕ) → f ≤ length m → length u ≡ length (take f m) → length (u ++ drop f m) ≡ length m
  same_size u h e = let d = length-drop f m in let l = length-take-le f m h in length-append u (drop f m) ∙ omega (arith, d, l, e, h)

-- ---- a call that finds its room, and one that does not

module _ (c : Call) (m : List ℕ) where
  pub roomless : room_for new_layer c m ≡ false → Meets c m (Err reason.Table) m
  unfolding asked_answer asked_after
  roomless e = (rw e, rw e)

  pub roomless-out : room_for new_layer c m ≡ false → MeetsOut c m (Err reason.Table) m (buffer_of c)
  unfolding asked_answer asked_after asked_outgoing
  roomless-out e = (rw e, rw e, rw e)

  -- answer 1 goes up by `?`
  pub unfound : {r : Reason} (a : Answer) → room_for new_layer c m ≡ has_asks new_layer m → front_found new_layer m ≡ Err r → IsErrAnd a (λ s. s ≡ r) → Meets c m a m
  unfound a plain e up =
      let none = found-none new_layer m e in
      let lost = roomless (plain ∙ none.0) in
      (passed-up a up ∙ ap Err none.1 ∙ lost.0, lost.1)

  pub unfound-out : {r : Reason} (a : Answer) → room_for new_layer c m ≡ has_asks new_layer m → front_found new_layer m ≡ Err r → IsErrAnd a (λ s. s ≡ r)
      → MeetsOut c m a m (buffer_of c)
  unfound-out a plain e up =
      let none = found-none new_layer m e in
      let lost = roomless-out (plain ∙ none.0) in
      (passed-up a up ∙ ap Err none.1 ∙ lost.0, lost.1, lost.2)

  -- what a wrapper has in hand: the call below on the first f octets, and the groups then
  module _ (f : ℕ) (is : f ≡ new_layer.size (count_for c m)) (room : room_for new_layer c m ≡ true) where
    pub finished : (a : Answer) (u g v : List ℕ) → is_ours new_layer c (take f m) (drop f m) ≡ false → a ≡ new_layer.answers c (take f m) → u ≡ new_layer.leaves c (take f m)
        → g ≡ groups_after new_layer c (take f m) (drop f m) → v ≡ u ++ g → Meets c m a v
    unfolding asked_answer asked_after
    finished a u g v not told left grouped made = (
      told ∙ sym (rw (room) (ap (λ (k : ℕ). cond (is_ours new_layer c (take k m) (drop k m)) (Ok Done) (new_layer.answers c (take k m))) (sym is) ∙ rw not)),
      made ∙ (λ i. left i ++ grouped i)
          ∙ sym (rw room (ap (λ (k : ℕ). new_layer.leaves c (take k m) ++ groups_after new_layer c (take k m) (drop k m)) (sym is))),
    )

    pub finished-out : (a : Answer) (u g v o : List ℕ) → is_ours new_layer c (take f m) (drop f m) ≡ false → a ≡ new_layer.answers c (take f m)
        → u ≡ new_layer.leaves c (take f m) → g ≡ groups_after new_layer c (take f m) (drop f m) → v ≡ u ++ g → o ≡ new_layer.sends c (take f m) → MeetsOut c m a v o
    unfolding asked_outgoing
    finished-out a u g v o not told left grouped made sent =
        let r = finished a u g v not told left grouped made in
        (r.0, r.1, sent ∙ sym (rw room (ap (λ (k : ℕ). new_layer.sends c (take k m)) (sym is))))

    pub finished-ours : (u g v o : List ℕ) → is_ours new_layer c (take f m) (drop f m) ≡ true → u ≡ new_layer.leaves c (take f m)
        → g ≡ groups_after new_layer c (take f m) (drop f m) → v ≡ u ++ g → o ≡ new_layer.sends c (take f m) → MeetsOut c m (Ok Done) v o
    unfolding asked_answer asked_after asked_outgoing
    finished-ours u g v o so left grouped made sent = (
      sym (rw room (ap (λ (k : ℕ). cond (is_ours new_layer c (take k m) (drop k m)) (Ok Done) (new_layer.answers c (take k m))) (sym is) ∙ rw so)),
      made ∙ (λ i. left i ++ grouped i)
          ∙ sym (rw room (ap (λ (k : ℕ). new_layer.leaves c (take k m) ++ groups_after new_layer c (take k m) (drop k m)) (sym is))),
      sent ∙ sym (rw room (ap (λ (k : ℕ). new_layer.sends c (take k m)) (sym is))),
    )
