-- Each from its own theorem; a table that was made is of its form, so only the target's size is left to ask of a move. Assumes nothing.
use Prim.Native.Nat.{ℕ}
use mathlib.Core.Path.{◌≡◌, sym, subst}
use mathlib.Core.Bool.{true}
use mathlib.Core.List.{List}
use lib.ListN.{length}
use borrow.Author.Tests.{eq-eqb}
use Rattle.std.specs.Prelude.{Ok}
use Rattle.table.specs.Table.{count_in}
use Rattle.asks.proofs.MadeLaws.{Groups}
use Rattle.control.specs.declared.answer.Accepted.TheVariants.{Done}
use Rattle.asked.specs.Layer.{old_layer, new_layer}
use Rattle.asked.specs.Asked.{asked_size}
use Rattle.asked.specs.Moves.{is_old_asked, is_new_asked, forward_answer, back_answer}
use Rattle.asked.proofs.MoveLaws.{there_and_back, back-and-there}
use Rattle.promises.specs.Run.{Held, old, new, memory_of}
use Rattle.promises.specs.Whole.{HeldSound}
use Rattle.promises.specs.Asked.{AskedMade}
use Rattle.promises.specs.Library.{Library}
use Rattle.promises.proofs.Joined.{joined-front, joined-has}
use Rattle.promises.proofs.Asked.{front-size, front-some, join, Joint, made-joint}
use Rattle.promises.proofs.Ends.{asks-follow, ends_in_time, numbers_in_order}
use Rattle.promises.proofs.Demands.{front-runs, front-calls}

-- of its own form
abbrev Formed : Held → Type 0
Formed (old m) = is_old_asked m ≡ true
Formed (new m) = is_new_asked m ≡ true

formed : (h : Held) → Joint h → Formed h
formed h j = subst Formed (sym j.is) (by j.front j.sound j.groups j.ranged)
  where
    by : (f : Held) → HeldSound f → (g : List ℕ) → Groups (count_in (memory_of f)) g → Formed (join f g)
    by (old t) s g gs = rw (joined-has old_layer t (front-some (old t) s) (front-size (old t) s) g gs, joined-front old_layer t (front-some (old t) s) (front-size (old t) s) g gs) s.ranged
    by (new w) s g gs =
        rw (joined-has new_layer w (front-some (new w) s) (front-size (new w) s) g gs, joined-front new_layer w (front-some (new w) s) (front-size (new w) s) g gs, s.ranged) s.base.ranged

forward-taken : (m : List ℕ) → AskedMade (old m) → (u : List ℕ) → length u ≡ asked_size new_layer (count_in m) → forward_answer m u ≡ Ok Done
unfolding forward_answer
forward-taken m made u e = rw (formed (old m) (made-joint (old m) made), eq-eqb (length u) (asked_size new_layer (count_in m)) e)

back-taken : (m : List ℕ) → AskedMade (new m) → (u : List ℕ) → length u ≡ asked_size old_layer (count_in m) → back_answer m u ≡ Ok Done
unfolding back_answer
back-taken m made u e = rw (formed (new m) (made-joint (new m) made), eq-eqb (length u) (asked_size old_layer (count_in m)) e)

pub library : Library
library = record {
  fronts = front-runs;
  calls = front-calls;
  follow = asks-follow;
  ends = ends_in_time;
  numbers = numbers_in_order;
  forward-taken = forward-taken;
  back-taken = back-taken;
  there_and_back = there_and_back;
  back-and-there = back-and-there;
}
