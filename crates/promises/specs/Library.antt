-- What else holds of the library along any run: of Markers of our own, of moves, and how it stands on the runs of calls and moves of which Whole, Churn and Through speak.
use Rattle.std.specs.Prelude.{◌≡◌, List, ℕ, length, Ok}
use Rattle.table.specs.Table.{count_in}
use Rattle.control.specs.declared.answer.Accepted.TheVariants.{Done}
use Rattle.asked.specs.Layer.{old_layer, new_layer}
use Rattle.asked.specs.Asked.{asked_size}
use Rattle.asked.specs.Moves.{forward_answer, back_answer, ThereAndBack, BackAndThere}
use Rattle.promises.specs.Run.{old, new}
use Rattle.promises.specs.Asked.{AskedMade, FrontRuns, FrontCalls}
use Rattle.promises.specs.Asks.{AsksFollow, EndsInTime, NumbersInOrder}

pub record Library : Type 0 where
  pub fronts : FrontRuns
  pub calls : FrontCalls
  -- Markers of our own
  pub follow : AsksFollow
  pub ends : EndsInTime
  pub numbers : NumbersInOrder
  -- moves: a table that a run made is moved if the target has its size, and what it asked for goes along
  pub forward-taken : (m : List ℕ) → AskedMade (old m) → (u : List ℕ) → length u ≡ asked_size new_layer (count_in m) → forward_answer m u ≡ Ok Done
  pub back-taken : (m : List ℕ) → AskedMade (new m) → (u : List ℕ) → length u ≡ asked_size old_layer (count_in m) → back_answer m u ≡ Ok Done
  pub there_and_back : ThereAndBack
  pub back-and-there : BackAndThere
