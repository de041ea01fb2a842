-- Moves between the two forms of a table (M-106): the front moves (whole/specs/Moves.antt), and the groups go along as they are.
use Rattle.std.specs.Prelude.{ℕ, ◌≡◌, Bool, cond, ◌&&◌, List, ◌++◌, length, eqb, Ok, Err}
use Rattle.table.specs.Table.{count_in, table_in_range}
use Rattle.churn.specs.Whole.{base_of}
use Rattle.control.specs.declared.answer.Accepted.TheVariants.{Done}
use Rattle.control.specs.declared.answer.Reason.TheVariants as reason
use Rattle.control.specs.Answer.{Answer, answer_number}
use Rattle.control.specs.After.{unless}
use Rattle.whole.specs.Moves.{is_new, moved_forward}
use Rattle.asked.specs.Layer.{old_layer, new_layer}
use Rattle.asked.specs.Asked.{asked_size, front_of, groups_of, has_asks}

-- memory that is a table of the old form, and of the new: every range is kept
abbrev pub is_old_asked : List ℕ → Bool
is_old_asked m = has_asks old_layer m && table_in_range (front_of old_layer m)

abbrev pub is_new_asked : List ℕ → Bool
is_new_asked m = has_asks new_layer m && is_new (front_of new_layer m)

-- whether the source is of the named form, and the target has the size of the other form for its count
abbrev pub goes_forward : List ℕ → List ℕ → Bool
goes_forward m u = is_old_asked m && eqb (length u) (asked_size new_layer (count_in m))

abbrev pub goes_back : List ℕ → List ℕ → Bool
goes_back m u = is_new_asked m && eqb (length u) (asked_size old_layer (count_in m))

-- answer 1 otherwise
unfoldable pub forward_answer : List ℕ → List ℕ → Answer
forward_answer m u = cond (goes_forward m u) (Ok Done) (Err reason.Table)

unfoldable pub back_answer : List ℕ → List ℕ → Answer
back_answer m u = cond (goes_back m u) (Ok Done) (Err reason.Table)

-- the target afterwards
unfoldable pub forward_to : List ℕ → List ℕ → List ℕ
forward_to m u = unless (forward_answer m u) u (moved_forward (front_of old_layer m) ++ groups_of old_layer m)

unfoldable pub back_to : List ℕ → List ℕ → List ℕ
back_to m u = unless (back_answer m u) u (base_of (front_of new_layer m) ++ groups_of new_layer m)

-- of a move: the answer a, and the target v afterwards
abbrev pub MeetsForward : List ℕ → List ℕ → Answer → List ℕ → Type 0
MeetsForward m u a v = (a ≡ forward_answer m u) × (v ≡ forward_to m u)

abbrev pub MeetsBack : List ℕ → List ℕ → Answer → List ℕ → Type 0
MeetsBack m u a v = (a ≡ back_answer m u) × (v ≡ back_to m u)

-- ---- there and back

-- a table of the old form that goes forward and back is the same table, octet for octet, whatever the memory of either move held
abbrev pub ThereAndBack : Type 0
ThereAndBack = (t u v : List ℕ) → forward_answer t u ≡ Ok Done → length v ≡ length t → (back_answer (forward_to t u) v ≡ Ok Done) × (back_to (forward_to t u) v ≡ t)

-- and one of the new form that goes back and forward keeps everything but the monitors, which have begun afresh
abbrev pub BackAndThere : Type 0
BackAndThere = (w u v : List ℕ) → back_answer w u ≡ Ok Done → length v ≡ length w
    → (forward_answer (back_to w u) v ≡ Ok Done) × (forward_to (back_to w u) v ≡ moved_forward (base_of (front_of new_layer w)) ++ groups_of new_layer w)

-- ---- a C function: the answer's number n

abbrev pub MeetsForwardNumber : List ℕ → List ℕ → ℕ → List ℕ → Type 0
MeetsForwardNumber m u n v = (n ≡ answer_number (forward_answer m u)) × (v ≡ forward_to m u)

abbrev pub MeetsBackNumber : List ℕ → List ℕ → ℕ → List ℕ → Type 0
MeetsBackNumber m u n v = (n ≡ answer_number (back_answer m u)) × (v ≡ back_to m u)
