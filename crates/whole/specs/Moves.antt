-- Moves between the two forms of a table (M-106): the old form, without monitors, and the new, with them. A move is lent the source and the target; it
-- leaves the source as it is, and what the target held does not matter.
use Rattle.std.specs.Prelude.{ℕ, ◌≡◌, Bool, cond, ◌&&◌, List, length, eqb, Ok, Err}
use Rattle.table.specs.Layout.{place}
use Rattle.table.specs.Table.{count_in, port_at, table_in_range}
use Rattle.churn.specs.Churn.{watching, both_begun}
use Rattle.churn.specs.Whole.{whole_size, base_of, has_monitors, with_monitors}
use Rattle.control.specs.Answer.{Answer}
use Rattle.control.specs.declared.answer.Accepted.TheVariants.{Done}
use Rattle.control.specs.declared.answer.Reason.TheVariants as reason
use Rattle.control.specs.After.{unless}

-- memory that is a table of the new form: monitors and records in range (of the old form it is `table_in_range`)
abbrev pub is_new : List ℕ → Bool
is_new w = has_monitors w && table_in_range (base_of w)

-- a table of the old form in the new: monitors begin afresh, nothing counted, and run once, as after step 6
unfoldable pub moved_forward : List ℕ → List ℕ
moved_forward t = with_monitors t (λ i. watching (port_at t i) both_begun)

-- whether the source is of the named form, and the target has the size of the other form for its count
abbrev pub goes_forward : List ℕ → List ℕ → Bool
goes_forward t u = table_in_range t && eqb (length u) (whole_size (count_in t))

abbrev pub goes_back : List ℕ → List ℕ → Bool
goes_back w u = is_new w && eqb (length u) (place (count_in w))

-- answer 1 otherwise
unfoldable pub forward_answer : List ℕ → List ℕ → Answer
forward_answer t u = cond (goes_forward t u) (Ok Done) (Err reason.Table)

unfoldable pub back_answer : List ℕ → List ℕ → Answer
back_answer w u = cond (goes_back w u) (Ok Done) (Err reason.Table)

-- the target afterwards
unfoldable pub forward_to : List ℕ → List ℕ → List ℕ
forward_to t u = unless (forward_answer t u) u (moved_forward t)

unfoldable pub back_to : List ℕ → List ℕ → List ℕ
back_to w u = unless (back_answer w u) u (base_of w)

-- of a move: the answer a, and the target v afterwards
abbrev pub MeetsForward : List ℕ → List ℕ → Answer → List ℕ → Type 0
MeetsForward t u a v = (a ≡ forward_answer t u) × (v ≡ forward_to t u)

abbrev pub MeetsBack : List ℕ → List ℕ → Answer → List ℕ → Type 0
MeetsBack w u a v = (a ≡ back_answer w u) × (v ≡ back_to w u)

-- ---- there and back

-- a table of the old form that goes forward and back is the same table, octet for octet, whatever the memory of either move held
abbrev pub ThereAndBack : Type 0
ThereAndBack = (t u v : List ℕ) → forward_answer t u ≡ Ok Done → length v ≡ length t → (back_answer (forward_to t u) v ≡ Ok Done) × (back_to (forward_to t u) v ≡ t)

-- and one of the new form that goes back and forward keeps everything but the monitors, which have begun afresh
abbrev pub BackAndThere : Type 0
BackAndThere = (w u v : List ℕ) → back_answer w u ≡ Ok Done → length v ≡ length w
    → (forward_answer (back_to w u) v ≡ Ok Done) × (base_of (forward_to (back_to w u) v) ≡ base_of w) × (forward_to (back_to w u) v ≡ moved_forward (base_of w))
