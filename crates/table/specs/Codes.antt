-- The octet that stands for a flag or for the age of a send in a record, and what an octet stands for.
use Rattle.std.specs.Prelude.{ℕ, Bool, cond, eqb, Option, Some, None}
use Rattle.frame.specs.State.{weighed}

abbrev pub flag_octet : Bool → ℕ
flag_octet b = weighed b 1

abbrev pub flag_of : ℕ → Bool
flag_of n = eqb n 1

-- no send is remembered
abbrev pub no_age : ℕ
no_age = 255

abbrev pub age_octet : Option ℕ → ℕ
age_octet None = no_age
age_octet (Some a) = a

abbrev pub age_of : ℕ → Option ℕ
age_of n = cond (eqb n no_age) None (Some n)
