-- Which answers accept a call (R2).
use Rattle.std.specs.Prelude.{Bool, true, false, Result, Ok, Err, is_ok}
use Rattle.control.specs.declared.answer.Accepted.TheVariants.{Done, Lacpdu, Marker}
use Rattle.control.specs.declared.answer.Reason.{Reason}
use Rattle.control.specs.Answer.{Answer}

-- every answer but a refusal
abbrev pub accepted : {A : Type 0} → Result A Reason → Bool
accepted = is_ok

-- an accepted LACPDU
abbrev pub is_lacpdu : Answer → Bool
is_lacpdu (Ok Done) = false
is_lacpdu (Ok Lacpdu) = true
is_lacpdu (Ok Marker) = false
is_lacpdu (Err r) = false
