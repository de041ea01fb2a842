-- What the two C functions promise that are lent a port's counters: what they promised without them, and all seven counters.
use Rattle.std.specs.Prelude.{ℕ, ◌≡◌, List}
use Rattle.control.specs.Call.{fetch, receive}
use Rattle.counters.specs.declared.Counters.{Counters}
use Rattle.counters.specs.Counters.{received, fetched}
use Rattle.asked.specs.Layer.{new_layer}
use Rattle.asked.specs.Calls.{asked_answer}
use Rattle.asked.specs.Meets.{MeetsNumberOut, MeetsFrame}

-- of a fetch on memory w with counters k: the answer's number n, and memory u, buffer o and counters l afterwards
abbrev pub MeetsFetch : ℕ → List ℕ → List ℕ → Counters → ℕ → List ℕ → List ℕ → Counters → Type 0
MeetsFetch port out w k n u o l = MeetsNumberOut (fetch port out) w n u o × (l ≡ fetched (asked_answer new_layer (fetch port out) w) k)

-- of a receive, the length s that was sent too
abbrev pub MeetsReceive : ℕ → List ℕ → List ℕ → List ℕ → Counters → ℕ → List ℕ → List ℕ → ℕ → Counters → Type 0
MeetsReceive port frame out w k n u o s l = MeetsFrame (receive port frame out) w n u o s × (l ≡ received (asked_answer new_layer (receive port frame out) w) k)
