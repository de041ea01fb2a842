-- The ages of up to three sends, for the limit of 43.4.16.
use Rattle.std.specs.Prelude.{ℕ, ◌+◌, ◌-◌, Bool, cond, ◌&&◌, leb, Option, Some, None, is_some, is_none}
use Rattle.machine.specs.declared.states.Ages.{Ages}

-- the age at which a send is forgotten: eleven ticks have ten whole intervals between them, a Fast_Periodic_Time
abbrev pub forgotten_age : ℕ
forgotten_age = 11

abbrev pub no_send : Option ℕ
no_send = None

abbrev pub ages : Option ℕ → Option ℕ → Option ℕ → Ages
ages a b c = record { first = a; second = b; third = c }

-- a tick makes a send one older, and forgets one that would reach that age
abbrev pub aged : Option ℕ → Option ℕ
aged None = no_send
aged (Some a) = cond (leb (forgotten_age - 1) a) no_send (Some (a + 1))

-- the first free place is dropped, those before it move down by one, and the new send, age 0, goes first
abbrev pub sent_ages : Ages → Ages
sent_ages g =
    cond (is_none g.first) (ages (Some 0) g.second g.third)
    (cond (is_none g.second) (ages (Some 0) g.first g.third) (ages (Some 0) g.first g.second))

-- three sends bar a fourth
abbrev pub barred : Ages → Bool
barred g = is_some g.first && (is_some g.second && is_some g.third)

abbrev pub ages_ticked : Ages → Ages
ages_ticked g = ages (aged g.first) (aged g.second) (aged g.third)
