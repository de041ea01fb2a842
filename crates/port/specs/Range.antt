-- The ranges of a record's values (R3.14, R3.15, R3.17), and its numbers, which fit their two octets.
use Rattle.std.specs.Prelude.{ℕ, Bool, true, ◌&&◌, List, [], ◌∷◌, leb, ltb, Option, Some, None}
use Rattle.octets.specs.Octets.{fits, within}
use Rattle.frame.specs.Block.{address_fits, block_fits}
use Rattle.machine.specs.declared.states.Timers.{Timers}
use Rattle.machine.specs.declared.states.Ages.{Ages}
use Rattle.machine.specs.Time.{slow_periodic_time, long_timeout_time, aggregate_wait_time}
use Rattle.machine.specs.Ages.{forgotten_age}
use Rattle.port.specs.declared.record.Own.{Own}
use Rattle.port.specs.declared.record.Port.{Port}

-- a timer holds at most the longest time with which it is started
unfoldable pub timers_in_range : Timers → Bool
timers_in_range t = leb t.current.0 long_timeout_time && (leb t.periodic.0 slow_periodic_time && leb t.wait.0 aggregate_wait_time)

-- a send that is remembered, or none
abbrev pub age_in_range : Option ℕ → Bool
age_in_range None = true
age_in_range (Some a) = ltb a forgotten_age

-- each of the three ages
unfoldable pub ages_in_range : Ages → Bool
ages_in_range g = age_in_range g.first && (age_in_range g.second && age_in_range g.third)

-- in a table of `count` ports: the aggregator held, the timers and the ages; every other value is in range
unfoldable pub values_in_range : ℕ → Port → Bool
values_in_range count p = within 1 p.aggregator count && (timers_in_range p.timers && ages_in_range p.ages)

-- the numbers of the settings
unfoldable pub own_fits : Own → Bool
own_fits o = address_fits o.address && (fits o.key && (fits o.priority && block_fits o.default))

-- whether a record is in range: its values are, and every number fits its octets
unfoldable pub port_in_range : ℕ → Port → Bool
port_in_range count p = values_in_range count p && (own_fits p.own && block_fits p.partner)

-- whether every record of a list is in range
unfoldable pub ports_in_range : ℕ → List Port → Bool
ports_in_range count [] = true
ports_in_range count (p ∷ ps) = port_in_range count p && ports_in_range count ps
