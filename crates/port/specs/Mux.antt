-- The Mux machine on a record (43.4.15), and steps 3 to 6 (R4) for one port.
use Rattle.std.specs.Prelude.{◌≡◌, Bool, false, cond, ◌||◌, List, [], ◌∷◌, ℕ, Option, Some, None, is_none}
use Rattle.machine.specs.declared.states.Mux.{Mux}
use Rattle.machine.specs.declared.states.Mux.TheVariants.{Detached, Waiting, Attached, Collecting, Distributing}
use Rattle.machine.specs.declared.states.Selection.TheVariants.{Unselected, Selected}
use Rattle.port.specs.declared.record.Port.{Port}
use Rattle.machine.specs.Mux.{mux_next, waits, is_attached, collects, distributes, mux_bits, sets_ntt, wait_time}
use Rattle.port.specs.Record.{with_mux, with_wait, with_ntt, with_actor, with_aggregator, with_selected}

-- the actions on entry
abbrev pub mux_entered : Mux → Port → Port
mux_entered m p = with_mux (with_wait (with_ntt (with_actor p (mux_bits m p.actor)) (sets_ntt m || p.ntt)) (wait_time m)) m

abbrev pub mux_taken : Option Mux → Port → Port
mux_taken None p = p
mux_taken (Some m) p = mux_entered m p

unfoldable pub mux_choice : Bool → Port → Option Mux
mux_choice ready p = mux_next p.phase.mux p.phase.selected ready p.partner.state.synchronization p.partner.state.collecting

unfoldable pub mux_step : Bool → Port → Port
mux_step ready p = mux_taken (mux_choice ready p) p

-- step 3: state by state down to DETACHED; three steps are enough (law `detached-is`)
unfoldable pub detached : Port → Port
detached p = mux_step false (mux_step false (mux_step false (with_selected p Unselected)))

-- step 4: the port holds aggregator k now, is SELECTED, and waits
unfoldable pub placed : ℕ → Port → Port
placed k p = mux_step false (with_selected (with_aggregator p k) Selected)

-- step 5: a port that waits attaches where its aggregator is Ready
unfoldable pub attached_if : Bool → Port → Port
attached_if ready p = cond (waits p.phase.mux) (mux_step ready p) p

-- step 6: up or down as the partner's bits say; two steps lead to rest (law `mux-rests`)
unfoldable pub mux_run : Port → Port
mux_run p = mux_step false (mux_step false p)

-- whether step 6 leaves the machine where it is (law `mux-gives-back`)
unfoldable pub rests_mux : Port → Bool
rests_mux p = is_none (mux_choice false p)

-- the states that lead down to DETACHED, in their order (figure 43-13), and a port that enters some states one after the other
abbrev pub descent : Mux → List Mux
descent Detached = []
descent Waiting = Detached ∷ []
descent Attached = Detached ∷ []
descent Collecting = Attached ∷ Detached ∷ []
descent Distributing = Collecting ∷ Attached ∷ Detached ∷ []

unfoldable pub entered_all : List Mux → Port → Port
entered_all [] p = p
entered_all (m ∷ ms) p = entered_all ms (mux_entered m p)

-- the actor's Synchronization, Collecting and Distributing say what the mux state is: of a state and three bits, and of a port
pub record BitsAgree (m : Mux) (sync coll dist : Bool) : Type 0 where
  pub synchronization : sync ≡ is_attached m
  pub collecting : coll ≡ collects m
  pub distributing : dist ≡ distributes m

abbrev pub SaysMux : Port → Type 0
SaysMux p = BitsAgree p.phase.mux p.actor.synchronization p.actor.collecting p.actor.distributing
