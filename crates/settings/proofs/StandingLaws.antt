-- New settings leave a port's receive machine at rest and its mux part and ages of sends as they were, and a port begins at rest. Assumes
-- nothing.
use mathlib.Core.Path.{◌≡◌, refl, sym, subst}
use mathlib.Core.Bool.{Bool, true, false, cond}
use native.Mathlib.Omega.{arith}
use Rattle.port.specs.declared.record.Port.{Port}
use Rattle.port.specs.Record.{with_ntt, with_actor, with_own}
use Rattle.port.specs.Receive.{record_default, unselected, initialized, port_disabled, moved}
use Rattle.port.specs.Rest.{Resting}
use Rattle.port.proofs.RestParts.{receive_part, periodic_part, ReceiveRests, calm_part, Standing, resting-is, calm_rests}
use Rattle.port.proofs.RestKept.{aside, Steady, standing-is, aside-standing, moved-aside, moved-rests, aside-ages}
use Rattle.settings.specs.declared.Settings.{Settings}
use Rattle.settings.specs.Settings.{own_of, own_bits, same_grouping, regrouped, configured, blank, started}

-- ---- settings

configured-aside : (b : Bool) (s : Settings) (p : Port) → aside (with_ntt (with_actor (with_own (cond b p (unselected p)) (own_of s)) (own_bits s p.actor)) true) ≡ aside p
configured-aside true s p = refl
configured-aside false s p = refl

configured-receive : (b : Bool) (s : Settings) (p : Port)
    → receive_part (with_ntt (with_actor (with_own (cond b p (unselected p)) (own_of s)) (own_bits s p.actor)) true) ≡ receive_part p
configured-receive true s p = refl
configured-receive false s p = refl

pub configured-standing : (s : Settings) (p : Port) → Standing p → Standing (configured s p)
unfolding configured regrouped
configured-standing s p h =
    aside-standing p (configured s p) (configured-aside (same_grouping s p) s p) h
    (subst ReceiveRests (sym (configured-receive (same_grouping s p) s p)) h.receive)

-- ---- the record with which a port begins

blank-steady : (s : Settings) → Steady (aside (blank s))
unfolding Steady blank
blank-steady s = (
  record {
    says = record { synchronization = refl; collecting = refl; distributing = refl };
    timed = record { within = omega arith; stopped = λ e. refl };
  },
  record { within = omega arith; stopped = λ e. refl },
)

blank-down : (s : Settings) → (blank s).line.up ≡ false
unfolding blank
blank-down s = refl

blank_calm : (s : Settings) → calm_part (periodic_part (moved (blank s))) ≡ true
unfolding moved port_disabled initialized record_default blank
blank_calm s = refl

pub started-resting : (s : Settings) → Resting (started s)
unfolding started
started-resting s =
    resting-is (moved (blank s))
    (standing-is (moved (blank s)) (moved-rests (blank s) (blank-down s)) (subst Steady (sym (moved-aside (blank s))) (blank-steady s)))
    (calm_rests (moved (blank s)) (blank_calm s))

-- ---- what settings leave alone

pub settings-aside : (s : Settings) (p : Port) → aside (configured s p) ≡ aside p
unfolding configured regrouped
settings-aside s p = configured-aside (same_grouping s p) s p

pub configured-ages : (s : Settings) (p : Port) → (configured s p).ages ≡ p.ages
configured-ages s p = aside-ages p (configured s p) (settings-aside s p)
