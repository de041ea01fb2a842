-- What is proved of the two reports on any records. `First`: a cause says what is so, and none that is asked for before it does.
use Rattle.std.specs.Prelude.{ℕ, ◌+◌, ◌≤◌, ◌<◌, ◌≡◌, ◌≢◌, Bool, true, false, not, List, [], ◌∷◌, ◌++◌, length, get_or, eqb, Option, Some}
use Rattle.octets.specs.Sets.{member}
use Rattle.machine.specs.Compare.{same_address, same_system}
use Rattle.machine.specs.Mux.{distributes}
use Rattle.port.specs.declared.record.Port.{Port}
use Rattle.port.specs.Compared.{Compared}
use Rattle.table.specs.declared.layout.Header.{Header}
use Rattle.trunk.specs.Ready.{waits_for}
use Rattle.trunk.specs.Selection.{nobody, shares_group}
use Rattle.why.specs.declared.cause.Cause.{Cause}
use Rattle.why.specs.declared.cause.Cause.TheVariants.{Carries, CarriesByDefault}
use Rattle.why.specs.declared.cause.Hold.{Hold}
use Rattle.why.specs.Cause.{says, order, cause_of, longest}
use Rattle.why.specs.Apart.{apart_of, apart_number}

-- ---- why

abbrev pub is_carrying : Option Cause → Bool
is_carrying (Some Carries) = true
is_carrying (Some CarriesByDefault) = true
is_carrying cause = false

-- 'carries' exactly if the port distributes
abbrev pub CarryingTrue : Type 0
CarryingTrue = (held : Bool) (p : Port) → is_carrying (cause_of held p) ≡ distributes p.phase.mux

abbrev pub NoneOf : (Cause → Bool) → List Cause → Type 0
NoneOf f [] = Unit
NoneOf f (c ∷ cs) = (f c ≡ false) × NoneOf f cs

-- of a list in which a cause stands
pub record FirstIn (f : Cause → Bool) (c : Cause) (cs : List Cause) : Type 0 where
  pub before : List Cause
  pub rest : List Cause
  pub stands : cs ≡ before ++ (c ∷ rest)
  pub none : NoneOf f before
  pub so : f c ≡ true

abbrev pub First : Bool → Port → Cause → Type 0
First held p c = FirstIn (says held p) c order

-- each cause is given exactly then
pub record CauseTrue (held : Bool) (p : Port) (c : Cause) : Type 0 where
  pub only : cause_of held p ≡ Some c → First held p c
  pub whenever : First held p c → cause_of held p ≡ Some c

abbrev pub CausesTrue : Type 0
CausesTrue = (held : Bool) (p : Port) (c : Cause) → CauseTrue held p c

-- of ports with the numbers from n on, one waits for aggregator k: so many ticks more, of which some are left, nobody waits longer, and who has a lower number waits less long
pub record Longest (k n : ℕ) (ps : List Port) (d : Port) (h : Hold) : Type 0 where
  pub index : ℕ
  pub there : index < length ps
  pub is : h.port ≡ n + index
  pub waiting : waits_for k (get_or ps index d) ≡ true
  pub ticks : (get_or ps index d).timers.wait.0 ≡ h.ticks
  pub some : 1 ≤ h.ticks
  pub most : (j : ℕ) → j < length ps → waits_for k (get_or ps j d) ≡ true → (get_or ps j d).timers.wait.0 ≤ h.ticks
  pub lowest : (j : ℕ) → j < index → waits_for k (get_or ps j d) ≡ true → (get_or ps j d).timers.wait.0 < h.ticks

abbrev pub LongestTrue : Type 0
LongestTrue = (k n : ℕ) (ps : List Port) (d : Port) (h : Hold) → longest k n ps ≡ Some h → Longest k n ps d h

-- ---- apart

-- empty exactly if the ports share a group
abbrev pub ApartShares : Type 0
ApartShares = (ours : Header) (cs : List Compared) (i j : ℕ) → eqb (apart_number (apart_of ours cs i j)) 0 ≡ shares_group ours cs i j

-- of two ports, each reason exactly if its fields differ; x is the set
pub record Differ (ours : Header) (c d : Compared) (x : ℕ) : Type 0 where
  pub first-own : member x 0 ≡ not c.aggregation
  pub first-partner : member x 1 ≡ not c.partner_aggregation
  pub first_looped : member x 2 ≡ same_system c.system ours.system
  pub second-own : member x 3 ≡ not d.aggregation
  pub second-partner : member x 4 ≡ not d.partner_aggregation
  pub second_looped : member x 5 ≡ same_system d.system ours.system
  pub keys : member x 6 ≡ not (eqb c.key d.key)
  pub priorities : member x 7 ≡ not (eqb c.system.priority d.system.priority)
  pub addresses : member x 8 ≡ not (same_address c.system.address d.system.address)
  pub partner-keys : member x 9 ≡ not (eqb c.partner_key d.partner_key)

abbrev pub ReasonsTrue : Type 0
ReasonsTrue = (ours : Header) (cs : List Compared) (i j : ℕ) → i ≢ j → Differ ours (get_or cs i nobody) (get_or cs j nobody) (apart_number (apart_of ours cs i j))
