-- The library's two reports beyond R15, along any run: why a port does not carry (`why_report`), and why two ports are apart (`apart_report`; reasons/specs/Reasons.antt). What a cause
-- says is `says`, and the order in which causes are asked for is `order` (why/specs/Cause.antt). Ports have the numbers by which calls name them, from 1.
use Rattle.std.specs.Prelude.{ℕ, ◌-◌, ◌≡◌, ◌≢◌, true, false, List, eqb, Option, Some, Ok}
use Rattle.port.specs.Compared.{compared}
use Rattle.table.specs.Table.{ours}
use Rattle.control.specs.Accepted.{accepted}
use Rattle.control.specs.Call.{Call}
use Rattle.control.specs.After.{after}
use Rattle.why.specs.declared.cause.Cause.{Cause}
use Rattle.why.specs.Cause.{no_why}
use Rattle.why.specs.Apart.{nothing, apart_number}
use Rattle.why.specs.Exact.{is_carrying, First, Differ}
use Rattle.reasons.specs.Reasons.{why_report, apart_report, why_told, apart_told}
use Rattle.claims.specs.Run.{Takes}
use Rattle.claims.specs.Told.{why_in, held_in, Stands, Beside, Thinned}
use Rattle.promises.specs.Run.{new, memory_of, call}
use Rattle.promises.specs.Asked.{front_in, table_in, plain, done, NewAsked}
use Rattle.promises.specs.Fronts.{IsPort, record_of, carries, in_one_group}

-- of port n of the table in memory m
abbrev pub cause_of : List ℕ → ℕ → Option Cause
cause_of m n = (why_told (why_report n m)).cause

abbrev pub FirstOf : List ℕ → ℕ → Cause → Type 0
FirstOf m n c = First (held_in (table_in (new m)) (n - 1)) (record_of (front_in (new m)) n) c

pub record WhyTrue (m : List ℕ) (n : ℕ) : Type 0 where
  pub answered : accepted (why_report n m) ≡ true
  -- 'carries' exactly if the port distributes
  pub carries : is_carrying (cause_of m n) ≡ carries (front_in (new m)) n
  -- each cause exactly if what it says is so and what none before it says is
  pub only : (c : Cause) → cause_of m n ≡ Some c → FirstOf m n c
  pub whenever : (c : Cause) → FirstOf m n c → cause_of m n ≡ Some c
  -- some cause always: a port stands as its cause says, and no port stands as none
  pub stands : Stands (cause_of m n) (record_of (front_in (new m)) n)
  -- the ticks left, and the port that holds it back
  pub why : why_report n m ≡ Ok (why_in (table_in (new m)) (n - 1))
  pub beside : Beside (table_in (new m)) (n - 1)

pub record ApartTrue (m : List ℕ) (n k : ℕ) : Type 0 where
  pub answered : accepted (apart_report n k m) ≡ true
  -- empty exactly if the ports share a group
  pub shares : eqb (apart_number (apart_told (apart_report n k m))) 0 ≡ in_one_group (front_in (new m)) n k
  -- of two ports, each reason exactly if its fields differ
  pub differ : n ≢ k
      → Differ (ours (table_in (new m))) (compared (record_of (front_in (new m)) n)) (compared (record_of (front_in (new m)) k)) (apart_number (apart_told (apart_report n k m)))

-- a port that carried before a call and does not after it: an event of the call, and the cause that goes with it, which is what the report then says
pub record ThinnerTrue (c : Call) (m : List ℕ) (n : ℕ) : Type 0 where
  pub thinned : Thinned c (table_in (new m)) (n - 1)
  pub told : why_report n (memory_of (done (plain (call c)) (new m))) ≡ Ok (why_in (after c (table_in (new m))) (n - 1))

pub record Reasons : Type 0 where
  pub why : (m : List ℕ) → NewAsked m → (n : ℕ) → IsPort (front_in (new m)) n → WhyTrue m n
  pub apart : (m : List ℕ) → NewAsked m → (n k : ℕ) → IsPort (front_in (new m)) n → IsPort (front_in (new m)) k → ApartTrue m n k
  pub thinner : (m : List ℕ) → NewAsked m → (c : Call) → Takes c → (n : ℕ) → IsPort (front_in (new m)) n
      → carries (front_in (new m)) n ≡ true → carries (front_in (done (plain (call c)) (new m))) n ≡ false → ThinnerTrue c m n
  -- in any memory a refusal says nothing
  pub unsaid : (m : List ℕ) (n : ℕ) → accepted (why_report n m) ≡ false → why_told (why_report n m) ≡ no_why
  pub unparted : (m : List ℕ) (n k : ℕ) → accepted (apart_report n k m) ≡ false → apart_told (apart_report n k m) ≡ nothing
