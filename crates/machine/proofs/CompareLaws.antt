-- Each comparison is true exactly for values that are equal in what it compares. Assumes nothing.
use Prim.Native.Nat.{ℕ}
use mathlib.Core.Path.{◌≡◌, refl, sym, ap, ◌∙◌}
use mathlib.Core.Logic.{◌⊎◌, inl, inr}
use mathlib.Core.Bool.{Bool, true, false, beq, not, ◌&&◌, ◌||◌, or-true, and_assoc, and-eq-true_iff, false≢true}
use lib.Dec.{eqb}
use borrow.Author.Tests.{eqb-true, eq-eqb, not-true}
use Rattle.frame.specs.declared.block.Address.{Address}
use Rattle.frame.specs.declared.block.Block.{Block}
use Rattle.frame.specs.declared.block.SystemId.{SystemId}
use Rattle.frame.specs.declared.state.PortState.{PortState}
use Rattle.machine.specs.declared.states.Line.{Line}
use Rattle.machine.specs.Bits.{alike}
use Rattle.machine.specs.Compare.{same_address, same_system, same_numbers, same_party, same_view, maintained, in_sync, same_state, same_block, Party, party, View, view, InSync}
use Rattle.machine.specs.States.{silent_on, same_line}

-- ---- the equality that the code derives is that of the definitions

pub beq-alike : (x y : Bool) → beq x y ≡ alike x y
beq-alike true true = refl
beq-alike true false = refl
beq-alike false true = refl
beq-alike false false = refl

abbrev equal_bits : PortState → PortState → Bool
equal_bits x y =
    beq x.activity y.activity
    && (beq x.timeout y.timeout
    && (beq x.aggregation y.aggregation
    && (beq x.synchronization y.synchronization
    && (beq x.collecting y.collecting
    && (beq x.distributing y.distributing
    && (beq x.defaulted y.defaulted
    && beq x.expired y.expired))))))

state-equal : (x y : PortState) → equal_bits x y ≡ same_state x y
unfolding same_state
state-equal x y =
    rw (
      beq-alike x.activity y.activity,
      beq-alike x.timeout y.timeout,
      beq-alike x.aggregation y.aggregation,
      beq-alike x.synchronization y.synchronization,
      beq-alike x.collecting y.collecting,
      beq-alike x.distributing y.distributing,
      beq-alike x.defaulted y.defaulted,
      beq-alike x.expired y.expired,
    )

pub block-equal : (x y : Block)
    → same_system x.system y.system && (eqb x.key y.key && ((eqb x.port.priority y.port.priority && eqb x.port.number y.port.number) && equal_bits x.state y.state))
    ≡ same_block x y
unfolding same_block same_numbers
block-equal x y = by (same_system x.system y.system) (eqb x.key y.key) (eqb x.port.priority y.port.priority && eqb x.port.number y.port.number) (state-equal x.state y.state)
  where
    by : {t : Bool} (a b c : Bool) → equal_bits x.state y.state ≡ t → a && (b && (c && equal_bits x.state y.state)) ≡ (a && (b && c)) && t
    by a b c e = ap (λ (s : Bool). a && (b && (c && s))) e ∙ ap (λ (s : Bool). a && s) (sym (and_assoc b c _)) ∙ sym (and_assoc a (b && c) _)

-- ---- from a test to an equation

pub alike-true : (x y : Bool) → alike x y ≡ true → x ≡ y
alike-true true true e = refl
alike-true true false e = absurd (false≢true e)
alike-true false true e = absurd (false≢true e)
alike-true false false e = refl

both : (a b : Bool) → a && b ≡ true → (a ≡ true) × (b ≡ true)
both a b e = (and-eq-true_iff a b).0 e

pub line-true : (x y : Line) → same_line x y ≡ true → x ≡ y
line-true x y e =
    let h = both (alike x.up y.up) _ e in
    λ i. record { up = alike-true x.up y.up h.0 i; full = alike-true x.full y.full h.1 i }

pub address-true : (x y : Address) → same_address x y ≡ true → x ≡ y
unfolding same_address
address-true x y e =
    let h = both (eqb x.high y.high) _ e in
    let t = both (eqb x.middle y.middle) _ h.1 in
    λ i. record { high = eqb-true x.high y.high h.0 i; middle = eqb-true x.middle y.middle t.0 i; low = eqb-true x.low y.low t.1 i }

pub system-true : (x y : SystemId) → same_system x y ≡ true → x ≡ y
unfolding same_system
system-true x y e =
    let h = both (eqb x.priority y.priority) _ e in
    λ i. record { priority = eqb-true x.priority y.priority h.0 i; address = address-true x.address y.address h.1 i }

pub numbers-true : (x y : Block) → same_numbers x y ≡ true → (x.system ≡ y.system) × (x.key ≡ y.key) × (x.port ≡ y.port)
unfolding same_numbers
numbers-true x y e =
    let s = both (same_system x.system y.system) _ e in
    let k = both (eqb x.key y.key) _ s.1 in
    let p = both (eqb x.port.priority y.port.priority) _ k.1 in (
      system-true x.system y.system s.0,
      eqb-true x.key y.key k.0,
      λ i. record { priority = eqb-true x.port.priority y.port.priority p.0 i; number = eqb-true x.port.number y.port.number p.1 i },
    )

pub party-true : (x y : Block) → same_party x y ≡ true → party x ≡ party y
unfolding same_party
party-true x y e =
    let h = both (same_numbers x y) _ e in
    let n = numbers-true x y h.0 in
    λ i. record { system = n.0 i; key = n.1 i; port = n.2 i; aggregation = alike-true x.state.aggregation y.state.aggregation h.1 i }

pub state-true : (x y : PortState) → same_state x y ≡ true → x ≡ y
unfolding same_state
state-true x y e =
    let a = both (alike x.activity y.activity) _ e in
    let b = both (alike x.timeout y.timeout) _ a.1 in
    let c = both (alike x.aggregation y.aggregation) _ b.1 in
    let d = both (alike x.synchronization y.synchronization) _ c.1 in
    let f = both (alike x.collecting y.collecting) _ d.1 in
    let g = both (alike x.distributing y.distributing) _ f.1 in
    let h = both (alike x.defaulted y.defaulted) _ g.1 in
    λ i. record {
      activity = alike-true x.activity y.activity a.0 i;
      timeout = alike-true x.timeout y.timeout b.0 i;
      aggregation = alike-true x.aggregation y.aggregation c.0 i;
      synchronization = alike-true x.synchronization y.synchronization d.0 i;
      collecting = alike-true x.collecting y.collecting f.0 i;
      distributing = alike-true x.distributing y.distributing g.0 i;
      defaulted = alike-true x.defaulted y.defaulted h.0 i;
      expired = alike-true x.expired y.expired h.1 i;
    }

pub block-true : (x y : Block) → same_block x y ≡ true → x ≡ y
unfolding same_block
block-true x y e =
    let h = both (same_numbers x y) _ e in
    let n = numbers-true x y h.0 in
    λ i. record { system = n.0 i; key = n.1 i; port = n.2 i; state = state-true x.state y.state h.1 i }

-- ---- a value is alike with itself

alike_refl : (x : Bool) → alike x x ≡ true
alike_refl true = refl
alike_refl false = refl

pub line_refl : (x : Line) → same_line x x ≡ true
line_refl x = rw (alike_refl x.up, alike_refl x.full)

eqb_self : (n : ℕ) → eqb n n ≡ true
eqb_self n = eq-eqb n n refl

address_refl : (x : Address) → same_address x x ≡ true
unfolding same_address
address_refl x = rw (eqb_self x.high, eqb_self x.middle, eqb_self x.low)

pub system_refl : (x : SystemId) → same_system x x ≡ true
unfolding same_system
system_refl x = rw (eqb_self x.priority, address_refl x.address)

numbers_refl : (x : Block) → same_numbers x x ≡ true
unfolding same_numbers
numbers_refl x = rw (system_refl x.system, eqb_self x.key, eqb_self x.port.priority, eqb_self x.port.number)

pub party_refl : (x : Block) → same_party x x ≡ true
unfolding same_party
party_refl x = rw (numbers_refl x, alike_refl x.state.aggregation)

state_refl : (x : PortState) → same_state x x ≡ true
unfolding same_state
state_refl x =
    rw (
      alike_refl x.activity,
      alike_refl x.timeout,
      alike_refl x.aggregation,
      alike_refl x.synchronization,
      alike_refl x.collecting,
      alike_refl x.distributing,
      alike_refl x.defaulted,
      alike_refl x.expired,
    )

pub block_refl : (x : Block) → same_block x x ≡ true
unfolding same_block
block_refl x = rw (numbers_refl x, state_refl x.state)

-- ---- each test of 43.4.9, exactly if

pub party-is : (x y : Block) → party x ≡ party y → same_party x y ≡ true
unfolding same_party same_numbers
party-is x y e =
    let system : x.system ≡ y.system = ap (λ (z : Party). z.system) e in
    let key : x.key ≡ y.key = ap (λ (z : Party). z.key) e in
    let port : x.port ≡ y.port = ap (λ (z : Party). z.port) e in
    let aggregation : x.state.aggregation ≡ y.state.aggregation = ap (λ (z : Party). z.aggregation) e in
    rw (system, key, port, aggregation, system_refl y.system, eqb_self y.key, eqb_self y.port.priority, eqb_self y.port.number, alike_refl y.state.aggregation)

pub view-true : (x y : Block) → same_view x y ≡ true → view x ≡ view y
unfolding same_view
view-true x y e =
    let h = both (same_party x y) _ e in
    let a = both (alike x.state.activity y.state.activity) _ h.1 in
    let b = both (alike x.state.timeout y.state.timeout) _ a.1 in
    λ i. record {
      party = party-true x y h.0 i;
      activity = alike-true x.state.activity y.state.activity a.0 i;
      timeout = alike-true x.state.timeout y.state.timeout b.0 i;
      synchronization = alike-true x.state.synchronization y.state.synchronization b.1 i;
    }

pub view-is : (x y : Block) → view x ≡ view y → same_view x y ≡ true
unfolding same_view
view-is x y e =
    let same : same_party x y ≡ true = party-is x y (ap (λ (z : View). z.party) e) in
    let activity : x.state.activity ≡ y.state.activity = ap (λ (z : View). z.activity) e in
    let timeout : x.state.timeout ≡ y.state.timeout = ap (λ (z : View). z.timeout) e in
    let synchronization : x.state.synchronization ≡ y.state.synchronization = ap (λ (z : View). z.synchronization) e in
    rw (same, activity, timeout, synchronization, alike_refl y.state.activity, alike_refl y.state.timeout, alike_refl y.state.synchronization)

-- one of two
either : (a b : Bool) → a || b ≡ true → (a ≡ true) ⊎ (b ≡ true)
either true b e = inl e
either false b e = inr e

is-either : (a b : Bool) → (a ≡ true) ⊎ (b ≡ true) → a || b ≡ true
is-either a b (inl e) = rw e
is-either a b (inr e) = rw (e, or-true a)

alive-true : (x y z : Bool) → (x ≡ true) ⊎ (y && z ≡ true) → (x ≡ true) ⊎ ((y ≡ true) × (z ≡ true))
alive-true x y z (inl e) = inl e
alive-true x y z (inr e) = inr (both y z e)

alive-is : (x y z : Bool) → (x ≡ true) ⊎ ((y ≡ true) × (z ≡ true)) → (x ≡ true) ⊎ (y && z ≡ true)
alive-is x y z (inl e) = inl e
alive-is x y z (inr e) = inr (rw (e.0, e.1))

agreed-true : (us a b : Block) → (same_party b us ≡ true) ⊎ (not a.state.aggregation ≡ true) → (party b ≡ party us) ⊎ (a.state.aggregation ≡ false)
agreed-true us a b (inl e) = inl (party-true b us e)
agreed-true us a b (inr e) = inr (not-true a.state.aggregation e)

agreed-is : (us a b : Block) → (party b ≡ party us) ⊎ (a.state.aggregation ≡ false) → (same_party b us ≡ true) ⊎ (not a.state.aggregation ≡ true)
agreed-is us a b (inl e) = inl (party-is b us e)
agreed-is us a b (inr e) = inr (rw e)

pub in_sync-true : (us a b : Block) → in_sync us a b ≡ true → InSync us a b
unfolding in_sync maintained
in_sync-true us a b e =
    let h = both a.state.synchronization _ e in
    let k = both (a.state.activity || (us.state.activity && b.state.activity)) _ h.1 in
    record {
      says = h.0;
      alive = alive-true a.state.activity us.state.activity b.state.activity (either a.state.activity _ k.0);
      agreed = agreed-true us a b (either (same_party b us) _ k.1);
    }

pub in_sync-is : (us a b : Block) → InSync us a b → in_sync us a b ≡ true
unfolding in_sync maintained
in_sync-is us a b h =
    let alive : a.state.activity || (us.state.activity && b.state.activity) ≡ true =
    is-either a.state.activity (us.state.activity && b.state.activity) (alive-is a.state.activity us.state.activity b.state.activity h.alive) in
    let agreed : same_party b us || not a.state.aggregation ≡ true =
    is-either (same_party b us) (not a.state.aggregation) (agreed-is us a b h.agreed) in
    rw (h.says, alive, agreed)

-- LACP is off, or the port is up and both ends are passive
pub silent-true : (l : Line) (passive : Bool) → silent_on l passive ≡ true → (l.full ≡ false) ⊎ ((l.up ≡ true) × (passive ≡ true))
silent-true l passive e = by (either (not l.full) (l.up && passive) e)
  where
    by : (not l.full ≡ true) ⊎ (l.up && passive ≡ true) → (l.full ≡ false) ⊎ ((l.up ≡ true) × (passive ≡ true))
    by (inl x) = inl (not-true l.full x)
    by (inr x) = inr (both l.up passive x)

pub silent-is : (l : Line) (passive : Bool) → (l.full ≡ false) ⊎ ((l.up ≡ true) × (passive ≡ true)) → silent_on l passive ≡ true
silent-is l passive (inl x) = rw x
silent-is l passive (inr x) = rw (x.0, x.1, or-true (not l.full))
