-- Each piece of work leaves a sound table of a sound one, and start makes one. Before settling, it leaves records in range whose receive
-- machines rest; the periodic machines and steps 3 to 6 bring the others to rest and keep the range. Assumes nothing.
use Prim.Native.Nat.{ℕ, ◌+◌, ◌<◌, ◌≤◌}
use mathlib.Core.Path.{◌≡◌, refl, sym, ap, ◌∙◌, subst}
use mathlib.Core.Bool.{Bool, true, false}
use mathlib.Core.List.{List, [], map}
use lib.ListN.{length, get_or, set, replicate, length-map, length-set, length-replicate}
use Rattle.std.specs.Prelude.{Ok, Err}
use Rattle.octets.specs.Lists.{Each}
use Rattle.octets.proofs.ListLaws.{sweep_length, each_map, each_sweep, each_set, each-alike}
use Rattle.octets.specs.Octets.{Octets}
use Rattle.frame.specs.Block.{block_of}
use Rattle.frame.specs.Wire.{actor_part, partner_part}
use Rattle.frame.proofs.RangeLaws.{part-fits}
use Rattle.machine.specs.declared.states.Line.{Line}
use Rattle.machine.specs.States.{same_line}
use Rattle.port.specs.declared.record.Port.{Port}
use Rattle.port.specs.Receive.{lined}
use Rattle.port.specs.Periodic.{periodic_run}
use Rattle.port.specs.Transmit.{sent, advanced}
use Rattle.port.specs.Rest.{Resting}
use Rattle.port.proofs.RestParts.{Standing, standing, periodic-standing}
use Rattle.port.proofs.RestKept.{received-standing, lined-standing, sent-resting, advanced-standing}
use Rattle.port.specs.Range.{ports_in_range, own_fits}
use Rattle.port.proofs.RangeLaws.{received-ranged, lined-ranged, sent-ranged, advanced-ranged}
use Rattle.settings.specs.declared.Settings.{Settings}
use Rattle.settings.specs.Settings.{configured, same_settings, started, own_of}
use Rattle.settings.proofs.StandingLaws.{configured-standing, started-resting}
use Rattle.table.specs.declared.layout.Header.{Header}
use Rattle.table.specs.Layout.{header_of, most_ports}
use Rattle.table.specs.Record.{decoded}
use Rattle.table.specs.Range.{header_fits}
use Rattle.table.specs.Table.{count_in, port_at, ports, table_octets, ours, again, on_octets, octets_of, state_of}
use Rattle.table.proofs.TableLaws.{in_range, in_range_is, octets-back}
use Rattle.table.proofs.StoreLaws.{ports-length, ports-at}
use Rattle.table.proofs.MadeLaws.{ports-ranged-at, ports-ranged, table-ports-ranged, header-fits, made-ports, made-header, made_in_range, made-octets}
use Rattle.trunk.specs.Settled.{settled}
use Rattle.trunk.specs.Displaced.{displaced_if, displaced}
use Rattle.trunk.proofs.EachLaws.{Fits, settled-fits}
use Rattle.trunk.proofs.SettledLaws.{settled-length}
use Rattle.trunk.proofs.RestLaws.{settled-twice}
use Rattle.trunk.proofs.RestingLaws.{displaced-standing, settled-resting}
use Rattle.trunk.proofs.RangeKept.{displaced-ranged}
use Rattle.work.specs.Work.{worked, after_one, after_start, received_at, after_received, after_tick, after_line, after_settings, after_send}
use Rattle.control.specs.declared.answer.Accepted.TheVariants.{Done, Lacpdu, Marker}
use Rattle.control.specs.Answer.{Answer}
use Rattle.control.specs.Accepted.{accepted}
use Rattle.control.specs.After.{after_frame, unless}
use Rattle.control.proofs.CountLaws.{kept_if}
use Rattle.settings.proofs.RangeLaws.{configured-ranged, started-ranged}
use Rattle.trunk.proofs.Settles.{Settles, settles, settles-is, sent-settles}
use Rattle.work.proofs.WorkLaws.{worked-length, worked-fits}
use Rattle.claims.specs.AtRest.{AtRest, Sound}

-- ---- lists of records

pub settled_at-rest : (s : Header) (ps : List Port) → Each Resting ps → AtRest s (settled s ps)
settled_at-rest s ps e = record { each = settled-resting s ps e; together = settled-twice s ps }

pub worked-at_rest : (s : Header) (ps : List Port) → Each Standing ps → AtRest s (worked s ps)
unfolding worked
worked-at_rest s ps e = settled_at-rest s (map periodic_run ps) (each_map Standing Resting periodic_run ps (λ p h. periodic-standing p h) e)

-- ---- tables

ranged_list : (count : ℕ) (ps : List Port) → Each (Fits count) ps → ports_in_range count ps ≡ true
ranged_list count ps e = ports-ranged count ps (decoded []) (λ i h. e i (decoded []) h)

module _ (h : Header) (qs : List Port) (n : h.count ≡ length qs) (r : Each (Fits h.count) qs) where
  list_ranged : ports_in_range (length qs) qs ≡ true
  list_ranged = ranged_list (length qs) qs (rw n at r)

  pub octets-ports : ports (table_octets h qs) ≡ qs
  octets-ports = made-ports h qs n list_ranged

  pub octets-sound : header_fits h ≡ true → 1 ≤ h.count → h.count ≤ most_ports → AtRest h qs → Sound (table_octets h qs)
  octets-sound f some few a =
      let least : 1 ≤ length qs = rw n at some in
      let most : length qs ≤ most_ports = rw n at few in
      record {
        ranged = in_range_is (table_octets h qs) (made_in_range h qs n list_ranged least most);
        octets = made-octets h qs n list_ranged f most;
        rest = subst (λ (x : Header). AtRest x (ports (table_octets h qs))) (sym (made-header h qs)) (rw octets-ports a);
      }

-- ---- a sound table with other records

module _ (t : List ℕ) (s : Sound t) where
  pub table_fits : Each (Fits (count_in t)) (ports t)
  table_fits i d h = ports-ranged-at (count_in t) (ports t) (table-ports-ranged t (in_range t s.ranged) s.octets) i d h

  pub table-standing : Each Standing (ports t)
  table-standing i d h = standing (get_or (ports t) i d) (s.rest.each i d h)

  -- one of its records
  module _ (i : ℕ) (h : i < count_in t) where
    pub in_ports : i < length (ports t)
    in_ports = rw ports-length h

    pub port-fits : Fits (count_in t) (port_at t i)
    port-fits = rw (ports-at t i (decoded []) h) at (table_fits i (decoded []) in_ports)

    pub port-resting : Resting (port_at t i)
    port-resting = rw (ports-at t i (decoded []) h) at (s.rest.each i (decoded []) in_ports)

    pub port-standing : Standing (port_at t i)
    port-standing = standing (port_at t i) port-resting

  module _ (qs : List Port) (n : length qs ≡ count_in t) (r : Each (Fits (count_in t)) qs) where
    pub again-ports : ports (again t qs) ≡ qs
    again-ports = octets-ports (header_of t) qs (sym n) r

    pub again-sound : AtRest (ours t) qs → Sound (again t qs)
    again-sound a =
        let g = in_range t s.ranged in
        octets-sound (header_of t) qs (sym n) r (header-fits t s.octets) g.least g.most a

-- ---- where nothing changes: the octets of what they tell of are the octets

pub sound_back : (t : List ℕ) → Sound t → octets_of (state_of t) ≡ t
sound_back t s = octets-back t s.ranged s.octets

pub unmoved : (P : List ℕ → Type 0) (t : List ℕ) → Sound t → P t → P (octets_of (state_of t))
unmoved P t s x = subst P (sym (sound_back t s)) x

-- a call that is refused leaves the table, and one that is accepted what it makes of it
pub call-left : (P : List ℕ → Type 0) (a : Answer) (t u : List ℕ) → P t → (accepted a ≡ true → P u) → P (unless a t u)
call-left P (Ok x) t u s f = f refl
call-left P (Err r) t u s f = s

-- a received frame leaves it, but for an LACPDU that is done
pub frame-left : (P : List ℕ → Type 0) (a : Answer) (i : ℕ) (frame t : List ℕ) → P (octets_of (state_of t))
    → (a ≡ Ok Lacpdu → P (on_octets (after_received i frame) t)) → P (on_octets (after_frame a i frame) t)
frame-left P (Ok Done) i frame t s f = s
frame-left P (Ok Lacpdu) i frame t s f = f refl
frame-left P (Ok Marker) i frame t s f = s
frame-left P (Err r) i frame t s f = s

-- the records that a call leaves before settling
pub record Before (t : List ℕ) (ps : List Port) : Type 0 where
  pub size : length ps ≡ count_in t
  pub fits : Each (Fits (count_in t)) ps
  pub stands : Each Standing ps

module _ (t : List ℕ) (s : Sound t) (ps : List Port) (b : Before t ps) where
  pub work_ports : ports (again t (worked (ours t) ps)) ≡ worked (ours t) ps
  work_ports =
      again-ports t s (worked (ours t) ps) (worked-length (ours t) ps ∙ b.size) (worked-fits (count_in t) (ours t) ps b.size b.fits)

  pub work_sound : Sound (again t (worked (ours t) ps))
  work_sound =
      again-sound t s (worked (ours t) ps) (worked-length (ours t) ps ∙ b.size) (worked-fits (count_in t) (ours t) ps b.size b.fits)
      (worked-at_rest (ours t) ps b.stands)

-- ---- each piece of work

module _ (t : List ℕ) (s : Sound t) where
  pub tick-before : Before t (map advanced (ports t))
  tick-before = record {
    size = length-map (ports t) advanced ∙ ports-length t;
    fits = each_map (Fits (count_in t)) (Fits (count_in t)) advanced (ports t) (λ p h. advanced-ranged (count_in t) p h) (table_fits t s);
    stands = each_map Standing Standing advanced (ports t) (λ p h. advanced-standing p h) (table-standing t s);
  }

  -- one port becomes q
  pub one-before : (i : ℕ) (q : Port) → Fits (count_in t) q → Standing q → Before t (set (ports t) i q)
  one-before i q f k = record {
    size = length-set (ports t) i q ∙ ports-length t;
    fits = each_set (Fits (count_in t)) (ports t) i q f (table_fits t s);
    stands = each_set Standing (ports t) i q k (table-standing t s);
  }

  module _ (i : ℕ) (h : i < count_in t) where
    pub line_before : (l : Line) → Before t (set (ports t) i (lined l (port_at t i)))
    line_before l =
        one-before i (lined l (port_at t i)) (lined-ranged (count_in t) l (port_at t i) (port-fits t s i h))
        (lined-standing (port_at t i) (port-standing t s i h) l)

    pub settings-before : (c : Settings) → own_fits (own_of c) ≡ true → Before t (set (ports t) i (configured c (port_at t i)))
    settings-before c f =
        one-before i (configured c (port_at t i)) (configured-ranged (count_in t) c (port_at t i) f (port-fits t s i h))
        (configured-standing c (port_at t i) (port-standing t s i h))

    module _ (frame : List ℕ) (o : Octets frame) (u : (port_at t i).line.up ≡ true) (f : (port_at t i).line.full ≡ true) where
      received-one : Before t (set (ports t) i (received_at i frame (state_of t)))
      unfolding received_at
      received-one =
          let a = block_of (actor_part frame) in
          let b = block_of (partner_part frame) in
          one-before i (received_at i frame (state_of t)) (received-ranged (count_in t) (ours t).system (i + 1) a b (port_at t i) (part-fits 18 33 frame o) (port-fits t s i h))
          (received-standing (ours t).system (i + 1) a b (port_at t i) u f (port-standing t s i h))

      pub received-before : Before t (displaced i (block_of (actor_part frame)) (set (ports t) i (received_at i frame (state_of t))))
      unfolding displaced
      received-before =
          let a = block_of (actor_part frame) in
          let ps = set (ports t) i (received_at i frame (state_of t)) in
          record {
            size = sweep_length (displaced_if i a) 0 ps ∙ received-one.size;
            fits =
                each_sweep (Fits (count_in t)) (Fits (count_in t)) (displaced_if i a) ps
                (λ j p k e. displaced-ranged (count_in t) i a j p e) received-one.fits;
            stands = each_sweep Standing Standing (displaced_if i a) ps (λ j p k e. displaced-standing i a j p e) received-one.stands;
          }

    -- a send
    pub sent-same : set (ports t) i (sent (get_or (ports t) i (decoded []))) ≡ set (ports t) i (sent (port_at t i))
    sent-same = ap (λ (p : Port). set (ports t) i (sent p)) (ports-at t i (decoded []) h)

    sent-size : length (set (ports t) i (sent (port_at t i))) ≡ count_in t
    sent-size = length-set (ports t) i (sent (port_at t i)) ∙ ports-length t

    sent-fits : Each (Fits (count_in t)) (set (ports t) i (sent (port_at t i)))
    sent-fits =
        each_set (Fits (count_in t)) (ports t) i (sent (port_at t i)) (sent-ranged (count_in t) (port_at t i) (port-fits t s i h)) (table_fits t s)

    sent-at_rest : AtRest (ours t) (set (ports t) i (sent (port_at t i)))
    sent-at_rest = record {
      each = each_set Resting (ports t) i (sent (port_at t i)) (sent-resting (port_at t i) (port-resting t s i h)) s.rest.each;
      together =
          settles-is (ours t) (set (ports t) i (sent (port_at t i)))
          (subst (Settles (ours t)) sent-same (sent-settles (ours t) (ports t) i (decoded []) (settles (ours t) (ports t) s.rest.together)));
    }

    pub send_ports : ports (on_octets (after_send i) t) ≡ set (ports t) i (sent (port_at t i))
    unfolding after_send
    send_ports = again-ports t s (set (ports t) i (sent (port_at t i))) sent-size sent-fits

    pub send_sound : Sound (on_octets (after_send i) t)
    unfolding after_send
    send_sound = again-sound t s (set (ports t) i (sent (port_at t i))) sent-size sent-fits sent-at_rest

    pub line-sound : (l : Line) → Sound (on_octets (after_line i l) t)
    unfolding after_line after_one
    line-sound l = by (same_line l (port_at t i).line)
      where
        by : (b : Bool) → Sound (kept_if b t (worked (ours t) (set (ports t) i (lined l (port_at t i)))))
        by true = unmoved Sound t s s
        by false = work_sound t s (set (ports t) i (lined l (port_at t i))) (line_before l)

    pub settings-sound : (c : Settings) → own_fits (own_of c) ≡ true → Sound (on_octets (after_settings i c) t)
    unfolding after_settings after_one
    settings-sound c f = by (same_settings c (port_at t i))
      where
        by : (b : Bool) → Sound (kept_if b t (worked (ours t) (set (ports t) i (configured c (port_at t i)))))
        by true = unmoved Sound t s s
        by false = work_sound t s (set (ports t) i (configured c (port_at t i))) (settings-before c f)

    pub received-sound : (frame : List ℕ) → Octets frame → (port_at t i).line.up ≡ true → (port_at t i).line.full ≡ true → Sound (on_octets (after_received i frame) t)
    unfolding after_received
    received-sound frame o u f =
        work_sound t s (displaced i (block_of (actor_part frame)) (set (ports t) i (received_at i frame (state_of t)))) (received-before frame o u f)

  pub tick-sound : Sound (on_octets after_tick t)
  unfolding after_tick
  tick-sound = work_sound t s (map advanced (ports t)) tick-before

-- start makes a sound table
module _ (h : Header) (c : Settings) (f : header_fits h ≡ true) (o : own_fits (own_of c) ≡ true) (some : 1 ≤ h.count) (few : h.count ≤ most_ports) where
  alike : List Port
  alike = replicate h.count (started c)

  many : length alike ≡ h.count
  unfolding alike
  many = length-replicate h.count (started c)

  settled-many : h.count ≡ length (settled h alike)
  settled-many = sym (settled-length h alike ∙ many)

  start_fits : Each (Fits h.count) (settled h alike)
  start_fits =
      settled-fits h.count h alike many
      (unfold alike in each-alike (Fits h.count) h.count (started c) (started-ranged h.count c some o))

  pub start-ports : ports (octets_of (after_start h c)) ≡ settled h (replicate h.count (started c))
  unfolding after_start alike
  start-ports = octets-ports h (settled h alike) settled-many start_fits

  pub start-sound : Sound (octets_of (after_start h c))
  unfolding after_start alike
  start-sound =
      octets-sound h (settled h alike) settled-many start_fits f some few
      (settled_at-rest h alike (each-alike Resting h.count (started c) (started-resting c)))
