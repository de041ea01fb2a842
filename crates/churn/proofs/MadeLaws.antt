-- A table with a group for each of its ports: the table comes back, each group does, and it has monitors in range where they fit. Assumes nothing.
use Prim.Native.Nat.{ℕ, zero, suc, ◌+◌, ◌*◌, ◌≤◌, ◌<◌}
use mathlib.Core.Path.{◌≡◌, refl, sym, ap, ◌∙◌}
use mathlib.Core.Bool.{Bool, true, false}
use mathlib.Core.List.{List, [], ◌∷◌, ◌++◌}
use native.Mathlib.Omega.{arith}
use lib.ListN.{length, take, drop, get_or, length-append, length-drop}
use lib.Seq.{get_or-take, take_at, drop_at, take_all, take-append-le, drop-append-le, drop-append-add}
use lib.Dec.{eqb, leb, ltb}
use borrow.Author.Tests.{eqb-true, eqb-false, eq-eqb, leb-true, ltb-true, lt-ltb}
use Rattle.octets.specs.Octets.{Octets, number_octets, long_octets}
use Rattle.octets.proofs.OctetLists.{octets_of_lem, append-octets, take-octets, drop-octets}
use Rattle.octets.proofs.LongLaws.{long-octets}
use Rattle.octets.proofs.RangeLaws.{both, both_true, number-octets}
use Rattle.table.specs.Layout.{place}
use Rattle.table.specs.Table.{count_in, port_at}
use Rattle.churn.specs.declared.Stage.{Stage}
use Rattle.churn.specs.declared.Stage.TheVariants.{Start}
use Rattle.churn.specs.declared.watch.Churn.{Churn as State}
use Rattle.churn.specs.declared.watch.Churn.TheVariants.{NoChurn, Monitor, Churn}
use Rattle.churn.specs.declared.watch.Monitors.{Monitors}
use Rattle.churn.specs.Group.{group_size, churn_code, watch_fits, group_octets, group_of, group_in_range, monitors_fit}
use Rattle.churn.specs.Churn.{churn_detection_time, both_begun}
use Rattle.churn.specs.Whole.{group_place, whole_size, base_of, group_at, monitors_at, groups_to, with_monitors, groups_in_range, has_monitors, prepared, watched_at, watched_all}
use Rattle.churn.proofs.ChurnLaws.{group-back, group-ranged, group-fits, watching-fit, begun-fit, prepared-fit}
use Rattle.churn.proofs.WholeLaws.{group-length, groups-length, base-count, base-length, groups-at}

-- group i of the first n
groups-part : (f : ℕ → Monitors) (n i : ℕ) → i < n → take group_size (drop (group_size * i) (groups_to f n)) ≡ group_octets (f i)
unfolding groups_to
groups-part f zero i h = absurd (omega arith)
groups-part f (suc n) i h = by (eqb i n) refl (λ g. groups-part f n i g)
  where
    by : (x : Bool) → eqb i n ≡ x → (i < n → take group_size (drop (group_size * i) (groups_to f n)) ≡ group_octets (f i)) → take group_size (drop (group_size * i) (groups_to f n ++ group_octets (f n))) ≡ group_octets (f i)
    by true e below =
        let is : i ≡ n = eqb-true i n e in
        let l = groups-length f n in
        let k = group-length (f n) in
        let at : length (groups_to f n) ≡ group_size * i = omega (arith, l, is) in
        ap (λ (x : List ℕ). take group_size x) (drop_at (groups_to f n) (group_octets (f n)) (group_size * i) at)
        ∙ take_all group_size (group_octets (f n)) (omega (arith, k)) ∙ ap (λ (m : ℕ). group_octets (f m)) (sym is)
    by false e below =
        let differ : i ≡ n → ⊥ = eqb-false i n e in
        let less : i < n = omega arith in
        let l = groups-length f n in
        let d = length-drop (group_size * i) (groups_to f n) in
        ap (λ (x : List ℕ). take group_size x) (drop-append-le (group_size * i) (groups_to f n) (group_octets (f n)) (omega (arith, l, less)))
        ∙ take-append-le group_size (drop (group_size * i) (groups_to f n)) (group_octets (f n)) (omega (arith, l, d, less)) ∙ below less

module _ (t : List ℕ) (size : length t ≡ place (count_in t)) (f : ℕ → Monitors) where
  pub made-count : count_in (with_monitors t f) ≡ count_in t
  unfolding with_monitors
  made-count =
      sym (get_or-take (length t) (t ++ groups_to f (count_in t)) 0 0 (omega (arith, size)))
      ∙ ap (λ (l : List ℕ). get_or l 0 0) (take_at t (groups_to f (count_in t)) (length t) refl)

  pub made-base : base_of (with_monitors t f) ≡ t
  unfolding base_of with_monitors
  made-base = ap (λ (n : ℕ). take (place n) (t ++ groups_to f (count_in t))) made-count ∙ take_at t (groups_to f (count_in t)) (place (count_in t)) size

  made-group : (i : ℕ) → i < count_in t → group_at (with_monitors t f) i ≡ group_octets (f i)
  unfolding group_at with_monitors
  made-group i h =
      let at : place (count_in t) + group_size * i ≡ length t + group_size * i = omega (arith, size) in
      ap (λ (n : ℕ). take group_size (drop (group_place n i) (t ++ groups_to f (count_in t)))) made-count
      ∙ ap (λ (n : ℕ). take group_size (drop n (t ++ groups_to f (count_in t)))) at
      ∙ ap (λ (l : List ℕ). take group_size l) (drop-append-add t (groups_to f (count_in t)) (group_size * i))
      ∙ groups-part f (count_in t) i h

  pub made-monitors : (i : ℕ) → i < count_in t → monitors_at (with_monitors t f) i ≡ f i
  unfolding monitors_at
  made-monitors i h = ap group_of (made-group i h) ∙ group-back (f i)

  made-ranged : ((i : ℕ) → i < count_in t → monitors_fit (f i) ≡ true) → (n : ℕ) → n ≤ count_in t → groups_in_range n (with_monitors t f) ≡ true
  unfolding groups_in_range
  made-ranged g zero h = refl
  made-ranged g (suc n) h =
      both_true (made-ranged g n (omega (arith, h)))
      (ap group_in_range (made-group n (omega (arith, h))) ∙ group-ranged (f n) (g n (omega (arith, h))))

  made-size : length (with_monitors t f) ≡ whole_size (count_in t)
  unfolding with_monitors
  made-size = length-append t (groups_to f (count_in t)) ∙ (let l = groups-length f (count_in t) in omega (arith, size, l))

  pub made-has : ((i : ℕ) → i < count_in t → monitors_fit (f i) ≡ true) → has_monitors (with_monitors t f) ≡ true
  unfolding has_monitors
  made-has g =
      both_true (eq-eqb (length (with_monitors t f)) (whole_size (count_in (with_monitors t f))) (made-size ∙ ap whole_size (sym made-count)))
      (ap (λ (k : ℕ). groups_in_range k (with_monitors t f)) made-count ∙ made-ranged g (count_in t) (omega arith))

-- ---- octets

code-octet : (s : State) → churn_code s < 256
code-octet NoChurn = omega arith
code-octet Monitor = omega arith
code-octet Churn = omega arith

group-octets : (m : Monitors) → monitors_fit m ≡ true → Octets (group_octets m)
unfolding group_octets monitors_fit
group-octets m e =
    let h = both (watch_fits m.actor) (watch_fits m.partner) e in
    let a = both (leb m.actor.timer.0 churn_detection_time) (ltb m.actor.count 4294967296) h.0 in
    let p = both (leb m.partner.timer.0 churn_detection_time) (ltb m.partner.count 4294967296) h.1 in
    append-octets (churn_code m.actor.state ∷ churn_code m.partner.state ∷ [])
    (number_octets m.actor.timer.0 ++ (number_octets m.partner.timer.0 ++ (long_octets m.actor.count ++ long_octets m.partner.count)))
    (octets_of_lem (churn_code m.actor.state ∷ churn_code m.partner.state ∷ []) (code-octet m.actor.state, (code-octet m.partner.state, tt)))
    (append-octets (number_octets m.actor.timer.0) (number_octets m.partner.timer.0 ++ (long_octets m.actor.count ++ long_octets m.partner.count)) (timed m.actor.timer.0 a.0)
    (append-octets (number_octets m.partner.timer.0) (long_octets m.actor.count ++ long_octets m.partner.count) (timed m.partner.timer.0 p.0)
    (append-octets (long_octets m.actor.count) (long_octets m.partner.count) (long-octets m.actor.count (ltb-true m.actor.count 4294967296 a.1)) (long-octets m.partner.count (ltb-true m.partner.count 4294967296 p.1)))))
  where
    timed : (n : ℕ) → leb n churn_detection_time ≡ true → Octets (number_octets n)
    timed n k = let most = leb-true n churn_detection_time k in number-octets n (lt-ltb n 65536 (omega (arith, most)))

groups-octets : (f : ℕ → Monitors) (n : ℕ) → ((i : ℕ) → i < n → monitors_fit (f i) ≡ true) → Octets (groups_to f n)
unfolding groups_to
groups-octets f zero g = octets_of_lem [] tt
groups-octets f (suc n) g = append-octets (groups_to f n) (group_octets (f n)) (groups-octets f n (λ i h. g i (omega (arith, h)))) (group-octets (f n) (g n (omega arith)))

-- ---- a run of all machines

module _ (s : Stage) (w : List ℕ) (size : length w ≡ whole_size (count_in w)) where
  front-size : length (base_of w) ≡ place (count_in (base_of w))
  front-size = base-length w size ∙ ap place (sym (base-count w))

  pub watched-base : base_of (watched_all s w) ≡ base_of w
  unfolding watched_all
  watched-base = made-base (base_of w) front-size (watched_at s w)

  pub watched-count : count_in (watched_all s w) ≡ count_in w
  unfolding watched_all
  watched-count = made-count (base_of w) front-size (watched_at s w) ∙ base-count w

  pub watched-monitors : (i : ℕ) → i < count_in w → monitors_at (watched_all s w) i ≡ watched_at s w i
  unfolding watched_all
  watched-monitors i h = made-monitors (base_of w) front-size (watched_at s w) i (rw (base-count w) h)

  module _ (has : has_monitors w ≡ true) (o : Octets w) where
    monitors-fit : (i : ℕ) → i < count_in w → monitors_fit (monitors_at w i) ≡ true
    unfolding monitors_at has_monitors
    monitors-fit i h =
        let ranged = groups-at (count_in w) w (both (eqb (length w) (whole_size (count_in w))) (groups_in_range (count_in w) w) has).1 i h in
        group-fits (group_at w i) (unfold group_at in take-octets group_size (drop (group_place (count_in w) i) w) (drop-octets (group_place (count_in w) i) w o)) ranged

    pub watched-fit : (i : ℕ) → i < count_in w → monitors_fit (watched_at s w i) ≡ true
    unfolding watched_at
    watched-fit i h = watching-fit (port_at (base_of w) i) (prepared s (monitors_at w i)) (prepared-fit s (monitors_at w i) (monitors-fit i h))

    pub watched-has : has_monitors (watched_all s w) ≡ true
    unfolding watched_all
    watched-has = made-has (base_of w) front-size (watched_at s w) (λ i h. watched-fit i (rw (base-count w) at h))

    pub watched-octets : Octets (watched_all s w)
    unfolding watched_all with_monitors
    watched-octets =
        append-octets (base_of w) (groups_to (watched_at s w) (count_in (base_of w))) (unfold base_of in take-octets (place (count_in w)) w o)
        (groups-octets (watched_at s w) (count_in (base_of w)) (λ i h. watched-fit i (rw (base-count w) at h)))

-- a start's machines need no monitors in range before
module _ (w : List ℕ) (size : length w ≡ whole_size (count_in w)) where
  begun-fits : (i : ℕ) → monitors_fit (watched_at Start w i) ≡ true
  unfolding watched_at
  begun-fits i = watching-fit (port_at (base_of w) i) both_begun begun-fit

  pub begun-has : has_monitors (watched_all Start w) ≡ true
  unfolding watched_all
  begun-has = made-has (base_of w) (front-size Start w size) (watched_at Start w) (λ i h. begun-fits i)

  pub begun-octets : Octets w → Octets (watched_all Start w)
  unfolding watched_all with_monitors
  begun-octets o =
      append-octets (base_of w) (groups_to (watched_at Start w) (count_in (base_of w))) (unfold base_of in take-octets (place (count_in w)) w o)
      (groups-octets (watched_at Start w) (count_in (base_of w)) (λ i h. begun-fits i))

pub made-octets : (t : List ℕ) (f : ℕ → Monitors) → Octets t → ((i : ℕ) → i < count_in t → monitors_fit (f i) ≡ true) → Octets (with_monitors t f)
unfolding with_monitors
made-octets t f o g = append-octets t (groups_to f (count_in t)) o (groups-octets f (count_in t) g)
