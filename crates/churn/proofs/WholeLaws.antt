-- Laws of a table with monitors: where its parts lie, and a run of all machines group by group. A loop that has done the first i groups stands at `over
-- (front w f i w) w`: the base and these groups written over the front of what was there. Assumes nothing.
use Prim.Native.Nat.{ℕ, zero, suc, ◌+◌, ◌*◌, ◌-◌, ◌/◌, ◌≤◌, ◌<◌}
use mathlib.Core.Path.{◌≡◌, refl, sym, ap, ◌∙◌}
use mathlib.Core.Bool.{Bool, true, false, ◌&&◌}
use mathlib.Core.List.{List, [], ◌++◌, append_assoc, append-nil}
use native.Mathlib.Omega.{arith}
use native.Mathlib.Numerals.{add-one}
use lib.ListN.{length, take, drop, get_or, length-append, length-drop, take-append-drop}
use lib.Seq.{get_or-take, length-take-le, take_at, take_all, drop-append-add, drop-drop}
use Rattle.std.specs.List.{list_all}
use Rattle.std.specs.Simd.{first_chunks}
use Rattle.std.proofs.lemmas.List.{drop-take, take-take}
use Rattle.std.proofs.lemmas.List.Folds.{list_all_more}
use lib.Dec.{eqb}
use borrow.Author.Tests.{eqb-true, eqb-false}
use Rattle.octets.specs.Octets.{put_at}
use Rattle.octets.specs.Rows.{row_at}
use Rattle.octets.proofs.RangeLaws.{both}
use Rattle.octets.proofs.ChunkLaws.{chunks-length, chunk-row}
use Rattle.octets.proofs.Laws.{over, over-put, over-all, put-append}
use Rattle.table.specs.Layout.{place, record_size}
use Rattle.table.specs.Record.{decoded}
use Rattle.table.proofs.StoreLaws.{port-decoded}
use Rattle.table.specs.Table.{count_in, port_at, record_at, decoded_at}
use Rattle.churn.specs.declared.Stage.{Stage}
use Rattle.churn.specs.declared.watch.Monitors.{Monitors}
use Rattle.churn.specs.Churn.{watching}
use Rattle.churn.specs.Group.{group_size, group_octets, group_of, group_in_range}
use Rattle.churn.specs.Whole.{group_place, whole_size, base_of, group_at, monitors_at, groups_to, with_monitors, groups_in_range, prepared, watched_at, watched_all}

pub group-length : (m : Monitors) → length (group_octets m) ≡ group_size
unfolding group_octets
group-length m = refl

pub base-count : (w : List ℕ) → count_in (base_of w) ≡ count_in w
unfolding base_of
base-count w = get_or-take (place (count_in w)) w 0 0 (omega arith)

pub groups-length : (f : ℕ → Monitors) (n : ℕ) → length (groups_to f n) ≡ group_size * n
unfolding groups_to
groups-length f zero = refl
groups-length f (suc n) =
    let before = groups-length f n in
    let here = group-length (f n) in
    length-append (groups_to f n) (group_octets (f n)) ∙ omega (arith, before, here)

-- the base, and behind it the first i groups; and a table with these written over its front
pub front : List ℕ → (ℕ → Monitors) → ℕ → List ℕ
front w f i = base_of w ++ groups_to f i

pub done : List ℕ → (ℕ → Monitors) → ℕ → List ℕ
done w f i = over (front w f i) w

module _ (w : List ℕ) (size : length w ≡ whole_size (count_in w)) where
  pub base-length : length (base_of w) ≡ place (count_in w)
  unfolding base_of
  base-length = length-take-le (place (count_in w)) w (omega (arith, size))

  module _ (f : ℕ → Monitors) (i : ℕ) where
    pub front_length : length (front w f i) ≡ group_place (count_in w) i
    unfolding front
    front_length =
        let b = base-length in
        let g = groups-length f i in
        length-append (base_of w) (groups_to f i) ∙ omega (arith, b, g)

    -- its parts
    rest : List ℕ
    rest = groups_to f i ++ drop (length (front w f i)) w

    parts : done w f i ≡ base_of w ++ rest
    unfolding done rest front
    parts = append_assoc (base_of w) (groups_to f i) (drop (length (front w f i)) w)

    pub done-count : count_in (done w f i) ≡ count_in w
    done-count =
        let b = base-length in
        ap count_in parts ∙ sym (get_or-take (place (count_in w)) (base_of w ++ rest) 0 0 (omega arith))
        ∙ ap (λ (l : List ℕ). get_or l 0 0) (take_at (base_of w) rest (place (count_in w)) b) ∙ base-count w

    pub done-base : base_of (done w f i) ≡ base_of w
    done-base =
        unfold base_of in (λ j. take (place (done-count j)) (parts j)) ∙ take_at (take (place (count_in w)) w) rest (place (count_in w)) (base-length)

    -- a group that is not yet done is as it was
    pub done-group : (j : ℕ) → i ≤ j → group_at (done w f i) j ≡ group_at w j
    unfolding group_at done
    done-group j h =
        let l = front_length in
        let k : ℕ = group_size * (j - i) in
        let at : group_place (count_in w) j ≡ length (front w f i) + k = omega (arith, l, h) in
        (λ m. take group_size (drop (group_place (done-count m) j) (over (front w f i) w)))
        ∙ ap (λ (n : ℕ). take group_size (drop n (over (front w f i) w))) at
        ∙ ap (λ (x : List ℕ). take group_size x) (drop-append-add (front w f i) (drop (length (front w f i)) w) k ∙ drop-drop k (length (front w f i)) w)
        ∙ ap (λ (n : ℕ). take group_size (drop n w)) (sym at)

    pub done-length : i ≤ count_in w → length (done w f i) ≡ length w
    unfolding done
    done-length h =
        let l = front_length in
        let d = length-drop (length (front w f i)) w in
        length-append (front w f i) (drop (length (front w f i)) w) ∙ omega (arith, l, d, size, h)

  -- before the first turn
  pub done_none : (f : ℕ → Monitors) → done w f 0 ≡ w
  unfolding done front groups_to base_of
  done_none f =
      let n = place (count_in w) in
      let l : length (take n w) ≡ n = length-take-le n w (omega (arith, size)) in
      (λ i. append-nil (take n w) i ++ drop (length (append-nil (take n w) i)) w) ∙ ap (λ (k : ℕ). take n w ++ drop k w) l ∙ take-append-drop n w

  -- one more turn
  pub done_more : (f : ℕ → Monitors) (i : ℕ) → put_at (group_place (count_in w) i) (group_octets (f i)) (done w f i) ≡ done w f (suc i)
  unfolding done front groups_to
  done_more f i =
      let p = front w f i in
      let s = group_octets (f i) in
      let l : group_place (count_in w) i ≡ length p + 0 = omega (arith, front_length f i) in
      let more : p ++ s ≡ base_of w ++ (groups_to f i ++ s) = append_assoc (base_of w) (groups_to f i) s in
      ap (λ (n : ℕ). put_at n s (over p w)) l ∙ put-append p (drop (length p) w) s 0 ∙ ap (λ (x : List ℕ). p ++ x) (sym (over-put s (drop (length p) w)))
      ∙ sym (append_assoc p s (drop (length s) (drop (length p) w)))
      ∙ ap (λ (x : List ℕ). (p ++ s) ++ x) (drop-drop (length s) (length p) w ∙ ap (λ (n : ℕ). drop n w) (sym (length-append p s)))
      ∙ ap (λ (x : List ℕ). over x w) more

  -- after the last
  pub done_all : (f : ℕ → Monitors) → done w f (count_in w) ≡ with_monitors (base_of w) f
  unfolding done front with_monitors
  done_all f =
      let l = front_length f (count_in w) in
      over-all (front w f (count_in w)) w (omega (arith, l, size)) ∙ ap (λ (n : ℕ). base_of w ++ groups_to f n) (sym (base-count w))

  -- what the machines of a port that is not yet done are given is as it was
  pub done-watched : (s : Stage) (f : ℕ → Monitors) (i : ℕ) → watched_at s (done w f i) i ≡ watched_at s w i
  unfolding watched_at monitors_at
  done-watched s f i = λ j. watching (port_at (done-base f i j) i) (prepared s (group_of (done-group f i i (omega arith) j)))

-- the record of port i is the one that its octets tell of
pub base-port : (t : List ℕ) (i : ℕ) → i < count_in t → port_at (base_of t) i ≡ decoded (record_at t i)
unfolding base_of decoded_at record_at
base-port t i h =
    let n = place (count_in t) in
    let m : ℕ = n - place i in
    port-decoded (take n t) i (rw (base-count t) h)
    ∙ ap decoded (ap (λ (k : ℕ). take record_size (drop (place i) (take k t))) (omega (arith, h))
    ∙ ap (λ (l : List ℕ). take record_size l) (drop-take (place i) m t) ∙ take-take record_size m (drop (place i) t) (omega (arith, h)))

-- ---- a loop over the groups

module _ (w : List ℕ) (size : length w ≡ whole_size (count_in w)) (s : Stage) where
  pub turn-size : (i : ℕ) → i ≤ count_in w → length (done w (watched_at s w) i) ≡ whole_size (count_in (done w (watched_at s w) i))
  turn-size i few = done-length w size (watched_at s w) i few ∙ size ∙ ap whole_size (sym (done-count w size (watched_at s w) i))

  pub turn : (i : ℕ) (u : List ℕ)
      → u ≡ put_at (group_place (count_in (done w (watched_at s w) i)) i) (group_octets (watched_at s (done w (watched_at s w) i) i)) (done w (watched_at s w) i)
      → u ≡ done w (watched_at s w) (i + 1)
  turn i u e =
      let f = watched_at s w in
      let next : suc i ≡ i + 1 = omega arith in
      e ∙ (λ j. put_at (group_place (done-count w size f i j) i) (group_octets (done-watched w size s f i j)) (done w f i))
      ∙ done_more w size f i ∙ ap (λ (n : ℕ). done w f n) next

  pub turns_end : (i : ℕ) → count_in w ≡ i → done w (watched_at s w) i ≡ watched_all s w
  unfolding watched_all
  turns_end i e = ap (λ (n : ℕ). done w (watched_at s w) n) (sym e) ∙ done_all w size (watched_at s w)

-- ---- ranges

pub groups-at : (n : ℕ) (w : List ℕ) → groups_in_range n w ≡ true → (i : ℕ) → i < n → group_in_range (group_at w i) ≡ true
unfolding groups_in_range
groups-at zero w e i h = absurd (omega arith)
groups-at (suc n) w e i h =
    let parts = both (groups_in_range n w) (group_in_range (group_at w n)) e in
    by (groups-at n w parts.0 i) parts.1 (eqb i n) refl
  where
    by : (i < n → group_in_range (group_at w i) ≡ true) → group_in_range (group_at w n) ≡ true → (b : Bool) → eqb i n ≡ b → group_in_range (group_at w i) ≡ true
    by below here true s = ap (λ (k : ℕ). group_in_range (group_at w k)) (eqb-true i n s) ∙ here
    by below here false s = let differ : i ≡ n → ⊥ = eqb-false i n s in below (omega arith)

pub groups-not : (n : ℕ) (w : List ℕ) (i : ℕ) → i < n → group_in_range (group_at w i) ≡ false → groups_in_range n w ≡ false
groups-not n w i h e = by (groups_in_range n w) refl
  where
    by : (b : Bool) → groups_in_range n w ≡ b → b ≡ false
    by true s = sym (groups-at n w s i h) ∙ e
    by false s = refl

-- all of the first n parts behind the base are in range where the first n groups are
chunks-ranged : (w : List ℕ) (k n : ℕ) → n ≤ k
    → list_all group_in_range (take n (first_chunks group_size k (drop (place (count_in w)) w))) ≡ groups_in_range n w
unfolding groups_in_range
chunks-ranged w k zero h = refl
chunks-ranged w k (suc n) h =
    let l = drop (place (count_in w)) w in
    let is : row_at group_size l n ≡ group_at w n =
    unfold row_at group_at in ap (λ (x : List ℕ). take group_size x) (drop-drop (group_size * n) (place (count_in w)) w) in
    rw (← add-one n)
    (list_all_more group_in_range (first_chunks group_size k l) n [] (let m = chunks-length group_size k l in omega (arith, m, h))
    ∙ (λ j. chunks-ranged w k n (omega (arith, h)) j && group_in_range ((chunk-row group_size k l n (omega (arith, h)) ∙ is) j)))

-- and all parts where all groups are
pub chunks-all : (w : List ℕ) → length w ≡ whole_size (count_in w)
    → list_all group_in_range (first_chunks group_size (length (drop (place (count_in w)) w) / group_size) (drop (place (count_in w)) w))
    ≡ groups_in_range (count_in w) w
chunks-all w size =
    let n = count_in w in
    let l = drop (place n) w in
    let d = length-drop (place n) w in
    let m = chunks-length group_size n l in
    ap (λ (k : ℕ). list_all group_in_range (first_chunks group_size k l)) (omega (arith, d, size))
    ∙ sym (ap (λ (x : List (List ℕ)). list_all group_in_range x) (take_all n (first_chunks group_size n l) (omega (arith, m))))
    ∙ chunks-ranged w n n (omega arith)
