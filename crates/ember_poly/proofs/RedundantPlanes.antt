-- A plane that doesn't count follows from the others.
use Rattle.std.proofs.Common.{◌≡◌, ◌≢◌, ⊎_elim, ◌∙◌, arith, ℕ, true, List, [], ◌∷◌, ℤ, pos, ◌+ℤ◌, ◌-ℤ◌, ◌*ℤ◌, neg_ℤ, ◌<ℤ◌, ◌≤ℤ◌}
use Rattle.std.proofs.lemmas.Int.{by_lt_z}
use Rattle.std.specs.List.{AllByRecursion}
use Rattle.ember_algebra.specs.Large.{Eventually}
use Rattle.ember_algebra.proofs.Large.{eventually_both, eventually_map, eventually_pos}
use Rattle.ember_algebra.proofs.Laws.{linear}
use Rattle.ember_algebra.proofs.Ring.{◌⊕◌, ◌⊗◌, neg, num, ◌≈◌, solve, cancels}
use Rattle.ember_algebra.proofs.Vectors.{tuple, identity, valueE}
use Rattle.ember_algebra.proofs.Order.{mul_pos_neg, zero_product}
use Rattle.ember_model.specs.declared.plane.Plane.{Plane}
use Rattle.ember_model.specs.declared.point.Spot.{Spot}
use Rattle.ember_model.specs.declared.face.Face.{Face}
use Rattle.ember_model.specs.Planes.{value_at}
use Rattle.ember_model.specs.Faces.{is_in_closed}
use Rattle.ember_model.specs.Edges.{SamePoint, HasEdge}
use Rattle.ember_model.proofs.SignTests.{positive_nonzero}
use Rattle.ember_model.proofs.Tuples.{plane_tuple}
use Rattle.ember_poly.specs.Rings.{IsBelow, IsNotAbove, InFace, InClosedFace, orientation, edge_direction}
use Rattle.ember_poly.specs.Chords.{combination}
use Rattle.ember_poly.proofs.Chains.{each_map, each_both}
use Rattle.ember_poly.proofs.Planar.{places, both_zero, turnE}
use Rattle.ember_poly.proofs.CutOrientation.{swap_last}
use Rattle.ember_poly.proofs.InsideSigns.{combination_value, eventually_each}
use Rattle.ember_poly.proofs.InsidePoints.{below_is_not_above, on_is_not_above, flat_sum, weight_sum, scaled_under}
use Rattle.ember_poly.proofs.FaceTests.{edge_in, closed_out}
use Rattle.ember_poly.proofs.EdgeEnds.{alongE}

-- ---- points of a face, by its planes
closed_of_inside : {n : Plane} {gs : List Plane} {v : Spot} → InFace n gs v → InClosedFace n gs v
closed_of_inside {n} {gs} {v} i =
    record { flat = i.flat; weight = i.weight; within = each_map (λ g. IsBelow g v) (λ g. IsNotAbove g v) gs (λ g u. below_is_not_above u) i.within }

-- i u + j v, where u is closed and v is inside
combination_inside : (i j : ℤ) (n : Plane) (gs : List Plane) (u v : Spot) → pos 0 ≤ℤ i → pos 0 <ℤ j →
    InClosedFace n gs u → InFace n gs v → InFace n gs (combination i j u v)
combination_inside i j n gs u v p q a b =
    record {
      flat = flat_sum i j u v n a.flat b.flat;
      weight = weight_sum p q a.weight b.weight;
      within =
          each_both (λ g. IsNotAbove g u) (λ g. IsBelow g v) (λ g. IsBelow g (combination i j u v)) gs
          (λ g x y. scaled_under i j u v g p q x y) a.within b.within;
    }

-- ---- inside points decide closed points: if the planes hs are negative where all of gs are,
-- and at some such point, they are at most 0 where all of gs are
pub closed_follows : (n : Plane) (gs hs : List Plane) (o : Spot) → InFace n gs o →
    AllByRecursion (λ h. IsBelow h o) hs → ((v : Spot) → InFace n gs v → AllByRecursion (λ h. IsBelow h v) hs) →
    (r : Spot) → InClosedFace n gs r → AllByRecursion (λ h. IsNotAbove h r) hs
closed_follows n gs hs o io low follow r ir =
    by hs low (λ m. follow (combination (pos m) (pos 1) r o) (combination_inside (pos m) (pos 1) n gs r o (least m) (omega (arith, linear)) ir io))
  where
    least : (m : ℕ) → pos 0 ≤ℤ pos m
    least m = omega (arith, linear)

    never : (h : Plane) → ((m : ℕ) → IsBelow h (combination (pos m) (pos 1) r o)) → pos 0 <ℤ value_at h r → ⊥
    never h all p =
        let e = eventually_pos (value_at h o) p in
        let a : (pos e.from *ℤ value_at h r +ℤ pos 1 *ℤ value_at h o) <ℤ pos 0 = rw (← combination_value (pos e.from) (pos 1) r o h) ((all e.from).under) in
        clash (value_at h r) (pos e.from) (value_at h o) a (e.holds e.from (omega arith))
      where
        clash : (x m y : ℤ) → (m *ℤ x +ℤ pos 1 *ℤ y) <ℤ pos 0 → pos 0 <ℤ (x *ℤ m +ℤ y) → ⊥
        clash x m y a b =
            absurd (omega (arith, linear, a, b, solve 2 (λ x m. m ⊗ x ≈ x ⊗ m) cancels x m, solve 1 (λ y. num (pos 1) ⊗ y ≈ y) cancels y))

    by : (hs : List Plane) → AllByRecursion (λ h. IsBelow h o) hs →
        ((m : ℕ) → AllByRecursion (λ h. IsBelow h (combination (pos m) (pos 1) r o)) hs) →
        AllByRecursion (λ h. IsNotAbove h r) hs
    by [] l all = tt
    by (h ∷ hs) l all =
        (by_lt_z (pos 0) (value_at h r) (λ p. absurd (never h (λ m. (all m).0) p)) (λ p. record { at_most = p }), by hs l.1 (λ m. (all m).1))

-- ---- the direction of the line of n and h
abbrev way : Plane → Plane → Spot
way n h = record { x = (edge_direction n h).a; y = (edge_direction n h).b; z = (edge_direction n h).c; w = pos 0 }

way_flat : (n h : Plane) → value_at n (way n h) ≡ pos 0
way_flat n h = identity (tuple ∷ tuple ∷ []) (λ n h. valueE n (alongE n h) ≈ num (pos 0)) cancels (plane_tuple n) (plane_tuple h)

way_zero : (n h : Plane) → value_at h (way n h) ≡ pos 0
way_zero n h = identity (tuple ∷ tuple ∷ []) (λ n h. valueE h (alongE n h) ≈ num (pos 0)) cancels (plane_tuple n) (plane_tuple h)

turn_way : (n h p : Plane) → orientation h p n ≡ p.a *ℤ (way n h).x +ℤ p.b *ℤ (way n h).y +ℤ p.c *ℤ (way n h).z
turn_way n h p =
    identity (tuple ∷ tuple ∷ tuple ∷ []) (λ n h p. turnE h p n ≈ p.x ⊗ (alongE n h).x ⊕ p.y ⊗ (alongE n h).y ⊕ p.z ⊗
    (alongE n h).z) cancels (plane_tuple n) (plane_tuple h) (plane_tuple p)

no_way : (n h p : Plane) → (way n h).x ≡ pos 0 → (way n h).y ≡ pos 0 → (way n h).z ≡ pos 0 → orientation h p n ≡ pos 0
no_way n h p ex ey ez = turn_way n h p ∙ rw (ex, ey, ez) (nothing p.a p.b p.c)
  where
    nothing : (x y z : ℤ) → x *ℤ pos 0 +ℤ y *ℤ pos 0 +ℤ z *ℤ pos 0 ≡ pos 0
    nothing = solve 3 (λ x y z. x ⊗ num (pos 0) ⊕ y ⊗ num (pos 0) ⊕ z ⊗ num (pos 0) ≈ num (pos 0)) cancels

-- a plane that differs at two points of the plane n isn't parallel to n
not_parallel : (n g p h : Plane) (o r : Spot) → orientation n g p ≢ pos 0 → value_at n o ≡ pos 0 →
    value_at n r ≡ pos 0 → pos 0 <ℤ r.w → value_at h o <ℤ pos 0 → value_at h r ≡ pos 0 → (way n h).x ≡ pos 0 →
    (way n h).y ≡ pos 0 → (way n h).z ≡ pos 0 → ⊥
not_parallel n g p h o r t flat_o flat_r wr ho hr ex ey ez =
    ⊎_elim (λ z. t z) (λ z. differs z) (zero_product
    (places n g p h o r ∙ rw (
      both_zero o.w r.w flat_r flat_o,
      no_way n h p ex ey ez,
      swap_last h g n ∙ opposite_zero (no_way n h g ex ey ez),
    )
    (nothing (orientation h g p) (o.w *ℤ value_at g r -ℤ r.w *ℤ value_at g o)
    (o.w *ℤ value_at p r -ℤ r.w *ℤ value_at p o))))
  where
    opposite_zero : {a : ℤ} → a ≡ pos 0 → neg_ℤ a ≡ pos 0
    opposite_zero e = omega (arith, linear, e)

    nothing : (x y z : ℤ) → x *ℤ pos 0 +ℤ pos 0 *ℤ y +ℤ pos 0 *ℤ z ≡ pos 0
    nothing = solve 3 (λ x y z. x ⊗ num (pos 0) ⊕ num (pos 0) ⊗ y ⊕ num (pos 0) ⊗ z ≈ num (pos 0)) cancels

    none : (a : ℤ) → a *ℤ pos 0 ≡ pos 0
    none = solve 1 (λ a. a ⊗ num (pos 0) ≈ num (pos 0)) cancels

    differs : o.w *ℤ value_at h r -ℤ r.w *ℤ value_at h o ≡ pos 0 → ⊥
    differs e =
        let z : o.w *ℤ value_at h r ≡ pos 0 = rw hr (none o.w) in
        absurd (omega (arith, linear, e, z, mul_pos_neg wr ho))

-- ---- if h is negative at o and not at q, it vanishes at two places between all other planes
module _ (n g p h : Plane) (turns : orientation n g p ≢ pos 0) (gs : List Plane) (o q : Spot) (io : InFace n gs o)
    (iq : InFace n gs q) (low : IsBelow h o) (high : pos 0 ≤ℤ value_at h q) where
  abbrev on : Spot
  on = combination (value_at h q) (neg_ℤ (value_at h o)) o q

  on_inside : InFace n gs on
  on_inside =
      combination_inside (value_at h q) (neg_ℤ (value_at h o)) n gs o q high (positive low.under) (closed_of_inside io) iq
    where
      positive : {a : ℤ} → a <ℤ pos 0 → pos 0 <ℤ neg_ℤ a
      positive l = omega (arith, linear, l)

  on_zero : value_at h on ≡ pos 0
  on_zero =
      combination_value (value_at h q) (neg_ℤ (value_at h o)) o q h ∙ solve 2 (λ a b. b ⊗ a ⊕ neg a ⊗ b ≈ num (pos 0)) cancels (value_at h o) (value_at h q)

  abbrev moved : ℕ → Spot
  moved m = combination (pos m) (pos 1) on (way n h)

  moved_under : (e : Plane) → IsBelow e on → Eventually (λ m. IsBelow e (moved m))
  moved_under e u =
      eventually_map (λ m p. record {
        under = rw (combination_value (pos m) (pos 1) on (way n h) e)
            (flip (value_at e on) (pos m) (value_at e (way n h)) p);
      })
      (eventually_pos {a = neg_ℤ (value_at e on)} (neg_ℤ (value_at e (way n h))) (positive u.under))
    where
      positive : {a : ℤ} → a <ℤ pos 0 → pos 0 <ℤ neg_ℤ a
      positive q = omega (arith, linear, q)

      flip : (a m b : ℤ) → pos 0 <ℤ (neg_ℤ a *ℤ m +ℤ neg_ℤ b) → (m *ℤ a +ℤ pos 1 *ℤ b) <ℤ pos 0
      flip a m b p =
          omega (arith, linear, p, solve 2 (λ a m. neg a ⊗ m ≈ neg (m ⊗ a)) cancels a m, solve 1 (λ b. num (pos 1) ⊗ b ≈ b) cancels b)

  moved_inside : Eventually (λ m. InFace n gs (moved m))
  moved_inside =
      eventually_map (λ m p. record {
        flat = flat_sum (pos m) (pos 1) on (way n h) n on_inside.flat (way_flat n h);
        weight = weight on.w (pos m) p.0;
        within = p.1;
      })
      (eventually_both (eventually_pos (pos 0) on_inside.weight)
      (eventually_each (λ e m. IsBelow e (moved m)) gs
      (each_map (λ e. IsBelow e on) (λ e. Eventually (λ m. IsBelow e (moved m))) gs (λ e u. moved_under e u)
      on_inside.within)))
    where
      weight : (w m : ℤ) → pos 0 <ℤ (w *ℤ m +ℤ pos 0) → pos 0 <ℤ (m *ℤ w +ℤ pos 1 *ℤ pos 0)
      weight w m p =
          omega (arith, linear, p, solve 2 (λ w m. m ⊗ w ⊕ num (pos 1) ⊗ num (pos 0) ≈ w ⊗ m ⊕ num (pos 0)) cancels w m)

  moved_zero : (m : ℕ) → value_at h (moved m) ≡ pos 0
  moved_zero m = flat_sum (pos m) (pos 1) on (way n h) h on_zero (way_zero n h)

  moved_apart : (m : ℕ) → SamePoint on (moved m) → ⊥
  moved_apart m s =
      not_parallel n g p h o on turns io.flat on_inside.flat on_inside.weight low.under on_zero
      (still on.x (way n h).x s.x) (still on.y (way n h).y s.y) (still on.z (way n h).z s.z)
    where
      still : (x d : ℤ) → (pos m *ℤ on.w +ℤ pos 1 *ℤ pos 0) *ℤ x ≡ on.w *ℤ (pos m *ℤ x +ℤ pos 1 *ℤ d) → d ≡ pos 0
      still x d e =
          ⊎_elim (λ z. absurd (positive_nonzero on_inside.weight z)) (λ z. z) (zero_product (zero (pos m) on.w x d e))
        where
          zero : (m w x d : ℤ) → (m *ℤ w +ℤ pos 1 *ℤ pos 0) *ℤ x ≡ w *ℤ (m *ℤ x +ℤ pos 1 *ℤ d) → w *ℤ d ≡ pos 0
          zero m w x d e =
              omega (
                arith,
                linear,
                e,
                solve 3 (λ m w x. (m ⊗ w ⊕ num (pos 1) ⊗ num (pos 0)) ⊗ x ≈ m ⊗ w ⊗ x) cancels m
                    w x,
                solve 4 (λ m w x d. w ⊗ (m ⊗ x ⊕ num (pos 1) ⊗ d) ≈ m ⊗ w ⊗ x ⊕ w ⊗ d) cancels m w x d,
              )

  counted_between : (f : Face) → ((v : Spot) → InClosedFace n gs v → value_at h v ≡ pos 0 → is_in_closed f v ≡ true) → HasEdge f h
  counted_between f holds =
      let m = moved_inside.from in
      let far : InClosedFace n gs (moved m) = closed_of_inside (moved_inside.holds m (omega arith)) in
      record {
        one = on;
        other = moved m;
        holds_one = edge_in f h on (closed_out f on (holds on (closed_of_inside on_inside) on_zero)) on_zero;
        holds_other = edge_in f h (moved m) (closed_out f (moved m) (holds (moved m) far (moved_zero m))) (moved_zero m);
        different = moved_apart m;
      }

-- ---- planes that don't count follow from the others
with_plane : {n h : Plane} {gs : List Plane} {v : Spot} → InFace n gs v → IsBelow h v → InFace n (h ∷ gs) v
with_plane i u = record { flat = i.flat; weight = i.weight; within = (u, i.within) }

without_plane : {n h : Plane} {gs : List Plane} {v : Spot} → InClosedFace n (h ∷ gs) v → InClosedFace n gs v
without_plane i = record { flat = i.flat; weight = i.weight; within = i.within.1 }

module _ (n g p : Plane) (turns : orientation n g p ≢ pos 0) (o : Spot) (f : Face) where
  -- these points of the planes gs are closed points of f where the planes hs are at most 0
  abbrev Whole : List Plane → List Plane → Type 0
  Whole gs hs = (v : Spot) → InClosedFace n gs v → AllByRecursion (λ h. IsNotAbove h v) hs → is_in_closed f v ≡ true

  one_more : (gs : List Plane) (h : Plane) (hs : List Plane) → InFace n gs o →
      AllByRecursion (λ h. IsBelow h o) (h ∷ hs) → (HasEdge f h → ⊥) → Whole gs (h ∷ hs) →
      ((v : Spot) → InFace n (h ∷ gs) v → AllByRecursion (λ h. IsBelow h v) hs) → (v : Spot) → InFace n gs v →
      AllByRecursion (λ h. IsBelow h v) (h ∷ hs)
  one_more gs h hs io low none whole rest v iv =
      let u = negative in (u, rest v (with_plane iv u))
    where
      closed : (v : Spot) → InClosedFace n gs v → value_at h v ≡ pos 0 → is_in_closed f v ≡ true
      closed v i e =
          let t : IsNotAbove h v = on_is_not_above e in
          whole v i (t, closed_follows n (h ∷ gs) hs o (with_plane io low.0) low.1 rest v (record { flat = i.flat; weight = i.weight; within = (t, i.within) }))

      negative : IsBelow h v
      negative =
          by_lt_z (value_at h v) (pos 0) (λ l. record { under = l }) (λ l. absurd (none (counted_between n g p h turns gs o v io iv low.0 l f closed)))

  pub plane_follows : (gs hs : List Plane) → InFace n gs o → AllByRecursion (λ h. IsBelow h o) hs →
      AllByRecursion (λ h. HasEdge f h → ⊥) hs → Whole gs hs → (v : Spot) → InFace n gs v →
      AllByRecursion (λ h. IsBelow h v) hs
  plane_follows gs [] io low none whole v iv = tt
  plane_follows gs (h ∷ hs) io low none whole v iv =
      one_more gs h hs io low none.0 whole (plane_follows (h ∷ gs) hs (with_plane io low.0) low.1 none.1
      (λ v i a. whole v (without_plane i) (i.within.0, a))) v iv
