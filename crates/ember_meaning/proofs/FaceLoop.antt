-- One face: the legs over the four sides of the rectangle, by the turns of its edges at the middle.
use Rattle.std.proofs.Common.{◌≡◌, ◌≢◌, inl, inr, ⊎_elim, refl, sym, ap, subst, ◌∙◌, arith, Bool, true, false, List, []}
use Rattle.std.proofs.Common.{◌∷◌, map, ℤ, pos, negsuc, ◌+ℤ◌, ◌-ℤ◌, ◌*ℤ◌, neg_ℤ, ◌<ℤ◌}
use Rattle.std.specs.List.{AllByRecursion}
use borrow.Author.Differences.{ints}
use lib.IntN.{*ℤ_comm, *ℤ-zero}
use Rattle.ember_algebra.specs.Vector.{Vector, zero_v, dot, cross}
use Rattle.ember_algebra.specs.Large.{Eventually}
use Rattle.ember_algebra.specs.Sign.{sign, is_zero}
use Rattle.ember_algebra.specs.Sums.{total}
use Rattle.ember_algebra.proofs.Laws.{linear}
use Rattle.ember_algebra.proofs.Order.{pos_mul, sign-mul, sign_scaled}
use Rattle.ember_algebra.proofs.Large.{eventually_both, eventually_map}
use Rattle.ember_algebra.proofs.Ring.{◌⊕◌, ◌⊖◌, ◌⊗◌, ◌≈◌, neg, num, solve, cancels}
use Rattle.ember_algebra.proofs.Identities.{parallel_products, orthogonal_parallel}
use Rattle.ember_algebra.proofs.Vectors.{square_positive}
use Rattle.ember_model.specs.declared.plane.Plane.{Plane}
use Rattle.ember_model.specs.declared.point.Spot.{Spot}
use Rattle.ember_model.specs.declared.point.Axis.{Axis}
use Rattle.ember_model.specs.declared.point.Axis.TheVariants.{X, Y, Z}
use Rattle.ember_model.specs.declared.face.Face.{Face}
use Rattle.ember_model.specs.Planes.{value_at, along, unit, HasNoNormal}
use Rattle.ember_model.specs.Faces.{is_in_closed, between, leg}
use Rattle.ember_model.specs.ClearTest.{none_positive}
use Rattle.ember_model.specs.Edges.{RingEdge, normal}
use Rattle.ember_model.specs.FaceFiles.{WrittenFace}
use Rattle.ember_model.proofs.SignTests.{positive_in, zero_out, nonzero_out}
use Rattle.ember_model.proofs.NearClearPoints.{FollowsEach}
use Rattle.ember_model.proofs.Hits.{closed_on}
use Rattle.ember_law.proofs.Shifted.{eventually_true}
use Rattle.ember_poly.specs.Rings.{IsBelow, IsNotAbove, InClosedFace}
use Rattle.ember_poly.proofs.FaceTests.{closed_in, closed_out}
use Rattle.ember_poly.proofs.OutlinePoints.{Ended, edge_has_end}
use Rattle.ember_meaning.specs.Closed.Chains.{face_from, IsOutlined}
use Rattle.ember_meaning.proofs.RectangleRound.{IsGeneral, IsGeneralFace, component, next, corner, loop, edge_turn}
use Rattle.ember_meaning.proofs.Rectangle.{value_corner, follows_corner, off_corner, weight_corner}
use Rattle.ember_meaning.proofs.RectangleCrossings.{cut, passed, quad_turns, quad_passes}
use Rattle.ember_meaning.proofs.Displacements.{Parallel, dot_swap}
use Rattle.ember_meaning.proofs.EdgeForm.{has_normal}
use Rattle.ember_meaning.proofs.OneEdge.{EdgeAt, IsOnlyMet, OneMet, edges_met}
use Rattle.ember_meaning.proofs.NearLegs.{IsBeside, middle_follows, leg_off_plane, leg_beyond, leg_below, leg_on_edge, under_negative, only_met_decides}
use Rattle.ember_meaning.proofs.EdgeSums.{turns_off_face, turns_under, turns_only_met}

-- ---- values at the corners
-- of a plane that is 0 at the middle
value_flat : (h : Plane) (c : Axis) (t : Spot) (m sa sb : ℤ) → value_at h t ≡ pos 0 →
    value_at h (corner c t m sa sb) ≡ m *ℤ (sb *ℤ along h (next (next c))) +ℤ sa *ℤ along h (next c)
value_flat h c t m sa sb z =
    value_corner h c t m sa sb ∙ (λ i. m *ℤ (m *ℤ z i +ℤ sb *ℤ along h (next (next c))) +ℤ sa *ℤ along h (next c))
    ∙ solve 3 (λ m b a. m ⊗ (m ⊗ num (pos 0) ⊕ b) ⊕ a ≈ m ⊗ b ⊕ a) cancels m (sb *ℤ along h (next (next c)))
    (sa *ℤ along h (next c))

-- corners across from each other
value_across : (h : Plane) (c : Axis) (t : Spot) (m sa sb : ℤ) → value_at h t ≡ pos 0 →
    value_at h (corner c t m (neg_ℤ sa) (neg_ℤ sb)) ≡ neg_ℤ (value_at h (corner c t m sa sb))
value_across h c t m sa sb z =
    value_flat h c t m (neg_ℤ sa) (neg_ℤ sb) z ∙ solve 5
    (λ m a b x y. m ⊗ (neg b ⊗ y) ⊕ neg a ⊗ x ≈ neg (m ⊗ (b ⊗ y) ⊕ a ⊗ x)) cancels m sa sb (along h (next c))
    (along h (next (next c))) ∙ ap neg_ℤ (sym (value_flat h c t m sa sb z))

-- the turn from one plane to another, as the corners see it
abbrev seen_turn : Plane → Plane → Axis → Spot → ℤ → ℤ
seen_turn n g c t m =
    value_at n (corner c t m (pos 1) (pos 1)) *ℤ value_at g (corner c t m (negsuc 0) (pos 1)) -ℤ value_at n
    (corner c t m (negsuc 0) (pos 1)) *ℤ value_at g (corner c t m (pos 1) (pos 1))

component_cross : (n g : Plane) (c : Axis) → along n (next c) *ℤ along g (next (next c)) -ℤ along n (next (next c)) *ℤ
    along g (next c) ≡ component (cross (normal n) (normal g)) c
component_cross n g X = refl
component_cross n g Y = refl
component_cross n g Z = refl

turn_seen : (n g : Plane) (c : Axis) (t : Spot) (m : ℤ) → value_at n t ≡ pos 0 → value_at g t ≡ pos 0 →
    seen_turn n g c t m ≡ (pos 2 *ℤ m) *ℤ component (cross (normal n) (normal g)) c
turn_seen n g c t m zn zg =
    let x = value_flat n c t m (pos 1) (pos 1) zn in let y = value_flat n c t m (negsuc 0) (pos 1) zn in
    let u = value_flat g c t m (pos 1) (pos 1) zg in let v = value_flat g c t m (negsuc 0) (pos 1) zg in
    (λ i. x i *ℤ v i -ℤ y i *ℤ u i) ∙ solve 5 (λ m na nb ga gb. (m ⊗ (num (pos 1) ⊗ nb) ⊕ num (pos 1) ⊗ na) ⊗
    (m ⊗ (num (pos 1) ⊗ gb) ⊕ num (negsuc 0) ⊗ ga) ⊖ (m ⊗ (num (pos 1) ⊗ nb) ⊕ num (negsuc 0) ⊗ na) ⊗
    (m ⊗ (num (pos 1) ⊗ gb) ⊕ num (pos 1) ⊗ ga) ≈ num (pos 2) ⊗ m ⊗ (na ⊗ gb ⊖ nb ⊗ ga)) cancels m (along n (next c))
    (along n (next (next c))) (along g (next c)) (along g (next (next c)))
    ∙ ap (λ (z : ℤ). pos 2 *ℤ m *ℤ z) (component_cross n g c)

-- ---- the line's direction and the course of an edge
component_dot : (v : Vector) (c : Axis) → component v c ≡ dot (unit c) v
component_dot v X = solve 3 (λ x y z. x ≈ num (pos 1) ⊗ x ⊕ num (pos 0) ⊗ y ⊕ num (pos 0) ⊗ z) cancels v.x v.y v.z
component_dot v Y = solve 3 (λ x y z. y ≈ num (pos 0) ⊗ x ⊕ num (pos 1) ⊗ y ⊕ num (pos 0) ⊗ z) cancels v.x v.y v.z
component_dot v Z = solve 3 (λ x y z. z ≈ num (pos 0) ⊗ x ⊕ num (pos 0) ⊗ y ⊕ num (pos 1) ⊗ z) cancels v.x v.y v.z

sign_component : (d k : Vector) (c : Axis) → d ≢ zero_v → Parallel d k → sign (component k c) ≡ sign (component d c) *ℤ sign (dot k d)
sign_component d k c nd p =
    let e : dot d d *ℤ component k c ≡ component d c *ℤ dot k d =
    *ℤ_comm (dot d d) (component k c) ∙ ap (λ (z : ℤ). z *ℤ dot d d) (component_dot k c)
    ∙ sym (parallel_products (unit c) d d k p)
    ∙ (let x = sym (component_dot d c) in let y = dot_swap d k in λ i. x i *ℤ y i) in
    sym (sign_scaled (component k c) (square_positive d nd)) ∙ ap sign e ∙ sign-mul (component d c) (dot k d)

-- ---- what is known of the edges at t
edges_at : (f : Face) (d : Vector) (t : Spot) (es : List RingEdge) → AllByRecursion (λ e. Ended f e) es →
    AllByRecursion (λ h. IsGeneral d t h) (map (λ e. e.plane) es) →
    AllByRecursion (λ h. IsNotAbove h t) (map (λ e. e.plane) es) → AllByRecursion (λ e. EdgeAt f d t e) es
edges_at f d t [] ends gs ms = tt
edges_at f d t (e ∷ es) ends gs ms =
    (record { end = ends.0; general = gs.0; at_most = ms.0 }, edges_at f d t es ends.1 gs.1 ms.1)

-- the plane that is met, which contains the line
only_met_contains : (f : Face) (d : Vector) (t : Spot) (g : Plane) (es : List RingEdge) →
    AllByRecursion (λ e. EdgeAt f d t e) es → IsOnlyMet t g es → (value_at g t ≡ pos 0) × (dot (normal g) d ≡ pos 0)
only_met_contains f d t g [] k o = absurd o
only_met_contains f d t g (e ∷ es) k (inl o) =
    (o.1, subst (λ h. dot (normal h) d ≡ pos 0) o.0 (k.0.general.contains (ap (λ (h : Plane). value_at h t) o.0 ∙ o.1)))
only_met_contains f d t g (e ∷ es) k (inr o) = only_met_contains f d t g es k.1 o.1

-- ---- the four sides
pub record AreBeside (f : Face) (c : Axis) (t : Spot) (m : ℤ) : Type 0 where
  pub first : IsBeside f t (corner c t m (pos 1) (negsuc 0))
  pub second : IsBeside f t (corner c t m (pos 1) (pos 1))
  pub third : IsBeside f t (corner c t m (negsuc 0) (pos 1))
  pub fourth : IsBeside f t (corner c t m (negsuc 0) (negsuc 0))

module _ (c : Axis) (d : Vector) (t : Spot) (w : WrittenFace) (m : ℤ) (wt : pos 0 <ℤ t.w) (nc : component d c ≢ pos 0)
    (general : IsGeneralFace d t (face_from w)) (line : IsOutlined w) (pm : pos 0 <ℤ m)
    (b : AreBeside (face_from w) c t m) where
  abbrev f : Face
  f = face_from w

  abbrev p1 : Spot
  p1 = corner c t m (pos 1) (negsuc 0)

  abbrev p2 : Spot
  p2 = corner c t m (pos 1) (pos 1)

  abbrev p3 : Spot
  p3 = corner c t m (negsuc 0) (pos 1)

  abbrev p4 : Spot
  p4 = corner c t m (negsuc 0) (negsuc 0)

  abbrev sum : ℤ
  sum = total (edge_turn d t f) w.edges

  nd : d ≢ zero_v
  nd z = nc (ap (λ (v : Vector). component v c) z ∙ none c)
    where
      none : (c : Axis) → component zero_v c ≡ pos 0
      none X = refl
      none Y = refl
      none Z = refl

  -- four legs alike
  four_none : leg f p1 p2 ≡ pos 0 → leg f p2 p3 ≡ pos 0 → leg f p3 p4 ≡ pos 0 → leg f p4 p1 ≡ pos 0 → sum ≡ pos 0 → loop c t m f ≡ sign (component d c) *ℤ sum
  four_none x y z u s = let r = ap (λ (v : ℤ). sign (component d c) *ℤ v) s ∙ *ℤ-zero (sign (component d c)) in omega (arith, linear, x, y, z, u, r)

  off_plane : value_at f.support t ≢ pos 0 → is_in_closed f t ≡ false → loop c t m f ≡ sign (component d c) *ℤ sum
  off_plane n h =
      four_none (leg_off_plane f t p1 p2 b.first b.second n) (leg_off_plane f t p2 p3 b.second b.third n)
      (leg_off_plane f t p3 p4 b.third b.fourth n) (leg_off_plane f t p4 p1 b.fourth b.first n)
      (turns_off_face d t f w.edges h)

  beyond : none_positive f.edges t ≡ false → is_in_closed f t ≡ false → loop c t m f ≡ sign (component d c) *ℤ sum
  beyond n h =
      four_none (leg_beyond f t p1 p2 b.first b.second n) (leg_beyond f t p2 p3 b.second b.third n)
      (leg_beyond f t p3 p4 b.third b.fourth n) (leg_beyond f t p4 p1 b.fourth b.first n)
      (turns_off_face d t f w.edges h)

  off_face : is_in_closed f t ≡ false → loop c t m f ≡ sign (component d c) *ℤ sum
  off_face h = by (is_zero (value_at f.support t)) refl
    where
      by : (k : Bool) → is_zero (value_at f.support t) ≡ k → loop c t m f ≡ sign (component d c) *ℤ sum
      by true k = beyond (sym (closed_on f t (positive_in wt) (zero_out (value_at f.support t) k)) ∙ h) h
      by false k = off_plane (nonzero_out (value_at f.support t) k) h

  -- ---- in the closed face
  module _ (closed : InClosedFace f.support f.edges t) where
    abbrev x : ℤ
    x = value_at f.support p2

    abbrev y : ℤ
    y = value_at f.support p3

    known : AllByRecursion (λ e. EdgeAt f d t e) w.edges
    known = edges_at f d t w.edges (edge_has_end f line.first.start w.edges line.round) general.edges closed.within

    first_across : (h : Plane) → value_at h t ≡ pos 0 → value_at h p1 ≡ neg_ℤ (value_at h p3)
    first_across h z = value_across h c t m (negsuc 0) (pos 1) z

    fourth_across : (h : Plane) → value_at h t ≡ pos 0 → value_at h p4 ≡ neg_ℤ (value_at h p2)
    fourth_across h z = value_across h c t m (pos 1) (pos 1) z

    below_all : AllByRecursion (λ e. IsBelow e.plane t) w.edges → loop c t m f ≡ sign (component d c) *ℤ sum
    below_all us =
        let n = under_negative t w.edges us in
        let s1 = first_across f.support closed.flat in let s4 = fourth_across f.support closed.flat in
        let l1 = leg_below f t p1 p2 b.first b.second n ∙ ap (λ (v : ℤ). passed v x) s1 in
        let l2 = leg_below f t p2 p3 b.second b.third n in
        let l3 = leg_below f t p3 p4 b.third b.fourth n ∙ ap (λ (v : ℤ). passed y v) s4 in
        let l4 = leg_below f t p4 p1 b.fourth b.first n ∙ (λ i. passed (s4 i) (s1 i)) in
        let q = quad_passes x y b.second.off b.third.off in
        let r = ap (λ (v : ℤ). sign (component d c) *ℤ v) (turns_under d t f w.edges us) ∙ *ℤ-zero (sign (component d c)) in
        (λ i. l1 i +ℤ l2 i +ℤ l3 i +ℤ l4 i) ∙ q ∙ sym r

    on_one : OneMet t w.edges → loop c t m f ≡ sign (component d c) *ℤ sum
    on_one o =
        let g = o.plane in let gd = only_met_contains f d t g w.edges known o.only in
        let s1 = first_across f.support closed.flat in let s4 = fourth_across f.support closed.flat in
        let g1 = first_across g gd.0 in let g4 = fourth_across g gd.0 in let u = value_at g p2 in let v = value_at g p3 in
        let l1 = side p1 p2 b.first b.second ∙ (λ i. cut (s1 i) x (g1 i) u) in
        let l2 = side p2 p3 b.second b.third in
        let l3 = side p3 p4 b.third b.fourth ∙ (λ i. cut y (s4 i) v (g4 i)) in
        let l4 = side p4 p1 b.fourth b.first ∙ (λ i. cut (s4 i) (s1 i) (g4 i) (g1 i)) in
        let k = cross (normal f.support) (normal g) in
        let p = orthogonal_parallel d (normal f.support) (normal g)
        (dot_swap d (normal f.support) ∙ general.support.contains closed.flat) (dot_swap d (normal g) ∙ gd.1) in
        let q = quad_turns x y u v b.second.off b.third.off ∙ ap sign (turn_seen f.support g c t m closed.flat gd.0)
        ∙ sign_scaled (component k c) (pos_mul two pm) ∙ sign_component d k c nd p in
        let r = turns_only_met d t f g w.edges (closed_in f t closed) o.only in
        (λ i. l1 i +ℤ l2 i +ℤ l3 i +ℤ l4 i) ∙ q ∙ sym (ap (λ (v : ℤ). sign (component d c) *ℤ v) r)
      where
        side : (p q : Spot) (bp : IsBeside f t p) (bq : IsBeside f t q) →
            leg f p q ≡ cut (value_at f.support p) (value_at f.support q) (value_at o.plane p) (value_at o.plane q)
        side p q bp bq =
            leg_on_edge f t p q bp bq o.plane (only_met_decides t (between f.support p q) o.plane w.edges o.only (middle_follows f t p q bp bq))

        two : pos 0 <ℤ pos 2
        two = omega (arith, ints)

    on_face : loop c t m f ≡ sign (component d c) *ℤ sum
    on_face = ⊎_elim below_all on_one (edges_met f d t nd general.support closed w.edges known line.once)

  loop_near : loop c t m f ≡ sign (component d c) *ℤ sum
  loop_near = by (is_in_closed f t) refl
    where
      by : (k : Bool) → is_in_closed f t ≡ k → loop c t m f ≡ sign (component d c) *ℤ sum
      by true h = on_face (closed_out f t h)
      by false h = off_face h

-- ---- for large m
follow_corner : (c : Axis) (t : Spot) (sa sb : ℤ) (hs : List Plane) → Eventually (λ m. FollowsEach t (corner c t (pos m) sa sb) hs)
follow_corner c t sa sb [] = eventually_true (λ m. tt)
follow_corner c t sa sb (h ∷ hs) = eventually_both (follows_corner h c t sa sb) (follow_corner c t sa sb hs)

beside_corner : (c : Axis) (d : Vector) (t : Spot) (f : Face) (sa sb : ℤ) → pos 0 <ℤ t.w → component d c ≢ pos 0 →
    sa ≢ pos 0 → sb ≢ pos 0 → IsGeneral d t f.support → (HasNoNormal f.support → ⊥) →
    Eventually (λ m. IsBeside f t (corner c t (pos m) sa sb))
beside_corner c d t f sa sb wt nc na nb g n =
    eventually_map (λ m h. record { weight = h.0; off = λ z. n (h.1.0 z); support = h.1.1.0; edges = h.1.1.1 })
    (eventually_both (weight_corner c t sa sb wt)
    (eventually_both (off_corner f.support c d t sa sb nc na nb g)
    (eventually_both (follows_corner f.support c t sa sb) (follow_corner c t sa sb f.edges))))

-- the legs over the four sides of a small rectangle are the turns of the edges that its middle lies on
pub face_loop : (c : Axis) (d : Vector) (t : Spot) (w : WrittenFace) → pos 0 <ℤ t.w → component d c ≢ pos 0 →
    IsGeneralFace d t (face_from w) → IsOutlined w →
    Eventually (λ m. loop c t (pos m) (face_from w) ≡ sign (component d c) *ℤ total (edge_turn d t (face_from w)) w.edges)
face_loop c d t w wt nc general line =
    eventually_map (λ m h. loop_near c d t w (pos m) wt nc general line h.0
    (record { first = h.1.0; second = h.1.1.0; third = h.1.1.1.0; fourth = h.1.1.1.1 }))
    (eventually_both positive (eventually_both (beside (pos 1) (negsuc 0) one minus)
    (eventually_both (beside (pos 1) (pos 1) one one)
    (eventually_both (beside (negsuc 0) (pos 1) minus one) (beside (negsuc 0) (negsuc 0) minus minus)))))
  where
    positive : Eventually (λ m. pos 0 <ℤ pos m)
    positive = record { from = 1; holds = λ m l. omega (arith, ints) }

    one : pos 1 ≢ pos 0
    one e = omega (arith, ints, e)

    minus : negsuc 0 ≢ pos 0
    minus e = omega (arith, ints, e)

    first_end : Ended (face_from w) line.first
    first_end = (subst (λ es. AllByRecursion (λ e. Ended (face_from w) e) es) line.begins (edge_has_end (face_from w) line.first.start w.edges line.round)).0

    beside : (sa sb : ℤ) → sa ≢ pos 0 → sb ≢ pos 0 → Eventually (λ m. IsBeside (face_from w) t (corner c t (pos m) sa sb))
    beside sa sb na nb =
        beside_corner c d t (face_from w) sa sb wt nc na nb general.support (has_normal (face_from w) line.first first_end)
