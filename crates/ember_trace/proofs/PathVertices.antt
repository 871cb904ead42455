-- The vertices of a path as points, and the values of planes there.
use Rattle.std.proofs.Common.{◌≡◌, ap, ◌∙◌, arith, ℤ, pos, ◌+ℤ◌, ◌-ℤ◌, ◌*ℤ◌, ◌<ℤ◌, List, [], ◌∷◌}
use Rattle.ember_algebra.specs.Vector.{Vector}
use Rattle.ember_algebra.specs.Large.{horner}
use Rattle.ember_algebra.proofs.Laws.{linear}
use Rattle.ember_algebra.proofs.Order.{pos_mul}
use Rattle.ember_algebra.proofs.Ring.{◌⊕◌, ◌⊖◌, ◌⊗◌, ◌≈◌, num, solve, cancels}
use Rattle.ember_model.specs.declared.point.Spot.{Spot}
use Rattle.ember_model.specs.declared.point.Axis.{Axis}
use Rattle.ember_model.specs.declared.point.Axis.TheVariants.{X, Y, Z}
use Rattle.ember_model.specs.declared.plane.Plane.{Plane}
use Rattle.ember_model.specs.Planes.{value_at, along}
use Rattle.ember_model.specs.Points.{scaled, moved, plus_s, DifferAlong}
use Rattle.ember_model.proofs.PlaneValues.{value_scaled, value_moved}
use Rattle.ember_model.proofs.Hits.{moved_weight}
use Rattle.ember_point.specs.Points.{slid}
use Rattle.ember_box.specs.Near.{spot_of_vector}
use Rattle.ember_ref.proofs.NearPoints.{coordinate as along_point}
use Rattle.ember_trace.specs.Paths.{coordinate, first_of, second_of}

-- ---- points
-- close to u, and closest to the line from there to v
abbrev pub close_to : ℤ → Spot → Spot → Spot → Spot
close_to n u v w = plus_s (plus_s (scaled (n *ℤ n) u) (scaled n v)) w

-- u with the coordinate of v along an axis
abbrev pub with_along : Axis → Spot → Spot → Spot
with_along a u v = moved (scaled v.w u) a (u.w *ℤ along_point a v -ℤ v.w *ℤ along_point a u)

-- a plane's value at a point close to u, as a polynomial
pub value_close : (h : Plane) (n : ℤ) (u v w : Spot) → value_at h (close_to n u v w) ≡ horner n (value_at h u) (value_at h v ∷ value_at h w ∷ [])
value_close h n u v w =
    solve 17 (λ a b c d n x y z w p q r s i j k l. a ⊗ (n ⊗ n ⊗ x ⊕ n ⊗ p ⊕ i) ⊕ b ⊗ (n ⊗ n ⊗ y ⊕ n ⊗ q ⊕ j) ⊕ c ⊗
    (n ⊗ n ⊗ z ⊕ n ⊗ r ⊕ k) ⊖ d ⊗ (n ⊗ n ⊗ w ⊕ n ⊗ s ⊕ l) ≈
    ((a ⊗ x ⊕ b ⊗ y ⊕ c ⊗ z ⊖ d ⊗ w) ⊗ n ⊕ (a ⊗ p ⊕ b ⊗ q ⊕ c ⊗ r ⊖ d ⊗ s)) ⊗ n ⊕ (a ⊗ i ⊕ b ⊗ j ⊕ c ⊗ k ⊖ d ⊗ l))
    cancels h.a h.b h.c h.d n u.x u.y u.z u.w v.x v.y v.z v.w w.x w.y w.z w.w

-- the value of a plane at u with its coordinate along an axis replaced by that of v
pub value_with : (h : Plane) (a : Axis) (u v : Spot) →
    value_at h (with_along a u v) ≡ v.w *ℤ value_at h u +ℤ (u.w *ℤ along_point a v -ℤ v.w *ℤ along_point a u) *ℤ along h a
value_with h a u v =
    let by = u.w *ℤ along_point a v -ℤ v.w *ℤ along_point a u in
    value_moved h (scaled v.w u) a by ∙ ap (λ (z : ℤ). z +ℤ by *ℤ along h a) (value_scaled v.w h u)

-- a point with a coordinate of another has a positive weight
pub weight_with : (a : Axis) (u v : Spot) → pos 0 <ℤ u.w → pos 0 <ℤ v.w → pos 0 <ℤ (with_along a u v).w
weight_with a u v p q =
    let e = moved_weight (scaled v.w u) a (u.w *ℤ along_point a v -ℤ v.w *ℤ along_point a u) in let m = pos_mul q p in omega (arith, linear, e, m)

-- a plane whose normal has no entry along the axis has the same side at both points
pub level_with : (h : Plane) (a : Axis) (u v : Spot) → along h a ≡ pos 0 → value_at h (with_along a u v) ≡ v.w *ℤ value_at h u
level_with h a u v e =
    let by = u.w *ℤ along_point a v -ℤ v.w *ℤ along_point a u in
    value_with h a u v ∙ ap (λ (n : ℤ). v.w *ℤ value_at h u +ℤ by *ℤ n) e ∙ solve 2 (λ v b. v ⊕ b ⊗ num (pos 0) ≈ v) cancels (v.w *ℤ value_at h u) by

-- a point and the same with another coordinate differ along one axis alone
pub differ_with : (a : Axis) (u v : Spot) → DifferAlong a u (with_along a u v)
differ_with X u v = let e = solve 3 (λ v w y. v ⊗ w ⊗ y ≈ w ⊗ (v ⊗ y)) cancels v.w u.w in (e u.y, e u.z)
differ_with Y u v = let e = solve 3 (λ v w y. v ⊗ w ⊗ y ≈ w ⊗ (v ⊗ y)) cancels v.w u.w in (e u.x, e u.z)
differ_with Z u v = let e = solve 3 (λ v w y. v ⊗ w ⊗ y ≈ w ⊗ (v ⊗ y)) cancels v.w u.w in (e u.x, e u.y)

-- ---- as values of other planes
-- the plane that is at each point r what h is at r with the coordinate of q
abbrev pub pinned : Plane → Axis → Spot → Plane
pinned h X q = record { a = pos 0; b = q.w *ℤ h.b; c = q.w *ℤ h.c; d = q.w *ℤ h.d -ℤ h.a *ℤ q.x }
pinned h Y q = record { a = q.w *ℤ h.a; b = pos 0; c = q.w *ℤ h.c; d = q.w *ℤ h.d -ℤ h.b *ℤ q.y }
pinned h Z q = record { a = q.w *ℤ h.a; b = q.w *ℤ h.b; c = pos 0; d = q.w *ℤ h.d -ℤ h.c *ℤ q.z }

-- a plane's value at a point with a coordinate of another, as that of a pinned plane
pub value_pinned : (h : Plane) (a : Axis) (r q : Spot) → value_at h (with_along a r q) ≡ value_at (pinned h a q) r
value_pinned h X r q =
    solve 10 (λ a b c d x y z w u v. a ⊗ (v ⊗ x ⊕ (w ⊗ u ⊖ v ⊗ x)) ⊕ b ⊗ (v ⊗ y) ⊕ c ⊗ (v ⊗ z) ⊖ d ⊗ (v ⊗ w) ≈ num
    (pos 0) ⊗ x ⊕ v ⊗ b ⊗ y ⊕ v ⊗ c ⊗ z ⊖ (v ⊗ d ⊖ a ⊗ u) ⊗ w) cancels h.a h.b h.c h.d r.x r.y r.z r.w q.x q.w
value_pinned h Y r q =
    solve 10 (λ a b c d x y z w u v. a ⊗ (v ⊗ x) ⊕ b ⊗ (v ⊗ y ⊕ (w ⊗ u ⊖ v ⊗ y)) ⊕ c ⊗ (v ⊗ z) ⊖ d ⊗ (v ⊗ w) ≈ v ⊗ a ⊗ x
    ⊕ num (pos 0) ⊗ y ⊕ v ⊗ c ⊗ z ⊖ (v ⊗ d ⊖ b ⊗ u) ⊗ w) cancels h.a h.b h.c h.d r.x r.y r.z r.w q.y q.w
value_pinned h Z r q =
    solve 10 (λ a b c d x y z w u v. a ⊗ (v ⊗ x) ⊕ b ⊗ (v ⊗ y) ⊕ c ⊗ (v ⊗ z ⊕ (w ⊗ u ⊖ v ⊗ z)) ⊖ d ⊗ (v ⊗ w) ≈ v ⊗ a ⊗ x
    ⊕ v ⊗ b ⊗ y ⊕ num (pos 0) ⊗ z ⊖ (v ⊗ d ⊖ c ⊗ u) ⊗ w) cancels h.a h.b h.c h.d r.x r.y r.z r.w q.z q.w

-- ---- planes with coordinates of the start
abbrev pub entries : Vector → List ℤ
entries lo = lo.x ∷ lo.y ∷ lo.z ∷ []

abbrev pub slid_once_to : Axis → Vector → Plane → Plane
slid_once_to k lo h = slid h k (coordinate (entries lo) k)

abbrev pub slid_twice_to : Axis → Vector → Plane → Plane
slid_twice_to k lo h = slid_once_to k lo (slid_once_to (second_of k) lo h)

-- what a plane is at the corner of the box with one coordinate of q, and with two
pub pinned_once : (h : Plane) (k : Axis) (lo : Vector) (q : Spot) → value_at (pinned h (first_of k) q) (spot_of_vector lo) ≡ value_at (slid_twice_to k lo h) q
pinned_once h X lo q =
    solve 11 (λ a b c d i j k x y z w. w ⊗ a ⊗ i ⊕ num (pos 0) ⊗ j ⊕ w ⊗ c ⊗ k ⊖ (w ⊗ d ⊖ b ⊗ y) ⊗ num (pos 1) ≈ num
    (pos 0) ⊗ x ⊕ b ⊗ y ⊕ num (pos 0) ⊗ z ⊖ (d ⊖ c ⊗ k ⊖ a ⊗ i) ⊗ w) cancels h.a h.b h.c h.d lo.x lo.y lo.z q.x q.y
    q.z q.w
pinned_once h Y lo q =
    solve 11 (λ a b c d i j k x y z w. num (pos 0) ⊗ i ⊕ w ⊗ b ⊗ j ⊕ w ⊗ c ⊗ k ⊖ (w ⊗ d ⊖ a ⊗ x) ⊗ num (pos 1) ≈ a ⊗ x ⊕
    num (pos 0) ⊗ y ⊕ num (pos 0) ⊗ z ⊖ (d ⊖ c ⊗ k ⊖ b ⊗ j) ⊗ w) cancels h.a h.b h.c h.d lo.x lo.y lo.z q.x q.y q.z
    q.w
pinned_once h Z lo q =
    solve 11 (λ a b c d i j k x y z w. num (pos 0) ⊗ i ⊕ w ⊗ b ⊗ j ⊕ w ⊗ c ⊗ k ⊖ (w ⊗ d ⊖ a ⊗ x) ⊗ num (pos 1) ≈ a ⊗ x ⊕
    num (pos 0) ⊗ y ⊕ num (pos 0) ⊗ z ⊖ (d ⊖ b ⊗ j ⊖ c ⊗ k) ⊗ w) cancels h.a h.b h.c h.d lo.x lo.y lo.z q.x q.y q.z
    q.w

pub pinned_twice : (h : Plane) (k : Axis) (lo : Vector) (q : Spot) →
    value_at (pinned (pinned h (second_of k) q) (first_of k) q) (spot_of_vector lo) ≡ q.w *ℤ value_at
    (slid_once_to k lo h) q
pinned_twice h X lo q =
    solve 11 (λ a b c d i j k x y z w. w ⊗ (w ⊗ a) ⊗ i ⊕ num (pos 0) ⊗ j ⊕ w ⊗ num (pos 0) ⊗ k ⊖
    (w ⊗ (w ⊗ d ⊖ c ⊗ z) ⊖ w ⊗ b ⊗ y) ⊗ num (pos 1) ≈ w ⊗ (num (pos 0) ⊗ x ⊕ b ⊗ y ⊕ c ⊗ z ⊖ (d ⊖ a ⊗ i) ⊗ w)) cancels
    h.a h.b h.c h.d lo.x lo.y lo.z q.x q.y q.z q.w
pinned_twice h Y lo q =
    solve 11 (λ a b c d i j k x y z w. num (pos 0) ⊗ i ⊕ w ⊗ (w ⊗ b) ⊗ j ⊕ w ⊗ num (pos 0) ⊗ k ⊖
    (w ⊗ (w ⊗ d ⊖ c ⊗ z) ⊖ w ⊗ a ⊗ x) ⊗ num (pos 1) ≈ w ⊗ (a ⊗ x ⊕ num (pos 0) ⊗ y ⊕ c ⊗ z ⊖ (d ⊖ b ⊗ j) ⊗ w)) cancels
    h.a h.b h.c h.d lo.x lo.y lo.z q.x q.y q.z q.w
pinned_twice h Z lo q =
    solve 11 (λ a b c d i j k x y z w. num (pos 0) ⊗ i ⊕ w ⊗ num (pos 0) ⊗ j ⊕ w ⊗ (w ⊗ c) ⊗ k ⊖
    (w ⊗ (w ⊗ d ⊖ b ⊗ y) ⊖ w ⊗ a ⊗ x) ⊗ num (pos 1) ≈ w ⊗ (a ⊗ x ⊕ b ⊗ y ⊕ num (pos 0) ⊗ z ⊖ (d ⊖ c ⊗ k) ⊗ w)) cancels
    h.a h.b h.c h.d lo.x lo.y lo.z q.x q.y q.z q.w

-- the last segment runs along k
pub differ_last : (k : Axis) (r q : Spot) (m s : ℤ) → DifferAlong k (with_along (second_of k) (with_along (first_of k) r q) q) (moved (scaled m q) k s)
differ_last X r q m s =
    let y = solve 5 (λ m w v i j. m ⊗ w ⊗ (w ⊗ (w ⊗ i ⊕ (v ⊗ j ⊖ w ⊗ i))) ≈ w ⊗ (w ⊗ v) ⊗ (m ⊗ j)) cancels m q.w r.w in
    let z = solve 5 (λ m w v i j. m ⊗ w ⊗ (w ⊗ (w ⊗ i) ⊕ (w ⊗ v ⊗ j ⊖ w ⊗ (w ⊗ i))) ≈ w ⊗ (w ⊗ v) ⊗ (m ⊗ j)) cancels m q.w r.w in
    (y r.y q.y, z r.z q.z)
differ_last Y r q m s =
    let y = solve 5 (λ m w v i j. m ⊗ w ⊗ (w ⊗ (w ⊗ i ⊕ (v ⊗ j ⊖ w ⊗ i))) ≈ w ⊗ (w ⊗ v) ⊗ (m ⊗ j)) cancels m q.w r.w in
    let z = solve 5 (λ m w v i j. m ⊗ w ⊗ (w ⊗ (w ⊗ i) ⊕ (w ⊗ v ⊗ j ⊖ w ⊗ (w ⊗ i))) ≈ w ⊗ (w ⊗ v) ⊗ (m ⊗ j)) cancels m q.w r.w in
    (y r.x q.x, z r.z q.z)
differ_last Z r q m s =
    let y = solve 5 (λ m w v i j. m ⊗ w ⊗ (w ⊗ (w ⊗ i ⊕ (v ⊗ j ⊖ w ⊗ i))) ≈ w ⊗ (w ⊗ v) ⊗ (m ⊗ j)) cancels m q.w r.w in
    let z = solve 5 (λ m w v i j. m ⊗ w ⊗ (w ⊗ (w ⊗ i) ⊕ (w ⊗ v ⊗ j ⊖ w ⊗ (w ⊗ i))) ≈ w ⊗ (w ⊗ v) ⊗ (m ⊗ j)) cancels m q.w r.w in
    (y r.x q.x, z r.y q.y)
