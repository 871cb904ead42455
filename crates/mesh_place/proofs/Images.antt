-- The image of a point, over a power of ten
use Rattle.std.proofs.Common.{◌≡◌, ◌<◌, ◌≤◌, ℕ, ◌+◌, ◌*◌, ◌^◌, refl, sym, ap, ◌∙◌, true, false, Option, None, Some, ℤ, pos, ◌+ℤ◌, ◌-ℤ◌, ◌*ℤ◌}
use Rattle.std.proofs.Common.{List, [], ◌∷◌, ◌++◌, length, map, take, drop, get_or}
use Rattle.ember_algebra.specs.Vector.{Tuple}
use Rattle.ember_algebra.proofs.Laws.{from_three}
use Rattle.ember_algebra.proofs.Ring.{◌⊕◌, ◌⊖◌, ◌⊗◌, num, ◌≈◌, solve, cancels}
use Rattle.mesh_number.specs.Number.Fractions.{Fraction}
use Rattle.mesh_read.specs.declared.surface.surface.Vertex.{Vertex}
use Rattle.mesh_read.specs.Surface.Surfaces.{Point, point_of}
use Rattle.ember_algebra.proofs.Lists.{AllZip-push}
use Rattle.std.specs.List.{AllZip}
use Rattle.std.proofs.lemmas.Nat.{pow-add}
use Rattle.std.proofs.lemmas.List.{take_more, drop_more, drop_all, map-append}
use Rattle.mesh_place.specs.declared.exact.decimals.ExactDecimal.{ExactDecimal}
use Rattle.mesh_place.specs.declared.exact.points.ExactPoint.{ExactPoint}
use Rattle.mesh_place.specs.declared.maps.matrices.AffineMap.{AffineMap}
use Rattle.mesh_place.specs.declared.surface.transformed.TransformedPoint.{TransformedPoint}
use Rattle.mesh_place.specs.Integers.{integer_of}
use Rattle.mesh_place.specs.Decimals.{IsOver, exact_value}
use Rattle.mesh_place.specs.Points.{IsExactPoint, has_short_numbers}
use Rattle.mesh_place.specs.AffineMaps.{Row, Affine, value_at, column, row_of, affine_of}
use Rattle.mesh_place.specs.Images.{tuple_at, IsImage, transformed_point, long_vertex_from}
use Rattle.mesh_place.proofs.Sums.{product_of_naturals}

-- a row at the numerators x, y, z over w and at the same point over the product of its denominators
same_value : (rx ry rz ro s x y z w nx dx ny dy nz dz : ℤ) → x *ℤ dx ≡ nx *ℤ w → y *ℤ dy ≡ ny *ℤ w → z *ℤ dz ≡ nz *ℤ w →
    (rx *ℤ (nx *ℤ (dy *ℤ dz)) +ℤ ry *ℤ (ny *ℤ (dx *ℤ dz)) +ℤ rz *ℤ (nz *ℤ (dx *ℤ dy)) +ℤ ro *ℤ (dx *ℤ dy *ℤ dz)) *ℤ (s *ℤ w)
    ≡ (rx *ℤ x +ℤ ry *ℤ y +ℤ rz *ℤ z +ℤ ro *ℤ w) *ℤ (s *ℤ (dx *ℤ dy *ℤ dz))
same_value rx ry rz ro s x y z w nx dx ny dy nz dz ex ey ez =
    from_three (pos 0 -ℤ rx *ℤ s *ℤ dy *ℤ dz) (pos 0 -ℤ ry *ℤ s *ℤ dx *ℤ dz) (pos 0 -ℤ rz *ℤ s *ℤ dx *ℤ dy) ex ey ez
    (solve 15 (λ rx ry rz ro s x y z w nx dx ny dy nz dz.
    (rx ⊗ (nx ⊗ (dy ⊗ dz)) ⊕ ry ⊗ (ny ⊗ (dx ⊗ dz)) ⊕ rz ⊗ (nz ⊗ (dx ⊗ dy)) ⊕ ro ⊗ (dx ⊗ dy ⊗ dz)) ⊗ (s ⊗ w)
    ⊖ (rx ⊗ x ⊕ ry ⊗ y ⊕ rz ⊗ z ⊕ ro ⊗ w) ⊗ (s ⊗ (dx ⊗ dy ⊗ dz))
    ≈ (num (pos 0) ⊖ rx ⊗ s ⊗ dy ⊗ dz) ⊗ (x ⊗ dx ⊖ nx ⊗ w) ⊕ (num (pos 0) ⊖ ry ⊗ s ⊗ dx ⊗ dz) ⊗ (y ⊗ dy ⊖ ny ⊗ w)
    ⊕ (num (pos 0) ⊖ rz ⊗ s ⊗ dx ⊗ dy) ⊗ (z ⊗ dz ⊖ nz ⊗ w)) cancels
    rx ry rz ro s x y z w nx dx ny dy nz dz)

-- a coordinate of an image over the power of ten of both places
image_coordinate : (r : Row) (x y z n : ℤ) (s p places : ℕ) (q : Point) → IsOver x (10 ^ p) q.x → IsOver y (10 ^ p) q.y →
    IsOver z (10 ^ p) q.z → n ≡ value_at r (column x y z (pos (10 ^ p))) → places ≡ s + p →
    value_at r (tuple_at q) *ℤ pos (10 ^ places) ≡ n *ℤ (pos (10 ^ s) *ℤ (tuple_at q).w)
image_coordinate r x y z n s p places q ex ey ez e f =
    let power : pos (10 ^ places) ≡ pos (10 ^ s) *ℤ pos (10 ^ p) =
    ap (λ (k : ℕ). pos (10 ^ k)) f ∙ ap pos (pow-add 10 s p) ∙ sym (product_of_naturals (10 ^ s) (10 ^ p)) in
    ap (λ (m : ℤ). value_at r (tuple_at q) *ℤ m) power
    ∙ same_value r.x r.y r.z r.offset (pos (10 ^ s)) x y z (pos (10 ^ p)) q.x.numerator (pos q.x.denominator) q.y.numerator
    (pos q.y.denominator) q.z.numerator (pos q.z.denominator) ex.same ey.same ez.same
    ∙ ap (λ (m : ℤ). m *ℤ (pos (10 ^ s) *ℤ (tuple_at q).w)) (sym e)

-- the image of a point that code has over a power of ten
pub image_at_point : (a : AffineMap) (e : ExactPoint) (x y z : ExactDecimal) (p places : ℕ) (q : Point) → IsExactPoint q p e →
    places ≡ a.places + p → x.places ≡ places → y.places ≡ places → z.places ≡ places →
    (exact_value x).numerator ≡ value_at (row_of a.x) (column (integer_of e.x) (integer_of e.y) (integer_of e.z) (integer_of e.w)) →
    (exact_value y).numerator ≡ value_at (row_of a.y) (column (integer_of e.x) (integer_of e.y) (integer_of e.z) (integer_of e.w)) →
    (exact_value z).numerator ≡ value_at (row_of a.z) (column (integer_of e.x) (integer_of e.y) (integer_of e.z) (integer_of e.w)) →
    IsImage (affine_of a) q (record { x = exact_value x; y = exact_value y; z = exact_value z })
image_at_point a e x y z p places q h total px py pz vx vy vz =
    let at : (r : Row) (d : ExactDecimal) → d.places ≡ places →
    (exact_value d).numerator ≡ value_at r (column (integer_of e.x) (integer_of e.y) (integer_of e.z) (integer_of e.w)) →
    value_at r (tuple_at q) *ℤ pos (10 ^ d.places) ≡ (exact_value d).numerator *ℤ (pos (10 ^ a.places) *ℤ (tuple_at q).w) =
    λ r d pd vd. image_coordinate r (integer_of e.x) (integer_of e.y) (integer_of e.z) ((exact_value d).numerator) a.places p d.places q
    h.x h.y h.z (vd ∙ ap (λ (w : ℤ). value_at r (column (integer_of e.x) (integer_of e.y) (integer_of e.z) w)) h.w) (pd ∙ total) in
    record { at = record { x = at (row_of a.x) x px vx; y = at (row_of a.y) y py vy; z = at (row_of a.z) z pz vz } }

-- ---- vertices, one after another
pub images_more : (a : Affine) (vertices : List Vertex) (i : ℕ) (v : Vertex) (now new : List TransformedPoint) (p : TransformedPoint) →
    i < length vertices → v ≡ get_or vertices i v → AllZip (IsImage a) (map point_of (take i vertices)) (map transformed_point now) →
    IsImage a (point_of v) (transformed_point p) → new ≡ now ++ p ∷ [] →
    AllZip (IsImage a) (map point_of (take (i + 1) vertices)) (map transformed_point new)
images_more a vertices i v now new p h read before is add =
    let more : take (i + 1) vertices ≡ take i vertices ++ v ∷ [] =
    take_more vertices i v h ∙ ap (λ (w : Vertex). take i vertices ++ w ∷ []) (sym read) in
    let points : map point_of (take (i + 1) vertices) ≡ map point_of (take i vertices) ++ point_of v ∷ [] =
    ap (map point_of) more ∙ map-append point_of (take i vertices) (v ∷ []) in
    let placed : map transformed_point new ≡ map transformed_point now ++ transformed_point p ∷ [] =
    ap (map transformed_point) add ∙ map-append transformed_point now (p ∷ []) in
    rw (points, placed)
    (AllZip-push (IsImage a) (map point_of (take i vertices)) (map transformed_point now) (point_of v) (transformed_point p) before is)

-- a vertex whose numbers are short, and one whose numbers aren't
pub short_vertex : (vertices : List Vertex) (i : ℕ) (v : Vertex) → i < length vertices → v ≡ get_or vertices i v → has_short_numbers v ≡ true →
    long_vertex_from i (drop i vertices) ≡ long_vertex_from (i + 1) (drop (i + 1) vertices)
short_vertex vertices i v h read short =
    let front : drop i vertices ≡ v ∷ drop (i + 1) vertices =
    drop_more vertices i v h ∙ ap (λ (w : Vertex). w ∷ drop (i + 1) vertices) (sym read) in
    ap (long_vertex_from i) front ∙ rw short refl

pub long_vertex : (vertices : List Vertex) (i : ℕ) (v : Vertex) → i < length vertices → v ≡ get_or vertices i v → has_short_numbers v ≡ false →
    long_vertex_from i (drop i vertices) ≡ Some i
long_vertex vertices i v h read long =
    let front : drop i vertices ≡ v ∷ drop (i + 1) vertices =
    drop_more vertices i v h ∙ ap (λ (w : Vertex). w ∷ drop (i + 1) vertices) (sym read) in
    ap (long_vertex_from i) front ∙ rw long refl

pub no_vertex_left : (vertices : List Vertex) (i : ℕ) → length vertices ≤ i → long_vertex_from i (drop i vertices) ≡ None
no_vertex_left vertices i h = ap (long_vertex_from i) (drop_all i vertices h)

-- a vertex more that is lent
pub vertices_more : (points : List TransformedPoint) (i : ℕ) (p : TransformedPoint) (now new : List Vertex) (v : Vertex) → i < length points →
    p ≡ get_or points i p → point_of v ≡ transformed_point p → map point_of now ≡ map transformed_point (take i points) → new ≡ now ++ v ∷ [] →
    map point_of new ≡ map transformed_point (take (i + 1) points)
vertices_more points i p now new v h read is before add =
    let more : take (i + 1) points ≡ take i points ++ p ∷ [] =
    take_more points i p h ∙ ap (λ (q : TransformedPoint). take i points ++ q ∷ []) (sym read) in
    ap (map point_of) add ∙ map-append point_of now (v ∷ [])
    ∙ (λ j. before j ++ is j ∷ [])
    ∙ sym (map-append transformed_point (take i points) (p ∷ [])) ∙ sym (ap (map transformed_point) more)
