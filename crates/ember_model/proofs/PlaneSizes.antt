-- How large the planes of a valid triangle are.
use Rattle.std.proofs.Common.{ℕ, zero, suc, ◌+◌, ◌*◌, ◌≤◌, ℤ, pos, negsuc, ◌-ℤ◌, ◌*ℤ◌, unsigned_abs}
use Rattle.std.proofs.Common.{sym, subst, le_refl, mul-le-mul, lit≤, arith, List, [], ◌∷◌, All}
use borrow.Author.Differences.{ints}
use Rattle.std.proofs.lemmas.List.Elements.{All-cons, All-nil}
use Rattle.ember_algebra.specs.Sign.{sign}
use Rattle.ember_algebra.specs.Size.{Small}
use Rattle.ember_algebra.proofs.Ring.{◌⊕◌, ◌⊖◌, ◌⊗◌, ◌≈◌, solve, cancels}
use Rattle.ember_algebra.proofs.Size.{small_within, small_mul, small_add, small_sub}
use Rattle.ember_model.specs.declared.point.Corner.{Corner}
use Rattle.ember_model.specs.declared.tri.Tri.{Tri}
use Rattle.ember_model.specs.declared.plane.Plane.{Plane}
use Rattle.ember_model.specs.declared.point.Axis.{Axis}
use Rattle.ember_model.specs.declared.point.Axis.TheVariants.{X, Y, Z}
use Rattle.ember_model.specs.Planes.{unit, support_of, edge_through, times_plane}
use Rattle.ember_model.specs.declared.vector3.Vector3.{Vector3}
use Rattle.ember_model.specs.Vectors3.{IsVector3Within}
use Rattle.ember_model.specs.Limits.{narrow_limit, broad_limit}
use Rattle.ember_model.specs.Within.{IsCornerWithin, IsTriWithin, IsSupportWithin, IsEdgeWithin, normal_limit}
use Rattle.ember_model.specs.Valid.{IsValidCorner, IsValidTri, IsValidPlane}
use Rattle.ember_model.specs.Sizes.{IsSupportSized, IsEdgeSized}

-- a plane with the sizes of a support plane is valid
pub support_valid : {p : Plane} → IsSupportSized p → IsValidPlane p
support_valid s =
    record { a = s.a; b = s.b; c = s.c; d = record { small = omega (arith, s.d.small) } }

-- a plane with the sizes of an edge plane is valid
pub edge_valid : {p : Plane} → IsEdgeSized p → IsValidPlane p
edge_valid s =
    record {
      a = record { small = omega (arith, s.a.small) };
      b = record { small = omega (arith, s.b.small) };
      c = record { small = omega (arith, s.c.small) };
      d = record { small = omega (arith, s.d.small) };
    }

-- ---- larger limits
-- a corner within m is within each larger number
pub corner_within : {m n : ℕ} {c : Corner} → m ≤ n → IsCornerWithin m c → IsCornerWithin n c
corner_within l s = record { x = small_within l s.x; y = small_within l s.y; z = small_within l s.z }

-- a triangle within m is within each larger number
pub tri_within : {m n : ℕ} {t : Tri} → m ≤ n → IsTriWithin m t → IsTriWithin n t
tri_within l s = record { a = corner_within l s.a; b = corner_within l s.b; c = corner_within l s.c }

-- a valid corner is within the broad limit
pub corner_broad : {c : Corner} → IsValidCorner c → IsCornerWithin broad_limit c
corner_broad s = corner_within (lit≤ tt) s

-- a valid triangle is within the broad limit
pub tri_broad : {t : Tri} → IsValidTri t → IsTriWithin broad_limit t
tri_broad s = tri_within (lit≤ tt) s

-- a vector within m is within each larger number
pub vector_within : {m n : ℕ} {v : Vector3} → m ≤ n → IsVector3Within m v → IsVector3Within n v
vector_within l s = record { x = small_within l s.x; y = small_within l s.y; z = small_within l s.z }

-- ---- the support plane
-- the differences of three numbers add up to twice the distance of the least from the greatest
differences_within : {m : ℕ} {a b c : ℤ} → Small m a → Small m b → Small m c →
    unsigned_abs (b -ℤ c) + unsigned_abs (c -ℤ a) + unsigned_abs (a -ℤ b) ≤ 4 * m
differences_within {m} {a} {b} {c} p q r = omega (arith, ints, p.small, q.small, r.small)

times_sum : (m x y z : ℕ) → x + y + z ≤ 4 * m → m * x + m * y + m * z ≤ normal_limit m
times_sum m x y z l = let k : m * (x + y + z) ≤ m * (4 * m) = mul-le-mul (le_refl m) l in omega (arith, k)

-- a number is at most its own size
pub own_size : (z : ℤ) → Small (unsigned_abs z) z
own_size z = record { small = le_refl (unsigned_abs z) }

-- an entry of a normal, by the corners' coordinates a, b, c along the next axis and u, v, w along the one after it
entry_within : {m : ℕ} (a b c u v w : ℤ) → Small m a → Small m b → Small m c → Small m u → Small m v → Small m w →
    Small (normal_limit m) ((b -ℤ a) *ℤ (w -ℤ u) -ℤ (v -ℤ u) *ℤ (c -ℤ a))
entry_within {m} a b c u v w pa pb pc pu pv pw =
    let e = solve 6 (λ a b c u v w. (b ⊖ a) ⊗ (w ⊖ u) ⊖ (v ⊖ u) ⊗ (c ⊖ a) ≈ a ⊗ (v ⊖ w) ⊕ b ⊗ (w ⊖ u) ⊕ c ⊗ (u ⊖ v)) cancels a b c u v w in
    let s = small_add (small_add (small_mul pa (own_size (v -ℤ w))) (small_mul pb (own_size (w -ℤ u)))) (small_mul pc (own_size (u -ℤ v))) in
    let l = times_sum m (unsigned_abs (v -ℤ w)) (unsigned_abs (w -ℤ u)) (unsigned_abs (u -ℤ v)) (differences_within pu pv pw) in
    subst (λ (z : ℤ). Small (normal_limit m) z) (sym e) (small_within l s)

three_products : (m : ℕ) → normal_limit m * m + normal_limit m * m + normal_limit m * m ≤ 12 * (m * (m * m))
three_products m = omega arith

-- the support plane of a triangle within m
pub support_within : (m : ℕ) (t : Tri) → IsTriWithin m t → IsSupportWithin m (support_of t)
support_within m t v =
    let x = entry_within t.a.y t.b.y t.c.y t.a.z t.b.z t.c.z v.a.y v.b.y v.c.y v.a.z v.b.z v.c.z in
    let y = entry_within t.a.z t.b.z t.c.z t.a.x t.b.x t.c.x v.a.z v.b.z v.c.z v.a.x v.b.x v.c.x in
    let z = entry_within t.a.x t.b.x t.c.x t.a.y t.b.y t.c.y v.a.x v.b.x v.c.x v.a.y v.b.y v.c.y in
    record {
      a = x;
      b = y;
      c = z;
      d = small_within (three_products m) (small_add (small_add (small_mul x v.a.x) (small_mul y v.a.y)) (small_mul z v.a.z));
    }

-- within the narrow limit a support plane has the sizes of one
pub support_sized_within : {p : Plane} → IsSupportWithin narrow_limit p → IsSupportSized p
support_sized_within s =
    record {
      a = small_within (lit≤ tt) s.a;
      b = small_within (lit≤ tt) s.b;
      c = small_within (lit≤ tt) s.c;
      d = small_within (lit≤ tt) s.d;
    }

-- the support plane of a valid triangle has the sizes of one
pub support_sized : (t : Tri) → IsValidTri t → IsSupportSized (support_of t)
support_sized t v = support_sized_within (support_within narrow_limit t v)

-- ---- the edge planes
one : Small 1 (pos 1)
one = record { small = lit≤ tt }

nil : Small 0 (pos 0)
nil = record { small = lit≤ tt }

-- the plane through two corners within m and the axis
pub edge_within : (m : ℕ) (u v : Corner) (k : Axis) (s : ℤ) → IsCornerWithin m u → IsCornerWithin m v → Small 1 s →
    IsEdgeWithin m (times_plane s (edge_through u v (unit k)))
edge_within m u v k s p q r = by k
  where
    step_x : Small (m + m) (v.x -ℤ u.x)
    step_x = small_sub q.x p.x

    step_y : Small (m + m) (v.y -ℤ u.y)
    step_y = small_sub q.y p.y

    step_z : Small (m + m) (v.z -ℤ u.z)
    step_z = small_sub q.z p.z

    by : (k : Axis) → IsEdgeWithin m (times_plane s (edge_through u v (unit k)))
    by X =
        let x = small_sub (small_mul step_y nil) (small_mul step_z nil) in
        let y = small_sub (small_mul step_z one) (small_mul step_x nil) in
        let z = small_sub (small_mul step_x nil) (small_mul step_y one) in
        record {
          a = small_within (omega arith) (small_mul r x);
          b = small_within (omega arith) (small_mul r y);
          c = small_within (omega arith) (small_mul r z);
          d = small_within (omega arith) (small_mul r (small_add (small_add (small_mul x p.x) (small_mul y p.y)) (small_mul z p.z)));
        }
    by Y =
        let x = small_sub (small_mul step_y nil) (small_mul step_z one) in
        let y = small_sub (small_mul step_z nil) (small_mul step_x nil) in
        let z = small_sub (small_mul step_x one) (small_mul step_y nil) in
        record {
          a = small_within (omega arith) (small_mul r x);
          b = small_within (omega arith) (small_mul r y);
          c = small_within (omega arith) (small_mul r z);
          d = small_within (omega arith) (small_mul r (small_add (small_add (small_mul x p.x) (small_mul y p.y)) (small_mul z p.z)));
        }
    by Z =
        let x = small_sub (small_mul step_y one) (small_mul step_z nil) in
        let y = small_sub (small_mul step_z nil) (small_mul step_x one) in
        let z = small_sub (small_mul step_x nil) (small_mul step_y nil) in
        record {
          a = small_within (omega arith) (small_mul r x);
          b = small_within (omega arith) (small_mul r y);
          c = small_within (omega arith) (small_mul r z);
          d = small_within (omega arith) (small_mul r (small_add (small_add (small_mul x p.x) (small_mul y p.y)) (small_mul z p.z)));
        }

-- within the narrow limit an edge plane has the sizes of one
pub edge_sized_within : {p : Plane} → IsEdgeWithin narrow_limit p → IsEdgeSized p
edge_sized_within s =
    record {
      a = small_within (lit≤ tt) s.a;
      b = small_within (lit≤ tt) s.b;
      c = small_within (lit≤ tt) s.c;
      d = small_within (lit≤ tt) s.d;
    }

-- a sign is at most 1 in size
pub sign_small : (z : ℤ) → Small 1 (sign z)
sign_small (pos zero) = record { small = omega arith }
sign_small (pos (suc n)) = record { small = omega arith }
sign_small (negsuc n) = record { small = omega arith }

-- three edge planes within m, as a list
pub three_within : {m : ℕ} {x y z : Plane} → IsEdgeWithin m x → IsEdgeWithin m y → IsEdgeWithin m z → All (IsEdgeWithin m) (x ∷ y ∷ z ∷ [])
three_within {m} {x} {y} {z} p q r =
    All-cons (IsEdgeWithin m) x (y ∷ z ∷ []) p (All-cons (IsEdgeWithin m) y (z ∷ []) q (All-cons (IsEdgeWithin m) z [] r (All-nil (IsEdgeWithin m))))

-- ---- the face
-- planes with the sizes of edge planes are valid
pub edges_valid : (es : List Plane) → All IsEdgeSized es → All IsValidPlane es
edges_valid es f = λ k d l. edge_valid (f k d l)

-- edge planes within the narrow limit have the sizes of edge planes
pub edges_sized_within : (es : List Plane) → All (IsEdgeWithin narrow_limit) es → All IsEdgeSized es
edges_sized_within es f = λ k d l. edge_sized_within (f k d l)
