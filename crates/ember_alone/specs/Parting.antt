-- A test that shows of most triangles which conform that they do: two planes of one face part the triangles
use Rattle.std.specs.Prelude.{ℤ, Bool, not, ◌&&◌, ◌||◌, List, ◌∷◌, map}
use Rattle.std.specs.List.{list_any}
use Rattle.ember_algebra.specs.Sign.{is_zero, is_positive}
use Rattle.ember_model.specs.declared.point.Corner.{Corner}
use Rattle.ember_model.specs.declared.plane.Plane.{Plane}
use Rattle.ember_model.specs.declared.tri.Tri.{Tri}
use Rattle.ember_model.specs.Planes.{support_of, opposite}
use Rattle.ember_model.specs.Faces.{is_flat, edges_of}
use Rattle.ember_model.specs.Meshes.{same_corner}
use Rattle.ember_alone.specs.declared.corners.CommonCorners.{CommonCorners}
use Rattle.ember_width.specs.declared.heights.Heights.{Heights}
use Rattle.ember_width.specs.Heights.{heights_of}

-- ---- the corners of a triangle
-- c is a corner of the triangle
abbrev pub has_corner : Tri → Corner → Bool
has_corner t c = same_corner c t.a || (same_corner c t.b || same_corner c t.c)

-- which corners of u are corners of t too
abbrev pub common_corners : Tri → Tri → CommonCorners
common_corners t u = record { a = has_corner t u.a; b = has_corner t u.b; c = has_corner t u.c }

-- ---- beyond two planes
-- a corner with these heights over two planes lies in front of the first; or on it and in front of the second; or on
-- both, and it is common
abbrev pub is_beyond : ℤ → ℤ → Bool → Bool
is_beyond first second common =
    is_positive first || (is_zero first && (is_positive second || (is_zero second && common)))

-- some corner lies in front of the plane
abbrev pub is_some_in_front : Heights → Bool
is_some_in_front v = is_positive v.a || (is_positive v.b || is_positive v.c)

-- each corner lies beyond the two planes, and some in front of one of them
abbrev pub are_beyond : Heights → Heights → CommonCorners → Bool
are_beyond v w common =
    (is_beyond v.a w.a common.a && (is_beyond v.b w.b common.b && is_beyond v.c w.c common.c)) &&
    (is_some_in_front v || is_some_in_front w)

-- ---- two triangles
-- planes that have no point of t's closed face in front
abbrev pub planes_of : Tri → List Plane
planes_of t = support_of t ∷ opposite (support_of t) ∷ edges_of t

-- the heights of u over them
abbrev pub heights_over : Tri → Tri → List Heights
heights_over t u = map (λ p. heights_of p u) (planes_of t)

-- the corners lie beyond two of the planes, which may be one
abbrev pub are_beyond_some : List Heights → CommonCorners → Bool
are_beyond_some vs common = list_any (λ v. list_any (λ w. are_beyond v w common) vs) vs

-- u lies beyond two planes of t's face
abbrev pub is_parted : Tri → Tri → Bool
is_parted t u = are_beyond_some (heights_over t u) (common_corners t u)

-- neither triangle is flat, and neither lies beyond two planes of the other's face
abbrev pub may_touch : Tri → Tri → Bool
may_touch t u = not (is_flat t) && (not (is_flat u) && (not (is_parted t u) && not (is_parted u t)))
