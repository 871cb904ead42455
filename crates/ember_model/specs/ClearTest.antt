-- The test that decides whether a point is clear of a face
use Rattle.std.specs.Prelude.{neg_ℤ, ◌*ℤ◌, Bool, true, not, ◌&&◌, ◌||◌, if◌then◌else◌, List}
use Rattle.std.specs.List.{list_all, list_any}
use Rattle.ember_algebra.specs.Sign.{is_negative, is_zero, is_positive}
use Rattle.ember_model.specs.declared.tri.Tri.{Tri}
use Rattle.ember_model.specs.declared.plane.Plane.{Plane}
use Rattle.ember_model.specs.declared.point.Spot.{Spot}
use Rattle.ember_model.specs.declared.point.Axis.{Axis}
use Rattle.ember_model.specs.declared.point.Axis.TheVariants.{X, Y, Z}
use Rattle.ember_model.specs.declared.face.Face.{Face}
use Rattle.ember_model.specs.Planes.{value_at, along}
use Rattle.ember_model.specs.Points.{scaled, moved}
use Rattle.ember_model.specs.Faces.{is_in_closed, is_flat, face_of, hit}

-- the values of the planes at a point: none is above 0, all are below 0
abbrev pub none_positive : List Plane → Spot → Bool
none_positive es x = list_all (λ e. not (is_positive (value_at e x))) es

abbrev pub all_negative : List Plane → Spot → Bool
all_negative es x = list_all (λ e. is_negative (value_at e x)) es

-- the point at which the line through p along a meets the plane h
abbrev pub entry_point : Plane → Axis → Spot → Spot
entry_point h a p = moved (scaled (neg_ℤ (along h a)) p) a (value_at h p)

-- the ray passes from the front of h to its back at a point where no plane of the list is positive
abbrev pub is_entry : List Plane → Axis → Spot → Plane → Bool
is_entry es a p h = is_negative (along h a) && (is_positive (value_at h p) && none_positive es (entry_point h a p))

-- a ray inside the support plane meets the closed face: it does so at the first point where it enters through an edge
abbrev pub enters : List Plane → Axis → Spot → Bool
enters es a p = list_any (is_entry es a p) es

-- whether the ray from p along a meets no boundary point of the face, if p isn't in the closed face
abbrev pub is_ray_clear : Face → Axis → Spot → Bool
is_ray_clear f a p =
    if is_zero (along f.support a) then (if is_zero (value_at f.support p) then not (enters f.edges a p) else true)
    else (if is_negative (value_at f.support p *ℤ along f.support a) && none_positive f.edges (hit f.support a p)
    then all_negative f.edges (hit f.support a p) else true)

-- whether the point is clear of the face
abbrev pub is_clear : Face → Spot → Bool
is_clear f p = not (is_in_closed f p) && (is_ray_clear f X p && (is_ray_clear f Y p && is_ray_clear f Z p))

-- whether the point is clear of the triangle
abbrev pub is_clear_of : Tri → Spot → Bool
is_clear_of t p = is_flat t || is_clear (face_of t) p

-- the face with this support plane and these edge planes
abbrev pub face_with : Plane → List Plane → Face
face_with n es = record { support = n; edges = es }
