-- Faces: a support plane and edge planes. Inside points, the closed face, crossings
use Rattle.std.specs.Prelude.{◌≡◌, ℤ, pos, neg_ℤ, ◌*ℤ◌, Bool, true, not, ◌&&◌, if◌then◌else◌, List, []}
use Rattle.std.specs.Prelude.{◌∷◌, ◌++◌, unsigned_abs}
use Rattle.std.specs.List.{list_all}
use Rattle.ember_algebra.specs.Sign.{sign, is_negative, is_zero, is_positive}
use Rattle.ember_model.specs.declared.tri.Tri.{Tri}
use Rattle.ember_model.specs.declared.plane.Plane.{Plane}
use Rattle.ember_model.specs.declared.point.Spot.{Spot}
use Rattle.ember_model.specs.declared.point.Axis.{Axis}
use Rattle.ember_model.specs.declared.face.Face.{Face}
use Rattle.ember_model.specs.Planes.{value_at, along, support_of, edge_planes, main_axis, opposite}
use Rattle.ember_model.specs.Points.{scaled, moved, plus_s}

-- the absolute value
abbrev pub size : ℤ → ℤ
size z = pos (unsigned_abs z)

-- the point v lies on the support plane and on the negative side of each edge plane
abbrev pub is_inside : Face → Spot → Bool
is_inside f v =
    is_positive v.w && (is_zero (value_at f.support v) && list_all (λ e. is_negative (value_at e v)) f.edges)

-- the point v lies on the support plane and on the positive side of no edge plane
abbrev pub is_in_closed : Face → Spot → Bool
is_in_closed f v =
    is_positive v.w && (is_zero (value_at f.support v) && list_all (λ e. not (is_positive (value_at e v))) f.edges)

-- some inside point of f has the property
pub record Somewhere (f : Face) (P : Spot → Type 0) : Type 0 where
  pub at : Spot
  pub inside : is_inside f at ≡ true
  pub holds : P at

-- each inside point of f has it
pub record Everywhere (f : Face) (P : Spot → Type 0) : Type 0 where
  pub holds : (v : Spot) → is_inside f v ≡ true → P v

-- ---- the face of a triangle
-- the edge planes of a triangle parallel to its main axis
abbrev pub edges_of : Tri → List Plane
edges_of t = edge_planes t (main_axis (support_of t))

-- the normal is zero: such a triangle has no face
unfoldable pub is_flat : Tri → Bool
is_flat t =
    let n = support_of t in is_zero n.a && (is_zero n.b && is_zero n.c)

-- of a triangle that is not flat
unfoldable pub face_of : Tri → Face
face_of t = record { support = support_of t; edges = edges_of t }

-- ---- rays
-- the point at which the line through p along a meets the support plane
abbrev pub hit : Plane → Axis → Spot → Spot
hit n a p = moved (scaled (size (along n a)) p) a (neg_ℤ (sign (along n a) *ℤ value_at n p))

-- the signed crossing of the ray from p along a with the inside of the face
unfoldable pub crossing : Face → Axis → Spot → ℤ
crossing f a p =
    if is_negative (value_at f.support p *ℤ along f.support a) && is_inside f (hit f.support a p)
    then sign (along f.support a) else pos 0

-- ---- segments
-- the point at which the segment from p to q meets the support plane
abbrev pub between : Plane → Spot → Spot → Spot
between n p q = plus_s (scaled (size (value_at n q)) p) (scaled (size (value_at n p)) q)

-- the signed crossing of the segment from p to q: 1 if the segment from p to q leaves through the front
unfoldable pub leg : Face → Spot → Spot → ℤ
leg f p q =
    if is_negative (value_at f.support p *ℤ value_at f.support q) && is_inside f (between f.support p q)
    then sign (value_at f.support q) else pos 0

-- ---- cuts
-- the parts of f below and above a plane, and the same face with the opposite front
abbrev pub below : Face → Plane → Face
below f p = record { support = f.support; edges = f.edges ++ p ∷ [] }

abbrev pub above : Face → Plane → Face
above f p = below f (opposite p)

abbrev pub flipped_face : Face → Face
flipped_face f = record { support = opposite f.support; edges = f.edges }

-- inside points of f lie strictly on both sides of p
pub record Cuts (f : Face) (p : Plane) : Type 0 where
  pub some_below : Somewhere f (λ v. is_negative (value_at p v) ≡ true)
  pub some_above : Somewhere f (λ v. is_positive (value_at p v) ≡ true)

-- some inside point of f lies in the closed face g
abbrev pub Meets : Face → Face → Type 0
Meets f g = Somewhere f (λ v. is_in_closed g v ≡ true)

-- each inside point of f is an inside point of g
abbrev pub Contains : Face → Face → Type 0
Contains g f = Everywhere f (λ v. is_inside g v ≡ true)
