-- What planes leave of the chord between two points
use Rattle.std.specs.Prelude.{◌≡◌, ◌≢◌, ◌⊎◌, true, List, ℤ, pos, ◌+ℤ◌, ◌*ℤ◌, ◌<ℤ◌, ◌≤ℤ◌, ⊤}
use Rattle.ember_model.specs.declared.plane.Plane.{Plane}
use Rattle.ember_model.specs.declared.point.Spot.{Spot}
use Rattle.ember_model.specs.declared.tri.Tri.{Tri}
use Rattle.ember_model.specs.Planes.{value_at}
use Rattle.ember_model.specs.declared.face.Face.{Face}
use Rattle.ember_model.specs.Faces.{Somewhere, Cuts, Meets as MeetsFace}
use Rattle.ember_model.specs.Owners.{spot_of_corner}
use Rattle.ember_model.specs.ClearTest.{face_with, none_positive}
use Rattle.ember_poly.specs.declared.reach_and_cut.Reach.TheVariants as reach
use Rattle.ember_poly.specs.declared.meeting.Crossing.{Crossing}
use Rattle.ember_poly.specs.declared.meeting.Crossing.TheVariants as crossing
use Rattle.ember_poly.specs.declared.meeting.Overlap.{Overlap}
use Rattle.ember_poly.specs.declared.meeting.Overlap.TheVariants as overlap
use Rattle.ember_poly.specs.declared.meeting.ChordPart.{ChordPart}
use Rattle.ember_poly.specs.declared.meeting.ChordPart.TheVariants.{Whole, Split, Empty}
use Rattle.ember_poly.specs.Cuts.{IsReach}
use Rattle.ember_poly.specs.Rings.{IsBelow, IsAbove, orientation, IsMeet}

-- of a plane with these values at the two points: it is positive at no point between them, at some, or at all
abbrev pub IsChordPart : ℤ → ℤ → ChordPart → Type 0
IsChordPart a b Whole = (a ≤ℤ pos 0) × (b ≤ℤ pos 0)
IsChordPart a b Split = ((pos 0 <ℤ a) × (b <ℤ pos 0)) ⊎ ((a <ℤ pos 0) × (pos 0 <ℤ b))
IsChordPart a b Empty = ((pos 0 <ℤ a) × (pos 0 ≤ℤ b)) ⊎ ((pos 0 ≤ℤ a) × (pos 0 <ℤ b))

-- i u + j v: a point of the line through u and v
abbrev pub combination : ℤ → ℤ → Spot → Spot → Spot
combination i j u v =
    record { x = i *ℤ u.x +ℤ j *ℤ v.x; y = i *ℤ u.y +ℤ j *ℤ v.y; z = i *ℤ u.z +ℤ j *ℤ v.z; w = i *ℤ u.w +ℤ j *ℤ v.w }

-- some point strictly between y and z is above no plane of the list
pub record IsOpen (hs : List Plane) (y z : Spot) : Type 0 where
  pub i : ℤ
  pub j : ℤ
  pub from_y : pos 0 <ℤ i
  pub from_z : pos 0 <ℤ j
  pub free : none_positive hs (combination i j y z) ≡ true

-- the three planes meet in a point that is above no plane of the list
pub record HasVertexWithin (n p h : Plane) (hs : List Plane) : Type 0 where
  pub turns : orientation n p h ≢ pos 0
  pub at : Spot
  pub meets : IsMeet n p h at
  pub free : none_positive hs at ≡ true

-- y and z are points of the line in which n and p meet. `turns`: n and p aren't parallel, since with some plane
-- `across` their determinant isn't 0; `across` cuts the line in one point
pub record IsLine (n p : Plane) (y z : Spot) : Type 0 where
  pub flat_y : value_at n y ≡ pos 0
  pub flat_z : value_at n z ≡ pos 0
  pub on_y : value_at p y ≡ pos 0
  pub on_z : value_at p z ≡ pos 0
  pub weight_y : pos 0 <ℤ y.w
  pub weight_z : pos 0 <ℤ z.w
  pub across : Plane
  pub turns : orientation n p across ≢ pos 0

-- the triangle lies strictly on one side of the plane
abbrev pub IsOnOneSide : Plane → Tri → Type 0
IsOnOneSide p t =
    (IsAbove p (spot_of_corner t.a) × IsAbove p (spot_of_corner t.b) × IsAbove p (spot_of_corner t.c)) ⊎
    (IsBelow p (spot_of_corner t.a) × IsBelow p (spot_of_corner t.b) × IsBelow p (spot_of_corner t.c))

-- the plane cuts f, and y and z are the ends of what it has in f
pub record IsChord (f : Face) (p : Plane) (y z : Spot) : Type 0 where
  pub cuts : Cuts f p
  pub line : IsLine f.support p y z
  pub meets : (hs : List Plane) → IsOpen hs y z → MeetsFace f (face_with p hs)
  pub opens : (hs : List Plane) → MeetsFace f (face_with p hs) → IsOpen hs y z

-- on which sides of the plane f lies, and the chord if the plane cuts it
abbrev pub IsCrossing : {W M : Type 0} → (M → Spot) → Face → Plane → Crossing W M → Type 0
IsCrossing spot f p crossing.Below = IsReach f p reach.Below
IsCrossing spot f p crossing.Above = IsReach f p reach.Above
IsCrossing spot f p crossing.On = IsReach f p reach.On
IsCrossing spot f p (crossing.Along y z) = IsChord f p (spot y) (spot z)

-- whether f has an inside point above none of the planes, as far as it is known
abbrev pub IsOverlap : Face → List Plane → Overlap → Type 0
IsOverlap f hs overlap.Apart = Somewhere f (λ v. none_positive hs v ≡ true) → ⊥
IsOverlap f hs overlap.Met = Somewhere f (λ v. none_positive hs v ≡ true)
IsOverlap f hs overlap.Unknown = ⊤
