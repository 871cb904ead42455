-- What of a triangle's face belongs to a box, and the regions into which the near triangles cut it
use Rattle.std.specs.Prelude.{◌≡◌, ℕ, nat_eq, Bool, true, false, ℤ, List, [], ◌∷◌, map, flat_map, length}
use Rattle.std.specs.List.{range_with_len}
use Rattle.ember_algebra.specs.Relations.{Each, Chain}
use Rattle.ember_algebra.specs.Sign.{is_positive, is_zero}
use Rattle.ember_model.specs.declared.tri.Tri.{Tri}
use Rattle.ember_model.specs.declared.plane.Plane.{Plane}
use Rattle.ember_model.specs.declared.face.Face.{Face}
use Rattle.ember_model.specs.declared.point.Axis.{Axis}
use Rattle.ember_model.specs.declared.point.Axis.TheVariants.{X, Y, Z}
use Rattle.ember_model.specs.Planes.{unit, value_at, support_of, opposite}
use Rattle.ember_model.specs.Faces.{is_flat, face_of, edges_of, Everywhere, Cuts, Meets, below, above}
use Rattle.ember_model.specs.Owners.{is_coplanar}
use Rattle.ember_box.specs.Boxes.{Cell, low, high}
use Rattle.ember_box.specs.Near.{tri_at}

-- ---- start
-- the plane through the points with this coordinate along an axis
abbrev pub level : Axis → ℤ → Plane
level k h = record { a = (unit k).x; b = (unit k).y; c = (unit k).z; d = h }

-- a plane that is negative in the box
pub record Wall : Type 0 where
  pub plane : Plane
  pub is_high : Bool

-- the wall at the least coordinate along an axis
abbrev pub low_wall : Cell → Axis → Wall
low_wall c k = record { plane = opposite (level k (low c k)); is_high = false }

-- the wall at which the box ends along an axis
abbrev pub high_wall : Cell → Axis → Wall
high_wall c k = record { plane = level k (high c k); is_high = true }

-- the six walls of a box
abbrev pub walls : Cell → List Wall
walls c = flat_map (λ k. low_wall c k ∷ high_wall c k ∷ []) (X ∷ Y ∷ Z ∷ [])

-- each inside point of the face is above the plane
abbrev pub FaceIsAbove : Face → Plane → Type 0
FaceIsAbove f p = Everywhere f (λ v. is_positive (value_at p v) ≡ true)

-- each inside point of the face is on the plane
abbrev pub FaceLiesOn : Face → Plane → Type 0
FaceLiesOn f p = Everywhere f (λ v. is_zero (value_at p v) ≡ true)

-- what a wall leaves of a face. A box doesn't contain its high walls: a face in the plane of one
-- belongs to the box beyond it (`in_high`)
pub data AreLeftByWall (w : Wall) (f : Face) : List Face → Type 0 where
  cut : Cuts f w.plane → AreLeftByWall w f (below f w.plane ∷ [])
  outside : FaceIsAbove f w.plane → AreLeftByWall w f []
  in_high : w.is_high ≡ true → FaceLiesOn f w.plane → AreLeftByWall w f []
  stays : (Cuts f w.plane → ⊥) → (FaceIsAbove f w.plane → ⊥) → (w.is_high ≡ true → FaceLiesOn f w.plane → ⊥) →
      AreLeftByWall w f (f ∷ [])

-- the start of a triangle in a box: one face, or none
abbrev pub IsStart : Cell → Tri → List Face → Type 0
IsStart c t fs =
    Chain (λ w. Each (AreLeftByWall w)) (walls c) (elim (is_flat t) [ true ↦ [] | false ↦ face_of t ∷ [] ]) fs

-- ---- regions
-- a plane that cuts what meets the face
pub record CuttingPlane : Type 0 where
  pub face : Face
  pub plane : Plane

-- the cutting planes that u has for the regions of t
abbrev pub cutting_planes_of : Tri → Tri → List CuttingPlane
cutting_planes_of t u =
    elim (is_flat u) [
      | true ↦ []
      | false ↦ map (λ p. record { face = face_of u; plane = p })
          (elim (is_coplanar t u) [ true ↦ edges_of u | false ↦ support_of u ∷ [] ])
    ]

-- what a cutting plane leaves of a face
pub data AreLeftByCuttingPlane (b : CuttingPlane) (f : Face) : List Face → Type 0 where
  splits : Meets f b.face → Cuts f b.plane → AreLeftByCuttingPlane b f (below f b.plane ∷ above f b.plane ∷ [])
  whole : (Meets f b.face → Cuts f b.plane → ⊥) → AreLeftByCuttingPlane b f (f ∷ [])

-- the cutting planes that triangle j of a leaf with these near triangles has for triangle i: none if they are
-- the same
abbrev pub cutting_planes_at : List Tri → ℕ → ℕ → List CuttingPlane
cutting_planes_at ts i j = elim (nat_eq j i) [ true ↦ [] | false ↦ cutting_planes_of (tri_at ts i) (tri_at ts j) ]

-- the cutting planes for triangle i: those of all other near triangles, in order
abbrev pub cutting_planes : List Tri → ℕ → List CuttingPlane
cutting_planes ts i = flat_map (λ j. cutting_planes_at ts i j) (range_with_len 0 (length ts))

-- the regions of triangle i in a box whose near triangles are these
pub record IsRegions (c : Cell) (ts : List Tri) (i : ℕ) (fs : List Face) : Type 0 where
  pub start : List Face
  pub is_start : IsStart c (tri_at ts i) start
  pub cuts : Chain (λ b. Each (AreLeftByCuttingPlane b)) (cutting_planes ts i) start fs
