-- The path law: at clear points all axes count alike, and the crossings of the segment between two
-- of them tell the difference
use Rattle.std.specs.Prelude.{◌≡◌, ℤ, pos, ◌<ℤ◌, ◌≤ℤ◌, List, false}
use Rattle.std.specs.List.{AllByRecursion}
use Rattle.ember_model.specs.declared.point.Spot.{Spot}
use Rattle.ember_model.specs.declared.point.Axis.{Axis}
use Rattle.ember_model.specs.declared.tri.Tri.{Tri}
use Rattle.ember_model.specs.declared.face.Face.{Face}
use Rattle.ember_model.specs.Points.{scaled, plus_s, DifferAlong}
use Rattle.ember_model.specs.Faces.{is_in_closed}
use Rattle.ember_model.specs.Clear.{AreClear}
use Rattle.ember_model.specs.Meshes.{faces_of, vector}
use Rattle.ember_law.specs.Counts.{added, leg_vector}

-- at a clear point the vector is the same along all axes
abbrev pub AxesAgree : List Tri → Type 0
AxesAgree ts = (p : Spot) (a b : Axis) → pos 0 <ℤ p.w → AreClear (faces_of ts) p → vector a ts p ≡ vector b ts p

-- of two clear points that differ at most in one coordinate, the vector at the first is that at the
-- second with the crossings of the segment from the first to the second
abbrev pub SegmentsGiveDifference : List Tri → Type 0
SegmentsGiveDifference ts =
    (a b : Axis) (p q : Spot) → pos 0 <ℤ p.w → pos 0 <ℤ q.w → DifferAlong a p q → AreClear (faces_of ts) p → AreClear
    (faces_of ts) q → vector b ts p ≡ added (vector b ts q) (leg_vector ts p q)

-- no point of the segment from p to q lies in the closed face
abbrev pub MissesFace : Spot → Spot → Face → Type 0
MissesFace p q f =
    (k m : ℤ) → pos 0 ≤ℤ k → pos 0 ≤ℤ m → is_in_closed f (plus_s (scaled k p) (scaled m q)) ≡ false

-- two clear points whose segment meets no face have one vector
abbrev pub ClearSegmentsKeepVectors : List Tri → Type 0
ClearSegmentsKeepVectors ts =
    (a b : Axis) (p q : Spot) → pos 0 <ℤ p.w → pos 0 <ℤ q.w → AreClear (faces_of ts) p → AreClear
    (faces_of ts) q → AllByRecursion (MissesFace p q) (faces_of ts) → vector a ts p ≡ vector b ts q
