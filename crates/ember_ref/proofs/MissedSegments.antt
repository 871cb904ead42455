-- A triangle whose bounding box lies beside the segment between the reference points of a box and its right
-- half isn't crossed there.
use Rattle.std.proofs.Common.{◌≡◌, ℕ, ◌<◌, refl, ap, ◌∙◌, Bool, true, false, ◌&&◌, pos}
use Rattle.ember_model.specs.declared.tri.Tri.{Tri}
use Rattle.ember_model.specs.declared.point.Axis.{Axis}
use Rattle.ember_model.specs.declared.point.Axis.TheVariants.{X, Y, Z}
use Rattle.ember_model.specs.Faces.{face_of, leg}
use Rattle.ember_model.specs.Planes.{support_of}
use Rattle.ember_box.specs.declared.aabb.Aabb.{Aabb}
use Rattle.ember_box.specs.Boxes.{Cell, right_half}
use Rattle.ember_box.specs.Near.{is_near}
use Rattle.ember_box.specs.Reference.{reference_beside}
use Rattle.ember_box.specs.Aabbs.{aabb_of_cell, aabb_of_tri, intervals_meet, aabbs_meet, aabbs_meet_beside, crosses}
use Rattle.ember_box.proofs.NearByAabbs.{near_is}
use Rattle.ember_ref.specs.Segments.{column}
use Rattle.ember_ref.specs.ClosedBoxes.{HasPoint}
use Rattle.ember_ref.proofs.BoxPoints.{has_beside, has_half_beside}
use Rattle.ember_ref.proofs.FarTriangles.{leg_far}

-- both reference points lie in the column
has_start : (f : ℕ) (c : Cell) (k : Axis) → 0 < f → HasPoint (column c k) (reference_beside f c.lo)
has_start f c k above = has_beside f (column c k) above

has_end : (f : ℕ) (c : Cell) (k : Axis) → 0 < f → 0 < c.log k → HasPoint (column c k) (reference_beside f (right_half c k).lo)
has_end f c X above l = has_half_beside f (column c X) X above l
has_end f c Y above l = has_half_beside f (column c Y) Y above l
has_end f c Z above l = has_half_beside f (column c Z) Z above l

-- what lies beside something has no point in common with it
apart : (k : Axis) (a b : Aabb) → aabbs_meet_beside k a b ≡ false → aabbs_meet a b ≡ false
apart X a b e = last (intervals_meet a.x b.x) (intervals_meet a.y b.y) (intervals_meet a.z b.z) e
  where
    last : (x y z : Bool) → y && z ≡ false → x && y && z ≡ false
    last false y z e = refl
    last true y z e = e
apart Y a b e = outer (intervals_meet a.x b.x) (intervals_meet a.y b.y) (intervals_meet a.z b.z) e
  where
    outer : (x y z : Bool) → x && z ≡ false → x && y && z ≡ false
    outer false y z e = refl
    outer true false z e = refl
    outer true true z e = e
apart Z a b e = ap (λ c. c && intervals_meet a.z b.z) e

-- the segment between two reference points doesn't cross a triangle whose bounding box lies beside the column
pub leg_missed : (f : ℕ) (c : Cell) (k : Axis) (along : Axis) (t : Tri) → 0 < f → 0 < c.log k →
    aabbs_meet_beside along (aabb_of_tri t) (aabb_of_cell (column c k)) ≡ false →
    leg (face_of t) (reference_beside f (right_half c k).lo) (reference_beside f c.lo) ≡ pos 0
leg_missed f c k along t above l e =
    let far : is_near (column c k) t ≡ false = near_is (column c k) t
    ∙ ap (λ b. b && crosses (support_of t) (aabb_of_cell (column c k)))
    (apart along (aabb_of_tri t) (aabb_of_cell (column c k)) e) in
    leg_far (column c k) t (reference_beside f (right_half c k).lo) (reference_beside f c.lo) (has_end f c k above l)
    (has_start f c k above) far
