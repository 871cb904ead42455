-- The sides of a plane on which the vertices of a path lie: the path goes from beside the least corner of a
-- box, along one axis after another, to an inside point of a region (src/path.rt)
use Rattle.std.specs.Prelude.{◌≡◌, ℕ, ℤ, pos, ◌*ℤ◌, ◌<ℤ◌, List, [], ◌∷◌, Some, slice_get, slice_index_or}
use Rattle.ember_algebra.specs.declared.Sign.{Sign}
use Rattle.ember_algebra.specs.Sign.{sgn}
use Rattle.ember_model.specs.declared.plane.Plane.{Plane}
use Rattle.ember_model.specs.declared.point.Axis.{Axis}
use Rattle.ember_model.specs.declared.point.Axis.TheVariants.{X, Y, Z}
use Rattle.ember_model.specs.declared.point.Spot.{Spot}
use Rattle.ember_model.specs.declared.face.Face.{Face}
use Rattle.ember_model.specs.Planes.{value_at, main_axis}
use Rattle.ember_point.specs.Points.{slid}
use Rattle.ember_width.specs.declared.width.Width.{Ghosts}
use Rattle.ember_width.specs.RootFloors.{floor_along}
use Rattle.ember_poly.specs.Sides.{AreCorners}
use Rattle.ember_box.specs.Boxes.{Cell}
use Rattle.ember_ref.specs.References.{reference_of_list, or_sign}
use Rattle.ember_trace.specs.declared.path.Path.{Path as PathFields}

-- a path with its corners as points. `lo` is in steps of a grid. The reference point is beside it by 1/fine, and the
-- root reaches half steps to each side
pub record Path : Type 0 where
  pub fine : ℕ
  pub half : ℤ
  pub lo : List ℤ
  pub first_axis : Axis
  pub second_axis : Axis
  pub main : Axis
  pub first_corner : Spot
  pub second_corner : Spot
  pub third_corner : Spot

-- the path that the code keeps
abbrev pub path_of : {W M : Type 0} {G : Ghosts W M} → PathFields W M G → Path
path_of {W} {M} {G} w =
    record {
      fine = G.fine;
      half = pos 2048 *ℤ G.UNIT;
      lo = w.lo;
      first_axis = w.first_axis;
      second_axis = w.second_axis;
      main = w.main;
      first_corner = G.spot w.first_corner;
      second_corner = G.spot w.second_corner;
      third_corner = G.spot w.third_corner;
    }

-- the coordinate of a point along an axis
abbrev pub coordinate : List ℤ → Axis → ℤ
coordinate at X = slice_index_or at 0 (pos 0)
coordinate at Y = slice_index_or at 1 (pos 0)
coordinate at Z = slice_index_or at 2 (pos 0)

-- the side of a plane on which the path's end lies, the point a + h (b - a) + h^2 (c - a) for small h > 0: that
-- of the first of a, b, c that isn't on the plane (src/path.rt)
abbrev pub inside_side : Plane → Spot → Spot → Spot → Sign
inside_side p a b c = or_sign (sgn (value_at p a)) (or_sign (sgn (value_at p b)) (sgn (value_at p c)))

-- the side of a plane on which the path begins: the reference point is on the same side
abbrev pub side_at_start : Path → Plane → Sign
side_at_start w p = sgn (value_at p (reference_of_list w.fine w.lo))

-- the side of a plane on which it ends
abbrev pub side_at_end : Path → Plane → Sign
side_at_end w p = inside_side p w.first_corner w.second_corner w.third_corner

-- the plane with the coordinate along an axis fixed to that of the box's least corner. The start of the path is
-- as close to this corner as it has to be for the sides below (src/path.rt)
abbrev pub slid_to_lo : Path → Axis → Plane → Plane
slid_to_lo w k p = slid p k (coordinate w.lo k)

-- the sides on which the first and the second segment end: there two coordinates are those of the start, or
-- one. If the plane with these fixed to the least corner's is zero at all three corners of the region, it has no
-- entry along the segments up to there, so they end on the side of the start (src/vertices.rt).
abbrev pub side_after_first : Path → Plane → Sign
side_after_first w p =
    or_sign (side_at_end w (slid_to_lo w w.main (slid_to_lo w w.second_axis p))) (side_at_start w p)

abbrev pub side_after_second : Path → Plane → Sign
side_after_second w p = or_sign (side_at_end w (slid_to_lo w w.main p)) (side_at_start w p)

-- the floor of the coordinate of the first corner
abbrev pub floor_at_end : Path → Axis → ℤ
floor_at_end w k = floor_along k w.first_corner

-- the first and the second of the other two axes
abbrev pub first_of : Axis → Axis
first_of X = Y
first_of Y = X
first_of Z = X

abbrev pub second_of : Axis → Axis
second_of X = Z
second_of Y = Z
second_of Z = Y

-- the first two axes of a path are the two other than its main axis, in order
pub record HasAxes (w : Path) : Type 0 where
  pub first : w.first_axis ≡ first_of w.main
  pub second : w.second_axis ≡ second_of w.main

-- the path to the region from beside the least corner of the box in steps, by shifts of 1/f
pub record IsPathTo (f : ℕ) (c : Cell) (r : Face) (w : Path) : Type 0 where
  pub fine : w.fine ≡ f
  pub lo : w.lo ≡ c.lo.x ∷ c.lo.y ∷ c.lo.z ∷ []
  pub main : w.main ≡ main_axis r.support
  pub first : w.first_axis ≡ first_of (main_axis r.support)
  pub second : w.second_axis ≡ second_of (main_axis r.support)
  pub corners : List Spot
  pub are_corners : AreCorners (λ v. v) r corners
  pub weight : pos 0 <ℤ w.first_corner.w
  pub first_corner : slice_get corners 0 ≡ Some w.first_corner
  pub second_corner : slice_get corners 1 ≡ Some w.second_corner
  pub third_corner : slice_get corners 2 ≡ Some w.third_corner
