-- The faces of outlines in memory, on any grid
use Rattle.std.specs.Prelude.{◌≡◌, ◌≤◌, List, length}
use Rattle.std.specs.List.{AllByRecursion, AllZip}
use Rattle.ember_model.specs.declared.point.Spot.{Spot}
use Rattle.ember_model.specs.declared.face.Face.{Face}
use Rattle.ember_model.specs.Edges.{RingEdge, IsOutline}
use Rattle.ember_width.specs.declared.width.Width.{Ghosts}
use Rattle.ember_poly.specs.Outlines.{face_of_edges}

-- the corner is one of the grid's points
pub record IsPointOf {W M : Type 0} (G : Ghosts W M) (v : Spot) : Type 0 where
  pub point : M
  pub is : v ≡ G.spot point

-- an edge whose plane can be computed with on the grid, and whose start corner is one of its points
pub record IsEdgeOf {W M : Type 0} (G : Ghosts W M) (e : RingEdge) : Type 0 where
  pub plane : G.IsPlane e.plane
  pub start : IsPointOf G e.start

-- g is the face of an outline of f: its support plane, and the planes of the outline in order. All are of the grid
pub record IsOutlineFace {W M : Type 0} (G : Ghosts W M) (f g : Face) : Type 0 where
  pub outline : List RingEdge
  pub is_outline : IsOutline f outline
  pub edges : AllByRecursion (IsEdgeOf G) outline
  pub at_least_three : 3 ≤ length outline
  pub support : G.IsPlane f.support
  pub is : g ≡ face_of_edges f.support outline

-- the faces of outlines of these faces, in order
abbrev pub AreOutlineFaces : {W M : Type 0} → Ghosts W M → List Face → List Face → Type 0
AreOutlineFaces G fs gs = AllZip (IsOutlineFace G) fs gs
