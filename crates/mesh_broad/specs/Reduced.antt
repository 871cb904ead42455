-- Points in lowest terms
use Rattle.ember_model.specs.declared.point.Spot.{Spot}
use Rattle.ember_model.specs.Edges.{SamePoint}
use Rattle.ember_model.specs.FaceFiles.{IsLowest}
use Rattle.mesh_point.specs.SpacePoints.{IsInReach}

-- v is the point u in lowest terms
pub record IsReduced (u v : Spot) : Type 0 where
  pub same : SamePoint u v
  pub lowest : IsLowest v

-- the point u in lowest terms is out of the reach of corners
pub record IsBeyondReach (u : Spot) : Type 0 where
  pub point : Spot
  pub is : IsReduced u point
  pub far : IsInReach point → ⊥
