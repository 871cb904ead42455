-- The corner of three planes of the broad grid, by their meet in lowest terms.
use Rattle.std.proofs.Common.{◌≡◌, ◌≢◌, inr, pos, subst, Option, Some, None, MatchOption}
use Rattle.ember_model.specs.declared.plane.Plane.{Plane}
use Rattle.ember_model.specs.declared.point.Spot.{Spot}
use Rattle.ember_model.specs.Edges.{SamePoint}
use Rattle.ember_point.specs.Points.{weight, meet_of}
use Rattle.mesh_broad.specs.Reduced.{IsReduced, IsBeyondReach}
use Rattle.mesh_point.specs.declared.space_point.SpacePoint.{SpacePoint}
use Rattle.mesh_point.specs.SpacePoints.{spot_of}
use Rattle.mesh_solid.specs.Tables.Tables.{IsCorner, HasNoCorner}

module _ (p q r : Plane) (u : Spot) (one : weight p q r ≢ pos 0) (e : u ≡ meet_of p q r) where
  lowest_is_corner : (v : Spot) → IsReduced u v → IsCorner p q r v
  lowest_is_corner v is =
      record { one = one; same = subst (λ (s : Spot). SamePoint s v) e is.same; lowest = is.lowest }

  -- what is found for the meet is the corner
  pub corner_found : (found : Option SpacePoint) → MatchOption found (IsBeyondReach u) (λ c. IsReduced u (spot_of c)) →
      MatchOption found (HasNoCorner p q r) (λ c. IsCorner p q r (spot_of c))
  corner_found (Some c) is = lowest_is_corner (spot_of c) is
  corner_found None far = inr (far.point, lowest_is_corner far.point far.is, far.far)
