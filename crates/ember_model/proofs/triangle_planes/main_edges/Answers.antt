use Rattle.std.proofs.Common.{[], ◌∷◌}
use Rattle.ember_model.specs.Limits.{narrow_limit}
use Rattle.ember_model.proofs.PlaneSizes.{three_within, edges_sized_within, edges_valid}
use Rattle.ember_model.proofs.triangle_planes.main_edges.Goals as goal

pub returns-clause-within : goal.returns-clause-within
returns-clause-within c m v =
    three_within (c.side_plane.ensures.within m v.a v.b) (c.side_plane-2.ensures.within m v.b v.c) (c.side_plane-3.ensures.within m v.c v.a)

pub returns-clause-valid : goal.returns-clause-valid
returns-clause-valid c v =
    let edges = c.side_plane.result ∷ c.side_plane-2.result ∷ c.side_plane-3.result ∷ [] in
    edges_valid edges (edges_sized_within edges (returns-clause-within c narrow_limit v))
