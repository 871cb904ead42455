use Rattle.ember_model.specs.Limits.{broad_limit}
use Rattle.ember_width.specs.Laws.{broad_planes}
use Rattle.ember_width.proofs.TakenPlanes.{edges_taken}
use Rattle.ember_geometry_tests.proofs.broad_polygons.clipped_in_a_draft.Goals as goal

pub begin-requires-clause-sized : goal.begin-requires-clause-sized
begin-requires-clause-sized c =
    edges_taken broad_planes _ (c.main_edges.ensures.within broad_limit c.requires.tri)
