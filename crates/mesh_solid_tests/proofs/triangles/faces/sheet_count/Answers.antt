use Rattle.std.proofs.Common.{[], ◌∷◌}
use Rattle.std.proofs.lemmas.List.Elements.{All-cons, All-nil}
use Rattle.ember_width.specs.Broad.{IsBroadPlane}
use Rattle.mesh_solid_tests.proofs.triangles.faces.sheet_count.Goals as goal

pub count_of-requires : goal.count_of-requires
count_of-requires c =
    All-cons IsBroadPlane c.plane.result (c.plane-2.result ∷ []) c.plane.ensures.broad
    (All-cons IsBroadPlane c.plane-2.result [] c.plane-2.ensures.broad (All-nil IsBroadPlane))
