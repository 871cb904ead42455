use Rattle.std.proofs.Common.{[], ◌∷◌}
use Rattle.std.proofs.lemmas.List.Elements.{All-from_recursion}
use Rattle.ember_model.specs.Valid.{IsValidPlane, IsValidTri}
use Rattle.mesh_solid_tests.proofs.triangles.sources.table_sources.Goals as goal

pub sources_of-requires-clause-scene : goal.sources_of-requires-clause-scene
sources_of-requires-clause-scene c =
    All-from_recursion IsValidTri (c.tri.result ∷ c.tri-2.result ∷ c.tri-3.result ∷ c.tri-4.result ∷ c.tri-5.result ∷ c.tri-6.result ∷ [])
    (c.tri.ensures, (c.tri-2.ensures, (c.tri-3.ensures, (c.tri-4.ensures, (c.tri-5.ensures, (c.tri-6.ensures, tt))))))

pub sources_of-requires-clause-planes : goal.sources_of-requires-clause-planes
sources_of-requires-clause-planes c =
    All-from_recursion IsValidPlane (c.plane.result ∷ c.plane-2.result ∷ c.plane-3.result ∷ c.plane-4.result ∷ [])
    (c.plane.ensures.valid, (c.plane-2.ensures.valid, (c.plane-3.ensures.valid, (c.plane-4.ensures.valid, tt))))
