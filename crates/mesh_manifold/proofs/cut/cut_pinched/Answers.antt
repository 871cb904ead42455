use Rattle.std.proofs.Common.{ap, map, ◌∙◌}
use Rattle.mesh_manifold.specs.Cuts.{plane_of}
use Rattle.mesh_manifold.proofs.Cuts.{mesh_is_cut}
use Rattle.mesh_manifold.proofs.cut.cut_pinched.Goals as goal

pub returns : goal.returns
returns c = λ ts is.
    mesh_is_cut c.in_ok-edges.edges.edges.keys c.args.planes.now ts c.vertices-vertices.result.now c.triangles.result.now _
    (c.vertices-vertices.ensures ts is) (c.triangles.ensures ts is) c.in_ok-mesh.ensures.mesh c.in_ok-mesh.ensures.origins
    (c.in_ok-planes.ensures ∙ ap (map (plane_of c.args.planes.now)) c.deref.ensures.value)
