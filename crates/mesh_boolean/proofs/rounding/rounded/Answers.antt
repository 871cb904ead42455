use Rattle.std.proofs.Common.{List, subst}
use Rattle.std.proofs.lemmas.Result.{IfOk-weaker, IfErr-weaker}
use Rattle.mesh_point.specs.declared.space_point.SpacePoint.{SpacePoint}
use Rattle.mesh_written.specs.Floats.{IsFloatFault}
use Rattle.mesh_boolean.proofs.Outputs.{corners_are_there, mesh_is_rounded}
use Rattle.mesh_boolean.proofs.rounding.rounded.Goals as goal

pub float_triangles-requires-clause-corners : goal.float_triangles-requires-clause-corners
float_triangles-requires-clause-corners c =
    corners_are_there c.args.mesh.now.planes.items c.deref-2.ensures.value c.deref-3.ensures.value c.requires.proper

pub returns-clause-rounded : goal.returns-clause-rounded
returns-clause-rounded c =
    IfOk-weaker c.float_triangles.result _ _ (λ written h. mesh_is_rounded c.args.grid.now c.args.mesh.now written.items
    c.deref.ensures.value c.deref-2.ensures.value c.deref-3.ensures.value h) c.float_triangles.ensures.written

pub returns-clause-fault : goal.returns-clause-fault
returns-clause-fault c =
    let g = c.args.grid.now in
    IfErr-weaker c.float_triangles.result _ _ (λ cause h. subst
    (λ (cs : List SpacePoint). IsFloatFault g.step g.offset cs cause) c.deref-2.ensures.value h)
    c.float_triangles.ensures.fault
