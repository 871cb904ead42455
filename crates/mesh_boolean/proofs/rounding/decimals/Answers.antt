use Rattle.std.proofs.Common.{◌≡◌, ◌∙◌, List, subst}
use Rattle.std.proofs.lemmas.Result.{IfOk-weaker, IfErr-weaker}
use Rattle.mesh_point.specs.declared.space_point.SpacePoint.{SpacePoint}
use Rattle.mesh_write.specs.declared.vertices.point.DecimalTriangle.{DecimalTriangle}
use Rattle.mesh_write.specs.Vertices.Vertices.{IsMeshOf}
use Rattle.mesh_written.specs.Decimals.{IsDecimalFault}
use Rattle.mesh_written.specs.DecimalTriangles.{decimal_origins, decimal_planes, decimal_triangles}
use Rattle.mesh_boolean.specs.Effects.{decimals_of, origins_of_decimals, planes_of_decimals}
use Rattle.mesh_boolean.proofs.Outputs.{corners_are_there}
use Rattle.mesh_boolean.proofs.rounding.decimals.Goals as goal

pub decimal_mesh-requires-clause-corners : goal.decimal_mesh-requires-clause-corners
decimal_mesh-requires-clause-corners c =
    corners_are_there c.args.mesh.now.planes.items c.deref.ensures.value c.deref-2.ensures.value c.requires.proper

pub returns-clause-mesh : goal.returns-clause-mesh
returns-clause-mesh c =
    let g = c.args.grid.now in
    let p = c.written_places-places.ensures.value in
    let same : decimal_triangles c.written_places-places.result g.step g.offset c.deref.result.now c.deref-2.result.now
    ≡ decimals_of c.args.digits g c.args.mesh.now =
    λ i. decimal_triangles (p i) g.step g.offset (c.deref.ensures.value i) (c.deref-2.ensures.value i) in
    IfOk-weaker c.decimal_mesh.result _ _ (λ written h. subst (λ (ts : List DecimalTriangle). IsMeshOf ts written.mesh) same h) c.decimal_mesh.ensures.mesh

pub returns-clause-fault : goal.returns-clause-fault
returns-clause-fault c =
    let g = c.args.grid.now in
    IfErr-weaker c.decimal_mesh.result _ _ (λ cause h. subst
    (λ (cs : List SpacePoint). IsDecimalFault g.step g.offset cs cause) c.deref.ensures.value h)
    c.decimal_mesh.ensures.fault

pub returns-clause-planes : goal.returns-clause-planes
returns-clause-planes c =
    let g = c.args.grid.now in
    let p = c.written_places-places.ensures.value in
    let same : decimal_planes c.written_places-places.result g.step g.offset c.deref.result.now c.deref-2.result.now
    ≡ planes_of_decimals c.args.digits g c.args.mesh.now =
    λ i. decimal_planes (p i) g.step g.offset (c.deref.ensures.value i) (c.deref-2.ensures.value i) in
    IfOk-weaker c.decimal_mesh.result _ _ (λ written e. e ∙ same) c.decimal_mesh.ensures.planes

pub returns-clause-origins : goal.returns-clause-origins
returns-clause-origins c =
    let g = c.args.grid.now in
    let p = c.written_places-places.ensures.value in
    let same : decimal_origins c.written_places-places.result g.step g.offset c.deref.result.now c.deref-2.result.now
    ≡ origins_of_decimals c.args.digits g c.args.mesh.now =
    λ i. decimal_origins (p i) g.step g.offset (c.deref.ensures.value i) (c.deref-2.ensures.value i) in
    IfOk-weaker c.decimal_mesh.result _ _ (λ written e. e ∙ same) c.decimal_mesh.ensures.origins
