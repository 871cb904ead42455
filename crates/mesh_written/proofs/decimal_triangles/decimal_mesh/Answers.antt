use Rattle.std.proofs.Common.{◌≡◌, ℕ, List, map, length, true, sym, ap, subst, ◌∙◌}
use Rattle.std.specs.List.{list_all}
use Rattle.std.proofs.lemmas.List.{length-map}
use Rattle.mesh_write.specs.declared.vertices.point.DecimalPoint.{DecimalPoint}
use Rattle.mesh_write.specs.Vertices.Vertices.{IsMeshOf}
use Rattle.mesh_written.specs.Decimals.{decimal_point}
use Rattle.mesh_written.specs.DecimalTriangles.{triangle_at, kept, indices_from, plane_of}
use Rattle.mesh_written.specs.Triangles.{has_corners}
use Rattle.mesh_written.proofs.decimal_triangles.decimal_mesh.Goals as goal

pub mesh_over-requires : goal.mesh_over-requires
mesh_over-requires c =
    let f = decimal_point c.args.places c.args.step.now c.args.offset.now in
    let same : length c.deref.result.now ≡ length c.args.corners.now =
    ap length (c.deref.ensures.value ∙ c.in_ok-points.ensures.points) ∙ length-map c.args.corners.now f in
    subst (λ (n : ℕ). list_all (has_corners n) c.args.triangles.now ≡ true) (sym same) c.requires.corners

pub returns-clause-mesh : goal.returns-clause-mesh
returns-clause-mesh c =
    subst (λ (ps : List DecimalPoint). IsMeshOf (map (triangle_at ps) (kept ps c.args.triangles.now))
    c.in_ok-written.written.mesh) (c.deref.ensures.value ∙ c.in_ok-points.ensures.points) c.in_ok-written.ensures.mesh

pub returns-clause-planes : goal.returns-clause-planes
returns-clause-planes c =
    c.in_ok-written.ensures.planes
    ∙ ap (λ (ps : List DecimalPoint). map plane_of (kept ps c.args.triangles.now)) (c.deref.ensures.value ∙ c.in_ok-points.ensures.points)

pub returns-clause-origins : goal.returns-clause-origins
returns-clause-origins c =
    c.in_ok-written.ensures.origins
    ∙ ap (λ (ps : List DecimalPoint). indices_from 0 ps c.args.triangles.now) (c.deref.ensures.value ∙ c.in_ok-points.ensures.points)
