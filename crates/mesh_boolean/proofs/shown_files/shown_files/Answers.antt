use Rattle.std.proofs.Common.{◌≡◌, ◌∙◌, ℕ, List, length, map, true, Option, ap, refl, subst, sym}
use Rattle.std.specs.List.{list_all}
use Rattle.std.proofs.lemmas.List.{length-map}
use Rattle.mesh_point.specs.declared.space_point.SpacePoint.{SpacePoint}
use Rattle.mesh_certificate.specs.declared.certificate.triangle.Triangle.{Triangle}
use Rattle.mesh_sources.specs.Sources.{IsTriangleSource}
use Rattle.mesh_sources.specs.declared.source.Source.{Source}
use Rattle.mesh_write.specs.declared.stl.triangle.FloatPoint.{FloatPoint}
use Rattle.mesh_written.specs.Triangles.{has_corners}
use Rattle.mesh_boolean.specs.ShownFiles.{file_of}
use Rattle.mesh_boolean.proofs.Outputs.{corners_are_there}
use Rattle.mesh_boolean.proofs.ShownFiles.{as_many, shown_files_are}
use Rattle.mesh_boolean.proofs.shown_files.shown_files.Goals as goal

pub numbers_over-requires-clause-corners : goal.numbers_over-requires-clause-corners
numbers_over-requires-clause-corners c =
    let corners = c.args.mesh.now.corners.items in
    let among_corners = corners_are_there c.args.mesh.now.planes.items {cs = corners} refl c.deref-7.ensures.value c.requires.proper in
    let count : length c.deref-6.result.now ≡ length corners =
    ap (λ (ps : List FloatPoint). length ps) c.deref-6.ensures.value ∙ c.in_ok-points.ensures.points.count
    ∙ ap (λ (cs : List SpacePoint). length cs) c.deref.ensures.value in
    subst (λ (n : ℕ). list_all (has_corners n) c.deref-7.result.now ≡ true) (sym count) among_corners

pub numbers_over-requires-clause-one_each : goal.numbers_over-requires-clause-one_each
numbers_over-requires-clause-one_each c =
    let scene = c.args.scene.now in
    let given = c.deref-5.result.now in
    let sources = c.in_ok-sources.sources.items in
    let numbers : length c.deref-8.result.now ≡ length given =
    ap (λ (ns : List ℕ). length ns) (c.deref-8.ensures.value ∙ c.in_ok-files.ensures) ∙ length-map given (file_of scene) in
    let each : length sources ≡ length c.deref-4.result.now =
    as_many (IsTriangleSource scene c.deref-2.result.now c.deref-3.result.now) c.deref-4.result.now sources c.in_ok-sources.ensures in
    numbers ∙ ap (λ (ss : List (Option Source)). length ss) c.deref-5.ensures.value ∙ each
    ∙ ap (λ (ts : List Triangle). length ts) (c.deref-4.ensures.value ∙ sym c.deref-7.ensures.value)

pub returns-clause-files : goal.returns-clause-files
returns-clause-files c =
    let scene = c.args.scene.now in
    shown_files_are scene c.args.grid.now c.args.mesh.now c.in_ok-shown.shown c.deref-3.ensures.value
    c.deref-2.ensures.value c.deref.ensures.value c.deref-4.ensures.value c.deref-7.ensures.value
    c.in_ok-sources.sources.items c.in_ok-sources.ensures c.in_ok-points.points.items c.deref-6.result.now
    c.deref-6.ensures.value c.in_ok-points.ensures.points c.deref-8.result.now
    (c.deref-8.ensures.value ∙ c.in_ok-files.ensures ∙ ap (map (file_of scene)) c.deref-5.ensures.value)
    c.in_ok-shown.ensures
