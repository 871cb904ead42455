-- The triangles of the mesh of a solid's faces wind as these, on both grids, so they have the meaning of the expression.
use Rattle.std.proofs.Common.{◌≡◌, le_refl, sym, subst, ◌∙◌, ℕ, ◌^◌, List, map, pos, ◌*ℤ◌, ◌<ℤ◌, arith}
use Rattle.std.proofs.lemmas.Int.{ints}
use Rattle.std.specs.List.{AllByRecursion}
use Rattle.ember_algebra.proofs.Large.{eventually_both}
use Rattle.ember_expr.specs.Formula.{Formula}
use Rattle.ember_expr.specs.Truth.{truth}
use Rattle.ember_law.proofs.Generic.{wind_shifted}
use Rattle.ember_meaning.specs.Closed.Chains.{face_from, IsClosedSurface, IsOutlined}
use Rattle.ember_meaning.specs.Regions.Meaning.{IsFalseOutside, HaveMeaning, AreSurfaceWithMeaning}
use Rattle.ember_meaning.specs.Regions.Nearby.{WindOnceAtMost}
use Rattle.ember_meaning.proofs.ClearRectangle.{each_axis}
use Rattle.ember_meaning.proofs.Nearby.{meaning_nearby, wind_nearby_as_here}
use Rattle.ember_meaning.proofs.ReadFaces.{document_reads, outlines_are_a_surface}
use Rattle.ember_model.specs.declared.face.Face.{Face}
use Rattle.ember_model.specs.declared.plane.Plane.{Plane}
use Rattle.ember_model.specs.declared.point.Axis.TheVariants.{X}
use Rattle.ember_model.specs.declared.tri.Tri.{Tri}
use Rattle.ember_model.specs.FaceFiles.{WrittenFace}
use Rattle.ember_model.specs.Limits.{broad_limit, most_meshes}
use Rattle.ember_model.specs.Meshes.{IsScene, vector}
use Rattle.ember_model.specs.Points.{offset_by}
use Rattle.ember_query.specs.BroadLeaves.{broad_numbers}
use Rattle.ember_reread.proofs.OneReading.{face_file_is_read_once, one_reading}
use Rattle.ember_width.specs.Scenes.{IsSceneWithin}
use Rattle.mesh_certificate.specs.Certificate.Certificate.{IsCertified, edges_in}
use Rattle.mesh_certificate.specs.Certificate.Closed.{AreSegmentsClosed}
use Rattle.mesh_point.specs.declared.space_point.SpacePoint.{SpacePoint}
use Rattle.mesh_solid.specs.declared.mesh.mesh.SolidMesh.{SolidMesh}
use Rattle.mesh_solid.specs.declared.mesh.solid.SolidRun.{SolidRun}
use Rattle.mesh_solid.specs.declared.tables.tables.Tables.{Tables}
use Rattle.mesh_solid.specs.Mesh.FaceMeshes.{IsFacesMesh, AreFacesOfSolid, in_document, outlined, IsMeshOfSolid, IsBroadRun}
use Rattle.mesh_solid.specs.Mesh.MeshFaces.{faces_of_mesh}
use Rattle.mesh_solid.specs.Mesh.Meshes.{IsSolidMesh}
use Rattle.mesh_solid.specs.Tables.Edges.{face_edges_of}
use Rattle.mesh_solid.specs.Tables.Tables.{AreTables}
use Rattle.mesh_solid.specs.Winding.TriangleFaces.{triangle_faces, WindAlike, WindAlikeNearby}
use Rattle.mesh_solid.proofs.WindingLaw.{wind_alike, wind_alike_nearby}

-- ---- the faces of a solid
corners_lie_in_the_root : pos broad_limit <ℤ (pos 2048 *ℤ pos (2 ^ 8))
corners_lie_in_the_root = omega (arith, ints)

pub faces_of_solids_are_a_surface : (tris : List Tri) (formula : Formula) (faces : List Face) → IsFalseOutside formula →
    AreFacesOfSolid tris formula faces → AreSurfaceWithMeaning tris formula faces
faces_of_solids_are_a_surface tris formula faces outside (in_document meshes scene held) =
    let reads = document_reads tris meshes formula held.text.kept held.bytes scene held.text.solid.written outside held.text.text in
    let once = face_file_is_read_once held.bytes reads.faces faces reads.read held.read in
    record {
      written = held.read.written;
      faces_are = held.read.faces;
      outlined = subst (λ (written : List WrittenFace). AllByRecursion IsOutlined written) once reads.outlined;
      meaning = subst (λ (faces : List Face). HaveMeaning tris formula faces)
          (one_reading held.bytes reads.faces faces reads.read held.read) reads.meaning;
      closed = subst (λ (written : List WrittenFace). IsClosedSurface written) once reads.closed;
    }
faces_of_solids_are_a_surface tris formula faces outside (outlined scene o) =
    outlines_are_a_surface broad_numbers 8 broad_limit corners_lie_in_the_root tris formula o.kept faces scene o.has outside o.faces_of

-- ---- their mesh
module _ (faces : List Face) (mesh : SolidMesh) (is : IsFacesMesh faces mesh) (ws : List WrittenFace)
    (e : faces ≡ map face_from ws) (outlines : AllByRecursion IsOutlined ws) where
  abbrev t : Tables
  t = is.tables

  tables_are : AreTables (face_edges_of 0 (map face_from ws)) t
  tables_are = subst (λ (faces : List Face). AreTables (face_edges_of 0 faces) t) e is.are_tables

  certified : IsCertified t.planes.items t.lines.items t.corners.items t.segments.items mesh.triangles.items
  certified =
      let on_planes = subst (λ (ps : List Plane). IsCertified ps t.lines.items mesh.corners.items t.segments.items
      mesh.triangles.items) is.cut.planes is.cut.certified in
      subst (λ (cs : List SpacePoint). IsCertified t.planes.items t.lines.items cs t.segments.items mesh.triangles.items) is.cut.corners on_planes

  same_faces : triangle_faces t.planes.items t.corners.items mesh.triangles.items ≡ faces_of_mesh mesh
  same_faces = let p = sym is.cut.planes in let c = sym is.cut.corners in λ i. triangle_faces (p i) (c i) mesh.triangles.items

  -- the triangles wind as the faces
  triangles_wind_as_faces : WindAlike (map face_from ws) (faces_of_mesh mesh)
  triangles_wind_as_faces =
      subst (λ (faces : List Face). WindAlike (map face_from ws) faces) same_faces
      (wind_alike ws t mesh.triangles.items outlines tables_are certified)

  -- and near each point
  triangles_wind_as_faces_nearby : WindAlikeNearby (map face_from ws) (faces_of_mesh mesh)
  triangles_wind_as_faces_nearby =
      subst (λ (faces : List Face). WindAlikeNearby (map face_from ws) faces) same_faces
      (wind_alike_nearby ws t mesh.triangles.items outlines tables_are certified)

-- ---- the mesh of a solid
pub solid_mesh_is_closed : (tris : List Tri) (formula : Formula) (mesh : SolidMesh) → IsMeshOfSolid tris formula mesh →
    AreSegmentsClosed (edges_in mesh.triangles.items)
solid_mesh_is_closed tris formula mesh is = is.of_faces.cut.certified.closed

module _ (tris : List Tri) (formula : Formula) (mesh : SolidMesh) (outside : IsFalseOutside formula)
    (is : IsMeshOfSolid tris formula mesh) where
  pub solid_surface : AreSurfaceWithMeaning tris formula is.faces
  solid_surface = faces_of_solids_are_a_surface tris formula is.faces outside is.of_solid

  abbrev ws : List WrittenFace
  ws = solid_surface.written

  meaning : HaveMeaning tris formula (map face_from ws)
  meaning = subst (λ (faces : List Face). HaveMeaning tris formula faces) solid_surface.faces_are solid_surface.meaning

  nearby : WindAlikeNearby (map face_from ws) (faces_of_mesh mesh)
  nearby =
      triangles_wind_as_faces_nearby is.faces mesh is.of_faces ws solid_surface.faces_are solid_surface.outlined

  -- the triangles wind as the faces
  pub solid_mesh_winds_as_faces : WindAlike is.faces (faces_of_mesh mesh)
  solid_mesh_winds_as_faces =
      subst (λ (faces : List Face). WindAlike faces (faces_of_mesh mesh)) (sym solid_surface.faces_are)
      (triangles_wind_as_faces is.faces mesh is.of_faces ws solid_surface.faces_are solid_surface.outlined)

  -- once where the expression is true of the scene, and not at all elsewhere
  pub solid_mesh_means : HaveMeaning tris formula (faces_of_mesh mesh)
  solid_mesh_means a b p weight clear_scene clear_mesh =
      let s = eventually_both (wind_shifted a p (faces_of_mesh mesh) weight clear_mesh)
      (eventually_both (nearby a p weight) (wind_nearby_as_here tris formula ws solid_surface.outlined meaning p weight
      clear_scene)) in
      let h = s.holds s.from (le_refl s.from) in h.0 ∙ sym h.1.0 ∙ h.1.1 a b

  -- and once at most around each point that is clear of them
  pub solid_mesh_winds_once_at_most : WindOnceAtMost (faces_of_mesh mesh)
  solid_mesh_winds_once_at_most p weight clear =
      let s = eventually_both (each_axis (λ a. wind_shifted a p (faces_of_mesh mesh) weight clear))
      (eventually_both (each_axis (λ a. nearby a p weight))
      (meaning_nearby tris formula ws solid_surface.outlined meaning p weight)) in
      let h = s.holds s.from (le_refl s.from) in
      (truth (vector X tris (offset_by p (pos s.from))) formula, λ a. h.0 a ∙ sym (h.1.0 a) ∙ h.1.1 a X)

-- ---- both ways
-- the mesh of a solid's document is that of the solid
pub document_mesh_is_of_solid : (tris : List Tri) (meshes : ℕ) (formula : Formula) (mesh : SolidMesh) → IsScene tris meshes →
    IsSolidMesh tris formula mesh → IsMeshOfSolid tris formula mesh
document_mesh_is_of_solid tris meshes formula mesh scene is =
    let d = is.of_document in
    record {
      faces = d.tables_are.faces;
      of_solid = in_document meshes scene (record { bytes = is.bytes; text = is.text; read = d.tables_are.read });
      of_faces = record { tables = d.tables; are_tables = d.tables_are.are_tables; cut = d.cut; count = d.faces };
    }

-- and that of a run on the broad grid
pub broad_mesh_is_of_solid : (tris : List Tri) (formula : Formula) (solid : SolidRun) →
    IsSceneWithin broad_limit tris most_meshes → IsBroadRun tris formula solid → IsMeshOfSolid tris formula solid.mesh
broad_mesh_is_of_solid tris formula solid scene is =
    record { faces = is.faces; of_solid = outlined scene is.outlines; of_faces = is.mesh }
