-- The triangles of a document's mesh are closed, and wind as its faces if the written edges of these are their outlines.
use Rattle.std.proofs.Common.{◌≡◌, ℕ, sym, subst, List, map}
use Rattle.std.specs.List.{AllByRecursion}
use Rattle.ember_model.specs.declared.face.Face.{Face}
use Rattle.ember_model.specs.declared.plane.Plane.{Plane}
use Rattle.ember_model.specs.FaceFiles.{WrittenFace}
use Rattle.ember_meaning.specs.Closed.Chains.{face_from, IsOutlined}
use Rattle.mesh_point.specs.declared.space_point.SpacePoint.{SpacePoint}
use Rattle.mesh_certificate.specs.Certificate.Certificate.{IsCertified, edges_in}
use Rattle.mesh_certificate.specs.Certificate.Closed.{AreSegmentsClosed}
use Rattle.mesh_solid.specs.declared.tables.tables.Tables.{Tables}
use Rattle.mesh_solid.specs.Tables.Edges.{face_edges_of}
use Rattle.mesh_solid.specs.Tables.Tables.{AreTables}
use Rattle.mesh_solid.specs.Winding.TriangleFaces.{triangle_faces, WindAlike, WindAlikeNearby}
use Rattle.mesh_solid.proofs.WindingLaw.{wind_alike, wind_alike_nearby}
use Rattle.mesh_solid.specs.declared.mesh.mesh.SolidMesh.{SolidMesh}
use Rattle.mesh_solid.specs.Mesh.MeshFaces.{faces_of_mesh}
use Rattle.mesh_solid.specs.Mesh.Meshes.{IsDocumentMesh}

module _ (bytes : List ℕ) (mesh : SolidMesh) (is : IsDocumentMesh bytes mesh) where
  abbrev ws : List WrittenFace
  ws = is.tables_are.read.written

  abbrev t : Tables
  t = is.tables

  -- from each corner to each other one run as many edges as back
  pub document_is_closed : AreSegmentsClosed (edges_in mesh.triangles.items)
  document_is_closed = is.cut.certified.closed

  module _ (outlined : AllByRecursion IsOutlined ws) where
    tables_are : AreTables (face_edges_of 0 (map face_from ws)) t
    tables_are = subst (λ (faces : List Face). AreTables (face_edges_of 0 faces) t) is.tables_are.read.faces is.tables_are.are_tables

    certified : IsCertified t.planes.items t.lines.items t.corners.items t.segments.items mesh.triangles.items
    certified =
        let on_planes = subst (λ (ps : List Plane). IsCertified ps t.lines.items mesh.corners.items t.segments.items
        mesh.triangles.items) is.cut.planes is.cut.certified in
        subst (λ (cs : List SpacePoint). IsCertified t.planes.items t.lines.items cs t.segments.items mesh.triangles.items) is.cut.corners on_planes

    same_faces : triangle_faces t.planes.items t.corners.items mesh.triangles.items ≡ faces_of_mesh mesh
    same_faces = let p = sym is.cut.planes in let c = sym is.cut.corners in λ i. triangle_faces (p i) (c i) mesh.triangles.items

    -- the triangles wind as the faces
    pub document_winds_as_faces : WindAlike is.tables_are.faces (faces_of_mesh mesh)
    document_winds_as_faces =
        subst (λ (faces : List Face). WindAlike faces (faces_of_mesh mesh)) (sym is.tables_are.read.faces)
        (subst (λ (faces : List Face). WindAlike (map face_from ws) faces) same_faces
        (wind_alike ws t mesh.triangles.items outlined tables_are certified))

    -- and near each point
    pub document_winds_as_faces_nearby : WindAlikeNearby is.tables_are.faces (faces_of_mesh mesh)
    document_winds_as_faces_nearby =
        subst (λ (faces : List Face). WindAlikeNearby faces (faces_of_mesh mesh)) (sym is.tables_are.read.faces)
        (subst (λ (faces : List Face). WindAlikeNearby (map face_from ws) faces) same_faces
        (wind_alike_nearby ws t mesh.triangles.items outlined tables_are certified))
