-- What is said of all faces and of the triangles that are certified for their tables
use Rattle.std.specs.Prelude.{List, map}
use Rattle.std.specs.List.{AllByRecursion}
use Rattle.ember_meaning.specs.Closed.Chains.{IsOutlined, face_from}
use Rattle.ember_model.specs.FaceFiles.{WrittenFace}
use Rattle.ember_model.specs.declared.face.Face.{Face}
use Rattle.mesh_certificate.specs.Certificate.Certificate.{IsCertified}
use Rattle.mesh_certificate.specs.declared.certificate.triangle.Triangle.{Triangle}
use Rattle.mesh_solid.specs.declared.tables.tables.Tables.{Tables}
use Rattle.mesh_solid.specs.Tables.Edges.{face_edges_of}
use Rattle.mesh_solid.specs.Tables.Tables.{AreTables}
use Rattle.mesh_solid.specs.Winding.TriangleFaces.{triangle_faces}

-- it is so of each list of faces whose written edges are their outlines, and of the faces of triangles that are
-- certified for the tables of these faces
abbrev pub AllCertifiedFor : (List Face → List Face → Type 0) → Type 0
AllCertifiedFor Are =
    (ws : List WrittenFace) (t : Tables) (ts : List Triangle) → AllByRecursion IsOutlined ws →
    AreTables (face_edges_of 0 (map face_from ws)) t →
    IsCertified t.planes.items t.lines.items t.corners.items t.segments.items ts →
    Are (map face_from ws) (triangle_faces t.planes.items t.corners.items ts)
