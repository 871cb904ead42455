-- What is said of a mesh
use Rattle.std.specs.Prelude.{◌≡◌, List, length, map}
use Rattle.mesh_read.specs.declared.surface.surface.Surface.{Surface}
use Rattle.mesh_write.specs.declared.vertices.point.DecimalPoint.{DecimalPoint}
use Rattle.mesh_write.specs.declared.vertices.point.IndexedTriangle.{IndexedTriangle}
use Rattle.mesh_write.specs.Vertices.Vertices.{vertices_of, indexed}
use Rattle.mesh_info.specs.declared.info.info.Info.{Info}
use Rattle.mesh_info.specs.Info.Bounds.{box_of}
use Rattle.mesh_info.specs.Info.Corners.{triangles_of}
use Rattle.mesh_info.specs.Info.Edges.{loose_edges, shared_edges}
use Rattle.mesh_info.specs.Info.Volume.{volume_of}

-- the positions of a surface: where triangles have corners, each once
abbrev pub positions_of : Surface → List DecimalPoint
positions_of s = vertices_of (triangles_of s)

-- its triangles over these
abbrev pub indexed_of : Surface → List IndexedTriangle
indexed_of s = map (indexed (positions_of s)) (triangles_of s)

-- this is said of the surface
pub record IsInfo (s : Surface) (info : Info) : Type 0 where
  pub triangles : info.triangles ≡ length s.facets.items
  pub positions : info.positions ≡ length (positions_of s)
  pub loose : info.loose ≡ loose_edges (indexed_of s)
  pub shared : info.shared ≡ shared_edges (indexed_of s)
  pub bounds : info.bounds ≡ box_of (positions_of s)
  pub volume : info.volume ≡ volume_of info.bounds.lower (positions_of s) (indexed_of s)
