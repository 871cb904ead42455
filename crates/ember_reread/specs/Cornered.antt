-- Faces with their corners, as they are read
use Rattle.std.specs.Prelude.{◌≡◌, ℕ, List, ◌++◌, All, length, map, flat_map}
use Rattle.ember_algebra.specs.Relations.{Chain}
use Rattle.ember_model.specs.Edges.{RingEdge}
use Rattle.ember_model.specs.FaceFiles.{WrittenFace, IsWrittenFace, face_lines, header, ending}
use Rattle.ember_point.specs.Points.{spot_of}
use Rattle.ember_reread.specs.declared.cornered_face.CorneredEdge.{CorneredEdge}
use Rattle.ember_reread.specs.declared.cornered_face.CorneredFace.{CorneredFace}
use Rattle.ember_reread.specs.Lines.{IsEdgeLine, IsFaceLines}

-- the edge, with its corner as a point
abbrev pub edge_of : CorneredEdge → RingEdge
edge_of e = record { plane = e.plane; start = spot_of e.start }

-- the face as it is written
abbrev pub face_of : CorneredFace → WrittenFace
face_of f = record { support = f.support; edges = map edge_of f.edges.items }

-- the bytes are a face file of these written faces
pub record IsFileOf (ws : List WrittenFace) (bytes : List ℕ) : Type 0 where
  pub well_formed : All IsWrittenFace ws
  pub is : bytes ≡ header ++ flat_map (λ w. face_lines w.support w.edges) ws ++ ending (length ws)

-- the lines of that many edges
pub record HasCorneredEdges (count : ℕ) (es : List CorneredEdge) (bytes rest : List ℕ) : Type 0 where
  pub lines : Chain IsEdgeLine (map edge_of es) bytes rest
  pub many : length es ≡ count

-- the lines of these faces, and the last line with their number
abbrev pub IsCorneredBody : List WrittenFace → List ℕ → Type 0
IsCorneredBody ws bytes = Chain IsFaceLines ws bytes (ending (length ws))
