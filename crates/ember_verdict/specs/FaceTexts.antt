-- The face file of triangles, and its text while it grows, triangle by triangle
use Rattle.std.specs.Prelude.{◌≡◌, ℕ, List, [], ◌∷◌, ◌++◌, All, map, flat_map, length}
use Rattle.ember_algebra.specs.Relations.{Each}
use Rattle.ember_meaning.specs.Closed.Chains.{IsOutlined}
use Rattle.ember_model.specs.declared.face.Face.{Face}
use Rattle.ember_model.specs.declared.tri.Tri.{Tri}
use Rattle.ember_model.specs.Edges.{RingEdge}
use Rattle.ember_model.specs.Meshes.{faces_of}
use Rattle.ember_model.specs.FaceFiles.{IsFaceText, IsFileText, IsFaceFile, WrittenFace, IsWrittenFace, written_lines}
use Rattle.ember_model.specs.FaceFiles.{header}

-- the bytes are the text of the triangles' faces, and a face file that holds these faces, each with its outline
pub record IsFaceFileOf (ts : List Tri) (bytes : List ℕ) : Type 0 where
  pub text : IsFileText (faces_of ts) bytes
  pub reads_back : IsFaceFile bytes (faces_of ts)
  pub outlined : All IsOutlined reads_back.written

-- ---- while it grows

-- the face whose lines these are. `face_from` of ember_meaning and `face_in` of ember_reread are the same map from a
-- written face to a face; `written_face` of ember_text is another one, from a written region
abbrev pub written_face : WrittenFace → Face
written_face w = record { support = w.support; edges = map (λ (e : RingEdge). e.plane) w.edges }

-- the text is the lines of written faces that hold these faces, each with its outline
pub record ReadsBack (fs : List Face) (text : List ℕ) : Type 0 where
  pub written : List WrittenFace
  pub well_formed : All IsWrittenFace written
  pub is : text ≡ flat_map written_lines written
  pub faces : fs ≡ map written_face written
  pub outlined : All IsOutlined written

-- the text of the triangle's face was added, if it has one, and `count` is 1 or 0 accordingly
pub record AddsFace (t : Tri) (count : ℕ) (old new : List ℕ) : Type 0 where
  pub text : List ℕ
  pub is_text : Each IsFaceText (faces_of (t ∷ [])) text
  pub reads_back : ReadsBack (faces_of (t ∷ [])) text
  pub is : new ≡ old ++ text
  pub count_is : length (faces_of (t ∷ [])) ≡ count

-- the header and the texts of the faces of these triangles, and their number
pub record HasTexts (ts : List Tri) (bytes : List ℕ) (count : ℕ) : Type 0 where
  pub texts : List ℕ
  pub are_texts : Each IsFaceText (faces_of ts) texts
  pub read_back : ReadsBack (faces_of ts) texts
  pub is : bytes ≡ header ++ texts
  pub count_is : length (faces_of ts) ≡ count
