-- What is read so far, and the triangles of a file.
use Rattle.std.specs.Prelude.{ℕ, List}
use Rattle.ember_model.specs.declared.point.Corner.{Corner}
use Rattle.ember_model.specs.declared.tri.Tri.{Tri}

-- the vertices and the triangles so far, each triangle with the line of its face
pub record Table : Type 0 where
  pub vertices : List Corner
  pub tris : List Tri
  pub lines : List ℕ

-- the triangles of a file, and for each the line of its face
pub record FileTriangles : Type 0 where
  pub tris : List Tri
  pub lines : List ℕ
