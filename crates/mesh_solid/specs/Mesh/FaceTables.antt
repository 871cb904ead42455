-- The faces of a face file, and their tables
use Rattle.std.specs.Prelude.{◌≡◌, ◌≢◌, ℕ, List, All, Some, slice_get, take}
use Rattle.ember_model.specs.declared.face.Face.{Face}
use Rattle.ember_model.specs.FaceFiles.{WrittenFace, IsFaceFile}
use Rattle.mesh_solid.specs.Outline.Rounds.{IsRound}
use Rattle.mesh_solid.specs.declared.tables.fault.TableFault.{TableFault}
use Rattle.mesh_solid.specs.declared.tables.fault.TableFault.TheVariants.{OutOfMemory}
use Rattle.mesh_solid.specs.declared.tables.tables.Tables.{Tables}
use Rattle.mesh_solid.specs.Tables.Edges.{face_edges_of}
use Rattle.mesh_solid.specs.Tables.Tables.{AreTables, IsFault}

-- the bytes are a face file
abbrev pub HoldsFaces : List ℕ → Type 0
HoldsFaces bytes = (faces : List Face) × IsFaceFile bytes faces

-- the bytes are a face file; the face with this number, from 0, has the fault, and the edges of those before it lead
-- once around them
pub record HasFirstFace (bytes : List ℕ) (number : ℕ) (IsFault : WrittenFace → Type 0) : Type 0 where
  pub faces : List Face
  pub read : IsFaceFile bytes faces
  pub face : WrittenFace
  pub found : slice_get read.written number ≡ Some face
  pub is_fault : IsFault face
  pub before : All IsRound (take number read.written)

-- the bytes are a face file, and the tables are those of its faces
pub record AreTablesIn (bytes : List ℕ) (tables : Tables) : Type 0 where
  pub faces : List Face
  pub read : IsFaceFile bytes faces
  pub are_tables : AreTables (face_edges_of 0 faces) tables

-- the bytes are a face file whose faces have this fault, and it isn't want of memory
pub record HaveTableFault (bytes : List ℕ) (fault : TableFault) : Type 0 where
  pub faces : List Face
  pub read : IsFaceFile bytes faces
  pub is_fault : IsFault (face_edges_of 0 faces) fault
  pub of_faces : fault ≢ OutOfMemory
