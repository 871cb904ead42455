-- What is asked of the triangles of an output
use Rattle.std.specs.Prelude.{⊤, ℕ}
use Rattle.ember_model.specs.Meshes.{IsScene}
use Rattle.ember_verdict.specs.Outputs.{Output, FaceTexts, Counts, MeetingPairs, Lattice, SolidFaces, SolidReport}

-- the triangles of a solid are those of a scene; of the others nothing is asked
abbrev pub IsOfScene : Output → Type 0
IsOfScene (SolidFaces tris formula) = (meshes : ℕ) × IsScene tris meshes
IsOfScene (SolidReport tris formula) = (meshes : ℕ) × IsScene tris meshes
IsOfScene (FaceTexts tris) = ⊤
IsOfScene (Counts point meshes tris expr) = ⊤
IsOfScene (MeetingPairs tris) = ⊤
IsOfScene (Lattice tris formula size) = ⊤
