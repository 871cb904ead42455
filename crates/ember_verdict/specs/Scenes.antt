-- The files of a scene while they are read, one after another
use Rattle.std.specs.Prelude.{◌≡◌, ℕ, ◌+◌, List, ◌++◌, length}
use Rattle.std.specs.Global.{Vec}
use Rattle.ember_io.specs.Shelves.{Told}
use Rattle.ember_mesh.specs.declared.states.Closed.{Closed}
use Rattle.ember_mesh.specs.Joined.{AreNumbered, triangles_of}
use Rattle.ember_model.specs.declared.tri.Tri.{Tri}
use Rattle.ember_verdict.specs.Held.{MayHold}
use Rattle.ember_verdict.specs.Verdict.{Contents, Verdict, after_files, after_scene}

-- the files with these contents were read as these meshes: whatever files follow, the verdict is that of the files that
-- follow, after the triangles of these meshes
pub record HasParts (places : ℕ) (read : Contents) (parts : List Closed) : Type 0 where
  pub count : length parts ≡ length read
  pub numbered : AreNumbered 1 parts
  pub same : (more : Contents) (next : List Tri → Verdict) →
      after_scene places (read ++ more) next ≡
      after_files places (length read + 1) (triangles_of parts) more next

-- these are the meshes of contents that the files with these names may have
abbrev pub ArePartsOf : ℕ → List (List ℕ) → Told → Vec Closed → Type 0
ArePartsOf places names told parts = MayHold told names (λ contents. HasParts places contents parts.items)
