-- What contracts see of the sink and of the target of a call
use Rattle.std.specs.Prelude.{◌≡◌, ◌<◌, ⊤, ℕ, List, [], ◌∷◌, length, None, Some, slice_index_or, string_bytes}
use Rattle.std.specs.declared.option.Option.{Option}
use Rattle.ember_io.specs.Files.{first_of}
use Rattle.mesh_outside.specs.declared.target.several.NamedFile.{NamedFile}
use Rattle.mesh_outside.specs.Target.Several.{NamedBytes}
use Rattle.mesh_outside.specs.Target.Targets.{Names}

-- a sink that grows
pub record GrownState : Type 0 where
  pub bytes : List ℕ
  pub flushed : ℕ
  pub faults : ℕ

-- a target that takes files into memory; the new file comes first
pub record TakenState : Type 0 where
  pub files : List NamedBytes
  pub begun : Option (List ℕ)
  pub faults : ℕ

-- the new file, if one is begun, and those that are kept
abbrev pub with_new : Option NamedFile → List NamedBytes → List NamedBytes
with_new None kept = kept
with_new (Some file) kept = (string_bytes file.name, file.bytes.items) ∷ kept

-- what the names of these files hold
abbrev pub held_by : List NamedBytes → Option Names
held_by files = Some (first_of files)

-- no two files have one name
abbrev pub HaveOwnNames : List NamedBytes → Type 0
HaveOwnNames [] = ⊤
HaveOwnNames (file ∷ files) = (first_of files file.0 ≡ None) × HaveOwnNames files

-- a file of this name has this index
pub record IsIndexOf (files : List NamedFile) (name : List ℕ) (i : ℕ) : Type 0 where
  pub in_range : i < length files
  pub named : (other : NamedFile) → string_bytes (slice_index_or files i other).name ≡ name

-- no file has this name any more, and each other name holds what it held
pub record IsWithout (old new : List NamedBytes) (name : List ℕ) : Type 0 where
  pub own_names : HaveOwnNames new
  pub gone : first_of new name ≡ None
  pub others : (other : List ℕ) → ¬ (other ≡ name) → first_of new other ≡ first_of old other
