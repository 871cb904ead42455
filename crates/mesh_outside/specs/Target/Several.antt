-- Files that are written one after another, and what the names of a target hold then.
use Rattle.std.specs.Prelude.{◌≡◌, ℕ, List, [], ◌∷◌, ◌++◌, ⊤, Some, ◌⊎◌, map, string_bytes}
use Rattle.std.specs.declared.option.Option.{Option}
use Rattle.ember_io.specs.Causes.{HasRisen}
use Rattle.mesh_outside.specs.Target.Targets.{Names, AreAllTaken, HoldsSame, HoldsOld, Puts, HasRisenTwice}
use Rattle.mesh_outside.specs.declared.target.several.NamedFile.{NamedFile}
use Rattle.mesh_outside.specs.declared.target.target.WriteEnd.{WriteEnd}
use Rattle.mesh_outside.specs.declared.target.target.WriteEnd.TheVariants.{WriteFault, NamesTaken, OutOfMemory}

-- a name, and the bytes that it is to hold
abbrev pub NamedBytes : Type 0
NamedBytes = List ℕ × List ℕ

-- the names and the bytes of files
abbrev pub names_and_bytes : List NamedFile → List NamedBytes
names_and_bytes files = map (λ (file : NamedFile). (string_bytes file.name, file.bytes.items)) files

-- if it is told, each of these files in its turn is put: its name holds its bytes, and each other name what it held
abbrev pub PutsEach : List NamedBytes → Option Names → Option Names → Type 0
PutsEach [] old new = HoldsSame old new
PutsEach (file ∷ files) old new =
    (between : Option Names) × Puts old between file.0 (Some file.1) × PutsEach files between new

-- why a file of this name isn't written
abbrev pub IsWriteCause : Option Names → List ℕ → ℕ → ℕ → WriteEnd → Type 0
IsWriteCause held name before now WriteFault = HasRisen before now
IsWriteCause held name before now NamesTaken = AreAllTaken held name
IsWriteCause held name before now OutOfMemory = ⊤

-- the files before one of this name are put, and that one isn't, for this reason: its name holds what it
-- held then, and so
-- does each other, but a new file may be left beside it, if two calls failed
pub record PutsBefore (files : List NamedBytes) (name : List ℕ) (why : WriteEnd) (old new : Option Names)
    (before now : ℕ) : Type 0 where
  pub written : List NamedBytes
  pub bytes : List ℕ
  pub others : List NamedBytes
  pub all : files ≡ written ++ (name, bytes) ∷ others
  pub between : Option Names
  pub put : PutsEach written old between
  pub held : HoldsOld between new name
  pub removed : HoldsSame between new ⊎ HasRisenTwice before now
  pub cause : IsWriteCause between name before now why
