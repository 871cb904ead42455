-- The lines of JSON that say what is said of meshes
use Rattle.std.specs.Prelude.{◌≡◌, ℕ, List}
use Rattle.std.specs.declared.option.Option.{Option}
use Rattle.ember_algebra.specs.Relations.{Each}
use Rattle.mesh_boolean.specs.declared.files.InputFile.{InputFile}
use Rattle.mesh_boolean.specs.Files.{held, reading}
use Rattle.mesh_info.specs.Info.Lines.{IsInfoLine}
use Rattle.mesh_read.specs.declared.surface.surface.Surface.{Surface}
use Rattle.mesh_run.specs.Files.{AreFiles}

-- the file is read, and the line says what is said of its mesh
pub record IsFileLine (file : InputFile) (line : List ℕ) : Type 0 where
  pub surface : Surface
  pub read : reading file ≡ held surface
  pub says : IsInfoLine file.name.now surface line

-- the lines of the files with these names, one after another
pub record AreInfoLines (told : List ℕ → Option (List ℕ)) (names : List (List ℕ)) (lines : List ℕ) : Type 0 where
  pub files : List InputFile
  pub are_files : AreFiles told names files
  pub each : Each IsFileLine files lines
