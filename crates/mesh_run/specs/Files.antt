-- The files of a request, as far as a shelf tells what they hold
use Rattle.std.specs.Prelude.{◌≡◌, ℕ, List, length, map, take, All, Vec}
use Rattle.std.specs.declared.alloc.Global.{Global}
use Rattle.std.specs.List.{AllZip}
use Rattle.mesh_boolean.specs.declared.files.InputFile.{InputFile}
use Rattle.mesh_boolean.specs.Files.{IsSmall, AreReadings}
use Rattle.ember_io.specs.Shelves.{Told, Tells, AreBytes}
use Rattle.mesh_read.specs.declared.surface.surface.Surface.{Surface}

-- these are the files with these names, in order; each has the bytes that the shelf tells of it, at most 2^28
pub record AreFiles (told : Told) (names : List (List ℕ)) (files : List InputFile) : Type 0 where
  pub named : map (λ file. file.name.now) files ≡ names
  pub tells : All (λ file. Tells (told file.name.now) file.bytes.now) files
  pub small : All IsSmall files

-- no file with one of these names is refused, and these are their surfaces, in order
pub record AreReadAs (told : Told) (names : List (List ℕ)) (surfaces : List Surface) : Type 0 where
  pub files : List InputFile
  pub are_files : AreFiles told names files
  pub readings : AreReadings files surfaces

-- no file with one of these names is refused
abbrev pub AreRead : Told → List (List ℕ) → Type 0
AreRead told names = (surfaces : List Surface) × AreReadAs told names surfaces

-- ---- bytes without names

-- those of each name, in order
abbrev pub AreContents : Told → List (List ℕ) → List (Vec ℕ Global) → Type 0
AreContents told names contents = AllZip (AreBytes told) names (map (λ (bytes : Vec ℕ Global). bytes.items) contents)

-- if these bytes are told of these names, it is so
abbrev pub IfTold : {A : Type 0} → List (List ℕ) → List (Vec ℕ Global) → (Told → List (List ℕ) → A → Type 0) → A →
    Type 0
IfTold {A} names contents Is value = (told : Told) → AreContents told names contents → Is told names value

-- if these bytes are told of the first of these names, it is so
abbrev pub IfFirstTold : {A : Type 0} → List (List ℕ) → List (Vec ℕ Global) →
    (Told → List (List ℕ) → A → Type 0) → A → Type 0
IfFirstTold {A} names contents Is value =
    (told : Told) → AreContents told (take (length contents) names) contents → Is told names value
