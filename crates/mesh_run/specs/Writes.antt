-- The files that a request gets, by their names and bytes
use Rattle.std.specs.Prelude.{◌≡◌, ℕ, zero, suc, List, [], ◌∷◌, ◌++◌, length, codes, Some, None, MatchOption, option_map}
use Rattle.std.specs.declared.option.Option.{Option}
use Rattle.std.specs.Global.{Vec}
use Rattle.mesh_boolean.specs.declared.output.KeptDocument.{KeptDocument}
use Rattle.mesh_boolean.specs.declared.output.SolidFile.{SolidFile}
use Rattle.mesh_boolean.specs.declared.writing.OutputMesh.{OutputMesh}
use Rattle.mesh_words.specs.declared.command.Destination.{Destination}
use Rattle.mesh_words.specs.declared.command.Destination.TheVariants.{File, StandardOutput}
use Rattle.mesh_words.specs.declared.command.Request.{Request}
use Rattle.mesh_words.specs.Folders.{document_name, mesh_name, scene_name}
use Rattle.ember_model.specs.declared.tri.Tri.{Tri}
use Rattle.mesh_info.specs.Page.Pages.{page_of}
use Rattle.mesh_info.specs.Page.ReadBack.{IsReadBack}
use Rattle.mesh_scene.specs.declared.scene.scene.PlacedScene.{PlacedScene}
use Rattle.mesh_scene.specs.SceneFile.Meshes.{mesh_text, triangles_of}
use Rattle.mesh_scene.specs.SceneFile.Texts.{IsSceneText}
use Rattle.mesh_write.specs.declared.stl.triangle.FloatTriangle.{FloatTriangle}
use Rattle.mesh_outside.specs.Target.Several.{NamedBytes, names_and_bytes}
use Rattle.mesh_outside.specs.declared.target.several.NamedFile.{NamedFile}

-- they are there if a name is given for them
abbrev pub AreFilesIf : Option (List ℕ) → (List ℕ → List NamedBytes → Type 0) → List NamedBytes → Type 0
AreFilesIf name Are files = MatchOption name (files ≡ []) (λ given. Are given files)

-- files that have the property are appended
pub record AreAppended (Are : List NamedBytes → Type 0) (old new : List NamedBytes) : Type 0 where
  pub made : List NamedBytes
  pub are : Are made
  pub all : new ≡ old ++ made

-- ---- the same of lists of files, before and after a call
-- these files are appended
abbrev pub AddsFiles : List NamedBytes → Vec NamedFile → Vec NamedFile → Type 0
AddsFiles made old new = names_and_bytes new.items ≡ names_and_bytes old.items ++ made

-- this one is appended
abbrev pub AddsFile : NamedBytes → Vec NamedFile → Vec NamedFile → Type 0
AddsFile made old new = AddsFiles (made ∷ []) old new

-- files that have the property are appended
abbrev pub Adds : (List NamedBytes → Type 0) → Vec NamedFile → Vec NamedFile → Type 0
Adds Are old new = AreAppended Are (names_and_bytes old.items) (names_and_bytes new.items)

-- ---- a scene in a folder
-- mesh i under its name
abbrev pub mesh_file : List ℕ → List Tri → ℕ → NamedBytes
mesh_file folder tris i = (mesh_name folder i, mesh_text (triangles_of i tris))

-- the first meshes, so many of them
abbrev pub mesh_files : List ℕ → List Tri → ℕ → List NamedBytes
mesh_files folder tris zero = []
mesh_files folder tris (suc n) = mesh_files folder tris n ++ mesh_file folder tris (suc n) ∷ []

-- all meshes of a scene on its grid, and the grid
pub record AreSceneFiles (folder : List ℕ) (names : List (List ℕ)) (placed : PlacedScene) (files : List NamedBytes) :
    Type 0 where
  pub text : List ℕ
  pub is_text : IsSceneText placed.grid names placed.counts.items placed.moves.items text
  pub all : files ≡ mesh_files folder placed.scene.tris (length names)
      ++ (scene_name folder, text) ∷ []

-- ---- where a mesh goes
-- the file of a mesh with these bytes, if it goes to one
abbrev pub mesh_file_at : Destination → List ℕ → List NamedBytes
mesh_file_at (File name) bytes = (name, bytes) ∷ []
mesh_file_at StandardOutput bytes = []

-- what of it goes to standard output
abbrev pub sent_to : Destination → List ℕ → Option (List ℕ)
sent_to (File name) bytes = None
sent_to StandardOutput bytes = Some bytes

-- the bytes that are sent there, if there are some
abbrev pub sent_bytes : Option (Vec ℕ) → Option (List ℕ)
sent_bytes sent = option_map (λ (bytes : Vec ℕ). bytes.items) sent

-- what a page calls it
abbrev pub title_at : Destination → List ℕ
title_at (File name) = name
title_at StandardOutput = codes "standard output"

-- ---- a mesh
-- the page of this name that shows these triangles under that title, and of which of the named files they are; a
-- reader finds the triangles and the numbers of their files in it again
pub record IsPageFile (title : List ℕ) (names : List (List ℕ)) (numbers : List ℕ) (shown : Option (Vec FloatTriangle))
    (name : List ℕ) (files : List NamedBytes) :
    Type 0 where
  pub triangles : Vec FloatTriangle
  pub are_shown : shown ≡ Some triangles
  pub all : files ≡ (name, page_of title names triangles.items numbers) ∷ []
  pub read_back : IsReadBack triangles.items numbers (page_of title names triangles.items numbers)

-- that page, if a name is given for it
abbrev pub ArePages : Option (List ℕ) → List ℕ → List (List ℕ) → List ℕ → Option (Vec FloatTriangle) →
    List NamedBytes → Type 0
ArePages page title names numbers shown = AreFilesIf page (IsPageFile title names numbers shown)

-- the page of this name that shows these triangles is appended
abbrev pub AddsPage : List ℕ → List ℕ → List (List ℕ) → List FloatTriangle → List ℕ → Vec NamedFile →
    Vec NamedFile → Type 0
AddsPage name title names shown numbers old new = AddsFile (name, page_of title names shown numbers) old new

-- the page that shows a mesh and of which of the named files its triangles are, if a page is asked for, and behind it
-- the mesh, if it goes to a file
pub record ArePageAndMesh (page : Option (List ℕ)) (names : List (List ℕ)) (numbers : List ℕ) (output : Destination)
    (mesh : OutputMesh) (files : List NamedBytes) :
    Type 0 where
  pub pages : List NamedBytes
  pub are_pages : AreFilesIf page (IsPageFile (title_at output) names numbers mesh.shown) pages
  pub all : files ≡ pages ++ mesh_file_at output mesh.bytes.items

-- ---- a Boolean
-- the files of a scene in a folder, and the document
pub record AreKeptFiles (names : List (List ℕ)) (placed : PlacedScene) (document folder : List ℕ)
    (files : List NamedBytes) : Type 0 where
  pub scene : List NamedBytes
  pub are_scene : AreSceneFiles folder names placed scene
  pub all : files ≡ scene ++ (document_name folder, document) ∷ []

-- the scene that an output keeps, with its grid and counts
abbrev pub placed_of : SolidFile → KeptDocument → PlacedScene
placed_of out kept = record { grid = out.grid; scene = kept.scene; counts = out.counts; moves = out.moves }

-- the files of what an output keeps
pub record AreOutputsKept (names : List (List ℕ)) (out : SolidFile) (folder : List ℕ) (files : List NamedBytes) :
    Type 0 where
  pub kept : KeptDocument
  pub is_kept : out.kept ≡ Some kept
  pub are_files : AreKeptFiles names (placed_of out kept) kept.document.items folder files

-- they are there if the request names a folder for them
abbrev pub AreKeptFor : Request → SolidFile → List NamedBytes → Type 0
AreKeptFor request out files = AreFilesIf request.keep (AreOutputsKept request.files out) files

-- the numbers of files, if they are there
abbrev pub numbers_in : Option (Vec ℕ) → List ℕ
numbers_in None = []
numbers_in (Some numbers) = numbers.items

-- what is to be kept, the page, and the mesh; without the two options, the mesh alone
pub record AreSolidFiles (request : Request) (out : SolidFile) (files : List NamedBytes) : Type 0 where
  pub kept : List NamedBytes
  pub are_kept : AreFilesIf request.keep (AreOutputsKept request.files out) kept
  pub mesh : List NamedBytes
  pub are_mesh : ArePageAndMesh request.view request.files (numbers_in out.shown_files) request.output out.written mesh
  pub all : files ≡ kept ++ mesh
