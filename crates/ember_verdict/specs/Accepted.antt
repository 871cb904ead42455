-- Which inputs are accepted, and which scene, expression and output each of them has
use Rattle.std.specs.Prelude.{◌≡◌, ℕ, ℤ, pos, ◌+◌, ◌<◌, ◌≤◌, Bool, false, List, [], length, flat_map}
use Rattle.std.specs.Prelude.{get_or, replicate, None, Some, Ok}
use Rattle.std.specs.declared.option.Option.{Option}
use Rattle.ember_expr.specs.Derivation.{HasTree}
use Rattle.ember_expr.specs.Formula.{Formula, Mesh, Or}
use Rattle.ember_expr.specs.Truth.{truth}
use Rattle.ember_gen.specs.Scene.{scene_of}
use Rattle.ember_model.specs.declared.point.Spot.{Spot}
use Rattle.ember_model.specs.declared.tri.Tri.{Tri}
use Rattle.ember_model.specs.Clear.{AreClear}
use Rattle.ember_model.specs.Meshes.{IsBalanced, faces_of}
use Rattle.ember_obj.specs.Table.{FileTriangles}
use Rattle.ember_obj.specs.ReadObj.{read_obj_of}
use Rattle.ember_words.specs.declared.command.Command.{Command}
use Rattle.ember_words.specs.declared.command.Command.TheVariants as command
use Rattle.ember_verdict.specs.Outputs.{Output, FaceTexts, Counts, MeetingPairs, Lattice, SolidFaces, SolidReport}
use Rattle.ember_verdict.specs.Slices.{IsSliceable}
use Rattle.ember_verdict.specs.Verdict.{Contents, file_at}

-- ---- files
-- the file's contents are told, and are these bytes, at most 2^28
pub record HasBytes (told : Option (List ℕ)) (bytes : List ℕ) : Type 0 where
  pub is : told ≡ Some bytes
  pub short : length bytes ≤ 268435456

-- the file is an OBJ file, and these are its triangles, in order of its lines; they are of mesh i
pub record IsFileOf (places i : ℕ) (told : Option (List ℕ)) (tris : List Tri) : Type 0 where
  pub bytes : List ℕ
  pub file : HasBytes told bytes
  pub faces : FileTriangles
  pub read : read_obj_of places i bytes ≡ Ok faces
  pub are : tris ≡ faces.tris

-- the file is such a file, and all its triangles, flat ones too, are a closed mesh
pub record IsMeshOf (places i : ℕ) (told : Option (List ℕ)) (tris : List Tri) : Type 0 where
  pub file : IsFileOf places i told tris
  pub closed : IsBalanced tris

-- 1 to 64 files are a closed mesh each, and these are their triangles, in order of the files
pub record IsSceneOf (places : ℕ) (contents : Contents) (tris : List Tri) : Type 0 where
  pub some : 1 ≤ length contents
  pub most : length contents ≤ 64
  pub meshes : List (List Tri)
  pub one_each : length meshes ≡ length contents
  pub mesh : (i : ℕ) → i < length contents → IsMeshOf places (i + 1) (get_or contents i None) (get_or meshes i [])
  pub are : tris ≡ flat_map (λ mesh. mesh) meshes
  pub few : length tris ≤ 262144

-- ---- expressions
-- the value is false if all winding numbers are 0. To `truth` a count past the end of the list is 0, too, so this is
-- the same property as `IsFalseOutside` of ember_meaning, and it is what `after_bounded` (Verdict.antt) asks for
abbrev pub IsBounded : ℕ → Formula → Type 0
IsBounded meshes formula = truth (replicate meshes (pos 0)) formula ≡ false

-- the text, if one is given, has this tree
pub data HasTreeIfGiven (meshes : ℕ) : Option (List ℕ) → Option Formula → Type 0 where
  not_given : HasTreeIfGiven meshes None None
  given_text : {text : List ℕ} {formula : Formula} → HasTree text meshes formula →
      HasTreeIfGiven meshes (Some text) (Some formula)

-- ---- commands
-- `voxels` accepts files that are a scene, and a text that has a tree over its meshes
pub record IsAcceptedLattice (expr : List ℕ) (places : ℕ) (contents : Contents)
    (tris : List Tri) (formula : Formula) : Type 0 where
  pub scene : IsSceneOf places contents tris
  pub tree : HasTree expr (length contents) formula

-- `bool` accepts the same if the tree is bounded
pub record IsAcceptedSolid (expr : List ℕ) (places : ℕ) (contents : Contents)
    (tris : List Tri) (formula : Formula) : Type 0 where
  pub scene : IsSceneOf places contents tris
  pub tree : HasTree expr (length contents) formula
  pub bounded : IsBounded (length contents) formula

-- `at` accepts files that are a scene, a text with a tree if one is given, and a point that is clear of all faces
pub record IsAcceptedPoint (point : Spot) (expr : Option (List ℕ)) (places : ℕ) (contents : Contents)
    (tris : List Tri) (formula : Option Formula) : Type 0 where
  pub scene : IsSceneOf places contents tris
  pub tree : HasTreeIfGiven (length contents) expr formula
  pub clear : AreClear (faces_of tris) point

-- the command accepts what it is given and files with these contents, and this is its output
pub data IsAccepted : Command → Contents → Output → Type 0 where
  of_faces : {places : ℕ} {name : List ℕ} {contents : Contents} {tris : List Tri} →
      IsFileOf places 1 (file_at contents 1) tris →
      IsAccepted (command.Faces places name) contents (FaceTexts tris)
  of_at : {point : Spot} {expr : Option (List ℕ)} {places : ℕ} {names : List (List ℕ)} {contents : Contents}
      {tris : List Tri} {formula : Option Formula} →
      IsAcceptedPoint point expr places contents tris formula →
      IsAccepted (command.At point expr places names) contents (Counts point (length contents) tris formula)
  of_bool : {expr : List ℕ} {workers places : ℕ} {report : Bool} {names : List (List ℕ)} {contents : Contents}
      {tris : List Tri} {formula : Formula} →
      IsAcceptedSolid expr places contents tris formula →
      IsAccepted (command.Boole expr workers places report names) contents (SolidFaces tris formula)
  of_voxels : {expr : List ℕ} {size workers places : ℕ} {names : List (List ℕ)} {contents : Contents}
      {tris : List Tri} {formula : Formula} →
      IsAcceptedLattice expr places contents tris formula →
      IsAccepted (command.Voxels expr size workers places names) contents (Lattice tris formula size)
  of_pairs : {workers places : ℕ} {names : List (List ℕ)} {contents : Contents} {tris : List Tri} →
      IsSceneOf places contents tris →
      IsAccepted (command.Pairs workers places names) contents (MeetingPairs tris)
  -- generated boxes are always accepted; the output is the report of the union of their two meshes
  of_demo : {boxes workers : ℕ} {contents : Contents} →
      IsAccepted (command.Demo boxes workers) contents (SolidReport (scene_of boxes) (Or (Mesh 1) (Mesh 2)))

-- `slice` accepts a face file of which no face is endless at the level
pub record IsAcceptedSlice (at : ℤ) (told : Option (List ℕ)) : Type 0 where
  pub bytes : List ℕ
  pub file : HasBytes told bytes
  pub sliceable : IsSliceable at bytes
