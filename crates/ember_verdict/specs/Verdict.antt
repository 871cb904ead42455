-- What an input asks for: its first refusal, or its output
use Rattle.std.specs.Prelude.{◌≡◌, ℕ, ℤ, zero, suc, ◌+◌, ◌-◌, List, [], ◌∷◌, ◌++◌, length, nat_le}
use Rattle.std.specs.Prelude.{get_or, map, None, Some, Result, Ok, Err, if◌then◌else◌, codes, pos}
use Rattle.std.specs.Prelude.{replicate}
use Rattle.std.specs.declared.option.Option.{Option}
use Rattle.std.specs.List.{list_all}
use Rattle.ember_balance.specs.declared.loose.Loose.{Loose}
use Rattle.ember_balance.specs.Loose.{loose_of}
use Rattle.ember_expr.specs.declared.fault.ExprFault.{ExprFault}
use Rattle.ember_expr.specs.Formula.{Formula}
use Rattle.ember_expr.specs.Grammar.{expr_of}
use Rattle.ember_expr.specs.Truth.{truth}
use Rattle.ember_gen.specs.Scene.{scene_of}
use Rattle.ember_mesh.specs.declared.fault.MeshFault.TheVariants.{Unbalanced}
use Rattle.ember_model.specs.declared.point.Spot.{Spot}
use Rattle.ember_model.specs.declared.tri.Tri.{Tri}
use Rattle.ember_model.specs.ClearTest.{is_clear_of}
use Rattle.ember_obj.specs.declared.fault.ObjFault.{ObjFault}
use Rattle.ember_obj.specs.Table.{FileTriangles}
use Rattle.ember_obj.specs.ReadObj.{read_obj_of}
use Rattle.ember_words.specs.declared.command.Command.{Command}
use Rattle.ember_words.specs.declared.command.Command.TheVariants as command
use Rattle.ember_verdict.specs.Outputs.{Output, FaceTexts, Counts, MeetingPairs, Lattice, SolidFaces, SolidReport}
use Rattle.ember_verdict.specs.declared.status.LimitKind.TheVariants.{Bytes, Triangles}
use Rattle.ember_verdict.specs.declared.status.Status.{Status}
use Rattle.ember_verdict.specs.declared.status.Status.TheVariants.{Words, ObjRefused, MeshRefused}
use Rattle.ember_verdict.specs.declared.status.Status.TheVariants.{ExprRefused, Unbounded, Limit}
use Rattle.ember_verdict.specs.declared.status.Status.TheVariants.{NotClear}

-- the first refusal, or the output; Unknown if it depends on contents that aren't told
pub data Verdict : Type 0 where
  Unknown : Verdict
  Refused : Status → Verdict
  Writes : Output → Verdict
  -- what slicing these bytes at a level gives, a refusal or an output
  Slices : (at : ℤ) (bytes : List ℕ) → Verdict

-- the contents of each file of the command line, in order, if they are told
abbrev pub Contents : Type 0
Contents = List (Option (List ℕ))

-- ---- Here and below, `after_x .. next` is a verdict in steps: the first step, `after_x ..`, reads or checks x, and
-- refuses it or passes a result on. `next` is what is done with this result
-- the step refuses nothing, and this is its result: whatever is done next is done with it
abbrev pub PassesOn : {A : Type 0} → ((A → Verdict) → Verdict) → A → Type 0
PassesOn {A} step result = (next : A → Verdict) → step next ≡ next result

-- the step refuses with this status, whatever would be done next
abbrev pub Refuses : {A : Type 0} → ((A → Verdict) → Verdict) → Status → Type 0
Refuses {A} step status = (next : A → Verdict) → step next ≡ Refused status

-- ---- a file; `next` is what is done with its bytes, or with its triangles. A file has 2^28 = 268435456 bytes at most,
-- and the refusal of a longer one names one byte more
abbrev pub after_bytes : ℕ → Option (List ℕ) → (List ℕ → Verdict) → Verdict
after_bytes i None next = Unknown
after_bytes i (Some bytes) next =
    if nat_le (length bytes) 268435456 then next bytes else Refused (Limit (Bytes i) 268435457)

-- the file is refused, or its triangles are passed on
abbrev pub after_triangles : ℕ → Result FileTriangles ObjFault → (List Tri → Verdict) → Verdict
after_triangles i (Err fault) next = Refused (ObjRefused i fault)
after_triangles i (Ok faces) next = next faces.tris

-- a file of triangles: its bytes, then its triangles
abbrev pub after_file : ℕ → ℕ → Option (List ℕ) → (List Tri → Verdict) → Verdict
after_file places i told next = after_bytes i told (λ bytes. after_triangles i (read_obj_of places i bytes) next)

-- ---- the files of a scene, one after another; each is a closed mesh
abbrev pub after_balance : ℕ → Option Loose → Verdict → Verdict
after_balance i None next = next
after_balance i (Some loose) next = Refused (MeshRefused i (Unbalanced loose))

-- a file that must be a closed mesh
abbrev pub after_mesh : ℕ → ℕ → Option (List ℕ) → (List Tri → Verdict) → Verdict
after_mesh places i told next = after_file places i told (λ tris. after_balance i (loose_of tris) (next tris))

-- all triangles together: no more than 262144
abbrev pub after_total : List Tri → (List Tri → Verdict) → Verdict
after_total tris next = if nat_le (length tris) 262144 then next tris else Refused (Limit Triangles (length tris))

-- file i and those after it; the files before it have these triangles
abbrev pub after_files : ℕ → ℕ → List Tri → Contents → (List Tri → Verdict) → Verdict
after_files places i tris [] next = after_total tris next
after_files places i tris (told ∷ more) next =
    after_mesh places i told (λ mesh. after_files places (i + 1) (tris ++ mesh) more next)

-- all files of a scene
abbrev pub after_scene : ℕ → Contents → (List Tri → Verdict) → Verdict
after_scene places contents next = after_files places 1 [] contents next

-- ---- an expression over this number of meshes
abbrev pub after_parse : Result Formula ExprFault → (Formula → Verdict) → Verdict
after_parse (Err fault) next = Refused (ExprRefused fault)
after_parse (Ok formula) next = next formula

-- an expression that is parsed
abbrev pub after_expr : List ℕ → ℕ → (Formula → Verdict) → Verdict
after_expr text meshes next = after_parse (expr_of text meshes) next

-- the same if one is given
abbrev pub after_given : Option (List ℕ) → ℕ → (Option Formula → Verdict) → Verdict
after_given None meshes next = next None
after_given (Some text) meshes next = after_expr text meshes (λ formula. next (Some formula))

-- ---- the verdicts of the commands
-- the contents of file i, from 1
abbrev pub file_at : Contents → ℕ → Option (List ℕ)
file_at contents i = get_or contents (i - 1) None

-- the verdict of `faces`
abbrev pub faces_verdict : ℕ → Option (List ℕ) → Verdict
faces_verdict places told = after_file places 1 told (λ tris. Writes (FaceTexts tris))

-- the verdict of `slice`
abbrev pub slice_verdict : ℤ → Option (List ℕ) → Verdict
slice_verdict at told = after_bytes 1 told (λ bytes. Slices at bytes)

-- a point that isn't clear of a triangle has no winding numbers
abbrev pub after_clear : Spot → List Tri → Verdict → Verdict
after_clear point tris next = if list_all (λ t. is_clear_of t point) tris then next else Refused NotClear

-- what `at` writes at a point of a scene, or that the point isn't clear
abbrev pub counts_verdict : Spot → ℕ → Option Formula → List Tri → Verdict
counts_verdict point meshes expr tris = after_clear point tris (Writes (Counts point meshes tris expr))

-- the verdict of `at`
abbrev pub at_verdict : Spot → Option (List ℕ) → ℕ → Contents → Verdict
at_verdict point expr places contents =
    after_given expr (length contents) (λ formula.
    after_scene places contents (counts_verdict point (length contents) formula))

-- the verdict of `voxels`
abbrev pub voxels_verdict : List ℕ → ℕ → ℕ → Contents → Verdict
voxels_verdict expr size places contents =
    after_expr expr (length contents) (λ formula.
    after_scene places contents (λ tris. Writes (Lattice tris formula size)))

-- an expression is refused if it is true outside all meshes, that is if it isn't `IsFalseOutside` (ember_meaning). To
-- `truth` a count past the end of the list is 0, too: a list of zeros of any other length would do, as in `IsBounded`
-- (Accepted.antt)
abbrev pub after_bounded : Formula → Verdict → Verdict
after_bounded formula next = if truth (replicate 64 (pos 0)) formula then Refused Unbounded else next

-- an expression that is parsed, and false outside all meshes
abbrev pub after_bounded_expr : List ℕ → ℕ → (Formula → Verdict) → Verdict
after_bounded_expr text meshes next = after_expr text meshes (λ formula. after_bounded formula (next formula))

-- the verdict of `bool`
abbrev pub bool_verdict : List ℕ → ℕ → Contents → Verdict
bool_verdict expr places contents =
    after_bounded_expr expr (length contents) (λ formula.
    after_scene places contents (λ tris. Writes (SolidFaces tris formula)))

-- the union of the two meshes
abbrev pub demo_verdict : ℕ → Verdict
demo_verdict boxes = after_expr (codes "m1|m2") 2 (λ formula. Writes (SolidReport (scene_of boxes) formula))

-- the verdict of `pairs`
abbrev pub pairs_verdict : ℕ → Contents → Verdict
pairs_verdict places contents = after_scene places contents (λ tris. Writes (MeetingPairs tris))

-- the verdict of a command; no command: the words are refused
abbrev pub verdict_of : Option Command → Contents → Verdict
verdict_of None contents = Refused Words
verdict_of (Some (command.Faces places file)) contents = faces_verdict places (file_at contents 1)
verdict_of (Some (command.At point expr places files)) contents = at_verdict point expr places contents
verdict_of (Some (command.Boole expr workers places report files)) contents = bool_verdict expr places contents
verdict_of (Some (command.Demo boxes workers)) contents = demo_verdict boxes
verdict_of (Some (command.Voxels expr size workers places files)) contents = voxels_verdict expr size places contents
verdict_of (Some (command.Pairs workers places files)) contents = pairs_verdict places contents
verdict_of (Some (command.Slice at file)) contents = slice_verdict at (file_at contents 1)

-- the names of the command's files, in order
abbrev pub names_of : Option Command → List (List ℕ)
names_of None = []
names_of (Some (command.Faces places file)) = file ∷ []
names_of (Some (command.At point expr places files)) = files
names_of (Some (command.Boole expr workers places report files)) = files
names_of (Some (command.Demo boxes workers)) = []
names_of (Some (command.Voxels expr size workers places files)) = files
names_of (Some (command.Pairs workers places files)) = files
names_of (Some (command.Slice at file)) = file ∷ []

-- the verdict by what a shelf tells of the contents under each name
abbrev pub told_verdict : Option Command → (List ℕ → Option (List ℕ)) → Verdict
told_verdict command told = verdict_of command (map told (names_of command))

-- the contents, with only those of the first n files told
abbrev pub first_told : ℕ → Contents → Contents
first_told n [] = []
first_told zero (told ∷ more) = None ∷ first_told zero more
first_told (suc n) (told ∷ more) = told ∷ first_told n more

-- the verdict if no contents are told from file i on: Unknown if nothing is refused before file i is read
abbrev pub verdict_before : ℕ → Option Command → (List ℕ → Option (List ℕ)) → Verdict
verdict_before i command told = verdict_of command (first_told (i - 1) (map told (names_of command)))
