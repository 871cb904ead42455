-- The verdict by what a shelf tells, if it isn't unknown, is the verdict by contents that the files may have.
use Rattle.std.proofs.Common.{◌≡◌, ℕ, ◌+◌, Bool, true, false, List, [], ◌∷◌, ◌++◌, length, map, nat_le, Some, None, Result, Ok, Err, pos}
use Rattle.std.proofs.Common.{refl, sym, subst, ◌∙◌}
use Rattle.std.proofs.lemmas.List.{append-nil, length-map}
use Rattle.std.specs.Prelude.{replicate, if◌then◌else◌}
use Rattle.std.specs.declared.option.Option.{Option}
use Rattle.ember_balance.specs.Loose.{loose_of}
use Rattle.ember_balance.specs.declared.loose.Loose.{Loose}
use Rattle.ember_expr.specs.declared.fault.ExprFault.{ExprFault}
use Rattle.ember_expr.specs.Formula.{Formula}
use Rattle.ember_expr.specs.Grammar.{expr_of}
use Rattle.ember_expr.specs.Truth.{truth}
use Rattle.ember_io.specs.Shelves.{Tells}
use Rattle.ember_model.specs.declared.tri.Tri.{Tri}
use Rattle.ember_obj.specs.declared.fault.ObjFault.{ObjFault}
use Rattle.ember_obj.specs.ReadObj.{read_obj_of}
use Rattle.ember_obj.specs.Table.{FileTriangles}
use Rattle.ember_words.specs.declared.command.Command.{Command}
use Rattle.ember_words.specs.declared.command.Command.TheVariants as command
use Rattle.ember_verdict.specs.Held.{AreContentsOf}
use Rattle.ember_verdict.specs.OneText.{HaveOneVerdict, by_workers}
use Rattle.ember_verdict.specs.Outputs.{FaceTexts, Lattice, MeetingPairs, SolidFaces}
use Rattle.ember_verdict.specs.declared.status.LimitKind.TheVariants.{Bytes}
use Rattle.ember_verdict.specs.declared.status.Status.TheVariants.{Limit, Unbounded}
use Rattle.ember_verdict.specs.Verdict.{Contents, Verdict, Refused, Writes, Slices, after_balance, after_bounded}
use Rattle.ember_verdict.specs.Verdict.{after_bounded_expr, after_bytes, after_expr, after_file, after_files, after_given}
use Rattle.ember_verdict.specs.Verdict.{after_mesh, after_parse, after_scene, after_triangles, counts_verdict, demo_verdict}
use Rattle.ember_verdict.specs.Verdict.{names_of, told_verdict, verdict_of}
use Rattle.ember_verdict.proofs.HeldContents.{contents_count}
use Rattle.ember_verdict.proofs.NoReplies.{asks}
use Rattle.ember_verdict.proofs.Verdicts.{IsSameIfTold, same_self}

-- ---- a file
unless_refused : (b : Bool) (u v w : Verdict) → IsSameIfTold u v → IsSameIfTold (if b then u else w) (if b then v else w)
unless_refused true u v w h = h
unless_refused false u v w h = same_self w

bytes_told : (i : ℕ) (told : Option (List ℕ)) (bytes : List ℕ) (next other : List ℕ → Verdict) → Tells told bytes →
    ((bytes : List ℕ) → IsSameIfTold (next bytes) (other bytes)) →
    IsSameIfTold (after_bytes i told next) (after_bytes i (Some bytes) other)
bytes_told i None bytes next other t h = tt
bytes_told i (Some told) bytes next other t h =
    subst (λ (b : List ℕ). IsSameIfTold (after_bytes i (Some told) next) (after_bytes i (Some b) other)) (sym t)
    (unless_refused (nat_le (length told) 268435456) (next told) (other told) (Refused (Limit (Bytes i) 268435457)) (h told))

triangles_told : (i : ℕ) (read : Result FileTriangles ObjFault) (next other : List Tri → Verdict) →
    ((tris : List Tri) → IsSameIfTold (next tris) (other tris)) →
    IsSameIfTold (after_triangles i read next) (after_triangles i read other)
triangles_told i (Err fault) next other h = refl
triangles_told i (Ok faces) next other h = h faces.tris

file_told : (places i : ℕ) (told : Option (List ℕ)) (bytes : List ℕ) (next other : List Tri → Verdict) →
    Tells told bytes → ((tris : List Tri) → IsSameIfTold (next tris) (other tris)) →
    IsSameIfTold (after_file places i told next) (after_file places i (Some bytes) other)
file_told places i told bytes next other t h =
    bytes_told i told bytes (λ bytes. after_triangles i (read_obj_of places i bytes) next)
    (λ bytes. after_triangles i (read_obj_of places i bytes) other) t
    (λ bytes. triangles_told i (read_obj_of places i bytes) next other h)

-- ---- the files of a scene
balance_told : (i : ℕ) (loose : Option Loose) (next other : Verdict) → IsSameIfTold next other →
    IsSameIfTold (after_balance i loose next) (after_balance i loose other)
balance_told i None next other h = h
balance_told i (Some loose) next other h = refl

mesh_told : (places i : ℕ) (told : Option (List ℕ)) (bytes : List ℕ) (next other : List Tri → Verdict) →
    Tells told bytes → ((tris : List Tri) → IsSameIfTold (next tris) (other tris)) →
    IsSameIfTold (after_mesh places i told next) (after_mesh places i (Some bytes) other)
mesh_told places i told bytes next other t h =
    file_told places i told bytes (λ tris. after_balance i (loose_of tris) (next tris))
    (λ tris. after_balance i (loose_of tris) (other tris)) t
    (λ tris. balance_told i (loose_of tris) (next tris) (other tris) (h tris))

-- files with these names, and more after them
pub files_told : (places i : ℕ) (tris : List Tri) (told : List ℕ → Option (List ℕ)) (names contents : List (List ℕ))
    (more : Contents) (next : List Tri → Verdict) → AreContentsOf told names contents →
    IsSameIfTold (after_files places i tris (map told names ++ more) next)
    (after_files places i tris (map Some contents ++ more) next)
files_told places i tris told [] [] more next h = same_self (after_files places i tris more next)
files_told places i tris told [] (bytes ∷ contents) more next h = absurd h
files_told places i tris told (name ∷ names) [] more next h = absurd h
files_told places i tris told (name ∷ names) (bytes ∷ contents) more next h =
    mesh_told places i (told name) bytes
    (λ mesh. after_files places (i + 1) (tris ++ mesh) (map told names ++ more) next)
    (λ mesh. after_files places (i + 1) (tris ++ mesh) (map Some contents ++ more) next) h.0
    (λ mesh. files_told places (i + 1) (tris ++ mesh) told names contents more next h.1)

scene_told : (places : ℕ) (told : List ℕ → Option (List ℕ)) (names contents : List (List ℕ))
    (next : List Tri → Verdict) → AreContentsOf told names contents →
    IsSameIfTold (after_scene places (map told names) next) (after_scene places (map Some contents) next)
scene_told places told names contents next h =
    subst (λ (all : Contents). IsSameIfTold (after_scene places all next) (after_scene places (map Some contents) next))
    (append-nil (map told names))
    (subst (λ (all : Contents). IsSameIfTold (after_scene places (map told names ++ []) next) (after_scene places all next))
    (append-nil (map Some contents)) (files_told places 1 [] told names contents [] next h))

-- ---- an expression first
abbrev KeepsTold : {T : Type 0} → ((T → Verdict) → Verdict) → Type 0
KeepsTold {T = T} after =
    (next other : T → Verdict) → ((t : T) → IsSameIfTold (next t) (other t)) → IsSameIfTold (after next) (after other)

parse_keeps : (parsed : Result Formula ExprFault) → KeepsTold (after_parse parsed)
parse_keeps (Err fault) next other h = refl
parse_keeps (Ok formula) next other h = h formula

given_keeps : (text : Option (List ℕ)) (meshes : ℕ) → KeepsTold (after_given text meshes)
given_keeps None meshes next other h = h None
given_keeps (Some text) meshes next other h =
    parse_keeps (expr_of text meshes) (λ formula. next (Some formula)) (λ formula. other (Some formula)) (λ formula. h (Some formula))

bounded_told : (b : Bool) (next other : Verdict) → IsSameIfTold next other →
    IsSameIfTold (if b then Refused Unbounded else next) (if b then Refused Unbounded else other)
bounded_told true next other h = refl
bounded_told false next other h = h

bounded_keeps : (text : List ℕ) (meshes : ℕ) → KeepsTold (after_bounded_expr text meshes)
bounded_keeps text meshes next other h =
    parse_keeps (expr_of text meshes) (λ formula. after_bounded formula (next formula)) (λ formula. after_bounded formula (other formula))
    (λ formula. bounded_told (truth (replicate 64 (pos 0)) formula) (next formula) (other formula) (h formula))

asked_told : {T : Type 0} (after : ℕ → (T → Verdict) → Verdict) (next : ℕ → T → List Tri → Verdict) (places : ℕ)
    (told : List ℕ → Option (List ℕ)) (names contents : List (List ℕ)) → ((meshes : ℕ) → KeepsTold (after meshes)) →
    AreContentsOf told names contents →
    IsSameIfTold (asks after next places (map told names)) (asks after next places (map Some contents))
asked_told {T = T} after next places told names contents keeps h =
    let n = length (map told names) in
    let count : n ≡ length (map Some contents) =
    length-map names told ∙ sym (length-map contents Some ∙ contents_count told names contents h) in
    subst (λ (m : ℕ). IsSameIfTold (asks after next places (map told names))
    (after m (λ t. after_scene places (map Some contents) (next m t)))) count
    (keeps n (λ (t : T). after_scene places (map told names) (next n t))
    (λ (t : T). after_scene places (map Some contents) (next n t))
    (λ t. scene_told places told names contents (next n t) h))

-- ---- all commands
pub verdict_told : (command : Option Command) (told : List ℕ → Option (List ℕ)) (contents : List (List ℕ)) →
    AreContentsOf told (names_of command) contents →
    IsSameIfTold (told_verdict command told) (verdict_of command (map Some contents))
verdict_told None told contents h = refl
verdict_told (Some (command.Faces places file)) told [] h = absurd h
verdict_told (Some (command.Faces places file)) told (bytes ∷ contents) h =
    file_told places 1 (told file) bytes (λ tris. Writes (FaceTexts tris)) (λ tris. Writes (FaceTexts tris)) h.0 (λ tris. refl)
verdict_told (Some (command.At point expr places files)) told contents h =
    asked_told (after_given expr) (counts_verdict point) places told files contents (given_keeps expr) h
verdict_told (Some (command.Boole expr workers places report files)) told contents h =
    asked_told (after_bounded_expr expr) (λ m formula tris. Writes (SolidFaces tris formula)) places told files contents
    (bounded_keeps expr) h
verdict_told (Some (command.Demo boxes workers)) told contents h = same_self (demo_verdict boxes)
verdict_told (Some (command.Voxels expr size workers places files)) told contents h =
    asked_told (after_expr expr) (λ m formula tris. Writes (Lattice tris formula size)) places told files contents
    (λ meshes. parse_keeps (expr_of expr meshes)) h
verdict_told (Some (command.Pairs workers places files)) told contents h =
    scene_told places told files contents (λ tris. Writes (MeetingPairs tris)) h
verdict_told (Some (command.Slice at file)) told [] h = absurd h
verdict_told (Some (command.Slice at file)) told (bytes ∷ contents) h =
    bytes_told 1 (told file) bytes (λ bytes. Slices at bytes) (λ bytes. Slices at bytes) h.0 (λ bytes. refl)

-- the number of workers is no matter
pub verdict_by_workers : (given : Command) (workers : ℕ) → HaveOneVerdict (by_workers workers given) given
verdict_by_workers (command.Faces places file) workers = λ told. refl
verdict_by_workers (command.At point expr places files) workers = λ told. refl
verdict_by_workers (command.Boole expr n places report files) workers = λ told. refl
verdict_by_workers (command.Demo boxes n) workers = λ told. refl
verdict_by_workers (command.Voxels expr size n places files) workers = λ told. refl
verdict_by_workers (command.Pairs n places files) workers = λ told. refl
verdict_by_workers (command.Slice at file) workers = λ told. refl
