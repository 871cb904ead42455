-- What a call of `ember` says of lent files: all are there if it ends with status 0, and the output is theirs
use Rattle.std.proofs.Common.{◌≡◌, ℕ, ◌+◌, ◌≤◌, List, [], ◌∷◌, ◌++◌, length, map, Bool, true, false, Some, None, All}
use Rattle.std.proofs.Common.{IsSome, Result, Ok, Err, refl, ap, ◌∙◌, arith, if◌then◌else◌, nat_le, unwrap_or, pos}
use Rattle.std.proofs.Common.{leb-true}
use Rattle.std.specs.Prelude.{replicate}
use Rattle.std.specs.declared.option.Option.{Option}
use Rattle.std.proofs.lemmas.List.{length-replicate}
use Rattle.std.proofs.lemmas.List.Elements.{All-cons, All-nil}
use Rattle.ember_balance.specs.declared.loose.Loose.{Loose}
use Rattle.ember_balance.specs.Loose.{loose_of}
use Rattle.ember_expr.specs.Formula.{Formula}
use Rattle.ember_expr.specs.Grammar.{expr_of}
use Rattle.ember_expr.specs.Truth.{truth}
use Rattle.ember_expr.specs.declared.fault.ExprFault.{ExprFault}
use Rattle.ember_io.specs.Files.{first_of}
use Rattle.ember_model.specs.declared.tri.Tri.{Tri}
use Rattle.ember_obj.specs.ReadObj.{read_obj_of}
use Rattle.ember_obj.specs.Table.{FileTriangles}
use Rattle.ember_obj.specs.declared.fault.ObjFault.{ObjFault}
use Rattle.ember_verdict.specs.Held.{AreContentsOf}
use Rattle.ember_verdict.specs.Lines.{number_of}
use Rattle.ember_verdict.specs.Outputs.{FaceTexts, Lattice, MeetingPairs, SolidFaces}
use Rattle.ember_verdict.specs.Statuses.{IsText}
use Rattle.ember_verdict.specs.Verdict.{Verdict, Refused, Writes, Slices, after_balance, after_bounded, after_bytes}
use Rattle.ember_verdict.specs.Verdict.{after_file, after_files, after_given, after_mesh, after_parse, after_scene}
use Rattle.ember_verdict.specs.Verdict.{after_triangles, counts_verdict, names_of, told_verdict}
use Rattle.ember_verdict.specs.declared.status.LimitKind.TheVariants as limit
use Rattle.ember_verdict.specs.declared.status.Status.{Status}
use Rattle.ember_verdict.specs.declared.status.Status.TheVariants as status
use Rattle.ember_words.specs.declared.command.Command.{Command}
use Rattle.ember_words.specs.declared.command.Command.TheVariants as command
use Rattle.ember_call.specs.Lent.{contents_of, too_many_bytes, zeros}

-- ---- files that are there
length-zeros : (count : ℕ) → length (zeros count) ≡ count
unfolding zeros
length-zeros count = length-replicate count 0

-- a name that holds no more bytes than a command reads is that of a file
pub is_there : (found : Option (List ℕ)) (bytes : List ℕ) → bytes ≡ unwrap_or found too_many_bytes → length bytes ≤ 268435456 →
    IsSome found
is_there None bytes e h = absurd (omega (arith, ap length e, length-zeros 268435457, h))
is_there (Some x) bytes e h = refl

-- the files with these names are there
abbrev pub AreThere : List (List ℕ × List ℕ) → List (List ℕ) → Type 0
AreThere files names = All (λ name. IsSome (first_of files name)) names

pub none_is_there : (files : List (List ℕ × List ℕ)) → AreThere files []
none_is_there files = All-nil (λ name. IsSome (first_of files name))

pub one_more_is_there : (files : List (List ℕ × List ℕ)) (name : List ℕ) (names : List (List ℕ)) → IsSome (first_of files name) →
    AreThere files names → AreThere files (name ∷ names)
one_more_is_there files name names h more = All-cons (λ name. IsSome (first_of files name)) name names h more

-- ---- steps of a verdict that has a text
bytes_step : (i : ℕ) (bytes : List ℕ) (next : List ℕ → Verdict) (out : List ℕ) → IsText (after_bytes i (Some bytes) next) out
    → (length bytes ≤ 268435456) × IsText (next bytes) out
bytes_step i bytes next out t = by (nat_le (length bytes) 268435456) refl t
  where
    by : (b : Bool) → nat_le (length bytes) 268435456 ≡ b
        → IsText (if b then next bytes else Refused (status.Limit (limit.Bytes i) 268435457)) out
        → (length bytes ≤ 268435456) × IsText (next bytes) out
    by true e t = (leb-true (length bytes) 268435456 e, t)
    by false e t = absurd t

triangles_step : (i : ℕ) (read : Result FileTriangles ObjFault) (next : List Tri → Verdict) (out : List ℕ)
    → IsText (after_triangles i read next) out → (tris : List Tri) × IsText (next tris) out
triangles_step i (Err fault) next out t = absurd t
triangles_step i (Ok faces) next out t = (faces.tris, t)

file_step : (places i : ℕ) (bytes : List ℕ) (next : List Tri → Verdict) (out : List ℕ)
    → IsText (after_file places i (Some bytes) next) out
    → (length bytes ≤ 268435456) × ((tris : List Tri) × IsText (next tris) out)
file_step places i bytes next out t =
    let b = bytes_step i bytes (λ bytes. after_triangles i (read_obj_of places i bytes) next) out t in
    (b.0, triangles_step i (read_obj_of places i bytes) next out b.1)

balance_step : (i : ℕ) (loose : Option Loose) (next : Verdict) (out : List ℕ) → IsText (after_balance i loose next) out → IsText next out
balance_step i None next out t = t
balance_step i (Some loose) next out t = absurd t

mesh_step : (places i : ℕ) (bytes : List ℕ) (next : List Tri → Verdict) (out : List ℕ)
    → IsText (after_mesh places i (Some bytes) next) out
    → (length bytes ≤ 268435456) × ((tris : List Tri) × IsText (next tris) out)
mesh_step places i bytes next out t =
    let f = file_step places i bytes (λ tris. after_balance i (loose_of tris) (next tris)) out t in
    (f.0, (f.1.0, balance_step i (loose_of f.1.0) (next f.1.0) out f.1.1))

parse_step : (parsed : Result Formula ExprFault) (next : Formula → Verdict) (out : List ℕ) → IsText (after_parse parsed next) out
    → (formula : Formula) × IsText (next formula) out
parse_step (Err fault) next out t = absurd t
parse_step (Ok formula) next out t = (formula, t)

given_step : (text : Option (List ℕ)) (meshes : ℕ) (next : Option Formula → Verdict) (out : List ℕ)
    → IsText (after_given text meshes next) out → (formula : Option Formula) × IsText (next formula) out
given_step None meshes next out t = (None, t)
given_step (Some text) meshes next out t =
    let p = parse_step (expr_of text meshes) (λ formula. next (Some formula)) out t in (Some p.0, p.1)

bounded_step : (formula : Formula) (next : Verdict) (out : List ℕ) → IsText (after_bounded formula next) out → IsText next out
bounded_step formula next out t = by (truth (replicate 64 (pos 0)) formula) t
  where
    by : (b : Bool) → IsText (if b then Refused status.Unbounded else next) out → IsText next out
    by true t = absurd t
    by false t = t

-- ---- the files of a command whose verdict has a text
files_are_there : (files : List (List ℕ × List ℕ)) (names : List (List ℕ)) (places i : ℕ) (tris : List Tri) (next : List Tri → Verdict)
    (out : List ℕ) → IsText (after_files places i tris (map (contents_of files) names) next) out → AreThere files names
files_are_there files [] places i tris next out t = none_is_there files
files_are_there files (name ∷ names) places i tris next out t =
    let m = mesh_step places i (unwrap_or (first_of files name) too_many_bytes)
    (λ mesh. after_files places (i + 1) (tris ++ mesh) (map (contents_of files) names) next) out t in
    one_more_is_there files name names (is_there (first_of files name) _ refl m.0)
    (files_are_there files names places (i + 1) (tris ++ m.1.0) next out m.1.1)

-- are there
pub named_files_are_there : (files : List (List ℕ × List ℕ)) (given : Option Command) (out : List ℕ)
    → IsText (told_verdict given (contents_of files)) out → AreThere files (names_of given)
named_files_are_there files None out t = absurd t
named_files_are_there files (Some (command.Faces places name)) out t =
    let f = file_step places 1 (unwrap_or (first_of files name) too_many_bytes) (λ tris. Writes (FaceTexts tris)) out t in
    one_more_is_there files name [] (is_there (first_of files name) _ refl f.0) (none_is_there files)
named_files_are_there files (Some (command.At point expr places names)) out t =
    let contents = map (contents_of files) names in
    let g = given_step expr (length contents) (λ formula. after_scene places contents (counts_verdict point (length contents) formula)) out t in
    files_are_there files names places 1 [] (counts_verdict point (length contents) g.0) out g.1
named_files_are_there files (Some (command.Boole expr workers places report names)) out t =
    let contents = map (contents_of files) names in
    let next : Formula → Verdict = λ formula. after_scene places contents (λ tris. Writes (SolidFaces tris formula)) in
    let p = parse_step (expr_of expr (length contents)) (λ formula. after_bounded formula (next formula)) out t in
    files_are_there files names places 1 [] (λ tris. Writes (SolidFaces tris p.0)) out (bounded_step p.0 (next p.0) out p.1)
named_files_are_there files (Some (command.Voxels expr size workers places names)) out t =
    let contents = map (contents_of files) names in
    let p = parse_step (expr_of expr (length contents)) (λ formula. after_scene places contents (λ tris. Writes (Lattice tris formula size))) out t in
    files_are_there files names places 1 [] (λ tris. Writes (Lattice tris p.0 size)) out p.1
named_files_are_there files (Some (command.Pairs workers places names)) out t =
    files_are_there files names places 1 [] (λ tris. Writes (MeetingPairs tris)) out t
named_files_are_there files (Some (command.Demo boxes workers)) out t = none_is_there files
named_files_are_there files (Some (command.Slice at name)) out t =
    let b = bytes_step 1 (unwrap_or (first_of files name) too_many_bytes) (λ bytes. Slices at bytes) out t in
    one_more_is_there files name [] (is_there (first_of files name) _ refl b.0) (none_is_there files)

-- ---- the contents of files that are told
-- there are no others
pub contents_are_known : (files : List (List ℕ × List ℕ)) (names contents : List (List ℕ)) →
    AreContentsOf (contents_of files) names contents → map (λ bytes. Some bytes) contents ≡ map (contents_of files) names
contents_are_known files [] [] h = refl
contents_are_known files [] (bytes ∷ contents) h = absurd h
contents_are_known files (name ∷ names) [] h = absurd h
contents_are_known files (name ∷ names) (bytes ∷ contents) h =
    ap (λ (b : List ℕ). Some b ∷ map (λ bytes. Some bytes) contents) h.0
    ∙ ap (λ rest. contents_of files name ∷ rest) (contents_are_known files names contents h.1)

-- ---- the status with the number 0
pub is_done : (s : Status) → number_of s ≡ 0 → s ≡ status.Done
is_done status.Done e = refl
is_done status.Words e = absurd (cc)
is_done (status.ReadFault i) e = absurd (cc)
is_done status.WriteFault e = absurd (cc)
is_done (status.ObjRefused i fault) e = absurd (cc)
is_done (status.MeshRefused i fault) e = absurd (cc)
is_done (status.ExprRefused fault) e = absurd (cc)
is_done status.Unbounded e = absurd (cc)
is_done (status.Limit kind count) e = absurd (cc)
is_done status.NotClear e = absurd (cc)
is_done (status.FaceRefused fault) e = absurd (cc)
is_done status.OutOfMemory e = absurd (cc)
