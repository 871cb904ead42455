-- A verdict is an output exactly if the input is accepted.
use Rattle.std.proofs.Common.{◌≡◌, ℕ, zero, suc, ◌+◌, ◌<◌, ◌≤◌, ℤ, pos, ◌<ℤ◌, Bool, true, false, not, cond, List, []}
use Rattle.std.proofs.Common.{◌∷◌, ◌++◌, length, map, filter, flat_map, get_or, replicate, Option, Some, None, Result}
use Rattle.std.proofs.Common.{Ok, Err, All, refl, sym, ap, subst, ◌∙◌, arith, append_assoc, nat_le, leb-true, le-leb}
use Rattle.std.specs.Prelude.{⊤, ◌↔◌}
use Rattle.std.specs.List.{AllByRecursion, list_all}
use Rattle.std.proofs.lemmas.List.{append-nil, length-map}
use Rattle.std.proofs.lemmas.List.Concat.{flat_map-cons}
use Rattle.ember_balance.specs.declared.loose.Loose.{Loose}
use Rattle.ember_balance.specs.Loose.{loose_of}
use Rattle.ember_balance.proofs.Least.{loose_of_balanced}
use Rattle.ember_expr.specs.declared.fault.ExprFault.{ExprFault}
use Rattle.ember_expr.specs.Derivation.{HasTree}
use Rattle.ember_expr.specs.Formula.{Formula, Mesh, Or}
use Rattle.ember_expr.specs.Grammar.{expr_of, whole}
use Rattle.ember_expr.specs.Truth.{truth}
use Rattle.ember_gen.specs.Scene.{scene_of}
use Rattle.ember_expr.proofs.OneTree.{parsed_has_tree, text_is_parsed}
use Rattle.ember_io.specs.Shelves.{Told}
use Rattle.ember_model.specs.declared.point.Spot.{Spot}
use Rattle.ember_model.specs.declared.tri.Tri.{Tri}
use Rattle.ember_model.specs.Clear.{AreClear, IsClear, IsClearOf}
use Rattle.ember_model.specs.ClearTest.{is_clear_of}
use Rattle.ember_model.specs.Faces.{face_of, is_flat}
use Rattle.ember_model.specs.Meshes.{IsScene, faces_of}
use Rattle.ember_model.specs.Valid.{IsValidTri}
use Rattle.ember_model.proofs.ClearPoints.{clear_of_to}
use Rattle.ember_model.proofs.SignTests.{clash}
use Rattle.ember_obj.specs.declared.fault.ObjFault.{ObjFault}
use Rattle.ember_obj.specs.Table.{FileTriangles, Table}
use Rattle.ember_obj.specs.ReadObj.{read_obj_of, table_of}
use Rattle.ember_obj.specs.ReadObj as obj
use Rattle.ember_obj.proofs.Soundness.{sound_table}
use Rattle.ember_words.specs.declared.command.Command.{Command}
use Rattle.ember_words.specs.declared.command.Command.TheVariants as command
use Rattle.ember_words.specs.WordsCommand.{command_of}
use Rattle.ember_words.specs.Within.{AreNames, IsWithinLimits, NamesFiles}
use Rattle.ember_words.proofs.Limited.{read_limits}
use Rattle.ember_words.proofs.NamedFiles.{words_name_files}
use Rattle.ember_verdict.specs.Accepted.{HasTreeIfGiven, IsAccepted, IsAcceptedSlice, IsAcceptedSolid, IsBounded, IsFileOf, IsMeshOf, IsSceneOf, HasBytes}
use Rattle.ember_verdict.specs.Accepted as accepted
use Rattle.ember_verdict.specs.Statuses.{HasOutput}
use Rattle.ember_verdict.specs.Outputs.{Output, FaceTexts, Counts, MeetingPairs, Lattice, SolidFaces, SolidReport}
use Rattle.ember_verdict.specs.Verdict.{Contents, Verdict, Unknown, Refused, Writes, Slices, after_balance}
use Rattle.ember_verdict.specs.Verdict.{after_bounded, after_bytes, after_expr, after_file, after_files, after_given}
use Rattle.ember_verdict.specs.Verdict.{after_mesh, after_parse, after_scene, after_bounded_expr, after_total}
use Rattle.ember_verdict.specs.Verdict.{after_triangles, counts_verdict, names_of, slice_verdict, told_verdict}
use Rattle.ember_verdict.specs.declared.status.Status.{Status}
use Rattle.ember_verdict.specs.declared.status.Status.TheVariants.{Limit, NotClear, Unbounded}
use Rattle.ember_verdict.specs.declared.status.LimitKind.TheVariants.{Bytes, Triangles}
use Rattle.ember_verdict.proofs.AcceptedScenes.{AreMeshes, mesh_more, no_meshes}
use Rattle.ember_verdict.proofs.ClearFaces.{clear_faces}
use Rattle.ember_verdict.proofs.NoneLoose.{balanced_if_none}
use Rattle.ember_verdict.proofs.ZeroVector.{zero_same}
use Rattle.ember_verdict.proofs.SceneFiles.{few_joined}

-- ---- verdicts that are no refusal
abbrev Answers : Verdict → Type 0
Answers Unknown = ⊥
Answers (Refused status) = ⊥
Answers (Writes output) = ⊤
Answers (Slices at bytes) = ⊤

-- these next steps are the verdict v
abbrev Leads : Verdict → Verdict → Type 0
Leads verdict v = Answers v × (verdict ≡ v)

not_refused : (status : Status) (v : Verdict) → Leads (Refused status) v → ⊥
not_refused status v l = subst Answers (sym l.1) l.0

not_unknown : (v : Verdict) → Leads Unknown v → ⊥
not_unknown v l = subst Answers (sym l.1) l.0

if_true : (b : Bool) (x : Verdict) (status : Status) (v : Verdict) → Leads (cond b x (Refused status)) v → (b ≡ true) × Leads x v
if_true true x status v l = (refl, l)
if_true false x status v l = absurd (not_refused status v l)

if_false : (b : Bool) (x : Verdict) (status : Status) (v : Verdict) → Leads (cond b (Refused status) x) v → (b ≡ false) × Leads x v
if_false true x status v l = absurd (not_refused status v l)
if_false false x status v l = (refl, l)

-- ---- a file
bytes_to : (i : ℕ) (told : Option (List ℕ)) (next : List ℕ → Verdict) (v : Verdict) →
    Leads (after_bytes i told next) v → (bytes : List ℕ) × HasBytes told bytes × Leads (next bytes) v
bytes_to i None next v l = absurd (not_unknown v l)
bytes_to i (Some bytes) next v l =
    let k = if_true (nat_le (length bytes) 268435456) (next bytes) (Limit (Bytes i) 268435457) v l in
    (bytes, record { is = refl; short = leb-true (length bytes) 268435456 k.0 }, k.1)

bytes_from : (i : ℕ) (told : Option (List ℕ)) (bytes : List ℕ) (next : List ℕ → Verdict) → HasBytes told bytes → after_bytes i told next ≡ next bytes
bytes_from i told bytes next file =
    ap (λ (told : Option (List ℕ)). after_bytes i told next) file.is ∙ rw (le-leb (length bytes) 268435456 file.short) refl

triangles_to : (i : ℕ) (read : Result FileTriangles ObjFault) (next : List Tri → Verdict) (v : Verdict) →
    Leads (after_triangles i read next) v → (faces : FileTriangles) × (read ≡ Ok faces) × Leads (next faces.tris) v
triangles_to i (Err fault) next v l = absurd (not_refused _ v l)
triangles_to i (Ok faces) next v l = (faces, refl, l)

file_to : (places i : ℕ) (told : Option (List ℕ)) (next : List Tri → Verdict) (v : Verdict) →
    Leads (after_file places i told next) v → (tris : List Tri) × IsFileOf places i told tris × Leads (next tris) v
file_to places i told next v l =
    let b = bytes_to i told (λ bytes. after_triangles i (read_obj_of places i bytes) next) v l in
    let t = triangles_to i (read_obj_of places i b.0) next v b.2 in
    (t.0.tris, record { bytes = b.0; file = b.1; faces = t.0; read = t.1; are = refl }, t.2)

file_from : (places i : ℕ) (told : Option (List ℕ)) (tris : List Tri) (next : List Tri → Verdict) →
    IsFileOf places i told tris → after_file places i told next ≡ next tris
file_from places i told tris next is =
    bytes_from i told is.bytes (λ bytes. after_triangles i (read_obj_of places i bytes) next) is.file
    ∙ ap (λ (read : Result FileTriangles ObjFault). after_triangles i read next) is.read ∙ ap next (sym is.are)

balance_to : (i : ℕ) (loose : Option Loose) (next : Verdict) (v : Verdict) → Leads (after_balance i loose next) v → (loose ≡ None) × Leads next v
balance_to i None next v l = (refl, l)
balance_to i (Some loose) next v l = absurd (not_refused _ v l)

mesh_to : (places i : ℕ) (told : Option (List ℕ)) (next : List Tri → Verdict) (v : Verdict) →
    Leads (after_mesh places i told next) v → (tris : List Tri) × IsMeshOf places i told tris × Leads (next tris) v
mesh_to places i told next v l =
    let f = file_to places i told (λ tris. after_balance i (loose_of tris) (next tris)) v l in
    let b = balance_to i (loose_of f.0) (next f.0) v f.2 in
    (f.0, record { file = f.1; closed = balanced_if_none f.0 b.0 }, b.1)

mesh_from : (places i : ℕ) (told : Option (List ℕ)) (tris : List Tri) (next : List Tri → Verdict) →
    IsMeshOf places i told tris → after_mesh places i told next ≡ next tris
mesh_from places i told tris next is =
    file_from places i told tris (λ tris. after_balance i (loose_of tris) (next tris)) is.file
    ∙ ap (λ (loose : Option Loose). after_balance i loose (next tris)) (loose_of_balanced tris is.closed)

-- ---- the files of a scene
abbrev joined : List (List Tri) → List Tri
joined meshes = flat_map (λ mesh. mesh) meshes

-- the files from this number on are these meshes
record AreMeshesOf (places first : ℕ) (contents : Contents) (meshes : List (List Tri)) : Type 0 where
  one_each : length meshes ≡ length contents
  mesh : (i : ℕ) → i < length contents → IsMeshOf places (first + i) (get_or contents i None) (get_or meshes i [])

one_more : (places first : ℕ) (told : Option (List ℕ)) (contents : Contents) (mesh : List Tri)
    (meshes : List (List Tri)) → IsMeshOf places first told mesh → AreMeshesOf places (first + 1) contents meshes →
    AreMeshesOf places first (told ∷ contents) (mesh ∷ meshes)
one_more places first told contents mesh meshes is are = record { one_each = ap suc are.one_each; mesh = by }
  where
    by : (i : ℕ) → i < length (told ∷ contents) → IsMeshOf places (first + i) (get_or (told ∷ contents) i None) (get_or (mesh ∷ meshes) i [])
    by zero l = subst (λ (n : ℕ). IsMeshOf places n told mesh) (omega arith) is
    by (suc i) l = subst (λ (n : ℕ). IsMeshOf places n (get_or contents i None) (get_or meshes i [])) (omega arith) (are.mesh i (omega (arith, l)))

first_mesh : (places first : ℕ) (told : Option (List ℕ)) (contents : Contents) (mesh : List Tri)
    (meshes : List (List Tri)) → AreMeshesOf places first (told ∷ contents) (mesh ∷ meshes) →
    IsMeshOf places first told mesh
first_mesh places first told contents mesh meshes are = subst (λ (n : ℕ). IsMeshOf places n told mesh) (omega arith) (are.mesh 0 (omega arith))

later_meshes : (places first : ℕ) (told : Option (List ℕ)) (contents : Contents) (mesh : List Tri)
    (meshes : List (List Tri)) → AreMeshesOf places first (told ∷ contents) (mesh ∷ meshes) →
    AreMeshesOf places (first + 1) contents meshes
later_meshes places first told contents mesh meshes are = record {
  one_each = let e = are.one_each in omega (arith, e);
  mesh = λ i l. subst (λ (n : ℕ). IsMeshOf places n (get_or contents i None) (get_or meshes i [])) (omega arith) (are.mesh (suc i) (omega (arith, l)));
}

joined_after : (tris mesh : List Tri) (meshes : List (List Tri)) → tris ++ mesh ++ joined meshes ≡ tris ++ joined (mesh ∷ meshes)
joined_after tris mesh meshes =
    append_assoc tris mesh (joined meshes) ∙ ap (λ (ts : List Tri). tris ++ ts) (sym (flat_map-cons (λ mesh. mesh) mesh meshes))

files_to : (places first : ℕ) (tris : List Tri) (contents : Contents) (next : List Tri → Verdict) (v : Verdict) →
    Leads (after_files places first tris contents next) v →
    (meshes : List (List Tri)) × AreMeshesOf places first contents meshes × Leads
    (after_total (tris ++ joined meshes) next) v
files_to places first tris [] next v l = (
  [],
  record { one_each = refl; mesh = λ i l. absurd (omega (arith, l)) },
  subst (λ (ts : List Tri). Leads (after_total ts next) v) (sym (append-nil tris)) l,
)
files_to places first tris (told ∷ more) next v l =
    let m = mesh_to places first told (λ mesh. after_files places (first + 1) (tris ++ mesh) more next) v l in
    let r = files_to places (first + 1) (tris ++ m.0) more next v m.2 in
    (m.0 ∷ r.0, one_more places first told more m.0 r.0 m.1 r.1, subst (λ (ts : List Tri). Leads (after_total ts next) v) (joined_after tris m.0 r.0) r.2)

files_from : (places first : ℕ) (tris : List Tri) (contents : Contents) (meshes : List (List Tri)) (next : List Tri →
    Verdict) → AreMeshesOf places first contents meshes →
    after_files places first tris contents next ≡ after_total (tris ++ joined meshes) next
files_from places first tris [] [] next are = ap (λ (ts : List Tri). after_total ts next) (sym (append-nil tris))
files_from places first tris [] (mesh ∷ meshes) next are = let e = are.one_each in absurd (omega (arith, e))
files_from places first tris (told ∷ more) [] next are = let e = are.one_each in absurd (omega (arith, e))
files_from places first tris (told ∷ more) (mesh ∷ meshes) next are =
    mesh_from places first told mesh (λ mesh. after_files places (first + 1) (tris ++ mesh) more next)
    (first_mesh places first told more mesh meshes are)
    ∙ files_from places (first + 1) (tris ++ mesh) more meshes next
    (later_meshes places first told more mesh meshes are)
    ∙ ap (λ (ts : List Tri). after_total ts next) (joined_after tris mesh meshes)

scene_to : (places : ℕ) (contents : Contents) (next : List Tri → Verdict) (v : Verdict) → 1 ≤ length contents →
    length contents ≤ 64 → Leads (after_scene places contents next) v →
    (tris : List Tri) × IsSceneOf places contents tris × Leads (next tris) v
scene_to places contents next v some most l =
    let f = files_to places 1 [] contents next v l in
    let k = if_true (nat_le (length (joined f.0)) 262144) (next (joined f.0)) (Limit Triangles (length (joined f.0))) v f.2 in (
      joined f.0,
      record {
        some = some;
        most = most;
        meshes = f.0;
        one_each = f.1.one_each;
        mesh = λ i l. subst (λ (n : ℕ). IsMeshOf places n (get_or contents i None) (get_or f.0 i [])) (omega arith) (f.1.mesh i l);
        are = refl;
        few = leb-true (length (joined f.0)) 262144 k.0;
      },
      k.1,
    )

scene_meshes : (places : ℕ) (contents : Contents) (tris : List Tri) (is : IsSceneOf places contents tris) → AreMeshesOf places 1 contents is.meshes
scene_meshes places contents tris is = record {
  one_each = is.one_each;
  mesh = λ i l. subst (λ (n : ℕ). IsMeshOf places n (get_or contents i None) (get_or is.meshes i [])) (omega arith) (is.mesh i l);
}

scene_from : (places : ℕ) (contents : Contents) (tris : List Tri) (next : List Tri → Verdict) →
    IsSceneOf places contents tris → after_scene places contents next ≡ next tris
scene_from places contents tris next is =
    files_from places 1 [] contents is.meshes next (scene_meshes places contents tris is)
    ∙ ap (λ (ts : List Tri). after_total ts next) (sym is.are) ∙ few_joined tris next is.few

-- ---- their triangles are a scene
abbrev tris_in : Result FileTriangles ObjFault → List Tri
tris_in (Err fault) = []
tris_in (Ok faces) = faces.tris

sound_file : (places i : ℕ) (told : Option (List ℕ)) (tris : List Tri) → IsFileOf places i told tris → All IsValidTri tris × All (λ t. t.mesh ≡ i) tris
sound_file places i told tris is = by (table_of places i is.bytes) refl is.read
  where
    by : (table : Result Table ObjFault) → table_of places i is.bytes ≡ table →
        obj.file_triangles_of table ≡ Ok is.faces → All IsValidTri tris × All (λ t. t.mesh ≡ i) tris
    by (Err fault) e r = cc
    by (Ok table) e r =
        let sound = sound_table places i 1 is.bytes table [] e refl in
        let same : table.tris ≡ tris = ap (λ (r : Result FileTriangles ObjFault). tris_in r) r ∙ sym is.are in
        (subst (λ (ts : List Tri). All IsValidTri ts) same sound.tris, subst (λ (ts : List Tri). All (λ t. t.mesh ≡ i) ts) same sound.of_mesh)

are_meshes : (places count : ℕ) (ts : List Tri) (contents : Contents) (meshes : List (List Tri)) → AreMeshes ts count →
    AreMeshesOf places (count + 1) contents meshes → AreMeshes (ts ++ joined meshes) (count + length contents)
are_meshes places count ts [] [] so_far are =
    subst (λ (n : ℕ). AreMeshes (ts ++ []) n) (omega arith) (subst (λ (ts : List Tri). AreMeshes ts count) (sym (append-nil ts)) so_far)
are_meshes places count ts [] (mesh ∷ meshes) so_far are = let e = are.one_each in absurd (omega (arith, e))
are_meshes places count ts (told ∷ more) [] so_far are = let e = are.one_each in absurd (omega (arith, e))
are_meshes places count ts (told ∷ more) (mesh ∷ meshes) so_far are =
    let is = first_mesh places (count + 1) told more mesh meshes are in
    let sound = sound_file places (count + 1) told mesh is.file in
    let r = are_meshes places (count + 1) (ts ++ mesh) more meshes
    (mesh_more ts mesh count so_far sound.0 sound.1 is.closed)
    (later_meshes places (count + 1) told more mesh meshes are) in
    subst (λ (n : ℕ). AreMeshes (ts ++ joined (mesh ∷ meshes)) n) (omega arith)
    (subst (λ (ts : List Tri). AreMeshes ts (count + 1 + length more)) (joined_after ts mesh meshes) r)

-- the triangles of accepted files are a scene
pub accepted_is_scene : (places : ℕ) (contents : Contents) (tris : List Tri) → IsSceneOf places contents tris → IsScene tris (length contents)
accepted_is_scene places contents tris is =
    let from_none = are_meshes places 0 [] contents is.meshes no_meshes (scene_meshes places contents tris is) in
    let counted = subst (λ (n : ℕ). AreMeshes (joined is.meshes) n) (omega arith) from_none in
    let are = subst (λ (ts : List Tri). AreMeshes ts (length contents)) (sym is.are) counted in
    record { valid = are.valid; few = is.few; few_meshes = is.most; numbered = are.numbered; balanced = are.balanced }

-- ---- an expression
parse_to : (parsed : Result Formula ExprFault) (next : Formula → Verdict) (v : Verdict) →
    Leads (after_parse parsed next) v → (formula : Formula) × (parsed ≡ Ok formula) × Leads (next formula) v
parse_to (Err fault) next v l = absurd (not_refused _ v l)
parse_to (Ok formula) next v l = (formula, refl, l)

expr_to : (text : List ℕ) (meshes : ℕ) (next : Formula → Verdict) (v : Verdict) →
    Leads (after_expr text meshes next) v → (formula : Formula) × HasTree text meshes formula × Leads (next formula) v
expr_to text meshes next v l =
    let p = parse_to (expr_of text meshes) next v l in (p.0, parsed_has_tree text meshes p.0 p.1, p.2)

expr_from : (text : List ℕ) (meshes : ℕ) (formula : Formula) (next : Formula → Verdict) → HasTree text meshes formula →
    after_expr text meshes next ≡ next formula
expr_from text meshes formula next tree = ap (λ (parsed : Result Formula ExprFault). after_parse parsed next) (text_is_parsed text meshes formula tree)

given_to : (expr : Option (List ℕ)) (meshes : ℕ) (next : Option Formula → Verdict) (v : Verdict) →
    Leads (after_given expr meshes next) v → (formula : Option Formula) × HasTreeIfGiven meshes expr formula × Leads
    (next formula) v
given_to None meshes next v l = (None, accepted.not_given, l)
given_to (Some text) meshes next v l =
    let p = expr_to text meshes (λ formula. next (Some formula)) v l in (Some p.0, accepted.given_text p.1, p.2)

given_from : (expr : Option (List ℕ)) (meshes : ℕ) (formula : Option Formula) (next : Option Formula → Verdict) →
    HasTreeIfGiven meshes expr formula → after_given expr meshes next ≡ next formula
given_from None meshes None next accepted.not_given = refl
given_from None meshes (Some formula) next tree = elim tree [ ]
given_from (Some text) meshes None next tree = elim tree [ ]
given_from (Some text) meshes (Some formula) next (accepted.given_text tree) =
    expr_from text meshes formula (λ formula. next (Some formula)) tree

-- ---- a point
flat_or_clear : (t : Tri) (p : Spot) (b : Bool) → is_flat t ≡ b → (ts : List Tri) →
    AllByRecursion (λ f. IsClear f p) (map face_of
    (cond (not b) (t ∷ filter (λ t. not (is_flat t)) ts) (filter (λ t. not (is_flat t)) ts))) →
    IsClearOf t p × AreClear (faces_of ts) p
flat_or_clear t p true e ts c = (λ f. absurd (clash e f), c)
flat_or_clear t p false e ts c = (λ f. c.0, c.1)

clear_passes : (tris : List Tri) (p : Spot) → pos 0 <ℤ p.w → AreClear (faces_of tris) p → list_all (λ t. is_clear_of t p) tris ≡ true
clear_passes [] p w c = refl
clear_passes (t ∷ ts) p w c =
    let k = flat_or_clear t p (is_flat t) refl ts c in rw (clear_of_to t p w k.0) (clear_passes ts p w k.1)

-- ---- commands
told_length : (told : Told) (names : List (List ℕ)) → 1 ≤ length names → AreNames names → (1 ≤ length (map told names)) × (length (map told names) ≤ 64)
told_length told names some are =
    let e = length-map names told in let most = are.0 in (omega (arith, e, some), omega (arith, e, most))

abbrev output_of : Verdict → Output → Output
output_of Unknown other = other
output_of (Refused status) other = other
output_of (Writes output) other = output
output_of (Slices at bytes) other = other

-- two verdicts that are one output
same_output : (output other : Output) → Leads (Writes output) (Writes other) → output ≡ other
same_output output other l = ap (λ (v : Verdict). output_of v other) l.1

solid_to : (expr : List ℕ) (places : ℕ) (contents : Contents) (output : Output) → 1 ≤ length contents →
    length contents ≤ 64 → Leads (after_bounded_expr expr (length contents)
    (λ formula. after_scene places contents (λ tris. Writes (SolidFaces tris formula)))) (Writes output) →
    (tris : List Tri) × (formula : Formula) × IsAcceptedSolid expr places contents tris formula ×
    (SolidFaces tris formula ≡ output)
solid_to expr places contents output some most l =
    let p = expr_to expr (length contents) _ (Writes output) l in
    let b = if_false (truth (replicate 64 (pos 0)) p.0) (after_scene places contents (λ tris. Writes (SolidFaces tris p.0))) Unbounded (Writes output) p.2 in
    let s = scene_to places contents (λ tris. Writes (SolidFaces tris p.0)) (Writes output) some most b.1 in
    (s.0, p.0, record { scene = s.1; tree = p.1; bounded = zero_same (length contents) 64 p.0 ∙ b.0 }, same_output (SolidFaces s.0 p.0) output s.2)

bounded_from : (formula : Formula) (meshes : ℕ) (next : Verdict) → IsBounded meshes formula → after_bounded formula next ≡ next
bounded_from formula meshes next bounded = rw (zero_same 64 meshes formula ∙ bounded) refl

demo_given : (boxes workers : ℕ) (told : Told) →
    told_verdict (Some (command.Demo boxes workers)) told ≡ Writes (SolidReport (scene_of boxes) (Or (Mesh 1) (Mesh 2)))
unfolding whole
demo_given boxes workers told = refl

to : (given : Command) (told : Told) (output : Output) → IsWithinLimits given → NamesFiles given →
    told_verdict (Some given) told ≡ Writes output → IsAccepted given (map told (names_of (Some given))) output
to (command.Faces places name) told output limits names e =
    let f = file_to places 1 (told name) (λ tris. Writes (FaceTexts tris)) (Writes output) (tt, e) in
    subst (λ (output : Output). IsAccepted (command.Faces places name) (told name ∷ []) output) (same_output (FaceTexts f.0) output f.2) (accepted.of_faces f.1)
to (command.At point expr places names) told output limits some e =
    let contents = map told names in
    let n = told_length told names some limits.3 in
    let g = given_to expr (length contents) (λ formula. after_scene places contents (counts_verdict point (length contents) formula)) (Writes output) (tt, e) in
    let s = scene_to places contents (counts_verdict point (length contents) g.0) (Writes output) n.0 n.1 g.2 in
    let k = if_true (list_all (λ t. is_clear_of t point) s.0) (Writes (Counts point (length contents) s.0 g.0)) NotClear (Writes output) s.2 in
    subst (λ (output : Output). IsAccepted (command.At point expr places names) contents output)
    (same_output (Counts point (length contents) s.0 g.0) output k.1)
    (accepted.of_at (record { scene = s.1; tree = g.1; clear = clear_faces s.0 point limits.0.weight k.0 }))
to (command.Boole expr workers places report names) told output limits some e =
    let contents = map told names in
    let n = told_length told names some limits.3 in
    let s = solid_to expr places contents output n.0 n.1 (tt, e) in
    subst (λ (output : Output). IsAccepted (command.Boole expr workers places report names) contents output) s.3 (accepted.of_bool s.2)
to (command.Demo boxes workers) told output limits some e =
    subst (λ (output : Output). IsAccepted (command.Demo boxes workers) [] output)
    (same_output _ output (tt, sym (demo_given boxes workers told) ∙ e)) accepted.of_demo
to (command.Voxels expr size workers places names) told output limits some e =
    let contents = map told names in
    let n = told_length told names some limits.4 in
    let p = expr_to expr (length contents) (λ formula. after_scene places contents (λ tris. Writes (Lattice tris formula size))) (Writes output) (tt, e) in
    let s = scene_to places contents (λ tris. Writes (Lattice tris p.0 size)) (Writes output) n.0 n.1 p.2 in
    subst (λ (output : Output). IsAccepted (command.Voxels expr size workers places names) contents output)
    (same_output (Lattice s.0 p.0 size) output s.2) (accepted.of_voxels (record { scene = s.1; tree = p.1 }))
to (command.Pairs workers places names) told output limits some e =
    let contents = map told names in
    let n = told_length told names some limits.2 in
    let s = scene_to places contents (λ tris. Writes (MeetingPairs tris)) (Writes output) n.0 n.1 (tt, e) in
    subst (λ (output : Output). IsAccepted (command.Pairs workers places names) contents output)
    (same_output (MeetingPairs s.0) output s.2) (accepted.of_pairs s.1)
to (command.Slice at name) told output limits some e =
    let b = bytes_to 1 (told name) (λ bytes. Slices at bytes) (Writes output) (tt, e) in absurd (no_slice at b.0 output b.2.1)
  where
    no_slice : (at : ℤ) (bytes : List ℕ) (output : Output) → Slices at bytes ≡ Writes output → ⊥
    no_slice at bytes output e = cc

from : (given : Command) (told : Told) (output : Output) → IsWithinLimits given →
    IsAccepted given (map told (names_of (Some given))) output → told_verdict (Some given) told ≡ Writes output
from (command.Faces places name) told output limits (accepted.of_faces {tris = tris} is) =
    file_from places 1 (told name) tris (λ tris. Writes (FaceTexts tris)) is
from (command.At point expr places names) told output limits (accepted.of_at {tris = tris} {formula = formula} is) =
    let contents = map told names in
    given_from expr (length contents) formula (λ formula. after_scene places contents
    (counts_verdict point (length contents) formula)) is.tree
    ∙ scene_from places contents tris (counts_verdict point (length contents) formula) is.scene
    ∙ rw (clear_passes tris point limits.0.weight is.clear) refl
from (command.Boole expr workers places report names) told output limits (accepted.of_bool {tris = tris} {formula = formula} is) =
    let contents = map told names in
    expr_from expr (length contents) formula (λ formula. after_bounded formula
    (after_scene places contents (λ tris. Writes (SolidFaces tris formula)))) is.tree
    ∙ bounded_from formula (length contents) _ is.bounded
    ∙ scene_from places contents tris (λ tris. Writes (SolidFaces tris formula)) is.scene
from (command.Voxels expr size workers places names) told output limits (accepted.of_voxels {tris = tris} {formula = formula} is) =
    let contents = map told names in
    expr_from expr (length contents) formula (λ formula. after_scene places contents
    (λ tris. Writes (Lattice tris formula size))) is.tree
    ∙ scene_from places contents tris (λ tris. Writes (Lattice tris formula size)) is.scene
from (command.Pairs workers places names) told output limits (accepted.of_pairs {tris = tris} is) =
    scene_from places (map told names) tris (λ tris. Writes (MeetingPairs tris)) is
from (command.Demo boxes workers) told output limits accepted.of_demo = demo_given boxes workers told
from (command.Slice at name) told output limits is = elim is [ ]

-- a command asks for an output exactly if it accepts its input
pub accepted_has_output : (words : List (List ℕ)) (given : Command) → command_of words ≡ Some given →
    (told : Told) (output : Output) → (told_verdict (Some given) told ≡ Writes output) ↔
    IsAccepted given (map told (names_of (Some given))) output
accepted_has_output words given e told output =
    let limits = read_limits words (Ok given) e in (to given told output limits (words_name_files words given e), from given told output limits)

-- ---- a slice
asked : (verdict : Verdict) → HasOutput verdict → Answers verdict
asked Unknown a = a
asked (Refused status) a = a
asked (Writes output) a = tt
asked (Slices at bytes) a = tt

-- `slice` asks for an output exactly if it accepts its file
pub accepted_has_slice : (at : ℤ) (name : List ℕ) (told : Told) → HasOutput (told_verdict (Some (command.Slice at name)) told) ↔ IsAcceptedSlice at (told name)
accepted_has_slice at name told = (there, back)
  where
    there : HasOutput (slice_verdict at (told name)) → IsAcceptedSlice at (told name)
    there a =
        let b = bytes_to 1 (told name) (λ bytes. Slices at bytes) (slice_verdict at (told name)) (asked (slice_verdict at (told name)) a, refl) in
        record { bytes = b.0; file = b.1; sliceable = subst HasOutput (sym b.2.1) a }

    back : IsAcceptedSlice at (told name) → HasOutput (slice_verdict at (told name))
    back is = subst HasOutput (sym (bytes_from 1 (told name) is.bytes (λ bytes. Slices at bytes) is.file)) is.sliceable
