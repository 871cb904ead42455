-- The triangles of the output that an accepted input asks for are a scene, so the input has one text.
use Rattle.std.proofs.Common.{◌≡◌, ◌≢◌, ℕ, ◌+◌, ◌≤◌, Bool, true, false, cond, List, [], ◌∷◌, ◌++◌, length, map, Option}
use Rattle.std.proofs.Common.{Some, None, Result, Ok, Err, All, codes, refl, sym, subst, ◌∙◌, arith, eqb, nat_le}
use Rattle.std.specs.Prelude.{⊤, pos, replicate}
use Rattle.std.specs.List.{list_all}
use Rattle.std.proofs.lemmas.Bool.{leb-true}
use Rattle.std.proofs.lemmas.List.{length-map}
use Rattle.std.proofs.lemmas.List.Elements.{All-nil, All-append, filter-append}
use Rattle.ember_balance.specs.declared.loose.Loose.{Loose}
use Rattle.ember_balance.specs.Loose.{loose_of}
use Rattle.ember_balance.proofs.Balanced.{balanced-nil, balanced-append, balanced_of_mesh}
use Rattle.ember_expr.specs.declared.fault.ExprFault.{ExprFault}
use Rattle.ember_expr.specs.Formula.{Formula}
use Rattle.ember_expr.specs.Grammar.{expr_of}
use Rattle.ember_expr.specs.Truth.{truth}
use Rattle.ember_gen.specs.Scene.{scene_of}
use Rattle.ember_gen.proofs.Scenes.{is_scene}
use Rattle.ember_model.specs.declared.point.Spot.{Spot}
use Rattle.ember_model.specs.declared.tri.Tri.{Tri}
use Rattle.ember_model.specs.ClearTest.{is_clear_of}
use Rattle.ember_model.specs.Meshes.{of_mesh, IsBalanced, HasMesh, IsScene}
use Rattle.ember_model.specs.Valid.{IsValidTri}
use Rattle.ember_obj.specs.declared.fault.ObjFault.{ObjFault}
use Rattle.ember_obj.specs.Table.{Table}
use Rattle.ember_obj.specs.ReadObj as obj
use Rattle.ember_obj.proofs.Soundness.{sound_table}
use Rattle.ember_words.specs.declared.command.Command.{Command}
use Rattle.ember_words.specs.declared.command.Command.TheVariants as command
use Rattle.ember_words.specs.WordsCommand.{command_of}
use Rattle.ember_words.specs.Within.{IsWithinLimits}
use Rattle.ember_words.proofs.Limited.{read_limits}
use Rattle.ember_verdict.specs.Held.{MayHold}
use Rattle.ember_verdict.specs.OfScenes.{IsOfScene}
use Rattle.ember_verdict.specs.Outputs.{Output, FaceTexts, Counts, MeetingPairs, Lattice, SolidFaces, SolidReport}
use Rattle.ember_verdict.specs.Reported.{IsErrText, IsReportOfVerdictIfAsked, IsReportOfOutput, asks_report}
use Rattle.ember_verdict.specs.Statuses.{IsTextIfTold}
use Rattle.ember_verdict.specs.declared.status.Status.{Status}
use Rattle.ember_verdict.specs.declared.status.Status.TheVariants.{Done, Unbounded, NotClear, Limit}
use Rattle.ember_verdict.specs.declared.status.LimitKind.TheVariants.{Bytes, Triangles}
use Rattle.ember_verdict.specs.Verdict.{Contents, Verdict, Unknown, Refused, Writes, Slices, after_bytes}
use Rattle.ember_verdict.specs.Verdict.{after_triangles, after_file, after_balance, after_files, after_scene}
use Rattle.ember_verdict.specs.Verdict.{after_parse, after_given, after_bounded, after_bounded_expr, after_clear}
use Rattle.ember_verdict.specs.Verdict.{names_of, told_verdict, verdict_of}
use Rattle.ember_verdict.proofs.NoneLoose.{balanced_if_none}
use Rattle.ember_verdict.proofs.OneTexts.{output_one, report_one, slice_one}
use Rattle.ember_verdict.proofs.ToldVerdicts.{verdict_told}
use Rattle.ember_verdict.proofs.Verdicts.{known_then}

-- ---- the meshes of a scene, one after another
-- the triangles of `count` closed meshes
pub record AreMeshes (ts : List Tri) (count : ℕ) : Type 0 where
  pub valid : All IsValidTri ts
  pub numbered : All (HasMesh count) ts
  pub balanced : (m : ℕ) → IsBalanced (of_mesh m ts)

-- no triangles are no meshes
pub no_meshes : AreMeshes [] 0
no_meshes = record { valid = All-nil IsValidTri; numbered = All-nil (HasMesh 0); balanced = λ m. balanced-nil }

-- one more closed mesh
pub mesh_more : (ts mesh : List Tri) (count : ℕ) → AreMeshes ts count → All IsValidTri mesh →
    All (λ t. t.mesh ≡ count + 1) mesh → IsBalanced mesh → AreMeshes (ts ++ mesh) (count + 1)
mesh_more ts mesh count are valid of balanced = record {
  valid = All-append IsValidTri ts mesh are.valid valid;
  numbered = All-append (HasMesh (count + 1)) ts mesh (λ i d l. let h = are.numbered i d l in let first = h.first in
      let last = h.last in record { first = first; last = omega (arith, last) }) (λ i d l. let e = of i d l in
      record { first = omega (arith, e); last = omega (arith, e) });
  balanced = λ m. subst IsBalanced (sym (filter-append (λ t. eqb t.mesh m) ts mesh))
      (balanced-append (of_mesh m ts) (of_mesh m mesh) (are.balanced m)
      (balanced_of_mesh m (count + 1) mesh of balanced));
}

-- ---- verdicts
-- if the verdict is an output, its triangles are those of a scene
abbrev HasScene : Verdict → Type 0
HasScene Unknown = ⊤
HasScene (Refused status) = ⊤
HasScene (Writes output) = IsOfScene output
HasScene (Slices at bytes) = ⊤

chosen : (b : Bool) (u v : Verdict) → (b ≡ true → HasScene u) → HasScene v → HasScene (cond b u v)
chosen true u v h k = h refl
chosen false u v h k = k

bytes_scene : (i : ℕ) (told : Option (List ℕ)) (next : List ℕ → Verdict) → ((bytes : List ℕ) → HasScene (next bytes)) → HasScene (after_bytes i told next)
bytes_scene i None next h = tt
bytes_scene i (Some bytes) next h =
    chosen (nat_le (length bytes) 268435456) (next bytes) (Refused (Limit (Bytes i) 268435457)) (λ e. h bytes) tt

file_scene : (places i : ℕ) (told : Option (List ℕ)) (next : List Tri → Verdict) →
    ((tris : List Tri) → All IsValidTri tris → All (λ t. t.mesh ≡ i) tris → HasScene (next tris)) →
    HasScene (after_file places i told next)
file_scene places i told next h =
    bytes_scene i told (λ bytes. after_triangles i (obj.read_obj_of places i bytes) next) (λ bytes. read bytes (obj.table_of places i bytes) refl)
  where
    read : (bytes : List ℕ) (table : Result Table ObjFault) → obj.table_of places i bytes ≡ table →
        HasScene (after_triangles i (obj.file_triangles_of table) next)
    read bytes (Err fault) e = tt
    read bytes (Ok table) e =
        let sound = sound_table places i 1 bytes table [] e refl in h table.tris sound.tris sound.of_mesh

module _ (places : ℕ) (next : List Tri → Verdict) (h : (tris : List Tri) (meshes : ℕ) → IsScene tris meshes → HasScene (next tris)) where
  files_scene : (count : ℕ) (tris : List Tri) (contents : Contents) → AreMeshes tris count →
      count + length contents ≤ 64 → HasScene (after_files places (count + 1) tris contents next)
  files_scene count tris [] are l =
      chosen (nat_le (length tris) 262144) (next tris) (Refused (Limit Triangles (length tris)))
      (λ e. h tris count (record {
        valid = are.valid;
        few = leb-true (length tris) 262144 e;
        few_meshes =
            omega (arith, l);
        numbered = are.numbered;
        balanced = are.balanced;
      })) tt
  files_scene count tris (told ∷ more) are l =
      file_scene places (count + 1) told (λ mesh. after_balance (count + 1) (loose_of mesh) (rest mesh))
      (λ mesh valid of. by mesh valid of (loose_of mesh) refl
      (λ are. files_scene (count + 1) (tris ++ mesh) more are (omega (arith, l))))
    where
      rest : List Tri → Verdict
      rest mesh = after_files places (count + 1 + 1) (tris ++ mesh) more next

      by : (mesh : List Tri) → All IsValidTri mesh → All (λ t. t.mesh ≡ count + 1) mesh → (loose : Option Loose) →
          loose_of mesh ≡ loose → (AreMeshes (tris ++ mesh) (count + 1) → HasScene (rest mesh)) →
          HasScene (after_balance (count + 1) loose (rest mesh))
      by mesh valid of (Some loose) e go_on = tt
      by mesh valid of None e go_on =
          go_on (mesh_more tris mesh count are valid of (balanced_if_none mesh e))

  scene_given : (contents : Contents) → length contents ≤ 64 → HasScene (after_scene places contents next)
  scene_given contents l = files_scene 0 [] contents no_meshes (omega (arith, l))

parse_scene : (parsed : Result Formula ExprFault) (next : Formula → Verdict) →
    ((formula : Formula) → HasScene (next formula)) → HasScene (after_parse parsed next)
parse_scene (Err fault) next h = tt
parse_scene (Ok formula) next h = h formula

given_scene : (expr : Option (List ℕ)) (meshes : ℕ) (next : Option Formula → Verdict) →
    ((formula : Option Formula) → HasScene (next formula)) → HasScene (after_given expr meshes next)
given_scene None meshes next h = h None
given_scene (Some text) meshes next h =
    parse_scene (expr_of text meshes) (λ formula. next (Some formula)) (λ formula. h (Some formula))

solid_scene : (expr : List ℕ) (meshes : ℕ) (next : Formula → Verdict) →
    ((formula : Formula) → HasScene (next formula)) → HasScene (after_bounded_expr expr meshes next)
solid_scene expr meshes next h =
    parse_scene (expr_of expr meshes) (λ formula. after_bounded formula (next formula))
    (λ formula. chosen (truth (replicate 64 (pos 0)) formula) (Refused Unbounded) (next formula) (λ e. tt)
    (h formula))

counts_scene : (point : Spot) (meshes : ℕ) (expr : Option Formula) (tris : List Tri) →
    HasScene (after_clear point tris (Writes (Counts point meshes tris expr)))
counts_scene point meshes expr tris =
    chosen (list_all (λ t. is_clear_of t point) tris) (Writes (Counts point meshes tris expr)) (Refused NotClear) (λ e. tt) tt

-- ---- commands
few_told : (told : List ℕ → Option (List ℕ)) (names : List (List ℕ)) → length names ≤ 64 → length (map told names) ≤ 64
few_told told names l = let e = length-map names told in omega (arith, l, e)

command_scene : (given : Command) (told : List ℕ → Option (List ℕ)) → IsWithinLimits given → HasScene (told_verdict (Some given) told)
command_scene (command.Faces places file) told l = file_scene places 1 (told file) _ (λ tris valid of. tt)
command_scene (command.At point expr places files) told l =
    given_scene expr (length (map told files)) _
    (λ formula. scene_given places _ (λ tris meshes is. counts_scene point (length (map told files)) formula tris)
    (map told files) (few_told told files l.3.0))
command_scene (command.Boole expr workers places report files) told l =
    solid_scene expr (length (map told files)) _
    (λ formula. scene_given places (λ tris. Writes (SolidFaces tris formula)) (λ tris meshes is. (meshes, is))
    (map told files) (few_told told files l.3.0))
command_scene (command.Demo boxes workers) told l =
    parse_scene (expr_of (codes "m1|m2") 2) (λ formula. Writes (SolidReport (scene_of boxes) formula))
    (λ formula. (2, is_scene boxes l.0.1))
command_scene (command.Voxels expr size workers places files) told l =
    parse_scene (expr_of expr (length (map told files))) _ (λ formula. scene_given places _ (λ tris meshes is. tt) (map told files) (few_told told files l.4.0))
command_scene (command.Pairs workers places files) told l =
    scene_given places _ (λ tris meshes is. tt) (map told files) (few_told told files l.2.0)
command_scene (command.Slice at file) told l = bytes_scene 1 (told file) _ (λ bytes. tt)

words_scene : (words : List (List ℕ)) (told : List ℕ → Option (List ℕ)) → HasScene (told_verdict (command_of words) told)
words_scene words told = by (command_of words) refl
  where
    by : (given : Option Command) → command_of words ≡ given → HasScene (told_verdict given told)
    by None e = tt
    by (Some given) e = command_scene given told (read_limits words (Ok given) e)

-- ---- one text
text_one : (verdict : Verdict) (one other : List ℕ) → HasScene verdict → verdict ≢ Unknown → IsTextIfTold verdict one → IsTextIfTold verdict other → one ≡ other
text_one Unknown one other s n a b = absurd (n refl)
text_one (Refused status) one other s n a b = absurd a
text_one (Writes output) one other s n a b = output_one output one other s a b
text_one (Slices at bytes) one other s n a b = slice_one at bytes one other a b

-- an input has one output
pub input_one : (words : List (List ℕ)) (told : List ℕ → Option (List ℕ)) (one other : List ℕ) →
    told_verdict (command_of words) told ≢ Unknown → IsTextIfTold (told_verdict (command_of words) told) one →
    IsTextIfTold (told_verdict (command_of words) told) other → one ≡ other
input_one words told one other n a b =
    text_one (told_verdict (command_of words) told) one other (words_scene words told) n a b

-- ---- one text on err
line_one : (output : Output) (one other : List ℕ) → IsOfScene output → IsReportOfOutput output one → IsReportOfOutput output other → one ≡ other
line_one (FaceTexts tris) one other s a b = absurd a
line_one (Counts point meshes tris expr) one other s a b = absurd a
line_one (MeetingPairs tris) one other s a b = absurd a
line_one (SolidFaces tris formula) one other s a b =
    report_one tris s.0 s.1 formula one other a b
line_one (SolidReport tris formula) one other s a b = absurd a
line_one (Lattice tris formula size) one other s a b = absurd a

report_if_one : (asked : Bool) (verdict : Verdict) (one other : List ℕ) → HasScene verdict → verdict ≢ Unknown →
    IsReportOfVerdictIfAsked asked verdict one → IsReportOfVerdictIfAsked asked verdict other → one ≡ other
report_if_one false verdict one other s n a b = a ∙ sym b
report_if_one true Unknown one other s n a b = absurd (n refl)
report_if_one true (Refused status) one other s n a b = absurd a
report_if_one true (Writes output) one other s n a b = line_one output one other s a b
report_if_one true (Slices at bytes) one other s n a b = absurd a

-- a report of contents that the files may have is that of the verdict by what is told, if that isn't unknown
report_known : (given : Option Command) (told : List ℕ → Option (List ℕ)) (line : List ℕ) →
    told_verdict given told ≢ Unknown → MayHold told (names_of given)
    (λ contents. IsReportOfVerdictIfAsked (asks_report given) (verdict_of given contents) line) →
    IsReportOfVerdictIfAsked (asks_report given) (told_verdict given told) line
report_known given told line n h =
    subst (λ (v : Verdict). IsReportOfVerdictIfAsked (asks_report given) v line)
    (known_then (told_verdict given told) (verdict_of given (map Some h.0)) n (verdict_told given told h.0 h.1)) h.2

err_text_one : (given : Option Command) (told : List ℕ → Option (List ℕ)) (status : Status) (one other : List ℕ) →
    HasScene (told_verdict given told) → told_verdict given told ≢ Unknown → IsErrText given told status one →
    IsErrText given told status other → one ≡ other
err_text_one given told Done one other s n a b =
    report_if_one (asks_report given) (told_verdict given told) one other s n (report_known given told one n a)
    (report_known given told other n b)
err_text_one given told status one other s n a b = a ∙ sym b

-- an input and a status have one text on err
pub err_one : (words : List (List ℕ)) (told : List ℕ → Option (List ℕ)) (status : Status) (one other : List ℕ) →
    told_verdict (command_of words) told ≢ Unknown → IsErrText (command_of words) told status one →
    IsErrText (command_of words) told status other → one ≡ other
err_one words told status one other n a b =
    err_text_one (command_of words) told status one other (words_scene words told) n a b
