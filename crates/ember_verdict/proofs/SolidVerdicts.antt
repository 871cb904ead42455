-- The verdicts of `bool` and `demo`, step by step.
use Rattle.std.proofs.Common.{◌≡◌, ℕ, Bool, true, false, not, List, length, pos, refl, sym, ap, subst, ◌∙◌}
use Rattle.std.specs.Prelude.{codes, replicate, if◌then◌else◌}
use Rattle.ember_expr.specs.Formula.{Formula}
use Rattle.ember_expr.specs.Truth.{truth}
use Rattle.ember_model.specs.declared.tri.Tri.{Tri}
use Rattle.ember_meaning.specs.Regions.Solids.{IsSolidReport}
use Rattle.ember_report.specs.declared.report.Report.{Report}
use Rattle.ember_report.specs.Reports.{report_line_of}
use Rattle.ember_verdict.specs.declared.status.Status.{Status}
use Rattle.ember_verdict.specs.declared.status.Status.TheVariants.{Done, Words, ReadFault, WriteFault, ObjRefused}
use Rattle.ember_verdict.specs.declared.status.Status.TheVariants.{MeshRefused, ExprRefused, Unbounded, Limit, NotClear}
use Rattle.ember_verdict.specs.declared.status.Status.TheVariants.{FaceRefused, OutOfMemory}
use Rattle.ember_verdict.specs.Outputs.{SolidFaces, SolidReport}
use Rattle.ember_verdict.specs.Reported.{IsErrText, IsReportOfVerdict, IsReportOfVerdictIfAsked, asks_report}
use Rattle.ember_verdict.specs.Held.{MayHold}
use Rattle.ember_verdict.specs.Lines.{text_on_err}
use Rattle.ember_words.specs.declared.command.Command.{Command}
use Rattle.std.specs.declared.option.Option.{Option}
use Rattle.ember_verdict.specs.Statuses.{IsText}
use Rattle.ember_verdict.specs.NoReplies.{IsNoReplyToExpression}
use Rattle.ember_verdict.specs.Solids.{IsReportTextIfAsked, IsReportText, IsSolidFile, line_if_asked}
use Rattle.ember_gen.specs.Scene.{scene_of}
use Rattle.ember_verdict.specs.Verdict.{Contents, Verdict, Refused, Writes, after_bounded, after_expr}
use Rattle.ember_verdict.specs.Verdict.{after_scene, after_bounded_expr, bool_verdict, demo_verdict, names_of}
use Rattle.ember_verdict.specs.Verdict.{verdict_of}
use Rattle.ember_verdict.proofs.SceneVerdicts.{ExprRead, SceneRead, after_read, scene_text}

-- ---- bounded expressions
not_true : (b : Bool) → true ≡ not b → b ≡ false
not_true true e = absurd (cc)
not_true false e = refl

not_false : (b : Bool) → false ≡ not b → b ≡ true
not_false true e = refl
not_false false e = absurd (cc)

-- an expression that is false outside all meshes is accepted
pub bounded_read : (text : List ℕ) (m : ℕ) (formula : Formula) (next : Formula → Verdict) →
    ((next : Formula → Verdict) → after_expr text m next ≡ next formula) →
    true ≡ not (truth (replicate 64 (pos 0)) formula) → after_bounded_expr text m next ≡ next formula
bounded_read text m formula next given e =
    given (λ formula. after_bounded formula (next formula))
    ∙ ap (λ (b : Bool). if b then Refused Unbounded else next formula)
    (not_true (truth (replicate 64 (pos 0)) formula) e)

-- one that is true there is refused
pub unbounded_is_no_reply : (text : List ℕ) (m : ℕ) (formula : Formula) (next : Formula → Verdict) →
    ((next : Formula → Verdict) → after_expr text m next ≡ next formula) →
    false ≡ not (truth (replicate 64 (pos 0)) formula) → IsNoReplyToExpression (after_bounded_expr text m next) Unbounded
unbounded_is_no_reply text m formula next given e = record {
  refused = λ r. given (λ formula. after_bounded formula (next formula))
      ∙ ap (λ (b : Bool). if b then Refused Unbounded else next formula)
      (not_false (truth (replicate 64 (pos 0)) formula) e);
  of_expression = tt;
}

-- ---- texts
pub report_line_is : (tris : List Tri) (formula : Formula) (report : Report) (lines : List ℕ) (reported : Bool) →
    IsSolidReport tris formula report → lines ≡ line_if_asked reported report →
    IsReportTextIfAsked reported tris formula lines
report_line_is tris formula report lines true solid e = record { kept = solid.kept; report = report; solid = solid.solid; text = e }
report_line_is tris formula report lines false solid e = e

-- the line of a solid's report
pub is_report_text : (tris : List Tri) (formula : Formula) (report : Report) (bytes : List ℕ) →
    IsSolidReport tris formula report → bytes ≡ report_line_of report → IsReportText tris formula bytes
is_report_text tris formula report bytes solid text = record { kept = solid.kept; report = report; solid = solid.solid; text = text }

-- ---- the generated scene
pub report_written : (boxes : ℕ) (formula : Formula) (tris : List Tri) (bytes : List ℕ) →
    ((next : Formula → Verdict) → after_expr (codes "m1|m2") 2 next ≡ next formula) → tris ≡ scene_of boxes →
    IsReportText tris formula bytes → IsText (demo_verdict boxes) bytes
report_written boxes formula tris bytes given e is =
    subst (λ (v : Verdict). IsText v bytes)
    (sym (given (λ formula. Writes (SolidReport (scene_of boxes) formula))))
    (subst (λ (tris : List Tri). IsReportText tris formula bytes) e is)

-- a refusal of the union is one of `demo`
pub report_refused : (boxes : ℕ) (status : Status) →
    ((next : Formula → Verdict) → IsNoReplyToExpression (after_expr (codes "m1|m2") 2 next) status) →
    IsNoReplyToExpression (demo_verdict boxes) status
report_refused boxes status no_reply = no_reply (λ formula. Writes (SolidReport (scene_of boxes) formula))

-- ---- the document
pub solid_written : (expr : List ℕ) (places m : ℕ) (contents : Contents) (formula : Formula) (tris : List Tri)
    (bytes : List ℕ) → length contents ≡ m → ExprRead (after_bounded_expr expr) m formula →
    SceneRead places contents tris → IsSolidFile tris formula bytes →
    IsText (bool_verdict expr places contents) bytes
solid_written expr places m contents formula tris bytes count given scene is =
    scene_text (after_bounded_expr expr) places m contents count formula tris bytes (λ formula tris. Writes (SolidFaces tris formula)) given scene is

-- the report of the scene is the one that `bool` asks for
pub solid_reported : (reported : Bool) (expr : List ℕ) (places m : ℕ) (contents : Contents) (formula : Formula)
    (tris : List Tri) (line : List ℕ) → length contents ≡ m → ExprRead (after_bounded_expr expr) m formula →
    SceneRead places contents tris → IsReportTextIfAsked reported tris formula line →
    IsReportOfVerdictIfAsked reported (bool_verdict expr places contents) line
solid_reported true expr places m contents formula tris line count given scene is =
    subst (λ (v : Verdict). IsReportOfVerdict v line)
    (sym (after_read (after_bounded_expr expr) places m contents count formula
    (λ formula. after_scene places contents (λ tris. Writes (SolidFaces tris formula))) given))
    (subst (λ (v : Verdict). IsReportOfVerdict v line) (sym (scene (λ tris. Writes (SolidFaces tris formula)))) is)
solid_reported false expr places m contents formula tris line count given scene is = is

-- ---- what err takes

-- the text on standard error of a call with this status
pub err_text : (command : Option Command) (told : List ℕ → Option (List ℕ)) (status : Status) (lines : List ℕ) →
    (status ≡ Done → MayHold told (names_of command)
    (λ contents. IsReportOfVerdictIfAsked (asks_report command) (verdict_of command contents) lines)) →
    IsErrText command told status (text_on_err (names_of command) status lines)
err_text command told Done lines h = h refl
err_text command told Words lines h = refl
err_text command told (ReadFault i) lines h = refl
err_text command told WriteFault lines h = refl
err_text command told (ObjRefused i fault) lines h = refl
err_text command told (MeshRefused i fault) lines h = refl
err_text command told (ExprRefused fault) lines h = refl
err_text command told Unbounded lines h = refl
err_text command told (Limit kind count) lines h = refl
err_text command told NotClear lines h = refl
err_text command told (FaceRefused fault) lines h = refl
err_text command told OutOfMemory lines h = refl
