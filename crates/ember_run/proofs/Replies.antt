-- The replies to commands.
use Rattle.std.proofs.Common.{◌≡◌, ℕ, Bool, false, List, [], length, sym, subst}
use Rattle.std.specs.declared.option.Option.{Option}
use Rattle.ember_expr.specs.Formula.{Formula}
use Rattle.ember_model.specs.declared.tri.Tri.{Tri}
use Rattle.ember_verdict.specs.Held.{MayHold}
use Rattle.ember_verdict.specs.Solids.{IsReportTextIfAsked, IsSolidFile}
use Rattle.ember_verdict.specs.Statuses.{IsText}
use Rattle.ember_verdict.specs.Verdict.{Contents, Verdict, after_bounded_expr, bool_verdict}
use Rattle.ember_verdict.proofs.HeldContents.{held_always, held_then}
use Rattle.ember_verdict.proofs.SceneVerdicts.{ExprRead, SceneRead}
use Rattle.ember_verdict.proofs.SolidVerdicts.{solid_reported, solid_written}
use Rattle.ember_run.specs.Serves.{IsReply}
use Rattle.ember_run.specs.declared.reply.Reply.{Reply}

-- the document of a scene and its report are the reply over contents that were read as it
pub solid_replied : (reported : Bool) (expr : List ℕ) (places m : ℕ) (contents : Contents) (formula : Formula)
    (tris : List Tri) (reply : Reply) → length contents ≡ m → ExprRead (after_bounded_expr expr) m formula →
    SceneRead places contents tris → IsSolidFile tris formula reply.text.items →
    IsReportTextIfAsked reported tris formula reply.report.items →
    IsReply reported (bool_verdict expr places contents) reply
solid_replied reported expr places m contents formula tris reply count given scene file report = record {
  text = solid_written expr places m contents formula tris reply.text.items count given scene file;
  report = solid_reported reported expr places m contents formula tris reply.report.items count given scene report;
}

-- a text without a report
text_is_reply : (verdict : Verdict) (text : List ℕ) (reply : Reply) → reply.text.items ≡ text →
    reply.report.items ≡ [] → IsText verdict text → IsReply false verdict reply
text_is_reply verdict text reply e none is =
    record { text = subst (λ (bytes : List ℕ). IsText verdict bytes) (sym e) is; report = none }

-- is the reply to a command that asks for no report
pub text_replied : (told : List ℕ → Option (List ℕ)) (names : List (List ℕ)) (verdict : Contents → Verdict)
    (text : List ℕ) (reply : Reply) → reply.text.items ≡ text → reply.report.items ≡ [] →
    MayHold told names (λ contents. IsText (verdict contents) text) →
    MayHold told names (λ contents. IsReply false (verdict contents) reply)
text_replied told names verdict text reply e none held =
    held_then told names (λ contents. IsText (verdict contents) text) (λ contents. IsReply false (verdict contents) reply)
    (λ contents l is. text_is_reply (verdict contents) text reply e none is) held

-- and to one that reads no file
pub text_alone_replied : (told : List ℕ → Option (List ℕ)) (verdict : Verdict) (text : List ℕ) (reply : Reply) →
    reply.text.items ≡ text → reply.report.items ≡ [] → IsText verdict text →
    MayHold told [] (λ contents. IsReply false verdict reply)
text_alone_replied told verdict text reply e none is =
    held_always told [] (λ contents. IsReply false verdict reply) (λ contents l. text_is_reply verdict text reply e none is)
