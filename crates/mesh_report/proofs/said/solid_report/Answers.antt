use Rattle.std.proofs.Common.{◌≡◌, ◌&&◌, ℕ, List, Bool, true, not, if◌then◌else◌, Vec, Global, ap, sym, ◌∙◌}
use Rattle.std.proofs.lemmas.Result.{IfOk-weaker}
use Rattle.mesh_report.specs.ReportObjects.{solid_object}
use Rattle.mesh_report.specs.Reports.{report_of}
use Rattle.mesh_report.specs.Said.{solid_report}
use Rattle.mesh_report.proofs.said.solid_report.Goals as goal

pub returns-then-not-request : goal.returns-then-not-request
returns-then-not-request c =
    let request = c.args.request.now in
    let out = c.args.output.now in
    let made = solid_object request.files request.format out in
    let wanted : (c.args.json && not request.quiet) ≡ true = λ k. c.if-json.true k && not (c.if-not-request.true k) in
    let chosen : made ≡ solid_report c.args.json request out = ap (λ (b : Bool). if b then made else report_of request out) (sym wanted) in
    IfOk-weaker c.solid_object.result _ (λ (text : Vec ℕ Global). text.items ≡ solid_report c.args.json request out)
    (λ text is. is ∙ ap (λ (names : List (List ℕ)). solid_object names request.format out) c.items.ensures ∙ chosen)
    c.solid_object.ensures
