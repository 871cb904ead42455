use Rattle.std.proofs.Common.{◌≡◌, ℕ, ℤ, List, ◌++◌, ap, ◌∙◌, append_assoc}
use Rattle.mesh_report.specs.Lying.{missed_warnings}
use Rattle.mesh_report.specs.ReportObjects.{mesh_warnings, turned_warnings}
use Rattle.mesh_report.proofs.report_objects.solid_warnings.Goals as goal

pub returns : goal.returns
returns c =
    let names = c.args.names.now in
    let out = c.args.output.now in
    let all = out.written.triangles in
    let turned = turned_warnings 1 names out.grid.step out.sixfold_volumes.items in
    let missed = missed_warnings names c.told-counts.result.now all in
    let rest = mesh_warnings c.args.format out.written in
    let first = c.in_ok-texts.ensures ∙ ap (λ (vs : List ℤ). turned_warnings 1 names out.grid.step vs) c.deref.ensures.value in
    c.in_ok-put_mesh_warnings.ensures
    ∙ ap (λ (ts : List (List ℕ)). ts ++ rest) (c.in_ok-put_missed_warnings.ensures ∙ ap (λ (ts : List (List ℕ)). ts ++ missed) first)
    ∙ append_assoc turned missed rest
    ∙ ap (λ (ns : List ℕ). turned ++ (missed_warnings names ns all ++ rest)) c.told-counts.ensures
