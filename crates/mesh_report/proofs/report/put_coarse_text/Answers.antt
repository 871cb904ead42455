use Rattle.std.proofs.Common.{codes, List, ℕ, ◌++◌, ap, ◌∙◌}
use Rattle.mesh_report.specs.Reports.{name_of_format, remedy, rounding_text}
use Rattle.mesh_number.proofs.Appended.{after6, on_ok_if}
use Rattle.mesh_report.proofs.report.put_coarse_text.Goals as goal

pub returns : goal.returns
returns c =
    let name = name_of_format c.args.format in
    let named = c.in_ok-extend_from_slice-2.ensures.items
    ∙ ap (λ (xs : List ℕ). c.extend_from_slice.new.self.items ++ xs) c.name_of_format.ensures in
    let helped = ap (λ (xs : List ℕ). c.extend_from_slice-4.new.self.items ++ xs) c.remedy.ensures in
    let all =
    after6 (codes "rounding for ") name (codes " moves corners by up to ") (rounding_text c.args.mesh.now)
    (codes ", more than a hundredth of the step; ") (remedy c.args.format) _ _ _ _ _ _
    c.in_ok-extend_from_slice.ensures.items named c.in_ok-extend_from_slice-3.ensures.items c.in_ok-put_move.ensures
    c.in_ok-extend_from_slice-4.ensures.items in
    on_ok_if _ _ c.extend_from_slice-5.result c.extend_from_slice-5.ensures.items (helped ∙ all)
