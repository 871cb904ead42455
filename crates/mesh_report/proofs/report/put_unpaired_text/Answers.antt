use Rattle.std.proofs.Common.{codes, List, ℕ, ◌++◌, ap, ◌∙◌}
use Rattle.mesh_report.specs.Reports.{name_of_format}
use Rattle.mesh_number.proofs.Appended.{after3, on_ok_if}
use Rattle.mesh_report.proofs.report.put_unpaired_text.Goals as goal

pub returns : goal.returns
returns c =
    let named = c.in_ok-extend_from_slice-2.ensures.items
    ∙ ap (λ (xs : List ℕ). c.extend_from_slice.new.self.items ++ xs) c.name_of_format.ensures in
    on_ok_if _ _ c.extend_from_slice-3.result c.extend_from_slice-3.ensures.items
    (after3 (codes "some edges of the ") (name_of_format c.args.format)
    (codes " don't have two triangles, so it isn't a 2-manifold; let touching parts overlap, or raise --digits") _ _ _
    c.in_ok-extend_from_slice.ensures.items named)
