use Rattle.std.proofs.Common.{◌≡◌, List, ℕ, length, subst, rules, arith}
use Rattle.mesh_grid.specs.Grid.Marks.{HasMarked}
use Rattle.mesh_grid.proofs.CornerMarks.{marked_both, three_corners}
use Rattle.mesh_grid.proofs.grid.marks.mark_corners.Goals as goal

pub returns-clause-marks : goal.returns-clause-marks
returns-clause-marks c =
    let three : length c.args.facet.now.corners ≡ 3 = first_of (omega arith, search rules) in
    let later = marked_both _ _ _ _ _ c.mark-2.ensures c.mark-3.ensures in
    let all = marked_both _ _ _ _ _ c.mark.ensures later in
    subst (λ (corners : List ℕ). HasMarked c.args.marks.now corners c.mark-3.new.marks) (three_corners c.args.facet.now.corners three) all
