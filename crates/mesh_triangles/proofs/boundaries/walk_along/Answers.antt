use Rattle.std.proofs.Common.{List, sym, subst}
use Rattle.mesh_triangles.specs.declared.marks.Mark.{Mark}
use Rattle.mesh_triangles.specs.Marks.{AreMarks}
use Rattle.mesh_triangles.proofs.LineSweeps.{on_both, ended_line}
use Rattle.mesh_triangles.proofs.boundaries.walk_along.Goals as goal

pub returns : goal.returns
returns c =
    let ms = c.deref.result.now in let ss = c.args.segments.now in let before = c.args.boundaries.now.segments.items in
    let a = subst (λ (ns : List Mark). AreMarks c.args.line ss ns) (sym c.deref.ensures.value) c.in_ok-put_marks.ensures in
    let h = c.in_ok-pass_all.ensures c.args.line before (c.begin.ensures before) in
    on_both c.settle.result (c.settle.ensures.walked c.args.line ms before h) c.settle.ensures.settled
    (λ w z. ended_line c.args.line ss ms before _ _ a c.requires z w)
