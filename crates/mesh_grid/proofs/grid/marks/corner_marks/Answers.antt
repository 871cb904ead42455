use Rattle.std.proofs.Common.{◌≡◌, ◌++◌, sym, subst, length, take, drop, replicate, List, [], false, arith}
use Rattle.mesh_read.specs.declared.surface.surface.Facet.{Facet}
use Rattle.mesh_grid.specs.Grid.Marks.{indices_in, AreMarks}
use Rattle.mesh_grid.proofs.CornerMarks.{no_marks, written_back}
use Rattle.mesh_grid.proofs.grid.marks.corner_marks.Goals as goal

pub returns-clause-marks : goal.returns-clause-marks
returns-clause-marks c =
    let marks = c.in_ok-marks.marks in
    let n = length c.args.surface.now.vertices.items in
    let first : marks.items ≡ replicate c.len.result false = c.in_ok-marks.ensures.items_if_clones_equal (λ y e. e) in
    let many : c.len.result ≡ n = omega (arith, c.len.ensures, c.args.surface.now.vertices.ok.0) in
    let none : AreMarks n [] c.deref_mut.result.now = rw (c.deref_mut.ensures.value, first, many) (no_marks n) in
    let all = c.mark_all.ensures.marks.after n [] none in
    let some : AreMarks n (indices_in c.args.surface.now.facets.items) c.mark_all.new.marks =
    subst (λ (fs : List Facet). AreMarks n (indices_in fs) c.mark_all.new.marks) c.deref.ensures.value all in
    let stored : take marks.len (c.mark_all.new.marks ++ drop (length c.mark_all.new.marks) marks.items)
    ≡ c.mark_all.new.marks = written_back c.mark_all.new.marks marks.items marks.len
    (omega (arith, some.many, marks.ok.0, c.deref_mut.ensures.len, none.many)) (omega (arith, marks.ok.0)) in
    subst (AreMarks n (indices_in c.args.surface.now.facets.items)) (sym stored) some
