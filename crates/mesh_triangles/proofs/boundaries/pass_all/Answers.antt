use Rattle.std.proofs.Common.{List, sym, subst}
use Rattle.std.proofs.lemmas.List.{take_more}
use Rattle.mesh_triangles.specs.declared.marks.Mark.{Mark}
use Rattle.mesh_triangles.specs.Walks.{IsWalked}
use Rattle.mesh_triangles.proofs.LineSweeps.{no_mark_left}
use Rattle.mesh_triangles.proofs.boundaries.pass_all.Goals as goal

pub loop-m-preserved : goal.loop-m-preserved
loop-m-preserved c =
    λ line before h. subst (λ (ms : List Mark). IsWalked line ms before c.pass.new.self
    c.pass.new.boundaries.segments.items) (sym (take_more c.args.marks.now c.loop-m.m-index _ c.loop-m-test.true))
    (c.in_ok-pass.ensures line _ _ (c.loop-m.invariant line before h))

pub returns : goal.returns
returns c =
    λ line before h. no_mark_left line before c.args.marks.now c.loop-m.m-index c.loop-m.walk
    c.loop-m.boundaries.segments.items c.loop-m-test.false (c.loop-m.invariant line before h)
