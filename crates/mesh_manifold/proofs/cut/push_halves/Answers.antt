use Rattle.std.proofs.Common.{List, OnOk, sym, subst, ◌∙◌}
use Rattle.mesh_write.specs.declared.vertices.point.DecimalTriangle.{DecimalTriangle}
use Rattle.mesh_manifold.specs.Cuts.{ArePutBehind}
use Rattle.mesh_manifold.proofs.Cuts.{cut_in_two, left_whole}
use Rattle.mesh_manifold.proofs.cut.push_halves.Goals as goal

pub returns-then-is_cut : goal.returns-then-is_cut
returns-then-is_cut c =
    let es = c.args.edges.now.edges.keys in
    let u = c.args.u.now in let v = c.args.v.now in let w = c.args.w.now in
    subst (λ (ts : List DecimalTriangle). OnOk c.push_two.result (ArePutBehind ts c.args.origin c.args.cut.now c.push_two.new.cut))
    (cut_in_two es u v w c.middle.result c.middle.ensures (sym c.is_cut.ensures ∙ c.if-is_cut.true)) c.push_two.ensures

pub returns : goal.returns
returns c =
    let es = c.args.edges.now.edges.keys in
    let u = c.args.u.now in let v = c.args.v.now in let w = c.args.w.now in
    subst (λ (ts : List DecimalTriangle). OnOk c.push_one.result (ArePutBehind ts c.args.origin c.args.cut.now c.push_one.new.cut))
    (left_whole es u v w (sym c.is_cut.ensures ∙ c.if-is_cut.false)) c.push_one.ensures
