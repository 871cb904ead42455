use Rattle.std.proofs.Common.{List, OnOk, sym, subst, ◌∙◌}
use Rattle.mesh_write.specs.declared.vertices.point.DecimalTriangle.{DecimalTriangle}
use Rattle.mesh_manifold.specs.Cuts.{ArePutBehind}
use Rattle.mesh_manifold.proofs.Cuts.{both_cut, second_cut, none_cut}
use Rattle.mesh_manifold.proofs.cut.push_pieces.Goals as goal

pub returns-then-is_cut : goal.returns-then-is_cut
returns-then-is_cut c =
    subst (λ (ts : List DecimalTriangle). OnOk c.push_both.result (ArePutBehind ts c.args.origin c.args.cut.now c.push_both.new.cut))
    (both_cut c.args.edges.now.edges.keys c.args.t.now c.middle.result c.middle.ensures
    (sym c.is_cut.ensures ∙ c.if-is_cut.true)) c.push_both.ensures

pub returns-then-is_cut-2 : goal.returns-then-is_cut-2
returns-then-is_cut-2 c =
    subst (λ (ts : List DecimalTriangle). OnOk c.push_second.result (ArePutBehind ts c.args.origin c.args.cut.now c.push_second.new.cut))
    (second_cut c.args.edges.now.edges.keys c.args.t.now c.middle-then-is_cut-2.result c.middle-then-is_cut-2.ensures
    (sym c.is_cut.ensures ∙ c.if-is_cut.false) (sym c.is_cut-2.ensures ∙ c.if-is_cut-2.true)) c.push_second.ensures

pub returns : goal.returns
returns c =
    subst (λ (ts : List DecimalTriangle). OnOk c.push_halves.result (ArePutBehind ts c.args.origin c.args.cut.now c.push_halves.new.cut))
    (none_cut c.args.edges.now.edges.keys c.args.t.now (sym c.is_cut.ensures ∙ c.if-is_cut.false)
    (sym c.is_cut-2.ensures ∙ c.if-is_cut-2.false)) c.push_halves.ensures
