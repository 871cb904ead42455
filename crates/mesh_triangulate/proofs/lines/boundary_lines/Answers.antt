use Rattle.std.proofs.Common.{nat_eq, List, subst}
use Rattle.std.specs.HashMap.{get}
use Rattle.std.proofs.lemmas.List.{take_all}
use Rattle.mesh_certificate.specs.declared.certificate.segment.Segment.{Segment}
use Rattle.mesh_triangulate.specs.Lines.{AreLinesOf}
use Rattle.mesh_triangulate.proofs.Tables.{next_has_line}
use Rattle.mesh_triangulate.proofs.lines.boundary_lines.Goals as goal

pub loop-s-preserved : goal.loop-s-preserved
loop-s-preserved c =
    next_has_line c.args.boundary.now c.loop-s.s-index c.s-item.result c.edge_key.result
    (λ key. get nat_eq c.loop-s.lines key) _ c.loop-s-test.true c.s-item.is c.edge_key.ensures
    c.in_ok-insert.ensures.updates.0 c.loop-s.invariant

pub returns : goal.returns
returns c =
    subst (λ (ss : List Segment). AreLinesOf ss (λ key. get nat_eq c.loop-s.lines key))
    (take_all c.loop-s.s-index c.args.boundary.now c.loop-s-test.false) c.loop-s.invariant
