use Rattle.mesh_certificate.proofs.Triangles.{edges_pushed}
use Rattle.mesh_certificate.proofs.certificate.certificate.edges_of.Goals as goal

pub loop-t-preserved : goal.loop-t-preserved
loop-t-preserved c =
    edges_pushed c.args.triangles.now c.loop-t.t-index c.t-item.result c.loop-t-test.true c.t-item.is c.loop-t.invariant c.in_ok-push_edges.ensures
