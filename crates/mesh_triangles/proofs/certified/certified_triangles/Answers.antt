use Rattle.std.proofs.Common.{List, subst}
use Rattle.mesh_certificate.specs.declared.certificate.segment.Segment.{Segment}
use Rattle.mesh_certificate.specs.declared.certificate.triangle.Triangle.{Triangle}
use Rattle.mesh_certificate.specs.Certificate.Chains.{HaveSameChains}
use Rattle.mesh_certificate.specs.Certificate.Closed.{AreSegmentsClosed}
use Rattle.mesh_certificate.specs.Certificate.Certificate.{edges_in, ArePartsCertified, IsCertified}
use Rattle.mesh_triangles.proofs.Lines.{chains_of_all}
use Rattle.mesh_triangles.proofs.certified.certified_triangles.Goals as goal

pub returns : goal.returns
returns g c =
    let ps = c.args.planes.now in let ls = c.args.lines.now in let cs = c.args.corners.now in
    let found = c.in_ok-found.field-0.segments.items in let bs = c.in_order_of_planes-boundary.result.items in let ts = c.in_ok-triangles.triangles.items in
    let yes = c.in_ok-query_certificate.ensures c.if-not-branch.false in
    let k = subst (λ (us : List Triangle). ArePartsCertified ps ls cs bs us) c.deref-5.ensures.value
    (subst (λ (ss : List Segment). ArePartsCertified ps ls cs ss c.deref-5.result.now) c.deref-4.ensures.value yes) in
    let closed = subst (λ (us : List Triangle). AreSegmentsClosed (edges_in us)) c.deref-6.ensures.value
    (c.in_ok-are_triangles_closed.ensures.0 c.if-not-branch-2.false) in
    let h = subst (λ (ss : List Segment). HaveSameChains ss found) c.deref.ensures.value c.in_ok-found.ensures in
    record {
      proper = k.proper;
      chains = chains_of_all c.args.segments.now c.in_ok-by_line.by_line.items found bs (edges_in ts)
          c.in_ok-by_line.ensures h c.in_order_of_planes-boundary.ensures k.chains;
      closed = closed;
      on_lines = k.on_lines;
      free_paired = k.free_paired;
    }
