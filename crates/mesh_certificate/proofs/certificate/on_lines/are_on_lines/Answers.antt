use Rattle.std.proofs.Common.{List, refl, subst}
use Rattle.std.specs.List.{All}
use Rattle.std.proofs.lemmas.List.{take_all}
use Rattle.mesh_certificate.specs.declared.certificate.segment.Segment.{Segment}
use Rattle.mesh_certificate.specs.Certificate.OnLines.{IsOnItsLine}
use Rattle.mesh_certificate.proofs.Triangles.{all_more}
use Rattle.mesh_certificate.proofs.certificate.on_lines.are_on_lines.Goals as goal

pub loop-s-preserved : goal.loop-s-preserved
loop-s-preserved c =
    all_more (IsOnItsLine c.args.lines.now c.args.corners.now) c.args.segments.now c.loop-s.s-index c.s-item.result
    c.loop-s-test.true c.s-item.is c.loop-s.invariant (c.is_on_its_line.ensures.0 c.if-not-is_on_its_line.false)

pub returns : goal.returns
returns c = (
  λ t. subst (λ (ss : List Segment). All (IsOnItsLine c.args.lines.now c.args.corners.now) ss)
      (take_all c.loop-s.s-index c.args.segments.now c.loop-s-test.false) c.loop-s.invariant,
  λ h. refl,
)
