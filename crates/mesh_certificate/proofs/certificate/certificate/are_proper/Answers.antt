use Rattle.std.proofs.Common.{List, refl, subst}
use Rattle.std.specs.List.{All}
use Rattle.std.proofs.lemmas.List.{take_all}
use Rattle.mesh_certificate.specs.declared.certificate.triangle.Triangle.{Triangle}
use Rattle.mesh_certificate.specs.Certificate.Certificate.{IsProper}
use Rattle.mesh_certificate.proofs.Triangles.{all_more}
use Rattle.mesh_certificate.proofs.certificate.certificate.are_proper.Goals as goal

pub loop-t-preserved : goal.loop-t-preserved
loop-t-preserved c =
    all_more (IsProper c.args.planes.now c.args.corners.now) c.args.triangles.now c.loop-t.t-index c.t-item.result
    c.loop-t-test.true c.t-item.is c.loop-t.invariant (c.is_proper.ensures.0 c.if-not-is_proper.false)

pub returns : goal.returns
returns c = (
  λ t. subst (λ (ts : List Triangle). All (IsProper c.args.planes.now c.args.corners.now) ts)
      (take_all c.loop-t.t-index c.args.triangles.now c.loop-t-test.false) c.loop-t.invariant,
  λ h. refl,
)
