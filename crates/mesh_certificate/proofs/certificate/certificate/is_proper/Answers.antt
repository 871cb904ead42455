use Rattle.std.proofs.Common.{◌≡◌, Option, sym, subst, ◌∙◌}
use Rattle.ember_model.specs.declared.plane.Plane.{Plane}
use Rattle.mesh_point.specs.declared.space_point.SpacePoint.{SpacePoint}
use Rattle.mesh_certificate.specs.Certificate.Certificate.{FacesFrontOf}
use Rattle.mesh_certificate.proofs.certificate.certificate.is_proper.Goals as goal

found : {p q : Option Plane} {u v w x y z : Option SpacePoint} → p ≡ q → u ≡ x → v ≡ y → w ≡ z →
    (FacesFrontOf p u v w → FacesFrontOf q x y z) × (FacesFrontOf q x y z → FacesFrontOf p u v w)
found e f g h = (
  subst (λ (A : Type 0). A) (λ i. FacesFrontOf (e i) (f i) (g i) (h i)),
  subst (λ (A : Type 0). A) (λ i. FacesFrontOf (sym e i) (sym f i) (sym g i) (sym h i)),
)

pub returns : goal.returns
returns c =
    let k = found c.plane_at-plane.ensures.value c.corner_at-u.ensures c.corner_at-v.ensures c.corner_at-w.ensures in (
      λ t. record {
        round = sym c.is_round.ensures ∙ c.if-not-is_round.false;
        front =
            k.0 (c.found_faces_front.ensures.0 t);
      },
      λ h. c.found_faces_front.ensures.1 (k.1 h.front),
    )
