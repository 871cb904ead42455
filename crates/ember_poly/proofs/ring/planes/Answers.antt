use Rattle.std.proofs.Common.{◌∙◌, ap}
use Rattle.ember_model.specs.declared.face.Face.{Face}
use Rattle.ember_poly.proofs.ring.planes.Goals as goal

pub returns : goal.returns
returns g c = c.deref.ensures.value ∙ ap (λ (f : Face). f.edges) c.r.view_is
