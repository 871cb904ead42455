use Rattle.mesh_certificate.proofs.OnLine.{refused}
use Rattle.mesh_certificate.proofs.certificate.on_lines.is_corner_on_line.Goals as goal

pub returns-then-not-has_direction : goal.returns-then-not-has_direction
returns-then-not-has_direction c =
    refused c.has_direction.result c.has_direction.ensures c.if-not-has_direction.true (λ h. h.directed)

pub returns : goal.returns
returns c = (
  λ t. record {
    directed = c.has_direction.ensures.0 c.if-not-has_direction.false;
    on = c.is_on_line.ensures.0 t;
  },
  λ h. c.is_on_line.ensures.1 h.on,
)
