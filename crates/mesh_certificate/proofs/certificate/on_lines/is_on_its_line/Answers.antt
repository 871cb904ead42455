use Rattle.mesh_certificate.proofs.OnLine.{refused}
use Rattle.mesh_certificate.proofs.OnTheirLines.{on_its_line, start_found, end_found}
use Rattle.mesh_certificate.proofs.certificate.on_lines.is_on_its_line.Goals as goal

pub returns-then-not-is_found_on_line : goal.returns-then-not-is_found_on_line
returns-then-not-is_found_on_line c =
    let start = start_found c.args.lines.now c.args.corners.now c.args.s.now c.line_at-line.result
    c.corner_at-start.result c.corner_at-end.result c.line_at-line.ensures c.corner_at-start.ensures
    c.corner_at-end.ensures in
    refused c.is_found_on_line.result c.is_found_on_line.ensures c.if-not-is_found_on_line.true start

pub returns : goal.returns
returns c =
    let i = end_found c.args.lines.now c.args.corners.now c.args.s.now c.line_at-line.result c.corner_at-start.result
    c.corner_at-end.result c.line_at-line.ensures c.corner_at-start.ensures c.corner_at-end.ensures in (
      λ t. on_its_line c.args.lines.now c.args.corners.now c.args.s.now c.line_at-line.result c.corner_at-start.result
          c.corner_at-end.result c.line_at-line.ensures c.corner_at-start.ensures c.corner_at-end.ensures
          (c.is_found_on_line.ensures.0 c.if-not-is_found_on_line.false) (c.is_found_on_line-2.ensures.0 t),
      λ on. c.is_found_on_line-2.ensures.1 (i on),
    )
