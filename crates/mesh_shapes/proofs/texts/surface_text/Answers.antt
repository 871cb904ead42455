use Rattle.std.proofs.Common.{◌≡◌, true, arith}
use Rattle.mesh_place.specs.Images.{transformed_content}
use Rattle.mesh_shapes.specs.Texts.{is_readable}
use Rattle.mesh_shapes.proofs.SurfaceTexts.{surface_has_text}
use Rattle.mesh_shapes.proofs.texts.surface_text.Goals as goal

pub returns : goal.returns
returns c =
    let s = c.args.surface.now in
    let readable : is_readable (transformed_content s) ≡ true = cc c.is_readable.ensures in
    surface_has_text s c.in_ok-text.text.items readable (omega (arith, s.points.ok.0)) (omega (arith, s.facets.ok.0))
    c.in_ok-text.ensures.places c.in_ok-text.ensures.text
