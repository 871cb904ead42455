use Rattle.std.proofs.Common.{ap, ◌∙◌}
use mir.Syntax.{w32}
use Rattle.ember_algebra.proofs.Exact.{input, stored, ◌&◌, done, exact}
use Rattle.mesh_solid_tests.specs.Stretched.{stretched}
use Rattle.mesh_solid_tests.proofs.triangles.broad.stretched_corner.Goals as goal

pub returns : goal.returns
returns c =
    let r = c.requires in let x = c.stretched.ensures in let y = c.stretched-2.ensures in let z = c.stretched-3.ensures in
    let ex = exact (x.small & done) (stored w32 (input 0)) tt ∙ x.value ∙ ap stretched (exact (r.x & done) (stored w32 (input 0)) tt) in
    let ey = exact (y.small & done) (stored w32 (input 0)) tt ∙ y.value ∙ ap stretched (exact (r.y & done) (stored w32 (input 0)) tt) in
    let ez = exact (z.small & done) (stored w32 (input 0)) tt ∙ z.value ∙ ap stretched (exact (r.z & done) (stored w32 (input 0)) tt) in
    λ i. record { x = ex i; y = ey i; z = ez i }
