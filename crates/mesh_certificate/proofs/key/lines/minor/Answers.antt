use mir.Syntax.{w128}
use Rattle.ember_algebra.proofs.Exact.{Code, stored, wide, ◌⊠◌, ◌⊟◌, ◌&◌, done, exact, bounded, no_overflow}
use Rattle.ember_width.specs.Broad.{most_cross}
use Rattle.mesh_certificate.proofs.key.lines.minor.Goals as goal

abbrev code : Code
code = stored w128 (wide 0 ⊠ wide 3) ⊟ stored w128 (wide 1 ⊠ wide 2)

pub overflow_sub-result : goal.overflow_sub-result
overflow_sub-result c = no_overflow (c.requires.a & c.requires.b & c.requires.c & c.requires.d & done) w128 code tt

pub returns : goal.returns
returns c =
    let i = c.requires.a & c.requires.b & c.requires.c & c.requires.d & done in
    record { value = exact i (stored w128 code) tt; small = bounded i most_cross (stored w128 code) tt }
